-- How the packets of a payload are sent one after another.
use Rattle.std.proofs.Common.{◌≡◌, ℕ, ◌+◌, ◌-◌, ◌/◌, ◌%◌, ◌<◌, ◌≤◌, ◌⊎◌, suc, List, [], ◌++◌, length, take, drop, min, refl, sym, ◌∙◌, ap, subst, inl, inr, arith, append_assoc, append-nil, length-append, length-drop}
use Rattle.std.specs.Prelude.{Result, Ok, Err, OnErr}
use Rattle.std.proofs.Math.Seq.{take-length, drop-length, take-append-add, drop-append-add}
use Rattle.std.proofs.lemmas.List.{length-take, take_all, take_min, drop_min, take-append-le, drop-append-le}
use Rattle.cdc_outside.specs.Sink.{WritesTo}
use Rattle.cdc_packet.specs.Packet.{full_packet, packet_head, packets_of, packet_bytes, sequence_behind}

-- ---- what was written

-- what holds holds where there is an error
pub on_err : {A E : Type 0} (r : Result A E) (P : Type 0) → P → OnErr r P
on_err (Ok done) P p = tt
on_err (Err error) P p = p

-- a front of the first bytes is a front of all
pub writes_first : (before now first more : List ℕ) → WritesTo before first now → WritesTo before (first ++ more) now
writes_first before now first more w = (w.0, w.1 ++ more, ap (λ l. l ++ more) w.2 ∙ append_assoc w.0 w.1 more, w.3)

-- behind the first bytes, a front of the others
pub writes_after : (before mid now first more : List ℕ) → mid ≡ before ++ first → WritesTo mid more now → WritesTo before (first ++ more) now
writes_after before mid now first more e w =
    (first ++ w.0, w.1, ap (λ l. first ++ l) w.2 ∙ sym (append_assoc first w.0 w.1), w.3 ∙ ap (λ l. l ++ w.0) e ∙ append_assoc before first w.0)

-- ---- a payload in two parts

le_or : (a b : ℕ) → (a ≤ b) ⊎ (b < a)
le_or a b = grind arith

pub parts_front : (n : ℕ) (xs ys : List ℕ) → take (min n (length xs)) xs ++ take (min (n - min n (length xs)) (length ys)) ys ≡ take n (xs ++ ys)
parts_front n xs ys = elim (le_or (length xs) n) [
  | inl short ↦
      let whole : min n (length xs) ≡ length xs = omega (arith, short) in
      let more : n ≡ length xs + (n - length xs) = omega (arith, short) in
      let front : take (min n (length xs)) xs ≡ xs = ap (λ k. take k xs) whole ∙ take-length xs in
      let back : take (min (n - min n (length xs)) (length ys)) ys ≡ take (n - length xs) ys = ap (λ k. take (min (n - k) (length ys)) ys) whole ∙ take_min (n - length xs) ys in
      (λ i. front i ++ back i) ∙ sym (ap (λ k. take k (xs ++ ys)) more ∙ take-append-add xs ys (n - length xs))
  | inr long ↦
      let whole : min n (length xs) ≡ n = omega (arith, long) in
      let none : min (n - min n (length xs)) (length ys) ≡ 0 = omega (arith, long) in
      let front : take (min n (length xs)) xs ≡ take n xs = ap (λ k. take k xs) whole in
      let back : take (min (n - min n (length xs)) (length ys)) ys ≡ [] = ap (λ k. take k ys) none in
      (λ i. front i ++ back i) ∙ append-nil (take n xs) ∙ sym (take-append-le n xs ys (omega (arith, long)))
]

pub parts_back : (n : ℕ) (xs ys : List ℕ) → drop (min n (length xs)) xs ++ drop (min (n - min n (length xs)) (length ys)) ys ≡ drop n (xs ++ ys)
parts_back n xs ys = elim (le_or (length xs) n) [
  | inl short ↦
      let whole : min n (length xs) ≡ length xs = omega (arith, short) in
      let more : n ≡ length xs + (n - length xs) = omega (arith, short) in
      let front : drop (min n (length xs)) xs ≡ [] = ap (λ k. drop k xs) whole ∙ drop-length xs in
      let back : drop (min (n - min n (length xs)) (length ys)) ys ≡ drop (n - length xs) ys = ap (λ k. drop (min (n - k) (length ys)) ys) whole ∙ drop_min (n - length xs) ys in
      (λ i. front i ++ back i) ∙ sym (ap (λ k. drop k (xs ++ ys)) more ∙ drop-append-add xs ys (n - length xs))
  | inr long ↦
      let whole : min n (length xs) ≡ n = omega (arith, long) in
      let none : min (n - min n (length xs)) (length ys) ≡ 0 = omega (arith, long) in
      let front : drop (min n (length xs)) xs ≡ drop n xs = ap (λ k. drop k xs) whole in
      let back : drop (min (n - min n (length xs)) (length ys)) ys ≡ ys = ap (λ k. drop k ys) none in
      (λ i. front i ++ back i) ∙ sym (drop-append-le n xs ys (omega (arith, long)))
]

-- the first bytes of two parts, and what is left of them
pub record Parts (n : ℕ) (payload now later : List ℕ) (size sum : ℕ) : Type 0 where
  pub part : now ≡ take n payload
  pub left : later ≡ drop n payload
  pub size_is : size ≡ min n (length payload)
  pub sum_is : sum ≡ min n (length payload)

pub parts_of : (n from_front from_back : ℕ) (front back x y u v : List ℕ) → from_front ≡ min n (length front) → from_back ≡ min (n - from_front) (length back)
    → x ≡ take from_front front → y ≡ take from_back back → u ≡ drop from_front front → v ≡ drop from_back back
    → Parts n (front ++ back) (x ++ y) (u ++ v) (length x + length y) (from_front + from_back)
parts_of n from_front from_back front back x y u v front_is back_is x_is y_is u_is v_is =
    let back_at : from_back ≡ min (n - min n (length front)) (length back) = back_is ∙ ap (λ k. min (n - k) (length back)) front_is in
    let all = length-append front back in
    let x_size : length x ≡ min from_front (length front) = ap (λ l. length l) x_is ∙ length-take from_front front in
    let y_size : length y ≡ min from_back (length back) = ap (λ l. length l) y_is ∙ length-take from_back back in
    record {
      part = (λ i. (x_is ∙ ap (λ k. take k front) front_is) i ++ (y_is ∙ ap (λ k. take k back) back_at) i) ∙ parts_front n front back;
      left = (λ i. (u_is ∙ ap (λ k. drop k front) front_is) i ++ (v_is ∙ ap (λ k. drop k back) back_at) i) ∙ parts_back n front back;
      size_is = omega (arith, all, x_size, y_size, front_is, back_is);
      sum_is = omega (arith, all, front_is, back_is);
    }

-- ---- the packets of a payload

-- a payload shorter than a packet is sent in one
pub last_packet : (sequence : ℕ) (payload : List ℕ) → length payload < full_packet → packet_bytes sequence payload ≡ packet_head (length payload) sequence ++ payload
unfolding packet_bytes packets_of
last_packet sequence payload short =
    let none : length payload / full_packet ≡ 0 = omega (arith, short) in
    ap (λ full. packets_of full sequence payload) none

-- any other begins with a full one
pub full_first : (sequence : ℕ) (payload : List ℕ) → full_packet ≤ length payload
    → packet_bytes sequence payload ≡ (packet_head full_packet sequence ++ take full_packet payload) ++ packet_bytes ((sequence + 1) % 256) (drop full_packet payload)
unfolding packet_bytes packets_of
full_first sequence payload long =
    let less = length-drop full_packet payload in
    let more : length payload / full_packet ≡ suc (length (drop full_packet payload) / full_packet) = omega (arith, long, less) in
    ap (λ full. packets_of full sequence payload) more

-- so many packets of a payload were sent: the rest of it makes the rest of its packets
pub record Sending (before : List ℕ) (first : ℕ) (whole now : List ℕ) (sequence : ℕ) (payload : List ℕ) : Type 0 where
  pub sent : List ℕ
  pub written : now ≡ before ++ sent
  pub rest : packet_bytes first whole ≡ sent ++ packet_bytes sequence payload

pub sending_starts : (before : List ℕ) (sequence : ℕ) (payload : List ℕ) → Sending before sequence payload before sequence payload
sending_starts before sequence payload = record { sent = []; written = sym (append-nil before); rest = refl }

pub sending_more : {before whole now payload later : List ℕ} {first sequence : ℕ} (part left : List ℕ) (size : ℕ) → Sending before first whole now sequence payload
    → full_packet ≤ length payload → part ≡ take full_packet payload → size ≡ full_packet → left ≡ drop full_packet payload
    → later ≡ now ++ (packet_head size sequence ++ part) → Sending before first whole later ((sequence + 1) % 256) left
sending_more {before} {whole} {now} {payload} {later} {first} {sequence} part left size s long part_is size_is left_is written =
    let packet : List ℕ = packet_head full_packet sequence ++ take full_packet payload in
    let same : packet_head size sequence ++ part ≡ packet = λ i. packet_head (size_is i) sequence ++ part_is i in
    record {
      sent = s.sent ++ packet;
      written = written ∙ (λ i. s.written i ++ same i) ∙ append_assoc before s.sent packet;
      rest = s.rest ∙ ap (λ l. s.sent ++ l) (full_first sequence payload long) ∙ sym (append_assoc s.sent packet (packet_bytes ((sequence + 1) % 256) (drop full_packet payload)))
          ∙ ap (λ l. (s.sent ++ packet) ++ packet_bytes ((sequence + 1) % 256) l) (sym left_is);
    }

pub sending_done : {before whole now payload later : List ℕ} {first sequence : ℕ} (part : List ℕ) (size : ℕ) → Sending before first whole now sequence payload
    → length payload < full_packet → part ≡ payload → size ≡ length payload
    → later ≡ now ++ (packet_head size sequence ++ part) → later ≡ before ++ packet_bytes first whole
sending_done {before} {whole} {now} {payload} {later} {first} {sequence} part size s short part_is size_is written =
    let same : packet_head size sequence ++ part ≡ packet_head (length payload) sequence ++ payload = λ i. packet_head (size_is i) sequence ++ part_is i in
    let last : packet_bytes sequence payload ≡ packet_head (length payload) sequence ++ payload = last_packet sequence payload short in
    written ∙ (λ i. s.written i ++ (same ∙ sym last) i) ∙ append_assoc before s.sent (packet_bytes sequence payload) ∙ ap (λ l. before ++ l) (sym s.rest)

-- the packet that is sent next begins what is left
pub next_begins : (sequence : ℕ) (payload part : List ℕ) (size : ℕ) → part ≡ take full_packet payload → size ≡ min full_packet (length payload)
    → (more : List ℕ) × (packet_bytes sequence payload ≡ (packet_head size sequence ++ part) ++ more)
next_begins sequence payload part size part_is size_is = elim (le_or full_packet (length payload)) [
  | inl long ↦
      let full : size ≡ full_packet = omega (arith, long, size_is) in (
        packet_bytes ((sequence + 1) % 256) (drop full_packet payload),
        full_first sequence payload long ∙ (λ i. (packet_head (sym full i) sequence ++ sym part_is i) ++ packet_bytes ((sequence + 1) % 256) (drop full_packet payload)),
      )
  | inr short ↦
      let all : size ≡ length payload = omega (arith, short, size_is) in
      let whole : part ≡ payload = part_is ∙ take_all full_packet payload (omega (arith, short)) in
      ([], last_packet sequence payload short ∙ (λ i. packet_head (sym all i) sequence ++ sym whole i) ∙ sym (append-nil _))
]

pub sending_failed : {before whole now payload later : List ℕ} {first sequence : ℕ} (part : List ℕ) (size : ℕ) → Sending before first whole now sequence payload
    → part ≡ take full_packet payload → size ≡ min full_packet (length payload) → WritesTo now (packet_head size sequence ++ part) later
    → WritesTo before (packet_bytes first whole) later
sending_failed {before} {whole} {now} {payload} {later} {first} {sequence} part size s part_is size_is w =
    let begins = next_begins sequence payload part size part_is size_is in
    let packets : packet_bytes first whole ≡ s.sent ++ ((packet_head size sequence ++ part) ++ begins.0) = s.rest ∙ ap (λ l. s.sent ++ l) begins.1 in
    subst (λ l. WritesTo before l later) (sym packets) (writes_after before now later s.sent _ s.written (writes_first now later (packet_head size sequence ++ part) begins.0 w))

-- the number behind all packets is that behind the rest
pub number_more : (sequence size : ℕ) → full_packet ≤ size → sequence_behind sequence size ≡ sequence_behind ((sequence + 1) % 256) (size - full_packet)
number_more sequence size long =
    let more : size / full_packet ≡ (size - full_packet) / full_packet + 1 = omega (arith, long) in
    omega (arith, more)

pub number_last : (sequence size : ℕ) → size < full_packet → sequence_behind sequence size ≡ (sequence + 1) % 256
number_last sequence size short =
    let none : size / full_packet ≡ 0 = omega (arith, short) in
    ap (λ full. (sequence + 1 + full) % 256) none ∙ omega arith
