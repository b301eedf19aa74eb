-- Parts of a file, copied piece by piece and packet by packet.
use Rattle.std.proofs.Common.{◌≡◌, ℕ, ◌+◌, ◌-◌, ◌%◌, ◌≤◌, ◌<◌, List, [], ◌++◌, length, take, drop, min, ◌⊎◌, inl, inr, refl, sym, ◌∙◌, ap, subst, arith, append_assoc, append-nil, length-append}
use Rattle.std.proofs.Math.Seq.{take-append-add, drop-append-add, take-add}
use Rattle.std.proofs.lemmas.List.{drop-drop, drop-take, take-take, length-take-le}
use Rattle.cdc_packet.specs.Packet.{full_packet, packet_head, packet_bytes}
use Rattle.cdc_packet.proofs.Sending.{last_packet, full_first}
use Rattle.cdc_session.specs.Packing.{GoesOut, Breaks}
use Rattle.cdc_session.proofs.Sent.{goes_as, breaks_as, out_then, breaks_then, breaks_first}

-- two pieces one behind another
pub pieces : (at done size : ℕ) (file : List ℕ) → take done (drop at file) ++ take size (drop (at + done) file) ≡ take (done + size) (drop at file)
pieces at done size file =
    ap (λ l. take done (drop at file) ++ take size l) (sym (drop-drop done at file))
    ∙ sym (take-add done size (drop at file))

-- the first bytes of a part broke off
pub piece_fails : {before was bytes now : List ℕ} (file : List ℕ) (count more : ℕ) → Breaks before was bytes now → bytes ≡ take count file → count ≤ more → Breaks before was (take more file) now
piece_fails {before} {was} {bytes} {now} file count more w e few =
    let all : count + (more - count) ≡ more = omega (arith, few) in
    breaks_as (take more file) (ap (λ l. l ++ take (more - count) (drop count file)) e ∙ sym (take-add count (more - count) file) ∙ ap (λ n. take n file) all)
    (breaks_first (take (more - count) (drop count file)) w)

pub piece_more : {before was mid held now kept : List ℕ} (file : List ℕ) (at done size : ℕ) → GoesOut before was (take done (drop at file)) mid held → GoesOut mid held (take size (drop (at + done) file)) now kept
    → GoesOut before was (take (done + size) (drop at file)) now kept
piece_more {before} {was} {mid} {held} {now} {kept} file at done size a b = goes_as (take (done + size) (drop at file)) (pieces at done size file) (out_then a b)

pub piece_broke : {before was mid held now : List ℕ} (file : List ℕ) (at done count : ℕ) → done ≤ count → GoesOut before was (take done (drop at file)) mid held → Breaks mid held (take (count - done) (drop (at + done) file)) now
    → Breaks before was (take count (drop at file)) now
piece_broke {before} {was} {mid} {held} {now} file at done count h a w =
    let all : done + (count - done) ≡ count = omega (arith, h) in
    breaks_as (take count (drop at file)) (pieces at done (count - done) file ∙ ap (λ n. take n (drop at file)) all) (breaks_then a w)

-- ---- packets

-- so many bytes of a payload are packed: the rest of it makes the rest of its packets
pub record Splitting (before was : List ℕ) (first : ℕ) (whole now held : List ℕ) (sequence : ℕ) (payload : List ℕ) : Type 0 where
  pub gone : List ℕ
  pub out : GoesOut before was gone now held
  pub rest : packet_bytes first whole ≡ gone ++ packet_bytes sequence payload

pub splitting_starts : (before was : List ℕ) (sequence : ℕ) (payload : List ℕ) → Splitting before was sequence payload before was sequence payload
splitting_starts before was sequence payload = record {
  gone = [];
  out = record { front = []; sent = sym (append-nil before); whole = append-nil was };
  rest = refl;
}

-- what is left of a payload behind a full packet
pub record Full (payload part later : List ℕ) : Type 0 where
  pub front : take full_packet payload ≡ part
  pub behind : drop full_packet payload ≡ later

pub full_part : (lead bytes : List ℕ) (count size : ℕ) → length lead + count ≡ full_packet → count ≤ size → size ≤ length bytes
    → Full (lead ++ take size bytes) (lead ++ take count bytes) (take (size - count) (drop count bytes))
full_part lead bytes count size full within there =
    let cut : take count (take size bytes) ≡ take count bytes = take-take count size bytes within in
    let more : size ≡ count + (size - count) = omega (arith, within) in
    record {
      front = ap (λ n. take n (lead ++ take size bytes)) (sym full) ∙ take-append-add lead (take size bytes) count ∙ ap (λ l. lead ++ l) cut;
      behind = ap (λ n. drop n (lead ++ take size bytes)) (sym full) ∙ drop-append-add lead (take size bytes) count
          ∙ ap (λ n. drop count (take n bytes)) more ∙ drop-take count (size - count) bytes;
    }

pub splitting_more : {before was now held : List ℕ} {first sequence : ℕ} {whole : List ℕ} (after kept lead bytes later : List ℕ) (count size : ℕ)
    → Splitting before was first whole now held sequence (lead ++ take size bytes)
    → GoesOut now held ((packet_head (length lead + count) sequence ++ lead) ++ take count bytes) after kept
    → length lead + count ≡ full_packet → count ≤ size → size ≤ length bytes → later ≡ take (size - count) (drop count bytes)
    → Splitting before was first whole after kept ((sequence + 1) % 256) later
splitting_more {before} {was} {now} {held} {first} {sequence} {whole} after kept lead bytes later count size s g full within there later_is =
    let payload : List ℕ = lead ++ take size bytes in
    let f = full_part lead bytes count size full within there in
    let all = length-append lead (take size bytes) in
    let sized = length-take-le size bytes there in
    let packet : List ℕ = (packet_head (length lead + count) sequence ++ lead) ++ take count bytes in
    let same : packet_head full_packet sequence ++ take full_packet payload ≡ packet =
    (λ i. packet_head (sym full i) sequence ++ f.front i) ∙ sym (append_assoc (packet_head (length lead + count) sequence) lead (take count bytes)) in
    let next : packet_bytes sequence payload ≡ packet ++ packet_bytes ((sequence + 1) % 256) later =
    full_first sequence payload (omega (arith, all, sized, full, within)) ∙ (λ i. same i ++ packet_bytes ((sequence + 1) % 256) ((f.behind ∙ sym later_is) i)) in
    record {
      gone = s.gone ++ packet;
      out = out_then s.out g;
      rest = s.rest ∙ ap (λ l. s.gone ++ l) next ∙ sym (append_assoc s.gone packet (packet_bytes ((sequence + 1) % 256) later));
    }

pub splitting_done : {before was now held : List ℕ} {first sequence : ℕ} {whole : List ℕ} (after kept lead bytes : List ℕ) (count size : ℕ)
    → Splitting before was first whole now held sequence (lead ++ take size bytes)
    → GoesOut now held ((packet_head (length lead + count) sequence ++ lead) ++ take count bytes) after kept
    → length lead + count < full_packet → count ≡ size → size ≤ length bytes
    → GoesOut before was (packet_bytes first whole) after kept
splitting_done {before} {was} {now} {held} {first} {sequence} {whole} after kept lead bytes count size s g short all_is there =
    let payload : List ℕ = lead ++ take size bytes in
    let all = length-append lead (take size bytes) in
    let sized = length-take-le size bytes there in
    let long : length payload ≡ length lead + count = omega (arith, all, sized, all_is) in
    let last : packet_bytes sequence payload ≡ (packet_head (length lead + count) sequence ++ lead) ++ take count bytes =
    last_packet sequence payload (omega (arith, long, short))
    ∙ (λ i. packet_head (long i) sequence ++ (lead ++ take (sym all_is i) bytes))
    ∙ sym (append_assoc (packet_head (length lead + count) sequence) lead (take count bytes)) in
    goes_as (packet_bytes first whole) (sym (s.rest ∙ ap (λ l. s.gone ++ l) last)) (out_then s.out g)

-- the packet that is gathered next begins what is left
pub splitting_breaks : {before was now held : List ℕ} {first sequence : ℕ} {whole : List ℕ} (after lead bytes : List ℕ) (count size : ℕ)
    → Splitting before was first whole now held sequence (lead ++ take size bytes)
    → Breaks now held ((packet_head (length lead + count) sequence ++ lead) ++ take count bytes) after
    → length lead ≤ 20 → count ≡ min (full_packet - length lead) size → size ≤ length bytes
    → Breaks before was (packet_bytes first whole) after
splitting_breaks {before} {was} {now} {held} {first} {sequence} {whole} after lead bytes count size s w few count_is there = elim (by (full_packet - length lead) size) [
  | inl less ↦
      let full : length lead + count ≡ full_packet = omega (arith, few, count_is, less) in
      let f = full_part lead bytes count size full (omega (arith, count_is)) there in
      let all = length-append lead (take size bytes) in
      let sized = length-take-le size bytes there in
      let payload : List ℕ = lead ++ take size bytes in
      let packet : List ℕ = (packet_head (length lead + count) sequence ++ lead) ++ take count bytes in
      let same : packet_head full_packet sequence ++ take full_packet payload ≡ packet =
      (λ i. packet_head (sym full i) sequence ++ f.front i) ∙ sym (append_assoc (packet_head (length lead + count) sequence) lead (take count bytes)) in
      let next : packet_bytes sequence payload ≡ packet ++ packet_bytes ((sequence + 1) % 256) (drop full_packet payload) =
      full_first sequence payload (omega (arith, all, sized, full, count_is)) ∙ (λ i. same i ++ packet_bytes ((sequence + 1) % 256) (drop full_packet payload)) in
      breaks_as (packet_bytes first whole) (sym (s.rest ∙ ap (λ l. s.gone ++ l) next))
      (breaks_then s.out (breaks_first (packet_bytes ((sequence + 1) % 256) (drop full_packet payload)) w))
  | inr more ↦
      let all_is : count ≡ size = omega (arith, count_is, more) in
      let payload : List ℕ = lead ++ take size bytes in
      let all = length-append lead (take size bytes) in
      let sized = length-take-le size bytes there in
      let long : length payload ≡ length lead + count = omega (arith, all, sized, all_is) in
      let last : packet_bytes sequence payload ≡ (packet_head (length lead + count) sequence ++ lead) ++ take count bytes =
      last_packet sequence payload (omega (arith, long, more, all_is, few))
      ∙ (λ i. packet_head (long i) sequence ++ (lead ++ take (sym all_is i) bytes))
      ∙ sym (append_assoc (packet_head (length lead + count) sequence) lead (take count bytes)) in
      breaks_as (packet_bytes first whole) (sym (s.rest ∙ ap (λ l. s.gone ++ l) last)) (breaks_then s.out w)
]
  where
    by : (a b : ℕ) → (a ≤ b) ⊎ (b < a)
    by a b = grind arith

pub splitting_init : (before was : List ℕ) (sequence : ℕ) (first file : List ℕ) (at size left place : ℕ) → left ≡ size → place ≡ at
    → Splitting before was sequence (first ++ take size (drop at file)) before was sequence (first ++ take left (drop place file))
splitting_init before was sequence first file at size left place left_is place_is =
    subst (λ p. Splitting before was sequence (first ++ take size (drop at file)) before was sequence p) (λ i. first ++ take (sym left_is i) (drop (sym place_is i) file))
    (splitting_starts before was sequence (first ++ take size (drop at file)))

-- what is left behind one part more
pub later_is : (file : List ℕ) (at done count size : ℕ) → take (size - (done + count)) (drop (at + (done + count)) file) ≡ take (size - done - count) (drop count (drop (at + done) file))
later_is file at done count size =
    let less : size - (done + count) ≡ size - done - count = omega arith in
    let place : at + (done + count) ≡ at + done + count = omega arith in
    (λ i. take (less i) (drop (place i) file)) ∙ ap (λ l. take (size - done - count) l) (sym (drop-drop count (at + done) file))
