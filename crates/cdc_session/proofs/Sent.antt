-- How what is gathered and sent adds up.
use Rattle.std.proofs.Common.{◌≡◌, ℕ, ◌+◌, ◌/◌, ◌%◌, ◌<◌, arith, ◌≢◌, inl, inr, add-zero, length-append, List, [], ◌∷◌, ◌++◌, length, refl, sym, ◌∙◌, ap, subst, append_assoc, append-nil}
use Rattle.std.specs.Prelude.{Result, Ok, Err, OnOk, OnErr, if◌then◌else◌}
use Rattle.std.proofs.lemmas.Bool.Decides.{eqb_tells}
use Rattle.cdc_outside.specs.Sink.{WritesTo}
use Rattle.cdc_packet.specs.Packet.{full_packet, packet_head, packet_bytes, sequence_behind}
use Rattle.cdc_packet.proofs.Sending.{last_packet}
use Rattle.cdc_session.specs.declared.dump_stop.DumpStop.{DumpStop}
use Rattle.cdc_session.specs.declared.dump_stop.DumpStop.TheVariants.{Memory}
use Rattle.cdc_session.specs.Packing.{GoesOut, Breaks, Gathers, Packed, Packs, SendsRest}
use Rattle.cdc_session.specs.Ends.{end_payloads}
use Rattle.cdc_session.specs.Reply.{packets_from, sequence_after, no_more_payload}

-- all is held back
pub all_held : (before was bytes all : List ℕ) → all ≡ was ++ bytes → GoesOut before was bytes before all
all_held before was bytes all e = record { front = []; sent = sym (append-nil before); whole = sym e }

-- all was sent
pub all_sent : (before was bytes all now held : List ℕ) → all ≡ was ++ bytes → now ≡ before ++ all → held ≡ [] → GoesOut before was bytes now held
all_sent before was bytes all now held a e none =
    record { front = was ++ bytes; sent = e ∙ ap (λ l. before ++ l) a; whole = sym (append-nil (was ++ bytes)) ∙ ap (λ l. (was ++ bytes) ++ l) (sym none) }

-- nothing was sent
pub none_sent : (before was bytes : List ℕ) → Breaks before was bytes before
none_sent before was bytes = record { front = []; rest = was ++ bytes; sent = sym (append-nil before); whole = refl }

-- a write failed
pub write_broke : (before was bytes all now : List ℕ) → all ≡ was ++ bytes → WritesTo before all now → Breaks before was bytes now
write_broke before was bytes all now a w = record { front = w.0; rest = w.1; sent = w.3; whole = sym a ∙ w.2 }

-- the bytes, in other words
pub goes_as : {before was bytes now held : List ℕ} (other : List ℕ) → bytes ≡ other → GoesOut before was bytes now held → GoesOut before was other now held
goes_as {before} {was} {bytes} {now} {held} other e g = record { front = g.front; sent = g.sent; whole = ap (λ l. was ++ l) (sym e) ∙ g.whole }

pub breaks_as : {before was bytes now : List ℕ} (other : List ℕ) → bytes ≡ other → Breaks before was bytes now → Breaks before was other now
breaks_as {before} {was} {bytes} {now} other e g = record { front = g.front; rest = g.rest; sent = g.sent; whole = ap (λ l. was ++ l) (sym e) ∙ g.whole }

pub gathers_as : {X : Type 0} (r : Result X DumpStop) (before was bytes now held other : List ℕ) → bytes ≡ other → Gathers before was bytes now held r → Gathers before was other now held r
gathers_as r before was bytes now held other e h = subst (λ b. Gathers before was b now held r) e h

-- more bytes behind those that went out
pub out_then : {before was first mid held more now kept : List ℕ} → GoesOut before was first mid held → GoesOut mid held more now kept
    → GoesOut before was (first ++ more) now kept
out_then {before} {was} {first} {mid} {held} {more} {now} {kept} a b = record {
  front = a.front ++ b.front;
  sent = b.sent ∙ ap (λ l. l ++ b.front) a.sent ∙ append_assoc before a.front b.front;
  whole = sym (append_assoc was first more) ∙ ap (λ l. l ++ more) a.whole ∙ append_assoc a.front held more ∙ ap (λ l. a.front ++ l) b.whole ∙ sym (append_assoc a.front b.front kept);
}

pub breaks_then : {before was first mid held more now : List ℕ} → GoesOut before was first mid held → Breaks mid held more now
    → Breaks before was (first ++ more) now
breaks_then {before} {was} {first} {mid} {held} {more} {now} a w = record {
  front = a.front ++ w.front;
  rest = w.rest;
  sent = w.sent ∙ ap (λ l. l ++ w.front) a.sent ∙ append_assoc before a.front w.front;
  whole = sym (append_assoc was first more) ∙ ap (λ l. l ++ more) a.whole ∙ append_assoc a.front held more ∙ ap (λ l. a.front ++ l) w.whole ∙ sym (append_assoc a.front w.front w.rest);
}

pub breaks_first : {before was first now : List ℕ} (more : List ℕ) → Breaks before was first now → Breaks before was (first ++ more) now
breaks_first {before} {was} {first} {now} more w = record {
  front = w.front;
  rest = w.rest ++ more;
  sent = w.sent;
  whole = sym (append_assoc was first more) ∙ ap (λ l. l ++ more) w.whole ∙ append_assoc w.front w.rest more;
}

-- what was sent and is held back is no more than a front
pub breaks_out : {before was bytes now held : List ℕ} → GoesOut before was bytes now held → Breaks before was bytes now
breaks_out {before} {was} {bytes} {now} {held} g = record { front = g.front; rest = held; sent = g.sent; whole = g.whole }

pub gathers_then : {X : Type 0} (r : Result X DumpStop) {before was first mid held : List ℕ} (more now kept : List ℕ) → GoesOut before was first mid held → Gathers mid held more now kept r
    → Gathers before was (first ++ more) now kept r
gathers_then (Ok done) {before} {was} {first} {mid} {held} more now kept a b = out_then a b
gathers_then (Err stop) {before} {was} {first} {mid} {held} more now kept a w = breaks_then a w

-- ---- packets

pub packets_append : (sequence : ℕ) (first more : List (List ℕ)) → packets_from sequence (first ++ more) ≡ packets_from sequence first ++ packets_from (sequence_after sequence first) more
unfolding packets_from sequence_after
packets_append sequence [] more = refl
packets_append sequence (payload ∷ first) more =
    ap (λ l. packet_bytes sequence payload ++ l) (packets_append (sequence_behind sequence (length payload)) first more)
    ∙ sym (append_assoc (packet_bytes sequence payload) _ _)

pub sequence_append : (sequence : ℕ) (first more : List (List ℕ)) → sequence_after sequence (first ++ more) ≡ sequence_after (sequence_after sequence first) more
unfolding sequence_after
sequence_append sequence [] more = refl
sequence_append sequence (payload ∷ first) more = sequence_append (sequence_behind sequence (length payload)) first more

-- no payload
pub none_packed : (before was : List ℕ) (sequence : ℕ) → Packed before was sequence [] before was sequence
unfolding packets_from sequence_after
none_packed before was sequence = record { out = all_held before was [] was (sym (append-nil was)); next_is = refl }

-- one payload
pub one_packed : {before was now held : List ℕ} {next sequence : ℕ} (payload bytes : List ℕ) → GoesOut before was bytes now held → packet_bytes sequence payload ≡ bytes → next ≡ sequence_behind sequence (length payload)
    → Packed before was sequence (payload ∷ []) now held next
unfolding packets_from sequence_after
one_packed {before} {was} {now} {held} {next} {sequence} payload bytes g same e = record {
  out = goes_as (packet_bytes sequence payload ++ []) (sym same ∙ sym (append-nil (packet_bytes sequence payload))) g;
  next_is = e;
}

pub one_broken : {before was now : List ℕ} (sequence : ℕ) (payload bytes : List ℕ) → Breaks before was bytes now → packet_bytes sequence payload ≡ bytes → Breaks before was (packets_from sequence (payload ∷ [])) now
unfolding packets_from
one_broken {before} {was} {now} sequence payload bytes w same = breaks_as (packet_bytes sequence payload ++ []) (sym same ∙ sym (append-nil (packet_bytes sequence payload))) w

pub packs_then : {X : Type 0} (r : Result X DumpStop) {before was mid held : List ℕ} {sequence number : ℕ} {first : List (List ℕ)} (now kept : List ℕ) (next : ℕ) (more : List (List ℕ))
    → Packed before was sequence first mid held number → Packs mid held number more now kept next r → Packs before was sequence (first ++ more) now kept next r
packs_then (Ok done) {before} {was} {mid} {held} {sequence} {number} {first} now kept next more a b =
    let second : GoesOut mid held (packets_from (sequence_after sequence first) more) now kept = subst (λ n. GoesOut mid held (packets_from n more) now kept) a.next_is b.out in
    record {
      out = goes_as (packets_from sequence (first ++ more)) (sym (packets_append sequence first more)) (out_then a.out second);
      next_is = b.next_is ∙ ap (λ n. sequence_after n more) a.next_is ∙ sym (sequence_append sequence first more);
    }
packs_then (Err stop) {before} {was} {mid} {held} {sequence} {number} {first} now kept next more a w =
    let second : Breaks mid held (packets_from (sequence_after sequence first) more) now = subst (λ n. Breaks mid held (packets_from n more) now) a.next_is w in
    breaks_as (packets_from sequence (first ++ more)) (sym (packets_append sequence first more)) (breaks_then a.out second)

pub packs_first : {before was now : List ℕ} (sequence : ℕ) (first more : List (List ℕ)) → Breaks before was (packets_from sequence first) now
    → Breaks before was (packets_from sequence (first ++ more)) now
packs_first {before} {was} {now} sequence first more w =
    breaks_as (packets_from sequence (first ++ more)) (sym (packets_append sequence first more)) (breaks_first (packets_from (sequence_after sequence first) more) w)

-- the payloads, in other words
pub packs_as : {X : Type 0} (r : Result X DumpStop) (before was now kept : List ℕ) (sequence next : ℕ) (payloads other : List (List ℕ)) → payloads ≡ other
    → Packs before was sequence payloads now kept next r → Packs before was sequence other now kept next r
packs_as r before was now kept sequence next payloads other e h = subst (λ p. Packs before was sequence p now kept next r) e h

-- ---- one packet

-- a payload that fits into one packet: the packet's head, and the payload
pub small_packet : (sequence : ℕ) (first rest head : List ℕ) → length first + length rest < full_packet → head ≡ packet_head (length first + length rest) sequence
    → packet_bytes sequence (first ++ rest) ≡ head ++ (first ++ rest)
small_packet sequence first rest head few head_is =
    let all = length-append first rest in
    last_packet sequence (first ++ rest) (omega (arith, all, few))
    ∙ ap (λ n. packet_head n sequence ++ (first ++ rest)) all ∙ ap (λ l. l ++ (first ++ rest)) (sym head_is)

-- the number behind it
pub small_number : (sequence : ℕ) (first rest : List ℕ) → length first + length rest < full_packet → (sequence + 1) % 256 ≡ sequence_behind sequence (length (first ++ rest))
small_number sequence first rest few =
    let all = length-append first rest in
    let none : length (first ++ rest) / full_packet ≡ 0 = omega (arith, all, few) in
    ap (λ n. n % 256) (sym (add-zero (sequence + 1))) ∙ ap (λ n. (sequence + 1 + n) % 256) (sym none)

-- ---- payloads one after another

-- of a list of payloads those before the rest are packed
pub record Streaming (before was : List ℕ) (sequence : ℕ) (whole : List (List ℕ)) (now held : List ℕ) (number : ℕ) (rest : List (List ℕ)) : Type 0 where
  pub done : List (List ℕ)
  pub packed : Packed before was sequence done now held number
  pub all : whole ≡ done ++ rest

pub streaming_starts : (before was : List ℕ) (sequence : ℕ) (whole : List (List ℕ)) → Streaming before was sequence whole before was sequence whole
streaming_starts before was sequence whole = record { done = []; packed = none_packed before was sequence; all = refl }

pub streaming_more : {before was now held : List ℕ} {sequence number : ℕ} {whole rest part : List (List ℕ)} (after kept : List ℕ) (next : ℕ) (later : List (List ℕ))
    → Streaming before was sequence whole now held number rest → rest ≡ part ++ later → Packed now held number part after kept next
    → Streaming before was sequence whole after kept next later
streaming_more {before} {was} {now} {held} {sequence} {number} {whole} {rest} {part} after kept next later s e p =
    let all : Packed before was sequence (s.done ++ part) after kept next = packs_then {X = Unit {0}} (Ok tt) after kept next part s.packed p in
    record {
      done = s.done ++ part;
      packed = all;
      all = s.all ∙ ap (λ l. s.done ++ l) e ∙ sym (append_assoc s.done part later);
    }

pub streaming_done : {before was now held : List ℕ} {sequence number : ℕ} {whole rest : List (List ℕ)} → Streaming before was sequence whole now held number rest → rest ≡ []
    → Packed before was sequence whole now held number
streaming_done {before} {was} {now} {held} {sequence} {number} {whole} {rest} s none =
    let same : s.done ≡ whole = sym (s.all ∙ ap (λ l. s.done ++ l) none ∙ append-nil s.done) in
    subst (λ p. Packed before was sequence p now held number) same s.packed

pub streaming_breaks : {before was now held after : List ℕ} {sequence number : ℕ} {whole rest : List (List ℕ)} → Streaming before was sequence whole now held number rest
    → Breaks now held (packets_from number rest) after → Breaks before was (packets_from sequence whole) after
streaming_breaks {before} {was} {now} {held} {after} {sequence} {number} {whole} {rest} s w =
    let all : Breaks before was (packets_from sequence (s.done ++ rest)) after = packs_then {X = Unit {0}} (Err Memory) after [] number rest s.packed w in
    subst (λ p. Breaks before was (packets_from sequence p) after) (sym s.all) all

-- the first of the rest broke off
pub breaks_part : {now held after : List ℕ} (number : ℕ) (rest part later : List (List ℕ)) → rest ≡ part ++ later → Breaks now held (packets_from number part) after
    → Breaks now held (packets_from number rest) after
breaks_part {now} {held} {after} number rest part later e w =
    subst (λ p. Breaks now held (packets_from number p) after) (sym e) (packs_first number part later w)

-- ---- one payload, sent at once

pub one_sent : (sequence : ℕ) (payload before now : List ℕ) → now ≡ before ++ packet_bytes sequence (payload ++ []) → now ≡ before ++ packets_from sequence (payload ∷ [])
unfolding packets_from
one_sent sequence payload before now e = e ∙ ap (λ l. before ++ l) (ap (packet_bytes sequence) (append-nil payload) ∙ sym (append-nil (packet_bytes sequence payload)))

pub one_wrote : (sequence : ℕ) (payload before now : List ℕ) → WritesTo before (packet_bytes sequence (payload ++ [])) now → WritesTo before (packets_from sequence (payload ∷ [])) now
unfolding packets_from
one_wrote sequence payload before now w =
    (w.0, w.1, sym (ap (packet_bytes sequence) (append-nil payload) ∙ sym (append-nil (packet_bytes sequence payload))) ∙ w.2, w.3)

-- a dump that is to wait for more has no payload at its end
pub no_end : (flags : ℕ) → flags % 2 ≢ 1 → end_payloads flags ≡ []
no_end flags odd = elim (eqb_tells (flags % 2) 1) [
  | inl same ↦ absurd (odd same.1)
  | inr other ↦ ap (λ b. if b then no_more_payload ∷ [] else []) other.0
]

-- what was held back is sent
pub flushed : (r : Result (Unit {0}) DumpStop) {before was bytes mid held : List ℕ} (now : List ℕ) → GoesOut before was bytes mid held
    → OnOk r (now ≡ mid ++ held) → OnErr r (WritesTo mid held now) → SendsRest before was bytes now r
flushed (Ok done) {before} {was} {bytes} {mid} {held} now g e w =
    e ∙ ap (λ l. l ++ held) g.sent ∙ append_assoc before g.front held ∙ ap (λ l. before ++ l) (sym g.whole)
flushed (Err stop) {before} {was} {bytes} {mid} {held} now g e w = record {
  front = g.front ++ w.0;
  rest = w.1;
  sent = w.3 ∙ ap (λ l. l ++ w.0) g.sent ∙ append_assoc before g.front w.0;
  whole = g.whole ∙ ap (λ l. g.front ++ l) w.2 ∙ sym (append_assoc g.front w.0 w.1);
}
