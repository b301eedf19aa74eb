-- How bytes are taken in piece by piece.
use Rattle.std.proofs.Common.{◌≡◌, ℕ, ◌+◌, ◌-◌, ◌<◌, ◌≤◌, ◌⊎◌, List, [], ◌++◌, length, take, drop, refl, sym, ◌∙◌, ap, subst, inl, inr, arith, append_assoc, append-nil, length-append, length-drop}
use Rattle.std.proofs.Math.Seq.{take-add, take-append-add}
use Rattle.std.proofs.lemmas.List.{length-take-le, take-append-drop, take-append-le, take-take, drop-drop, take_all}
use Rattle.std.specs.Prelude.{Err}
use borrow.Rule.Slice.PartMut.{put_mid}
use Rattle.cdc_outside.specs.Link.{Receives}
use Rattle.cdc_outside.specs.Sink.{WritesTo}
use Rattle.cdc_packet.specs.Request.{EndsWith}
use Rattle.cdc_packet.specs.Pieces.{Fills, TakesFront, TakesPiece, TakesPayload}
use Rattle.cdc_packet.specs.declared.packet_end.PacketEnd.{PacketEnd}
use Rattle.cdc_packet.specs.declared.packet_end.PacketEnd.TheVariants.{Closed, Torn, TooLong, LinkFault, Memory}

-- so many bytes came, and fill the front of a piece
pub record FilledTo (bytes piece : List ℕ) (filled : ℕ) (rest : List ℕ) : Type 0 where
  pub front : take filled piece ≡ take filled bytes
  pub there : filled ≤ length bytes
  pub left : rest ≡ drop filled bytes

-- some bytes more, behind those that came before
pub filled_more : {bytes piece later_piece slice rest later : List ℕ} (filled read : ℕ) → filled ≤ length piece → FilledTo bytes piece filled rest → read ≤ length slice → Receives rest slice read later
    → take (filled + read) later_piece ≡ take filled piece ++ take read slice → FilledTo bytes later_piece (filled + read) later
filled_more {bytes} {piece} {later_piece} {slice} {rest} {later} filled read within f room r front =
    let came : take read slice ≡ take read (drop filled bytes) = r.bytes ∙ ap (λ l. take read l) f.left in
    let less = length-drop filled bytes in
    let there : read ≤ length (drop filled bytes) = subst (λ l. read ≤ length l) f.left r.there in
    record {
      front = front ∙ (λ i. f.front i ++ came i) ∙ sym (take-add filled read bytes);
      there = omega (arith, there, less, f.there);
      left = r.rest ∙ ap (λ l. drop read l) f.left ∙ drop-drop read filled bytes;
    }

-- the piece is full, or no byte is to come
pub filled_all : {bytes piece rest : List ℕ} (filled : ℕ) → filled ≤ length piece → (length piece ≤ filled) ⊎ (rest ≡ []) → FilledTo bytes piece filled rest → Fills bytes piece filled rest
filled_all {bytes} {piece} {rest} filled within over f =
    let less = length-drop filled bytes in
    record {
      front = f.front;
      all = elim over [
        | inl full ↦ omega (arith, full, within, f.there)
        | inr none ↦ (let zero : length (drop filled bytes) ≡ 0 = ap (λ l. length l) (sym f.left ∙ none) in omega (arith, zero, less, within, f.there))
      ];
      rest_is = f.left;
    }

-- so much of a payload went behind what a buffer had
pub record TakenTo (bytes before : List ℕ) (taken : ℕ) (now rest : List ℕ) : Type 0 where
  pub there : taken ≤ length bytes
  pub grown : now ≡ before ++ take taken bytes
  pub left : rest ≡ drop taken bytes

pub taken_more : {bytes before now rest later after : List ℕ} (taken read : ℕ) → TakenTo bytes before taken now rest → TakesFront rest now later after read → TakenTo bytes before (taken + read) later after
taken_more {bytes} {before} {now} {rest} {later} {after} taken read t f =
    let less = length-drop taken bytes in
    let there : read ≤ length (drop taken bytes) = subst (λ l. read ≤ length l) t.left f.there in
    record {
      there = omega (arith, there, less, t.there);
      grown = f.grown ∙ (λ i. t.grown i ++ take read (t.left i)) ∙ append_assoc before (take taken bytes) (take read (drop taken bytes)) ∙ ap (λ l. before ++ l) (sym (take-add taken read bytes));
      left = f.left ∙ ap (λ l. drop read l) t.left ∙ drop-drop read taken bytes;
    }

-- all of it was taken
pub taken_all : {bytes before now rest : List ℕ} (size taken : ℕ) → taken ≤ size → size ≤ taken → TakenTo bytes before taken now rest → (size ≤ length bytes) × (now ≡ before ++ take size bytes) × (rest ≡ drop size bytes)
taken_all {bytes} {before} {now} {rest} size taken below above t =
    let same : taken ≡ size = omega (arith, below, above) in
    (omega (arith, t.there, above), t.grown ∙ ap (λ n. before ++ take n bytes) same, t.left ∙ ap (λ n. drop n bytes) same)

-- the bytes end inside it
pub taken_short : {bytes before now rest later after : List ℕ} (size taken : ℕ) → taken < size → TakenTo bytes before taken now rest → TakesFront rest now later after 0 → (length bytes < size) × (later ≡ before ++ bytes) × (after ≡ [])
taken_short {bytes} {before} {now} {rest} {later} {after} size taken below t f =
    let none : rest ≡ [] = f.none refl in
    let less = length-drop taken bytes in
    let zero : length (drop taken bytes) ≡ 0 = ap (λ l. length l) (sym t.left ∙ none) in
    let all : length bytes ≤ taken = omega (arith, zero, less, t.there) in (
      omega (arith, all, below),
      f.grown ∙ append-nil now ∙ t.grown ∙ ap (λ l. before ++ l) (take_all taken bytes all),
      f.left ∙ none,
    )

front_of : (bytes before now rest later : List ℕ) (size taken : ℕ) → taken ≤ size → TakenTo bytes before taken now rest → later ≡ now → WritesTo before (take size bytes) later
front_of bytes before now rest later size taken below t same = (
  take taken bytes,
  drop taken (take size bytes),
  sym (take-append-drop taken (take size bytes)) ∙ ap (λ l. l ++ drop taken (take size bytes)) (take-take taken size bytes below),
  same ∙ t.grown,
)

ends_of : (bytes before now rest after : List ℕ) (taken : ℕ) → TakenTo bytes before taken now rest → EndsWith rest after → EndsWith bytes after
ends_of bytes before now rest after taken t p = (
  take taken bytes ++ p.0,
  sym (take-append-drop taken bytes) ∙ ap (λ l. take taken bytes ++ l) (sym t.left ∙ p.1) ∙ sym (append_assoc (take taken bytes) p.0 after),
)

-- a piece could not be taken: what came before is a front of the payload
pub taken_failed : (X : Type 0) (bytes before now rest later after : List ℕ) (size taken : ℕ) (end : PacketEnd) → taken ≤ size → TakenTo bytes before taken now rest → TakesPiece rest now later after (Err end) → later ≡ now
    → TakesPayload {X = X} size bytes before later after (Err end)
taken_failed X bytes before now rest later after size taken Closed below t p same = absurd p
taken_failed X bytes before now rest later after size taken Torn below t p same = absurd p
taken_failed X bytes before now rest later after size taken TooLong below t p same = absurd p
taken_failed X bytes before now rest later after size taken LinkFault below t p same = (front_of bytes before now rest later size taken below t same, ends_of bytes before now rest after taken t p)
taken_failed X bytes before now rest later after size taken Memory below t p same = (front_of bytes before now rest later size taken below t same, ends_of bytes before now rest after taken t p)

-- what a piece holds whose back part was read into
pub back_written : (piece into : List ℕ) (filled k read : ℕ) → filled ≤ length piece → k ≡ length piece - filled → length into ≡ k → read ≤ k
    → (length (put_mid filled k piece into) ≡ length piece) × (take (filled + read) (put_mid filled k piece into) ≡ take filled piece ++ take read into)
back_written piece into filled k read within k_is size few =
    let behind : List ℕ = drop k (drop filled piece) in
    let front = length-take-le filled piece within in
    let outer = length-append (take filled piece) (into ++ behind) in
    let inner = length-append into behind in
    let less = length-drop filled piece in
    let none = length-drop k (drop filled piece) in (
      omega (arith, front, outer, inner, less, none, size, k_is, within),
      ap (λ n. take (n + read) (take filled piece ++ (into ++ behind))) (sym front) ∙ take-append-add (take filled piece) (into ++ behind) read
          ∙ ap (λ l. take filled piece ++ l) (take-append-le read into behind (omega (arith, few, size))),
    )
