-- Reading a file piece by piece.
use Rattle.std.proofs.Common.{◌≡◌, ℕ, ◌+◌, ◌≤◌, List, ◌++◌, length, take, sym, ◌∙◌, ap, subst}
use Rattle.std.proofs.Math.Seq.{take-add}
use Rattle.std.proofs.lemmas.List.{take-append-le}
use Rattle.cdc_outside.specs.Source.{ReadsFile, file_of}

-- the front of a file and the piece behind it are a longer front
pub next_piece : {file before now piece : List ℕ} {at read : ℕ} (rest : List ℕ) → read ≤ length piece → ReadsFile file at piece read → before ≡ take at file
    → now ≡ before ++ take read (piece ++ rest) → now ≡ take (at + read) file
next_piece {file} {before} {now} {piece} {at} {read} rest within reads start pushed =
    pushed ∙ ap (λ xs. xs ++ take read (piece ++ rest)) start
    ∙ ap (λ xs. take at file ++ xs) (take-append-le read piece rest within ∙ reads.bytes)
    ∙ sym (take-add at read file)

-- the same, said of the files held when the reading began
pub next_front : {old new : List (List ℕ)} (file at read : ℕ) {before now : List ℕ} → new ≡ old
    → (before ≡ take at (file_of new file) → now ≡ take (at + read) (file_of new file))
    → before ≡ take at (file_of old file) → now ≡ take (at + read) (file_of old file)
next_front file at read {before} {now} e step =
    let P : List (List ℕ) → Type 0 = λ held. before ≡ take at (file_of held file) → now ≡ take (at + read) (file_of held file) in
    subst P e step
