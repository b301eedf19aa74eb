-- Bytes that are read piece by piece.
use Rattle.std.proofs.Common.{◌≡◌, ℕ, ◌+◌, ◌≤◌, List, ◌++◌, length, take, drop, sym, ◌∙◌, ap, arith, length-take, take-add}
use Rattle.std.proofs.lemmas.List.{take_at, drop_at, drop-drop, take-append-le}

-- one piece more
pub read_on : (filled read at : ℕ) (into piece rest file : List ℕ) → filled ≤ length into → read ≤ length piece → take filled into ≡ take filled (drop at file)
    → take read piece ≡ take read (drop (at + filled) file) → take (filled + read) (take filled into ++ (piece ++ rest)) ≡ take (filled + read) (drop at file)
read_on filled read at into piece rest file within fits before now =
    let size : length (take filled into) ≡ filled = omega (arith, length-take filled into) in
    let new = take filled into ++ (piece ++ rest) in
    take-add filled read new
    ∙ ap (λ (l : List ℕ). l ++ take read (drop filled new)) (take_at (take filled into) (piece ++ rest) filled size)
    ∙ ap (λ (l : List ℕ). take filled into ++ take read l) (drop_at (take filled into) (piece ++ rest) filled size)
    ∙ ap (λ (l : List ℕ). take filled into ++ l) (take-append-le read piece rest fits ∙ now)
    ∙ ap (λ (l : List ℕ). l ++ take read (drop (at + filled) file)) before
    ∙ ap (λ (l : List ℕ). take filled (drop at file) ++ take read l) (sym (drop-drop filled at file))
    ∙ sym (take-add filled read (drop at file))
