-- What is left of a list when its front is dropped.
use Rattle.std.proofs.Common.{◌≡◌, ℕ, ◌+◌, ◌-◌, ◌≤◌, List, length, take, drop, ap, sym, ◌∙◌, arith, length-drop}
use lib.Seq.{paste}
use Rattle.std.proofs.lemmas.List.Edits.{take-paste}
use Rattle.std.proofs.Math.Seq.{take-length}

-- the rest, moved to the front
pub closed : {A : Type 0} → (from : ℕ) (all : List A) → from ≤ length all → take (length all - from) (paste all 0 (drop from all) (length all - from)) ≡ drop from all
closed from all h =
    let size : length (drop from all) ≡ length all - from = length-drop from all in
    let same : length all - from ≡ 0 + (length all - from) = omega arith in
    ap (λ k. take k (paste all 0 (drop from all) (length all - from))) same
    ∙ take-paste all 0 (drop from all) (length all - from) (omega arith) (omega (arith, size))
    ∙ ap (λ k. take k (drop from all)) (sym size)
    ∙ take-length (drop from all)
