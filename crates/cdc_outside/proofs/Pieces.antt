-- Two pieces written behind each other.
use Rattle.std.proofs.Common.{◌≡◌, ℕ, ◌+◌, ◌≤◌, List, ◌++◌, length, take, drop, refl, sym, ◌∙◌, ap, arith, append_assoc, length-append, length-take}
use Rattle.std.proofs.lemmas.List.{take_at, drop_at, drop-drop}
use Rattle.cdc_outside.specs.declared.disk_file.DiskFile.{DiskFile}
use Rattle.cdc_outside.specs.Disk.{Image, same_file, with_file, overwritten}
use Rattle.cdc_outside.proofs.Pending.{with_file_same}
use Rattle.std.proofs.Common.{if◌then◌else◌, Bool, true, false, Result, Ok, Err, OnOk}

-- in one file
pub written_behind : (at : ℕ) (first second old : List ℕ) → at ≤ length old
    → overwritten (at + length first) second (overwritten at first old) ≡ overwritten at (first ++ second) old
written_behind at first second old place =
    let front = take at old ++ first in
    let rest = drop (at + length first) old in
    let size : length front ≡ at + length first = omega (arith, length-append (take at old) first, length-take at old) in
    let taken : take (at + length first) (front ++ rest) ≡ front = take_at front rest (at + length first) size in
    let dropped : drop (at + length first) (front ++ rest) ≡ rest = drop_at front rest (at + length first) size in
    let further : drop (at + length first + length second) (front ++ rest) ≡ drop (at + length (first ++ second)) old =
    sym (drop-drop (length second) (at + length first) (front ++ rest)) ∙ ap (λ (l : List ℕ). drop (length second) l) dropped
    ∙ drop-drop (length second) (at + length first) old ∙ ap (λ n. drop n old) (omega (arith, length-append first second)) in
    ap (λ (l : List ℕ). l ++ second ++ drop (at + length first + length second) (front ++ rest)) taken
    ∙ ap (λ (l : List ℕ). front ++ second ++ l) further
    ∙ ap (λ (l : List ℕ). l ++ drop (at + length (first ++ second)) old) (append_assoc (take at old) first second)

with_file_twice : (file : DiskFile) (one other : List ℕ) (files : Image) → with_file file other (with_file file one files) ≡ with_file file other files
with_file_twice file one other files = λ i x. at (same_file file x) (files x) i
  where
    at : (b : Bool) (rest : List ℕ) → (if b then other else (if b then one else rest)) ≡ (if b then other else rest)
    at true rest = refl
    at false rest = refl

-- and of a disk
pub written_twice : (file : DiskFile) (at : ℕ) (first second : List ℕ) (old mid new : Image) → at ≤ length (old file)
    → mid ≡ with_file file (overwritten at first (old file)) old → new ≡ with_file file (overwritten (at + length first) second (mid file)) mid
    → new ≡ with_file file (overwritten at (first ++ second) (old file)) old
written_twice file at first second old mid new place one two =
    let is : mid file ≡ overwritten at first (old file) = ap (λ (f : Image). f file) one ∙ with_file_same file (overwritten at first (old file)) old in
    two ∙ ap (λ (f : Image). with_file file (overwritten (at + length first) second (mid file)) f) one
    ∙ ap (λ (bytes : List ℕ). with_file file (overwritten (at + length first) second bytes) (with_file file (overwritten at first (old file)) old)) is
    ∙ with_file_twice file (overwritten at first (old file)) (overwritten (at + length first) second (overwritten at first (old file))) old
    ∙ ap (λ (bytes : List ℕ). with_file file bytes old) (written_behind at first second (old file) place)

-- what holds anyhow holds at an Ok
pub on_ok : {T E P : Type 0} (result : Result T E) → P → OnOk result P
on_ok (Ok value) holds = holds
on_ok (Err error) holds = tt
