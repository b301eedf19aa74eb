-- Lists of transactions that fill no file, and those of closed files.
use Rattle.std.proofs.Common.{◌≡◌, ℕ, ◌+◌, ◌<◌, ◌≤◌, List, [], ◌∷◌, ◌++◌, length, length-append, append-nil, ap, subst, refl, ◌∙◌, arith}
use Rattle.cdc_base.specs.declared.rename.Rename.{Rename}
use Rattle.cdc_model.specs.Records.{Transaction}
use Rattle.cdc_model.specs.Output.{file_with, IsOutputFile, AreOutputFiles}

-- ---- transactions that fill no file

-- no front of some transactions fills a file
abbrev pub FillNone : List Rename → ℕ → List Transaction → Type 0
FillNone rules rotation txns =
    (front back : List Transaction) → txns ≡ front ++ back → 1 ≤ length front → length (file_with rules front) < rotation

pub fill_nothing : (rules : List Rename) (rotation : ℕ) → FillNone rules rotation []
fill_nothing rules rotation [] back is some = absurd (omega arith)
fill_nothing rules rotation (txn ∷ front) back is some = absurd (cc)

-- a front of one transaction more, with something behind it, is a front already
pub fewer_front : (txns : List Transaction) (txn : Transaction) (front back : List Transaction) → txns ++ txn ∷ [] ≡ front ++ back → 1 ≤ length back
    → (rest : List Transaction) × (txns ≡ front ++ rest)
fewer_front txns txn [] back is some = (txns, refl)
fewer_front [] txn (first ∷ front) back is some =
    let none : [] ≡ front ++ back = cc in
    absurd (omega (arith, ap length none, length-append front back))
fewer_front (other ∷ txns) txn (first ∷ front) back is some =
    let same : other ≡ first = cc in
    let behind : txns ++ txn ∷ [] ≡ front ++ back = cc in
    let fewer = fewer_front txns txn front back behind some in
    let rest : txns ≡ front ++ fewer.0 = fewer.1 in
    (fewer.0, cc)

-- a list without its last transaction fills no file, so with it no shorter front does
pub not_before_last : (rules : List Rename) (rotation : ℕ) (txns : List Transaction) (txn : Transaction) → FillNone rules rotation txns
    → (front back : List Transaction) → txns ++ txn ∷ [] ≡ front ++ back → 1 ≤ length front → 1 ≤ length back
    → length (file_with rules front) < rotation
not_before_last rules rotation txns txn unfilled front back is some more =
    let fewer = fewer_front txns txn front back is more in unfilled front fewer.0 fewer.1 some

pub still_unfilled : (rules : List Rename) (rotation : ℕ) (txns : List Transaction) (txn : Transaction) → FillNone rules rotation txns
    → length (file_with rules (txns ++ txn ∷ [])) < rotation → FillNone rules rotation (txns ++ txn ∷ [])
still_unfilled rules rotation txns txn unfilled below front [] is some =
    subst (λ (list : List Transaction). length (file_with rules list) < rotation) (is ∙ append-nil front) below
still_unfilled rules rotation txns txn unfilled below front (first ∷ back) is some =
    not_before_last rules rotation txns txn unfilled front (first ∷ back) is some (omega arith)

pub some_with : (txns : List Transaction) (txn : Transaction) → 1 ≤ length (txns ++ txn ∷ [])
some_with txns txn = omega (arith, length-append txns (txn ∷ []))

-- ---- the lists of closed files

-- closed files have these lists of transactions
abbrev pub AreClosedFiles : List Rename → ℕ → ℕ → List (List Transaction) → List (List ℕ) → Type 0
AreClosedFiles rules rotation number [] [] = Unit {0}
AreClosedFiles rules rotation number [] (file ∷ files) = ⊥
AreClosedFiles rules rotation number (txns ∷ lists) [] = ⊥
AreClosedFiles rules rotation number (txns ∷ lists) (file ∷ files) =
    IsOutputFile rules rotation number txns file × (rotation ≤ length (file_with rules txns)) × AreClosedFiles rules rotation (number + 1) lists files

pub closed_more : (rules : List Rename) (rotation number : ℕ) (lists : List (List Transaction)) (files : List (List ℕ)) (txns : List Transaction) (file : List ℕ)
    → AreClosedFiles rules rotation number lists files → IsOutputFile rules rotation (number + length files) txns file → rotation ≤ length (file_with rules txns)
    → AreClosedFiles rules rotation number (lists ++ txns ∷ []) (files ++ file ∷ [])
closed_more rules rotation number [] [] txns file all is full =
    (subst (λ (n : ℕ). IsOutputFile rules rotation n txns file) (omega arith) is, full, tt)
closed_more rules rotation number [] (first ∷ files) txns file all is full = absurd all
closed_more rules rotation number (list ∷ lists) [] txns file all is full = absurd all
closed_more rules rotation number (list ∷ lists) (first ∷ files) txns file all is full =
    let behind : IsOutputFile rules rotation (number + 1 + length files) txns file =
    subst (λ (n : ℕ). IsOutputFile rules rotation n txns file) (omega arith) is in
    (all.0, all.1, closed_more rules rotation (number + 1) lists files txns file all.2 behind full)

pub all_closed : (rules : List Rename) (rotation number : ℕ) (lists : List (List Transaction)) (files : List (List ℕ))
    → AreClosedFiles rules rotation number lists files → AreOutputFiles rules rotation number lists files
all_closed rules rotation number [] [] all = tt
all_closed rules rotation number [] (file ∷ files) all = absurd all
all_closed rules rotation number (txns ∷ lists) [] all = absurd all
all_closed rules rotation number (txns ∷ lists) (file ∷ files) all =
    (all.0, (λ more. all.1), all_closed rules rotation (number + 1) lists files all.2)

pub last_open : (rules : List Rename) (rotation number : ℕ) (lists : List (List Transaction)) (files : List (List ℕ)) (txns : List Transaction) (file : List ℕ)
    → AreClosedFiles rules rotation number lists files → ((n : ℕ) → IsOutputFile rules rotation n txns file)
    → AreOutputFiles rules rotation number (lists ++ txns ∷ []) (files ++ file ∷ [])
last_open rules rotation number [] [] txns file all is = (is number, (λ more. absurd (omega arith)), tt)
last_open rules rotation number [] (first ∷ files) txns file all is = absurd all
last_open rules rotation number (list ∷ lists) [] txns file all is = absurd all
last_open rules rotation number (list ∷ lists) (first ∷ files) txns file all is =
    (all.0, (λ more. all.1), last_open rules rotation (number + 1) lists files txns file all.2 is)
