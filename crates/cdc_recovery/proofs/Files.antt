-- Files from the first that is kept on, and the transactions that stand before them.
use Rattle.std.proofs.Common.{◌≡◌, ℕ, zero, suc, ◌+◌, ◌-◌, ◌<◌, ◌≤◌, ◌==◌, ltb, Bool, false, if◌then◌else◌, List, [], ◌∷◌, ◌++◌, length, length-append, append-nil, take, drop, map, filter, Some, ap, sym, refl, ◌∙◌, arith}
use Rattle.std.specs.Prelude.{slice_get}
use Rattle.std.proofs.lemmas.Bool.{le-ltb, ne_eqb}
use Rattle.std.proofs.lemmas.List.Elements.{filter-append}
use Rattle.cdc_base.specs.declared.rename.Rename.{Rename}
use Rattle.cdc_outside.specs.Disk.{Image}
use Rattle.cdc_model.specs.declared.layout.Layout.{Layout}
use Rattle.cdc_model.specs.Layout.{next_file}
use Rattle.cdc_model.specs.Records.{Transaction}
use Rattle.cdc_model.specs.Output.{Output, no_output, output_with, output_after, open_file, layout_with, layout_in, layout_of, files_of}
use Rattle.cdc_model.specs.Transaction.{numbers_from}
use Rattle.cdc_model.specs.Unit.{unit_of, appended_to}
use Rattle.cdc_model.proofs.Units.{closed_layout, units_are_steps}
use Rattle.cdc_records.specs.declared.front.Front.{Front}
use Rattle.cdc_records.specs.Published.{published_file, published}
use Rattle.cdc_recovery.specs.Outputs.{OutputPlan, files_taken, passed_below}

-- ---- one transaction more

-- the first of a list and one more
pub take_one_more : {X : Type 0} (xs : List X) (n : ℕ) (x : X) → slice_get xs n ≡ Some x → take (n + 1) xs ≡ take n xs ++ x ∷ []
take_one_more [] n x e = absurd cc
take_one_more (y ∷ ys) zero x e = let same : y ≡ x = cc in ap (λ z. z ∷ []) same
take_one_more {X} (y ∷ ys) (suc n) x e =
    let next : suc n + 1 ≡ suc (n + 1) = omega arith in
    ap (λ (k : ℕ). take k (y ∷ ys)) next ∙ ap (λ (list : List X). y ∷ list) (take_one_more ys n x e)

-- ---- how many files there are

-- the layout behind closed files and an open one has their number
pub layout_counts : (closed : List (List ℕ)) (current : List ℕ) → (layout_with closed current).file ≡ length (closed ++ open_file current)
layout_counts [] [] = refl
layout_counts (first ∷ closed) [] =
    let stands = closed_layout 1 first closed in
    let size : 1 + length closed ≡ length (first ∷ closed ++ []) = omega (arith, length-append (first ∷ closed) []) in
    stands.1 ∙ size
layout_counts closed (byte ∷ bytes) = omega (arith, length-append closed ((byte ∷ bytes) ∷ []))

pub files_count : (rules : List Rename) (rotation : ℕ) (txns : List Transaction) → (layout_of rules rotation txns).file ≡ length (files_of rules rotation txns)
files_count rules rotation txns =
    let output : Output = output_after rules rotation no_output txns in layout_counts output.closed output.current

-- ---- files without the first

pub drop_appended : (first number : ℕ) (bytes : List ℕ) (files : List (List ℕ)) → first < number → first ≤ length files
    → drop first (appended_to number bytes files) ≡ appended_to (number - first) bytes (drop first files)
drop_appended zero number bytes files below within = ap (λ (n : ℕ). appended_to n bytes files) (let same : number ≡ number - 0 = omega arith in same)
drop_appended (suc first) number bytes [] below within = absurd (omega (arith, within))
drop_appended (suc first) number bytes (file ∷ files) below within =
    let later : (number == 1) ≡ false = ne_eqb number 1 (λ e. omega (arith, e, below)) in
    let fewer : number - 1 - first ≡ number - suc first = omega arith in
    let left : first < number - 1 = omega (arith, below) in
    let less : first ≤ length files = omega (arith, within) in
    ap (λ (b : Bool). drop (suc first) (if b then (file ++ bytes) ∷ files else file ∷ appended_to (number - 1) bytes files)) later
    ∙ (drop_appended first (number - 1) bytes files left less ∙ ap (λ (n : ℕ). appended_to n bytes (drop first files)) fewer)

-- ---- the files to which transactions go

-- where the output stands behind transactions
abbrev layout_behind : OutputPlan → Layout → List Transaction → Layout
layout_behind plan before [] = before
layout_behind plan before (txn ∷ txns) = layout_behind plan (unit_of plan.rules plan.rotation txn before).after txns

taken_more : (plan : OutputPlan) (before : Layout) (txns : List Transaction) (txn : Transaction)
    → files_taken plan before (txns ++ txn ∷ []) ≡ files_taken plan before txns ++ next_file (layout_behind plan before txns) ∷ []
taken_more plan before [] txn = refl
taken_more plan before (first ∷ txns) txn =
    ap (λ (list : List ℕ). next_file before ∷ list) (taken_more plan (unit_of plan.rules plan.rotation first before).after txns txn)

behind_is : (plan : OutputPlan) (output : Output) (txns : List Transaction)
    → layout_behind plan (layout_in output) txns ≡ layout_in (output_after plan.rules plan.rotation output txns)
behind_is plan output [] = refl
behind_is plan output (txn ∷ txns) =
    let step = (units_are_steps plan.rules plan.rotation txn (layout_in output)).step output refl in
    ap (λ (l : Layout). layout_behind plan l txns) (sym step.layout)
    ∙ behind_is plan (output_with plan.rules plan.rotation output txn) txns

-- a transaction that goes to a file that is kept isn't passed
pub passed_more : (plan : OutputPlan) (first : ℕ) (txns : List Transaction) (txn : Transaction) → first ≤ next_file (layout_of plan.rules plan.rotation txns)
    → passed_below plan first (txns ++ txn ∷ []) ≡ passed_below plan first txns
passed_more plan first txns txn kept =
    let start : Layout = layout_in no_output in
    let test : ℕ → Bool = λ (n : ℕ). ltb n first in
    let number : ℕ = next_file (layout_of plan.rules plan.rotation txns) in
    let here : layout_behind plan start txns ≡ layout_of plan.rules plan.rotation txns = behind_is plan no_output txns in
    let all : files_taken plan start (txns ++ txn ∷ []) ≡ files_taken plan start txns ++ number ∷ [] =
    taken_more plan start txns txn ∙ ap (λ (l : Layout). files_taken plan start txns ++ next_file l ∷ []) here in
    let none : filter test (number ∷ []) ≡ [] = ap (λ (b : Bool). if b then number ∷ [] else []) (le-ltb number first kept) in
    ap (λ (list : List ℕ). length (filter test list)) all
    ∙ (ap length (filter-append test (files_taken plan start txns) (number ∷ []))
    ∙ (ap (λ (list : List ℕ). length (filter test (files_taken plan start txns) ++ list)) none
    ∙ ap length (append-nil (filter test (files_taken plan start txns)))))

-- ---- published files that stay

numbers_same : (own its : ℕ → List ℕ) (first count most : ℕ) → (1 ≤ count → first + count ≤ most + 1) → ((n : ℕ) → n ≤ most → own n ≡ its n)
    → map own (numbers_from first count) ≡ map its (numbers_from first count)
numbers_same own its first zero most within same = refl
numbers_same own its first (suc count) most within same =
    let upto : first + suc count ≤ most + 1 = within (omega arith) in
    let here : own first ≡ its first = same first (omega (arith, upto)) in
    let later = numbers_same own its (first + 1) count most (λ some. omega (arith, upto)) same in
    λ i. here i ∷ later i

-- what is published stays where each of its files stays
pub published_same : (f : Front) (old image : Image) → ((n : ℕ) → n ≤ f.file → published_file f image n ≡ published_file f old n) → published f image ≡ published f old
published_same f old image same =
    numbers_same (published_file f image) (published_file f old) f.first (f.file + 1 - f.first) f.file (λ some. omega (arith, some)) same
