-- Units are steps of the output: the bytes that a step appends, and where the output then stands.
use Rattle.std.proofs.Common.{◌≡◌, ℕ, ◌+◌, ◌-◌, ◌<◌, ◌≤◌, leb, nat_eq, Bool, true, false, IsTrue, not, ◌||◌, ◌==◌, if◌then◌else◌, List, [], ◌∷◌, ◌++◌, length, length-append, append_assoc, append-nil, ap, sym, subst, refl, ◌∙◌, arith}
use Rattle.std.proofs.lemmas.Bool.{leb-false, ne_eqb}
use Rattle.cdc_base.specs.declared.rename.Rename.{Rename}
use Rattle.cdc_model.specs.declared.layout.Layout.{Layout}
use Rattle.cdc_model.specs.Records.{Transaction, OutputUnit}
use Rattle.cdc_model.specs.Layout.{begins_file}
use Rattle.cdc_model.specs.Print.{printed_bytes, printed_length}
use Rattle.cdc_model.specs.Output.{Output, no_output, output_after, file_head, file_begun, file_reached, rotate_event, open_file, output_with, files_in, last_closed, layout_with, layout_in}
use Rattle.cdc_model.specs.Unit.{rotate_behind, unit_of, appended_to, IsOutputStep, UnitsAreSteps, UnitsMakeFiles}
use Rattle.cdc_model.proofs.PrintLength.{length_printed}
use Rattle.cdc_model.proofs.Files.{one_more_is_one_step}

-- ---- files and layouts

-- bytes behind the last closed file go to the open one, or begin one
pub appended_last : (closed : List (List ℕ)) (current bytes : List ℕ) → appended_to (length closed + 1) bytes (closed ++ open_file current) ≡ closed ++ (current ++ bytes) ∷ []
appended_last [] [] bytes = refl
appended_last [] (byte ∷ current) bytes = refl
appended_last (file ∷ closed) current bytes =
    let later : nat_eq (length (file ∷ closed) + 1) 1 ≡ false = ne_eqb (length (file ∷ closed) + 1) 1 (λ e. omega (arith, e)) in
    let number : length (file ∷ closed) + 1 - 1 ≡ length closed + 1 = omega arith in
    rw (later, number, appended_last closed current bytes) refl

abbrev layout_at : ℕ → ℕ → Bool → Layout
layout_at file size closed = record { file = file; length = size; closed = closed }

pub same_layout : (file file' size size' : ℕ) (closed : Bool) → file ≡ file' → size ≡ size' → layout_at file size closed ≡ layout_at file' size' closed
same_layout file file' size size' closed e f = rw (e, f) refl

pub last_is_closed : (number : ℕ) (closed : List (List ℕ)) (file : List ℕ)
    → last_closed number (closed ++ file ∷ []) ≡ layout_at (number + length closed) (length file) true
last_is_closed number [] file = same_layout number (number + 0) (length file) (length file) true (omega arith) refl
last_is_closed number (first ∷ []) file = same_layout (number + 1) (number + 1) (length file) (length file) true refl refl
last_is_closed number (first ∷ other ∷ closed) file =
    let place : number + 1 + length (other ∷ closed) ≡ number + length (first ∷ other ∷ closed) = omega arith in
    last_is_closed (number + 1) (other ∷ closed) file
    ∙ same_layout (number + 1 + length (other ∷ closed)) (number + length (first ∷ other ∷ closed)) (length file) (length file) true place refl

pub open_layout : (closed : List (List ℕ)) (file : List ℕ) → 1 ≤ length file
    → layout_with closed file ≡ layout_at (length closed + 1) (length file) false
open_layout closed [] some = absurd (omega arith)
open_layout closed (byte ∷ bytes) some = refl

-- behind closed files no file is open, and the last one's number is theirs
pub closed_layout : (number : ℕ) (first : List ℕ) (closed : List (List ℕ))
    → (last_closed number (first ∷ closed)).closed ≡ true × (last_closed number (first ∷ closed)).file ≡ number + length closed
closed_layout number first [] = (refl, omega arith)
closed_layout number first (other ∷ closed) =
    let later = closed_layout (number + 1) other closed in
    let place : number + 1 + length closed ≡ number + length (other ∷ closed) = omega arith in
    (later.0, later.1 ∙ place)

pub open_kept : (file : List ℕ) → 1 ≤ length file → open_file file ≡ file ∷ []
open_kept [] some = absurd (omega arith)
open_kept (byte ∷ bytes) some = refl

-- ---- one step, by whether the file is full

-- where a file stands behind a transaction, and the bytes that it grew by
module _ (closed : List (List ℕ)) (current head printed : List ℕ) (rotation at number : ℕ) where
  abbrev grown : List ℕ
  grown = (current ++ head) ++ printed

  abbrev reached : Bool → Output
  reached full =
      if full then record { closed = closed ++ (grown ++ rotate_event (length grown) (length closed + 2)) ∷ []; current = [] }
      else record { closed = closed; current = grown }

  abbrev run : Bool → List ℕ
  run full = head ++ (printed ++ (if full then rotate_event at (number + 1) else []))

  abbrev behind : Bool → Layout
  behind full = layout_at number (length current + length (run full)) full

  -- the file and the bytes behind it are what stood before and the run
  grown_with : (rest : List ℕ) → current ++ (head ++ (printed ++ rest)) ≡ grown ++ rest
  grown_with rest = sym (append_assoc current head (printed ++ rest)) ∙ sym (append_assoc (current ++ head) printed rest)

  rotated : at ≡ length grown → number ≡ length closed + 1
      → grown ++ rotate_event (length grown) (length closed + 2) ≡ current ++ run true
  rotated place is =
      let next : number + 1 ≡ length closed + 2 = omega (arith, is) in
      ap (λ (n : ℕ). grown ++ rotate_event n (length closed + 2)) (sym place)
      ∙ ap (λ (n : ℕ). grown ++ rotate_event at n) (sym next)
      ∙ sym (grown_with (rotate_event at (number + 1)))

  not_rotated : grown ≡ current ++ run false
  not_rotated = sym (append-nil grown) ∙ sym (grown_with [])

  appended_here : (bytes : List ℕ) → number ≡ length closed + 1
      → closed ++ (current ++ bytes) ∷ [] ≡ appended_to number bytes (closed ++ open_file current)
  appended_here bytes is =
      sym (appended_last closed current bytes) ∙ ap (λ (n : ℕ). appended_to n bytes (closed ++ open_file current)) (sym is)

  pub reached_files : (full : Bool) → at ≡ length grown → number ≡ length closed + 1 → 1 ≤ length grown
      → files_in (reached full) ≡ appended_to number (run full) (closed ++ open_file current)
  reached_files true place is some =
      append-nil (closed ++ (grown ++ rotate_event (length grown) (length closed + 2)) ∷ [])
      ∙ ap (λ (file : List ℕ). closed ++ file ∷ []) (rotated place is)
      ∙ appended_here (run true) is
  reached_files false place is some =
      ap (λ (files : List (List ℕ)). closed ++ files) (open_kept grown some)
      ∙ ap (λ (file : List ℕ). closed ++ file ∷ []) not_rotated
      ∙ appended_here (run false) is

  pub reached_layout : (full : Bool) → at ≡ length grown → number ≡ length closed + 1 → 1 ≤ length grown
      → layout_in (reached full) ≡ behind full
  reached_layout true place is some =
      let file : List ℕ = grown ++ rotate_event (length grown) (length closed + 2) in
      let number_is : 1 + length closed ≡ number = omega (arith, is) in
      last_is_closed 1 closed file
      ∙ same_layout (1 + length closed) number (length file) (length current + length (run true)) true number_is
      (ap length (rotated place is) ∙ length-append current (run true))
  reached_layout false place is some =
      open_layout closed grown some
      ∙ same_layout (length closed + 1) number (length grown) (length current + length (run false)) false (sym is)
      (ap length not_rotated ∙ length-append current (run false))

-- ---- the unit of a layout

-- the unit, by whether it begins a file
abbrev unit_by : Bool → List Rename → ℕ → Transaction → Layout → OutputUnit
unit_by begins rules rotation txn before =
    let head : List ℕ = if begins then file_head else [] in
    let file : ℕ = if begins then before.file + 1 else before.file in
    let place : ℕ = if begins then length file_head else before.length in
    let end : ℕ = place + printed_length rules txn in
    let bytes : List ℕ = head ++ (printed_bytes rules txn place ++ rotate_behind rotation end file) in
    record {
      number = txn.number;
      key = txn.key;
      before = before;
      after = record { file = file; length = (if begins then 0 else before.length) + length bytes; closed = leb rotation end };
      bytes = bytes;
    }

pub head_begins : 1 ≤ length file_head
unfolding file_head
head_begins = omega arith

module _ (rules : List Rename) (rotation : ℕ) (txn : Transaction) where
  -- the unit whose head and place are as the output has them is its step
  step_with : (before : Layout) (closed : List (List ℕ)) (current head : List ℕ) (at number : ℕ)
      → file_begun current ≡ current ++ head → at ≡ length (current ++ head) → 1 ≤ at → number ≡ length closed + 1
      → (let end : ℕ = at + printed_length rules txn in
      let bytes : List ℕ = head ++ (printed_bytes rules txn at ++ rotate_behind rotation end number) in
      IsOutputStep rules rotation txn (record {
        number = txn.number;
        key = txn.key;
        before = before;
        after = layout_at number (length current + length bytes) (leb rotation end);
        bytes = bytes;
      }) (record { closed = closed; current = current }))
  step_with before closed current head at number begun place some is =
      let printed : List ℕ = printed_bytes rules txn at in
      let end : ℕ = at + printed_length rules txn in
      let file : List ℕ = (current ++ head) ++ printed in
      let whole : end ≡ length file = omega (arith, place, length_printed rules txn at, length-append (current ++ head) printed) in
      let more : 1 ≤ length file = omega (arith, place, some, length-append (current ++ head) printed) in
      let step : output_with rules rotation (record { closed = closed; current = current }) txn ≡ reached closed current head printed rotation end number (leb rotation end) =
      ap (λ (bytes : List ℕ). file_reached rotation closed (bytes ++ printed_bytes rules txn (length bytes))) begun
      ∙ ap (λ (n : ℕ). file_reached rotation closed ((current ++ head) ++ printed_bytes rules txn n)) (sym place)
      ∙ ap (λ (n : ℕ). reached closed current head printed rotation end number (leb rotation n)) (sym whole) in
      record {
        files = ap files_in step ∙ reached_files closed current head printed rotation end number (leb rotation end) whole is more;
        layout = ap layout_in step ∙ reached_layout closed current head printed rotation end number (leb rotation end) whole is more;
      }

  abbrev Steps : Layout → List (List ℕ) → List ℕ → Bool → Type 0
  Steps before closed current begins = IsOutputStep rules rotation txn (unit_by begins rules rotation txn before) (record { closed = closed; current = current })

  step_of : (closed : List (List ℕ)) (current : List ℕ)
      → IsOutputStep rules rotation txn (unit_of rules rotation txn (layout_with closed current)) (record { closed = closed; current = current })
  step_of [] [] = step_with (layout_with [] []) [] [] file_head (length file_head) 1 refl refl head_begins refl
  step_of (first ∷ closed) [] =
      let before : Layout = last_closed 1 (first ∷ closed) in
      let stands = closed_layout 1 first closed in
      let begins : begins_file before ≡ true = ap (λ (b : Bool). b || before.file == 0) stands.0 in
      let is : before.file + 1 ≡ length (first ∷ closed) + 1 = omega (arith, stands.1) in
      subst (Steps before (first ∷ closed) []) (sym begins)
      (step_with before (first ∷ closed) [] file_head (length file_head) (before.file + 1) refl refl head_begins is)
  step_of closed (byte ∷ bytes) =
      let current : List ℕ = byte ∷ bytes in
      let before : Layout = layout_with closed current in
      let begins : begins_file before ≡ false = ne_eqb (length closed + 1) 0 (λ e. omega (arith, e)) in
      subst (Steps before closed current) (sym begins)
      (step_with before closed current [] (length current) (length closed + 1) (sym (append-nil current)) (ap length (sym (append-nil current))) (omega arith) refl)

  step_from : (output : Output) → IsOutputStep rules rotation txn (unit_of rules rotation txn (layout_in output)) output
  step_from output = step_of output.closed output.current

-- a file that is left open is below the rotation size
pub left_open : (full : Bool) (rotation at number size : ℕ) (head printed : List ℕ) → full ≡ leb rotation at → at ≡ size + length head + length printed
    → IsTrue (not full) → size + length (head ++ (printed ++ (if full then rotate_event at number else []))) < rotation
left_open true rotation at number size head printed is place left = absurd cc
left_open false rotation at number size head printed is place left =
    omega (arith, leb-false rotation at (sym is), place, length-append head (printed ++ []), length-append printed [])

pub unit_open : (begins : Bool) (rules : List Rename) (rotation : ℕ) (txn : Transaction) (before : Layout)
    → IsTrue (not (unit_by begins rules rotation txn before).after.closed) → (unit_by begins rules rotation txn before).after.length < rotation
unit_open true rules rotation txn before =
    let at : ℕ = length file_head + printed_length rules txn in
    left_open (leb rotation at) rotation at (before.file + 1 + 1) 0 file_head (printed_bytes rules txn (length file_head)) refl
    (omega (arith, length_printed rules txn (length file_head)))
unit_open false rules rotation txn before =
    let at : ℕ = before.length + printed_length rules txn in
    left_open (leb rotation at) rotation at (before.file + 1) before.length [] (printed_bytes rules txn before.length) refl
    (omega (arith, length_printed rules txn before.length))

pub units_are_steps : UnitsAreSteps
units_are_steps rules rotation txn before = record {
  number = refl;
  key = refl;
  begins = refl;
  below = unit_open (begins_file before) rules rotation txn before;
  step = λ output is. subst (λ (layout : Layout). IsOutputStep rules rotation txn (unit_of rules rotation txn layout) output) is (step_from rules rotation txn output);
}

pub units_make_files : UnitsMakeFiles
units_make_files rules rotation txns txn =
    let output : Output = output_after rules rotation no_output txns in
    let one_more = one_more_is_one_step rules rotation txns txn in
    let step = step_from rules rotation txn output in
    record { files = ap files_in one_more ∙ step.files; layout = ap layout_in one_more ∙ step.layout }
