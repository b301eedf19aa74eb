-- Units: the run of bytes that one transaction appends to the output files, and where the output then stands.
use Rattle.std.specs.Prelude.{◌≡◌, ℕ, ◌+◌, ◌-◌, ◌<◌, ◌==◌, nat_le, not, IsTrue, List, [], ◌∷◌, ◌++◌, length, if◌then◌else◌}
use Rattle.cdc_base.specs.declared.rename.Rename.{Rename}
use Rattle.cdc_model.specs.declared.layout.Layout.{Layout}
use Rattle.cdc_model.specs.Records.{Transaction, OutputUnit}
use Rattle.cdc_model.specs.Layout.{begins_file, next_file, next_place}
use Rattle.cdc_model.specs.Print.{printed_bytes, printed_length}
use Rattle.cdc_model.specs.Output.{Output, file_head, rotate_event, output_with, files_in, files_of, layout_in, layout_of}

-- the head, where the transaction begins a file
abbrev pub head_before : Layout → List ℕ
head_before layout = if begins_file layout then file_head else []

-- the place where its print begins, behind the head
abbrev pub print_place : Layout → ℕ
print_place layout = if begins_file layout then length file_head else layout.length

-- the place where its print ends
abbrev pub print_end : List Rename → Transaction → Layout → ℕ
print_end rules txn layout = print_place layout + printed_length rules txn

-- the event that closes the file, where the print ends at the rotation size or behind it
abbrev pub rotate_behind : ℕ → ℕ → ℕ → List ℕ
rotate_behind rotation at file = if nat_le rotation at then rotate_event at (file + 1) else []

-- head, print and ROTATE as one run
abbrev pub unit_bytes : List Rename → ℕ → Transaction → Layout → List ℕ
unit_bytes rules rotation txn before =
    head_before before ++ (printed_bytes rules txn (print_place before) ++ rotate_behind rotation (print_end rules txn before) (next_file before))

-- the unit of a transaction behind a layout
abbrev pub unit_of : List Rename → ℕ → Transaction → Layout → OutputUnit
unit_of rules rotation txn before = record {
  number = txn.number;
  key = txn.key;
  before = before;
  after = record {
    file = next_file before;
    length = next_place before + length (unit_bytes rules rotation txn before);
    closed = nat_le rotation (print_end rules txn before);
  };
  bytes = unit_bytes rules rotation txn before;
}

-- files with bytes appended to the one of a number, counted from 1; behind the last one they are a new file
abbrev pub appended_to : ℕ → List ℕ → List (List ℕ) → List (List ℕ)
appended_to number bytes [] = bytes ∷ []
appended_to number bytes (file ∷ files) = if number == 1 then (file ++ bytes) ∷ files else file ∷ appended_to (number - 1) bytes files

-- a unit is an output's step with a transaction: the one file that it names grows by its bytes, all others stay, and
-- the output then stands where the unit says
pub record IsOutputStep (rules : List Rename) (rotation : ℕ) (txn : Transaction) (unit : OutputUnit) (output : Output) : Type 0 where
  pub files : files_in (output_with rules rotation output txn) ≡ appended_to unit.after.file unit.bytes (files_in output)
  pub layout : layout_in (output_with rules rotation output txn) ≡ unit.after

-- a unit is a transaction's: its step for each output that stands where the unit begins; a file that it leaves open is
-- below the rotation size
pub record IsOutputStepFrom (rules : List Rename) (rotation : ℕ) (txn : Transaction) (before : Layout) (unit : OutputUnit) : Type 0 where
  pub number : unit.number ≡ txn.number
  pub key : unit.key ≡ txn.key
  pub begins : unit.before ≡ before
  pub below : IsTrue (not unit.after.closed) → unit.after.length < rotation
  pub step : (output : Output) → layout_in output ≡ before → IsOutputStep rules rotation txn unit output

-- law: the unit of a transaction is its step
abbrev pub UnitsAreSteps : Type 0
UnitsAreSteps = (rules : List Rename) (rotation : ℕ) (txn : Transaction) (before : Layout)
    → IsOutputStepFrom rules rotation txn before (unit_of rules rotation txn before)

-- a unit makes the files of some transactions those of one more
pub record MakesFiles (rules : List Rename) (rotation : ℕ) (txns : List Transaction) (txn : Transaction) (unit : OutputUnit) : Type 0 where
  pub files : files_of rules rotation (txns ++ txn ∷ []) ≡ appended_to unit.after.file unit.bytes (files_of rules rotation txns)
  pub layout : layout_of rules rotation (txns ++ txn ∷ []) ≡ unit.after

-- law: the unit behind some transactions' layout makes their files those of one more
abbrev pub UnitsMakeFiles : Type 0
UnitsMakeFiles = (rules : List Rename) (rotation : ℕ) (txns : List Transaction) (txn : Transaction)
    → MakesFiles rules rotation txns txn (unit_of rules rotation txn (layout_of rules rotation txns))
