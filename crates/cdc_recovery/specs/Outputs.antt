-- Recoverable outputs: those whose Front and published files are the first transactions'.
use Rattle.std.specs.Prelude.{◌≡◌, ℕ, ◌+◌, ◌-◌, ◌<◌, ◌≤◌, nat_lt, List, [], ◌∷◌, length, filter, take, drop, slice_get, Some}
use Rattle.cdc_base.specs.declared.key.Key.{Key}
use Rattle.cdc_base.specs.declared.rename.Rename.{Rename}
use Rattle.cdc_base.specs.Key.{first_key}
use Rattle.cdc_outside.specs.declared.disk_file.DiskFile.TheVariants.{Log}
use Rattle.cdc_outside.specs.Disk.{Image}
use Rattle.cdc_model.specs.declared.layout.Layout.{Layout}
use Rattle.cdc_model.specs.declared.node_log.NodeLog.{NodeLog}
use Rattle.cdc_model.specs.Records.{Transaction, OutputUnit}
use Rattle.cdc_model.specs.Layout.{next_file}
use Rattle.cdc_model.specs.Output.{no_output, layout_in, layout_of, files_of}
use Rattle.cdc_model.specs.Transaction.{settled_transactions, key_at}
use Rattle.cdc_model.specs.Unit.{unit_of}
use Rattle.cdc_records.specs.declared.front.Front.{Front}
use Rattle.cdc_records.specs.Front.{front_layout, HasFront}
use Rattle.cdc_records.specs.Published.{published}

-- how transactions are printed and cut into files: the renaming rules and the rotation size
pub record OutputPlan : Type 0 where
  pub rules : List Rename
  pub rotation : ℕ

-- the settled transactions of all logs, read whole
abbrev pub planned_transactions : OutputPlan → List NodeLog → List Transaction
planned_transactions plan logs = settled_transactions plan.rules 0 first_key logs

-- the number of the file to which each transaction goes, behind a layout
abbrev pub files_taken : OutputPlan → Layout → List Transaction → List ℕ
files_taken plan before [] = []
files_taken plan before (txn ∷ txns) = next_file before ∷ files_taken plan (unit_of plan.rules plan.rotation txn before).after txns

-- how many of these numbers are below another
abbrev pub count_below : ℕ → List ℕ → ℕ
count_below first numbers = length (filter (λ (number : ℕ). nat_lt number first) numbers)

-- how many of some transactions stand in files below the first that is kept
abbrev pub passed_below : OutputPlan → ℕ → List Transaction → ℕ
passed_below plan first txns = count_below first (files_taken plan (layout_in no_output) txns)

-- what an image publishes under a Front is the first transactions': their layout, their files from the first that is kept
-- on, as many passed, their last key; nothing stands in files above the one behind the Front's
pub record IsFrontOf (plan : OutputPlan) (txns : List Transaction) (f : Front) (image : Image) : Type 0 where
  pub within : f.count ≤ length txns
  pub layout : front_layout f ≡ layout_of plan.rules plan.rotation (take f.count txns)
  pub files : published f image ≡ drop (f.first - 1) (files_of plan.rules plan.rotation (take f.count txns))
  pub passed : f.passed ≡ passed_below plan f.first (take f.count txns)
  pub last : (key : Key) → f.last ≡ Some key → key ≡ key_at txns f.count
  pub behind : (file : ℕ) → f.file + 1 < file → image (Log file) ≡ []

-- an image of an output is recoverable with so many transactions
pub record KeepsOut (plan : OutputPlan) (txns : List Transaction) (count : ℕ) (image : Image) : Type 0 where
  pub front : Front
  pub is_front : HasFront image front
  pub counted : front.count ≡ count
  pub is_kept : IsFrontOf plan txns front image

-- with at least so many
pub record KeepsFrom (plan : OutputPlan) (txns : List Transaction) (least : ℕ) (image : Image) : Type 0 where
  pub count : ℕ
  pub reached : least ≤ count
  pub keeps : KeepsOut plan txns count image

-- a unit is that of the transaction behind the first so many
pub record IsUnitAt (plan : OutputPlan) (txns : List Transaction) (count : ℕ) (unit : OutputUnit) : Type 0 where
  pub txn : Transaction
  pub there : slice_get txns count ≡ Some txn
  pub is : unit ≡ unit_of plan.rules plan.rotation txn (layout_of plan.rules plan.rotation (take count txns))
  pub number : unit.number ≡ count + 1
