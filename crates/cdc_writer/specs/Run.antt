-- What is written at a spot, and the unit of it.
use Rattle.std.specs.Prelude.{◌+◌, List, [], ◌++◌, ℕ, length, if◌then◌else◌}
use Rattle.cdc_base.specs.declared.rename.Rename.{Rename}
use Rattle.cdc_model.specs.declared.layout.Layout.{Layout}
use Rattle.cdc_model.specs.Layout.{next_file, next_place}
use Rattle.cdc_model.specs.Records.{Transaction, OutputUnit}
use Rattle.cdc_model.specs.Print.{printed_bytes, printed_length}
use Rattle.cdc_model.specs.Output.{file_head, rotate_event}
use Rattle.cdc_writer.specs.declared.spot.Spot.{Spot}

-- the head where one is due, the print, and ROTATE where the file closes
abbrev pub run_at : List Rename → Transaction → Spot → List ℕ
run_at rules txn spot =
    (if spot.head then file_head else [])
    ++ (printed_bytes rules txn spot.at ++ (if spot.closes then rotate_event (spot.at + printed_length rules txn) (spot.file + 1) else []))

-- the unit of a run that is written at a spot
abbrev pub unit_at : Transaction → Layout → Spot → List ℕ → OutputUnit
unit_at txn before spot run = record {
  number = txn.number;
  key = txn.key;
  before = before;
  after = record { file = next_file before; length = next_place before + length run; closed = spot.closes };
  bytes = run;
}
