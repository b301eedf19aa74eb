-- What a cell's number says of the images of its disk.
use Rattle.std.proofs.Common.{◌≡◌, ℕ, ◌≤◌, List, [], ◌∷◌, length, sym, ap, subst, refl, arith}
use Rattle.std.specs.Prelude.{sum_by, option_map, Option, Some, None, Result, Ok, Err, OnOk}
use Rattle.std.proofs.lemmas.List.Sums.{sum_by-cons}
use Rattle.std.specs.List.{AllByRecursion}
use Rattle.cdc_outside.specs.Disk.{Image}
use Rattle.cdc_cell.specs.declared.cell.Cell.{Cell}
use Rattle.cdc_cell.specs.declared.cell.Kept.{Kept}
use Rattle.cdc_cell.specs.Cell.{Knows, known_of, number_in, cell_number_of}
use Rattle.cdc_cell.specs.Record.{CellRecord, kept_record}
use Rattle.cdc_model.specs.Restart.{RestartPoint}
use Rattle.cdc_records.specs.declared.checkpoint.Checkpoint.{Checkpoint}
use Rattle.cdc_records.specs.Checkpoint.{IsCut, IsPoint, point_number}
use Rattle.cdc_dump_stage.specs.Disks.{DiskWords}
use Rattle.cdc_windows.specs.declared.reached.Reached.{Reached}
use Rattle.cdc_windows.specs.Rereading.{Rereading}
use Rattle.cdc_windows.specs.Windows.{IsCheckpointOf, HasNumberFrom, IsOffered, IsLastKept}

-- entries are numbered from 1
entries_some : (points : List RestartPoint) → 1 ≤ length points → AllByRecursion IsCut points → 1 ≤ sum_by (λ (point : RestartPoint). point.entry) points
entries_some [] some cuts = absurd (omega (arith, some))
entries_some (point ∷ points) some cuts =
    let numbered = cuts.0.numbered in
    let sum = sum_by-cons (λ (p : RestartPoint). p.entry) point points in
    omega (arith, numbered, sum)

-- so the number of what a record may have isn't 0
number_some : (p : Checkpoint) → IsPoint p → 1 ≤ point_number p
number_some p is = let entries = entries_some p.nodes is.some is.cuts in omega (arith, entries)

-- where what is kept of a record has a number from 1 on, there is the record
kept_from : (least : ℕ) (kept : Option Kept) (found : Option CellRecord) → 1 ≤ least → least ≤ number_in kept → kept ≡ option_map known_of found → (is : CellRecord) × (found ≡ Some is) × (least ≤ is.number)
kept_from least kept None one low same = absurd (let none : number_in kept ≡ 0 = ap number_in same in omega (arith, one, low, none))
kept_from least kept (Some is) one low same = (is, refl, (let number : number_in kept ≡ is.number = ap number_in same in omega (arith, low, number)))

has_number : (least : ℕ) (cell : Cell) (image : Image) → Knows cell image → 1 ≤ least → least ≤ cell_number_of cell → HasNumberFrom least image
has_number least cell image knows one low =
    let found = kept_from least cell.kept (kept_record image) one low knows.kept in
    record { is = found.0; there = found.1; reached = found.2 }

-- where a checkpoint was kept, if its number was above the kept one's, it is offered
pub offered_by : {N T E : Type 0} (r : Rereading N) (rotation : ℕ) (nodes : List N) (came : Reached) (cell : Cell) (p : Checkpoint) (result : Result T E) → IsCheckpointOf r rotation nodes came p
    → (IsPoint p → OnOk result (point_number p ≤ cell_number_of cell)) → OnOk result (IsOffered r rotation nodes came cell)
offered_by r rotation nodes came cell p (Ok value) made kept = record { point = p; made = made; kept = kept }
offered_by r rotation nodes came cell p (Err error) made kept = tt

-- where a crash leaves only what is seen, each image has the record that the cell has
pub last_kept : {N D : Type 0} (w : DiskWords D) (r : Rereading N) (rotation : ℕ) (nodes : List N) (came : Reached) (task : D) (cell : Cell) → ((image : Image) → w.may_leave task image → image ≡ w.seen task)
    → Knows cell (w.seen task) → IsOffered r rotation nodes came cell → IsLastKept w r rotation nodes came task
last_kept w r rotation nodes came task cell only knows offered = record {
  point = offered.point;
  made = offered.made;
  kept = λ is image left.
      subst (λ (i : Image). HasNumberFrom (point_number offered.point) i) (sym (only image left)) (has_number (point_number offered.point) cell (w.seen task) knows (number_some offered.point is) (offered.kept is));
}
