-- How a stage and its disk stand, and what a turn did.
use Rattle.std.specs.Prelude.{◌≡◌, ℕ, ◌+◌, ◌^◌, ◌≤◌, ◌<◌, ◌⊎◌, true, false, IsTrue, List, [], ◌∷◌, ⊤, OnOk, Result}
use Rattle.cdc_outside.specs.Count.{Rose}
use Rattle.cdc_outside.specs.Disk.{Image}
use Rattle.cdc_model.specs.Records.{Transaction}
use Rattle.cdc_dumper.specs.State.{DumperState, Stands}
use Rattle.cdc_recovery.specs.Outputs.{OutputPlan, IsFrontOf, IsUnitAt}
use Rattle.cdc_turns.specs.declared.turn.Turn.{Turn}
use Rattle.cdc_turns.specs.declared.turn.Turn.TheVariants.{Moved, Blocked, Done}
use Rattle.cdc_item.specs.declared.dump_item.DumpItem.{DumpItem}
use Rattle.cdc_item.specs.declared.dump_item.DumpItem.TheVariants.{Unit as OneUnit, End}
use Rattle.cdc_item.specs.Item.{closes_dump_window}
use Rattle.cdc_dump_stage.specs.declared.dump_end.DumpEnd.TheVariants.{Whole, Disk}
use Rattle.cdc_dump_stage.specs.declared.stage.DumpStage.{DumpStage}
use Rattle.cdc_dump_stage.specs.Disks.{DiskWords, LosesNothing}
use Rattle.cdc_dump_stage.specs.Taking.{is_well, Leads}

-- a stage and its disk as turns leave them: the dumper works and the disk is as it left it, where nothing failed; fewer than
-- 4,096 units and at most 8 MiB wait to be published, and none where the stage is whole
pub record IsStanding {D : Type 0} (w : DiskWords D) (stage : DumpStage) (disk : D) : Type 0 where
  pub works : is_well stage.end ≡ true → stage.dumper.failed ≡ false
  pub stands : IsTrue w.tells → is_well stage.end ≡ true → Stands stage.dumper (w.seen disk) (w.synced disk) (w.pending disk)
  pub few : is_well stage.end ≡ true → stage.dumper.appended.count < stage.dumper.published.count + 4_096
  pub small : stage.waiting ≤ 8_388_608
  pub whole : stage.end ≡ Whole → (stage.ended ≡ true) × (stage.dumper.appended ≡ stage.dumper.published)

-- both Fronts of a dumper are those of the first transactions
pub record AreFrontsOf (plan : OutputPlan) (txns : List Transaction) (dumper : DumperState) (image : Image) : Type 0 where
  pub published : IsFrontOf plan txns dumper.published image
  pub appended : IsFrontOf plan txns dumper.appended image

-- a stage that works has at least so many of these transactions, appended or published
pub record IsWorking {D : Type 0} (w : DiskWords D) (plan : OutputPlan) (txns : List Transaction) (sent : ℕ) (stage : DumpStage) (disk : D) : Type 0 where
  pub well : is_well stage.end ≡ true
  pub fronts : AreFrontsOf plan txns stage.dumper (w.seen disk)
  pub counted : sent ≤ stage.dumper.appended.count

-- a stage is ready for the unit behind the first so many: it works, or the disk failed; so it refuses none
abbrev pub IsReadyFor : {D : Type 0} → DiskWords D → OutputPlan → List Transaction → ℕ → DumpStage → D → Type 0
IsReadyFor w plan txns sent stage disk = IsWorking w plan txns sent stage disk ⊎ (stage.end ≡ Disk)

-- how many units items have
abbrev pub units_in : List DumpItem → ℕ
units_in [] = 0
units_in (OneUnit unit ∷ items) = units_in items + 1
units_in (End ∷ items) = units_in items

-- the units among items are those of the next transactions behind the first so many
abbrev pub AreUnits : OutputPlan → List Transaction → ℕ → List DumpItem → Type 0
AreUnits plan txns sent [] = ⊤
AreUnits plan txns sent (OneUnit unit ∷ items) = IsUnitAt plan txns sent unit × (unit.number ≤ 2 ^ 62) × AreUnits plan txns (sent + 1) items
AreUnits plan txns sent (End ∷ items) = AreUnits plan txns sent items

-- over a run in which a stage took these items, the output loses nothing at any moment; and it is ready for what follows
pub record CarriesOn {D : Type 0} (w : DiskWords D) (plan : OutputPlan) (txns : List Transaction) (sent : ℕ) (items : List DumpItem) (old_disk : D) (stage : DumpStage) (disk : D) : Type 0 where
  pub keeps : LosesNothing w plan txns old_disk disk
  pub ready : IsReadyFor w plan txns (sent + units_in items) stage disk

-- whatever transactions they are of
abbrev pub Carries : {D : Type 0} → DiskWords D → DumpStage → D → List DumpItem → DumpStage → D → Type 0
Carries w old old_disk items new disk = (plan : OutputPlan) (txns : List Transaction) (sent : ℕ)
    → IsReadyFor w plan txns sent old old_disk → AreUnits plan txns sent items → CarriesOn w plan txns sent items old_disk new disk

-- a write into the output: nothing that it keeps is lost, and where it was done both Fronts are those of the transactions
pub record IsKept {D A E : Type 0} (w : DiskWords D) (plan : OutputPlan) (txns : List Transaction) (old disk : D) (dumper : DumperState) (result : Result A E) : Type 0 where
  pub keeps : LosesNothing w plan txns old disk
  pub fronts : OnOk result (AreFrontsOf plan txns dumper (w.seen disk))

-- a disk fails a stage only where its count rose
abbrev pub FailsBy : {D : Type 0} → DiskWords D → DumpStage → D → DumpStage → D → Type 0
FailsBy w old old_disk new disk = new.end ≡ Disk → (old.end ≡ Disk) ⊎ Rose (w.faults old_disk) (w.faults disk)

-- an item was taken, and the window has ended where it is an End
pub record HasTaken (old : DumpStage) (items : List DumpItem) (new : DumpStage) : Type 0 where
  pub item : DumpItem
  pub one : items ≡ item ∷ []
  pub ended : new.ended ≡ closes_dump_window item
  pub leads : Leads old.end old.dumper.appended item new.end new.dumper.appended

-- what a turn's answer says: an item was taken, or nothing was done since the lane was empty or the window had ended
abbrev pub IsTurn : DumpStage → List DumpItem → DumpStage → Turn → Type 0
IsTurn old items new Moved = (old.ended ≡ false) × HasTaken old items new
IsTurn old items new Blocked = (old.ended ≡ false) × (items ≡ []) × (new ≡ old)
IsTurn old items new Done = (old.ended ≡ true) × (items ≡ []) × (new ≡ old)
