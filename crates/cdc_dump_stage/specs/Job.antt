-- A stage with its disk, as the driver turns it.
use Rattle.std.specs.Prelude.{◌≤◌, IsTrue, List}
use Rattle.cdc_turns.specs.Account.{Taker}
use Rattle.cdc_turns.specs.Ends.{EndsAs}
use Rattle.cdc_item.specs.declared.dump_item.DumpItem.{DumpItem}
use Rattle.cdc_item.specs.Item.{closes_dump_window}
use Rattle.cdc_dump_stage.specs.declared.stage.DumpStage.{DumpStage}
use Rattle.cdc_dump_stage.specs.Disks.{DiskWords}
use Rattle.cdc_dump_stage.specs.Taking.{Went}
use Rattle.cdc_dump_stage.specs.Standing.{Carries, FailsBy}

-- a stage and its disk
pub record StagedDisk (D : Type 0) : Type 0 where
  pub stage : DumpStage
  pub disk : D

-- these, as one
abbrev pub staged : {D : Type 0} → DumpStage → D → StagedDisk D
staged stage disk = record { stage = stage; disk = disk }

-- over turns that took these items: the output loses nothing and is ready for what follows, the count of faults doesn't
-- fall, the stage failed by the disk only where it rose, and it came to where the items lead
pub record HasGone {D : Type 0} (w : DiskWords D) (old : StagedDisk D) (items : List DumpItem) (new : StagedDisk D) : Type 0 where
  pub carries : IsTrue w.tells → Carries w old.stage old.disk items new.stage new.disk
  pub later : w.faults old.disk ≤ w.faults new.disk
  pub fails : FailsBy w old.stage old.disk new.stage new.disk
  pub went : Went old.stage.end old.stage.dumper.appended items new.stage.end new.stage.dumper.appended

-- what a job tells of itself: a turn takes one item, and that is all its work
abbrev pub dump_account : {D : Type 0} → DiskWords D → Taker (StagedDisk D) DumpItem
dump_account w = record {
  got = λ job window items. EndsAs closes_dump_window window job.stage.ended items;
  ended = λ job. job.stage.ended;
  work = λ _. 0;
  price = 1;
  turned = λ old items new. HasGone w old items new;
}
