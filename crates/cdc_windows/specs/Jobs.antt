-- The jobs of outputs that were opened.
use Rattle.std.specs.Prelude.{◌≡◌, ℕ, false, IsTrue, List, Option, Some, None}
use Rattle.cdc_base.specs.declared.key.Key.{Key}
use Rattle.cdc_model.specs.Records.{Transaction}
use Rattle.cdc_model.specs.Transaction.{key_at}
use Rattle.cdc_dumper.specs.State.{DumperState, Stands}
use Rattle.cdc_records.specs.declared.checkpoint.Checkpoint.{Checkpoint}
use Rattle.cdc_task.specs.declared.start.Start.{Start}
use Rattle.cdc_task.specs.declared.start.Start.TheVariants.{First, Cut}
use Rattle.cdc_dump_stage.specs.Disks.{DiskWords}
use Rattle.cdc_dump_stage.specs.Taking.{StartsAs}
use Rattle.cdc_dump_stage.specs.Job.{StagedDisk}

-- a dumper works, has nothing that waits to be published, and its disk is as it left it
pub record IsReadyOut {D : Type 0} (w : DiskWords D) (dumper : DumperState) (disk : D) : Type 0 where
  pub works : dumper.failed ≡ false
  pub settled : dumper.appended ≡ dumper.published
  pub stands : IsTrue w.tells → Stands dumper (w.seen disk) (w.synced disk) (w.pending disk)

-- the job of a dumper and its disk, before the first window of a pass that goes on from so many transactions with this last key
pub record IsJobOf {D : Type 0} (start : Option (ℕ × Key)) (dumper : DumperState) (disk : D) (job : StagedDisk D) : Type 0 where
  pub of_dumper : job.stage.dumper ≡ dumper
  pub of_disk : job.disk ≡ disk
  pub starts : StartsAs dumper.published start job.stage.end
  pub fresh : job.stage.ended ≡ false

-- the last key with which a pass goes on is that of the transaction with this count
abbrev pub StartsSoundly : List Transaction → Option (ℕ × Key) → Type 0
StartsSoundly txns start = (count : ℕ) (key : Key) → start ≡ Some (count, key) → key ≡ key_at txns count

-- from how many transactions, and behind which key, a pass goes on
abbrev pub pass_start : Option Checkpoint → Start → Option (ℕ × Key)
pass_start None start = None
pass_start (Some point) First = None
pass_start (Some point) Cut = Some (point.count, point.last)
