-- Disks that have nothing, and a pass over them.
use Rattle.std.proofs.Common.{◌≡◌, ◌≤◌, ℕ, true, List, [], ◌∷◌, length, map, Option, None, refl, sym, subst, ap, ◌∙◌, arith}
use Rattle.std.specs.List.{AllZip, AllByRecursion}
use Rattle.cdc_outside.specs.declared.disk_file.DiskFile.{DiskFile}
use Rattle.cdc_outside.specs.declared.disk_file.DiskFile.TheVariants.{Log}
use Rattle.cdc_outside.specs.Disk.{Image, MayLeave}
use Rattle.cdc_memory.specs.declared.mem_disk.MemDisk.{MemDisk}
use Rattle.cdc_memory.specs.declared.source.PureSource.{PureSource}
use Rattle.cdc_memory.specs.MemDisk.{start_of, steps_of, held_by, disk_calls_of}
use Rattle.cdc_memory.specs.Source.{pure_held_files, pure_lowest_of}
use Rattle.cdc_memory.specs.Replay.{at_rest, holding_of, LeavesNow, LeavesSince}
use Rattle.cdc_memory.specs.declared.disk_record.DiskStep.{DiskStep}
use Rattle.cdc_model.specs.declared.node_log.NodeLog.{NodeLog}
use Rattle.cdc_model.specs.Growth.{IsReadWhole}
use Rattle.cdc_model.specs.Records.{Transaction}
use Rattle.cdc_recovery.specs.Laws.{NothingIsKept, NoTaskIsKept}
use Rattle.cdc_recovery.specs.Outputs.{OutputPlan, planned_transactions, KeepsOut, KeepsFrom}
use Rattle.cdc_recovery.specs.Checkpoints.{KeepsPoint}
use Rattle.cdc_recovery.specs.Growing.{Each}
use Rattle.cdc_records.specs.declared.checkpoint.Checkpoint.{Checkpoint}
use Rattle.cdc_dump_stage.specs.Disks.{DiskWords, disk_words}
use Rattle.cdc_node_stage.specs.Job.{SourceWords, source_words}
use Rattle.cdc_headline.specs.Running.{IsPassOver}
use Rattle.cdc_pass.specs.Starting.{IsClear}
use Rattle.cdc_drill.specs.Attempts.{IsBlankDisk}

-- the members of a source in memory, as one
abbrev pub pure_words : SourceWords PureSource
pure_words = source_words true pure_held_files (λ source. map length (pure_held_files source)) pure_lowest_of (λ source. 0)

-- the members of a disk in memory, as one
abbrev pub memory_words : DiskWords MemDisk
memory_words =
    disk_words true (λ disk. (held_by disk).seen) (λ disk. (held_by disk).last_sync) (λ disk. (held_by disk).pending) (λ disk. LeavesNow (held_by disk)) (λ disk. length (steps_of disk))
    (λ disk. LeavesSince (at_rest (start_of disk)) (steps_of disk)) (λ disk. (disk_calls_of disk).faults)

no_bytes : (bytes : List ℕ) → length bytes ≤ 0 → bytes ≡ []
no_bytes [] h = refl
no_bytes (x ∷ bytes) h = absurd (omega (arith, h))

-- a crash leaves nothing of it
left_of_fresh : (disk : MemDisk) (image : Image) → IsBlankDisk disk → LeavesNow (held_by disk) image → (file : DiskFile) → image file ≡ []
left_of_fresh disk image fresh left file =
    let rest : MayLeave (start_of disk file) [] (image file) =
    subst (λ (steps : List DiskStep). MayLeave ((holding_of (start_of disk) steps).last_sync file) ((holding_of (start_of disk) steps).pending file) (image file)) fresh.untouched (left file) in
    let none : MayLeave [] [] (image file) = subst (λ (bytes : List ℕ). MayLeave bytes [] (image file)) (fresh.empty file) rest in
    no_bytes (image file) none.no_longer

-- an image whose files are all empty
all_empty : (image : Image) → ((file : DiskFile) → image file ≡ []) → image ≡ (λ file. [])
all_empty image each = λ i file. each file i

-- and a read finds nothing
seen_of_fresh : (disk : MemDisk) → IsBlankDisk disk → (file : DiskFile) → (held_by disk).seen file ≡ []
seen_of_fresh disk fresh file = ap (λ (steps : List DiskStep). (holding_of (start_of disk) steps).seen file) fresh.untouched ∙ fresh.empty file

pub fresh_are_clear : (disks : List MemDisk) → AllByRecursion IsBlankDisk disks → AllByRecursion (λ (disk : MemDisk). IsClear ((held_by disk).seen)) disks
fresh_are_clear [] fresh = tt
fresh_are_clear (disk ∷ disks) fresh = (λ front found other above. seen_of_fresh disk fresh.0 (Log other), fresh_are_clear disks fresh.1)

-- such an output is recoverable
keeps_nothing : NothingIsKept → (plan : OutputPlan) (txns : List Transaction) (disk : MemDisk) → IsBlankDisk disk → Each (LeavesNow (held_by disk)) (KeepsFrom plan txns 0)
keeps_nothing law plan txns disk fresh image left = record {
  count = 0;
  reached = omega arith;
  keeps = subst (λ (at : Image). KeepsOut plan txns 0 at) (sym (all_empty image (left_of_fresh disk image fresh left))) (law plan txns);
}

outs_keep : NothingIsKept → (plan : OutputPlan) (txns : List Transaction) (disks : List MemDisk) → AllByRecursion IsBlankDisk disks
    → AllByRecursion (λ (disk : MemDisk). Each (LeavesNow (held_by disk)) (KeepsFrom plan txns 0)) disks
outs_keep law plan txns [] fresh = tt
outs_keep law plan txns (disk ∷ disks) fresh = (keeps_nothing law plan txns disk fresh.0, outs_keep law plan txns disks fresh.1)

-- and so is such a task
task_keeps : NoTaskIsKept → (plan : OutputPlan) (logs : List NodeLog) (disk : MemDisk) → IsBlankDisk disk
    → Each (LeavesNow (held_by disk)) (λ (image : Image). (point : Option Checkpoint) × KeepsPoint plan logs point image)
task_keeps law plan logs disk fresh image left = (None, subst (λ (at : Image). KeepsPoint plan logs None at) (sym (all_empty image (left_of_fresh disk image fresh left))) (law plan logs))

-- so a pass may begin over them
pub fresh_begins : NothingIsKept → NoTaskIsKept → (plan : OutputPlan) (logs : List NodeLog) (nodes : List PureSource) (outs : List MemDisk) (task : MemDisk)
    → AllByRecursion IsBlankDisk outs → IsBlankDisk task → AllZip IsReadWhole (map pure_held_files nodes) logs → IsPassOver pure_words memory_words plan logs nodes outs task
fresh_begins nothing none plan logs nodes outs task fresh_outs fresh_task whole =
    record { whole = whole; outs_kept = outs_keep nothing plan (planned_transactions plan logs) outs fresh_outs; task_kept = task_keeps none plan logs task fresh_task }
