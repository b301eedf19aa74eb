use Rattle.std.proofs.Common.{◌≡◌, List, [], length, sym, ◌∙◌, ap, subst}
use Rattle.cdc_outside.specs.Disk.{Image, MayLeave}
use Rattle.cdc_memory.specs.DiskFiles.{content_of}
use Rattle.cdc_memory.specs.MemDisk.{start_of, steps_of, held_by}
use Rattle.cdc_memory.specs.Moments.{stays_from_rest}
use Rattle.cdc_memory.specs.Replay.{Holding, holding_of}
use Rattle.cdc_memory.specs.declared.disk_record.DiskStep.{DiskStep}
use Rattle.cdc_memory.proofs.Picks.{pick_is_image}
use Rattle.cdc_memory.proofs.mem_disk.MemDisk.after_crash.Goals as goal

pub invariant_of-result : goal.invariant_of-result
invariant_of-result c =
    let start : Image = content_of c.in_ok-start.start.files.items in
    let none : c.in_ok-new.field-0.steps.items ≡ [] = c.in_ok-new.ensures.steps in
    record {
      same_room = c.in_ok-new.ensures.room ∙ c.room.ensures ∙ sym (c.in_ok-copy-2.ensures.room ∙ c.in_ok-start.ensures.room);
      synced_room = c.in_ok-copy-2.ensures.room ∙ sym c.in_ok-copy.ensures.room;
      same_number = c.in_ok-copy.ensures.number ∙ sym c.in_ok-copy-2.ensures.number;
      as_seen = λ file. ap (λ (f : Image). f file) c.in_ok-copy-2.ensures.content ∙ sym (ap (λ (l : List DiskStep). (holding_of start l).seen file) none);
      as_synced = λ file. ap (λ (f : Image). f file) c.in_ok-copy.ensures.content ∙ sym (ap (λ (l : List DiskStep). (holding_of start l).last_sync file) none);
      still = λ no file. ap (λ (l : List DiskStep). (holding_of start l).last_sync file) none ∙ sym (ap (λ (l : List DiskStep). (holding_of start l).seen file) none);
      nothing = λ no file. ap (λ (l : List DiskStep). length ((holding_of start l).pending file)) none;
    }

pub returns-clause-image : goal.returns-clause-image
returns-clause-image c =
    let disk = c.args.self.now in
    let held : Holding = held_by disk in
    λ file. subst (λ l. MayLeave (held.last_sync file) (held.pending file) l) (sym (c.in_ok-start.ensures.content file))
    (pick_is_image c.args.pick held (stays_from_rest (start_of disk) (steps_of disk)) file)
