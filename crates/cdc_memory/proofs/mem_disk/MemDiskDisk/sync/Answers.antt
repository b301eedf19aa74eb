use Rattle.std.proofs.Common.{◌≡◌, List, ◌∙◌, sym, ap}
use Rattle.cdc_outside.specs.declared.disk_file.DiskFile.{DiskFile}
use Rattle.cdc_outside.specs.Disk.{Image}
use Rattle.cdc_memory.specs.DiskFiles.{content_of}
use Rattle.cdc_memory.specs.Replay.{holding_of}
use Rattle.cdc_memory.specs.declared.disk_record.DiskStep.{DiskStep}
use Rattle.cdc_memory.proofs.Replays.{Synced, synced}
use Rattle.cdc_memory.proofs.mem_disk.MemDiskDisk.sync.Goals as goal

pub invariant_of-self-2 : goal.invariant_of-self-2
invariant_of-self-2 c =
    let start : Image = content_of c.args.self.now.start.files.items in
    let steps : List DiskStep = c.args.self.now.history.steps.items in
    let more : List DiskStep = c.note_sync.new.self.steps.items in
    let did : Synced start steps more = synced start steps more c.args.self.now.history.changed c.note_sync.ensures.steps c.args.self.now.still c.args.self.now.nothing in
    let as_seen : (file : DiskFile) → content_of c.args.self.now.files.files.items file ≡ (holding_of start more).seen file = λ file. c.args.self.now.as_seen file ∙ sym (ap (λ (f : Image). f file) did.seen) in
    record {
      same_room = c.note_sync.ensures.room ∙ c.args.self.now.same_room;
      synced_room = c.args.self.now.synced_room ∙ sym c.copy_from.ensures.room;
      same_number = c.copy_from.ensures.number ∙ c.args.self.now.same_number;
      as_seen = as_seen;
      as_synced = λ file. ap (λ (f : Image). f file) c.copy_from.ensures.content ∙ as_seen file ∙ sym (did.same file);
      still = λ no. did.same;
      nothing = λ no. did.nothing;
    }

pub returns-clause-crash : goal.returns-clause-crash
returns-clause-crash c =
    let start : Image = content_of c.args.self.now.start.files.items in
    let steps : List DiskStep = c.args.self.now.history.steps.items in
    let more : List DiskStep = c.note_sync.new.self.steps.items in
    let did : Synced start steps more = synced start steps more c.args.self.now.history.changed c.note_sync.ensures.steps c.args.self.now.still c.args.self.now.nothing in
    did.crash

pub returns-clause-time : goal.returns-clause-time
returns-clause-time c =
    let start : Image = content_of c.args.self.now.start.files.items in
    let steps : List DiskStep = c.args.self.now.history.steps.items in
    let more : List DiskStep = c.note_sync.new.self.steps.items in
    let did : Synced start steps more = synced start steps more c.args.self.now.history.changed c.note_sync.ensures.steps c.args.self.now.still c.args.self.now.nothing in
    did.time
