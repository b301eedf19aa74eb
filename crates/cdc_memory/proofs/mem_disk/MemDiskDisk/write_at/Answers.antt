use Rattle.std.proofs.Common.{◌≡◌, ℕ, List, [], ◌∷◌, ◌++◌, length, inr, ◌∙◌, sym, ap, true≢false}
use Rattle.cdc_outside.specs.Disk.{Image, Wrote, with_file, overwritten}
use Rattle.cdc_memory.specs.DiskFiles.{content_of}
use Rattle.cdc_memory.specs.Replay.{Holding, holding_of, after_step}
use Rattle.cdc_memory.specs.declared.disk_record.DiskStep.{DiskStep}
use Rattle.cdc_memory.specs.declared.disk_record.DiskStep.TheVariants.{Write}
use Rattle.cdc_memory.proofs.Replays.{stepped, time_stepped, files_changed}
use Rattle.cdc_memory.proofs.mem_disk.MemDiskDisk.write_at.Goals as goal

pub invariant_of-self-2 : goal.invariant_of-self-2
invariant_of-self-2 c =
    let start : Image = content_of c.args.self.now.start.files.items in
    let steps : List DiskStep = c.args.self.now.history.steps.items in
    let more : List DiskStep = c.note_write.new.self.steps.items in
    let file = c.args.file in
    let held : Holding = holding_of start steps in
    let after : holding_of start more ≡ after_step held (Write c.args.file c.args.at c.note_write.ensures.steps.0) = stepped start steps more (Write c.args.file c.args.at c.note_write.ensures.steps.0) c.note_write.ensures.steps.2 in
    let now : content_of c.write.new.self.files.items ≡ with_file file (overwritten c.args.at c.args.from.now (held.seen file)) held.seen =
    files_changed (content_of c.args.self.now.files.files.items) (content_of c.write.new.self.files.items) file (λ (l : List ℕ). overwritten c.args.at c.args.from.now l) held.seen c.args.self.now.as_seen c.write.ensures.content in
    record {
      same_room = c.note_write.ensures.room ∙ c.args.self.now.same_room ∙ sym c.write.ensures.room;
      synced_room = c.write.ensures.room ∙ c.args.self.now.synced_room;
      same_number = c.args.self.now.same_number ∙ sym c.write.ensures.number;
      as_seen = λ other. ap (λ (f : Image). f other) (now ∙ sym (ap (λ (l : List ℕ). with_file file (overwritten c.args.at l (held.seen file)) held.seen) c.note_write.ensures.steps.1)) ∙ sym (ap (λ (h : Holding). h.seen other) after);
      as_synced = λ other. c.args.self.now.as_synced other ∙ sym (ap (λ (h : Holding). h.last_sync other) after);
      still = λ no. absurd (true≢false (sym c.note_write.ensures.changed ∙ no));
      nothing = λ no. absurd (true≢false (sym c.note_write.ensures.changed ∙ no));
    }

pub returns-clause-seen : goal.returns-clause-seen
returns-clause-seen c =
    let start : Image = content_of c.args.self.now.start.files.items in
    let steps : List DiskStep = c.args.self.now.history.steps.items in
    let more : List DiskStep = c.note_write.new.self.steps.items in
    let file = c.args.file in
    let held : Holding = holding_of start steps in
    let after : holding_of start more ≡ after_step held (Write c.args.file c.args.at c.note_write.ensures.steps.0) = stepped start steps more (Write c.args.file c.args.at c.note_write.ensures.steps.0) c.note_write.ensures.steps.2 in
    ap (λ (h : Holding). h.seen) after ∙ sym (sym (ap (λ (l : List ℕ). with_file file (overwritten c.args.at l (held.seen file)) held.seen) c.note_write.ensures.steps.1))

pub returns-clause-pending : goal.returns-clause-pending
returns-clause-pending c =
    let start : Image = content_of c.args.self.now.start.files.items in
    let steps : List DiskStep = c.args.self.now.history.steps.items in
    let more : List DiskStep = c.note_write.new.self.steps.items in
    let file = c.args.file in
    let held : Holding = holding_of start steps in
    let after : holding_of start more ≡ after_step held (Write c.args.file c.args.at c.note_write.ensures.steps.0) = stepped start steps more (Write c.args.file c.args.at c.note_write.ensures.steps.0) c.note_write.ensures.steps.2 in
    inr (ap (λ (h : Holding). h.pending) after ∙ ap (λ (l : List ℕ). with_file file (held.pending file ++ Wrote c.args.at (length l) ∷ []) held.pending) c.note_write.ensures.steps.1)

pub returns-clause-time : goal.returns-clause-time
returns-clause-time c =
    time_stepped (content_of c.args.self.now.start.files.items) c.args.self.now.history.steps.items c.note_write.new.self.steps.items (Write c.args.file c.args.at c.note_write.ensures.steps.0) c.note_write.ensures.steps.2
