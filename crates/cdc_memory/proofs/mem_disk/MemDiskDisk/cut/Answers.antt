use Rattle.std.proofs.Common.{◌≡◌, ℕ, List, take, inr, ◌∙◌, sym, ap, refl, true≢false}
use Rattle.cdc_outside.specs.Disk.{Image, with_file}
use Rattle.cdc_memory.specs.DiskFiles.{content_of}
use Rattle.cdc_memory.specs.Replay.{Holding, holding_of, after_step}
use Rattle.cdc_memory.specs.declared.disk_record.DiskStep.{DiskStep}
use Rattle.cdc_memory.specs.declared.disk_record.DiskStep.TheVariants.{Cut}
use Rattle.cdc_memory.proofs.Replays.{stepped, time_stepped, files_changed}
use Rattle.cdc_memory.proofs.mem_disk.MemDiskDisk.cut.Goals as goal

pub invariant_of-self-2 : goal.invariant_of-self-2
invariant_of-self-2 c =
    let start : Image = content_of c.args.self.now.start.files.items in
    let steps : List DiskStep = c.args.self.now.history.steps.items in
    let more : List DiskStep = c.note_cut.new.self.steps.items in
    let file = c.args.file in
    let held : Holding = holding_of start steps in
    let after : holding_of start more ≡ after_step held (Cut c.args.file c.args.to) = stepped start steps more (Cut c.args.file c.args.to) c.note_cut.ensures.steps in
    let now : content_of c.cut.new.self.files.items ≡ with_file file (take c.args.to (held.seen file)) held.seen =
    files_changed (content_of c.args.self.now.files.files.items) (content_of c.cut.new.self.files.items) file (λ (l : List ℕ). take c.args.to l) held.seen c.args.self.now.as_seen c.cut.ensures.content in
    record {
      same_room = c.note_cut.ensures.room ∙ c.args.self.now.same_room ∙ sym c.cut.ensures.room;
      synced_room = c.cut.ensures.room ∙ c.args.self.now.synced_room;
      same_number = c.args.self.now.same_number ∙ sym c.cut.ensures.number;
      as_seen = λ other. ap (λ (f : Image). f other) (now ∙ refl) ∙ sym (ap (λ (h : Holding). h.seen other) after);
      as_synced = λ other. c.args.self.now.as_synced other ∙ sym (ap (λ (h : Holding). h.last_sync other) after);
      still = λ no. absurd (true≢false (sym c.note_cut.ensures.changed ∙ no));
      nothing = λ no. absurd (true≢false (sym c.note_cut.ensures.changed ∙ no));
    }

pub returns-clause-seen : goal.returns-clause-seen
returns-clause-seen c =
    let start : Image = content_of c.args.self.now.start.files.items in
    let steps : List DiskStep = c.args.self.now.history.steps.items in
    let more : List DiskStep = c.note_cut.new.self.steps.items in
    let file = c.args.file in
    let held : Holding = holding_of start steps in
    let after : holding_of start more ≡ after_step held (Cut c.args.file c.args.to) = stepped start steps more (Cut c.args.file c.args.to) c.note_cut.ensures.steps in
    ap (λ (h : Holding). h.seen) after

pub returns-clause-pending : goal.returns-clause-pending
returns-clause-pending c =
    let start : Image = content_of c.args.self.now.start.files.items in
    let steps : List DiskStep = c.args.self.now.history.steps.items in
    let more : List DiskStep = c.note_cut.new.self.steps.items in
    let file = c.args.file in
    let held : Holding = holding_of start steps in
    let after : holding_of start more ≡ after_step held (Cut c.args.file c.args.to) = stepped start steps more (Cut c.args.file c.args.to) c.note_cut.ensures.steps in
    inr (ap (λ (h : Holding). h.pending) after)

pub returns-clause-time : goal.returns-clause-time
returns-clause-time c =
    time_stepped (content_of c.args.self.now.start.files.items) c.args.self.now.history.steps.items c.note_cut.new.self.steps.items (Cut c.args.file c.args.to) c.note_cut.ensures.steps
