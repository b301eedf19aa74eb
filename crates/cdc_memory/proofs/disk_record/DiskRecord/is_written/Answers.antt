use Rattle.std.proofs.Common.{◌≡◌, ◌∙◌, sym, ap, take, get_or, length, ◌<◌, List, subst}
use Rattle.cdc_outside.specs.Disk.{is_written}
use Rattle.cdc_memory.specs.Replay.{Holding, at_rest, after_steps}
use Rattle.cdc_memory.specs.declared.disk_record.DiskStep.{DiskStep}
use Rattle.cdc_memory.proofs.Replays.{replayed_next}
use Rattle.cdc_memory.proofs.disk_record.DiskRecord.is_written.Goals as goal

pub loop-step-preserved : goal.loop-step-preserved
loop-step-preserved c = λ image.
    let steps = c.args.self.now.steps.items in
    let index = c.loop-step.step-index in
    let items : c.deref-step-items.result.now ≡ steps = c.deref-step-items.ensures.value in
    let within : index < length steps = subst (λ (l : List DiskStep). index < length l) items c.loop-step-test.true in
    let is : c.step-item.result ≡ get_or steps index c.step-item.result = c.step-item.is ∙ ap (λ (l : List DiskStep). get_or l index c.step-item.result) items in
    c.written_after-written.ensures (after_steps (at_rest image) (take index steps)) (c.loop-step.invariant image)
    ∙ sym (ap (λ (h : Holding). is_written c.args.place (h.pending c.args.file)) (replayed_next (at_rest image) steps index c.step-item.result within is))
