use Rattle.std.proofs.Common.{◌≡◌, ◌∙◌, sym, subst}
use Rattle.cdc_outside.specs.Disk.{shortest}
use Rattle.cdc_memory.specs.Replay.{after_step}
use Rattle.cdc_memory.specs.declared.disk_record.DiskStep.{DiskStep}
use Rattle.cdc_memory.proofs.Replays.{shortest_then_wrote, shortest_then_cut}
use Rattle.cdc_memory.proofs.disk_record.DiskStep.shortest_after.Goals as goal

pub returns-in-Write : goal.returns-in-Write
returns-in-Write c = λ holding was.
    subst (λ (s : DiskStep). c.args.least ≡ shortest c.args.synced ((after_step holding s).pending c.args.file)) (sym c.in-Write.is)
    (shortest_then_wrote c.args.file c.in-Write.field-0 c.in-Write.field-1 _ c.args.synced c.args.least holding.pending was)

pub returns-then-is_same_file : goal.returns-then-is_same_file
returns-then-is_same_file c = λ holding was.
    subst (λ (s : DiskStep). c.min.result ≡ shortest c.args.synced ((after_step holding s).pending c.args.file)) (sym c.in-Cut.is)
    (c.min.ensures ∙ shortest_then_cut c.args.file c.in-Cut.other c.in-Cut.to c.args.synced c.args.least holding.pending (sym c.is_same_file.ensures ∙ c.if-is_same_file.true) was)
