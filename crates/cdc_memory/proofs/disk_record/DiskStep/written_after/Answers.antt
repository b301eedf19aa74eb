use Rattle.std.proofs.Common.{◌≡◌, sym, subst}
use Rattle.cdc_outside.specs.Disk.{is_written}
use Rattle.cdc_memory.specs.Replay.{after_step}
use Rattle.cdc_memory.specs.declared.disk_record.DiskStep.{DiskStep}
use Rattle.cdc_memory.proofs.Replays.{written_by, written_cut}
use Rattle.cdc_memory.proofs.disk_record.DiskStep.written_after.Goals as goal

pub returns-in-Write : goal.returns-in-Write
returns-in-Write c = λ holding was.
    subst (λ (s : DiskStep). c.is_now_written.result ≡ is_written c.args.place ((after_step holding s).pending c.args.file)) (sym c.in-Write.is)
    (written_by c.args.file c.in-Write.other c.in-Write.at c.args.place c.bytes.result.now c.in-Write.piece.bytes.items holding.pending c.args.written c.is_same_file-same.result c.covers.result c.is_now_written.result
    was c.is_same_file-same.ensures c.covers.ensures c.bytes.ensures.bytes c.is_now_written.ensures)

pub returns-in-Cut : goal.returns-in-Cut
returns-in-Cut c = λ holding was.
    subst (λ (s : DiskStep). c.args.written ≡ is_written c.args.place ((after_step holding s).pending c.args.file)) (sym c.in-Cut.is)
    (written_cut c.args.file c.in-Cut.field-0 c.in-Cut.field-1 c.args.place holding.pending c.args.written was)
