use Rattle.std.proofs.Common.{rules, ◌≡◌, subst}
use Rattle.cdc_event.specs.declared.fault.EventFault.TheVariants.{BadFormat}
use Rattle.cdc_event.specs.File.{IsFaulty}
use Rattle.cdc_cutter.specs.Pending.{pending_bytes}
use Rattle.cdc_event.proofs.FilePieces.{misplaced, whole_fault, whole_event}
use Rattle.cdc_cutter.proofs.whole.read_piece.Goals as goal

pub returns-then-header-ne-FORMAT-clause-fault : goal.returns-then-header-ne-FORMAT-clause-fault
returns-then-header-ne-FORMAT-clause-fault c = λ fault e.
    let same : BadFormat ≡ fault = cc in
    subst (IsFaulty c.args.first c.args.checksum (pending_bytes c.args.pending.now)) same (misplaced c.args.first c.args.checksum (pending_bytes c.args.pending.now) c.args.header.now c.requires.begins c.requires.length c.requires.whole (search rules))

pub returns-clause-event : goal.returns-clause-event
returns-clause-event c =
    whole_event c.read_owned_body.result c.args.first c.args.checksum (pending_bytes c.args.pending.now) c.in_ok-body.body c.args.header.now c.requires.begins c.requires.length c.requires.whole c.in_ok-body.ensures.part (search rules) c.read_owned_body.ensures.event c.read_owned_body.ensures.known

pub returns-clause-fault : goal.returns-clause-fault
returns-clause-fault c = λ fault e.
    whole_fault c.args.first c.args.checksum (pending_bytes c.args.pending.now) c.in_ok-body.body c.args.header.now fault c.requires.begins c.requires.length c.requires.whole c.in_ok-body.ensures.part (search rules) ((c.read_owned_body.ensures.fault fault).0 e)
