use Rattle.std.proofs.Common.{inl, inr, refl}
use Rattle.cdc_cell.specs.Reading.{IsLeftAlone}
use Rattle.cdc_cell.proofs.Alone.{alone_yet}
use Rattle.cdc_list.proofs.Zips.{zip_yet, later_yet}
use Rattle.cdc_top.proofs.list_call.list_outs.Goals as goal

pub returns-in-Ok-clause-ended : goal.returns-in-Ok-clause-ended
returns-in-Ok-clause-ended g c =
    inr record { end = c.list.result; found_is = c.findings_of_list.ensures; accepted = c.in-Ok.ensures.read; ended = c.list.ensures.ended }

pub returns-in-Err-clause-ended : goal.returns-in-Err-clause-ended
returns-in-Err-clause-ended g c =
    inl record { why = c.in-Err.stop; found_is = c.findings_of_stop.ensures; is = c.in-Err.ensures.read; nothing = refl }

pub returns-in-Err-clause-outs_later : goal.returns-in-Err-clause-outs_later
returns-in-Err-clause-outs_later g c = later_yet g.D.Disk.faults c.args.outs.now.items

pub returns-in-Err-clause-outs_alone : goal.returns-in-Err-clause-outs_alone
returns-in-Err-clause-outs_alone g c told =
    zip_yet (IsLeftAlone g.D.Disk.seen g.D.Disk.synced g.D.Disk.pending g.D.Disk.may_leave g.D.Disk.moment g.D.Disk.left_since)
    (alone_yet g.D.Disk.seen g.D.Disk.synced g.D.Disk.pending g.D.Disk.may_leave g.D.Disk.moment g.D.Disk.left_since (λ disk image left. g.met.D.Disk.only_now disk image told left)) c.args.outs.now.items
