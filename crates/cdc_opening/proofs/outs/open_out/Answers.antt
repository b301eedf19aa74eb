-- What an opening leaves of one output, by the law of openings.
use Rattle.cdc_opening.proofs.Keeping.{out_kept}
use Rattle.cdc_opening.proofs.outs.open_out.Goals as goal

pub returns-in-Ok-clause-kept : goal.returns-in-Ok-clause-kept
returns-in-Ok-clause-kept g c =
    out_kept g.D.Disk.tells g.D.Disk.seen g.D.Disk.may_leave g.D.Disk.moment g.D.Disk.left_since g.D.Disk.faults c.each_opening_keeps.ensures (λ disk told. g.met.D.Disk.seen_may_stay disk told)
    c.args.disk.now c.open.new.disk c.open.ensures.any_moment c.open.ensures.later

pub returns-in-Err-DiskFault-clause-kept : goal.returns-in-Err-DiskFault-clause-kept
returns-in-Err-DiskFault-clause-kept g c =
    out_kept g.D.Disk.tells g.D.Disk.seen g.D.Disk.may_leave g.D.Disk.moment g.D.Disk.left_since g.D.Disk.faults c.each_opening_keeps.ensures (λ disk told. g.met.D.Disk.seen_may_stay disk told)
    c.args.disk.now c.open.new.disk c.open.ensures.any_moment c.open.ensures.later

pub returns-in-Err-clause-kept : goal.returns-in-Err-clause-kept
returns-in-Err-clause-kept g c =
    out_kept g.D.Disk.tells g.D.Disk.seen g.D.Disk.may_leave g.D.Disk.moment g.D.Disk.left_since g.D.Disk.faults c.each_opening_keeps.ensures (λ disk told. g.met.D.Disk.seen_may_stay disk told)
    c.args.disk.now c.open.new.disk c.open.ensures.any_moment c.open.ensures.later
