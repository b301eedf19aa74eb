use Rattle.std.proofs.Common.{sym, subst}
use Rattle.cdc_cell.specs.Reading.{IsLeftAlone}
use Rattle.cdc_cell.proofs.Alone.{alone_both}
use Rattle.cdc_dumper.proofs.finding.find.Goals as goal
use Rattle.cdc_dumper.proofs.finding.find.Goals.{then-front-gt0+in_ok-found+else-found-front, else-front-gt0}

pub returns-clause-alone : goal.returns-clause-alone
returns-clause-alone g c = λ told.
    let two = alone_both g.D.Disk.seen g.D.Disk.synced g.D.Disk.pending g.D.Disk.may_leave g.D.Disk.moment g.D.Disk.left_since c.args.disk.now c.open_cell.new.disk c.kept_front.new.disk (c.open_cell.ensures.alone told) (c.kept_front.ensures.alone told) in
    elim c.if-front-gt0.branch [
      | then-front-gt0+in_ok-found+else-found-front w ↦ subst (λ d. IsLeftAlone g.D.Disk.seen g.D.Disk.synced g.D.Disk.pending g.D.Disk.may_leave g.D.Disk.moment g.D.Disk.left_since c.args.disk.now d) (sym w.disk-is)
          (alone_both g.D.Disk.seen g.D.Disk.synced g.D.Disk.pending g.D.Disk.may_leave g.D.Disk.moment g.D.Disk.left_since c.args.disk.now c.kept_front.new.disk w.read_length.new.disk two (w.read_length.ensures.alone told))
      | else-front-gt0 w ↦ subst (λ d. IsLeftAlone g.D.Disk.seen g.D.Disk.synced g.D.Disk.pending g.D.Disk.may_leave g.D.Disk.moment g.D.Disk.left_since c.args.disk.now d) (sym w.disk-is) two
    ]
