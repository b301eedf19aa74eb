-- One write after another.
use Rattle.std.proofs.Common.{rules, sym, subst}
use Rattle.cdc_dump_stage.specs.Disks.{disk_words}
use Rattle.cdc_recovery.specs.Outputs.{IsUnitAt}
use Rattle.cdc_records.specs.declared.front.Front.{Front}
use Rattle.cdc_dump_stage.proofs.Keeping.{keeps_then}
use Rattle.cdc_dump_stage.proofs.group.write_unit.Goals as goal

pub returns-in_err-append-clause-kept : goal.returns-in_err-append-clause-kept
returns-in_err-append-clause-kept g c = λ told plan txns fronts at.
    let way = c.in_ok-make_way.ensures.kept told plan txns fronts in
    let there = subst (λ (f : Front). IsUnitAt plan txns f.count c.args.unit.now) (sym c.make_way.ensures.appended) at in
    let written = c.append.ensures.kept told plan txns way.fronts there in
    record { keeps = keeps_then (disk_words g.D.Disk.tells g.D.Disk.seen g.D.Disk.synced g.D.Disk.pending g.D.Disk.may_leave g.D.Disk.moment g.D.Disk.left_since g.D.Disk.faults) (λ disk. g.met.D.Disk.seen_may_stay disk told) (λ disk t image. g.met.D.Disk.counts_now disk t image told) (λ disk image. g.met.D.Disk.only_now disk image told) plan txns c.args.disk.now c.make_way.new.disk c.append.new.disk way.keeps written.keeps; fronts = search rules }

pub returns-clause-kept : goal.returns-clause-kept
returns-clause-kept g c = λ told plan txns fronts at.
    let way = c.in_ok-make_way.ensures.kept told plan txns fronts in
    let there = subst (λ (f : Front). IsUnitAt plan txns f.count c.args.unit.now) (sym c.make_way.ensures.appended) at in
    let written = c.in_ok-append.ensures.kept told plan txns way.fronts there in
    let closed = c.close_full.ensures.kept told plan txns written.fronts in
    let first = keeps_then (disk_words g.D.Disk.tells g.D.Disk.seen g.D.Disk.synced g.D.Disk.pending g.D.Disk.may_leave g.D.Disk.moment g.D.Disk.left_since g.D.Disk.faults) (λ disk. g.met.D.Disk.seen_may_stay disk told) (λ disk t image. g.met.D.Disk.counts_now disk t image told) (λ disk image. g.met.D.Disk.only_now disk image told) plan txns c.args.disk.now c.make_way.new.disk c.append.new.disk way.keeps written.keeps in
    record { keeps = keeps_then (disk_words g.D.Disk.tells g.D.Disk.seen g.D.Disk.synced g.D.Disk.pending g.D.Disk.may_leave g.D.Disk.moment g.D.Disk.left_since g.D.Disk.faults) (λ disk. g.met.D.Disk.seen_may_stay disk told) (λ disk t image. g.met.D.Disk.counts_now disk t image told) (λ disk image. g.met.D.Disk.only_now disk image told) plan txns c.args.disk.now c.append.new.disk c.close_full.new.disk first closed.keeps; fronts = closed.fronts }
