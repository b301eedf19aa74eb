use Rattle.std.proofs.Common.{refl, subst, arith}
use Rattle.std.proofs.lemmas.Grind.{common_steps}
use Rattle.cdc_records.specs.declared.front.Front.{Front}
use Rattle.cdc_dump_stage.specs.Taking.{IsRefusedFor}
use Rattle.cdc_dump_stage.specs.Disks.{disk_words}
use Rattle.cdc_dump_stage.proofs.Keeping.{nothing_keeps}
use Rattle.cdc_dump_stage.proofs.Carrying.{carries_refused, carries_known, carries_written, carries_failed}
use Rattle.cdc_dump_stage.proofs.stage.DumpStage.take_open.Goals as goal

pub returns-in-Some-clause-carries : goal.returns-in-Some-clause-carries
returns-in-Some-clause-carries g c = λ told. carries_refused (disk_words g.D.Disk.tells g.D.Disk.seen g.D.Disk.synced g.D.Disk.pending g.D.Disk.may_leave g.D.Disk.moment g.D.Disk.left_since g.D.Disk.faults) c.args.self.now _ c.args.disk.now c.args.unit.now c.in-Some.end c.requires.open_still (subst (λ (f : Front). IsRefusedFor f c.args.unit.now c.in-Some.end) c.appended-front.ensures c.in-Some.ensures.refused)

pub returns-then-unit-front-clause-carries : goal.returns-then-unit-front-clause-carries
returns-then-unit-front-clause-carries g c = λ told. carries_known (disk_words g.D.Disk.tells g.D.Disk.seen g.D.Disk.synced g.D.Disk.pending g.D.Disk.may_leave g.D.Disk.moment g.D.Disk.left_since g.D.Disk.faults) c.args.self.now c.args.disk.now c.args.unit.now (λ plan txns. nothing_keeps (disk_words g.D.Disk.tells g.D.Disk.seen g.D.Disk.synced g.D.Disk.pending g.D.Disk.may_leave g.D.Disk.moment g.D.Disk.left_since g.D.Disk.faults) (λ disk. g.met.D.Disk.seen_may_stay disk told) (λ disk t image. g.met.D.Disk.counts_now disk t image told) (λ disk image. g.met.D.Disk.only_now disk image told) plan txns c.args.disk.now) (grind (arith, common_steps))

pub returns-in-Ok-clause-carries : goal.returns-in-Ok-clause-carries
returns-in-Ok-clause-carries g c = λ told. carries_written (disk_words g.D.Disk.tells g.D.Disk.seen g.D.Disk.synced g.D.Disk.pending g.D.Disk.may_leave g.D.Disk.moment g.D.Disk.left_since g.D.Disk.faults) c.args.self.now _ c.args.disk.now c.write_unit.new.disk c.args.unit.now _ c.requires.open_still refl (grind (arith, common_steps)) c.in-Ok.ensures.appended (c.in-Ok.ensures.kept told)

pub returns-in-Err-clause-carries : goal.returns-in-Err-clause-carries
returns-in-Err-clause-carries g c = λ told. carries_failed (disk_words g.D.Disk.tells g.D.Disk.seen g.D.Disk.synced g.D.Disk.pending g.D.Disk.may_leave g.D.Disk.moment g.D.Disk.left_since g.D.Disk.faults) c.args.self.now _ c.args.disk.now c.write_unit.new.disk c.args.unit.now _ c.requires.open_still refl (grind (arith, common_steps)) (c.in-Err.ensures.kept told)
