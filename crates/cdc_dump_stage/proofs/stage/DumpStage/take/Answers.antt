-- What the item carries, by its kind.
use Rattle.std.proofs.Common.{[], ◌∷◌, sym, subst}
use Rattle.cdc_item.specs.declared.dump_item.DumpItem.{DumpItem}
use Rattle.cdc_dump_stage.specs.Disks.{disk_words}
use Rattle.cdc_dump_stage.specs.Standing.{Carries}
use Rattle.cdc_dump_stage.proofs.stage.DumpStage.take.Goals as goal

pub returns-in-Unit-clause-carries : goal.returns-in-Unit-clause-carries
returns-in-Unit-clause-carries g c = λ told.
    subst (λ (item : DumpItem). Carries (disk_words g.D.Disk.tells g.D.Disk.seen g.D.Disk.synced g.D.Disk.pending g.D.Disk.may_leave g.D.Disk.moment g.D.Disk.left_since g.D.Disk.faults) c.args.self.now c.args.disk.now (item ∷ []) c.take_unit.new.self c.take_unit.new.disk)
    (sym c.in-Unit.is) (c.take_unit.ensures.carries told)

pub returns-in-End-clause-carries : goal.returns-in-End-clause-carries
returns-in-End-clause-carries g c = λ told.
    subst (λ (item : DumpItem). Carries (disk_words g.D.Disk.tells g.D.Disk.seen g.D.Disk.synced g.D.Disk.pending g.D.Disk.may_leave g.D.Disk.moment g.D.Disk.left_since g.D.Disk.faults) c.args.self.now c.args.disk.now (item ∷ []) c.take_end.new.self c.take_end.new.disk)
    (sym c.in-End.is) (c.take_end.ensures.carries told)
