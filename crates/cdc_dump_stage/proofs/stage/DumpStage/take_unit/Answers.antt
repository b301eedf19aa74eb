use Rattle.std.proofs.Common.{refl, sym, ◌∙◌}
use Rattle.cdc_dump_stage.specs.Disks.{disk_words}
use Rattle.cdc_dump_stage.proofs.Keeping.{nothing_keeps}
use Rattle.cdc_dump_stage.proofs.Carrying.{carries_closed}
use Rattle.cdc_dump_stage.proofs.stage.DumpStage.take_unit.Goals as goal

pub returns-else-is_open-clause-carries : goal.returns-else-is_open-clause-carries
returns-else-is_open-clause-carries g c = λ told. carries_closed (disk_words g.D.Disk.tells g.D.Disk.seen g.D.Disk.synced g.D.Disk.pending g.D.Disk.may_leave g.D.Disk.moment g.D.Disk.left_since g.D.Disk.faults) c.args.self.now _ c.args.disk.now _ (λ plan txns. nothing_keeps (disk_words g.D.Disk.tells g.D.Disk.seen g.D.Disk.synced g.D.Disk.pending g.D.Disk.may_leave g.D.Disk.moment g.D.Disk.left_since g.D.Disk.faults) (λ disk. g.met.D.Disk.seen_may_stay disk told) (λ disk t image. g.met.D.Disk.counts_now disk t image told) (λ disk image. g.met.D.Disk.only_now disk image told) plan txns c.args.disk.now) (sym c.is_open.ensures ∙ c.if-is_open.false) (λ whole. absurd (let ended = (c.requires.standing.whole whole).0 in let going = c.requires.going in cc)) refl refl
