-- What is so of each output is so of the last.
use Rattle.std.proofs.Common.{List, length, subst}
use Rattle.std.specs.List.{AllByRecursion}
use Rattle.cdc_recovery.specs.Outputs.{KeepsFrom}
use Rattle.cdc_recovery.specs.Growing.{Each}
use Rattle.cdc_drill.proofs.Finding.{all_last, some_weaker}
use Rattle.cdc_drill.proofs.attempt.last_front.Goals as goal

pub returns-in-Some : goal.returns-in-Some
returns-in-Some g c told =
    some_weaker c.front_of.result _ _
    (λ front has plan txns all.
    has plan txns
    (all_last (λ (disk : g.row.D.Denot). Each (g.D.Disk.may_leave disk) (KeepsFrom plan txns (length txns))) c.pop.new.self.items c.in-Some.disk
    (subst (λ (outs : List g.row.D.Denot). AllByRecursion (λ (disk : g.row.D.Denot). Each (g.D.Disk.may_leave disk) (KeepsFrom plan txns (length txns))) outs) c.in-Some.ensures.items all)))
    (c.front_of.ensures told)
