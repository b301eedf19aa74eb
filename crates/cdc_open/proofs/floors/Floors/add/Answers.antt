use Rattle.std.proofs.Common.{◌∙◌, ℕ, List, ap, sym, subst}
use Rattle.cdc_open.specs.Floors.{times_told, TellsTimes}
use Rattle.cdc_open.proofs.Counts.{added_within}
use Rattle.cdc_open.proofs.floors.Floors.add.Goals as goal

pub returns-clause-ok : goal.returns-clause-ok
returns-clause-ok c =
    let counts = c.self.inside.counts.entries in
    λ floors room tells.
    added_within counts c.insert.new.self.entries c.args.floor c.times-times.result c.saturating_add.result floors
    (c.times-times.ensures ∙ ap (times_told c.args.floor) (sym c.self.view_is)) c.saturating_add.ensures c.in_ok-insert.ensures.updates.0 room
    (subst (λ (list : List (ℕ × ℕ)). TellsTimes list floors) (sym c.self.view_is) tells)
