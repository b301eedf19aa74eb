use Rattle.std.proofs.Common.{List, [], map, ℕ, ap, subst, refl, ◌∙◌}
use Rattle.cdc_base.specs.declared.xid.Xid.{Xid}
use Rattle.cdc_model.specs.NodeCuts.{cut_seen}
use Rattle.cdc_model.specs.Restart.{RestartPoint}
use Rattle.cdc_sorter.specs.Trail.{Trail, standing_held}
use Rattle.cdc_sorter.specs.Sorting.{HoldsReading}
use Rattle.cdc_sorter.proofs.Steps.{sorter_of, begins}
use Rattle.cdc_sorter.proofs.sorter.Sorter.resumed.Goals as goal

pub returns-clause-holds : goal.returns-clause-holds
returns-clause-holds c =
    let point : RestartPoint = cut_seen c.cut.inside in
    subst (λ (from : RestartPoint). HoldsReading (sorter_of c.args.last.now c.args.node point c.in_ok-held_open.field-0 c.new.result c.new-2.result)
    (record { last = c.args.last.now; from = from; node = c.args.node }) [] [])
    c.cut.view_is
    (begins c.args.last.now c.args.node point c.args.last.now c.in_ok-held_open.field-0 c.new.result c.new-2.result refl
    (c.in_ok-held_open.ensures ∙ ap (λ (held : List (Xid × ℕ)). map (standing_held point.place point.checksum) held) c.as_slice.ensures)
    c.new.ensures c.new-2.ensures)

pub returns-clause-known : goal.returns-clause-known
returns-clause-known c = ap (λ (t : Trail). t.known) c.new-2.ensures
