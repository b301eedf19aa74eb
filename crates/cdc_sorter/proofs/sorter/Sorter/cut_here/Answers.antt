use Rattle.std.proofs.Common.{◌≡◌, ap, sym, subst, refl, ◌∙◌}
use Rattle.cdc_model.specs.Openings.{AscendByXid}
use Rattle.cdc_sorter.specs.Seen.{stand_seen, sorter_seen}
use Rattle.cdc_open.specs.Standing.{branches_of}
use Rattle.cdc_sorter.specs.Trail.{present, cut_of}
use Rattle.cdc_sorter.specs.Sorting.{Sorting}
use Rattle.cdc_sorter.proofs.Backs.{before_is}
use Rattle.cdc_sorter.proofs.HeldMaps.{stand_with, cut_made}
use Rattle.cdc_sorter.proofs.sorter.Sorter.cut_here.Goals as goal

pub returns : goal.returns
returns c =
    let old : Sorting = sorter_seen (before_is c.self-inside.view_is) in
    let same : old ≡ c.args.self.now = ap sorter_seen c.self-inside.view_is ∙ c.self.view_is in
    let last = c.args.last.now in
    let stand = stand_seen c.stand.inside in
    subst
    (λ (x : Sorting). AscendByXid (branches_of x.here.opened) → stand_with stand c.in_ok-held.held ≡ cut_of last x.first x.here x.trail)
    same
    (cut_made last old.first old.here old.trail old.here.opened c.recent.result.now c.ended.result.now c.present.result c.earliest_open-stand.result stand c.in_ok-held.held
    refl c.recent.ensures c.ended.ensures
    (c.present.ensures ∙ ap (λ (x : Sorting). present x.here x.trail) (sym same))
    c.earliest_open-stand.ensures
    (c.stand.view_is ∙ c.earliest_above-stand.ensures)
    c.in_ok-held.ensures.pairs)
