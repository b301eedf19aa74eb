use Rattle.std.proofs.Common.{◌≡◌, ℕ, List, ap, ◌∙◌}
use Rattle.cdc_base.specs.declared.xid.Xid.{Xid}
use Rattle.cdc_open.specs.Standing.{branches_of}
use Rattle.cdc_sorter.specs.Trail.{with_ended, held_at}
use Rattle.cdc_sorter.proofs.Backs.{ok_weaker}
use Rattle.cdc_sorter.proofs.HeldMaps.{opens_all}
use Rattle.cdc_sorter.proofs.cut.held_before.Goals as goal

pub returns-clause-pairs : goal.returns-clause-pairs
returns-clause-pairs c =
    let number = c.args.number in
    let opened = branches_of c.args.opened.now in
    let ended = c.args.ended.now in
    λ ascend.
    ok_weaker (λ (list : List (Xid × ℕ)). list ≡ c.add_ended.new.held) (λ (list : List (Xid × ℕ)). list ≡ held_at number opened ended)
    (λ list is. is ∙ c.in_ok-add_ended.ensures ∙ ap (with_ended number ended) (c.in_ok-held.ensures ∙ opens_all number opened ascend))
    c.into_list.result c.into_list.ensures.pairs
