use Rattle.std.proofs.Common.{ℕ, List, drop, refl, ◌∙◌, arith, length-drop}
use Rattle.std.proofs.lemmas.List.{take_all}
use Rattle.cdc_session.proofs.Chains.{lead_is}
use Rattle.cdc_session.proofs.events.lead_of.Goals as goal

pub returns : goal.returns
returns c =
    let header : List ℕ = c.args.header.now in
    let less = length-drop 17 header in
    lead_is c.put.new.piece c.put-2.new.piece c.put-3.new.piece c.put-4.new.piece header _ _ (c.put-4.auto.piece ∙ c.put-3.auto.piece ∙ c.put-2.auto.piece ∙ c.put.auto.piece) c.requires refl
    (take_all _ (drop 17 header) (omega (arith, less))) c.put.ensures c.put-2.ensures c.put-3.ensures c.put-4.ensures
