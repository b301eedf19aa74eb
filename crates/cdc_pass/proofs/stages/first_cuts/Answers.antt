-- One start more.
use Rattle.std.proofs.Common.{◌++◌, [], ◌∷◌, List, sym, ◌∙◌, ap}
use Rattle.cdc_model.specs.Restart.{RestartPoint, first_point}
use Rattle.cdc_pass.proofs.Listing.{one_more_of}
use Rattle.cdc_pass.proofs.stages.first_cuts.Goals as goal

pub loop-preserved : goal.loop-preserved
loop-preserved g c =
    c.in-Ok.ensures.ok
    ∙ (ap (λ (point : RestartPoint). c.loop.cuts ++ point ∷ []) c.start_of_log.ensures
    ∙ (ap (λ (cuts : List RestartPoint). cuts ++ first_point ∷ []) c.loop.invariant ∙ sym (one_more_of first_point c.args.nodes.now c.loop.counter c.loop-test.true)))
