use Rattle.std.proofs.Common.{List, [], ◌∷◌, ◌++◌, Option, None, ap, ◌∙◌}
use Rattle.cdc_merger.proofs.Heading.{none_more}
use Rattle.cdc_merger.proofs.tournament.empty_heads.Goals as goal

pub loop-preserved : goal.loop-preserved
loop-preserved g c =
    c.in_ok-push.ensures.items ∙ ap (λ (list : List (Option g.row.K.Denot)). list ++ None ∷ []) c.loop.invariant ∙ none_more g.row.K.Denot c.loop.counter
