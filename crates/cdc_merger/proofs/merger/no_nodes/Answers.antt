use Rattle.std.proofs.Common.{ap, ◌∙◌, ◌++◌, ◌∷◌, [], List}
use Rattle.cdc_model.specs.Feed.{NodeFeed}
use Rattle.cdc_merger.specs.Merging.{no_feeds}
use Rattle.cdc_merger.proofs.Growing.{none_more}
use Rattle.cdc_merger.proofs.merger.no_nodes.Goals as goal

pub loop-preserved : goal.loop-preserved
loop-preserved c =
    c.in_ok-push.ensures.items ∙ ap (λ (list : List NodeFeed). list ++ c.new.result ∷ []) c.loop.invariant
    ∙ ap (λ (node : NodeFeed). no_feeds c.loop.counter ++ node ∷ []) c.new.ensures ∙ none_more c.loop.counter
