use Rattle.std.proofs.Common.{List, Option, ap, ◌∙◌, add-one}
use Rattle.std.specs.Prelude.{slice_set}
use Rattle.cdc_base.specs.declared.key.Key.{Key}
use Rattle.cdc_model.specs.Feed.{NodeFeed}
use Rattle.cdc_merger.specs.Rounds.{head_under}
use Rattle.cdc_merger.proofs.Gathering.{put_one}
use Rattle.cdc_merger.proofs.gather.put_heads.Goals as goal

pub loop-index-preserved : goal.loop-index-preserved
loop-index-preserved c =
    ap (λ (heads : List (Option Key)). slice_set heads c.loop-index.index c.head_under.result) c.loop-index.invariant
    ∙ put_one c.args.mark c.loop-index.index _ c.args.nodes.now c.args.heads.now c.index-nodes-index.result c.head_under.result (add-one c.loop-index.index)
    c.loop-index-test.true c.requires
    (c.head_under.ensures ∙ ap (λ (feed : NodeFeed). head_under c.args.mark feed.branches) c.index-nodes-index.is)
