use Rattle.cdc_merge_stage.proofs.Beginning.{begun}
use Rattle.cdc_merge_stage.proofs.stage.MergeStage.new.Goals as goal

pub returns-clause-begins : goal.returns-clause-begins
returns-clause-begins g c =
    begun c.in_ok-new.field-0 c.args.start c.args.nodes c.in_ok-no_ends.field-0.items c.in_ok-no_items.field-0.items c.in_ok-new.ensures.makes c.in_ok-no_ends.ensures.count c.in_ok-no_ends.ensures.none c.in_ok-no_items.ensures.none
