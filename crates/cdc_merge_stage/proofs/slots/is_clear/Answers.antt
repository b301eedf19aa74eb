use Rattle.std.proofs.Common.{sym}
use Rattle.cdc_merge_stage.proofs.Works.{not_all_none}
use Rattle.cdc_merge_stage.proofs.slots.is_clear.Goals as goal

pub returns-in-Some : goal.returns-in-Some
returns-in-Some c = sym (not_all_none c.args.slots.now _ c.in-Some.ensures.filled)
