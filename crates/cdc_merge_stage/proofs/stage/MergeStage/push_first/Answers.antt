use Rattle.std.proofs.Common.{inl, inr, refl, arith, rules}
use Rattle.std.proofs.lemmas.Grind.{common_steps}
use Rattle.cdc_merge_stage.proofs.stage.MergeStage.push_first.Goals as goal

pub returns-in-Some : goal.returns-in-Some
returns-in-Some g c = record { pushes = inl (c.in-Some.out, (first_of (search rules, grind (arith, common_steps))), (first_of (search rules, grind (arith, common_steps))), c.push.ensures.pushes) }

pub returns-in-None : goal.returns-in-None
returns-in-None g c = record { pushes = inr ((first_of (search rules, grind (arith, common_steps))), refl, refl, refl) }
