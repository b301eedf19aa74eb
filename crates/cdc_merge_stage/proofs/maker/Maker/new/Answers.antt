use Rattle.std.proofs.Common.{arith, refl, sym, ◌∙◌, ap, length}
use Rattle.cdc_merge_stage.proofs.Credits.{nothing_fed, feeds_many}
use Rattle.cdc_merge_stage.proofs.maker.Maker.new.Goals as goal

pub returns-clause-makes : goal.returns-clause-makes
returns-clause-makes g c = record { merges = c.in_ok-new.ensures.merges; stands = refl; fits = tt; counted = sym (nothing_fed c.args.nodes); few = λ some. let none = nothing_fed c.args.nodes in let room = c.numbers_behind.ensures in omega (arith, some, none, room) }

pub returns-clause-parts : goal.returns-clause-parts
returns-clause-parts g c = (refl, refl, ap length c.in_ok-new.ensures.nodes.0 ∙ feeds_many c.args.nodes, refl)
