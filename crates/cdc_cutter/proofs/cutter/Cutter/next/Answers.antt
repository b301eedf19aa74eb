use Rattle.std.proofs.Common.{refl}
use Rattle.cdc_cutter.proofs.Answering.{answered}
use Rattle.cdc_cutter.proofs.Files.{in_file, going_on}
use Rattle.cdc_cutter.proofs.Pieces.{if_ok}
use Rattle.cdc_cutter.proofs.cutter.Cutter.next.Goals as goal

pub returns-clause-answer : goal.returns-clause-answer
returns-clause-answer c = if_ok c.step.result c.step.ensures.cut (λ cut t. answered c.args.self.now.state cut c.args.self.now c.step.new.self refl t)

pub returns-clause-file : goal.returns-clause-file
returns-clause-file c = if_ok c.step.result c.step.ensures.cut (λ cut t. in_file c.args.self.now.state cut c.args.self.now c.step.new.self t)

pub returns-clause-need : goal.returns-clause-need
returns-clause-need c = if_ok c.step.result c.step.ensures.cut (λ cut t. going_on c.args.self.now.state cut c.args.self.now c.step.new.self refl t)
