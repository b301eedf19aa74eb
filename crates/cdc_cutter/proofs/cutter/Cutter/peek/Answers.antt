use Rattle.std.proofs.Common.{refl, subst}
use Rattle.cdc_cutter.specs.Cutting.{behind_cut, cut_viewed, IsGoingOn}
use Rattle.cdc_cutter.proofs.Answering.{answered}
use Rattle.cdc_cutter.proofs.Files.{in_file, going_on}
use Rattle.cdc_cutter.proofs.cutter.Cutter.peek.Goals as goal

pub returns-clause-answer : goal.returns-clause-answer
returns-clause-answer c =
    let old = c.args.self.now in
    let cut = cut_viewed c.peeked.result in
    answered old.state cut old (behind_cut old cut) refl c.peeked.ensures.cut

pub returns-clause-file : goal.returns-clause-file
returns-clause-file c =
    let old = c.args.self.now in
    let cut = cut_viewed c.peeked.result in
    (in_file old.state cut old (behind_cut old cut) c.peeked.ensures.cut).1

pub returns-clause-need : goal.returns-clause-need
returns-clause-need c = λ e.
    let old = c.args.self.now in
    let cut = cut_viewed c.peeked.result in
    subst (λ v. IsGoingOn (behind_cut old v).state) e (going_on old.state cut old (behind_cut old cut) refl c.peeked.ensures.cut e)
