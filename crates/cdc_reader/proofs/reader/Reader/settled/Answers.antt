use Rattle.std.proofs.Common.{refl, sym, subst}
use Rattle.std.proofs.Common.{reverse}
use Rattle.cdc_reader.specs.Standing.{ReaderState, IsFeeding}
use Rattle.cdc_reader.proofs.Steps.{gives_branch}
use Rattle.cdc_reader.proofs.reader.Reader.settled.Goals as goal

pub returns-in-Some-clause-settles : goal.returns-in-Some-clause-settles
returns-in-Some-clause-settles c = λ reading taken feed f.
    let here = subst (λ (r : ReaderState). IsFeeding r reading taken feed) (sym c.self.view_is) f in
    gives_branch c.gave_is_a_front.ensures c.feed_gives.ensures _ _ reading taken feed c.in-Some.branch here
    (c.in-Some.ensures.some reading (reverse taken) feed.branches here.sorted) refl refl
