use Rattle.cdc_reader.proofs.Steps.{found_refused}
use Rattle.cdc_reader.proofs.reader.Reader.take_found.Goals as goal

pub returns-in-Some-clause-takes : goal.returns-in-Some-clause-takes
returns-in-Some-clause-takes c = λ tells files reading taken feed found.
    let took = c.in-Some.ensures.takes reading taken feed found.feeding found.going in
    found_refused tells files c.args.self.now c.take.new.self reading taken feed c.args.entry c.in-Some.end found c.take.ensures.log took.0 took.1
