use Rattle.std.proofs.Common.{◌++◌, refl}
use Rattle.cdc_reader.proofs.Filled.{steps_behind}
use Rattle.cdc_reader.proofs.reader.Reader.next.Goals as goal

pub returns-in-Some-clause-steps : goal.returns-in-Some-clause-steps
returns-in-Some-clause-steps g c = λ reading taken feed reads. c.in-Some.ensures.steps g.S.Source.tells (g.S.Source.held c.args.source.now) reading taken feed reads

pub returns-in-None-clause-steps : goal.returns-in-None-clause-steps
returns-in-None-clause-steps g c = λ reading taken feed reads.
    let files = g.S.Source.held c.args.source.now in
    let to = c.in-None.ensures.steps g.S.Source.tells files reading taken feed reads in
    steps_behind g.S.Source.tells files c.fill.new.self reading taken to.0.more feed c.fill.result
    (c.fill.ensures.steps reading (taken ++ to.0.more) feed to.0.reads (c.in-None.ensures.wants refl).0 to.0.given to.1)
