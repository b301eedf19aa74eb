-- What was found is written.
use Rattle.cdc_drill.specs.Drill.{drill_run}
use Rattle.cdc_drill.proofs.Endings.{ends_written}
use Rattle.cdc_drill.proofs.drilling.drill.Goals as goal

pub returns-in-Found-clause-ended : goal.returns-in-Found-clause-ended
returns-in-Found-clause-ended g c =
    ends_written g.K.Sink.tells (drill_run c.args.seed c.args.nodes c.args.count (g.K.Sink.written c.args.out.now) (g.K.Sink.written c.write_text.new.out) (g.K.Sink.faults c.args.out.now) (g.K.Sink.faults c.write_text.new.out)) c.in-Found.front c.write_text.result c.in-Found.ensures c.write_text.ensures.written
