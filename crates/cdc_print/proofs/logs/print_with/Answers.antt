use Rattle.std.proofs.Common.{◌≡◌, length, map, arith}
use Rattle.cdc_print.proofs.Ending.{print_ended, print_ordered}
use Rattle.cdc_print.proofs.Stepping.{begins_running}
use Rattle.cdc_print.proofs.logs.print_with.Goals as goal

pub returns-clause-ended : goal.returns-clause-ended
returns-clause-ended g c =
    let many : length c.args.nodes.now.items ≡ c.len.result = omega (arith, c.len.ensures) in
    let began = begins_running g.S.Source.tells g.S.Source.held g.S.Source.faults c.args.nodes.now.items c.in-Ok.printer c.len.result many c.in-Ok.ensures.many c.in-Ok.ensures.begins in
    print_ended c.start_reads_all.ensures c.feeds_merge_to_order.ensures g.S.Source.tells g.K.Sink.tells g.S.Source.held g.S.Source.faults c.args.nodes.now.items
    c.read_all.new.sources.items c.read_all.new.self c.settle.new.self (g.K.Sink.written c.args.out.now) (g.K.Sink.written c.finish.new.out) (g.K.Sink.faults c.args.out.now)
    (g.K.Sink.faults c.finish.new.out) c.finish.result c.read_all.ensures.held
    (c.read_all.ensures.runs (map g.S.Source.faults c.args.nodes.now.items) began) (c.read_all.ensures.over c.if-not-read_all.false) c.settle.ensures.nodes c.settle.ensures.all
    c.finish.ensures.finishes

pub returns-clause-ordered : goal.returns-clause-ordered
returns-clause-ordered g c =
    let many : length c.args.nodes.now.items ≡ c.len.result = omega (arith, c.len.ensures) in
    let began = begins_running g.S.Source.tells g.S.Source.held g.S.Source.faults c.args.nodes.now.items c.in-Ok.printer c.len.result many c.in-Ok.ensures.many c.in-Ok.ensures.begins in
    print_ordered c.start_reads_all.ensures g.S.Source.tells g.K.Sink.tells g.S.Source.held g.S.Source.faults c.args.nodes.now.items
    c.read_all.new.sources.items c.read_all.new.self c.settle.new.self (g.K.Sink.written c.args.out.now) (g.K.Sink.written c.finish.new.out) (g.K.Sink.faults c.args.out.now)
    (g.K.Sink.faults c.finish.new.out) c.finish.result c.read_all.ensures.held
    (c.read_all.ensures.runs (map g.S.Source.faults c.args.nodes.now.items) began) (c.read_all.ensures.over c.if-not-read_all.false) c.settle.ensures.nodes c.settle.ensures.all
    c.finish.ensures.finishes
