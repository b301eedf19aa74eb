-- Each job's turn is a step of the whole, and one that doesn't move rests.
use Rattle.std.proofs.Common.{◌≡◌, ◌+◌, ◌<◌, ◌≤◌, ◌-◌, length, get_or, ap, arith}
use Rattle.cdc_turns.proofs.OneTurn.{node_steps, merge_steps, dump_steps, node_rests, merge_rests, dump_rests}
use Rattle.cdc_turns.proofs.single.turn_one.Goals as goal

pub returns-then-number-count-clause-steps : goal.returns-then-number-count-clause-steps
returns-then-number-count-clause-steps g c =
    let nodes = c.args.nodes.now in
    let ins = c.args.ins.now in
    let k = c.args.number in
    let fits : length nodes ≡ length ins = c.requires.fits.nodes in
    node_steps g.N.NodeTurns.account g.M.MergeTurns.account g.D.DumpTurns.account g.met.N.NodeTurns.starts g.met.M.MergeTurns.starts g.met.D.DumpTurns.starts nodes ins c.args.merge.now c.args.outs.now c.args.dumps.now k (get_or nodes k c.index-nodes-number.result) c.turn.new.self (get_or ins k c.index-ins-number.result) c.turn.new.lane c.turn.result c.if-number-count.true (let within : k < length nodes = c.if-number-count.true in omega (arith, within, fits)) (ap (λ x. get_or nodes k x) c.index-nodes-number.is) (ap (λ x. get_or ins k x) c.index-ins-number.is) c.turn.ensures.sends c.turn.ensures.says

pub returns-then-number-count-clause-rests : goal.returns-then-number-count-clause-rests
returns-then-number-count-clause-rests g c none =
    let nodes = c.args.nodes.now in
    let ins = c.args.ins.now in
    let k = c.args.number in
    let fits : length nodes ≡ length ins = c.requires.fits.nodes in
    node_rests g.N.NodeTurns.account g.M.MergeTurns.account g.D.DumpTurns.account nodes ins c.args.merge.now c.args.outs.now c.args.dumps.now k (get_or nodes k c.index-nodes-number.result) c.turn.new.self (get_or ins k c.index-ins-number.result) c.turn.new.lane c.turn.result c.if-number-count.true (let within : k < length nodes = c.if-number-count.true in omega (arith, within, fits)) c.turn.ensures.says none

pub returns-then-number-count-2-clause-steps : goal.returns-then-number-count-2-clause-steps
returns-then-number-count-2-clause-steps g c =
    let t = c.turn-then-number-count-2 in
    let long_in = t.auto.ins in
    let long_out = t.auto.outs in
    merge_steps g.N.NodeTurns.account g.M.MergeTurns.account g.D.DumpTurns.account g.met.N.NodeTurns.starts g.met.D.DumpTurns.starts c.args.nodes.now c.args.ins.now t.new.ins c.args.merge.now t.new.self c.args.outs.now t.new.outs c.args.dumps.now t.result (omega (arith, long_in)) (omega (arith, long_out)) t.ensures.passes t.ensures.says

pub returns-then-number-count-2-clause-rests : goal.returns-then-number-count-2-clause-rests
returns-then-number-count-2-clause-rests g c none =
    let t = c.turn-then-number-count-2 in
    merge_rests g.N.NodeTurns.account g.M.MergeTurns.account g.D.DumpTurns.account c.args.nodes.now c.args.ins.now t.new.ins c.args.merge.now t.new.self c.args.outs.now t.new.outs c.args.dumps.now t.result c.args.number c.if-number-count-2.true t.ensures.says none

pub returns-clause-steps : goal.returns-clause-steps
returns-clause-steps g c =
    let nodes = c.args.nodes.now in
    let outs = c.args.outs.now in
    let dumps = c.args.dumps.now in
    let k = c.args.number - length nodes - 1 in
    let fits : length dumps ≡ length outs = c.requires.fits.dumps in
    let past : length nodes ≤ c.args.number = c.if-number-count.false in
    let other = c.if-number-count-2.false in
    let below : c.args.number < length nodes + 1 + length dumps = c.requires.number in
    dump_steps g.N.NodeTurns.account g.M.MergeTurns.account g.D.DumpTurns.account g.met.N.NodeTurns.starts g.met.M.MergeTurns.starts g.met.D.DumpTurns.starts nodes c.args.ins.now c.args.merge.now outs dumps k (get_or dumps k c.index-dumps-out.result) c.turn-2.new.self (get_or outs k c.index-outs-out.result) c.turn-2.new.lane c.turn-2.result (omega (arith, past, other, below)) (omega (arith, past, other, below, fits)) (ap (λ x. get_or dumps k x) c.index-dumps-out.is) (ap (λ x. get_or outs k x) c.index-outs-out.is) c.turn-2.ensures.takes c.turn-2.ensures.says

pub returns-clause-rests : goal.returns-clause-rests
returns-clause-rests g c none =
    let nodes = c.args.nodes.now in
    let outs = c.args.outs.now in
    let dumps = c.args.dumps.now in
    let k = c.args.number - length nodes - 1 in
    let fits : length dumps ≡ length outs = c.requires.fits.dumps in
    let past : length nodes ≤ c.args.number = c.if-number-count.false in
    let other = c.if-number-count-2.false in
    let below : c.args.number < length nodes + 1 + length dumps = c.requires.number in
    dump_rests g.N.NodeTurns.account g.M.MergeTurns.account g.D.DumpTurns.account nodes c.args.ins.now c.args.merge.now outs dumps c.args.number k (get_or dumps k c.index-dumps-out.result) c.turn-2.new.self (get_or outs k c.index-outs-out.result) c.turn-2.new.lane c.turn-2.result (omega (arith, past, other)) (omega (arith, past, other, below)) (omega (arith, past, other, below, fits)) c.turn-2.ensures.says none
