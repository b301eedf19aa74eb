-- One node more, and at the loop's end all have forgotten.
use Rattle.std.proofs.Common.{◌≡◌, ◌<◌, length, arith}
use Rattle.cdc_windows.proofs.Forgetting.{forgot_next, all_forgot, all_sent, all_ended, all_known, all_read_on}
use Rattle.cdc_windows.proofs.windows.forget_all.Goals as goal

pub loop-index-preserved : goal.loop-index-preserved
loop-index-preserved g c =
    let long = c.loop-index.invariant.0 in
    let within : c.loop-index.index < length c.loop-index.nodes = let test = c.loop-index-test.true in omega (arith, test, long) in
    forgot_next g.N.NodeTurns.account g.N.NodePart.rereading c.args.last.now c.args.nodes.now c.loop-index.nodes c.loop-index.index c.index-nodes-index.result c.forget.new.self within long
    (record { sent = c.forget.ensures.sent; ended = c.forget.ensures.ended; known = c.forget.ensures.known; read_on = c.forget.ensures.read_on }) c.loop-index.invariant.1 c.loop-index.invariant.2

pub returns : goal.returns
returns g c =
    let a = g.N.NodeTurns.account in
    let r = g.N.NodePart.rereading in
    let olds = c.args.nodes.now in
    let news = c.loop-index.nodes in
    let long : length news ≡ length olds = c.loop-index.invariant.0 in
    let past = c.loop-index-test.false in
    let last = c.args.last.now in
    let all = all_forgot a r last olds news long (λ k d within. c.loop-index.invariant.1 k d (omega (arith, within, past, long)) (omega (arith, within, long))) in
    record {
      sent = all_sent a r last olds news all;
      ended = all_ended a r last olds news all;
      known = all_known a r last olds news all;
      read_on = all_read_on a r last olds news all;
    }
