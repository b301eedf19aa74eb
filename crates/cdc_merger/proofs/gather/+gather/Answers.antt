use Rattle.std.proofs.Common.{inl, inr, arith}
use Rattle.cdc_merger.proofs.Counting.{few_step}
use Rattle.cdc_merger.proofs.Gathering.{gathers_none, gathers_step, ready_step, none_has, none_leads}
use Rattle.cdc_merger.proofs.gather.+gather.Goals as goal

pub returns-in_default-clause-gathers : goal.returns-in_default-clause-gathers
returns-in_default-clause-gathers g t c = λ r.
    gathers_none c.args.round c.args.key.now c.args.from c.args.nodes.now c.args.heads.now c.args.own.now r
    (λ node h is. none_has c.args.heads.now node c.args.key.now c.in_default.ensures.none is)

pub returns-then-node-from-clause-gathers : goal.returns-then-node-from-clause-gathers
returns-then-node-from-clause-gathers g t c = λ r.
    gathers_none c.args.round c.args.key.now c.args.from c.args.nodes.now c.args.heads.now c.args.own.now r
    (none_leads c.args.round c.args.key.now c.args.from c.in-Some.node c.args.nodes.now c.args.heads.now c.in-Some.head.now r c.in-Some.ensures.some (inl c.if-node-from.true))

pub returns-then-not-is_key-clause-gathers : goal.returns-then-not-is_key-clause-gathers
returns-then-not-is_key-clause-gathers g t c = λ r.
    gathers_none c.args.round c.args.key.now c.args.from c.args.nodes.now c.args.heads.now c.args.own.now r
    (none_leads c.args.round c.args.key.now c.args.from c.in-Some.node c.args.nodes.now c.args.heads.now c.in-Some.head.now r c.in-Some.ensures.some
    (inr (c.is_key.ensures.other c.if-not-is_key.true)))

pub returns-clause-gathers : goal.returns-clause-gathers
returns-clause-gathers g t c = λ r.
    gathers_step c.args.round c.args.key.now c.in-Some.head.now c.replace.result c.args.from c.in-Some.node c.replace.ensures.given.0 c.args.nodes.now c.gather.new.nodes c.args.heads.now
    c.replace.new.self c.gather.new.heads c.args.own.now c.share_front.new.own c.gather.new.own c.head_behind-next.result c.index-nodes-node.result c.index-nodes-node-2.result
    c.index-nodes-node-3.result c.drop_front.new.self r c.if-node-from.false c.in-Some.ensures.some (c.is_key.ensures.same c.if-not-is_key.false)
    c.in_ok-share_front.ensures
    c.head_behind-next.ensures
    c.replace.ensures.given.1 c.replace.ensures.given.2 c.in_ok-gather.ensures.gathers c.gather.auto.nodes c.drop_front.ensures

pub returns-in_default-clause-few : goal.returns-in_default-clause-few
returns-in_default-clause-few g t c = λ r digits fits. omega arith

pub returns-then-node-from-clause-few : goal.returns-then-node-from-clause-few
returns-then-node-from-clause-few g t c = λ r digits fits. omega arith

pub returns-then-not-is_key-clause-few : goal.returns-then-not-is_key-clause-few
returns-then-not-is_key-clause-few g t c = λ r digits fits. omega arith

pub returns-clause-few : goal.returns-clause-few
returns-clause-few g t c = λ r.
    few_step c.args.round c.args.key.now c.in-Some.head.now c.replace.result c.args.from c.in-Some.node c.replace.ensures.given.0 c.args.steps.now c.replace.new.steps c.gather.new.steps
    c.args.nodes.now c.args.heads.now c.replace.new.self c.gather.new.heads c.args.own.now c.share_front.new.own c.gather.new.own c.head_behind-next.result c.index-nodes-node.result r
    c.if-node-from.false c.in-Some.ensures.some (c.is_key.ensures.same c.if-not-is_key.false) c.in_ok-share_front.ensures c.replace.ensures.given.1 c.replace.ensures.given.2
    c.replace.ensures.counted (c.in_ok-gather.ensures.few
    (ready_step c.args.round c.args.key.now c.in-Some.head.now c.replace.result c.args.from c.in-Some.node c.replace.ensures.given.0 c.args.nodes.now c.args.heads.now c.replace.new.self
    c.head_behind-next.result c.index-nodes-node-2.result r c.if-node-from.false c.in-Some.ensures.some (c.is_key.ensures.same c.if-not-is_key.false) c.head_behind-next.ensures
    c.replace.ensures.given.1 c.replace.ensures.given.2))
