-- One cause more, and all of them.
use Rattle.std.proofs.Common.{◌+◌, ◌∙◌, ap, subst}
use Rattle.cdc_node_stage.specs.declared.stage.NodeStage.{NodeStage}
use Rattle.cdc_windows.specs.Causes.{IsFirstPassCause}
use Rattle.cdc_headline.specs.Ending.{cause_of_node}
use Rattle.cdc_pass.proofs.Nodes.{node_more, all_nodes}
use Rattle.cdc_pass.proofs.ends.nodes_cause.Goals as goal

pub loop-index-preserved : goal.loop-index-preserved
loop-index-preserved g c =
    node_more c.args.nodes.now c.loop-index.index c.index-nodes-index.result c.loop-index.first c.cause_of_node-cause.result c.earlier-first.result c.loop-index-test.true c.index-nodes-index.is c.loop-index.invariant
    (c.cause_of_node-cause.ensures ∙ ap (λ e. cause_of_node (c.loop-index.index + 1) e) (c.end.ensures ∙ ap (λ (s : NodeStage). s.reader.end) c.stage.ensures)) c.earlier-first.ensures.one c.earlier-first.ensures.first

pub returns : goal.returns
returns g c = subst (λ causes. IsFirstPassCause causes c.loop-index.first) (all_nodes c.args.nodes.now 1 c.loop-index.index c.loop-index-test.false) c.loop-index.invariant
