use Rattle.std.proofs.Common.{[], refl}
use Rattle.cdc_node_stage.specs.Sending.{node_state, with_item}
use Rattle.std.proofs.Common.{Some}
use Rattle.cdc_node_stage.proofs.Turns.{pushed, nothing_sent}
use Rattle.cdc_node_stage.proofs.stage.NodeStage.turn.Goals as goal

pub returns-in-Some-clause-sent : goal.returns-in-Some-clause-sent
returns-in-Some-clause-sent g c =
    let push = c.send.ensures.pushed in (
      push.0,
      push.1,
      pushed g.S.Source.tells (g.S.Source.held c.args.source.now) (node_state c.args.self.now) (with_item (node_state c.prepare.new.self) (Some c.in-Some.item)) c.if-self.false
          c.in-Some.item c.in-Some.ensures.prepares refl push.0 (node_state c.send.new.self) c.send.result push.2,
    )

pub returns-in-None-clause-sent : goal.returns-in-None-clause-sent
returns-in-None-clause-sent g c = (
  [],
  g.met.L.LaneIn.starts c.args.lane.now,
  nothing_sent g.S.Source.tells (g.S.Source.held c.args.source.now) (node_state c.args.self.now) (node_state c.prepare.new.self) c.if-self.false c.in-None.ensures.prepares,
)
