-- One unit more is handed on.
use Rattle.std.proofs.Common.{[], ◌∷◌, ◌++◌}
use Rattle.cdc_watched_stage.specs.Laws.{got_one, got_on, reached_more}
use Rattle.cdc_watched_stage.proofs.Waiting.{one_more}
use Rattle.cdc_watched_stage.proofs.waits.hand_on.Goals as goal

pub loop-unit-preserved : goal.loop-unit-preserved
loop-unit-preserved g c =
    let before = c.loop-unit.invariant in
    let first = c.in-Some.ensures.some in
    let unit = c.in-Some.unit in (
      before.0 ++ unit ∷ [],
      one_more c.args.waits.now.items before.0 c.loop-unit.waits.items c.next_up_to.new.waits.items unit before.1 first.0,
      reached_more c.args.count before.0 (unit ∷ []) before.2 (first.1, tt),
      got_on (g.W.Watch.kept c.args.watch.now) (g.W.Watch.ended c.args.watch.now) before.0 (g.W.Watch.kept c.loop-unit.watch) (g.W.Watch.ended c.loop-unit.watch) (unit ∷ []) (g.W.Watch.kept c.unit.new.self) (g.W.Watch.ended c.unit.new.self) before.3
          (got_one (g.W.Watch.kept c.loop-unit.watch) (g.W.Watch.ended c.loop-unit.watch) unit (g.W.Watch.kept c.unit.new.self) (g.W.Watch.ended c.unit.new.self) c.unit.ensures),
    )
