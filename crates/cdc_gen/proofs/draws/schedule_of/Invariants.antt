use Rattle.std.proofs.Common.{◌≡◌, map}
use Rattle.std.specs.List.{range_with_len}
use Rattle.cdc_gen.specs.Draws.{draw, state_after}
use Rattle.cdc_gen.proofs.draws.schedule_of.Given as goal

abbrev pub invariant-loop-turn : goal.invariant-loop-turn
invariant-loop-turn l = record {
  state : l.draws.state ≡ state_after l._turn l.order;
  turns : l.turns.items ≡ map (draw l.order) (range_with_len 1 l._turn);
}
