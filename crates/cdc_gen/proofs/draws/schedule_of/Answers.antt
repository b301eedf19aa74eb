use Rattle.std.proofs.Common.{◌≡◌, [], ◌∷◌, ◌++◌, refl, ap, map, ◌∙◌, arith}
use Rattle.std.specs.List.{range_with_len}
use Rattle.cdc_gen.specs.Draws.{state_after, drawn_from, draw}
use Rattle.cdc_gen.proofs.Taken.{one_more_state, one_more_turn}
use Rattle.cdc_gen.proofs.draws.schedule_of.Goals as goal

pub loop-turn-init : goal.loop-turn-init
unfolding state_after
loop-turn-init c = record { state = refl; turns = c.in_ok-turns.ensures.items }

pub loop-turn-preserved : goal.loop-turn-preserved
loop-turn-preserved c =
    let so_far = c.loop-turn.invariant in
    let more = one_more_turn c.args.order c.loop-turn._turn c.loop-turn.draws.state c.loop-turn.turns.items so_far.state so_far.turns in
    record {
      state = c.draw.ensures.state ∙ one_more_state c.args.order c.loop-turn._turn c.loop-turn.draws.state so_far.state;
      turns = c.in_ok-push.ensures.items ∙ ap (λ x. c.loop-turn.turns.items ++ x ∷ []) (c.draw.ensures.drawn ∙ ap drawn_from c.draw.ensures.state) ∙ more;
    }

pub returns : goal.returns
returns c =
    let all : c.loop-turn._turn ≡ 4096 = omega arith in
    c.loop-turn.invariant.turns ∙ ap (λ n. map (draw c.args.order) (range_with_len 1 n)) all
