-- One draw more.
use Rattle.std.proofs.Common.{◌≡◌, ℕ, ◌+◌, ◌*◌, ◌-◌, ◌/◌, ◌%◌, ◌≤◌, ◌<◌, List, [], ◌∷◌, ◌++◌, map, ap, sym, ◌∙◌, add-one, arith}
use Rattle.std.specs.List.{range_with_len}
use Rattle.std.proofs.lemmas.List.FromFn.{map-range_with_len_more}
use Rattle.cdc_gen.specs.declared.step.Planned.{Planned}
use Rattle.cdc_gen.specs.Draws.{next_state, state_after, drawn_from, draw}
use Rattle.cdc_gen.specs.Script.{planned}

pub one_more_state : (seed draws state : ℕ) → state ≡ state_after draws seed → next_state state ≡ state_after (draws + 1) seed
unfolding state_after
one_more_state seed draws state h = rw add-one (ap next_state h)

pub one_more_turn : (seed draws state : ℕ) (turns : List ℕ) → state ≡ state_after draws seed → turns ≡ map (draw seed) (range_with_len 1 draws) →
    turns ++ drawn_from (next_state state) ∷ [] ≡ map (draw seed) (range_with_len 1 (draws + 1))
one_more_turn seed draws state turns h so_far =
    let more = map-range_with_len_more (draw seed) 1 draws (draws + 1) (omega arith) in
    let last = ap drawn_from (one_more_state seed draws state h) in
    cc

-- the state behind the draw of one transaction more of a block
pub one_more_drawn : (seed block first number state next : ℕ) → first ≤ number → state ≡ state_after (5 * block + (number - first)) seed → next ≡ next_state state →
    next ≡ state_after (5 * block + (number + 1 - first)) seed
one_more_drawn seed block first number state next low h e =
    let more : 5 * block + (number - first) + 1 ≡ 5 * block + (number + 1 - first) = omega arith in
    e ∙ one_more_state seed (5 * block + (number - first)) state h ∙ ap (λ n. state_after n seed) more

abbrev pub planned_by : ℕ → ℕ → ℕ → Planned
planned_by nodes number drawn = record { number = number; first = drawn % nodes + 1 }

-- one transaction more of a block is planned
pub one_more_planned : (seed nodes block first number state next drawn : ℕ) (plan : List Planned) → first ≤ number → number < first + 4 → first ≡ 4 * block + 1 →
    state ≡ state_after (5 * block + (number - first)) seed → next ≡ next_state state → drawn ≡ drawn_from next →
    plan ≡ map (planned seed nodes) (range_with_len first (number - first)) →
    plan ++ planned_by nodes number drawn ∷ [] ≡ map (planned seed nodes) (range_with_len first (number + 1 - first))
one_more_planned seed nodes block first number state next drawn plan low high begins h e d so_far =
    let index : 5 * block + (number + 1 - first) ≡ number + (number - 1) / 4 = omega arith in
    let at = one_more_drawn seed block first number state next low h e ∙ ap (λ n. state_after n seed) index in
    let is : drawn ≡ draw seed (number + (number - 1) / 4) = d ∙ ap drawn_from at in
    let behind : number - first + 1 ≡ number + 1 - first = omega arith in
    let more = map-range_with_len_more (planned seed nodes) first (number - first) number (omega arith) in
    ap (λ items. items ++ planned_by nodes number drawn ∷ []) so_far
    ∙ ap (λ x. map (planned seed nodes) (range_with_len first (number - first)) ++ planned_by nodes number x ∷ []) is
    ∙ sym more
    ∙ ap (λ n. map (planned seed nodes) (range_with_len first n)) behind
