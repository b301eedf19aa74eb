-- How long the logs of a drill are.
use Rattle.std.proofs.Common.{◌≤◌, ◌^◌, ◌+◌, ◌/◌, ℕ, zero, suc, List, length, map, length-append, arith}
use Rattle.std.specs.List.{range_with_len, flat_map, AllByRecursion}
use Rattle.cdc_gen.specs.Head.{log_head}
use Rattle.cdc_gen.specs.Logs.{drill_log, drill_logs}
use Rattle.cdc_gen.specs.Script.{block_steps, end_steps, drill_steps}
use Rattle.cdc_gen.proofs.Steps.{blocks_few, ends_few}
use Rattle.cdc_gen.proofs.Put.{log_length, head_length}

-- what a function gives of each number is so of all of a range
each_of_range : {A : Type 0} (P : A → Type 0) (f : ℕ → A) (a n : ℕ) → ((i : ℕ) → P (f i)) → AllByRecursion P (map f (range_with_len a n))
each_of_range P f a zero each = tt
each_of_range P f a (suc n) each = (each a, each_of_range P f (a + 1) n each)

-- a drill has few steps
steps_of_drill : (seed nodes count : ℕ) → nodes ≤ 256 → count ≤ 100000 → length (drill_steps seed nodes count) ≤ 1000000
unfolding drill_steps
steps_of_drill seed nodes count few most =
    let blocks = blocks_few seed nodes count 0 ((count + 3) / 4) in
    let ends = ends_few nodes count in
    let both = length-append (flat_map (block_steps seed nodes count) (range_with_len 0 ((count + 3) / 4))) (end_steps nodes count) in
    omega (arith, blocks, ends, both, few, most)

-- so each of its logs is short
log_short : (seed nodes count node : ℕ) → nodes ≤ 256 → count ≤ 100000 → length (drill_log seed nodes count node) ≤ 2 ^ 40
log_short seed nodes count node few most =
    let steps = steps_of_drill seed nodes count few most in
    let long = log_length node log_head (drill_steps seed nodes count) in
    omega (arith, steps, long, head_length)

pub logs_short : (seed nodes count : ℕ) → nodes ≤ 256 → count ≤ 100000 → AllByRecursion (λ (log : List ℕ). length log ≤ 2 ^ 40) (drill_logs seed nodes count)
logs_short seed nodes count few most =
    each_of_range (λ (log : List ℕ). length log ≤ 2 ^ 40) (drill_log seed nodes count) 1 nodes (λ node. log_short seed nodes count node few most)
