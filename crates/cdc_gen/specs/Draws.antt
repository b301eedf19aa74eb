-- Draws from a seed: a linear congruential generator, of whose state each draw gives the high bits.
use Rattle.std.specs.Prelude.{ℕ, zero, suc, ◌+◌, ◌*◌, ◌/◌, ◌%◌, ◌^◌, List, map}
use Rattle.std.specs.List.{range_with_len}

-- the state behind a state
unfoldable pub next_state : ℕ → ℕ
next_state state = (state * 6364136223846793005 + 1442695040888963407) % 2 ^ 64

-- the state behind so many draws
unfoldable pub state_after : ℕ → ℕ → ℕ
state_after zero seed = seed
state_after (suc draws) seed = next_state (state_after draws seed)

-- what a draw that leaves this state gives: its highest 31 bits
unfoldable pub drawn_from : ℕ → ℕ
drawn_from state = state / 2 ^ 33

-- the n-th draw from a seed, counted from 1
abbrev pub draw : ℕ → ℕ → ℕ
draw seed n = drawn_from (state_after n seed)

-- a schedule: the first 4,096 draws
abbrev pub schedule : ℕ → List ℕ
schedule order = map (draw order) (range_with_len 1 4096)
