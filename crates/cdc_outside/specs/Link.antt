-- What a connection takes in, and what is noted of one that has ended.
use Rattle.std.specs.Prelude.{◌≡◌, ℕ, ◌≤◌, ◌⊎◌, ◌↔◌, List, [], length, take, drop}

-- some bytes came in: the first of those to come, at the front of the buffer
pub record Receives (before buffer : List ℕ) (read : ℕ) (now : List ℕ) : Type 0 where
  pub bytes : take read buffer ≡ take read before
  pub there : read ≤ length before
  pub none : (read ≡ 0) ↔ ((before ≡ []) ⊎ (length buffer ≡ 0))
  pub rest : now ≡ drop read before

-- a connection that was handed back: all that came in or was still to come, all that went out, its count of
-- faults, and the number of its end
pub record Served : Type 0 where
  pub input : List ℕ
  pub written : List ℕ
  pub faults : ℕ
  pub ending : ℕ
