-- What a job tells of itself. A job is a stage together with its device.
use Rattle.std.specs.Prelude.{ℕ, Bool, List}

-- of a job that sends onto one lane: what it sent in so many windows, the open one among them; whether it has sent the
-- End of the open one; its work, a number that falls with each move, where each item that it sends costs so much
-- behind it; and what turns leave of it and of its device
pub record Sender (J T : Type 0) : Type 1 where
  pub sent : J → ℕ → List T → Type 0
  pub ended : J → Bool
  pub work : J → ℕ → ℕ
  pub turned : J → J → Type 0

-- of a job that takes from some lanes and gives onto others: what it took and gave, lane by lane; from which lanes it
-- has taken the End of the open window, and onto which it has given it; whether it has ended; its work, and what one
-- item of its own lanes may cost here and behind it, where each item that it gives costs so much
pub record Passer (J T U : Type 0) : Type 1 where
  pub did : J → ℕ → List (List T) → List (List U) → Type 0
  pub took : J → List Bool
  pub gave : J → List Bool
  pub ended : J → Bool
  pub work : J → ℕ → ℕ
  pub weight : J → ℕ → ℕ
  pub turned : J → J → Type 0

-- of a job that takes from one lane: what it got; whether it has taken the End of the open window; its work; what one
-- item costs it at most; and what turns that took so many items leave of it and of its device
pub record Taker (J U : Type 0) : Type 1 where
  pub got : J → ℕ → List U → Type 0
  pub ended : J → Bool
  pub work : J → ℕ
  pub price : ℕ
  pub turned : J → List U → J → Type 0
