-- What a door gives.
use Rattle.std.specs.Prelude.{◌≡◌, ℕ, Bool, true, false, List, [], Option, Some, None, Result, Ok, Err}

-- a door is shut exactly where it has answered that no link comes any more; a shut door gives no link
abbrev pub Shuts : {L E : Type 0} → Bool → Bool → Result (Option L) E → Type 0
Shuts before now (Ok None) = now ≡ true
Shuts before now (Ok (Some link)) = (before ≡ false) × (now ≡ false)
Shuts before now (Err error) = now ≡ before

-- a connection as it is given out: all of its input is to come, nothing was written, and it never failed
pub record IsFresh (input left written : List ℕ) (faults : ℕ) : Type 0 where
  pub unread : left ≡ input
  pub unwritten : written ≡ []
  pub unfailed : faults ≡ 0
