-- What a node's job tells of being read again.
use Rattle.std.specs.Prelude.{◌≡◌, true, Bool, List}
use Rattle.std.specs.List.{AllByRecursion}
use Rattle.cdc_base.specs.declared.key.Key.{Key}
use Rattle.cdc_model.specs.Restart.{RestartPoint, IsAtMost}

-- of a job: that it may be read again from a point, where the last key is this one; whether its reading is over; the key up to
-- which it has forgotten; and what turns and forgetting leave of it
pub record Rereading (J : Type 0) : Type 1 where
  pub may_restart : J → Key → RestartPoint → Type 0
  pub over : J → Bool
  pub known : J → Key
  pub read_on : J → J → Type 0

-- all readings are over
abbrev pub AreOver : {J : Type 0} → Rereading J → List J → Type 0
AreOver {J} r nodes = AllByRecursion (λ (node : J). r.over node ≡ true) nodes

-- no job has forgotten up to a key above this one
abbrev pub RememberFrom : {J : Type 0} → Rereading J → Key → List J → Type 0
RememberFrom {J} r last nodes = AllByRecursion (λ (node : J). IsAtMost (r.known node) last) nodes
