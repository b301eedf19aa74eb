-- Where a branch enters among open branches in order.
use Rattle.std.specs.Prelude.{◌≡◌, ◌++◌, ◌∷◌, take, drop, ℕ, List}
use Rattle.cdc_base.specs.declared.xid.Xid.{Xid}
use Rattle.cdc_model.specs.Records.{OpenBranch}
use Rattle.cdc_model.specs.Start.{enter}

-- where a branch of an xid enters: its index splits the list as `enter` does
abbrev pub IsIndexFor : Xid → List OpenBranch → ℕ → Type 0
IsIndexFor xid opened index = (branch : OpenBranch) → branch.xid ≡ xid → enter branch opened ≡ take index opened ++ (branch ∷ drop index opened)

-- indexes before it are none for an xid to enter
abbrev pub IsPassed : Xid → List OpenBranch → ℕ → Type 0
IsPassed xid opened index = (branch : OpenBranch) → branch.xid ≡ xid → enter branch opened ≡ take index opened ++ enter branch (drop index opened)
