-- Open branches with the points before their Prepares.
use Rattle.std.specs.Prelude.{ℕ, not, List, [], ◌∷◌, map, filter, Option, if◌then◌else◌}
use Rattle.std.specs.List.{find}
use Rattle.std.specs.Ordering.{is_lt}
use Rattle.cdc_base.specs.declared.place.Place.{Place}
use Rattle.cdc_base.specs.declared.xid.Xid.{Xid}
use Rattle.cdc_base.specs.Xid.{same_xid, xid_order}
use Rattle.cdc_model.specs.Records.{Row, OpenBranch}

-- an open branch, and the place and the checksum setting before its Prepare
pub record StandingBranch : Type 0 where
  pub branch : OpenBranch
  pub place : Place
  pub checksum : ℕ

-- the same but for the xid
pub record Prepared : Type 0 where
  pub floor : ℕ
  pub entry : ℕ
  pub rows : List Row
  pub place : Place
  pub checksum : ℕ

-- the open branch of an xid, by the rest of it
abbrev pub standing_of : Xid → Prepared → StandingBranch
standing_of xid p = record {
  branch = record { xid = xid; floor = p.floor; entry = p.entry; rows = p.rows };
  place = p.place;
  checksum = p.checksum;
}

-- the open branches themselves
abbrev pub branches_of : List StandingBranch → List OpenBranch
branches_of standing = map (λ (s : StandingBranch). s.branch) standing

-- the open branch of an xid
abbrev pub find_standing : Xid → List StandingBranch → Option StandingBranch
find_standing xid standing = find (λ (s : StandingBranch). same_xid xid s.branch.xid) standing

-- the open branches but those of an xid
abbrev pub without_standing : Xid → List StandingBranch → List StandingBranch
without_standing xid standing = filter (λ (s : StandingBranch). not (same_xid xid s.branch.xid)) standing

-- an open branch more, at its place in the order
abbrev pub enter_standing : StandingBranch → List StandingBranch → List StandingBranch
enter_standing new [] = new ∷ []
enter_standing new (first ∷ rest) =
    if is_lt (xid_order new.branch.xid first.branch.xid) then new ∷ first ∷ rest else first ∷ enter_standing new rest
