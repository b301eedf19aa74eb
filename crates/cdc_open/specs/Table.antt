-- The table of open branches as a map keeps it.
use Rattle.std.specs.Prelude.{ℕ, List, map}
use Rattle.cdc_open.specs.declared.xid_key.XidKey.{XidKey}
use Rattle.cdc_open.specs.Standing.{Prepared, StandingBranch, standing_of}

-- the open branches of a map's entries
abbrev pub standing_list : List (XidKey × Prepared) → List StandingBranch
standing_list entries = map (λ (e : XidKey × Prepared). standing_of e.0.xid e.1) entries

-- their floors
abbrev pub floors_of : List (XidKey × Prepared) → List ℕ
floors_of entries = map (λ (e : XidKey × Prepared). e.1.floor) entries
