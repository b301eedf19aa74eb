-- The branches that stand open at a point, as a map keeps them.
use Rattle.std.specs.Prelude.{ℕ, List, map}
use Rattle.cdc_base.specs.declared.xid.Xid.{Xid}
use Rattle.cdc_open.specs.declared.xid_key.XidKey.{XidKey}

-- the entries of a map from xids to floors, as pairs of them
abbrev pub pairs_of : List (XidKey × ℕ) → List (Xid × ℕ)
pairs_of entries = map (λ (e : XidKey × ℕ). (e.0.xid, e.1)) entries
