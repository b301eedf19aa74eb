-- Which branches a log commits, and when a key is settled.
use Rattle.std.specs.Prelude.{ℕ, nat_le, nat_lt, Bool, ◌&&◌, List, [], ◌∷◌, ◌++◌, map, filter, Option, Some, None}
use Rattle.std.specs.Ordering.{is_gt}
use Rattle.cdc_base.specs.declared.key.Key.{Key}
use Rattle.cdc_base.specs.declared.key.Key.TheVariants.{Shared, Plain as PlainKey}
use Rattle.cdc_base.specs.Key.{key_order}
use Rattle.cdc_model.specs.declared.entry.EntryKind.{EntryKind}
use Rattle.cdc_model.specs.declared.entry.EntryKind.TheVariants.{Prepare, OnePhase, Commit, Rollback, Plain, Beat}
use Rattle.cdc_model.specs.Records.{LogEntry, CommittedBranch, OpenBranch, Start}
use Rattle.cdc_model.specs.Start.{find_open, left_by}

-- a committed branch beside the number of the entry that began it
abbrev pub Begun : Type 0
Begun = ℕ × CommittedBranch

-- an open branch as its commit leaves it
abbrev pub committed : Key → ℕ → ℕ → Option OpenBranch → List Begun
committed key number seconds None = []
committed key number seconds (Some o) =
    (o.entry, record { key = key; entry = number; seconds = seconds; rows = o.rows }) ∷ []

-- the branch that an entry commits behind a starting point: a Commit with the rows of its Prepare, a OnePhase,
-- a Plain under the high-water mark
abbrev pub branch_of : ℕ → EntryKind → Start → List Begun
branch_of node (Prepare xid rows) start = []
branch_of node (OnePhase xid rows timestamp seconds) start =
    (start.entry, record { key = Shared timestamp xid.gtrid; entry = start.entry; seconds = seconds; rows = rows }) ∷ []
branch_of node (Commit xid timestamp seconds) start =
    committed (Shared timestamp xid.gtrid) start.entry seconds (find_open xid start.opened)
branch_of node (Rollback xid) start = []
branch_of node (Plain rows seconds) start =
    (start.entry, record { key = PlainKey start.mark node start.entry; entry = start.entry; seconds = seconds; rows = rows }) ∷ []
branch_of node (Beat timestamp) start = []

-- all branches that a history commits, the oldest first
abbrev pub begun_branches : Start → ℕ → List LogEntry → List Begun
begun_branches start node [] = []
begun_branches start node (entry ∷ earlier) = begun_branches start node earlier ++ branch_of node entry.kind (left_by start earlier)

-- a branch that began at or behind the starting point, and whose key is above the last one
abbrev pub is_new : Key → Start → Begun → Bool
is_new last start b = nat_le start.entry b.0 && is_gt (key_order b.1.key last)

-- the branches that are new behind a starting point, above a last key
abbrev pub new_branches : Key → Start → List Begun → List CommittedBranch
new_branches last start branches = map (λ b. b.1) (filter (is_new last start) branches)

-- the committed branches of a node's history, read from a starting point, with keys above the last one
abbrev pub committed_branches : Key → Start → ℕ → List LogEntry → List CommittedBranch
committed_branches last start node history = new_branches last start (begun_branches start node history)

-- a key is settled where no node can still bring it or a lesser one: a shared key at or below the low-water
-- mark of all nodes, a local one below it
abbrev pub is_settled : ℕ → Key → Bool
is_settled mark (Shared timestamp gtrid) = nat_le timestamp mark
is_settled mark (PlainKey timestamp node entry) = nat_lt timestamp mark
