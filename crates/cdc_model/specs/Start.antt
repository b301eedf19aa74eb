-- What entries leave behind them. A history is a list of entries, the newest first; it leaves the starting
-- point of all that comes later, and the definitions of faults, water marks and branches read that alone.
use Rattle.std.specs.Prelude.{ℕ, ◌+◌, not, max, List, [], ◌∷◌, if◌then◌else◌, filter, Option}
use Rattle.std.specs.List.{find}
use Rattle.std.specs.Ordering.{is_lt}
use Rattle.cdc_base.specs.declared.xid.Xid.{Xid}
use Rattle.cdc_base.specs.Xid.{same_xid, xid_order}
use Rattle.cdc_model.specs.declared.entry.EntryKind.{EntryKind}
use Rattle.cdc_model.specs.declared.entry.EntryKind.TheVariants.{Prepare, OnePhase, Commit, Rollback, Plain, Beat}
use Rattle.cdc_model.specs.Records.{LogEntry, OpenBranch, Start}

-- the start of a log: entry 1 comes next, no timestamp yet, no open branch
abbrev pub beginning : Start
beginning = record { entry = 1; mark = 0; opened = [] }

-- the timestamp that an entry brings, or 0
abbrev pub stamp : EntryKind → ℕ
stamp (Prepare xid rows) = 0
stamp (OnePhase xid rows timestamp seconds) = timestamp
stamp (Commit xid timestamp seconds) = timestamp
stamp (Rollback xid) = 0
stamp (Plain rows seconds) = 0
stamp (Beat timestamp) = timestamp

-- the open branch of an xid
abbrev pub find_open : Xid → List OpenBranch → Option OpenBranch
find_open xid opened = find (λ o. same_xid xid o.xid) opened

-- the open branches but those of an xid
abbrev pub without : Xid → List OpenBranch → List OpenBranch
without xid opened = filter (λ o. not (same_xid xid o.xid)) opened

-- an open branch more, at its place in the order
abbrev pub enter : OpenBranch → List OpenBranch → List OpenBranch
enter branch [] = branch ∷ []
enter branch (first ∷ rest) =
    if is_lt (xid_order branch.xid first.xid) then branch ∷ first ∷ rest else first ∷ enter branch rest

-- a Prepare opens its branch, and its floor is the mark before it; a Commit or Rollback ends it
abbrev pub opened_by : EntryKind → Start → List OpenBranch
opened_by (Prepare xid rows) start =
    enter record { xid = xid; floor = start.mark; entry = start.entry; rows = rows } (without xid start.opened)
opened_by (OnePhase xid rows timestamp seconds) start = start.opened
opened_by (Commit xid timestamp seconds) start = without xid start.opened
opened_by (Rollback xid) start = without xid start.opened
opened_by (Plain rows seconds) start = start.opened
opened_by (Beat timestamp) start = start.opened

-- where the reading stands behind one more entry
abbrev pub next : EntryKind → Start → Start
next kind start =
    record { entry = start.entry + 1; mark = max (stamp kind) start.mark; opened = opened_by kind start }

-- where it stands behind a history
abbrev pub left_by : Start → List LogEntry → Start
left_by start [] = start
left_by start (entry ∷ earlier) = next entry.kind (left_by start earlier)
