-- What a sorter keeps of the way behind it, so that it can tell a point from which the log may be read again.
use Rattle.std.specs.Prelude.{ℕ, ◌+◌, max, Bool, nat_lt, nat_le, ◌&&◌, List, [], ◌∷◌, ◌++◌, take, map, filter, Option, Some, None, if◌then◌else◌}
use Rattle.std.specs.List.{list_any}
use Rattle.std.specs.Ordering.{is_gt}
use Rattle.std.specs.BTreeMap.{insert_entry}
use Rattle.cdc_base.specs.declared.key.Key.{Key}
use Rattle.cdc_base.specs.declared.key.Key.TheVariants.{Shared, Plain as PlainKey}
use Rattle.cdc_base.specs.declared.place.Place.{Place}
use Rattle.cdc_base.specs.declared.xid.Xid.{Xid}
use Rattle.cdc_base.specs.Key.{key_order}
use Rattle.cdc_base.specs.Xid.{xid_order}
use Rattle.cdc_model.specs.declared.entry.EntryKind.{EntryKind}
use Rattle.cdc_model.specs.declared.entry.EntryKind.TheVariants.{Prepare, OnePhase, Commit, Rollback, Plain, Beat}
use Rattle.cdc_model.specs.Records.{Row, OpenBranch, Start}
use Rattle.cdc_model.specs.Start.{stamp}
use Rattle.cdc_model.specs.Restart.{RestartPoint, held_open, held_of}
use Rattle.cdc_open.specs.Standing.{StandingBranch, Prepared, branches_of, find_standing, without_standing, enter_standing}

-- a point of a log without the branches that stand open there: the number of the entry that comes next, the place and the checksum
-- setting from which that is read, and the high-water mark before it
pub record Stand : Type 0 where
  pub entry : ℕ
  pub place : Place
  pub mark : ℕ
  pub checksum : ℕ

-- a branch that was open and has ended: its floor, and the numbers of the entries that began and ended it
pub record EndedBranch : Type 0 where
  pub xid : Xid
  pub floor : ℕ
  pub entry : ℕ
  pub ended : ℕ

-- a committed branch: its key, and the point before the entry that began it
pub record RecentBranch : Type 0 where
  pub key : Key
  pub stand : Stand

-- the way behind a sorter: the place and the checksum setting behind its last entry, the branches that have ended, those that were
-- committed with keys above a known one, and that key
pub record Trail : Type 0 where
  pub place : Place
  pub checksum : ℕ
  pub ended : List EndedBranch
  pub recent : List RecentBranch
  pub known : Key

-- the point before an open branch's Prepare; its floor is the mark there
abbrev pub stand_of : StandingBranch → Stand
stand_of s = record { entry = s.branch.entry; place = s.place; mark = s.branch.floor; checksum = s.checksum }

-- the same, by what is known of the branch but for its xid
abbrev pub stand_prepared : Prepared → Stand
stand_prepared p = record { entry = p.entry; place = p.place; mark = p.floor; checksum = p.checksum }

-- whether a branch stood open before the entry of a number
abbrev pub stood_before : ℕ → EndedBranch → Bool
stood_before number e = nat_lt e.entry number && nat_le number e.ended

-- with a branch, where it was prepared before the entry of a number
abbrev pub put_open : ℕ → OpenBranch → List (Xid × ℕ) → List (Xid × ℕ)
put_open number branch held = if nat_lt branch.entry number then insert_entry xid_order held branch.xid branch.floor else held

-- with some open branches, those that were prepared before the entry of a number
abbrev pub put_opens : ℕ → List OpenBranch → List (Xid × ℕ) → List (Xid × ℕ)
put_opens number [] held = held
put_opens number (branch ∷ opened) held = put_opens number opened (put_open number branch held)

-- with a branch that has ended, where it stood open before the entry of a number
abbrev pub put_ended : ℕ → EndedBranch → List (Xid × ℕ) → List (Xid × ℕ)
put_ended number e held = if stood_before number e then insert_entry xid_order held e.xid e.floor else held

-- with the branches that have ended since and stood open before the entry of a number, in the order of xids
abbrev pub with_ended : ℕ → List EndedBranch → List (Xid × ℕ) → List (Xid × ℕ)
with_ended number [] held = held
with_ended number (e ∷ ended) held = put_ended number e (with_ended number ended held)

-- the open branches that were prepared before the entry of a number
abbrev pub held_now : ℕ → List OpenBranch → List (Xid × ℕ)
held_now number opened = map held_of (filter (λ (branch : OpenBranch). nat_lt branch.entry number) opened)

-- the branches that stood open before the entry of a number
abbrev pub held_at : ℕ → List OpenBranch → List EndedBranch → List (Xid × ℕ)
held_at number opened ended = with_ended number ended (held_now number opened)

-- a point with the branches that stood open there
abbrev pub point_of : List OpenBranch → List EndedBranch → Stand → RestartPoint
point_of opened ended stand = record {
  entry = stand.entry;
  place = stand.place;
  mark = stand.mark;
  checksum = stand.checksum;
  held = held_at stand.entry opened ended;
}

-- the earliest of some points and a first one
abbrev pub earliest : Stand → List Stand → Stand
earliest best [] = best
earliest best (stand ∷ stands) = earliest (if nat_lt stand.entry best.entry then stand else best) stands

-- the committed branches with keys above one
abbrev pub recent_above : Key → List RecentBranch → List RecentBranch
recent_above last recent = filter (λ (r : RecentBranch). is_gt (key_order r.key last)) recent

-- the points before the Prepares of open branches, from a first number on
abbrev pub stands_open : ℕ → List StandingBranch → List Stand
stands_open first standing = map stand_of (filter (λ (s : StandingBranch). nat_le first s.branch.entry) standing)

-- the points before the entries that began branches with keys above one
abbrev pub stands_above : Key → List RecentBranch → List Stand
stands_above last recent = map (λ (r : RecentBranch). r.stand) (recent_above last recent)

-- a committed branch, by its key and the point before the entry that began it
abbrev pub recent_at : Key → Stand → RecentBranch
recent_at key stand = record { key = key; stand = stand }

-- a committed branch more, where its key is above the known one
abbrev pub trail_noted : Trail → Key → Stand → Trail
trail_noted trail key stand =
    if is_gt (key_order key trail.known) then record trail { recent = trail.recent ++ recent_at key stand ∷ [] } else trail

-- a branch more that has ended
abbrev pub trail_ended : Trail → EndedBranch → Trail
trail_ended trail e = record trail { ended = trail.ended ++ e ∷ [] }

-- a trail that goes back to so many ended and so many committed branches
abbrev pub trail_back : ℕ → ℕ → Trail → Trail
trail_back ended recent trail = record trail { ended = take ended trail.ended; recent = take recent trail.recent }

-- behind one more entry
abbrev pub trail_behind : Trail → Place → ℕ → Trail
trail_behind trail place checksum = record trail { place = place; checksum = checksum }

-- with no more committed branches than those above a key, where that is above the known one
abbrev pub trail_known : Trail → Key → Trail
trail_known trail last =
    if is_gt (key_order last trail.known) then record trail { recent = recent_above last trail.recent; known = last } else trail

-- whether a branch that has ended stood open before one of the entries of some numbers
abbrev pub stood_at_some : List ℕ → EndedBranch → Bool
stood_at_some numbers e = list_any (λ (number : ℕ). stood_before number e) numbers

-- a trail without the ended branches that stood open before none of the entries of some numbers
abbrev pub trail_swept : List ℕ → Trail → Trail
trail_swept numbers trail = record trail { ended = filter (stood_at_some numbers) trail.ended }

-- the numbers of the entries that began open branches and committed ones
abbrev pub began_numbers : List StandingBranch → List RecentBranch → List ℕ
began_numbers standing recent = map (λ (s : StandingBranch). s.branch.entry) standing ++ map (λ (r : RecentBranch). r.stand.entry) recent

-- where a node's reading stands, with its open branches as they stand
pub record Standings : Type 0 where
  pub entry : ℕ
  pub mark : ℕ
  pub opened : List StandingBranch

-- the same without the points before their Prepares
abbrev pub reading_start : Standings → Start
reading_start here = record { entry = here.entry; mark = here.mark; opened = branches_of here.opened }

-- a branch that is held open at a point
abbrev pub standing_held : Place → ℕ → Xid × ℕ → StandingBranch
standing_held place checksum held = record { branch = held_open held; place = place; checksum = checksum }

-- the branch that a Prepare opens, behind a place under a checksum setting
abbrev pub standing_opened : Xid → List Row → Place → ℕ → Standings → StandingBranch
standing_opened xid rows place checksum here = record {
  branch = record { xid = xid; floor = here.mark; entry = here.entry; rows = rows };
  place = place;
  checksum = checksum;
}

-- the open branches behind one more entry
abbrev pub standing_by : EntryKind → Place → ℕ → Standings → List StandingBranch
standing_by (Prepare xid rows) place checksum here = enter_standing (standing_opened xid rows place checksum here) (without_standing xid here.opened)
standing_by (OnePhase xid rows timestamp seconds) place checksum here = here.opened
standing_by (Commit xid timestamp seconds) place checksum here = without_standing xid here.opened
standing_by (Rollback xid) place checksum here = without_standing xid here.opened
standing_by (Plain rows seconds) place checksum here = here.opened
standing_by (Beat timestamp) place checksum here = here.opened

-- where the reading stands behind one more entry
abbrev pub standings_behind : EntryKind → Place → ℕ → Standings → Standings
standings_behind kind place checksum here = record {
  entry = here.entry + 1;
  mark = max (stamp kind) here.mark;
  opened = standing_by kind place checksum here;
}

-- the point before the next entry
abbrev pub present : Standings → Trail → Stand
present here trail = record { entry = here.entry; place = trail.place; mark = here.mark; checksum = trail.checksum }

-- a branch as it ends with the entry of a number
abbrev pub ended_with : ℕ → StandingBranch → EndedBranch
ended_with number s = record { xid = s.branch.xid; floor = s.branch.floor; entry = s.branch.entry; ended = number }

-- a trail on which a branch has ended, where it was open
abbrev pub trail_closed : ℕ → Option StandingBranch → Trail → Trail
trail_closed number None trail = trail
trail_closed number (Some s) trail = trail_ended trail (ended_with number s)

-- a trail on which an open branch was committed under a key, where it was open and prepared from a first number on
abbrev pub trail_committed : ℕ → Key → Option StandingBranch → Trail → Trail
trail_committed first key None trail = trail
trail_committed first key (Some s) trail = if nat_le first s.branch.entry then trail_noted trail key (stand_of s) else trail

-- what an entry leaves on the trail of a node, read from a first number on
abbrev pub trail_by : EntryKind → ℕ → ℕ → Standings → Trail → Trail
trail_by (Prepare xid rows) first node here trail = trail
trail_by (OnePhase xid rows timestamp seconds) first node here trail = trail_noted trail (Shared timestamp xid.gtrid) (present here trail)
trail_by (Commit xid timestamp seconds) first node here trail =
    trail_committed first (Shared timestamp xid.gtrid) (find_standing xid here.opened) (trail_closed here.entry (find_standing xid here.opened) trail)
trail_by (Rollback xid) first node here trail = trail_closed here.entry (find_standing xid here.opened) trail
trail_by (Plain rows seconds) first node here trail = trail_noted trail (PlainKey here.mark node here.entry) (present here trail)
trail_by (Beat timestamp) first node here trail = trail

-- the point of the earliest entry that could come next, were the log read again: before the next entry, before each Prepare that
-- waits, and before each entry that began a branch with a key above the last one
abbrev pub cut_stand : Key → ℕ → Standings → Trail → Stand
cut_stand last first here trail = earliest (present here trail) (stands_open first here.opened ++ stands_above last trail.recent)

-- that point, with the branches that stood open there
abbrev pub cut_of : Key → ℕ → Standings → Trail → RestartPoint
cut_of last first here trail = point_of (branches_of here.opened) trail.ended (cut_stand last first here trail)
