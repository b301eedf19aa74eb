-- What a reading keeps that begins at a restart point: all but the numbers and rows of the branches that are open there.
use Rattle.std.proofs.Common.{◌≡◌, ◌≤◌, ◌<◌, ℕ, ◌+◌, min, leb, Bool, true, false, not, cond, if◌then◌else◌, List, [], ◌∷◌, ◌++◌, map, Option, Some, None, is_none, ap, sym, refl, ◌∙◌, arith}
use Rattle.std.specs.List.{AllByRecursion}
use Rattle.std.specs.Option.{option_map}
use Rattle.std.specs.Ordering.{is_lt}
use Rattle.std.proofs.lemmas.Bool.{lt-leb, le-leb}
use Rattle.cdc_base.specs.declared.xid.Xid.{Xid}
use Rattle.cdc_base.specs.Xid.{same_xid, xid_order}
use Rattle.cdc_model.specs.declared.entry.EntryKind.{EntryKind}
use Rattle.cdc_model.specs.declared.entry.EntryKind.TheVariants.{Prepare, OnePhase, Commit, Rollback, Plain, Beat}
use Rattle.cdc_model.specs.declared.fault.SortFault.{SortFault}
use Rattle.cdc_model.specs.Records.{Row, LogEntry, OpenBranch, Start}
use Rattle.cdc_model.specs.Start.{find_open, without, enter, opened_by, next, left_by}
use Rattle.cdc_model.specs.Watermark.{least, node_low_water_mark}
use Rattle.cdc_model.specs.Soundness.{undercut, unless_open, when_open, entry_fault, sound_entries, fault_or, sort_fault}
use Rattle.cdc_model.specs.Restart.{RestartPoint, held_open, held_of, start_at, point_behind}
use Rattle.cdc_model.proofs.Marks.{numbers_count}
use Rattle.cdc_model.proofs.XidOrder.{all_filtered}
use Rattle.cdc_model.proofs.SoundFront.{left_append}

-- an open branch from a number on: as it is where its Prepare has that number or a later one, else without number and rows
abbrev pub forget : ℕ → OpenBranch → OpenBranch
forget from o = record {
  xid = o.xid;
  floor = o.floor;
  entry = if leb from o.entry then o.entry else 0;
  rows = if leb from o.entry then o.rows else [];
}

abbrev pub kept : ℕ → Start → Start
kept from s = record { entry = s.entry; mark = s.mark; opened = map (forget from) s.opened }

abbrev branch_by : Xid → ℕ → ℕ → List Row → OpenBranch
branch_by xid floor entry rows = record { xid = xid; floor = floor; entry = entry; rows = rows }

pub forget_late : (from : ℕ) (o : OpenBranch) → leb from o.entry ≡ true → forget from o ≡ o
forget_late from o is =
    ap (λ (b : Bool). branch_by o.xid o.floor (if b then o.entry else 0) (if b then o.rows else [])) is

pub forget_early : (from : ℕ) (o : OpenBranch) → leb from o.entry ≡ false → forget from o ≡ held_open (held_of o)
forget_early from o is =
    ap (λ (b : Bool). branch_by o.xid o.floor (if b then o.entry else 0) (if b then o.rows else [])) is

-- ---- open branches that are kept

pub find_kept : (from : ℕ) (xid : Xid) (opened : List OpenBranch) → find_open xid (map (forget from) opened) ≡ option_map (forget from) (find_open xid opened)
find_kept from xid [] = refl
find_kept from xid (o ∷ opened) = by (same_xid xid o.xid) (find_kept from xid opened)
  where
    by : (b : Bool) → find_open xid (map (forget from) opened) ≡ option_map (forget from) (find_open xid opened)
        → cond b (Some (forget from o)) (find_open xid (map (forget from) opened)) ≡ option_map (forget from) (cond b (Some o) (find_open xid opened))
    by true later = refl
    by false later = later

pub without_kept : (from : ℕ) (xid : Xid) (opened : List OpenBranch) → without xid (map (forget from) opened) ≡ map (forget from) (without xid opened)
without_kept from xid [] = refl
without_kept from xid (o ∷ opened) = by (same_xid xid o.xid) (without_kept from xid opened)
  where
    by : (b : Bool) → without xid (map (forget from) opened) ≡ map (forget from) (without xid opened)
        → cond (not b) (forget from o ∷ without xid (map (forget from) opened)) (without xid (map (forget from) opened))
        ≡ map (forget from) (cond (not b) (o ∷ without xid opened) (without xid opened))
    by true later = later
    by false later = ap (λ (list : List OpenBranch). forget from o ∷ list) later

pub enter_kept : (from : ℕ) (branch : OpenBranch) (opened : List OpenBranch) → enter (forget from branch) (map (forget from) opened) ≡ map (forget from) (enter branch opened)
enter_kept from branch [] = refl
enter_kept from branch (o ∷ opened) = by (is_lt (xid_order branch.xid o.xid)) (enter_kept from branch opened)
  where
    by : (b : Bool) → enter (forget from branch) (map (forget from) opened) ≡ map (forget from) (enter branch opened)
        → cond b (forget from branch ∷ forget from o ∷ map (forget from) opened) (forget from o ∷ enter (forget from branch) (map (forget from) opened))
        ≡ map (forget from) (cond b (branch ∷ o ∷ opened) (o ∷ enter branch opened))
    by true later = refl
    by false later = ap (λ (list : List OpenBranch). forget from o ∷ list) later

pub opened_kept : (from : ℕ) (kind : EntryKind) (s : Start) → from ≤ s.entry → opened_by kind (kept from s) ≡ map (forget from) (opened_by kind s)
opened_kept from (Prepare xid rows) s h =
    let branch : OpenBranch = branch_by xid s.mark s.entry rows in
    ap (enter branch) (without_kept from xid s.opened)
    ∙ ap (λ (o : OpenBranch). enter o (map (forget from) (without xid s.opened))) (sym (forget_late from branch (le-leb from s.entry h)))
    ∙ enter_kept from branch (without xid s.opened)
opened_kept from (OnePhase xid rows timestamp seconds) s h = refl
opened_kept from (Commit xid timestamp seconds) s h = without_kept from xid s.opened
opened_kept from (Rollback xid) s h = without_kept from xid s.opened
opened_kept from (Plain rows seconds) s h = refl
opened_kept from (Beat timestamp) s h = refl

abbrev start_by : ℕ → ℕ → List OpenBranch → Start
start_by entry mark opened = record { entry = entry; mark = mark; opened = opened }

pub next_kept : (from : ℕ) (kind : EntryKind) (s : Start) → from ≤ s.entry → next kind (kept from s) ≡ kept from (next kind s)
next_kept from kind s h = ap (start_by (next kind s).entry (next kind s).mark) (opened_kept from kind s h)

pub number_grows : (from : ℕ) (s : Start) (later : List LogEntry) → from ≤ s.entry → from ≤ (left_by s later).entry
number_grows from s later h = omega (arith, h, numbers_count s later)

pub left_kept : (from : ℕ) (s : Start) (later : List LogEntry) → from ≤ s.entry → left_by (kept from s) later ≡ kept from (left_by s later)
left_kept from s [] h = refl
left_kept from s (entry ∷ later) h =
    ap (next entry.kind) (left_kept from s later h) ∙ next_kept from entry.kind (left_by s later) (number_grows from s later h)

-- ---- faults and marks

pub fault_kept : (from : ℕ) (kind : EntryKind) (s : Start) → entry_fault kind (kept from s) ≡ entry_fault kind s
fault_kept from (Prepare xid rows) s =
    ap (λ (o : Option OpenBranch). unless_open xid o None) (find_kept from xid s.opened) ∙ by (find_open xid s.opened)
  where
    by : (o : Option OpenBranch) → unless_open xid (option_map (forget from) o) None ≡ unless_open xid o None
    by None = refl
    by (Some branch) = refl
fault_kept from (OnePhase xid rows timestamp seconds) s =
    ap (λ (o : Option OpenBranch). unless_open xid o (undercut timestamp s.mark)) (find_kept from xid s.opened) ∙ by (find_open xid s.opened)
  where
    by : (o : Option OpenBranch) → unless_open xid (option_map (forget from) o) (undercut timestamp s.mark) ≡ unless_open xid o (undercut timestamp s.mark)
    by None = refl
    by (Some branch) = refl
fault_kept from (Commit xid timestamp seconds) s =
    ap (λ (o : Option OpenBranch). when_open xid o (λ branch. undercut timestamp branch.floor)) (find_kept from xid s.opened) ∙ by (find_open xid s.opened)
  where
    by : (o : Option OpenBranch) → when_open xid (option_map (forget from) o) (λ branch. undercut timestamp branch.floor) ≡ when_open xid o (λ branch. undercut timestamp branch.floor)
    by None = refl
    by (Some branch) = refl
fault_kept from (Rollback xid) s =
    ap (λ (o : Option OpenBranch). when_open xid o (λ _. None)) (find_kept from xid s.opened) ∙ by (find_open xid s.opened)
  where
    by : (o : Option OpenBranch) → when_open xid (option_map (forget from) o) (λ _. None) ≡ when_open xid o (λ _. None)
    by None = refl
    by (Some branch) = refl
fault_kept from (Plain rows seconds) s = refl
fault_kept from (Beat timestamp) s = refl

pub sound_kept : (from : ℕ) (s : Start) (entries : List LogEntry) → from ≤ s.entry → sound_entries (kept from s) entries ≡ sound_entries s entries
sound_kept from s [] h = refl
sound_kept from s (entry ∷ entries) h =
    ap (λ (f : Option SortFault). if is_none f then entry ∷ sound_entries (next entry.kind (kept from s)) entries else []) (fault_kept from entry.kind s)
    ∙ ap (λ (list : List LogEntry). if is_none (entry_fault entry.kind s) then entry ∷ list else [])
    (ap (λ (t : Start). sound_entries t entries) (next_kept from entry.kind s h) ∙ sound_kept from (next entry.kind s) entries (omega (arith, h)))

pub sort_fault_kept : (from : ℕ) (s : Start) (entries : List LogEntry) → from ≤ s.entry → sort_fault (kept from s) entries ≡ sort_fault s entries
sort_fault_kept from s [] h = refl
sort_fault_kept from s (entry ∷ entries) h =
    ap (λ (f : Option SortFault). fault_or entry.at f (sort_fault (next entry.kind (kept from s)) entries)) (fault_kept from entry.kind s)
    ∙ ap (fault_or entry.at (entry_fault entry.kind s))
    (ap (λ (t : Start). sort_fault t entries) (next_kept from entry.kind s h) ∙ sort_fault_kept from (next entry.kind s) entries (omega (arith, h)))

pub least_kept : (from most : ℕ) (opened : List OpenBranch) → least most (map (λ o. o.floor) (map (forget from) opened)) ≡ least most (map (λ o. o.floor) opened)
least_kept from most [] = refl
least_kept from most (o ∷ opened) = least_kept from (min most o.floor) opened

pub mark_kept : (from : ℕ) (s : Start) → node_low_water_mark (kept from s) ≡ node_low_water_mark s
mark_kept from s = least_kept from s.mark s.opened

-- ---- numbers of open branches

pub all_entered : (P : OpenBranch → Type 0) (branch : OpenBranch) (branches : List OpenBranch) → P branch → AllByRecursion P branches → AllByRecursion P (enter branch branches)
all_entered P branch [] here all = (here, tt)
all_entered P branch (first ∷ rest) here (one, all) = by (is_lt (xid_order branch.xid first.xid)) (all_entered P branch rest here all)
  where
    by : (b : Bool) → AllByRecursion P (enter branch rest) → AllByRecursion P (cond b (branch ∷ first ∷ rest) (first ∷ enter branch rest))
    by true later = (here, (one, all))
    by false later = (one, later)

-- a fact of open branches that each Prepare meets is kept
pub all_next : (P : OpenBranch → Type 0) (kind : EntryKind) (s : Start) → ((xid : Xid) (rows : List Row) → P (branch_by xid s.mark s.entry rows))
    → AllByRecursion P s.opened → AllByRecursion P (opened_by kind s)
all_next P (Prepare xid rows) s new all =
    all_entered P (branch_by xid s.mark s.entry rows) (without xid s.opened) (new xid rows)
    (all_filtered P (λ (o : OpenBranch). not (same_xid xid o.xid)) s.opened all)
all_next P (OnePhase xid rows timestamp seconds) s new all = all
all_next P (Commit xid timestamp seconds) s new all = all_filtered P (λ (o : OpenBranch). not (same_xid xid o.xid)) s.opened all
all_next P (Rollback xid) s new all = all_filtered P (λ (o : OpenBranch). not (same_xid xid o.xid)) s.opened all
all_next P (Plain rows seconds) s new all = all
all_next P (Beat timestamp) s new all = all

pub all_weaker : {X : Type 0} (P Q : X → Type 0) → ((x : X) → P x → Q x) → (xs : List X) → AllByRecursion P xs → AllByRecursion Q xs
all_weaker P Q weaker [] all = tt
all_weaker P Q weaker (x ∷ xs) (here, all) = (weaker x here, all_weaker P Q weaker xs all)

-- all open branches have lesser numbers than the next entry
abbrev pub OpenedBefore : Start → Type 0
OpenedBefore s = AllByRecursion (λ (o : OpenBranch). o.entry < s.entry) s.opened

pub opened_before : (s : Start) (history : List LogEntry) → OpenedBefore s → OpenedBefore (left_by s history)
opened_before s [] all = all
opened_before s (entry ∷ earlier) all =
    let here : Start = left_by s earlier in
    all_next (λ (o : OpenBranch). o.entry < here.entry + 1) entry.kind here (λ xid rows. omega arith)
    (all_weaker (λ (o : OpenBranch). o.entry < here.entry) (λ (o : OpenBranch). o.entry < here.entry + 1) (λ o h. omega (arith, h)) here.opened
    (opened_before s earlier all))

pub held_before : (from : ℕ) (held : List (Xid × ℕ)) → 1 ≤ from → AllByRecursion (λ (o : OpenBranch). o.entry < from) (map held_open held)
held_before from [] h = tt
held_before from (first ∷ held) h = (h, held_before from held h)

pub start_before : (from : RestartPoint) → 1 ≤ from.entry → OpenedBefore (start_at from)
start_before from h = held_before from.entry from.held h

-- ---- a restart point's start

pub held_again : (held : List (Xid × ℕ)) → map held_of (map held_open held) ≡ held
held_again [] = refl
held_again (first ∷ held) = ap (λ (list : List (Xid × ℕ)). first ∷ list) (held_again held)

pub all_forgotten : (from : ℕ) (opened : List OpenBranch) → AllByRecursion (λ (o : OpenBranch). o.entry < from) opened
    → map held_open (map held_of opened) ≡ map (forget from) opened
all_forgotten from [] all = refl
all_forgotten from (o ∷ opened) (here, all) =
    ap (λ (list : List OpenBranch). held_open (held_of o) ∷ list) (all_forgotten from opened all)
    ∙ ap (λ (b : OpenBranch). b ∷ map (forget from) opened) (sym (forget_early from o (lt-leb from o.entry here)))

pub point_is_kept : (from : RestartPoint) (history : List LogEntry) → 1 ≤ from.entry
    → start_at (point_behind from history) ≡ kept (left_by (start_at from) history).entry (left_by (start_at from) history)
point_is_kept from [] h =
    ap (start_by from.entry from.mark)
    (ap (map held_open) (sym (held_again from.held)) ∙ all_forgotten from.entry (map held_open from.held) (held_before from.entry from.held h))
point_is_kept from (entry ∷ earlier) h =
    let here : Start = left_by (start_at from) (entry ∷ earlier) in
    ap (start_by here.entry here.mark) (all_forgotten here.entry here.opened (opened_before (start_at from) (entry ∷ earlier) (start_before from h)))

pub held_kept : (from : ℕ) (opened : List OpenBranch) → map held_of (map (forget from) opened) ≡ map held_of opened
held_kept from [] = refl
held_kept from (o ∷ opened) = ap (λ (list : List (Xid × ℕ)). held_of o ∷ list) (held_kept from opened)

-- the point behind an entry, by where the reading then stands
abbrev point_of : LogEntry → ℕ → ℕ → List (Xid × ℕ) → RestartPoint
point_of entry number mark held = record { entry = number; place = entry.end; mark = mark; checksum = entry.checksum; held = held }

abbrev point_here : LogEntry → Start → RestartPoint
point_here entry here = point_of entry here.entry here.mark (map held_of here.opened)

pub point_behind_append : (from : RestartPoint) (later earlier : List LogEntry) → 1 ≤ from.entry
    → point_behind (point_behind from earlier) later ≡ point_behind from (later ++ earlier)
point_behind_append from [] earlier h = refl
point_behind_append from (entry ∷ later) earlier h =
    let s : Start = left_by (start_at from) earlier in
    let here : Start = left_by s (entry ∷ later) in
    ap (λ (t : Start). point_here entry (left_by t (entry ∷ later))) (point_is_kept from earlier h)
    ∙ ap (point_here entry) (left_kept s.entry s (entry ∷ later) (omega arith))
    ∙ ap (point_of entry here.entry here.mark) (held_kept s.entry here.opened)
    ∙ ap (point_here entry) (sym (left_append (start_at from) (entry ∷ later) earlier))
