-- What is read from a restart point is the rest of the whole reading.
use Rattle.std.proofs.Common.{◌≡◌, ◌≤◌, ◌<◌, ℕ, zero, suc, ◌+◌, ◌-◌, min, inl, inr, leb, Bool, true, false, cond, ◌&&◌, if◌then◌else◌, List, [], ◌∷◌, ◌++◌, length, append_assoc, append-nil, map, filter, take, drop, reverse, Option, Some, None, is_none, ap, sym, subst, refl, ◌∙◌, arith}
use Rattle.std.specs.List.{AllByRecursion}
use Rattle.std.specs.Option.{option_map}
use Rattle.std.specs.Ordering.{is_gt}
use Rattle.std.proofs.lemmas.Bool.{cases_lt, le-leb, lt-leb, leb-true, leb-false}
use Rattle.std.proofs.lemmas.List.{map-append, append_cancel_left, reverse-append, reverse-reverse, length-reverse, length-take, take-append-drop, drop_at}
use Rattle.std.proofs.lemmas.List.Elements.{filter-append}
use Rattle.std.proofs.lemmas.Grind.{reverse_onto}
use Rattle.cdc_base.specs.declared.key.Key.{Key}
use Rattle.cdc_base.specs.declared.key.Key.TheVariants.{Shared, Plain as PlainKey}
use Rattle.cdc_base.specs.declared.place.Place.{Place}
use Rattle.cdc_base.specs.Key.{key_order}
use Rattle.cdc_event.specs.File.{RestIsRead}
use Rattle.cdc_model.specs.declared.entry.EntryKind.{EntryKind}
use Rattle.cdc_model.specs.declared.entry.EntryKind.TheVariants.{Prepare, OnePhase, Commit, Rollback, Plain, Beat}
use Rattle.cdc_model.specs.declared.fault.NodeFault.{NodeFault}
use Rattle.cdc_model.specs.declared.fault.NodeFault.TheVariants.{Sort}
use Rattle.cdc_model.specs.declared.fault.SortFault.{SortFault}
use Rattle.cdc_model.specs.declared.node_log.NodeLog.{NodeLog}
use Rattle.cdc_model.specs.Records.{LogEntry, CommittedBranch, OpenBranch, Start}
use Rattle.cdc_model.specs.Start.{find_open, next, left_by}
use Rattle.cdc_model.specs.Watermark.{node_low_water_mark}
use Rattle.cdc_model.specs.Soundness.{sound_entries, sort_or, reached, AllSound}
use Rattle.cdc_model.specs.Branch.{Begun, committed, branch_of, begun_branches}
use Rattle.cdc_model.specs.Entries.{AreLogEntries}
use Rattle.cdc_model.specs.Transaction.{node_branches}
use Rattle.cdc_model.specs.ReadFrom.{AreEntriesReadFrom}
use Rattle.cdc_model.specs.Restart.{RestartPoint, first_point, start_at, point_behind, point_before, IsAtMost, IsRestartEntry, ReadsTheRest, RestartReadsTheRest, RestartPlaceReadsTheRest}
use Rattle.cdc_model.proofs.Marks.{numbers_count}
use Rattle.cdc_model.proofs.SoundFront.{left_append, left_behind, sound_is_longest}
use Rattle.cdc_model.proofs.FaultOrder.{fault_behind}
use Rattle.cdc_model.proofs.GrammarRows.{all_both, all_front, all_back}
use Rattle.cdc_model.proofs.SoundGrowth.{begun_append}
use Rattle.cdc_model.proofs.RestOfLog.{start_reads_all, rest_of_log_is_read}
use Rattle.cdc_model.proofs.Keeping.{forget, kept, forget_late, forget_early, find_kept, left_kept, sound_kept, sort_fault_kept, mark_kept, number_grows, all_weaker, OpenedBefore, opened_before, start_before, point_is_kept}
use Rattle.cdc_model.proofs.RestartPoints.{at_most_itself, BegunBelow, given_all, restart_point_stays}

-- ---- branches that are new behind a number

abbrev new_from : ℕ → Key → List Begun → List CommittedBranch
new_from first last begun = map (λ (b : Begun). b.1) (filter (λ (b : Begun). leb first b.0 && is_gt (key_order b.1.key last)) begun)

pub new_from_append : (first : ℕ) (last : Key) (front back : List Begun) → new_from first last (front ++ back) ≡ new_from first last front ++ new_from first last back
new_from_append first last front back =
    ap (λ (list : List Begun). map (λ (b : Begun). b.1) list) (filter-append (λ (b : Begun). leb first b.0 && is_gt (key_order b.1.key last)) front back)
    ∙ map-append (λ (b : Begun). b.1) (filter (λ (b : Begun). leb first b.0 && is_gt (key_order b.1.key last)) front)
    (filter (λ (b : Begun). leb first b.0 && is_gt (key_order b.1.key last)) back)

-- one branch, by its tests
pub one_by : (first : ℕ) (last : Key) (b : Begun) (here over : Bool) → leb first b.0 ≡ here → is_gt (key_order b.1.key last) ≡ over
    → new_from first last (b ∷ []) ≡ cond (here && over) (b.1 ∷ []) []
one_by first last b here over p q =
    ap (λ (t : Bool). map (λ (x : Begun). x.1) (cond (t && is_gt (key_order b.1.key last)) (b ∷ []) [])) p
    ∙ ap (λ (t : Bool). map (λ (x : Begun). x.1) (cond (here && t) (b ∷ []) [])) q
    ∙ by (here && over)
  where
    by : (t : Bool) → map (λ (x : Begun). x.1) (cond t (b ∷ []) []) ≡ cond t (b.1 ∷ []) []
    by true = refl
    by false = refl

pub old_one : (first : ℕ) (last : Key) (b : Begun) → leb first b.0 ≡ false → new_from first last (b ∷ []) ≡ []
old_one first last b is = one_by first last b false (is_gt (key_order b.1.key last)) is refl

pub low_one : (first : ℕ) (last : Key) (b : Begun) → IsAtMost b.1.key last → new_from first last (b ∷ []) ≡ []
low_one first last b low = one_by first last b (leb first b.0) false refl low ∙ by (leb first b.0)
  where
    by : (t : Bool) → cond (t && false) (b.1 ∷ []) [] ≡ []
    by true = refl
    by false = refl

-- two branches from their numbers on are new alike
pub same_one : (first other : ℕ) (last : Key) (b c : Begun) → first ≤ b.0 → other ≤ c.0 → b.1 ≡ c.1 → new_from first last (b ∷ []) ≡ new_from other last (c ∷ [])
same_one first other last b c p q is =
    one_by first last b true (is_gt (key_order b.1.key last)) (le-leb first b.0 p) refl
    ∙ ap (λ (branch : CommittedBranch). cond (is_gt (key_order branch.key last)) (branch ∷ []) []) is
    ∙ sym (one_by other last c true (is_gt (key_order c.1.key last)) (le-leb other c.0 q) refl)

-- an old branch is dropped, whether it began before the first number or has a low key
pub dropped_one : (first number : ℕ) (last : Key) (b : Begun) → b.0 < number → (first ≤ b.0 → b.0 < number → IsAtMost b.1.key last) → new_from first last (b ∷ []) ≡ []
dropped_one first number last b under low =
    elim (cases_lt b.0 first) [
      | inl less ↦ old_one first last b (lt-leb first b.0 less)
      | inr more ↦ low_one first last b (low more under)
    ]

pub all_dropped : (first number : ℕ) (last : Key) (begun : List Begun) → AllByRecursion (λ (b : Begun). b.0 < number) begun → BegunBelow first number last begun
    → new_from first last begun ≡ []
all_dropped first number last [] under below = refl
all_dropped first number last (b ∷ begun) (here, under) (low, below) =
    new_from_append first last (b ∷ []) begun
    ∙ ap (λ (list : List CommittedBranch). list ++ new_from first last begun) (dropped_one first number last b here low)
    ∙ all_dropped first number last begun under below

-- ---- what one entry commits, read whole and from the number on

abbrev begun_of : Key → ℕ → ℕ → OpenBranch → Begun
begun_of key number seconds o = (o.entry, record { key = key; entry = number; seconds = seconds; rows = o.rows })

module _ (first from : ℕ) (last : Key) (above_first : first ≤ from) (above_zero : 1 ≤ from) where
  commit_kept : (key : Key) (number seconds : ℕ) (opened : Option OpenBranch) → BegunBelow first from last (committed key number seconds opened)
      → new_from from last (committed key number seconds (option_map (forget from) opened)) ≡ new_from first last (committed key number seconds opened)
  commit_kept key number seconds None below = refl
  commit_kept key number seconds (Some o) (low, rest) = by (leb from o.entry) refl
    where
      by : (b : Bool) → leb from o.entry ≡ b
          → new_from from last (begun_of key number seconds (forget from o) ∷ []) ≡ new_from first last (begun_of key number seconds o ∷ [])
      by true is =
          let late : from ≤ o.entry = leb-true from o.entry is in
          ap (λ (p : OpenBranch). new_from from last (begun_of key number seconds p ∷ [])) (forget_late from o is)
          ∙ same_one from first last (begun_of key number seconds o) (begun_of key number seconds o) late (omega (arith, late, above_first)) refl
      by false is =
          ap (λ (p : OpenBranch). new_from from last (begun_of key number seconds p ∷ [])) (forget_early from o is)
          ∙ old_one from last (0, record { key = key; entry = number; seconds = seconds; rows = [] }) (lt-leb from 0 above_zero)
          ∙ sym (dropped_one first from last (begun_of key number seconds o) (leb-false from o.entry is) low)

  given_kept : (node : ℕ) (kind : EntryKind) (s : Start) → from ≤ s.entry → BegunBelow first from last (branch_of node kind s)
      → new_from from last (branch_of node kind (kept from s)) ≡ new_from first last (branch_of node kind s)
  given_kept node (Prepare xid rows) s h below = refl
  given_kept node (OnePhase xid rows timestamp seconds) s h below =
      let b : Begun = (s.entry, record { key = Shared timestamp xid.gtrid; entry = s.entry; seconds = seconds; rows = rows }) in
      same_one from first last b b h (omega (arith, h, above_first)) refl
  given_kept node (Commit xid timestamp seconds) s h below =
      ap (λ (o : Option OpenBranch). new_from from last (committed (Shared timestamp xid.gtrid) s.entry seconds o)) (find_kept from xid s.opened)
      ∙ commit_kept (Shared timestamp xid.gtrid) s.entry seconds (find_open xid s.opened) below
  given_kept node (Rollback xid) s h below = refl
  given_kept node (Plain rows seconds) s h below =
      let b : Begun = (s.entry, record { key = PlainKey s.mark node s.entry; entry = s.entry; seconds = seconds; rows = rows }) in
      same_one from first last b b h (omega (arith, h, above_first)) refl
  given_kept node (Beat timestamp) s h below = refl

  begun_kept : (node : ℕ) (s : Start) (later : List LogEntry) → from ≤ s.entry → BegunBelow first from last (begun_branches s node later)
      → new_from from last (begun_branches (kept from s) node later) ≡ new_from first last (begun_branches s node later)
  begun_kept node s [] h below = refl
  begun_kept node s (entry ∷ later) h below =
      let P : Begun → Type 0 = λ (b : Begun). first ≤ b.0 → b.0 < from → IsAtMost b.1.key last in
      let before : List Begun = begun_branches s node later in
      let here : List Begun = branch_of node entry.kind (left_by s later) in
      new_from_append from last (begun_branches (kept from s) node later) (branch_of node entry.kind (left_by (kept from s) later))
      ∙ ap (λ (list : List CommittedBranch). list ++ new_from from last (branch_of node entry.kind (left_by (kept from s) later)))
      (begun_kept node s later h (all_front P before here below))
      ∙ ap (λ (t : Start). new_from first last before ++ new_from from last (branch_of node entry.kind t)) (left_kept from s later h)
      ∙ ap (λ (list : List CommittedBranch). new_from first last before ++ list)
      (given_kept node entry.kind (left_by s later) (number_grows from s later h) (all_back P before here below))
      ∙ sym (new_from_append first last before here)

-- what entries commit began before the next one
pub begun_before : (start : Start) (node : ℕ) (history : List LogEntry) → OpenedBefore start
    → AllByRecursion (λ (b : Begun). b.0 < (left_by start history).entry) (begun_branches start node history)
begun_before start node [] before = tt
begun_before start node (entry ∷ earlier) before =
    let here : Start = left_by start earlier in
    all_both (λ (b : Begun). b.0 < here.entry + 1) (begun_branches start node earlier) (branch_of node entry.kind here)
    (all_weaker (λ (b : Begun). b.0 < here.entry) (λ (b : Begun). b.0 < here.entry + 1) (λ b h. omega (arith, h)) (begun_branches start node earlier)
    (begun_before start node earlier before))
    (given_all (λ (n : ℕ). n < here.entry + 1) node entry.kind here (omega arith)
    (all_weaker (λ (o : OpenBranch). o.entry < here.entry) (λ (o : OpenBranch). o.entry < here.entry + 1) (λ o h. omega (arith, h)) here.opened
    (opened_before start earlier before)))

-- ---- a whole reading, and the one behind some sound entries

pub sound_behind : (start : Start) (before behind : List LogEntry) → AllSound start before
    → sound_entries start (before ++ behind) ≡ before ++ sound_entries (left_by start (reverse before)) behind
sound_behind start [] behind sound = refl
sound_behind start (entry ∷ before) behind (none, sound) =
    ap (λ (f : Option SortFault). if is_none f then entry ∷ sound_entries (next entry.kind start) (before ++ behind) else []) none
    ∙ ap (λ (list : List LogEntry). entry ∷ list)
    (sound_behind (next entry.kind start) before behind sound
    ∙ ap (λ (s : Start). before ++ sound_entries s behind) (left_behind start entry before))

module _ (last : Key) (node : ℕ) (first : Start) (before behind : List LogEntry) where
  abbrev here : Start
  here = left_by first (reverse before)

  abbrev sound_later : List LogEntry
  sound_later = sound_entries here behind

  abbrev whole_log : NodeLog
  whole_log = record { start = first; entries = before ++ behind }

  abbrev rest_log : NodeLog
  rest_log = record { start = kept here.entry here; entries = behind }

  rest_is_read : OpenedBefore first → 1 ≤ here.entry → AllSound first before
      → BegunBelow first.entry here.entry last (begun_branches first node (reverse sound_later ++ reverse before))
      → ReadsTheRest last node whole_log rest_log
  rest_is_read opened above sound below =
      let same : here.entry ≤ here.entry = omega arith in
      let grown : first.entry ≤ here.entry = omega (arith, numbers_count first (reverse before)) in
      let whole_sound : sound_entries first (before ++ behind) ≡ before ++ sound_later = sound_behind first before behind sound in
      let rest_sound : sound_entries (kept here.entry here) behind ≡ sound_later = sound_kept here.entry here behind same in
      let whole_history : reverse (sound_entries first (before ++ behind)) ≡ reverse sound_later ++ reverse before =
      ap reverse whole_sound ∙ reverse-append before sound_later in
      let whole_reached : reached whole_log ≡ left_by here (reverse sound_later) =
      ap (left_by first) whole_history ∙ left_append first (reverse sound_later) (reverse before) in
      let rest_reached : reached rest_log ≡ kept here.entry (left_by here (reverse sound_later)) =
      ap (λ (list : List LogEntry). left_by (kept here.entry here) (reverse list)) rest_sound
      ∙ left_kept here.entry here (reverse sound_later) same in
      let earlier : List Begun = begun_branches first node (reverse before) in
      let later : List Begun = begun_branches here node (reverse sound_later) in
      let P : Begun → Type 0 = λ (b : Begun). first.entry ≤ b.0 → b.0 < here.entry → IsAtMost b.1.key last in
      let both : BegunBelow first.entry here.entry last (earlier ++ later) =
      subst (BegunBelow first.entry here.entry last) (begun_append first node (reverse sound_later) (reverse before)) below in
      let whole_new : node_branches last (node, whole_log) ≡ new_from first.entry last later =
      ap (λ (list : List LogEntry). new_from first.entry last (begun_branches first node list)) whole_history
      ∙ ap (new_from first.entry last) (begun_append first node (reverse sound_later) (reverse before))
      ∙ new_from_append first.entry last earlier later
      ∙ ap (λ (list : List CommittedBranch). list ++ new_from first.entry last later)
      (all_dropped first.entry here.entry last earlier (begun_before first node (reverse before) opened) (all_front P earlier later both)) in
      let rest_new : node_branches last (node, rest_log) ≡ new_from first.entry last later =
      ap (λ (list : List LogEntry). new_from here.entry last (begun_branches (kept here.entry here) node (reverse list))) rest_sound
      ∙ begun_kept first.entry here.entry last grown above node here (reverse sound_later) same (all_back P earlier later both) in
      record {
        bound =
            ap node_low_water_mark rest_reached ∙ mark_kept here.entry (left_by here (reverse sound_later)) ∙ sym (ap node_low_water_mark whole_reached);
        branches = rest_new ∙ sym whole_new;
        before = before;
        number = omega (arith, numbers_count first (reverse before), length-reverse before);
        sound = whole_sound ∙ ap (λ (list : List LogEntry). before ++ list) (sym rest_sound);
        fault = λ ended.
            ap (λ (f : Option (Place × SortFault)). sort_or Sort f ended)
            (sort_fault_kept here.entry here behind same ∙ sym (fault_behind first before behind sound));
      }

-- ---- a point's place among the entries

pub take_past : {X : Type 0} (count more : ℕ) (xs ys : List X) → count ≡ length xs + more → take count (xs ++ ys) ≡ xs ++ take more ys
take_past count more [] ys is = ap (λ (n : ℕ). take n ys) (let n : count ≡ more = omega (arith, is) in n)
take_past zero more (x ∷ xs) ys is = absurd (omega (arith, is))
take_past {X} (suc count) more (x ∷ xs) ys is =
    ap (λ (list : List X). x ∷ list) (take_past count more xs ys (let n : count ≡ length xs + more = omega (arith, is) in n))

pub sound_front : (start : Start) (front rest : List LogEntry) → AllSound start (front ++ rest) → AllSound start front
sound_front start [] rest sound = tt
sound_front start (entry ∷ front) rest (none, sound) = (none, sound_front (next entry.kind start) front rest sound)

-- a point of sound entries, split at its number
record Split (from : RestartPoint) (entries : List LogEntry) (number : ℕ) : Type 0 where
  before : List LogEntry
  behind : List LogEntry
  in_order : entries ≡ before ++ behind
  count : length before ≡ number - from.entry
  rest : drop (number - from.entry) entries ≡ behind
  point : point_before from entries number ≡ point_behind from (reverse before)

abbrev split_at : (from : RestartPoint) (entries : List LogEntry) (number : ℕ) → number - from.entry ≤ length entries → Split from entries number
split_at from entries number h =
    let n = number - from.entry in
    let size : length (take n entries) ≡ n =
    length-take n entries ∙ (let least : min n (length entries) ≡ n = omega (arith, h) in least) in
    record {
      before = take n entries;
      behind = drop n entries;
      in_order = sym (take-append-drop n entries);
      count = size;
      rest = refl;
      point = refl;
    }

-- the same over more entries
abbrev split_longer : (from : RestartPoint) (entries : List LogEntry) (number : ℕ) (more : List LogEntry) (s : Split from entries number) → Split from (entries ++ more) number
split_longer from entries number more s =
    let order : entries ++ more ≡ s.before ++ (s.behind ++ more) = ap (λ (list : List LogEntry). list ++ more) s.in_order ∙ append_assoc s.before s.behind more in
    record {
      before = s.before;
      behind = s.behind ++ more;
      in_order = order;
      count = s.count;
      rest = ap (drop (number - from.entry)) order ∙ drop_at s.before (s.behind ++ more) (number - from.entry) s.count;
      point =
          ap (λ (list : List LogEntry). point_behind from (reverse list))
          (ap (take (number - from.entry)) order
          ∙ take_past (number - from.entry) 0 s.before (s.behind ++ more) (let n : number - from.entry ≡ length s.before + 0 = omega (arith, s.count) in n)
          ∙ append-nil s.before);
    }

-- what a restart point reads, by the entries before it
pub rest_of_split : (last : Key) (from point : RestartPoint) (node : ℕ) (before behind : List LogEntry) → 1 ≤ from.entry
    → point ≡ point_behind from (reverse before) → AllSound (start_at from) before
    → IsRestartEntry last (start_at from) node
    (reverse (sound_entries (left_by (start_at from) (reverse before)) behind) ++ reverse before) point.entry
    → (left_by (start_at from) (reverse before)).entry ≡ point.entry
    → ReadsTheRest last node (record { start = start_at from; entries = before ++ behind }) (record { start = start_at point; entries = behind })
rest_of_split last from point node before behind h is sound entry number =
    let first : Start = start_at from in
    let here_is : Start = left_by first (reverse before) in
    subst (λ (s : Start). ReadsTheRest last node (record { start = first; entries = before ++ behind }) (record { start = s; entries = behind }))
    (sym (ap start_at is ∙ point_is_kept from (reverse before) h))
    (rest_is_read last node first before behind (start_before from h)
    (omega (arith, numbers_count first (reverse before), h)) sound
    (subst (λ (n : ℕ). BegunBelow first.entry n last
    (begun_branches first node (reverse (sound_entries here_is behind) ++ reverse before))) (sym number) entry.below))

pub restart_reads_the_rest : RestartReadsTheRest
restart_reads_the_rest last from point node old entries h front is =
    let first : Start = start_at from in
    let sound_old : List LogEntry = sound_entries first old in
    let whole = sound_is_longest first entries in
    let size : point.entry - from.entry ≤ length sound_old = omega (arith, is.sound.most, length-reverse sound_old) in
    let s = split_at from sound_old point.entry size in
    let t = split_longer from sound_old point.entry front.rest s in
    let u = split_longer from (sound_old ++ front.rest) point.entry whole.rest t in
    let sound_new : sound_entries first entries ≡ s.before ++ (s.behind ++ front.rest) = front.is ∙ t.in_order in
    let all_sound : AllSound first (s.before ++ (s.behind ++ front.rest)) = subst (AllSound first) sound_new whole.sound_all in
    let before_sound : AllSound first s.before = sound_front first s.before (s.behind ++ front.rest) all_sound in
    let order : entries ≡ s.before ++ u.behind =
    whole.front ∙ ap (λ (list : List LogEntry). list ++ whole.rest) front.is ∙ u.in_order in
    let here_is : Start = left_by first (reverse s.before) in
    let number : here_is.entry ≡ point.entry =
    omega (arith, numbers_count first (reverse s.before), length-reverse s.before, s.count, is.sound.first) in
    let later : sound_entries here_is u.behind ≡ s.behind ++ front.rest =
    append_cancel_left s.before (sound_entries here_is u.behind) (s.behind ++ front.rest)
    (sym (sound_behind first s.before u.behind before_sound) ∙ ap (sound_entries first) (sym order) ∙ sound_new) in
    let entry : IsRestartEntry last first node (reverse (sound_entries here_is u.behind) ++ reverse s.before) point.entry =
    subst (λ (list : List LogEntry). IsRestartEntry last first node list point.entry)
    (ap reverse t.in_order ∙ reverse-append s.before (s.behind ++ front.rest)
    ∙ ap (λ (list : List LogEntry). reverse list ++ reverse s.before) (sym later))
    (restart_point_stays last last from node sound_old (sound_old ++ front.rest) point (at_most_itself last) record { rest = front.rest; is = refl } is).sound in
    let read = rest_of_split last from point node s.before u.behind h (is.parts ∙ s.point) before_sound entry number in
    subst (λ (list : List LogEntry). ReadsTheRest last node (record { start = first; entries = list }) (record { start = start_at point; entries = drop (point.entry - from.entry) list })) (sym order)
    (subst (λ (list : List LogEntry). ReadsTheRest last node (record { start = first; entries = s.before ++ u.behind }) (record { start = start_at point; entries = list }))
    (sym (drop_at s.before u.behind (point.entry - from.entry) s.count)) read)

-- ---- the place of a point

-- the last of some entries, where there are any
pub data Last (entries : List LogEntry) : Type 0 where
  none : entries ≡ [] → Last entries
  some : (front : List LogEntry) (entry : LogEntry) → entries ≡ front ++ entry ∷ [] → reverse entries ≡ entry ∷ reverse front → Last entries

pub last_of : (entries : List LogEntry) → Last entries
last_of entries = by (reverse entries) refl
  where
    by : (list : List LogEntry) → reverse entries ≡ list → Last entries
    by [] is = none (sym (reverse-reverse entries) ∙ ap reverse is)
    by (entry ∷ rest) is =
        let order : entries ≡ reverse rest ++ entry ∷ [] = sym (reverse-reverse entries) ∙ ap reverse is ∙ reverse_onto rest entry [] in
        some (reverse rest) entry order (is ∙ ap (λ (list : List LogEntry). entry ∷ list) (sym (reverse-reverse rest)))

module _ (rest_read : RestIsRead) where
  place_of_split : (files : List (List ℕ)) (before behind : List LogEntry) (fault : Option (Place × NodeFault)) (point : RestartPoint)
      → point ≡ point_behind first_point (reverse before) → AreLogEntries files (before ++ behind) fault → Last before
      → AreEntriesReadFrom point.place point.checksum files behind fault
  place_of_split files before behind fault point is are (none empty) =
      let start : point ≡ first_point = is ∙ ap (λ (list : List LogEntry). point_behind first_point (reverse list)) empty in
      let all : AreLogEntries files behind fault = subst (λ (list : List LogEntry). AreLogEntries files (list ++ behind) fault) empty are in
      subst (λ (p : RestartPoint). AreEntriesReadFrom p.place p.checksum files behind fault) (sym start)
      ((start_reads_all 0 files behind fault).1 all)
  place_of_split files before behind fault point is are (some front entry order turned) =
      let here_is : point ≡ point_behind first_point (entry ∷ reverse front) = is ∙ ap (point_behind first_point) turned in
      let all : AreLogEntries files (front ++ entry ∷ behind) fault =
      subst (λ (list : List LogEntry). AreLogEntries files list fault) (ap (λ (list : List LogEntry). list ++ behind) order ∙ append_assoc front (entry ∷ []) behind) are in
      subst (λ (p : RestartPoint). AreEntriesReadFrom p.place p.checksum files behind fault) (sym here_is)
      (rest_of_log_is_read rest_read files front behind entry fault all)

  pub restart_place_reads_the_rest : RestartPlaceReadsTheRest
  restart_place_reads_the_rest last point node files old entries fault are front is =
      let first : Start = start_at first_point in
      let sound_old : List LogEntry = sound_entries first old in
      let whole = sound_is_longest first entries in
      let size : point.entry - 1 ≤ length sound_old = omega (arith, is.sound.most, length-reverse sound_old) in
      let s = split_at first_point sound_old point.entry size in
      let t = split_longer first_point sound_old point.entry front.rest s in
      let u = split_longer first_point (sound_old ++ front.rest) point.entry whole.rest t in
      let order : entries ≡ s.before ++ u.behind = whole.front ∙ ap (λ (list : List LogEntry). list ++ whole.rest) front.is ∙ u.in_order in
      subst (λ (list : List LogEntry). AreEntriesReadFrom point.place point.checksum files list fault)
      (sym (ap (drop (point.entry - 1)) order ∙ drop_at s.before u.behind (point.entry - 1) s.count))
      (place_of_split files s.before u.behind fault point (is.parts ∙ s.point)
      (subst (λ (list : List LogEntry). AreLogEntries files list fault) order are) (last_of s.before))
