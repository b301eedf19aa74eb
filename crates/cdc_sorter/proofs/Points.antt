-- The points of a log, while it is read on.
use Rattle.std.proofs.Common.{◌≡◌, inl, inr, ◌≤◌, ◌<◌, ℕ, ◌+◌, ◌-◌, Bool, true, false, not, cond, ltb, leb, List, [], ◌∷◌, ◌++◌, length, map, filter, reverse, Some, None, ap, sym, subst, refl, ◌∙◌, arith}
use Rattle.std.specs.List.{AllByRecursion}
use Rattle.std.specs.Ordering.{is_gt, is_lt, ordering_reverse}
use Rattle.std.specs.declared.cmp.Ordering.{Ordering}
use Rattle.std.specs.declared.cmp.Ordering.TheVariants.{Less, Equal, Greater}
use Rattle.cdc_base.proofs.KeyOrder.{key_order_total}
use Rattle.std.proofs.lemmas.Bool.{leb-true, le-leb, ltb-true, ltb-false, cases_lt}
use Rattle.std.proofs.lemmas.List.{reverse-append, reverse-reverse, length-reverse, take_all}
use Rattle.cdc_base.specs.declared.key.Key.{Key}
use Rattle.cdc_base.specs.declared.place.Place.{Place}
use Rattle.cdc_base.specs.declared.xid.Xid.{Xid}
use Rattle.cdc_base.specs.Key.{key_order}
use Rattle.cdc_base.specs.Xid.{same_xid, xid_order}
use Rattle.cdc_model.specs.declared.entry.EntryKind.{EntryKind}
use Rattle.cdc_model.specs.declared.entry.EntryKind.TheVariants.{Prepare, OnePhase, Commit, Rollback, Plain, Beat}
use Rattle.cdc_model.specs.Records.{Row, LogEntry, OpenBranch, Start}
use Rattle.cdc_model.specs.Start.{find_open, without, enter, opened_by, next, left_by}
use Rattle.cdc_model.specs.Soundness.{entry_fault}
use Rattle.cdc_model.specs.Branch.{Begun, begun_branches}
use Rattle.cdc_model.specs.Commits.{IsStart}
use Rattle.cdc_model.specs.Restart.{RestartPoint, held_of, start_at, point_behind, point_before, IsAtMost, IsRestartEntry, IsLatestPoint}
use Rattle.cdc_model.proofs.Marks.{numbers_count}
use Rattle.cdc_model.proofs.SameXid.{no_test}
use Rattle.cdc_model.proofs.GrammarRows.{all_both, all_front, all_back}
use Rattle.cdc_model.proofs.Keeping.{all_weaker, OpenedBefore, opened_before, start_before, held_again}
use Rattle.cdc_model.proofs.XidOrder.{all_filtered}
use Rattle.cdc_model.proofs.RestartPoints.{front_before, at_most_on}
use Rattle.cdc_open.specs.Standing.{StandingBranch, branches_of, without_standing, enter_standing}
use Rattle.cdc_sorter.specs.Trail.{Stand, RecentBranch, Trail, Standings, reading_start, stand_of, held_at, point_of, earliest, stands_open, stands_above, recent_above, standing_opened, standing_by, standings_behind, present, trail_known, cut_stand, cut_of}
use Rattle.cdc_sorter.specs.Points.{SomeByRecursion, IsStand, BeganAt, HoldsPoints}
use Rattle.cdc_sorter.proofs.Positions.{closed_by, max_none}
use Rattle.cdc_sorter.proofs.Held.{now_all, ended_none}

-- ---- some element

pub some_front : {X : Type 0} (P : X → Type 0) (xs ys : List X) → SomeByRecursion P xs → SomeByRecursion P (xs ++ ys)
some_front P [] ys some = absurd some
some_front P (x ∷ xs) ys (inl here) = inl here
some_front P (x ∷ xs) ys (inr later) = inr (some_front P xs ys later)

pub some_back : {X : Type 0} (P : X → Type 0) (xs ys : List X) → SomeByRecursion P ys → SomeByRecursion P (xs ++ ys)
some_back P [] ys some = some
some_back P (x ∷ xs) ys some = inr (some_back P xs ys some)

-- what some element has, and all have, one has together
pub some_of_all : {X : Type 0} (P Q : X → Type 0) (R : Type 0) → ((x : X) → P x → Q x → R) → (xs : List X) → SomeByRecursion P xs → AllByRecursion Q xs → R
some_of_all P Q R make [] some all = absurd some
some_of_all P Q R make (x ∷ xs) (inl is) (here, all) = make x is here
some_of_all P Q R make (x ∷ xs) (inr later) (here, all) = some_of_all P Q R make xs later all

-- ---- open branches and the points before their Prepares

pub without_is : (xid : Xid) (standing : List StandingBranch) → branches_of (without_standing xid standing) ≡ without xid (branches_of standing)
without_is xid [] = refl
without_is xid (first ∷ rest) = by (same_xid xid first.branch.xid) (without_is xid rest)
  where
    by : (b : Bool) → branches_of (without_standing xid rest) ≡ without xid (branches_of rest)
        → branches_of (cond (not b) (first ∷ without_standing xid rest) (without_standing xid rest)) ≡ cond (not b) (first.branch ∷ without xid (branches_of rest)) (without xid (branches_of rest))
    by true later = later
    by false later = ap (λ (list : List OpenBranch). first.branch ∷ list) later

pub enter_is : (new : StandingBranch) (standing : List StandingBranch) → branches_of (enter_standing new standing) ≡ enter new.branch (branches_of standing)
enter_is new [] = refl
enter_is new (first ∷ rest) = by (is_lt (xid_order new.branch.xid first.branch.xid)) (enter_is new rest)
  where
    by : (b : Bool) → branches_of (enter_standing new rest) ≡ enter new.branch (branches_of rest)
        → branches_of (cond b (new ∷ first ∷ rest) (first ∷ enter_standing new rest)) ≡ cond b (new.branch ∷ first.branch ∷ branches_of rest) (first.branch ∷ enter new.branch (branches_of rest))
    by true later = refl
    by false later = ap (λ (list : List OpenBranch). first.branch ∷ list) later

-- where no branch of an xid is open, leaving it out changes nothing
pub without_closed_is : (xid : Xid) (standing : List StandingBranch) → find_open xid (branches_of standing) ≡ None → without_standing xid standing ≡ standing
without_closed_is xid [] none = refl
without_closed_is xid (first ∷ rest) none = by (same_xid xid first.branch.xid) none (without_closed_is xid rest)
  where
    by : (same : Bool) → cond same (Some first.branch) (find_open xid (branches_of rest)) ≡ None → (find_open xid (branches_of rest) ≡ None → without_standing xid rest ≡ rest)
        → cond (not same) (first ∷ without_standing xid rest) (without_standing xid rest) ≡ first ∷ rest
    by true is later = absurd (cc)
    by false is later = ap (λ (list : List StandingBranch). first ∷ list) (later is)

-- a Prepare that is sound enters its branch
pub standing_prepared : (xid : Xid) (rows : List Row) (place : Place) (checksum : ℕ) (here : Standings) → entry_fault (Prepare xid rows) (reading_start here) ≡ None
    → standings_behind (Prepare xid rows) place checksum here
    ≡ record { entry = here.entry + 1; mark = here.mark; opened = enter_standing (standing_opened xid rows place checksum here) here.opened }
standing_prepared xid rows place checksum here sound =
    let closed : find_open xid (branches_of here.opened) ≡ None = closed_by xid (find_open xid (branches_of here.opened)) sound in
    let new : StandingBranch = standing_opened xid rows place checksum here in
    let there : ℕ → List StandingBranch → Standings = λ (mark : ℕ) (list : List StandingBranch). record { entry = here.entry + 1; mark = mark; opened = enter_standing new list } in
    ap (λ (mark : ℕ). there mark (without_standing xid here.opened)) (max_none here.mark)
    ∙ ap (there here.mark) (without_closed_is xid here.opened closed)

pub all_standing : (P : StandingBranch → Type 0) (new : StandingBranch) (standing : List StandingBranch) → P new → AllByRecursion P standing → AllByRecursion P (enter_standing new standing)
all_standing P new [] here all = (here, tt)
all_standing P new (first ∷ rest) here (one, all) = by (is_lt (xid_order new.branch.xid first.branch.xid)) (all_standing P new rest here all)
  where
    by : (b : Bool) → AllByRecursion P (enter_standing new rest) → AllByRecursion P (cond b (new ∷ first ∷ rest) (first ∷ enter_standing new rest))
    by true later = (here, (one, all))
    by false later = (one, later)

-- the open branches behind one more entry
pub opened_is : (kind : EntryKind) (place : Place) (checksum : ℕ) (here : Standings) → branches_of (standing_by kind place checksum here) ≡ opened_by kind (reading_start here)
opened_is (Prepare xid rows) place checksum here =
    enter_is (standing_opened xid rows place checksum here) (without_standing xid here.opened)
    ∙ ap (enter (standing_opened xid rows place checksum here).branch) (without_is xid here.opened)
opened_is (OnePhase xid rows timestamp seconds) place checksum here = refl
opened_is (Commit xid timestamp seconds) place checksum here = without_is xid here.opened
opened_is (Rollback xid) place checksum here = without_is xid here.opened
opened_is (Plain rows seconds) place checksum here = refl
opened_is (Beat timestamp) place checksum here = refl

pub start_behind : (kind : EntryKind) (place : Place) (checksum : ℕ) (here : Standings) → reading_start (standings_behind kind place checksum here) ≡ next kind (reading_start here)
start_behind kind place checksum here =
    let start_by : ℕ → ℕ → List OpenBranch → Start = λ (entry : ℕ) (mark : ℕ) (opened : List OpenBranch). record { entry = entry; mark = mark; opened = opened } in
    ap (start_by (next kind (reading_start here)).entry (next kind (reading_start here)).mark) (opened_is kind place checksum here)

-- ---- points

reversed : (entry : LogEntry) (history : List LogEntry) → reverse (entry ∷ history) ≡ reverse history ++ entry ∷ []
reversed entry history = reverse-append (entry ∷ []) history

-- a point stays where the log goes on
pub point_stays : (from : RestartPoint) (entry : LogEntry) (history : List LogEntry) (number : ℕ) → number ≤ from.entry + length history
    → point_before from (reverse (entry ∷ history)) number ≡ point_before from (reverse history) number
point_stays from entry history number h =
    sym (front_before from (reverse history) (reverse (entry ∷ history)) number (record { rest = entry ∷ []; is = reversed entry history }) (omega (arith, h, length-reverse history)))

-- the point behind all
pub point_last : (from : RestartPoint) (history : List LogEntry) (number : ℕ) → number ≡ from.entry + length history → point_before from (reverse history) number ≡ point_behind from history
point_last from history number h =
    ap (λ (list : List LogEntry). point_behind from (reverse list)) (take_all (number - from.entry) (reverse history) (omega (arith, h, length-reverse history)))
    ∙ ap (point_behind from) (reverse-reverse history)

abbrev point_by : ℕ → Place → ℕ → ℕ → List (Xid × ℕ) → RestartPoint
point_by entry place mark checksum held = record { entry = entry; place = place; mark = mark; checksum = checksum; held = held }

pub point_parts : (from : RestartPoint) (history : List LogEntry)
    → point_behind from history
    ≡ point_by (left_by (start_at from) history).entry (point_behind from history).place (left_by (start_at from) history).mark (point_behind from history).checksum
    (map held_of (left_by (start_at from) history).opened)
point_parts from [] = ap (point_by from.entry from.place from.mark from.checksum) (sym (held_again from.held))
point_parts from (entry ∷ earlier) = refl

-- ---- the earliest of some points

pub earliest_has : (P : Stand → Type 0) (best : Stand) (stands : List Stand) → P best → AllByRecursion P stands → P (earliest best stands)
earliest_has P best [] here all = here
earliest_has P best (stand ∷ stands) here (one, all) =
    by (ltb stand.entry best.entry) (earliest_has P stand stands one all) (earliest_has P best stands here all)
  where
    by : (b : Bool) → P (earliest stand stands) → P (earliest best stands) → P (earliest (cond b stand best) stands)
    by true first second = first
    by false first second = second

pub earliest_append : (best : Stand) (xs ys : List Stand) → earliest best (xs ++ ys) ≡ earliest (earliest best xs) ys
earliest_append best [] ys = refl
earliest_append best (x ∷ xs) ys = earliest_append (cond (ltb x.entry best.entry) x best) xs ys

-- it is at most each of them
abbrev IsEarliest : Stand → List Stand → Stand → Type 0
IsEarliest best stands found = (found.entry ≤ best.entry) × AllByRecursion (λ (s : Stand). found.entry ≤ s.entry) stands

pub earliest_least : (best : Stand) (stands : List Stand) → IsEarliest best stands (earliest best stands)
earliest_least best [] = (omega arith, tt)
earliest_least best (stand ∷ stands) = by (ltb stand.entry best.entry) refl (earliest_least stand stands) (earliest_least best stands)
  where
    by : (b : Bool) → ltb stand.entry best.entry ≡ b → IsEarliest stand stands (earliest stand stands) → IsEarliest best stands (earliest best stands)
        → IsEarliest best (stand ∷ stands) (earliest (cond b stand best) stands)
    by true is first second =
        let less : stand.entry < best.entry = ltb-true stand.entry best.entry is in
        (omega (arith, first.0, less), (first.0, first.1))
    by false is first second =
        let more : best.entry ≤ stand.entry = ltb-false stand.entry best.entry is in
        (second.0, (omega (arith, second.0, more), second.1))

-- ---- lists of points

pub of_open : (P : Stand → Type 0) (first : ℕ) (standing : List StandingBranch) → AllByRecursion (λ (s : StandingBranch). first ≤ s.branch.entry → P (stand_of s)) standing
    → AllByRecursion P (stands_open first standing)
of_open P first [] all = tt
of_open P first (s ∷ standing) (here, all) = by (leb first s.branch.entry) refl (of_open P first standing all)
  where
    by : (b : Bool) → leb first s.branch.entry ≡ b → AllByRecursion P (stands_open first standing)
        → AllByRecursion P (map stand_of (cond b (s ∷ filter (λ (t : StandingBranch). leb first t.branch.entry) standing) (filter (λ (t : StandingBranch). leb first t.branch.entry) standing)))
    by true is later = (here (leb-true first s.branch.entry is), later)
    by false is later = later

pub open_of : (P : Stand → Type 0) (first : ℕ) (standing : List StandingBranch) → AllByRecursion P (stands_open first standing)
    → AllByRecursion (λ (s : StandingBranch). first ≤ s.branch.entry → P (stand_of s)) standing
open_of P first [] all = tt
open_of P first (s ∷ standing) all = by (leb first s.branch.entry) refl all (open_of P first standing)
  where
    by : (b : Bool) → leb first s.branch.entry ≡ b
        → AllByRecursion P (map stand_of (cond b (s ∷ filter (λ (t : StandingBranch). leb first t.branch.entry) standing) (filter (λ (t : StandingBranch). leb first t.branch.entry) standing)))
        → (AllByRecursion P (stands_open first standing) → AllByRecursion (λ (t : StandingBranch). first ≤ t.branch.entry → P (stand_of t)) standing)
        → AllByRecursion (λ (t : StandingBranch). first ≤ t.branch.entry → P (stand_of t)) (s ∷ standing)
    by true is (here, rest) later = ((λ _. here), later rest)
    by false is rest later = ((λ low. absurd (no_test (sym is ∙ le-leb first s.branch.entry low))), later rest)

pub of_above : (P : Stand → Type 0) (last : Key) (recent : List RecentBranch) → AllByRecursion (λ (r : RecentBranch). is_gt (key_order r.key last) ≡ true → P r.stand) recent
    → AllByRecursion P (stands_above last recent)
of_above P last [] all = tt
of_above P last (r ∷ recent) (here, all) = by (is_gt (key_order r.key last)) refl (of_above P last recent all)
  where
    by : (b : Bool) → is_gt (key_order r.key last) ≡ b → AllByRecursion P (stands_above last recent)
        → AllByRecursion P (map (λ (t : RecentBranch). t.stand) (cond b (r ∷ recent_above last recent) (recent_above last recent)))
    by true is later = (here is, later)
    by false is later = later

pub above_of : (P : Stand → Type 0) (last : Key) (recent : List RecentBranch) → AllByRecursion P (stands_above last recent)
    → AllByRecursion (λ (r : RecentBranch). is_gt (key_order r.key last) ≡ true → P r.stand) recent
above_of P last [] all = tt
above_of P last (r ∷ recent) all = by (is_gt (key_order r.key last)) refl all (above_of P last recent)
  where
    by : (b : Bool) → is_gt (key_order r.key last) ≡ b
        → AllByRecursion P (map (λ (t : RecentBranch). t.stand) (cond b (r ∷ recent_above last recent) (recent_above last recent)))
        → (AllByRecursion P (stands_above last recent) → AllByRecursion (λ (t : RecentBranch). is_gt (key_order t.key last) ≡ true → P t.stand) recent)
        → AllByRecursion (λ (t : RecentBranch). is_gt (key_order t.key last) ≡ true → P t.stand) (r ∷ recent)
    by true is (here, rest) later = ((λ _. here), later rest)
    by false is rest later = ((λ yet. absurd (no_test (sym is ∙ yet))), later rest)

pub all_mapped : {X Y : Type 0} (P : Y → Type 0) (f : X → Y) (xs : List X) → AllByRecursion P (map f xs) → AllByRecursion (λ (x : X). P (f x)) xs
all_mapped P f [] all = tt
all_mapped P f (x ∷ xs) (here, all) = (here, all_mapped P f xs all)

pub mapped_all : {X Y : Type 0} (P : Y → Type 0) (f : X → Y) (xs : List X) → AllByRecursion (λ (x : X). P (f x)) xs → AllByRecursion P (map f xs)
mapped_all P f [] all = tt
mapped_all P f (x ∷ xs) (here, all) = (here, mapped_all P f xs all)

-- a key above a last one is above each that is at most the last
pub above_known : (key known last : Key) → IsAtMost known last → is_gt (key_order key last) ≡ true → is_gt (key_order key known) ≡ true
above_known key known last low above = by (is_gt (key_order key known)) refl
  where
    by : (b : Bool) → is_gt (key_order key known) ≡ b → is_gt (key_order key known) ≡ true
    by true e = e
    by false e = absurd (no_test (sym (at_most_on key known last e low) ∙ above))

-- ---- the present point

module _ (from : RestartPoint) (node : ℕ) (history : List LogEntry) (here : Standings) (trail : Trail)
    (holds : HoldsPoints from node history here trail) (here_is : reading_start here ≡ left_by (start_at from) history) (begins : IsStart (start_at from)) where
  abbrev start : Start
  start = start_at from

  abbrev opened : List OpenBranch
  opened = branches_of here.opened

  pub number_is : here.entry ≡ from.entry + length history
  number_is = ap (λ (s : Start). s.entry) here_is ∙ numbers_count start history

  pub opened_are : opened ≡ (left_by start history).opened
  opened_are = ap (λ (s : Start). s.opened) here_is

  pub all_before : AllByRecursion (λ (o : OpenBranch). o.entry < here.entry) opened
  all_before = subst OpenedBefore (sym here_is) (opened_before start history (start_before from begins.numbered))

  pub present_is : point_before from (reverse history) here.entry ≡ point_of opened trail.ended (present here trail)
  present_is =
      point_last from history here.entry number_is ∙ point_parts from history
      ∙ ap (λ (s : Start). point_by s.entry (point_behind from history).place s.mark (point_behind from history).checksum (map held_of s.opened)) (sym here_is)
      ∙ ap (λ (p : Place). point_by here.entry p here.mark (point_behind from history).checksum (map held_of opened)) (sym holds.place)
      ∙ ap (λ (c : ℕ). point_by here.entry trail.place here.mark c (map held_of opened)) (sym holds.checksum)
      ∙ ap (point_by here.entry trail.place here.mark trail.checksum)
      (sym (ended_none here.entry trail.ended (held_at here.entry opened []) holds.ended ∙ now_all here.entry opened all_before))

  -- ---- the cut

  module _ (last : Key) (later : IsAtMost trail.known last) where
    abbrev stands : List Stand
    stands = stands_open from.entry here.opened ++ stands_above last trail.recent

    abbrev found : Stand
    found = cut_stand last from.entry here trail

    -- a fact of the present and of all points that are told is one of the cut
    cut_has : (P : Stand → Type 0) → P (present here trail) → AllByRecursion (λ (s : StandingBranch). from.entry ≤ s.branch.entry → P (stand_of s)) here.opened
        → AllByRecursion (λ (r : RecentBranch). is_gt (key_order r.key last) ≡ true → P r.stand) trail.recent → P found
    cut_has P now open_ones recent_ones =
        earliest_has P (present here trail) stands now
        (all_both P (stands_open from.entry here.opened) (stands_above last trail.recent) (of_open P from.entry here.opened open_ones) (of_above P last trail.recent recent_ones))

    abbrev IsNoLater : Stand → Type 0
    IsNoLater s = found.entry ≤ s.entry

    least_parts : (found.entry ≤ here.entry) × AllByRecursion IsNoLater stands
    least_parts = earliest_least (present here trail) stands

    open_least : AllByRecursion (λ (s : StandingBranch). from.entry ≤ s.branch.entry → found.entry ≤ s.branch.entry) here.opened
    open_least = open_of IsNoLater from.entry here.opened (all_front IsNoLater (stands_open from.entry here.opened) (stands_above last trail.recent) least_parts.1)

    recent_least : AllByRecursion (λ (r : RecentBranch). is_gt (key_order r.key last) ≡ true → found.entry ≤ r.stand.entry) trail.recent
    recent_least = above_of IsNoLater last trail.recent (all_back IsNoLater (stands_open from.entry here.opened) (stands_above last trail.recent) least_parts.1)

    below_one : (b : Begun) → (from.entry ≤ b.0 → is_gt (key_order b.1.key trail.known) ≡ true → SomeByRecursion (λ (r : RecentBranch). BeganAt r b) trail.recent)
        → from.entry ≤ b.0 → b.0 < found.entry → IsAtMost b.1.key last
    below_one b told low less = by (is_gt (key_order b.1.key last)) refl
      where
        clash : is_gt (key_order b.1.key last) ≡ true → (r : RecentBranch) → BeganAt r b → (is_gt (key_order r.key last) ≡ true → found.entry ≤ r.stand.entry) → is_gt (key_order b.1.key last) ≡ false
        clash above r at least =
            let more : found.entry ≤ r.stand.entry = least (subst (λ (key : Key). is_gt (key_order key last) ≡ true) at.1 above) in
            absurd (let same : b.0 ≡ r.stand.entry = at.0 in omega (arith, more, less, same))

        by : (above : Bool) → is_gt (key_order b.1.key last) ≡ above → is_gt (key_order b.1.key last) ≡ false
        by true e =
            some_of_all (λ (r : RecentBranch). BeganAt r b) (λ (r : RecentBranch). is_gt (key_order r.key last) ≡ true → found.entry ≤ r.stand.entry)
            (is_gt (key_order b.1.key last) ≡ false) (clash e) trail.recent (told low (above_known b.1.key trail.known last later e)) recent_least
        by false e = e

    cut_sound : IsRestartEntry last start node history found.entry
    cut_sound = record {
      first =
          cut_has (λ s. from.entry ≤ s.entry) (omega (arith, number_is))
          (all_weaker (λ (s : StandingBranch). from.entry ≤ s.branch.entry → IsStand from history opened trail.ended (stand_of s)) (λ (s : StandingBranch). from.entry ≤ s.branch.entry → from.entry ≤ s.branch.entry)
          (λ s is low. low) here.opened holds.standing)
          (all_weaker (λ (r : RecentBranch). IsStand from history opened trail.ended r.stand) (λ (r : RecentBranch). is_gt (key_order r.key last) ≡ true → from.entry ≤ r.stand.entry)
          (λ r is above. is.first) trail.recent holds.recent);
      most = omega (arith, least_parts.0, number_is);
      ended =
          subst (AllByRecursion (λ (o : OpenBranch). start.entry ≤ o.entry → found.entry ≤ o.entry)) opened_are
          (mapped_all (λ (o : OpenBranch). start.entry ≤ o.entry → found.entry ≤ o.entry) (λ (s : StandingBranch). s.branch) here.opened open_least);
      below =
          all_weaker (λ (b : Begun). from.entry ≤ b.0 → is_gt (key_order b.1.key trail.known) ≡ true → SomeByRecursion (λ (r : RecentBranch). BeganAt r b) trail.recent)
          (λ (b : Begun). start.entry ≤ b.0 → b.0 < found.entry → IsAtMost b.1.key last) below_one (begun_branches start node history) holds.told;
    }

    cut_latest : (number : ℕ) → IsRestartEntry last start node history number → number ≤ found.entry
    cut_latest number sound =
        cut_has (λ s. number ≤ s.entry) (omega (arith, sound.most, number_is))
        (all_mapped (λ (o : OpenBranch). start.entry ≤ o.entry → number ≤ o.entry) (λ (s : StandingBranch). s.branch) here.opened
        (subst (AllByRecursion (λ (o : OpenBranch). start.entry ≤ o.entry → number ≤ o.entry)) (sym opened_are) sound.ended))
        (both_all trail.recent holds.recent holds.began)
      where
        one : (r : RecentBranch) → from.entry ≤ r.stand.entry → is_gt (key_order r.key last) ≡ true → (b : Begun) → BeganAt r b
            → (start.entry ≤ b.0 → b.0 < number → IsAtMost b.1.key last) → number ≤ r.stand.entry
        one r low above b at below =
            elim (cases_lt r.stand.entry number) [
              | inl less ↦
                  let same : b.0 ≡ r.stand.entry = at.0 in
                  let most : is_gt (key_order b.1.key last) ≡ false = below (omega (arith, low, same)) (omega (arith, less, same)) in
                  absurd (no_test (sym most ∙ ap (λ (key : Key). is_gt (key_order key last)) at.1 ∙ above))
              | inr more ↦ more
            ]

        both_all : (recent : List RecentBranch) → AllByRecursion (λ (r : RecentBranch). IsStand from history opened trail.ended r.stand) recent
            → AllByRecursion (λ (r : RecentBranch). SomeByRecursion (BeganAt r) (begun_branches start node history)) recent
            → AllByRecursion (λ (r : RecentBranch). is_gt (key_order r.key last) ≡ true → number ≤ r.stand.entry) recent
        both_all [] are began = tt
        both_all (r ∷ recent) (is, are) (some, began) = (
          (λ above.
              some_of_all (BeganAt r) (λ (b : Begun). start.entry ≤ b.0 → b.0 < number → IsAtMost b.1.key last) (number ≤ r.stand.entry) (one r is.first above)
              (begun_branches start node history) some sound.below),
          both_all recent are began,
        )

    cut_parts : point_before from (reverse history) found.entry ≡ point_of opened trail.ended found
    cut_parts =
        cut_has (λ s. point_before from (reverse history) s.entry ≡ point_of opened trail.ended s) present_is
        (all_weaker (λ (s : StandingBranch). from.entry ≤ s.branch.entry → IsStand from history opened trail.ended (stand_of s))
        (λ (s : StandingBranch). from.entry ≤ s.branch.entry → point_before from (reverse history) s.branch.entry ≡ point_of opened trail.ended (stand_of s))
        (λ s is low. (is low).is) here.opened holds.standing)
        (all_weaker (λ (r : RecentBranch). IsStand from history opened trail.ended r.stand)
        (λ (r : RecentBranch). is_gt (key_order r.key last) ≡ true → point_before from (reverse history) r.stand.entry ≡ point_of opened trail.ended r.stand)
        (λ r is above. is.is) trail.recent holds.recent)

    cut_is_latest : IsLatestPoint last from node (reverse history) (cut_of last from.entry here trail)
    cut_is_latest = record {
      sound = record {
        sound = subst (λ (list : List LogEntry). IsRestartEntry last start node list found.entry) (sym (reverse-reverse history)) cut_sound;
        parts = sym cut_parts;
      };
      latest = λ number sound. cut_latest number (subst (λ (list : List LogEntry). IsRestartEntry last start node list number) (reverse-reverse history) sound);
    }

-- the cut is the latest restart point
pub latest_cut : (last : Key) (from : RestartPoint) (node : ℕ) (history : List LogEntry) (here : Standings) (trail : Trail) → HoldsPoints from node history here trail
    → reading_start here ≡ left_by (start_at from) history → IsStart (start_at from) → IsAtMost trail.known last → IsLatestPoint last from node (reverse history) (cut_of last from.entry here trail)
latest_cut last from node history here trail holds here_is begins later = cut_is_latest from node history here trail holds here_is begins last later

-- ---- what is forgotten

some_left : {X : Type 0} (P : X → Type 0) (test : X → Bool) → ((x : X) → P x → test x ≡ true) → (xs : List X) → SomeByRecursion P xs → SomeByRecursion P (filter test xs)
some_left P test passes [] some = absurd some
some_left {X} P test passes (x ∷ xs) (inl is) = by (test x) (passes x is)
  where
    by : (b : Bool) → b ≡ true → SomeByRecursion P (cond b (x ∷ filter test xs) (filter test xs))
    by true e = inl is
    by false e = absurd (no_test e)
some_left {X} P test passes (x ∷ xs) (inr some) = by (test x) (some_left P test passes xs some)
  where
    by : (b : Bool) → SomeByRecursion P (filter test xs) → SomeByRecursion P (cond b (x ∷ filter test xs) (filter test xs))
    by true later = inr later
    by false later = later

-- a key that isn't above another, where that one is above it
known_below : (known last : Key) → is_gt (key_order last known) ≡ true → IsAtMost known last
known_below known last above = by (key_order last known) refl above
  where
    by : (o : Ordering) → key_order last known ≡ o → is_gt o ≡ true → is_gt (key_order known last) ≡ false
    by Less e yet = absurd (no_test yet)
    by Equal e yet = absurd (no_test yet)
    by Greater e yet = ap is_gt (key_order_total.antisymm known last ∙ ap ordering_reverse e)

pub points_known : (from : RestartPoint) (node : ℕ) (history : List LogEntry) (here : Standings) (trail : Trail) (last : Key) → HoldsPoints from node history here trail
    → HoldsPoints from node history here (trail_known trail last)
points_known from node history here trail last holds = by (is_gt (key_order last trail.known)) refl
  where
    by : (b : Bool) → is_gt (key_order last trail.known) ≡ b
        → HoldsPoints from node history here
        (cond b (record { place = trail.place; checksum = trail.checksum; ended = trail.ended; recent = recent_above last trail.recent; known = last }) trail)
    by true above = record {
      place = holds.place;
      checksum = holds.checksum;
      ended = holds.ended;
      standing = holds.standing;
      recent = all_filtered (λ (r : RecentBranch). IsStand from history (branches_of here.opened) trail.ended r.stand) (λ (r : RecentBranch). is_gt (key_order r.key last)) trail.recent holds.recent;
      told =
          all_weaker (λ (b : Begun). from.entry ≤ b.0 → is_gt (key_order b.1.key trail.known) ≡ true → SomeByRecursion (λ (r : RecentBranch). BeganAt r b) trail.recent)
          (λ (b : Begun). from.entry ≤ b.0 → is_gt (key_order b.1.key last) ≡ true → SomeByRecursion (λ (r : RecentBranch). BeganAt r b) (recent_above last trail.recent))
          (λ b told low over.
          some_left (λ (r : RecentBranch). BeganAt r b) (λ (r : RecentBranch). is_gt (key_order r.key last))
          (λ r at. ap (λ (key : Key). is_gt (key_order key last)) (sym at.1) ∙ over) trail.recent
          (told low (above_known b.1.key trail.known last (known_below trail.known last above) over)))
          (begun_branches (start_at from) node history) holds.told;
      began =
          all_filtered (λ (r : RecentBranch). SomeByRecursion (BeganAt r) (begun_branches (start_at from) node history)) (λ (r : RecentBranch). is_gt (key_order r.key last)) trail.recent holds.began;
    }
    by false above = holds
