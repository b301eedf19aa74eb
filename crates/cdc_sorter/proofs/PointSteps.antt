-- A trail tells the points of a log that has gone on by one entry.
use Rattle.std.proofs.Common.{◌≡◌, inl, ◌≤◌, ◌<◌, ℕ, ◌+◌, Bool, true, false, not, cond, leb, List, [], ◌∷◌, ◌++◌, append-nil, length, Option, Some, None, ap, sym, subst, refl, ◌∙◌, arith}
use Rattle.std.specs.List.{AllByRecursion}
use Rattle.std.specs.Ordering.{is_gt}
use Rattle.std.specs.Option.{option_map}
use Rattle.std.proofs.lemmas.Bool.{leb-true, le-leb}
use Rattle.cdc_base.specs.declared.key.Key.{Key}
use Rattle.cdc_base.specs.declared.key.Key.TheVariants.{Shared, Plain as PlainKey}
use Rattle.cdc_base.specs.declared.place.Place.{Place}
use Rattle.cdc_base.specs.declared.xid.Xid.{Xid}
use Rattle.cdc_base.specs.Key.{key_order}
use Rattle.cdc_base.specs.Xid.{same_xid}
use Rattle.cdc_model.specs.declared.entry.EntryKind.{EntryKind}
use Rattle.cdc_model.specs.declared.entry.EntryKind.TheVariants.{Prepare, OnePhase, Commit, Rollback, Plain, Beat}
use Rattle.cdc_model.specs.Records.{Row, LogEntry, CommittedBranch, OpenBranch, Start}
use Rattle.cdc_model.specs.Start.{find_open, enter, left_by}
use Rattle.cdc_model.specs.Soundness.{when_open, undercut, entry_fault}
use Rattle.cdc_model.specs.Branch.{Begun, committed, branch_of, begun_branches}
use Rattle.cdc_model.specs.Commits.{IsStart}
use Rattle.cdc_model.specs.Openings.{AscendByXid}
use Rattle.cdc_model.specs.Restart.{RestartPoint, start_at}
use Rattle.cdc_model.proofs.SameXid.{no_test}
use Rattle.cdc_model.proofs.GrammarRows.{all_both}
use Rattle.cdc_model.proofs.Keeping.{all_weaker}
use Rattle.cdc_model.proofs.XidOrder.{all_filtered, open_branches_ascend}
use Rattle.cdc_open.specs.Standing.{StandingBranch, branches_of, find_standing, without_standing, enter_standing}
use Rattle.cdc_sorter.specs.Trail.{Stand, EndedBranch, RecentBranch, Trail, Standings, reading_start, stand_of, held_at, with_ended, standing_opened, standing_by, standings_behind, present, ended_with, trail_noted, trail_ended, trail_closed, trail_committed, trail_behind, trail_by}
use Rattle.cdc_sorter.specs.Points.{SomeByRecursion, IsStand, BeganAt, HoldsPoints}
use Rattle.cdc_sorter.proofs.Positions.{without_closed, closed_by}
use Rattle.cdc_sorter.proofs.Held.{now_entered, ends_same}
use Rattle.cdc_open.proofs.Tables.{find_is}
use Rattle.cdc_sorter.proofs.Points.{some_front, some_back, without_is, all_standing, opened_is, point_stays, number_is, opened_are, present_is}

-- ---- committed branches that are noted

abbrev pub recent_of : Key → Stand → RecentBranch
recent_of key stand = record { key = key; stand = stand }

-- a committed branch, where its key is above the known one
abbrev pub noted : Key → Key → Stand → List RecentBranch
noted known key stand = cond (is_gt (key_order key known)) (recent_of key stand ∷ []) []

abbrev pub trail_recent : Trail → List RecentBranch → Trail
trail_recent trail recent = record { place = trail.place; checksum = trail.checksum; ended = trail.ended; recent = recent; known = trail.known }

abbrev pub recent_with : Trail → List RecentBranch → Trail
recent_with trail extra = trail_recent trail (trail.recent ++ extra)

pub nothing_more : (trail : Trail) → trail ≡ recent_with trail []
nothing_more trail = ap (trail_recent trail) (sym (append-nil trail.recent))

pub noted_is : (trail : Trail) (key : Key) (stand : Stand) → trail_noted trail key stand ≡ recent_with trail (noted trail.known key stand)
noted_is trail key stand = by (is_gt (key_order key trail.known))
  where
    by : (b : Bool) → cond b (recent_with trail (recent_of key stand ∷ [])) trail ≡ recent_with trail (cond b (recent_of key stand ∷ []) [])
    by true = refl
    by false = nothing_more trail

pub noted_told : (known key : Key) (stand : Stand) (recent : List RecentBranch) (b : Begun) → b.0 ≡ stand.entry → b.1.key ≡ key → is_gt (key_order b.1.key known) ≡ true
    → SomeByRecursion (λ (r : RecentBranch). BeganAt r b) (recent ++ noted known key stand)
noted_told known key stand recent b number is above =
    some_back (λ (r : RecentBranch). BeganAt r b) recent (noted known key stand)
    (by (is_gt (key_order key known)) (ap (λ (k : Key). is_gt (key_order k known)) (sym is) ∙ above))
  where
    by : (gt : Bool) → gt ≡ true → SomeByRecursion (λ (r : RecentBranch). BeganAt r b) (cond gt (recent_of key stand ∷ []) [])
    by true e = inl (number, is)
    by false e = absurd (no_test e)

pub noted_all : (P : RecentBranch → Type 0) (known key : Key) (stand : Stand) → P (recent_of key stand) → AllByRecursion P (noted known key stand)
noted_all P known key stand here = by (is_gt (key_order key known))
  where
    by : (gt : Bool) → AllByRecursion P (cond gt (recent_of key stand ∷ []) [])
    by true = (here, tt)
    by false = tt

-- what all have, the one that is found has
pub standing_found : (P : StandingBranch → Type 0) (xid : Xid) (standing : List StandingBranch) (s : StandingBranch) → AllByRecursion P standing → find_standing xid standing ≡ Some s → P s
standing_found P xid [] s all found = absurd (cc)
standing_found P xid (first ∷ rest) s (here, all) found = by (same_xid xid first.branch.xid) (standing_found P xid rest s all) found
  where
    by : (b : Bool) → (find_standing xid rest ≡ Some s → P s) → cond b (Some first) (find_standing xid rest) ≡ Some s → P s
    by true later is = let same : first ≡ s = cc in subst P same here
    by false later is = later is

-- ---- one entry more

module _ (from : RestartPoint) (node : ℕ) (history : List LogEntry) (here : Standings) (trail : Trail)
    (holds : HoldsPoints from node history here trail) (here_is : reading_start here ≡ left_by (start_at from) history) (begins : IsStart (start_at from))
    (kind : EntryKind) (at end : Place) (checksum : ℕ) (sound : entry_fault kind (reading_start here) ≡ None) where
  abbrev start : Start
  start = start_at from

  abbrev opened : List OpenBranch
  opened = branches_of here.opened

  abbrev entry : LogEntry
  entry = record { kind = kind; at = at; end = end; checksum = checksum }

  abbrev given : List Begun
  given = branch_of node kind (reading_start here)

  counted : here.entry ≡ from.entry + length history
  counted = number_is from node history here trail holds here_is begins

  abbrev IsHeldSame : List StandingBranch → List EndedBranch → Type 0
  IsHeldSame standing ended = (number : ℕ) → number ≤ here.entry → held_at number (branches_of standing) ended ≡ held_at number opened trail.ended

  abbrev IsStandThere : List StandingBranch → List EndedBranch → Stand → Type 0
  IsStandThere standing ended stand = IsStand from (entry ∷ history) (branches_of standing) ended stand

  abbrev point_by : Stand → List (Xid × ℕ) → RestartPoint
  point_by stand held = record { entry = stand.entry; place = stand.place; mark = stand.mark; checksum = stand.checksum; held = held }

  -- a point that was told is told still
  stand_on : (standing : List StandingBranch) (ended : List EndedBranch) → IsHeldSame standing ended → (stand : Stand) → IsStand from history opened trail.ended stand
      → IsStandThere standing ended stand
  stand_on standing ended same stand is = record {
    first = is.first;
    past = omega (arith, is.past);
    is =
        point_stays from entry history stand.entry (omega (arith, is.past)) ∙ is.is
        ∙ ap (point_by stand) (sym (same stand.entry (omega (arith, is.past, counted))));
  }

  -- and so is the point before this entry
  present_on : (standing : List StandingBranch) (ended : List EndedBranch) → IsHeldSame standing ended → IsStandThere standing ended (present here trail)
  present_on standing ended same = record {
    first = omega (arith, counted);
    past = omega (arith, counted);
    is =
        point_stays from entry history here.entry (omega (arith, counted)) ∙ present_is from node history here trail holds here_is begins
        ∙ ap (point_by (present here trail)) (sym (same here.entry (omega arith)));
  }

  abbrev IsTold : List RecentBranch → Begun → Type 0
  IsTold recent b = from.entry ≤ b.0 → is_gt (key_order b.1.key trail.known) ≡ true → SomeByRecursion (λ (r : RecentBranch). BeganAt r b) recent

  abbrev trail_with : List EndedBranch → List RecentBranch → Trail
  trail_with ended extra = record { place = end; checksum = checksum; ended = ended; recent = trail.recent ++ extra; known = trail.known }

  -- the parts of a step
  record Step (standing : List StandingBranch) (ended : List EndedBranch) (extra : List RecentBranch) : Type 0 where
    same : IsHeldSame standing ended
    past : AllByRecursion (λ (e : EndedBranch). e.ended < here.entry + 1) ended
    stands : AllByRecursion (λ (s : StandingBranch). from.entry ≤ s.branch.entry → IsStandThere standing ended (stand_of s)) standing
    more : AllByRecursion (λ (r : RecentBranch). IsStandThere standing ended r.stand) extra
    told : AllByRecursion (IsTold (trail.recent ++ extra)) given
    began : AllByRecursion (λ (r : RecentBranch). SomeByRecursion (BeganAt r) given) extra

  whole : (extra : List RecentBranch) (ended : List EndedBranch) → Step (standing_by kind trail.place trail.checksum here) ended extra
      → HoldsPoints from node (entry ∷ history) (standings_behind kind trail.place trail.checksum here) (trail_with ended extra)
  whole extra ended step =
      let standing : List StandingBranch = standing_by kind trail.place trail.checksum here in
      let before : List Begun = begun_branches start node history in
      let given_is : given ≡ branch_of node kind (left_by start history) = ap (branch_of node kind) here_is in
      record {
        place = refl;
        checksum = refl;
        ended = step.past;
        standing = step.stands;
        recent =
            all_both (λ (r : RecentBranch). IsStandThere standing ended r.stand) trail.recent extra
            (all_weaker (λ (r : RecentBranch). IsStand from history opened trail.ended r.stand) (λ (r : RecentBranch). IsStandThere standing ended r.stand)
            (λ r is. stand_on standing ended step.same r.stand is) trail.recent holds.recent)
            step.more;
        told =
            subst (λ (new : List Begun). AllByRecursion (IsTold (trail.recent ++ extra)) (before ++ new)) given_is
            (all_both (IsTold (trail.recent ++ extra)) before given
            (all_weaker (IsTold trail.recent) (IsTold (trail.recent ++ extra))
            (λ b told low above. some_front (λ (r : RecentBranch). BeganAt r b) trail.recent extra (told low above)) before holds.told)
            step.told);
        began =
            subst (λ (new : List Begun). AllByRecursion (λ (r : RecentBranch). SomeByRecursion (BeganAt r) (before ++ new)) (trail.recent ++ extra)) given_is
            (all_both (λ (r : RecentBranch). SomeByRecursion (BeganAt r) (before ++ given)) trail.recent extra
            (all_weaker (λ (r : RecentBranch). SomeByRecursion (BeganAt r) before) (λ (r : RecentBranch). SomeByRecursion (BeganAt r) (before ++ given))
            (λ r some. some_front (BeganAt r) before given some) trail.recent holds.began)
            (all_weaker (λ (r : RecentBranch). SomeByRecursion (BeganAt r) given) (λ (r : RecentBranch). SomeByRecursion (BeganAt r) (before ++ given))
            (λ r some. some_back (BeganAt r) before given some) extra step.began));
      }

  past_on : AllByRecursion (λ (e : EndedBranch). e.ended < here.entry + 1) trail.ended
  past_on = all_weaker (λ (e : EndedBranch). e.ended < here.entry) (λ (e : EndedBranch). e.ended < here.entry + 1) (λ e h. omega (arith, h)) trail.ended holds.ended

  stands_on : (standing : List StandingBranch) (ended : List EndedBranch) → IsHeldSame standing ended
      → AllByRecursion (λ (s : StandingBranch). from.entry ≤ s.branch.entry → IsStandThere standing ended (stand_of s)) here.opened
  stands_on standing ended same =
      all_weaker (λ (s : StandingBranch). from.entry ≤ s.branch.entry → IsStand from history opened trail.ended (stand_of s))
      (λ (s : StandingBranch). from.entry ≤ s.branch.entry → IsStandThere standing ended (stand_of s))
      (λ s is low. stand_on standing ended same (stand_of s) (is low)) here.opened holds.standing

  -- an entry that opens and ends no branch
  quiet_same : IsHeldSame here.opened trail.ended
  quiet_same number h = refl

  quiet : (extra : List RecentBranch) → AllByRecursion (λ (r : RecentBranch). IsStandThere here.opened trail.ended r.stand) extra
      → AllByRecursion (IsTold (trail.recent ++ extra)) given → AllByRecursion (λ (r : RecentBranch). SomeByRecursion (BeganAt r) given) extra
      → Step here.opened trail.ended extra
  quiet extra more told began = record {
    same = quiet_same;
    past = past_on;
    stands = stands_on here.opened trail.ended quiet_same;
    more = more;
    told = told;
    began = began;
  }

  -- an entry that ends a branch
  module _ (xid : Xid) (s : StandingBranch) (found : find_standing xid here.opened ≡ Some s) where
    abbrev left : List StandingBranch
    left = without_standing xid here.opened

    abbrev closed : List EndedBranch
    closed = trail.ended ++ ended_with here.entry s ∷ []

    found_open : find_open xid opened ≡ Some s.branch
    found_open = sym (find_is xid here.opened) ∙ ap (option_map (λ (t : StandingBranch). t.branch)) found

    ascend : AscendByXid opened
    ascend = subst AscendByXid (sym (opened_are from node history here trail holds here_is begins)) (open_branches_ascend start history begins.in_order)

    closed_same : IsHeldSame left closed
    closed_same number h =
        ap (λ (list : List OpenBranch). held_at number list closed) (without_is xid here.opened)
        ∙ ends_same number here.entry xid opened trail.ended s.branch ascend found_open h

    was_stand : from.entry ≤ s.branch.entry → IsStandThere left closed (stand_of s)
    was_stand low =
        stand_on left closed closed_same (stand_of s)
        (standing_found (λ (t : StandingBranch). from.entry ≤ t.branch.entry → IsStand from history opened trail.ended (stand_of t)) xid here.opened s holds.standing found low)

    closing : (extra : List RecentBranch) → AllByRecursion (λ (r : RecentBranch). IsStandThere left closed r.stand) extra
        → AllByRecursion (IsTold (trail.recent ++ extra)) given → AllByRecursion (λ (r : RecentBranch). SomeByRecursion (BeganAt r) given) extra
        → Step left closed extra
    closing extra more told began = record {
      same = closed_same;
      past =
          all_both (λ (e : EndedBranch). e.ended < here.entry + 1) trail.ended (ended_with here.entry s ∷ []) past_on
          ((let h : here.entry < here.entry + 1 = omega arith in h), tt);
      stands =
          all_filtered (λ (t : StandingBranch). from.entry ≤ t.branch.entry → IsStandThere left closed (stand_of t)) (λ (t : StandingBranch). not (same_xid xid t.branch.xid)) here.opened
          (stands_on left closed closed_same);
      more = more;
      told = told;
      began = began;
    }

-- ---- each kind of entry

both_ways : (trail : Trail) (end : Place) (checksum : ℕ) → trail_behind trail end checksum ≡ trail_behind (recent_with trail []) end checksum
both_ways trail end checksum = ap (λ (t : Trail). trail_behind t end checksum) (nothing_more trail)

prepare_same : (xid : Xid) (rows : List Row) (place : Place) (checksum : ℕ) (here : Standings) (ended : List EndedBranch) → find_open xid (branches_of here.opened) ≡ None
    → (number : ℕ) → number ≤ here.entry
    → held_at number (branches_of (enter_standing (standing_opened xid rows place checksum here) (without_standing xid here.opened))) ended ≡ held_at number (branches_of here.opened) ended
prepare_same xid rows place checksum here ended closed number h =
    let branch : OpenBranch = record { xid = xid; floor = here.mark; entry = here.entry; rows = rows } in
    ap (λ (list : List OpenBranch). held_at number list ended) (opened_is (Prepare xid rows) place checksum here)
    ∙ ap (λ (list : List OpenBranch). held_at number (enter branch list) ended) (without_closed xid (branches_of here.opened) closed)
    ∙ ap (with_ended number ended) (now_entered number branch (branches_of here.opened) h)

module _ (from : RestartPoint) (node : ℕ) (history : List LogEntry) (here : Standings) (trail : Trail)
    (holds : HoldsPoints from node history here trail) (here_is : reading_start here ≡ left_by (start_at from) history) (begins : IsStart (start_at from))
    (at end : Place) (checksum : ℕ) where
  abbrev HoldsBehind : EntryKind → Type 0
  HoldsBehind kind =
      HoldsPoints from node (record { kind = kind; at = at; end = end; checksum = checksum } ∷ history) (standings_behind kind trail.place trail.checksum here)
      (trail_behind (trail_by kind from.entry node here trail) end checksum)

  abbrev holds_by : EntryKind → Trail → Type 0
  holds_by kind t =
      HoldsPoints from node (record { kind = kind; at = at; end = end; checksum = checksum } ∷ history) (standings_behind kind trail.place trail.checksum here) t

  prepare_on : (xid : Xid) (rows : List Row) → entry_fault (Prepare xid rows) (reading_start here) ≡ None → HoldsBehind (Prepare xid rows)
  prepare_on xid rows sound =
      let kind : EntryKind = Prepare xid rows in
      let new : StandingBranch = standing_opened xid rows trail.place trail.checksum here in
      let rest : List StandingBranch = without_standing xid here.opened in
      let same = prepare_same xid rows trail.place trail.checksum here trail.ended (closed_by xid (find_open xid (branches_of here.opened)) sound) in
      let there : StandingBranch → Type 0 = λ (s : StandingBranch). from.entry ≤ s.branch.entry → IsStandThere from node history here trail holds here_is begins kind at end checksum sound (enter_standing new rest) trail.ended (stand_of s) in
      subst (holds_by kind) (sym (both_ways trail end checksum))
      (whole from node history here trail holds here_is begins kind at end checksum sound [] trail.ended record {
        same = same;
        past = past_on from node history here trail holds here_is begins kind at end checksum sound;
        stands =
            all_standing there new rest (λ low. present_on from node history here trail holds here_is begins kind at end checksum sound (enter_standing new rest) trail.ended same)
            (all_filtered there (λ (t : StandingBranch). not (same_xid xid t.branch.xid)) here.opened
            (stands_on from node history here trail holds here_is begins kind at end checksum sound (enter_standing new rest) trail.ended same));
        more = tt;
        told = tt;
        began = tt;
      })

  -- an entry that commits a branch of its own
  own_on : (kind : EntryKind) (sound : entry_fault kind (reading_start here) ≡ None) (key : Key) (b : CommittedBranch) → standing_by kind trail.place trail.checksum here ≡ here.opened
      → b.key ≡ key → branch_of node kind (reading_start here) ≡ (here.entry, b) ∷ [] → HoldsPoints from node (record { kind = kind; at = at; end = end; checksum = checksum } ∷ history)
      (standings_behind kind trail.place trail.checksum here) (trail_behind (trail_noted trail key (present here trail)) end checksum)
  own_on kind sound key b still is given_is =
      let extra : List RecentBranch = noted trail.known key (present here trail) in
      let begun : Begun = (here.entry, b) in
      let news : List Begun = begun ∷ [] in
      subst (holds_by kind) (ap (λ (t : Trail). trail_behind t end checksum) (sym (noted_is trail key (present here trail))))
      (whole from node history here trail holds here_is begins kind at end checksum sound extra trail.ended
      (subst (λ (standing : List StandingBranch). Step from node history here trail holds here_is begins kind at end checksum sound standing trail.ended extra) (sym still)
      (quiet from node history here trail holds here_is begins kind at end checksum sound extra
      (noted_all (λ (r : RecentBranch). IsStandThere from node history here trail holds here_is begins kind at end checksum sound here.opened trail.ended r.stand) trail.known key (present here trail)
      (present_on from node history here trail holds here_is begins kind at end checksum sound here.opened trail.ended
      (quiet_same from node history here trail holds here_is begins kind at end checksum sound)))
      (subst (AllByRecursion (IsTold from node history here trail holds here_is begins kind at end checksum sound (trail.recent ++ extra))) (sym given_is)
      ((λ low above. noted_told trail.known key (present here trail) trail.recent begun refl is above), tt))
      (noted_all (λ (r : RecentBranch). SomeByRecursion (BeganAt r) (branch_of node kind (reading_start here))) trail.known key (present here trail)
      (subst (SomeByRecursion (BeganAt (recent_of key (present here trail)))) (sym given_is) (inl (refl, is)))))))

  beat_on : (timestamp : ℕ) → HoldsBehind (Beat timestamp)
  beat_on timestamp =
      let kind : EntryKind = Beat timestamp in
      subst (holds_by kind) (sym (both_ways trail end checksum))
      (whole from node history here trail holds here_is begins kind at end checksum refl [] trail.ended (quiet from node history here trail holds here_is begins kind at end checksum refl [] tt tt tt))

  rollback_by : (xid : Xid) (sound : entry_fault (Rollback xid) (reading_start here) ≡ None) (found : Option StandingBranch) → find_standing xid here.opened ≡ found
      → holds_by (Rollback xid) (trail_behind (trail_closed here.entry found trail) end checksum)
  rollback_by xid sound None is =
      absurd (let none : find_open xid (branches_of here.opened) ≡ None = sym (find_is xid here.opened) ∙ ap (option_map (λ (t : StandingBranch). t.branch)) is in
      let clash : when_open xid None (λ _. None) ≡ None = ap (λ (o : Option OpenBranch). when_open xid o (λ _. None)) (sym none) ∙ sound in cc)
  rollback_by xid sound (Some s) is =
      let kind : EntryKind = Rollback xid in
      subst (holds_by kind) (sym (both_ways (trail_ended trail (ended_with here.entry s)) end checksum))
      (whole from node history here trail holds here_is begins kind at end checksum sound [] (trail.ended ++ ended_with here.entry s ∷ [])
      (closing from node history here trail holds here_is begins kind at end checksum sound xid s is [] tt tt tt))

  commit_by : (xid : Xid) (timestamp seconds : ℕ) (sound : entry_fault (Commit xid timestamp seconds) (reading_start here) ≡ None) (s : StandingBranch)
      (is : find_standing xid here.opened ≡ Some s) (late : Bool) → leb from.entry s.branch.entry ≡ late
      → branch_of node (Commit xid timestamp seconds) (reading_start here)
      ≡ (s.branch.entry, record { key = Shared timestamp xid.gtrid; entry = here.entry; seconds = seconds; rows = s.branch.rows }) ∷ []
      → holds_by (Commit xid timestamp seconds)
      (trail_behind (cond late (trail_noted (trail_ended trail (ended_with here.entry s)) (Shared timestamp xid.gtrid) (stand_of s)) (trail_ended trail (ended_with here.entry s))) end checksum)
  commit_by xid timestamp seconds sound s is true e given_is =
      let kind : EntryKind = Commit xid timestamp seconds in
      let key : Key = Shared timestamp xid.gtrid in
      let b : Begun = (s.branch.entry, record { key = key; entry = here.entry; seconds = seconds; rows = s.branch.rows }) in
      let closed_ones : List EndedBranch = trail.ended ++ ended_with here.entry s ∷ [] in
      let extra : List RecentBranch = noted trail.known key (stand_of s) in
      subst (holds_by kind) (ap (λ (t : Trail). trail_behind t end checksum) (sym (noted_is (trail_ended trail (ended_with here.entry s)) key (stand_of s))))
      (whole from node history here trail holds here_is begins kind at end checksum sound extra closed_ones
      (closing from node history here trail holds here_is begins kind at end checksum sound xid s is extra
      (noted_all (λ (r : RecentBranch). IsStandThere from node history here trail holds here_is begins kind at end checksum sound (without_standing xid here.opened) closed_ones r.stand) trail.known key (stand_of s)
      (was_stand from node history here trail holds here_is begins kind at end checksum sound xid s is (leb-true from.entry s.branch.entry e)))
      (subst (AllByRecursion (IsTold from node history here trail holds here_is begins kind at end checksum sound (trail.recent ++ extra))) (sym given_is)
      ((λ low above. noted_told trail.known key (stand_of s) trail.recent b refl refl above), tt))
      (noted_all (λ (r : RecentBranch). SomeByRecursion (BeganAt r) (branch_of node kind (reading_start here))) trail.known key (stand_of s)
      (subst (SomeByRecursion (BeganAt (recent_of key (stand_of s)))) (sym given_is) (inl (refl, refl))))))
  commit_by xid timestamp seconds sound s is false e given_is =
      let kind : EntryKind = Commit xid timestamp seconds in
      let closed_ones : List EndedBranch = trail.ended ++ ended_with here.entry s ∷ [] in
      subst (holds_by kind) (sym (both_ways (trail_ended trail (ended_with here.entry s)) end checksum))
      (whole from node history here trail holds here_is begins kind at end checksum sound [] closed_ones
      (closing from node history here trail holds here_is begins kind at end checksum sound xid s is [] tt
      (subst (AllByRecursion (IsTold from node history here trail holds here_is begins kind at end checksum sound (trail.recent ++ []))) (sym given_is)
      ((λ low above. absurd (no_test (sym e ∙ le-leb from.entry s.branch.entry low))), tt))
      tt))

  commit_some : (xid : Xid) (timestamp seconds : ℕ) (sound : entry_fault (Commit xid timestamp seconds) (reading_start here) ≡ None) (s : StandingBranch) → find_standing xid here.opened ≡ Some s
      → holds_by (Commit xid timestamp seconds)
      (trail_behind (trail_committed from.entry (Shared timestamp xid.gtrid) (Some s) (trail_ended trail (ended_with here.entry s))) end checksum)
  commit_some xid timestamp seconds sound s is =
      commit_by xid timestamp seconds sound s is (leb from.entry s.branch.entry) refl
      (ap (committed (Shared timestamp xid.gtrid) here.entry seconds) (sym (find_is xid here.opened) ∙ ap (option_map (λ (t : StandingBranch). t.branch)) is))

  commit_found : (xid : Xid) (timestamp seconds : ℕ) (sound : entry_fault (Commit xid timestamp seconds) (reading_start here) ≡ None) (found : Option StandingBranch)
      → find_standing xid here.opened ≡ found
      → holds_by (Commit xid timestamp seconds) (trail_behind (trail_committed from.entry (Shared timestamp xid.gtrid) found (trail_closed here.entry found trail)) end checksum)
  commit_found xid timestamp seconds sound None is =
      absurd (let none : find_open xid (branches_of here.opened) ≡ None = sym (find_is xid here.opened) ∙ ap (option_map (λ (t : StandingBranch). t.branch)) is in
      let clash : when_open xid None (λ branch. undercut timestamp branch.floor) ≡ None =
      ap (λ (o : Option OpenBranch). when_open xid o (λ branch. undercut timestamp branch.floor)) (sym none) ∙ sound in cc)
  commit_found xid timestamp seconds sound (Some s) is = commit_some xid timestamp seconds sound s is

  on : (kind : EntryKind) → entry_fault kind (reading_start here) ≡ None → HoldsBehind kind
  on (Prepare xid rows) sound = prepare_on xid rows sound
  on (OnePhase xid rows timestamp seconds) sound =
      own_on (OnePhase xid rows timestamp seconds) sound (Shared timestamp xid.gtrid)
      (record { key = Shared timestamp xid.gtrid; entry = here.entry; seconds = seconds; rows = rows }) refl refl refl
  on (Commit xid timestamp seconds) sound = commit_found xid timestamp seconds sound (find_standing xid here.opened) refl
  on (Rollback xid) sound = rollback_by xid sound (find_standing xid here.opened) refl
  on (Plain rows seconds) sound =
      own_on (Plain rows seconds) sound (PlainKey here.mark node here.entry)
      (record { key = PlainKey here.mark node here.entry; entry = here.entry; seconds = seconds; rows = rows }) refl refl refl
  on (Beat timestamp) sound = beat_on timestamp

-- a trail goes on with each sound entry
pub points_on : (from : RestartPoint) (node : ℕ) (history : List LogEntry) (here : Standings) (trail : Trail) → HoldsPoints from node history here trail
    → reading_start here ≡ left_by (start_at from) history → IsStart (start_at from) → (entry : LogEntry) → entry_fault entry.kind (reading_start here) ≡ None
    → HoldsPoints from node (entry ∷ history) (standings_behind entry.kind trail.place trail.checksum here)
    (trail_behind (trail_by entry.kind from.entry node here trail) entry.end entry.checksum)
points_on from node history here trail holds here_is begins entry sound =
    on from node history here trail holds here_is begins entry.at entry.end entry.checksum entry.kind sound
