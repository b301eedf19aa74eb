-- The steps of a sorter, over all that it may have taken.
use Rattle.std.proofs.Common.{◌≡◌, ◌≤◌, ◌<◌, ℕ, ◌+◌, ◌^◌, Bool, true, false, cond, leb, Option, Some, List, [], ◌∷◌, ◌++◌, length, append_assoc, append-nil, map, reverse, filter, None, ap, sym, refl, ◌∙◌, subst, arith}
use Rattle.std.specs.List.{AllByRecursion}
use Rattle.std.specs.List.Sorted.{IsPermutation}
use Rattle.std.specs.Ordering.{is_gt}
use Rattle.std.specs.declared.cmp.Ordering.TheVariants.{Less}
use Rattle.cdc_base.specs.declared.key.Key.{Key}
use Rattle.cdc_base.specs.declared.key.Key.TheVariants.{Shared, Plain as PlainKey}
use Rattle.cdc_model.specs.declared.entry.EntryKind.{EntryKind}
use Rattle.cdc_model.specs.declared.entry.EntryKind.TheVariants.{Prepare, OnePhase, Commit, Rollback, Plain, Beat}
use Rattle.cdc_base.specs.Key.{key_order}
use Rattle.cdc_base.specs.declared.place.Place.{Place}
use Rattle.cdc_base.specs.declared.xid.Xid.{Xid}
use Rattle.cdc_model.specs.Records.{LogEntry, CommittedBranch, OpenBranch, Start}
use Rattle.cdc_model.specs.Start.{next as next_start}
use Rattle.cdc_model.specs.Watermark.{node_low_water_mark}
use Rattle.cdc_model.specs.Soundness.{entry_fault}
use Rattle.cdc_model.specs.Branch.{branch_of, new_branches, is_settled}
use Rattle.cdc_model.specs.Feed.{own_branches}
use Rattle.cdc_model.specs.Commits.{IsStart}
use Rattle.cdc_model.specs.Openings.{AscendByXid}
use Rattle.cdc_model.specs.Restart.{RestartPoint, start_at, IsAtMost, IsLatestPoint}
use Rattle.cdc_model.proofs.XidOrder.{open_branches_ascend}
use Rattle.cdc_model.proofs.GrammarRows.{all_back}
use Rattle.cdc_model.proofs.KeyList.{not_both_below}
use Rattle.cdc_model.proofs.CommitLaws.{one_entry_more}
use Rattle.cdc_model.proofs.Marks.{numbers_count}
use Rattle.cdc_model.proofs.OwnBranches.{own_append, settled_below, settled_on}
use Rattle.cdc_model.proofs.NodeFeeds.{feed_reads_on, node_settled_in_order}
use Rattle.cdc_model.proofs.OutputGrowth.{all_unsettled}
use Rattle.cdc_model.proofs.SoundGrowth.{low_reaches, entry_above, new_above}
use Rattle.cdc_waiting.specs.Waiting.{wait_behind}
use Rattle.cdc_sorter.specs.Waiting.{wait_with_all, AscendByKey}
use Rattle.cdc_open.specs.Standing.{StandingBranch, branches_of, find_standing}
use Rattle.cdc_sorter.specs.Trail.{Stand, RecentBranch, Trail, Standings, reading_start, standing_held, stand_of, present, recent_at, standings_behind, trail_noted, trail_closed, trail_committed, trail_by, trail_behind, trail_known, trail_swept, began_numbers, cut_of}
use Rattle.cdc_sorter.specs.Points.{IsStand, HoldsPoints}
use Rattle.cdc_sorter.proofs.Resuming.{held_are}
use Rattle.cdc_sorter.proofs.Points.{start_behind, latest_cut, points_known}
use Rattle.cdc_sorter.proofs.PointSteps.{points_on}
use Rattle.cdc_sorter.proofs.Sweeps.{points_swept}
use Rattle.cdc_sorter.proofs.Between.{swept_alike}
use Rattle.cdc_sorter.specs.Sorting.{Sorting, sorter_at, SortReading, HoldsReading, history_behind, committed_behind, low_of, settled_behind, new_of, sorter_with, is_first_settled, is_ready, GaveIsAFront}
use Rattle.cdc_sorter.proofs.Newest.{NumbersBelow, behind_all, committed_below, given_behind, all_by_own}
use Rattle.cdc_sorter.proofs.WaitOrder.{wait_ascends, wait_own, wait_passes}
use Rattle.cdc_sorter.proofs.OneOrder.{settles, settled_is, settled_split, first_decides, ascends_behind}

-- ---- the beginning

all_held : (P : StandingBranch → Type 0) (place : Place) (checksum : ℕ) → ((pair : Xid × ℕ) → P (standing_held place checksum pair)) → (held : List (Xid × ℕ))
    → AllByRecursion P (map (standing_held place checksum) held)
all_held P place checksum each [] = tt
all_held P place checksum each (first ∷ held) = (each first, all_held P place checksum each held)

abbrev pub sorter_of : Key → ℕ → RestartPoint → List StandingBranch → List CommittedBranch → Trail → Sorting
sorter_of last node point opened waiting trail = record {
  last = last;
  node = node;
  first = point.entry;
  here = record { entry = point.entry; mark = point.mark; opened = opened };
  waiting = waiting;
  trail = trail;
  stopped = None;
}

-- a sorter at a point has taken and given nothing
pub begins_at : (last : Key) (node : ℕ) (point : RestartPoint) → HoldsReading (sorter_at last node point) (record { last = last; from = point; node = node }) [] []
begins_at last node point = record {
  last = refl;
  node = refl;
  first = refl;
  here =
      let there : List OpenBranch → Start = λ (list : List OpenBranch). record { entry = point.entry; mark = point.mark; opened = list } in
      ap there (held_are point.place point.checksum point.held);
  ordered = tt;
  branches = λ key. refl;
  settled = tt;
  points = λ begins. record {
    place = refl;
    checksum = refl;
    ended = tt;
    standing = all_held (λ (s : StandingBranch). point.entry ≤ s.branch.entry → IsStand point [] (branches_of (map (standing_held point.place point.checksum) point.held)) [] (stand_of s))
        point.place point.checksum (λ pair low. absurd (omega (arith, low, begins.numbered))) point.held;
    recent = tt;
    told = tt;
    began = tt;
  };
}

-- the same by parts
pub begins : (last : Key) (node : ℕ) (point : RestartPoint) (other : Key) (opened : List StandingBranch) (waiting : List CommittedBranch) (trail : Trail)
    → other ≡ last → opened ≡ map (standing_held point.place point.checksum) point.held → waiting ≡ []
    → trail ≡ record { place = point.place; checksum = point.checksum; ended = []; recent = []; known = last }
    → HoldsReading (sorter_of other node point opened waiting trail) (record { last = last; from = point; node = node }) [] []
begins last node point other opened waiting trail last_is opened_is waiting_is trail_is =
    subst (λ (s : Sorting). HoldsReading s (record { last = last; from = point; node = node }) [] [])
    (sym (ap (λ (k : Key). sorter_of k node point opened waiting trail) last_is
    ∙ ap (λ (list : List StandingBranch). sorter_of last node point list waiting trail) opened_is
    ∙ ap (λ (list : List CommittedBranch). sorter_of last node point (map (standing_held point.place point.checksum) point.held) list trail) waiting_is
    ∙ ap (sorter_of last node point (map (standing_held point.place point.checksum) point.held) []) trail_is))
    (begins_at last node point)

-- ---- an entry more

-- what a sound entry commits isn't settled by the mark before it
unsettled_more : (last : Key) (start here : Start) (node : ℕ) (entry : LogEntry) → entry_fault entry.kind here ≡ None
    → AllByRecursion (λ (branch : CommittedBranch). is_settled (node_low_water_mark here) branch.key ≡ false) (new_branches last start (branch_of node entry.kind here))
unsettled_more last start here node entry sound =
    let mark = node_low_water_mark here in
    all_unsettled mark (new_branches last start (branch_of node entry.kind here))
    (new_above mark last start (branch_of node entry.kind here) (entry_above mark node entry.kind here (low_reaches here) sound))

-- what isn't settled isn't below what is
not_below_settled : (mark : ℕ) (gave : List CommittedBranch) (branch : CommittedBranch) → AllByRecursion (λ (other : CommittedBranch). is_settled mark other.key ≡ true) gave
    → is_settled mark branch.key ≡ false → AllByRecursion (λ (other : CommittedBranch). key_order branch.key other.key ≡ Less → ⊥) gave
not_below_settled mark [] branch settled not = tt
not_below_settled mark (other ∷ gave) branch (here, settled) not =
    ((λ back. not_both_below other.key branch.key (settled_below mark other.key branch.key here not) back), not_below_settled mark gave branch settled not)

-- given branches and those that wait, with some more
pub record IsWaitingMore (gave waiting more : List CommittedBranch) : Type 0 where
  pub ordered : AscendByKey (gave ++ behind_all waiting more)
  pub own : (key : Key) → own_branches (gave ++ behind_all waiting more) key ≡ own_branches (gave ++ waiting) key ++ own_branches more key

waits_more : (mark : ℕ) (gave waiting more : List CommittedBranch) → AllByRecursion (λ (branch : CommittedBranch). is_settled mark branch.key ≡ true) gave
    → AllByRecursion (λ (branch : CommittedBranch). is_settled mark branch.key ≡ false) more → AscendByKey (gave ++ waiting) → IsWaitingMore gave waiting more
waits_more mark gave waiting [] settled not ordered = record {
  ordered = ordered;
  own = λ key. sym (append-nil (own_branches (gave ++ waiting) key));
}
waits_more mark gave waiting (branch ∷ more) settled (here, not) ordered =
    let passes = wait_passes gave waiting branch (not_below_settled mark gave branch settled here) in
    let next = waits_more mark gave (wait_behind waiting branch) more settled not (subst AscendByKey passes (wait_ascends (gave ++ waiting) branch ordered)) in
    record {
      ordered = next.ordered;
      own = λ key.
          next.own key
          ∙ ap (λ (list : List CommittedBranch). own_branches list key ++ own_branches more key) (sym passes)
          ∙ ap (λ (list : List CommittedBranch). list ++ own_branches more key) (wait_own (gave ++ waiting) branch key ordered)
          ∙ append_assoc (own_branches (gave ++ waiting) key) (own_branches (branch ∷ []) key) (own_branches more key)
          ∙ ap (λ (list : List CommittedBranch). own_branches (gave ++ waiting) key ++ list) (sym (own_append key (branch ∷ []) more));
    }

all_settled_on : (less mark : ℕ) (branches : List CommittedBranch) → less ≤ mark → AllByRecursion (λ (branch : CommittedBranch). is_settled less branch.key ≡ true) branches
    → AllByRecursion (λ (branch : CommittedBranch). is_settled mark branch.key ≡ true) branches
all_settled_on less mark [] h all = tt
all_settled_on less mark (branch ∷ branches) h (here, all) = (settled_on less mark branch.key h here, all_settled_on less mark branches h all)

-- what is new for a sorter is what is new for its reading
new_same : (sorter : Sorting) (reading : SortReading) (history : List LogEntry) (gave : List CommittedBranch) (entry : LogEntry) → HoldsReading sorter reading history gave
    → new_of sorter.last sorter.first (branch_of sorter.node entry.kind (reading_start sorter.here))
    ≡ new_branches reading.last (start_at reading.from) (branch_of reading.node entry.kind (history_behind reading history))
new_same sorter reading history gave entry h =
    ap (λ (last : Key). new_of last sorter.first (branch_of sorter.node entry.kind (reading_start sorter.here))) h.last
    ∙ ap (λ (first : ℕ). new_of reading.last first (branch_of sorter.node entry.kind (reading_start sorter.here))) h.first
    ∙ ap (λ (node : ℕ). new_of reading.last reading.from.entry (branch_of node entry.kind (reading_start sorter.here))) h.node
    ∙ ap (λ (here : Start). new_of reading.last reading.from.entry (branch_of reading.node entry.kind here)) h.here

pub takes : (sorter : Sorting) (reading : SortReading) (history : List LogEntry) (gave : List CommittedBranch) (entry : LogEntry)
    → HoldsReading sorter reading history gave → entry_fault entry.kind (history_behind reading history) ≡ None
    → HoldsReading (sorter_with entry sorter) reading (entry ∷ history) gave
takes sorter reading history gave entry h sound =
    let start : Start = start_at reading.from in
    let here : Start = history_behind reading history in
    let more : List CommittedBranch = new_branches reading.last start (branch_of reading.node entry.kind here) in
    let is = new_same sorter reading history gave entry h in
    let waits = waits_more (node_low_water_mark here) gave sorter.waiting more h.settled (unsettled_more reading.last start here reading.node entry sound) h.ordered in
    let numbers : NumbersBelow here.entry sorter.waiting =
    all_back (λ (branch : CommittedBranch). branch.entry < here.entry) gave sorter.waiting
    (all_by_own (λ (branch : CommittedBranch). branch.entry < here.entry) (gave ++ sorter.waiting) (committed_behind reading history) h.branches
    (committed_below reading.last start reading.node history)) in
    let wait_is : behind_all sorter.waiting more ≡ wait_with_all sorter.waiting (new_of sorter.last sorter.first (branch_of sorter.node entry.kind (reading_start sorter.here))) =
    sym (given_behind reading.last start sorter.waiting reading.node entry.kind here numbers) ∙ ap (wait_with_all sorter.waiting) (sym is) in
    record {
      last = h.last;
      node = h.node;
      first = h.first;
      here = start_behind entry.kind sorter.trail.place sorter.trail.checksum sorter.here ∙ ap (next_start entry.kind) h.here;
      ordered = subst (λ (list : List CommittedBranch). AscendByKey (gave ++ list)) wait_is waits.ordered;
      branches = λ key.
          ap (λ (list : List CommittedBranch). own_branches (gave ++ list) key) (sym wait_is)
          ∙ waits.own key
          ∙ ap (λ (list : List CommittedBranch). list ++ own_branches more key) (h.branches key)
          ∙ sym (own_append key (committed_behind reading history) more)
          ∙ ap (λ (list : List CommittedBranch). own_branches list key) (sym (one_entry_more reading.last start reading.node history entry));
      settled = all_settled_on (low_of reading history) (low_of reading (entry ∷ history)) gave (feed_reads_on reading.last start reading.node history entry sound).low h.settled;
      points = λ begins.
          let there : ℕ → ℕ → Type 0 = λ (first node : ℕ). HoldsPoints reading.from reading.node (entry ∷ history)
          (standings_behind entry.kind sorter.trail.place sorter.trail.checksum sorter.here)
          (trail_behind (trail_by entry.kind first node sorter.here sorter.trail) entry.end entry.checksum) in
          subst (λ (first : ℕ). there first sorter.node) (sym h.first)
          (subst (λ (node : ℕ). there reading.from.entry node) (sym h.node)
          (points_on reading.from reading.node history sorter.here sorter.trail (h.points begins) h.here begins entry (ap (entry_fault entry.kind) h.here ∙ sound)));
    }

-- the same of a sorter that was changed by one more entry
pub takes_on : (old new : Sorting) (reading : SortReading) (history : List LogEntry) (gave : List CommittedBranch) (entry : LogEntry)
    → HoldsReading old reading history gave → entry_fault entry.kind (reading_start old.here) ≡ None → old.stopped ≡ None
    → (old.here.entry + 1 < 2 ^ 64 → new ≡ sorter_with entry old) → reading.from.entry + length history + 1 < 2 ^ 64
    → (new.stopped ≡ None) × (entry_fault entry.kind (history_behind reading history) ≡ None) × HoldsReading new reading (entry ∷ history) gave
takes_on old new reading history gave entry h sound unstopped goes room =
    let here : old.here.entry ≡ (history_behind reading history).entry = ap (λ (s : Start). s.entry) h.here in
    let is : new ≡ sorter_with entry old = goes (omega (arith, here, numbers_count (start_at reading.from) history, room)) in
    let sound_there : entry_fault entry.kind (history_behind reading history) ≡ None = ap (entry_fault entry.kind) (sym h.here) ∙ sound in (
      ap (λ (s : Sorting). s.stopped) is ∙ unstopped,
      sound_there,
      subst (λ (s : Sorting). HoldsReading s reading (entry ∷ history) gave) (sym is) (takes old reading history gave entry h sound_there),
    )

-- ---- the known key

noted_known : (trail : Trail) (key : Key) (stand : Stand) → (trail_noted trail key stand).known ≡ trail.known
noted_known trail key stand = by (is_gt (key_order key trail.known))
  where
    by : (b : Bool) → (cond b (record { place = trail.place; checksum = trail.checksum; ended = trail.ended; recent = trail.recent ++ recent_at key stand ∷ []; known = trail.known }) trail).known ≡ trail.known
    by true = refl
    by false = refl

closed_known : (number : ℕ) (found : Option StandingBranch) (trail : Trail) → (trail_closed number found trail).known ≡ trail.known
closed_known number None trail = refl
closed_known number (Some s) trail = refl

committed_known : (first : ℕ) (key : Key) (found : Option StandingBranch) (trail : Trail) → (trail_committed first key found trail).known ≡ trail.known
committed_known first key None trail = refl
committed_known first key (Some s) trail = by (leb first s.branch.entry)
  where
    by : (b : Bool) → (cond b (trail_noted trail key (stand_of s)) trail).known ≡ trail.known
    by true = noted_known trail key (stand_of s)
    by false = refl

known_by : (kind : EntryKind) (first node : ℕ) (here : Standings) (trail : Trail) → (trail_by kind first node here trail).known ≡ trail.known
known_by (Prepare xid rows) first node here trail = refl
known_by (OnePhase xid rows timestamp seconds) first node here trail = noted_known trail (Shared timestamp xid.gtrid) (present here trail)
known_by (Commit xid timestamp seconds) first node here trail =
    committed_known first (Shared timestamp xid.gtrid) (find_standing xid here.opened) (trail_closed here.entry (find_standing xid here.opened) trail)
    ∙ closed_known here.entry (find_standing xid here.opened) trail
known_by (Rollback xid) first node here trail = closed_known here.entry (find_standing xid here.opened) trail
known_by (Plain rows seconds) first node here trail = noted_known trail (PlainKey here.mark node here.entry) (present here trail)
known_by (Beat timestamp) first node here trail = refl

pub takes_known : (old new : Sorting) (reading : SortReading) (history : List LogEntry) (gave : List CommittedBranch) (entry : LogEntry) → HoldsReading old reading history gave
    → (old.here.entry + 1 < 2 ^ 64 → new ≡ sorter_with entry old) → reading.from.entry + length history + 1 < 2 ^ 64 → new.trail.known ≡ old.trail.known
takes_known old new reading history gave entry h goes room =
    let here : old.here.entry ≡ (history_behind reading history).entry = ap (λ (s : Start). s.entry) h.here in
    let is : new ≡ sorter_with entry old = goes (omega (arith, here, numbers_count (start_at reading.from) history, room)) in
    ap (λ (s : Sorting). s.trail.known) is ∙ known_by entry.kind old.first old.node old.here old.trail

-- ---- what is given

settled_front : (sorter : Sorting) (reading : SortReading) (history : List LogEntry) (gave : List CommittedBranch) → HoldsReading sorter reading history gave
    → settled_behind reading history ≡ gave ++ filter (settles (low_of reading history)) sorter.waiting
settled_front sorter reading history gave h =
    let mark = low_of reading history in
    let stands = (node_settled_in_order reading.last mark (start_at reading.from) reading.node history).ordered in
    settled_is mark (committed_behind reading history) (gave ++ sorter.waiting) h.ordered stands h.branches
    ∙ settled_split mark gave sorter.waiting h.settled

pub gave_is_a_front : GaveIsAFront
gave_is_a_front sorter reading history gave h = record {
  rest = filter (settles (low_of reading history)) sorter.waiting;
  is = settled_front sorter reading history gave h;
}

none_ready : (mark : ℕ) (waiting : List CommittedBranch) → AscendByKey waiting → is_first_settled mark waiting ≡ false → filter (settles mark) waiting ≡ []
none_ready mark [] ordered not = refl
none_ready mark (first ∷ rest) ordered not = first_decides mark first rest ordered not

pub gives_none : (sorter : Sorting) (reading : SortReading) (history : List LogEntry) (gave : List CommittedBranch) → HoldsReading sorter reading history gave
    → is_ready sorter ≡ false → gave ≡ settled_behind reading history
gives_none sorter reading history gave h not =
    let mark = low_of reading history in
    let clash : is_first_settled mark sorter.waiting ≡ false = ap (λ (s : Start). is_first_settled (node_low_water_mark s) sorter.waiting) (sym h.here) ∙ not in
    sym (settled_front sorter reading history gave h
    ∙ ap (λ (list : List CommittedBranch). gave ++ list) (none_ready mark sorter.waiting (ascends_behind gave sorter.waiting h.ordered) clash)
    ∙ append-nil gave)

all_append : (mark : ℕ) (gave : List CommittedBranch) (branch : CommittedBranch) → AllByRecursion (λ (other : CommittedBranch). is_settled mark other.key ≡ true) gave
    → is_settled mark branch.key ≡ true → AllByRecursion (λ (other : CommittedBranch). is_settled mark other.key ≡ true) (gave ++ branch ∷ [])
all_append mark [] branch all is = (is, tt)
all_append mark (first ∷ gave) branch (here, all) is = (here, all_append mark gave branch all is)

pub gives_one : (old new : Sorting) (reading : SortReading) (history : List LogEntry) (gave rest : List CommittedBranch) (branch : CommittedBranch)
    → HoldsReading old reading history gave → is_ready old ≡ true → old.waiting ≡ branch ∷ rest
    → new.last ≡ old.last → new.node ≡ old.node → new.first ≡ old.first → new.here ≡ old.here → new.trail ≡ old.trail → new.waiting ≡ rest
    → HoldsReading new reading history (gave ++ branch ∷ [])
gives_one old new reading history gave rest branch h ready is last node first here trail waiting =
    let lists : gave ++ old.waiting ≡ (gave ++ branch ∷ []) ++ new.waiting =
    ap (λ (list : List CommittedBranch). gave ++ list) (is ∙ ap (λ (list : List CommittedBranch). branch ∷ list) (sym waiting))
    ∙ sym (append_assoc gave (branch ∷ []) new.waiting) in
    let settled : is_settled (low_of reading history) branch.key ≡ true =
    ap (λ (s : Start). is_settled (node_low_water_mark s) branch.key) (sym h.here)
    ∙ ap (is_first_settled (node_low_water_mark (reading_start old.here))) (sym is) ∙ ready in
    record {
      last = last ∙ h.last;
      node = node ∙ h.node;
      first = first ∙ h.first;
      here = ap reading_start here ∙ h.here;
      ordered = subst AscendByKey lists h.ordered;
      branches = λ key. ap (λ (list : List CommittedBranch). own_branches list key) (sym lists) ∙ h.branches key;
      settled = all_append (low_of reading history) gave branch h.settled settled;
      points = λ begins.
          subst (HoldsPoints reading.from reading.node history new.here) (sym trail)
          (subst (λ (there : Standings). HoldsPoints reading.from reading.node history there old.trail) (sym here) (h.points begins));
    }

-- ---- the cut

pub open_ascend : (sorter : Sorting) (reading : SortReading) (history : List LogEntry) (gave : List CommittedBranch) → HoldsReading sorter reading history gave
    → IsStart (start_at reading.from) → AscendByXid (branches_of sorter.here.opened)
open_ascend sorter reading history gave h begins =
    subst AscendByXid (ap (λ (s : Start). s.opened) (sym h.here)) (open_branches_ascend (start_at reading.from) history begins.in_order)

pub cuts_latest : (sorter : Sorting) (reading : SortReading) (history : List LogEntry) (gave : List CommittedBranch) (last : Key) → HoldsReading sorter reading history gave
    → IsStart (start_at reading.from) → IsAtMost sorter.trail.known last
    → IsLatestPoint last reading.from reading.node (reverse history) (cut_of last sorter.first sorter.here sorter.trail)
cuts_latest sorter reading history gave last h begins low =
    subst (λ (first : ℕ). IsLatestPoint last reading.from reading.node (reverse history) (cut_of last first sorter.here sorter.trail)) (sym h.first)
    (latest_cut last reading.from reading.node history sorter.here sorter.trail (h.points begins) h.here begins low)

-- ---- what is forgotten

pub forgets : (sorter : Sorting) (reading : SortReading) (history : List LogEntry) (gave : List CommittedBranch) (last : Key) → HoldsReading sorter reading history gave
    → HoldsReading (record sorter { trail = trail_known sorter.trail last }) reading history gave
forgets sorter reading history gave last h = record {
  last = h.last;
  node = h.node;
  first = h.first;
  here = h.here;
  ordered = h.ordered;
  branches = h.branches;
  settled = h.settled;
  points = λ begins. points_known reading.from reading.node history sorter.here sorter.trail last (h.points begins);
}

pub sweeps : (sorter : Sorting) (reading : SortReading) (history : List LogEntry) (gave : List CommittedBranch) → HoldsReading sorter reading history gave
    → HoldsReading (record sorter { trail = trail_swept (began_numbers sorter.here.opened sorter.trail.recent) sorter.trail }) reading history gave
sweeps sorter reading history gave h = record {
  last = h.last;
  node = h.node;
  first = h.first;
  here = h.here;
  ordered = h.ordered;
  branches = h.branches;
  settled = h.settled;
  points = λ begins. points_swept reading.from reading.node history sorter.here sorter.trail (h.points begins);
}

-- the same by parts, with the numbers in some order
pub sweeps_by : (old : Sorting) (trail : Trail) (numbers : List ℕ) (standing : List StandingBranch) (recent : List RecentBranch) (reading : SortReading) (history : List LogEntry)
    (gave : List CommittedBranch) → standing ≡ old.here.opened → recent ≡ old.trail.recent → IsPermutation (began_numbers standing recent) numbers → trail ≡ trail_swept numbers old.trail
    → HoldsReading old reading history gave → HoldsReading (record old { trail = trail }) reading history gave
sweeps_by old trail numbers standing recent reading history gave standing_is recent_is same trail_is h =
    let there : Trail → Sorting = λ (t : Trail). record old { trail = t } in
    let is : trail ≡ trail_swept (began_numbers old.here.opened old.trail.recent) old.trail =
    trail_is
    ∙ swept_alike old.trail (began_numbers standing recent) numbers same
    ∙ ap (λ (list : List StandingBranch). trail_swept (began_numbers list recent) old.trail) standing_is
    ∙ ap (λ (list : List RecentBranch). trail_swept (began_numbers old.here.opened list) old.trail) recent_is in
    subst (λ (t : Trail). HoldsReading (there t) reading history gave) (sym is) (sweeps old reading history gave h)
