-- The sound entries of a log that goes on, its low-water mark, and its further branches.
use Rattle.std.proofs.Common.{◌≡◌, ◌≢◌, ◌≤◌, ◌<◌, ℕ, min, leb, Bool, true, false, not, cond, if◌then◌else◌, List, [], ◌∷◌, ◌++◌, append_assoc, append-nil, map, filter, find, reverse, Option, Some, None, is_none, ap, sym, subst, refl, ◌∙◌, le_refl, arith}
use Rattle.std.specs.List.{AllByRecursion}
use Rattle.std.specs.Ordering.{is_lt}
use Rattle.std.proofs.lemmas.Bool.{leb-false}
use Rattle.std.proofs.lemmas.Grind.{reverse_onto}
use Rattle.std.proofs.lemmas.List.{reverse-append}
use Rattle.cdc_base.specs.declared.key.Key.{Key}
use Rattle.cdc_base.specs.declared.key.Key.TheVariants.{Shared}
use Rattle.cdc_base.specs.declared.place.Place.{Place}
use Rattle.cdc_base.specs.declared.xid.Xid.{Xid}
use Rattle.cdc_event.specs.File.{FilesHaveOneReading, GrownFileContinues}
use Rattle.cdc_base.specs.Xid.{same_xid, xid_order}
use Rattle.cdc_model.specs.declared.entry.EntryKind.{EntryKind}
use Rattle.cdc_model.specs.declared.entry.EntryKind.TheVariants.{Prepare, OnePhase, Commit, Rollback, Plain, Beat}
use Rattle.cdc_model.specs.declared.fault.NodeFault.{NodeFault}
use Rattle.cdc_model.specs.declared.fault.NodeFault.TheVariants.{Sort}
use Rattle.cdc_model.specs.declared.fault.SortFault.{SortFault}
use Rattle.cdc_model.specs.declared.fault.SortFault.TheVariants.{Undercut}
use Rattle.cdc_model.specs.declared.node_log.NodeLog.{NodeLog}
use Rattle.cdc_model.specs.Records.{LogEntry, CommittedBranch, OpenBranch, Start}
use Rattle.cdc_model.specs.Log.{IsLogPrefix}
use Rattle.cdc_model.specs.Entries.{LengthensLog}
use Rattle.cdc_model.specs.Start.{beginning, find_open, without, enter, opened_by, next, left_by}
use Rattle.cdc_model.specs.Watermark.{least, node_low_water_mark}
use Rattle.cdc_model.specs.Soundness.{undercut, unless_open, when_open, entry_fault, sound_entries, fault_or, sort_fault, sort_or, log_fault, sound_history, reached, AllSound}
use Rattle.cdc_model.specs.Branch.{Begun, committed, branch_of, begun_branches, is_new, new_branches}
use Rattle.cdc_model.specs.Transaction.{node_branches}
use Rattle.cdc_model.specs.SettledOrder.{IsFront}
use Rattle.cdc_model.specs.Growth.{SoundPrefixGrows, SoundEntriesGrow, LogGrows, IsReadWhole, ContinuedLogsGrow, LiesAbove, MarkRises, LowWaterMarkRises}
use Rattle.cdc_model.proofs.SoundFront.{left_append, left_behind, sound_is_longest}
use Rattle.cdc_model.proofs.LogReading.{continued_log_keeps_entries}
use Rattle.cdc_model.proofs.XidOrder.{all_filtered}
use Rattle.cdc_model.proofs.CommitLaws.{new_append}
use Rattle.cdc_model.proofs.GrammarRows.{all_both}

-- ---- sound entries

-- a fault that isn't none leaves nothing behind it
abbrev Stays : List LogEntry → Option (Place × NodeFault) → Option (Place × NodeFault) → Type 0
Stays new fault later = fault ≢ None → (new ≡ []) × (later ≡ fault)

pub sound_by : (start : Start) (entry : LogEntry) (entries : List LogEntry) (fault : Option SortFault) → entry_fault entry.kind start ≡ fault
    → sound_entries start (entry ∷ entries) ≡ (if is_none fault then entry ∷ sound_entries (next entry.kind start) entries else [])
sound_by start entry entries fault is = ap (λ (f : Option SortFault). if is_none f then entry ∷ sound_entries (next entry.kind start) entries else []) is

pub fault_by : (start : Start) (entry : LogEntry) (entries : List LogEntry) (ended : Option (Place × NodeFault)) (fault : Option SortFault) → entry_fault entry.kind start ≡ fault
    → log_fault Sort start (entry ∷ entries) ended ≡ sort_or Sort (fault_or entry.at fault (sort_fault (next entry.kind start) entries)) ended
fault_by start entry entries ended fault is =
    ap (λ (f : Option SortFault). sort_or Sort (fault_or entry.at f (sort_fault (next entry.kind start) entries)) ended) is

pub lengthens_from : (entries longer others further : List LogEntry) (fault later other last : Option (Place × NodeFault))
    → entries ≡ others → longer ≡ further → fault ≡ other → later ≡ last → LengthensLog others further other last → LengthensLog entries longer fault later
lengthens_from entries longer others further fault later other last a b c d h =
    subst (λ (list : List LogEntry). LengthensLog list longer fault later) (sym a)
    (subst (λ (list : List LogEntry). LengthensLog others list fault later) (sym b)
    (subst (λ (f : Option (Place × NodeFault)). LengthensLog others further f later) (sym c)
    (subst (λ (f : Option (Place × NodeFault)). LengthensLog others further other f) (sym d) h)))

pub lengthens_with : (entry : LogEntry) (entries longer : List LogEntry) (fault later : Option (Place × NodeFault))
    → LengthensLog entries longer fault later → LengthensLog (entry ∷ entries) (entry ∷ longer) fault later
lengthens_with entry entries longer fault later h = record {
  new = h.new;
  kept = ap (λ (list : List LogEntry). entry ∷ list) h.kept;
  stays = h.stays;
}

pub sound_lengthens : (start : Start) (entries new : List LogEntry) (fault later : Option (Place × NodeFault)) → Stays new fault later
    → LengthensLog (sound_entries start entries) (sound_entries start (entries ++ new)) (log_fault Sort start entries fault) (log_fault Sort start (entries ++ new) later)
sound_lengthens start [] new fault later stays = record {
  new = sound_entries start new;
  kept = refl;
  stays = λ not.
      let kept = stays not in
      (ap (sound_entries start) kept.0, ap (λ (list : List LogEntry). log_fault Sort start list later) kept.0 ∙ kept.1);
}
sound_lengthens start (entry ∷ entries) new fault later stays =
    by (entry_fault entry.kind start) refl (sound_lengthens (next entry.kind start) entries new fault later stays)
  where
    by : (wrong : Option SortFault) → entry_fault entry.kind start ≡ wrong
        → LengthensLog (sound_entries (next entry.kind start) entries) (sound_entries (next entry.kind start) (entries ++ new))
        (log_fault Sort (next entry.kind start) entries fault) (log_fault Sort (next entry.kind start) (entries ++ new) later)
        → LengthensLog (sound_entries start (entry ∷ entries)) (sound_entries start (entry ∷ (entries ++ new)))
        (log_fault Sort start (entry ∷ entries) fault) (log_fault Sort start (entry ∷ (entries ++ new)) later)
    by None is h =
        lengthens_from (sound_entries start (entry ∷ entries)) (sound_entries start (entry ∷ (entries ++ new)))
        (entry ∷ sound_entries (next entry.kind start) entries) (entry ∷ sound_entries (next entry.kind start) (entries ++ new))
        (log_fault Sort start (entry ∷ entries) fault) (log_fault Sort start (entry ∷ (entries ++ new)) later)
        (log_fault Sort (next entry.kind start) entries fault) (log_fault Sort (next entry.kind start) (entries ++ new) later)
        (sound_by start entry entries None is) (sound_by start entry (entries ++ new) None is)
        (fault_by start entry entries fault None is) (fault_by start entry (entries ++ new) later None is)
        (lengthens_with entry (sound_entries (next entry.kind start) entries) (sound_entries (next entry.kind start) (entries ++ new))
        (log_fault Sort (next entry.kind start) entries fault) (log_fault Sort (next entry.kind start) (entries ++ new) later) h)
    by (Some wrong) is h =
        lengthens_from (sound_entries start (entry ∷ entries)) (sound_entries start (entry ∷ (entries ++ new))) [] []
        (log_fault Sort start (entry ∷ entries) fault) (log_fault Sort start (entry ∷ (entries ++ new)) later)
        (Some (entry.at, Sort wrong)) (Some (entry.at, Sort wrong))
        (sound_by start entry entries (Some wrong) is) (sound_by start entry (entries ++ new) (Some wrong) is)
        (fault_by start entry entries fault (Some wrong) is) (fault_by start entry (entries ++ new) later (Some wrong) is)
        (record { new = []; kept = refl; stays = λ not. (refl, refl) })

pub sound_entries_grow : SoundEntriesGrow
sound_entries_grow start entries longer fault later h =
    lengthens_from (sound_entries start entries) (sound_entries start longer) (sound_entries start entries) (sound_entries start (entries ++ h.new))
    (log_fault Sort start entries fault) (log_fault Sort start longer later) (log_fault Sort start entries fault) (log_fault Sort start (entries ++ h.new) later)
    refl (ap (sound_entries start) h.kept) refl (ap (λ (list : List LogEntry). log_fault Sort start list later) h.kept)
    (sound_lengthens start entries h.new fault later h.stays)

module _ (one : FilesHaveOneReading) (grown : GrownFileContinues) where
  pub sound_prefix_grows : SoundPrefixGrows
  sound_prefix_grows files others entries longer fault later continues first second =
      sound_entries_grow beginning entries longer fault later
      (continued_log_keeps_entries one grown files others entries longer fault later continues first second)

  one_log_grows : (old new : List (List ℕ)) (log later : NodeLog) → IsLogPrefix old new → IsReadWhole old log → IsReadWhole new later → LogGrows log later
  one_log_grows old new log later continues first second =
      let h = sound_prefix_grows old new log.entries later.entries first.fault second.fault continues first.read second.read in
      record {
        same_start = second.begins ∙ sym first.begins;
        front =
            subst (λ (s : Start). IsFront (sound_entries s log.entries) (sound_entries later.start later.entries)) (sym first.begins)
            (subst (λ (s : Start). IsFront (sound_entries beginning log.entries) (sound_entries s later.entries)) (sym second.begins)
            record { rest = h.new; is = h.kept });
      }

  pub continued_logs_grow : ContinuedLogsGrow
  continued_logs_grow [] [] [] [] continue first second = tt
  continued_logs_grow [] [] [] (later ∷ laters) continue first second = absurd second
  continued_logs_grow [] [] (log ∷ logs) laters continue first second = absurd first
  continued_logs_grow [] (new ∷ news) logs laters continue first second = absurd continue
  continued_logs_grow (old ∷ olds) [] logs laters continue first second = absurd continue
  continued_logs_grow (old ∷ olds) (new ∷ news) [] laters continue first second = absurd first
  continued_logs_grow (old ∷ olds) (new ∷ news) (log ∷ logs) [] continue first second = absurd second
  continued_logs_grow (old ∷ olds) (new ∷ news) (log ∷ logs) (later ∷ laters) (here, continue) (one_first, first) (one_second, second) =
      (one_log_grows old new log later here one_first one_second, continued_logs_grow olds news logs laters continue first second)

-- ---- a mark below which nothing more comes

-- a number that the high-water mark and all open floors reach
pub record StaysAbove (low : ℕ) (start : Start) : Type 0 where
  pub mark : low ≤ start.mark
  pub floors : AllByRecursion (λ (branch : OpenBranch). low ≤ branch.floor) start.opened

pub least_reaches : (low most : ℕ) (branches : List OpenBranch) → low ≤ most → AllByRecursion (λ (branch : OpenBranch). low ≤ branch.floor) branches
    → low ≤ least most (map (λ o. o.floor) branches)
least_reaches low most [] h all = h
least_reaches low most (branch ∷ branches) h (here, all) = least_reaches low (min most branch.floor) branches (omega (arith, h, here)) all

pub reaches_low : (low : ℕ) (start : Start) → StaysAbove low start → low ≤ node_low_water_mark start
reaches_low low start reaches = least_reaches low start.mark start.opened reaches.mark reaches.floors

pub least_is_low : (most : ℕ) (branches : List OpenBranch) → least most (map (λ o. o.floor) branches) ≤ most
least_is_low most [] = le_refl most
least_is_low most (branch ∷ branches) =
    let h : least (min most branch.floor) (map (λ o. o.floor) branches) ≤ min most branch.floor = least_is_low (min most branch.floor) branches in
    omega (arith, h)

pub least_is_below : (most : ℕ) (branches : List OpenBranch) → AllByRecursion (λ (branch : OpenBranch). least most (map (λ o. o.floor) branches) ≤ branch.floor) branches
least_is_below most [] = tt
least_is_below most (branch ∷ branches) =
    let h : least (min most branch.floor) (map (λ o. o.floor) branches) ≤ min most branch.floor = least_is_low (min most branch.floor) branches in
    (omega (arith, h), least_is_below (min most branch.floor) branches)

pub low_reaches : (start : Start) → StaysAbove (node_low_water_mark start) start
low_reaches start = record { mark = least_is_low start.mark start.opened; floors = least_is_below start.mark start.opened }

pub floors_entered : (low : ℕ) (branch : OpenBranch) (branches : List OpenBranch) → low ≤ branch.floor
    → AllByRecursion (λ (o : OpenBranch). low ≤ o.floor) branches → AllByRecursion (λ (o : OpenBranch). low ≤ o.floor) (enter branch branches)
floors_entered low branch [] h all = (h, tt)
floors_entered low branch (first ∷ rest) h (here, all) = by (is_lt (xid_order branch.xid first.xid)) (floors_entered low branch rest h all)
  where
    by : (b : Bool) → AllByRecursion (λ (o : OpenBranch). low ≤ o.floor) (enter branch rest)
        → AllByRecursion (λ (o : OpenBranch). low ≤ o.floor) (cond b (branch ∷ first ∷ rest) (first ∷ enter branch rest))
    by true later = (h, (here, all))
    by false later = (here, later)

pub floors_without : (low : ℕ) (xid : Xid) (branches : List OpenBranch) → AllByRecursion (λ (o : OpenBranch). low ≤ o.floor) branches
    → AllByRecursion (λ (o : OpenBranch). low ≤ o.floor) (without xid branches)
floors_without low xid branches all = all_filtered (λ (o : OpenBranch). low ≤ o.floor) (λ (o : OpenBranch). not (same_xid xid o.xid)) branches all

pub floors_next : (low : ℕ) (kind : EntryKind) (start : Start) → StaysAbove low start → AllByRecursion (λ (o : OpenBranch). low ≤ o.floor) (opened_by kind start)
floors_next low (Prepare xid rows) start reaches =
    floors_entered low (record { xid = xid; floor = start.mark; entry = start.entry; rows = rows }) (without xid start.opened) reaches.mark
    (floors_without low xid start.opened reaches.floors)
floors_next low (OnePhase xid rows timestamp seconds) start reaches = reaches.floors
floors_next low (Commit xid timestamp seconds) start reaches = floors_without low xid start.opened reaches.floors
floors_next low (Rollback xid) start reaches = floors_without low xid start.opened reaches.floors
floors_next low (Plain rows seconds) start reaches = reaches.floors
floors_next low (Beat timestamp) start reaches = reaches.floors

pub reaches_next : (low : ℕ) (kind : EntryKind) (start : Start) → StaysAbove low start → StaysAbove low (next kind start)
reaches_next low kind start reaches = record { mark = omega (arith, reaches.mark); floors = floors_next low kind start reaches }

-- ---- what an entry commits above it

pub above_floor : (timestamp floor : ℕ) (low : Bool) → leb timestamp floor ≡ low → (if low then Some (Undercut timestamp floor) else None) ≡ None → floor < timestamp
above_floor timestamp floor true is sound = absurd (cc)
above_floor timestamp floor false is sound = leb-false timestamp floor is

pub not_undercut : (timestamp floor : ℕ) → undercut timestamp floor ≡ None → floor < timestamp
not_undercut timestamp floor sound = above_floor timestamp floor (leb timestamp floor) refl sound

pub found_floor : (low : ℕ) (test : OpenBranch → Bool) (branches : List OpenBranch) (branch : OpenBranch)
    → AllByRecursion (λ (o : OpenBranch). low ≤ o.floor) branches → find test branches ≡ Some branch → low ≤ branch.floor
found_floor low test [] branch all found = absurd (cc)
found_floor low test (first ∷ rest) branch (here, all) found = by (test first) (found_floor low test rest branch all) found
  where
    by : (b : Bool) → (find test rest ≡ Some branch → low ≤ branch.floor) → cond b (Some first) (find test rest) ≡ Some branch → low ≤ branch.floor
    by true later is = let same : first ≡ branch = cc in subst (λ (o : OpenBranch). low ≤ o.floor) same here
    by false later is = later is

abbrev AboveLow : ℕ → List Begun → Type 0
AboveLow low begun = AllByRecursion (λ (b : Begun). LiesAbove low b.1.key) begun

pub one_phase_above : (low : ℕ) (xid : Xid) (opened : Option OpenBranch) (timestamp mark : ℕ) → low ≤ mark → unless_open xid opened (undercut timestamp mark) ≡ None → low < timestamp
one_phase_above low xid None timestamp mark h sound = let more = not_undercut timestamp mark sound in omega (arith, h, more)
one_phase_above low xid (Some branch) timestamp mark h sound = absurd (cc)

pub commit_above : (low : ℕ) (xid : Xid) (key : Key) (timestamp number seconds : ℕ) (opened : Option OpenBranch)
    → ((branch : OpenBranch) → opened ≡ Some branch → low ≤ branch.floor) → key ≡ Shared timestamp xid.gtrid
    → when_open xid opened (λ branch. undercut timestamp branch.floor) ≡ None → AboveLow low (committed key number seconds opened)
commit_above low xid key timestamp number seconds None floors is sound = tt
commit_above low xid key timestamp number seconds (Some branch) floors is sound =
    let more = not_undercut timestamp branch.floor sound in
    let least : low ≤ branch.floor = floors branch refl in
    (subst (LiesAbove low) (sym is) (omega (arith, least, more)), tt)

pub entry_above : (low node : ℕ) (kind : EntryKind) (start : Start) → StaysAbove low start → entry_fault kind start ≡ None → AboveLow low (branch_of node kind start)
entry_above low node (Prepare xid rows) start reaches sound = tt
entry_above low node (OnePhase xid rows timestamp seconds) start reaches sound =
    (one_phase_above low xid (find_open xid start.opened) timestamp start.mark reaches.mark sound, tt)
entry_above low node (Commit xid timestamp seconds) start reaches sound =
    commit_above low xid (Shared timestamp xid.gtrid) timestamp start.entry seconds (find_open xid start.opened)
    (λ branch found. found_floor low (λ (o : OpenBranch). same_xid xid o.xid) start.opened branch reaches.floors found) refl sound
entry_above low node (Rollback xid) start reaches sound = tt
entry_above low node (Plain rows seconds) start reaches sound = (reaches.mark, tt)
entry_above low node (Beat timestamp) start reaches sound = tt

-- ---- further entries

pub begun_append : (start : Start) (node : ℕ) (later earlier : List LogEntry)
    → begun_branches start node (later ++ earlier) ≡ begun_branches start node earlier ++ begun_branches (left_by start earlier) node later
begun_append start node [] earlier = sym (append-nil (begun_branches start node earlier))
begun_append start node (entry ∷ later) earlier =
    ap (λ (list : List Begun). list ++ branch_of node entry.kind (left_by start (later ++ earlier))) (begun_append start node later earlier)
    ∙ append_assoc (begun_branches start node earlier) (begun_branches (left_by start earlier) node later) (branch_of node entry.kind (left_by start (later ++ earlier)))
    ∙ ap (λ (s : Start). begun_branches start node earlier ++ (begun_branches (left_by start earlier) node later ++ branch_of node entry.kind s)) (left_append start later earlier)

pub reverse_first : (entry : LogEntry) (entries : List LogEntry) → reverse (entry ∷ entries) ≡ reverse entries ++ entry ∷ []
reverse_first entry entries = reverse_onto entries entry []

pub further_above : (low node : ℕ) (start : Start) (entries : List LogEntry) → StaysAbove low start → AllSound start entries
    → AboveLow low (begun_branches start node (reverse entries))
further_above low node start [] reaches sound = tt
further_above low node start (entry ∷ entries) reaches (here, sound) =
    subst (AboveLow low)
    (sym (ap (begun_branches start node) (reverse_first entry entries) ∙ begun_append start node (reverse entries) (entry ∷ [])))
    (all_both (λ (b : Begun). LiesAbove low b.1.key) (branch_of node entry.kind start) (begun_branches (next entry.kind start) node (reverse entries))
    (entry_above low node entry.kind start reaches here)
    (further_above low node (next entry.kind start) entries (reaches_next low entry.kind start reaches) sound))

pub further_reaches : (low : ℕ) (start : Start) (entries : List LogEntry) → StaysAbove low start → StaysAbove low (left_by start (reverse entries))
further_reaches low start [] reaches = reaches
further_reaches low start (entry ∷ entries) reaches =
    subst (StaysAbove low) (left_behind start entry entries) (further_reaches low (next entry.kind start) entries (reaches_next low entry.kind start reaches))

pub sound_rest : (start : Start) (front rest : List LogEntry) → AllSound start (front ++ rest) → AllSound (left_by start (reverse front)) rest
sound_rest start [] rest sound = sound
sound_rest start (entry ∷ front) rest (here, sound) =
    subst (λ (s : Start). AllSound s rest) (left_behind start entry front) (sound_rest (next entry.kind start) front rest sound)

pub new_above : (low : ℕ) (last : Key) (start : Start) (begun : List Begun) → AboveLow low begun
    → AllByRecursion (λ (branch : CommittedBranch). LiesAbove low branch.key) (new_branches last start begun)
new_above low last start [] all = tt
new_above low last start (b ∷ begun) (here, all) = by (is_new last start b) (new_above low last start begun all)
  where
    by : (kept : Bool) → AllByRecursion (λ (branch : CommittedBranch). LiesAbove low branch.key) (new_branches last start begun)
        → AllByRecursion (λ (branch : CommittedBranch). LiesAbove low branch.key) (map (λ (x : Begun). x.1) (cond kept (b ∷ filter (is_new last start) begun) (filter (is_new last start) begun)))
    by true later = (here, later)
    by false later = later

pub mark_rises : (last : Key) (node : ℕ) (old new : NodeLog) (start : Start) (front rest : List LogEntry) → old.start ≡ start → new.start ≡ start
    → sound_entries old.start old.entries ≡ front → sound_entries new.start new.entries ≡ front ++ rest → AllSound start (front ++ rest) → MarkRises last node old new
mark_rises last node old new start front rest old_start new_start old_is new_is sound =
    let here : Start = left_by start (reverse front) in
    let low = node_low_water_mark here in
    let old_here : reached old ≡ here =
    ap (λ (s : Start). left_by s (sound_history old)) old_start ∙ ap (λ (list : List LogEntry). left_by start (reverse list)) old_is in
    let new_here : reached new ≡ left_by here (reverse rest) =
    ap (λ (s : Start). left_by s (sound_history new)) new_start
    ∙ ap (λ (list : List LogEntry). left_by start (reverse list)) new_is
    ∙ ap (left_by start) (reverse-append front rest) ∙ left_append start (reverse rest) (reverse front) in
    let old_branches : node_branches last (node, old) ≡ new_branches last start (begun_branches start node (reverse front)) =
    ap (λ (s : Start). new_branches last s (begun_branches s node (sound_history old))) old_start
    ∙ ap (λ (list : List LogEntry). new_branches last start (begun_branches start node (reverse list))) old_is in
    let new_all : node_branches last (node, new)
    ≡ new_branches last start (begun_branches start node (reverse front)) ++ new_branches last start (begun_branches here node (reverse rest)) =
    ap (λ (s : Start). new_branches last s (begun_branches s node (sound_history new))) new_start
    ∙ ap (λ (list : List LogEntry). new_branches last start (begun_branches start node (reverse list))) new_is
    ∙ ap (λ (list : List LogEntry). new_branches last start (begun_branches start node list)) (reverse-append front rest)
    ∙ ap (new_branches last start) (begun_append start node (reverse rest) (reverse front))
    ∙ new_append last start (begun_branches start node (reverse front)) (begun_branches here node (reverse rest)) in
    record {
      low =
          subst (λ (s : Start). node_low_water_mark s ≤ node_low_water_mark (reached new)) (sym old_here)
          (subst (λ (s : Start). low ≤ node_low_water_mark s) (sym new_here)
          (reaches_low low (left_by here (reverse rest)) (further_reaches low here rest (low_reaches here))));
      more = new_branches last start (begun_branches here node (reverse rest));
      goes_on = new_all ∙ ap (λ (list : List CommittedBranch). list ++ new_branches last start (begun_branches here node (reverse rest))) (sym old_branches);
      above =
          subst (λ (s : Start). AllByRecursion (λ (branch : CommittedBranch). LiesAbove (node_low_water_mark s) branch.key) (new_branches last start (begun_branches here node (reverse rest)))) (sym old_here)
          (new_above low last start (begun_branches here node (reverse rest))
          (further_above low node here rest (low_reaches here) (sound_rest start front rest sound)));
    }

pub low_water_mark_rises : LowWaterMarkRises
low_water_mark_rises last node old new grows =
    mark_rises last node old new old.start (sound_entries old.start old.entries) grows.front.rest refl grows.same_start refl grows.front.is
    (subst (AllSound old.start) grows.front.is
    (subst (λ (s : Start). AllSound s (sound_entries new.start new.entries)) grows.same_start (sound_is_longest new.start new.entries).sound_all))
