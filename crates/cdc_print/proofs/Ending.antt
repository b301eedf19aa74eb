-- How a print ends, where all readings are over and all that is settled was printed.
use Rattle.std.proofs.Common.{◌≡◌, ◌<◌, inl, inr, ℕ, suc, ◌+◌, ◌-◌, Bool, true, false, not, cond, ◌||◌, IsTrue, List, [], ◌∷◌, ◌++◌, length, map, get_or, reverse, Option, Some, None, ap, sym, refl, subst, ◌∙◌, arith}
use Rattle.std.specs.List.{AllByRecursion, AllZip, list_all, enumerate_from}
use Rattle.std.specs.Option.{option_map}
use Rattle.std.proofs.lemmas.List.{length-map}
use Rattle.cdc_base.specs.Key.{first_key}
use Rattle.cdc_base.specs.declared.place.Place.{Place}
use Rattle.cdc_outside.specs.Count.{Rose}
use Rattle.cdc_outside.specs.Sink.{WritesTo}
use Rattle.cdc_model.specs.declared.fault.NodeFault.{NodeFault}
use Rattle.cdc_model.specs.declared.node_log.NodeLog.{NodeLog}
use Rattle.cdc_model.specs.Records.{LogEntry, Transaction, Start}
use Rattle.cdc_model.specs.Start.{beginning, left_by}
use Rattle.cdc_model.specs.Soundness.{sound_entries, reached}
use Rattle.cdc_model.specs.Branch.{committed_branches}
use Rattle.cdc_model.specs.Watermark.{node_low_water_mark}
use Rattle.cdc_model.specs.Feed.{NodeFeed, FeedsFrom, AreToldOf, merged_transactions, FeedsMergeToOrder}
use Rattle.cdc_model.specs.Growth.{IsReadWhole}
use Rattle.cdc_model.specs.ReadFrom.{StartReadsAll}
use Rattle.cdc_model.specs.Restart.{first_point}
use Rattle.cdc_model.specs.Transaction.{node_branches, ordered_transactions}
use Rattle.cdc_model.specs.Entries.{AreLogEntries}
use Rattle.cdc_model.specs.Output.{file_head, prints_within, unrotated_file, beyond_the_file, one_file}
use Rattle.cdc_reader.specs.declared.step.NodeEnd.{NodeEnd}
use Rattle.cdc_reader.specs.declared.step.NodeEnd.TheVariants.{Open, Whole, Read as ReadFailed, Memory as NoMemory, Fault as Faulty}
use Rattle.cdc_reader.specs.declared.log.LogReader.{LogReader}
use Rattle.cdc_reader.specs.Standing.{ReadingStands}
use Rattle.cdc_print.specs.declared.end.PrintEnd.{PrintEnd}
use Rattle.cdc_print.specs.declared.end.PrintEnd.TheVariants.{Done, Read, Memory, TooLarge, Fault, Sink}
use Rattle.cdc_print.specs.declared.node.NodeReader.{NodeReader}
use Rattle.cdc_print.specs.declared.printing.Beyond.{Beyond}
use Rattle.cdc_print.specs.declared.printing.Printing.{Printing}
use Rattle.cdc_print.specs.declared.printer.Printer.{Printer}
use Rattle.cdc_print.specs.Outcome.{PrintRun, IsFaultOf, AreClean, IsLeastFault, AreNodeLogs, NothingBeyond, IsBeyond, GaveFile, GaveFront, GaveOrFailed, HasEnded, IsLeastFailed, IsPrintEnd, WereAllRead, ComesBehindReading}
use Rattle.cdc_print.specs.Printed.{fitting, ends_file, told_beyond, has_some, ShowsFile}
use Rattle.cdc_print.specs.Reading.{NodeReads, AreReading, ends_of, failed_node, some_lacking, fault_end, end_by, read_or_else, memory_or_else, large_or_else}
use Rattle.cdc_print.specs.Running.{IsRunning, IsMergedBy, IsMergedAllBy, file_of_printing, WritesOrFails, Finishes}
use Rattle.cdc_print.proofs.Ends.{both_first, both_second, all_ended, many_ends, first_failed, none_failed, none_lacking, FaultFirst, NoFaultBelow, SaysFault, says_fault}

-- ---- what nodes gave is what their logs settle

-- how a reading ended: its log was read whole, or to its fault
abbrev IsReadToEnd : NodeEnd → Type 0
IsReadToEnd Open = ⊥
IsReadToEnd Whole = Unit {0}
IsReadToEnd ReadFailed = ⊥
IsReadToEnd NoMemory = ⊥
IsReadToEnd (Faulty place fault) = Unit {0}

not_lacking : (end : NodeEnd) → IsReadToEnd end → end ≡ NoMemory → ⊥
not_lacking Open to is = to
not_lacking Whole to is = cc
not_lacking ReadFailed to is = to
not_lacking NoMemory to is = to
not_lacking (Faulty place fault) to is = cc

-- what was taken are the sound entries
sound_taken : StartReadsAll → (end : NodeEnd) (files : List (List ℕ)) (log : LogReader) (taken : List LogEntry) → IsReadToEnd end → ReadingStands end first_point files log taken
    → (entries : List LogEntry) (ended : Option (Place × NodeFault)) → AreLogEntries files entries ended → sound_entries beginning entries ≡ taken
sound_taken law Open files log taken to stands entries ended read = absurd to
sound_taken law Whole files log taken to stands entries ended read = (stands entries ended ((law 0 files entries ended).1 read)).0
sound_taken law ReadFailed files log taken to stands entries ended read = absurd to
sound_taken law NoMemory files log taken to stands entries ended read = absurd to
sound_taken law (Faulty place fault) files log taken to stands entries ended read = (stands entries ended ((law 0 files entries ended).1 read)).0

-- a node has given all that its log settles, and told its mark
record NodeSettles (node : ℕ) (log : NodeLog) (feed : NodeFeed) : Type 0 where
  feeds : FeedsFrom (node_low_water_mark (reached log)) (node_branches first_key (node, log)) feed
  marked : feed.bound ≡ node_low_water_mark (reached log)

abbrev Settles : ℕ → NodeFeed → Start → List LogEntry → Type 0
Settles node feed start sound =
    FeedsFrom (node_low_water_mark (left_by start (reverse sound))) (committed_branches first_key start node (reverse sound)) feed
    × (feed.bound ≡ node_low_water_mark (left_by start (reverse sound)))

node_settles : StartReadsAll → (told : Bool) (files : List (List ℕ)) (before now node : ℕ) (state : NodeReader) (feed : NodeFeed) (log : NodeLog) → IsTrue told
    → NodeReads told files before now node state feed → state.over ≡ true → IsReadToEnd state.reader.end → IsReadWhole files log → NodeSettles node log feed
node_settles law told files before now node state feed log t reads over to whole =
    let given = (reads.over over).given (not_lacking state.reader.end to) in
    let sound : sound_entries beginning log.entries ≡ reads.taken
    = sound_taken law state.reader.end files state.reader.log reads.taken to (reads.reads.stands t) log.entries whole.fault whole.read in
    let same : reads.taken ≡ sound_entries log.start log.entries = sym sound ∙ ap (λ (start : Start). sound_entries start log.entries) (sym whole.begins) in
    let first : Settles node feed beginning reads.taken = (reads.reads.feeding.feeds, given.bound) in
    let second : Settles node feed beginning (sound_entries log.start log.entries) = subst (Settles node feed beginning) same first in
    let third : Settles node feed log.start (sound_entries log.start log.entries)
    = subst (λ (start : Start). Settles node feed start (sound_entries log.start log.entries)) (sym whole.begins) second in
    record { feeds = third.0; marked = third.1 }

-- all readings ended so
abbrev AllToEnd : List NodeReader → Type 0
AllToEnd states = AllByRecursion (λ (state : NodeReader). IsReadToEnd state.reader.end) states

feeds_of : {S : Type 0} → StartReadsAll → (told : Bool) (held : S → List (List ℕ)) (failed : S → ℕ) (node : ℕ) (befores : List ℕ) (sources : List S) (states : List NodeReader)
    (feeds : List NodeFeed) (logs : List NodeLog) → IsTrue told → AreReading told held failed node befores sources states feeds
    → list_all (λ (state : NodeReader). state.over) states ≡ true → AllToEnd states → AllZip IsReadWhole (map held sources) logs
    → AllZip (λ (one : ℕ × NodeLog) (feed : NodeFeed). FeedsFrom (node_low_water_mark (reached one.1)) (node_branches first_key one) feed) (enumerate_from node logs) feeds
    × AreToldOf logs feeds
feeds_of law told held failed node [] [] [] [] [] t are over to whole = (tt, tt)
feeds_of law told held failed node [] [] [] [] (log ∷ logs) t are over to whole = absurd whole
feeds_of law told held failed node (before ∷ befores) (source ∷ sources) (state ∷ states) (feed ∷ feeds) [] t are over to whole = absurd whole
feeds_of law told held failed node (before ∷ befores) (source ∷ sources) (state ∷ states) (feed ∷ feeds) (log ∷ logs) t are over to whole =
    let here = node_settles law told (held source) before (failed source) node state feed log t are.0
    (both_first state.over (list_all (λ (s : NodeReader). s.over) states) over) to.0 whole.0 in
    let rest = feeds_of law told held failed (node + 1) befores sources states feeds logs t are.1
    (both_second state.over (list_all (λ (s : NodeReader). s.over) states) over) to.1 whole.1 in
    ((here.feeds, rest.0), (here.marked, rest.1))
feeds_of law told held failed node befores sources states feeds logs t are over to whole = absurd are

-- so merging it gives the global order
pub merged_is_order : {S : Type 0} → StartReadsAll → FeedsMergeToOrder → (told : Bool) (held : S → List (List ℕ)) (failed : S → ℕ) (befores : List ℕ) (sources : List S)
    (states : List NodeReader) (feeds : List NodeFeed) (logs : List NodeLog) → IsTrue told → AreReading told held failed 1 befores sources states feeds
    → list_all (λ (state : NodeReader). state.over) states ≡ true → AllToEnd states → AreNodeLogs (map held sources) logs
    → merged_transactions 0 feeds ≡ ordered_transactions 0 first_key logs
merged_is_order law order told held failed befores sources states feeds logs t are over to whole =
    let all = feeds_of law told held failed 1 befores sources states feeds logs t are over to whole in
    (order 0 first_key logs feeds all.0).whole all.1

-- ---- readings of which no source failed, and none lacked memory, came to the end

to_end : (told : Bool) (files : List (List ℕ)) (before now : ℕ) (end : NodeEnd) → HasEnded told files before now end → (end ≡ ReadFailed → ⊥) → (end ≡ NoMemory → ⊥) → IsReadToEnd end
to_end told files before now Open has failed lacks = absurd has
to_end told files before now Whole has failed lacks = tt
to_end told files before now ReadFailed has failed lacks = absurd (failed refl)
to_end told files before now NoMemory has failed lacks = absurd (lacks refl)
to_end told files before now (Faulty place fault) has failed lacks = tt

-- from the ends by place
all_to_end : (states : List NodeReader) → ((index : ℕ) → index < length states → IsReadToEnd (get_or (ends_of states) index Open)) → AllToEnd states
all_to_end [] each = tt
all_to_end (state ∷ states) each = (each 0 (omega arith), all_to_end states (λ index h. each (suc index) (omega (arith, h))))

-- a reading that came to the end without a fault has a log without one
clean_by : (told : Bool) (files : List (List ℕ)) (before now : ℕ) (end : NodeEnd) → IsTrue told → HasEnded told files before now end → (end ≡ ReadFailed → ⊥) → (end ≡ NoMemory → ⊥)
    → ((place : Place) (fault : NodeFault) → end ≡ Faulty place fault → ⊥) → IsFaultOf files None
clean_by told files before now Open t has failed lacks never = absurd has
clean_by told files before now Whole t has failed lacks never = has t
clean_by told files before now ReadFailed t has failed lacks never = absurd (failed refl)
clean_by told files before now NoMemory t has failed lacks never = absurd (lacks refl)
clean_by told files before now (Faulty place fault) t has failed lacks never = absurd (never place fault refl)

clean_list : (nodes : List (List (List ℕ))) → ((index : ℕ) → index < length nodes → IsFaultOf (get_or nodes index []) None) → AreClean nodes
clean_list [] each = tt
clean_list (files ∷ nodes) each = (each 0 (omega arith), clean_list nodes (λ index h. each (suc index) (omega (arith, h))))

told_nothing : (ends : Option Transaction) → option_map told_beyond ends ≡ None → ends ≡ None
told_nothing None is = refl
told_nothing (Some txn) is = absurd (cc)

-- ---- the file

-- what a printing has is the one file of its transactions
pub file_is : (pieces : List ℕ) (at : ℕ) (begun : Bool) (beyond : Option Beyond) (txns : List Transaction) → ShowsFile pieces at begun beyond txns
    → cond begun pieces [] ≡ one_file (fitting txns)
file_is pieces at begun beyond txns shows = by (fitting txns) refl
  where
    by : (list : List Transaction) → fitting txns ≡ list → cond begun pieces [] ≡ one_file list
    by [] is = ap (λ (b : Bool). cond b pieces []) (shows.has_begun ∙ ap has_some is)
    by (txn ∷ rest) is =
        ap (λ (b : Bool). cond b pieces []) (shows.has_begun ∙ ap has_some is) ∙ shows.bytes
        ∙ ap (λ (list : List Transaction). file_head ++ prints_within (length file_head) list) is

-- where a file is told to end
pub told_end : (ends : Option Transaction) (beyond : Beyond) → Some beyond ≡ option_map told_beyond ends → (txn : Transaction) × (ends ≡ Some txn) × (beyond ≡ told_beyond txn)
told_end None beyond is = absurd (cc)
told_end (Some txn) beyond is = (txn, refl, let s : beyond ≡ told_beyond txn = cc in s)

-- ---- which end comes, and what was written

-- a print by its parts
abbrev pub print_run : List (List (List ℕ)) → List ℕ → List ℕ → List ℕ → List ℕ → ℕ → ℕ → PrintRun
print_run nodes befores nows before now faults_before faults_now = record {
  nodes = nodes;
  reads_before = befores;
  reads_now = nows;
  out_before = before;
  out_now = now;
  faults_before = faults_before;
  faults_now = faults_now;
}

-- what a print has at its end: all readings are over, and what nodes gave is merged and printed
pub record AtEnd {S : Type 0} (told : Bool) (held : S → List (List ℕ)) (failed : S → ℕ) (befores : List ℕ) (sources : List S) (printer : Printer) : Type 0 where
  pub feeds : List NodeFeed
  pub reading : AreReading told held failed 1 befores sources printer.nodes.items feeds
  pub over : list_all (λ (state : NodeReader). state.over) printer.nodes.items ≡ true
  pub merged : IsMergedAllBy printer feeds

-- the readings came to the end, and all is printed
record AllPrinted (nodes : List (List (List ℕ))) (printing : Printing) : Type 0 where
  file : (logs : List NodeLog) → AreNodeLogs nodes logs → file_of_printing printing ≡ unrotated_file logs
  ends : (logs : List NodeLog) → AreNodeLogs nodes logs → printing.beyond ≡ option_map told_beyond (beyond_the_file logs)

module _ {S : Type 0} (law : StartReadsAll) (order : FeedsMergeToOrder) (told : Bool) (held : S → List (List ℕ)) (failed : S → ℕ) (befores : List ℕ) (sources : List S)
    (printer : Printer) (at : AtEnd told held failed befores sources printer) where
  ended : (index : ℕ) → index < length sources
      → HasEnded told (get_or (map held sources) index []) (get_or befores index 0) (get_or (map failed sources) index 0) (get_or (ends_of printer.nodes.items) index Open)
  ended = all_ended law told held failed 1 befores sources printer.nodes.items at.feeds at.reading at.over

  many : length (ends_of printer.nodes.items) ≡ length sources
  many = many_ends told held failed 1 befores sources printer.nodes.items at.feeds at.reading

  came : failed_node 1 (ends_of printer.nodes.items) ≡ None → some_lacking (ends_of printer.nodes.items) ≡ false → AllToEnd printer.nodes.items
  came none lacking = all_to_end printer.nodes.items
      (λ index h. to_end told (get_or (map held sources) index []) (get_or befores index 0) (get_or (map failed sources) index 0) (get_or (ends_of printer.nodes.items) index Open)
      (ended index (let w : index < length sources = omega (arith, h, many, length-map printer.nodes.items (λ (state : NodeReader). state.reader.end)) in w))
      (none_failed 1 (ends_of printer.nodes.items) none index) (none_lacking (ends_of printer.nodes.items) lacking index))

  printed : IsTrue told → printer.prints ≡ true → AllToEnd printer.nodes.items → AllPrinted (map held sources) printer.printing
  printed t prints to =
      let all = (at.merged prints).1 in
      record {
        file = λ logs whole.
            file_is printer.printing.pieces printer.printing.at printer.printing.begun printer.printing.beyond (merged_transactions 0 at.feeds) all.shows
            ∙ ap (λ (txns : List Transaction). one_file (fitting txns)) (merged_is_order law order told held failed befores sources printer.nodes.items at.feeds logs t at.reading at.over to whole);
        ends = λ logs whole.
            all.shows.ends
            ∙ ap (λ (txns : List Transaction). option_map told_beyond (ends_file txns)) (merged_is_order law order told held failed befores sources printer.nodes.items at.feeds logs t at.reading at.over to whole);
      }

  -- the least node whose source failed
  least_failed : (before now : List ℕ) (faults_before faults_now node : ℕ) → length befores ≡ length sources → failed_node 1 (ends_of printer.nodes.items) ≡ Some node
      → IsLeastFailed told (print_run (map held sources) befores (map failed sources) before now faults_before faults_now) node
  least_failed before now faults_before faults_now node same is =
      let found = first_failed 1 (ends_of printer.nodes.items) node is in
      let index = found.0 in
      let first = found.2 in
      let within : index < length sources = omega (arith, first.within, many) in
      let place : index ≡ node - 1 = omega (arith, found.1) in
      let rose : Rose (get_or befores index 0) (get_or (map failed sources) index 0)
      = subst (HasEnded told (get_or (map held sources) index []) (get_or befores index 0) (get_or (map failed sources) index 0)) first.is (ended index within) in
      record {
        rose = record {
          first = omega (arith, found.1);
          last = omega (arith, found.1, within, same);
          rose = subst (λ (i : ℕ). Rose (get_or befores i 0) (get_or (map failed sources) i 0)) place rose;
        };
        lesser = λ other one below. record {
          end = get_or (ends_of printer.nodes.items) (other - 1) Open;
          ended = ended (other - 1) (omega (arith, one, below, within, found.1));
          otherwise = first.lesser (other - 1) (omega (arith, one, below, found.1));
        };
      }

  -- the ends of readings that came to the end
  fault_at : IsTrue told → AllToEnd printer.nodes.items → (index : ℕ) → index < length sources → (place : Place) (fault : NodeFault)
      → get_or (ends_of printer.nodes.items) index Open ≡ Faulty place fault → IsFaultOf (get_or (map held sources) index []) (Some (place, fault))
  fault_at t to index h place fault is =
      subst (HasEnded told (get_or (map held sources) index []) (get_or befores index 0) (get_or (map failed sources) index 0)) is (ended index h) t

  clean_at : IsTrue told → failed_node 1 (ends_of printer.nodes.items) ≡ None → some_lacking (ends_of printer.nodes.items) ≡ false → (index : ℕ) → index < length sources
      → ((place : Place) (fault : NodeFault) → get_or (ends_of printer.nodes.items) index Open ≡ Faulty place fault → ⊥) → IsFaultOf (get_or (map held sources) index []) None
  clean_at t none lacking index h never =
      clean_by told (get_or (map held sources) index []) (get_or befores index 0) (get_or (map failed sources) index 0) (get_or (ends_of printer.nodes.items) index Open) t
      (ended index h) (none_failed 1 (ends_of printer.nodes.items) none index) (none_lacking (ends_of printer.nodes.items) lacking index) never

  all_clean : IsTrue told → failed_node 1 (ends_of printer.nodes.items) ≡ None → some_lacking (ends_of printer.nodes.items) ≡ false
      → NoFaultBelow (ends_of printer.nodes.items) (length (ends_of printer.nodes.items)) → AreClean (map held sources)
  all_clean t none lacking never = clean_list (map held sources)
      (λ index h. let w : index < length sources = omega (arith, h, length-map sources held) in
      clean_at t none lacking index w (λ place fault is. never index place fault (omega (arith, w, many)) is))

  least_fault : IsTrue told → failed_node 1 (ends_of printer.nodes.items) ≡ None → some_lacking (ends_of printer.nodes.items) ≡ false → AllToEnd printer.nodes.items
      → (node : ℕ) (place : Place) (fault : NodeFault) → FaultFirst 1 (ends_of printer.nodes.items) node place fault → IsLeastFault (map held sources) node place fault
  least_fault t none lacking to node place fault first =
      let within : first.index < length sources = omega (arith, first.within, many) in
      let at_node : first.index ≡ node - 1 = omega (arith, first.at) in
      record {
        first = omega (arith, first.at);
        last = omega (arith, first.at, within, length-map sources held);
        has = subst (λ (i : ℕ). IsFaultOf (get_or (map held sources) i []) (Some (place, fault))) at_node (fault_at t to first.index within place fault first.is);
        lesser = λ other one below.
            clean_at t none lacking (other - 1) (omega (arith, one, below, within, first.at))
            (λ p f is. first.lesser (other - 1) p f (omega (arith, one, below, first.at)) is);
      }

  -- where the file ends
  nothing_beyond : AllPrinted (map held sources) printer.printing → printer.printing.beyond ≡ None → NothingBeyond (map held sources)
  nothing_beyond all none logs whole = told_nothing (beyond_the_file logs) (sym (all.ends logs whole) ∙ none)

  some_beyond : AllPrinted (map held sources) printer.printing → (beyond : Beyond) → printer.printing.beyond ≡ Some beyond → IsBeyond (map held sources) beyond.number beyond.bytes
  some_beyond all beyond is logs whole =
      let e = told_end (beyond_the_file logs) beyond (sym is ∙ all.ends logs whole) in
      (e.0, e.1, ap (λ (b : Beyond). b.number) e.2, ap (λ (b : Beyond). b.bytes) e.2)

  -- what was written
  module _ (shown : Bool) (before now : List ℕ) (faults_before faults_now : ℕ) (same : length befores ≡ length sources) where
    gave : AllPrinted (map held sources) printer.printing → now ≡ before ++ file_of_printing printer.printing
        → GaveFile (print_run (map held sources) befores (map failed sources) before now faults_before faults_now)
    gave all is logs whole = is ∙ ap (λ (bytes : List ℕ). before ++ bytes) (all.file logs whole)

    gave_front : AllPrinted (map held sources) printer.printing → WritesTo before (file_of_printing printer.printing) now
        → GaveFront (print_run (map held sources) befores (map failed sources) before now faults_before faults_now)
    gave_front all front logs whole = subst (λ (bytes : List ℕ). WritesTo before bytes now) (all.file logs whole) front

    gave_or_failed : AllPrinted (map held sources) printer.printing → WritesOrFails shown before (file_of_printing printer.printing) now faults_before faults_now → IsTrue shown
        → GaveOrFailed (print_run (map held sources) befores (map failed sources) before now faults_before faults_now)
    gave_or_failed all (inl wrote) s = inl (gave all (wrote s))
    gave_or_failed all (inr (rose, front)) s = inr (gave_front all (front s), rose)

    by_fault : failed_node 1 (ends_of printer.nodes.items) ≡ None → some_lacking (ends_of printer.nodes.items) ≡ false → printer.prints ≡ true → printer.printing.beyond ≡ None
        → (end result : PrintEnd) → SaysFault 1 (ends_of printer.nodes.items) end → Finishes shown before (file_of_printing printer.printing) now faults_before faults_now end result
        → IsPrintEnd told shown (print_run (map held sources) befores (map failed sources) before now faults_before faults_now) result
    by_fault none lacking prints room Done result says (inl (is, wrote)) =
        subst (IsPrintEnd told shown (print_run (map held sources) befores (map failed sources) before now faults_before faults_now)) (sym is)
        (λ t. let all = printed t prints (came none lacking) in
        (all_clean t none lacking says, nothing_beyond all room, λ s. gave all (wrote s)))
    by_fault none lacking prints room Done result says (inr (is, rose, front)) =
        subst (IsPrintEnd told shown (print_run (map held sources) befores (map failed sources) before now faults_before faults_now)) (sym is) (
          rose,
          λ t. let all = printed t prints (came none lacking) in
              (all_clean t none lacking says, nothing_beyond all room, λ s. gave_front all (front s)),
        )
    by_fault none lacking prints room (Fault node place fault) result says (is, wrote) =
        subst (IsPrintEnd told shown (print_run (map held sources) befores (map failed sources) before now faults_before faults_now)) (sym is)
        (λ t. let all = printed t prints (came none lacking) in
        (least_fault t none lacking (came none lacking) node place fault says, nothing_beyond all room, λ s. gave_or_failed all wrote s))
    by_fault none lacking prints room (Read node) result says finishes = absurd says
    by_fault none lacking prints room Memory result says finishes = absurd says
    by_fault none lacking prints room (TooLarge number bytes) result says finishes = absurd says
    by_fault none lacking prints room Sink result says finishes = absurd says

    by_beyond : failed_node 1 (ends_of printer.nodes.items) ≡ None → some_lacking (ends_of printer.nodes.items) ≡ false → printer.prints ≡ true
        → (beyond : Option Beyond) (result : PrintEnd) → printer.printing.beyond ≡ beyond
        → Finishes shown before (file_of_printing printer.printing) now faults_before faults_now (large_or_else beyond (fault_end 1 (ends_of printer.nodes.items))) result
        → IsPrintEnd told shown (print_run (map held sources) befores (map failed sources) before now faults_before faults_now) result
    by_beyond none lacking prints None result is finishes =
        by_fault none lacking prints is (fault_end 1 (ends_of printer.nodes.items)) result (says_fault 1 (ends_of printer.nodes.items)) finishes
    by_beyond none lacking prints (Some beyond) result is (ends, wrote) =
        subst (IsPrintEnd told shown (print_run (map held sources) befores (map failed sources) before now faults_before faults_now)) (sym ends)
        (λ t. let all = printed t prints (came none lacking) in (some_beyond all beyond is, λ s. gave_or_failed all wrote s))

    by_memory : failed_node 1 (ends_of printer.nodes.items) ≡ None → (prints lacking : Bool) (result : PrintEnd) → printer.prints ≡ prints → some_lacking (ends_of printer.nodes.items) ≡ lacking
        → Finishes shown before (file_of_printing printer.printing) now faults_before faults_now
        (memory_or_else (not prints || lacking) (large_or_else printer.printing.beyond (fault_end 1 (ends_of printer.nodes.items)))) result
        → IsPrintEnd told shown (print_run (map held sources) befores (map failed sources) before now faults_before faults_now) result
    by_memory none true false result goes lacks finishes = by_beyond none lacks goes printer.printing.beyond result refl finishes
    by_memory none true true result goes lacks (ends, nothing) =
        subst (IsPrintEnd told shown (print_run (map held sources) befores (map failed sources) before now faults_before faults_now)) (sym ends) nothing
    by_memory none false lacking result goes lacks (ends, nothing) =
        subst (IsPrintEnd told shown (print_run (map held sources) befores (map failed sources) before now faults_before faults_now)) (sym ends) nothing

    by_read : (found : Option ℕ) (result : PrintEnd) → failed_node 1 (ends_of printer.nodes.items) ≡ found
        → Finishes shown before (file_of_printing printer.printing) now faults_before faults_now
        (read_or_else found (memory_or_else (not printer.prints || some_lacking (ends_of printer.nodes.items)) (large_or_else printer.printing.beyond (fault_end 1 (ends_of printer.nodes.items))))) result
        → IsPrintEnd told shown (print_run (map held sources) befores (map failed sources) before now faults_before faults_now) result
    by_read None result is finishes = by_memory is printer.prints (some_lacking (ends_of printer.nodes.items)) result refl refl finishes
    by_read (Some node) result is (ends, nothing) =
        subst (IsPrintEnd told shown (print_run (map held sources) befores (map failed sources) before now faults_before faults_now)) (sym ends)
        (least_failed before now faults_before faults_now node same is, nothing)

-- a print that has finished, has ended so
pub finished : {S : Type 0} → StartReadsAll → FeedsMergeToOrder → (told shown : Bool) (held : S → List (List ℕ)) (failed : S → ℕ) (befores : List ℕ) (sources : List S)
    (printer : Printer) (before now : List ℕ) (faults_before faults_now : ℕ) (result : PrintEnd) → AtEnd told held failed befores sources printer → length befores ≡ length sources
    → Finishes shown before (file_of_printing printer.printing) now faults_before faults_now (end_by (ends_of printer.nodes.items) printer.prints printer.printing.beyond) result
    → IsPrintEnd told shown (print_run (map held sources) befores (map failed sources) before now faults_before faults_now) result
finished law order told shown held failed befores sources printer before now faults_before faults_now result at same finishes =
    by_read law order told held failed befores sources printer at shown before now faults_before faults_now same
    (failed_node 1 (ends_of printer.nodes.items)) result refl finishes

-- the end comes behind the reading of all logs, unless it is a failed source or want of memory
module _ {S : Type 0} (law : StartReadsAll) (told : Bool) (held : S → List (List ℕ)) (failed : S → ℕ) (befores : List ℕ) (sources : List S)
    (printer : Printer) (at : AtEnd told held failed befores sources printer) (shown : Bool) (before now : List ℕ) (faults_before faults_now : ℕ) where
  all_read : failed_node 1 (ends_of printer.nodes.items) ≡ None → some_lacking (ends_of printer.nodes.items) ≡ false
      → WereAllRead told (print_run (map held sources) befores (map failed sources) before now faults_before faults_now)
  all_read none lacking node first last = record {
    end = get_or (ends_of printer.nodes.items) (node - 1) Open;
    ended = all_ended law told held failed 1 befores sources printer.nodes.items at.feeds at.reading at.over (node - 1) (omega (arith, first, last, length-map sources held));
    otherwise = none_failed 1 (ends_of printer.nodes.items) none (node - 1);
    had_memory = none_lacking (ends_of printer.nodes.items) lacking (node - 1);
  }

  comes_behind : (result : PrintEnd) → WereAllRead told (print_run (map held sources) befores (map failed sources) before now faults_before faults_now)
      → ComesBehindReading told (print_run (map held sources) befores (map failed sources) before now faults_before faults_now) result
  comes_behind Done all = all
  comes_behind (Read node) all = tt
  comes_behind Memory all = tt
  comes_behind (TooLarge number bytes) all = all
  comes_behind (Fault node place fault) all = all
  comes_behind Sink all = all

  comes_memory : failed_node 1 (ends_of printer.nodes.items) ≡ None → (prints lacking : Bool) (result other : PrintEnd) → some_lacking (ends_of printer.nodes.items) ≡ lacking
      → Finishes shown before (file_of_printing printer.printing) now faults_before faults_now (memory_or_else (not prints || lacking) other) result
      → ComesBehindReading told (print_run (map held sources) befores (map failed sources) before now faults_before faults_now) result
  comes_memory none true false result other lacks finishes = comes_behind result (all_read none lacks)
  comes_memory none true true result other lacks (ends, nothing) =
      subst (ComesBehindReading told (print_run (map held sources) befores (map failed sources) before now faults_before faults_now)) (sym ends) tt
  comes_memory none false lacking result other lacks (ends, nothing) =
      subst (ComesBehindReading told (print_run (map held sources) befores (map failed sources) before now faults_before faults_now)) (sym ends) tt

  comes_read : (found : Option ℕ) (result other : PrintEnd) → failed_node 1 (ends_of printer.nodes.items) ≡ found
      → Finishes shown before (file_of_printing printer.printing) now faults_before faults_now
      (read_or_else found (memory_or_else (not printer.prints || some_lacking (ends_of printer.nodes.items)) other)) result
      → ComesBehindReading told (print_run (map held sources) befores (map failed sources) before now faults_before faults_now) result
  comes_read None result other is finishes = comes_memory is printer.prints (some_lacking (ends_of printer.nodes.items)) result other refl finishes
  comes_read (Some node) result other is (ends, nothing) =
      subst (ComesBehindReading told (print_run (map held sources) befores (map failed sources) before now faults_before faults_now)) (sym ends) tt

-- what a print ran to, is at its end
at_end : {S : Type 0} (told : Bool) (held : S → List (List ℕ)) (failed : S → ℕ) (befores : List ℕ) (sources : List S) (mid printer : Printer)
    → IsRunning told held failed befores sources mid → list_all (λ (state : NodeReader). state.over) mid.nodes.items ≡ true → printer.nodes.items ≡ mid.nodes.items
    → ((feeds : List NodeFeed) → IsMergedBy mid feeds → IsMergedAllBy printer feeds) → AtEnd told held failed befores sources printer
at_end told held failed befores sources mid printer running over nodes all = record {
  feeds = running.feeds;
  reading = subst (λ (states : List NodeReader). AreReading told held failed 1 befores sources states running.feeds) (sym nodes) running.reading;
  over = subst (λ (states : List NodeReader). list_all (λ (state : NodeReader). state.over) states ≡ true) (sym nodes) over;
  merged = all running.feeds running.merged;
}

pub print_ordered : {S : Type 0} → StartReadsAll → (told shown : Bool) (held : S → List (List ℕ)) (failed : S → ℕ) (firsts sources : List S)
    (mid printer : Printer) (before now : List ℕ) (faults_before faults_now : ℕ) (result : PrintEnd) → map held sources ≡ map held firsts
    → IsRunning told held failed (map failed firsts) sources mid → list_all (λ (state : NodeReader). state.over) mid.nodes.items ≡ true → printer.nodes.items ≡ mid.nodes.items
    → ((feeds : List NodeFeed) → IsMergedBy mid feeds → IsMergedAllBy printer feeds)
    → Finishes shown before (file_of_printing printer.printing) now faults_before faults_now (end_by (ends_of printer.nodes.items) printer.prints printer.printing.beyond) result
    → ComesBehindReading told (print_run (map held firsts) (map failed firsts) (map failed sources) before now faults_before faults_now) result
print_ordered law told shown held failed firsts sources mid printer before now faults_before faults_now result same running over nodes all finishes =
    subst (λ (list : List (List (List ℕ))). ComesBehindReading told (print_run list (map failed firsts) (map failed sources) before now faults_before faults_now) result) same
    (comes_read law told held failed (map failed firsts) sources printer (at_end told held failed (map failed firsts) sources mid printer running over nodes all)
    shown before now faults_before faults_now (failed_node 1 (ends_of printer.nodes.items)) result
    (large_or_else printer.printing.beyond (fault_end 1 (ends_of printer.nodes.items))) refl finishes)

-- the same from what a print ran to: it began over these sources
pub print_ended : {S : Type 0} → StartReadsAll → FeedsMergeToOrder → (told shown : Bool) (held : S → List (List ℕ)) (failed : S → ℕ) (firsts sources : List S)
    (mid printer : Printer) (before now : List ℕ) (faults_before faults_now : ℕ) (result : PrintEnd) → map held sources ≡ map held firsts
    → IsRunning told held failed (map failed firsts) sources mid → list_all (λ (state : NodeReader). state.over) mid.nodes.items ≡ true → printer.nodes.items ≡ mid.nodes.items
    → ((feeds : List NodeFeed) → IsMergedBy mid feeds → IsMergedAllBy printer feeds)
    → Finishes shown before (file_of_printing printer.printing) now faults_before faults_now (end_by (ends_of printer.nodes.items) printer.prints printer.printing.beyond) result
    → IsPrintEnd told shown (print_run (map held firsts) (map failed firsts) (map failed sources) before now faults_before faults_now) result
print_ended law order told shown held failed firsts sources mid printer before now faults_before faults_now result same running over nodes all finishes =
    let many : length (map failed firsts) ≡ length sources
    = omega (arith, length-map firsts failed, length-map firsts held, length-map sources held, ap length same) in
    subst (λ (list : List (List (List ℕ))). IsPrintEnd told shown (print_run list (map failed firsts) (map failed sources) before now faults_before faults_now) result) same
    (finished law order told shown held failed (map failed firsts) sources printer before now faults_before faults_now result
    (at_end told held failed (map failed firsts) sources mid printer running over nodes all)
    many finishes)
