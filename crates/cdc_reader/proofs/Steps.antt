-- What a reader has taken and given, step by step.
use Rattle.std.proofs.Common.{◌≡◌, ℕ, ◌+◌, Bool, List, [], ◌∷◌, ◌++◌, length, reverse, Option, Some, None, Result, Err, ap, sym, subst, refl, ◌∙◌, append_assoc, append-nil, arith, length-append}
use Rattle.std.specs.Prelude.{IsTrue}
use Rattle.std.proofs.lemmas.List.{reverse-append}
use Rattle.cdc_base.specs.declared.place.Place.{Place}
use Rattle.cdc_outside.specs.Source.{file_of}
use Rattle.cdc_model.specs.declared.fault.NodeFault.{NodeFault}
use Rattle.cdc_model.specs.declared.fault.NodeFault.TheVariants.{Sort, File, Group}
use Rattle.cdc_model.specs.declared.fault.SortFault.{SortFault}
use Rattle.cdc_model.specs.Records.{LogEntry, CommittedBranch}
use Rattle.cdc_model.specs.Start.{left_by}
use Rattle.cdc_model.specs.Soundness.{AllSound, entry_fault}
use Rattle.cdc_model.specs.Feed.{NodeFeed}
use Rattle.cdc_model.specs.NodeReading.{FeedReadsOn, FeedGives, FeedsBehind}
use Rattle.cdc_model.specs.Branch.{committed_branches}
use Rattle.cdc_model.specs.NodeReading.{low_behind}
use Rattle.cdc_model.specs.ReadFrom.{AreEntriesReadFrom}
use Rattle.cdc_model.specs.Restart.{RestartPoint, start_at}
use Rattle.cdc_sorter.specs.Sorting.{Sorting, SortReading, HoldsReading, sorter_stopped, GaveIsAFront}
use Rattle.cdc_sorter.specs.declared.sorter.SortError.{SortError}
use Rattle.cdc_sorter.specs.declared.sorter.SortError.TheVariants.{Fault as Refuses, Memory as Wanting}
use Rattle.cdc_reader.specs.declared.log.LogReader.{LogReader}
use Rattle.cdc_reader.specs.declared.step.NodeEnd.{NodeEnd}
use Rattle.cdc_reader.specs.declared.step.NodeEnd.TheVariants.{Open, Whole, Read as ReadFailed, Memory as NoMemory, Fault as Faulty}
use Rattle.cdc_reader.specs.declared.step.Step.{Step}
use Rattle.cdc_reader.specs.declared.step.Step.TheVariants.{Branch}
use Rattle.cdc_reader.specs.declared.step.Advance.{Advance}
use Rattle.cdc_reader.specs.declared.step.Advance.TheVariants.{Gives, NeedsBytes, Ends}
use Rattle.cdc_reader.specs.LogFront.{IsReadUpTo, IsTakenTo, IsReadAs, AreFirstSound}
use Rattle.cdc_reader.specs.Filling.{IsLogSized}
use Rattle.cdc_reader.specs.Standing.{ReaderState, IsFeeding, AllGiven, IsOpenAt, ReadingStands, IsReading, IsOfLog, feed_by, GivesNow, Settles, RefusesEntry, end_of_refusal, IsEntryFound, AdvancesTo, reading_ended, Advances}
use Rattle.cdc_reader.proofs.Sound.{one_sound_more, reads_all_sound, reads_to_unsound, front_is_sound}
use Rattle.cdc_reader.proofs.Reading.{taken_in_front}

-- ---- the sorter

pub stopped_holds : (old new : Sorting) (fault : SortFault) (reading : SortReading) (history : List LogEntry) (gave : List CommittedBranch)
    → new ≡ sorter_stopped fault old → HoldsReading old reading history gave → HoldsReading new reading history gave
stopped_holds old new fault reading history gave is holds =
    subst (λ (s : Sorting). HoldsReading s reading history gave) (sym is)
    record { last = holds.last; node = holds.node; first = holds.first; here = holds.here; ordered = holds.ordered; branches = holds.branches; settled = holds.settled; points = holds.points }

turned : (taken : List LogEntry) (entry : LogEntry) → reverse (taken ++ entry ∷ []) ≡ entry ∷ reverse taken
turned taken entry = reverse-append taken (entry ∷ [])

pub feeding_more : FeedReadsOn → (old new : ReaderState) (reading : SortReading) (taken : List LogEntry) (feed : NodeFeed) (entry : LogEntry)
    → IsFeeding old reading taken feed → HoldsReading new.sorter reading (entry ∷ reverse taken) feed.branches
    → entry_fault entry.kind (left_by (start_at reading.from) (reverse taken)) ≡ None → new.told ≡ old.told → new.entries ≡ old.entries + 1
    → IsFeeding new reading (taken ++ entry ∷ []) feed
feeding_more law old new reading taken feed entry f holds sound told entries = record {
  sorted = subst (λ (h : List LogEntry). HoldsReading new.sorter reading h feed.branches) (sym (turned taken entry)) holds;
  told = told ∙ f.told;
  sound = one_sound_more (start_at reading.from) taken entry f.sound sound;
  feeds =
      subst (λ (h : List LogEntry). FeedsBehind reading.last (start_at reading.from) reading.node h feed) (sym (turned taken entry))
      ((law reading.last (start_at reading.from) reading.node (reverse taken) entry sound).feeds feed f.feeds);
  counted =
      let size : length (taken ++ entry ∷ []) ≡ length taken + length (entry ∷ []) = length-append taken (entry ∷ []) in
      let before : old.entries ≡ reading.from.entry + length taken = f.counted in
      let now : new.entries ≡ old.entries + 1 = entries in omega arith;
}

pub feeding_still : (old new : ReaderState) (reading : SortReading) (taken : List LogEntry) (feed : NodeFeed)
    → IsFeeding old reading taken feed → HoldsReading new.sorter reading (reverse taken) feed.branches → new.told ≡ old.told → new.entries ≡ old.entries
    → IsFeeding new reading taken feed
feeding_still old new reading taken feed f holds told entries = record {
  sorted = holds;
  told = told ∙ f.told;
  sound = f.sound;
  feeds = f.feeds;
  counted = entries ∙ f.counted;
}

pub gives_branch : GaveIsAFront → FeedGives → (old new : ReaderState) (reading : SortReading) (taken : List LogEntry) (feed : NodeFeed) (branch : CommittedBranch)
    → IsFeeding old reading taken feed → HoldsReading new.sorter reading (reverse taken) (feed.branches ++ branch ∷ []) → new.told ≡ old.told → new.entries ≡ old.entries
    → Settles new reading taken feed (Branch branch)
gives_branch front law old new reading taken feed branch f holds told entries =
    let start = start_at reading.from in
    let gives = law (low_behind start (reverse taken)) (committed_branches reading.last start reading.node (reverse taken)) feed branch f.feeds
    (front new.sorter reading (reverse taken) (feed.branches ++ branch ∷ []) holds) in
    record {
      feeding = record { sorted = holds; told = told ∙ f.told; sound = f.sound; feeds = gives.feeds; counted = entries ∙ f.counted };
      grows = gives.grows;
      now = tt;
    }

-- why an entry isn't taken, by the sorter's answer
pub feeding_refused : (old new : ReaderState) (reading : SortReading) (taken : List LogEntry) (feed : NodeFeed) (entry : LogEntry) (error : SortError) (result : Result (Unit {0}) SortError)
    → result ≡ Err error → (result ≡ Err Wanting → new.sorter ≡ old.sorter)
    → ((fault : SortFault) → result ≡ Err (Refuses fault) → new.sorter ≡ sorter_stopped fault old.sorter)
    → ((fault : SortFault) → result ≡ Err (Refuses fault) → entry_fault entry.kind (left_by (start_at reading.from) (reverse taken)) ≡ Some fault)
    → IsFeeding old reading taken feed → new.told ≡ old.told → new.entries ≡ old.entries → (end : NodeEnd) → end ≡ end_of_refusal entry.at error
    → IsFeeding new reading taken feed × RefusesEntry reading taken entry end
feeding_refused old new reading taken feed entry (Refuses fault) result is memory stops refuses f told entries end ends = (
  feeding_still old new reading taken feed f
      (stopped_holds old.sorter new.sorter fault reading (reverse taken) feed.branches (stops fault is) f.sorted) told entries,
  subst (RefusesEntry reading taken entry) (sym ends) (refl, refuses fault is),
)
feeding_refused old new reading taken feed entry Wanting result is memory stops refuses f told entries end ends = (
  feeding_still old new reading taken feed f
      (subst (λ (s : Sorting). HoldsReading s reading (reverse taken) feed.branches) (sym (memory is)) f.sorted) told entries,
  subst (RefusesEntry reading taken entry) (sym ends) tt,
)

-- ---- the log

-- what was taken are the log's first sound entries
pub first_sound : (point : RestartPoint) (files : List (List ℕ)) (log : LogReader) (taken : List LogEntry) → AllSound (start_at point) taken
    → IsReadUpTo point files log.follower log.place taken → AreFirstSound point files taken
first_sound point files log taken sound read entries ended are =
    let found = taken_in_front point files log.follower log.place taken read entries ended are in
    front_is_sound (start_at point) taken entries found.0 sound found.1

-- where a fault of the bytes or the grammar ends the log
pub stands_faulty : (point : RestartPoint) (files : List (List ℕ)) (taken : List LogEntry) (wrong : Option (Place × NodeFault)) → AllSound (start_at point) taken
    → ((entries : List LogEntry) (ended : Option (Place × NodeFault)) → AreEntriesReadFrom point.place point.checksum files entries ended
    → (entries ≡ taken) × (ended ≡ wrong)) → IsReadAs point files taken wrong
stands_faulty point files taken wrong sound ends entries ended are =
    let found = ends entries ended are in
    reads_all_sound (start_at point) taken entries wrong ended sound found.0 found.1

-- where an entry is refused
pub stands_refused : (reading : SortReading) (files : List (List ℕ)) (log : LogReader) (taken : List LogEntry) (entry : LogEntry) (end : NodeEnd)
    → AllSound (start_at reading.from) taken → IsReadUpTo reading.from files log.follower log.place (taken ++ entry ∷ []) → RefusesEntry reading taken entry end
    → ReadingStands end reading.from files log taken
stands_refused reading files log taken entry Open sound read refuses = absurd refuses
stands_refused reading files log taken entry Whole sound read refuses = absurd refuses
stands_refused reading files log taken entry ReadFailed sound read refuses = absurd refuses
stands_refused reading files log taken entry NoMemory sound read refuses = λ entries ended are.
    let found = taken_in_front reading.from files log.follower log.place (taken ++ entry ∷ []) read entries ended are in
    front_is_sound (start_at reading.from) taken entries (entry ∷ found.0) sound (found.1 ∙ append_assoc taken (entry ∷ []) found.0)
stands_refused reading files log taken entry (Faulty place (File fault)) sound read refuses = absurd refuses
stands_refused reading files log taken entry (Faulty place (Group fault)) sound read refuses = absurd refuses
stands_refused reading files log taken entry (Faulty place (Sort fault)) sound read refuses =
    subst (λ (p : Place). IsReadAs reading.from files taken (Some (p, Sort fault))) (sym refuses.0)
    (λ entries ended are.
    let found = taken_in_front reading.from files log.follower log.place (taken ++ entry ∷ []) read entries ended are in
    reads_to_unsound (start_at reading.from) taken entry found.0 entries fault ended sound refuses.1 found.1)

never_open : (reading : SortReading) (taken : List LogEntry) (entry : LogEntry) (end : NodeEnd) → RefusesEntry reading taken entry end → end ≡ Open → ⊥
never_open reading taken entry Open refuses e = refuses
never_open reading taken entry Whole refuses e = cc
never_open reading taken entry ReadFailed refuses e = cc
never_open reading taken entry NoMemory refuses e = cc
never_open reading taken entry (Faulty place fault) refuses e = cc

-- ---- an entry that was found

same_end : (e f : NodeEnd) (reading : SortReading) (files : List (List ℕ)) (log : LogReader) (taken : List LogEntry) → e ≡ f
    → ReadingStands f reading.from files log taken → ReadingStands e reading.from files log taken
same_end e f reading files log taken is stands = subst (λ (n : NodeEnd). ReadingStands n reading.from files log taken) (sym is) stands

-- nothing more was taken
abbrev pub nothing_more : (tells : Bool) (files : List (List ℕ)) (reader : ReaderState) (reading : SortReading) (taken : List LogEntry) (feed : NodeFeed)
    → IsReading tells files reader reading taken feed → AllGiven reading taken feed → AdvancesTo tells files reader reading taken feed
nothing_more tells files reader reading taken feed reads given = record {
  more = [];
  reads = subst (λ (list : List LogEntry). IsReading tells files reader reading list feed) (sym (append-nil taken)) reads;
  given = subst (λ (list : List LogEntry). AllGiven reading list feed) (sym (append-nil taken)) given;
}

pub found_refused : (tells : Bool) (files : List (List ℕ)) (old new : ReaderState) (reading : SortReading) (taken : List LogEntry) (feed : NodeFeed) (entry : LogEntry) (end : NodeEnd)
    → IsEntryFound tells files old reading taken feed entry → new.log ≡ old.log → IsFeeding new reading taken feed → RefusesEntry reading taken entry end
    → Advances tells files new reading taken feed (Ends end)
found_refused tells files old new reading taken feed entry end found log feeding refuses = (
  nothing_more tells files (reading_ended new end) reading taken feed
      record {
        feeding = record { sorted = feeding.sorted; told = feeding.told; sound = feeding.sound; feeds = feeding.feeds; counted = feeding.counted };
        going = λ e. absurd (never_open reading taken entry end refuses e);
        stands = λ t.
            subst (λ (l : LogReader). ReadingStands end reading.from files l taken) (sym log)
            (stands_refused reading files old.log taken entry end found.feeding.sound (found.read t).read refuses);
      } found.given,
  never_open reading taken entry end refuses,
)

reads_with : (tells : Bool) (files : List (List ℕ)) (old new : ReaderState) (reading : SortReading) (taken : List LogEntry) (feed : NodeFeed) (entry : LogEntry) (given : NodeFeed)
    → IsEntryFound tells files old reading taken feed entry → new.log ≡ old.log → new.end ≡ old.end → new.sorter.stopped ≡ None
    → IsFeeding new reading (taken ++ entry ∷ []) given → IsReading tells files new reading (taken ++ entry ∷ []) given
reads_with tells files old new reading taken feed entry given found log end going feeding = record {
  feeding = feeding;
  going = λ e. going;
  stands = λ t.
      same_end new.end Open reading files new.log (taken ++ entry ∷ []) (end ∙ found.goes_on)
      (subst (λ (l : LogReader). IsOpenAt reading.from files l (taken ++ entry ∷ [])) (sym log) (found.read t));
}

pub found_taken : (tells : Bool) (files : List (List ℕ)) (old new : ReaderState) (reading : SortReading) (taken : List LogEntry) (feed : NodeFeed) (entry : LogEntry)
    → IsEntryFound tells files old reading taken feed entry → new.log ≡ old.log → new.end ≡ old.end → new.sorter.stopped ≡ None
    → IsFeeding new reading (taken ++ entry ∷ []) feed → AllGiven reading (taken ++ entry ∷ []) feed → AdvancesTo tells files new reading taken feed
found_taken tells files old new reading taken feed entry found log end going feeding given = record {
  more = entry ∷ [];
  reads = reads_with tells files old new reading taken feed entry feed found log end going feeding;
  given = given;
}

pub found_settles : (tells : Bool) (files : List (List ℕ)) (old new : ReaderState) (reading : SortReading) (taken : List LogEntry) (feed : NodeFeed) (entry : LogEntry) (step : Step)
    → IsEntryFound tells files old reading taken feed entry → new.log ≡ old.log → new.end ≡ old.end → new.sorter.stopped ≡ None
    → Settles new reading (taken ++ entry ∷ []) feed step → Advances tells files new reading taken feed (Gives step)
found_settles tells files old new reading taken feed entry step found log end going settles =
    (entry ∷ [], reads_with tells files old new reading taken feed entry (feed_by step feed) found log end going settles.feeding, settles.grows, settles.now)

-- ---- one event behind another

abbrev pub advances_on : (tells : Bool) (files : List (List ℕ)) (mid new : ReaderState) (reading : SortReading) (taken : List LogEntry) (feed : NodeFeed)
    (first : AdvancesTo tells files mid reading taken feed) → AdvancesTo tells files new reading (taken ++ first.more) feed → AdvancesTo tells files new reading taken feed
advances_on tells files mid new reading taken feed first second = record {
  more = first.more ++ second.more;
  reads = subst (λ (list : List LogEntry). IsReading tells files new reading list feed) (append_assoc taken first.more second.more) second.reads;
  given = subst (λ (list : List LogEntry). AllGiven reading list feed) (append_assoc taken first.more second.more) second.given;
}

pub advances_to : (tells : Bool) (files : List (List ℕ)) (mid new : ReaderState) (reading : SortReading) (taken : List LogEntry) (feed : NodeFeed) (advance : Advance)
    (first : AdvancesTo tells files mid reading taken feed) → Advances tells files new reading (taken ++ first.more) feed advance
    → Advances tells files new reading taken feed advance
advances_to tells files mid new reading taken feed (Gives step) first (more, reads, grows, now) = (
  first.more ++ more,
  subst (λ (list : List LogEntry). IsReading tells files new reading list (feed_by step feed)) (append_assoc taken first.more more) reads,
  grows,
  subst (λ (list : List LogEntry). GivesNow reading list feed step) (append_assoc taken first.more more) now,
)
advances_to tells files mid new reading taken feed NeedsBytes first (to, all) = (
  advances_on tells files mid new reading taken feed first to,
  λ t. subst (λ (list : List LogEntry). IsTakenTo reading.from files new.log.follower new.log.place list) (append_assoc taken first.more to.more) (all t),
)
advances_to tells files mid new reading taken feed (Ends end) first (to, not) =
    (advances_on tells files mid (reading_ended new end) reading taken feed first to, not)

-- ---- the next event

pub sized_still : (files : List (List ℕ)) (old new : LogReader) → new.place ≡ old.place → new.opened ≡ old.opened → new.size ≡ old.size → IsLogSized files old → IsLogSized files new
sized_still files old new place opened size sized is =
    size ∙ sized (sym opened ∙ is) ∙ ap (λ (p : Place). length (file_of files p.file)) (sym place)

-- the same reader, at another point of the log
pub reads_again : (tells : Bool) (files : List (List ℕ)) (old new : ReaderState) (reading : SortReading) (taken : List LogEntry) (feed : NodeFeed)
    → IsReading tells files old reading taken feed → old.end ≡ Open → new.sorter ≡ old.sorter → new.told ≡ old.told → new.entries ≡ old.entries → new.end ≡ old.end
    → (IsTrue tells → IsOpenAt reading.from files new.log taken) → IsReading tells files new reading taken feed
reads_again tells files old new reading taken feed reads goes_on sorter told entries end stands = record {
  feeding =
      feeding_still old new reading taken feed reads.feeding
      (subst (λ (s : Sorting). HoldsReading s reading (reverse taken) feed.branches) (sym sorter) reads.feeding.sorted) told entries;
  going = λ e. ap (λ (s : Sorting). s.stopped) sorter ∙ reads.going goes_on;
  stands = λ t. same_end new.end Open reading files new.log taken (end ∙ goes_on) (stands t);
}

-- the log before the event
pub open_at : (tells : Bool) (files : List (List ℕ)) (reader : ReaderState) (reading : SortReading) (taken : List LogEntry) (feed : NodeFeed)
    → IsReading tells files reader reading taken feed → reader.end ≡ Open → IsTrue tells → IsOpenAt reading.from files reader.log taken
open_at tells files reader reading taken feed reads goes_on t =
    subst (λ (n : NodeEnd). ReadingStands n reading.from files reader.log taken) goes_on (reads.stands t)

-- an event that ends nothing
abbrev pub event_passed : (tells : Bool) (files : List (List ℕ)) (old new : ReaderState) (reading : SortReading) (taken : List LogEntry) (feed : NodeFeed)
    → IsReading tells files old reading taken feed → old.end ≡ Open → AllGiven reading taken feed → new.sorter ≡ old.sorter → new.told ≡ old.told
    → new.entries ≡ old.entries → new.end ≡ old.end → new.log.place ≡ old.log.place → new.log.opened ≡ old.log.opened → new.log.size ≡ old.log.size
    → (IsReadUpTo reading.from files old.log.follower old.log.place taken → IsReadUpTo reading.from files new.log.follower new.log.place taken)
    → AdvancesTo tells files new reading taken feed
event_passed tells files old new reading taken feed reads goes_on given sorter told entries end place opened size finds =
    nothing_more tells files new reading taken feed
    (reads_again tells files old new reading taken feed reads goes_on sorter told entries end
    (λ t.
    let here = open_at tells files old reading taken feed reads goes_on t in
    record { read = finds here.read; sized = sized_still files old.log new.log place opened size here.sized })) given

-- all events so far are taken
pub events_taken : (tells : Bool) (files : List (List ℕ)) (old new : ReaderState) (reading : SortReading) (taken : List LogEntry) (feed : NodeFeed)
    → IsReading tells files old reading taken feed → old.end ≡ Open → AllGiven reading taken feed → new.sorter ≡ old.sorter → new.told ≡ old.told
    → new.entries ≡ old.entries → new.end ≡ old.end → new.log.place ≡ old.log.place → new.log.opened ≡ old.log.opened → new.log.size ≡ old.log.size
    → (IsReadUpTo reading.from files old.log.follower old.log.place taken → IsTakenTo reading.from files new.log.follower new.log.place taken)
    → Advances tells files new reading taken feed NeedsBytes
events_taken tells files old new reading taken feed reads goes_on given sorter told entries end place opened size finds = (
  event_passed tells files old new reading taken feed reads goes_on given sorter told entries end place opened size (λ read. (finds read).read),
  λ t.
      subst (λ (list : List LogEntry). IsTakenTo reading.from files new.log.follower new.log.place list) (sym (append-nil taken))
      (finds (open_at tells files old reading taken feed reads goes_on t).read),
)

-- an event by which the reading ends
pub event_ends : (tells : Bool) (files : List (List ℕ)) (old new : ReaderState) (reading : SortReading) (taken : List LogEntry) (feed : NodeFeed) (end : NodeEnd)
    → IsReading tells files old reading taken feed → old.end ≡ Open → AllGiven reading taken feed → new.sorter ≡ old.sorter → new.told ≡ old.told
    → new.entries ≡ old.entries → (end ≡ Open → ⊥)
    → (IsReadUpTo reading.from files old.log.follower old.log.place taken → ReadingStands end reading.from files new.log taken)
    → Advances tells files new reading taken feed (Ends end)
event_ends tells files old new reading taken feed end reads goes_on given sorter told entries over stands =
    let still = feeding_still old new reading taken feed reads.feeding
    (subst (λ (s : Sorting). HoldsReading s reading (reverse taken) feed.branches) (sym sorter) reads.feeding.sorted) told entries in (
      nothing_more tells files (reading_ended new end) reading taken feed
          record {
            feeding = record { sorted = still.sorted; told = still.told; sound = still.sound; feeds = still.feeds; counted = still.counted };
            going = λ e. absurd (over e);
            stands = λ t. stands (open_at tells files old reading taken feed reads goes_on t).read;
          } given,
      over,
    )

-- an entry that was found
pub event_found : (tells : Bool) (files : List (List ℕ)) (old new : ReaderState) (reading : SortReading) (taken : List LogEntry) (feed : NodeFeed) (entry : LogEntry)
    → IsReading tells files old reading taken feed → old.end ≡ Open → AllGiven reading taken feed → new.sorter ≡ old.sorter → new.told ≡ old.told
    → new.entries ≡ old.entries → new.end ≡ old.end → new.log.place ≡ old.log.place → new.log.opened ≡ old.log.opened → new.log.size ≡ old.log.size
    → (IsReadUpTo reading.from files old.log.follower old.log.place taken → IsReadUpTo reading.from files new.log.follower new.log.place (taken ++ entry ∷ []))
    → IsEntryFound tells files new reading taken feed entry
event_found tells files old new reading taken feed entry reads goes_on given sorter told entries end place opened size finds = record {
  feeding =
      feeding_still old new reading taken feed reads.feeding
      (subst (λ (s : Sorting). HoldsReading s reading (reverse taken) feed.branches) (sym sorter) reads.feeding.sorted) told entries;
  given = given;
  going = ap (λ (s : Sorting). s.stopped) sorter ∙ reads.going goes_on;
  goes_on = end ∙ goes_on;
  read = λ t.
      let here = open_at tells files old reading taken feed reads goes_on t in
      record { read = finds here.read; sized = sized_still files old.log new.log place opened size here.sized };
}

-- an end by the sorter's answer is the log's
pub refusal_of_log : (at : Place) (error : SortError) (end : NodeEnd) → end ≡ end_of_refusal at error → IsOfLog end
refusal_of_log at (Refuses fault) end is e = let h : Faulty at (Sort fault) ≡ ReadFailed = sym is ∙ e in cc
refusal_of_log at Wanting end is e = let h : NoMemory ≡ ReadFailed = sym is ∙ e in cc
