-- What a read of further bytes comes to for a reader.
use Rattle.std.proofs.Common.{◌≡◌, ◌≤◌, ◌<◌, ℕ, zero, suc, ◌+◌, Bool, true, false, List, [], ◌∷◌, ◌++◌, length, None, Result, Ok, Err, IfOk, OnOk, OnErr, ap, sym, subst, refl, ◌∙◌, append_assoc, append-nil, arith}
use Rattle.std.specs.Prelude.{IsTrue}
use Rattle.cdc_base.specs.declared.place.Place.{Place}
use Rattle.cdc_outside.specs.Source.{file_of}
use Rattle.cdc_event.specs.File.{FilesHaveOneReading}
use Rattle.cdc_model.specs.Records.{LogEntry}
use Rattle.cdc_model.specs.Soundness.{AllSound}
use Rattle.cdc_model.specs.Feed.{NodeFeed, FeedGrows}
use Rattle.cdc_model.specs.Restart.{RestartPoint, start_at}
use Rattle.cdc_sorter.specs.Sorting.{SortReading}
use Rattle.cdc_reader.specs.declared.follower.Follower.{Follower}
use Rattle.cdc_reader.specs.declared.follower.Found.{Found}
use Rattle.cdc_reader.specs.declared.follower.Found.TheVariants.{Nothing, Entry, Need, Fault}
use Rattle.cdc_reader.specs.declared.log.LogReader.{LogReader}
use Rattle.cdc_reader.specs.declared.log.Stopped.{Stopped}
use Rattle.cdc_reader.specs.declared.log.Stopped.TheVariants.{Failed as SourceFailed, Memory as WantsMemory}
use Rattle.cdc_reader.specs.declared.step.Advance.TheVariants.{Gives}
use Rattle.cdc_reader.specs.declared.step.Step.{Step}
use Rattle.cdc_reader.specs.declared.step.NodeEnd.{NodeEnd}
use Rattle.cdc_reader.specs.declared.step.NodeEnd.TheVariants.{Open, Whole, Read as ReadFailed, Memory as NoMemory, Fault as Faulty}
use Rattle.cdc_reader.specs.declared.step.Step.TheVariants.{Branch, Bound, Read, End}
use Rattle.cdc_reader.specs.Fed.{Follows, FindsNext}
use Rattle.cdc_reader.specs.LogFront.{log_up_to, IsReadUpTo, IsTakenTo, IsReadAs}
use Rattle.cdc_reader.specs.Filling.{IsLogSized, AreAllEntries, StaysFilled, FindsInLog, FillsLog}
use Rattle.cdc_reader.specs.Standing.{ReaderState, IsFeeding, AllGiven, ReadingStands, IsReading, end_of_stop, is_going, IsGiving, feed_by, GivesNow, Settles, AdvancesTo, Advances, Comes, StepsTo}
use Rattle.cdc_reader.proofs.Reading.{read_with, read_same, taken_to_fault, taken_up_to, taken_whole}
use Rattle.cdc_reader.proofs.Sound.{reads_all_sound}
use Rattle.cdc_reader.proofs.Steps.{first_sound}

-- ---- the next event

-- what is found next, whatever was followed
abbrev pub FindsAny : Follower → Follower → Found → Type 0
FindsAny old new found = (file start checksum : ℕ) (fed : List ℕ) (own : List LogEntry) → Follows old file start checksum fed own
    → FindsNext file start checksum fed own new found

pub finds_in_log : (old new : Follower) (place : Place) (found : Found) → FindsAny old new found → (point : RestartPoint) (files : List (List ℕ)) (taken : List LogEntry)
    → IsReadUpTo point files old place taken → FindsInLog point files new place taken found
finds_in_log old new place Nothing finds point files taken read =
    read_same point files old new place taken read (finds place.file read.start read.checksum _ read.own read.follows)
finds_in_log old new place (Entry entry) finds point files taken read =
    read_with point files old new place taken (entry ∷ []) read (finds place.file read.start read.checksum _ read.own read.follows)
finds_in_log old new place Need finds point files taken read =
    let found = finds place.file read.start read.checksum _ read.own read.follows in
    record { read = read_same point files old new place taken read found.0; all = found.1 }
finds_in_log old new place (Fault at fault) finds point files taken read =
    taken_to_fault point files old place taken (at, fault) read (finds place.file read.start read.checksum _ read.own read.follows)

-- ---- bytes

pub stays_filled : FilesHaveOneReading → (point : RestartPoint) (files : List (List ℕ)) (log : LogReader) (taken : List LogEntry)
    → IsTakenTo point files log.follower log.place taken → StaysFilled point files log taken
stays_filled one point files log taken all = record {
  all = all;
  before = λ there. taken_up_to one point files log.follower log.place taken there all;
}

pub all_sound_read : (point : RestartPoint) (files : List (List ℕ)) (taken : List LogEntry) → AllSound (start_at point) taken → AreAllEntries point files taken
    → IsReadAs point files taken None
all_sound_read point files taken sound all entries ended are =
    let found = all entries ended are in reads_all_sound (start_at point) taken entries None ended sound found.0 found.1

feed_stays : (feed : NodeFeed) → FeedGrows feed feed
feed_stays feed = record { more = []; goes_on = sym (append-nil feed.branches); above = tt; bounded = omega arith }

-- the same entries, and the same feed
still : (tells : Bool) (files : List (List ℕ)) (reader : ReaderState) (reading : SortReading) (taken : List LogEntry) (feed : NodeFeed)
    → IsReading tells files reader reading taken feed → IsReading tells files reader reading (taken ++ []) feed
still tells files reader reading taken feed reads = subst (λ (list : List LogEntry). IsReading tells files reader reading list feed) (sym (append-nil taken)) reads

-- a reading that is over
pub ends_so : (tells : Bool) (files : List (List ℕ)) (new : ReaderState) (reading : SortReading) (taken : List LogEntry) (feed : NodeFeed)
    → IsFeeding new reading taken feed → AllGiven reading taken feed → (new.end ≡ Open → ⊥) → (IsTrue tells → ReadingStands new.end reading.from files new.log taken)
    → StepsTo tells files new reading taken feed End
ends_so tells files new reading taken feed feeding given over stands = record {
  more = [];
  reads = still tells files new reading taken feed record { feeding = feeding; going = λ e. absurd (over e); stands = stands };
  grows = feed_stays feed;
  comes = (over, λ not. subst (λ (list : List LogEntry). AllGiven reading list feed) (sym (append-nil taken)) given);
}

-- bytes were read
pub reads_bytes : (tells : Bool) (files : List (List ℕ)) (new : ReaderState) (reading : SortReading) (taken : List LogEntry) (feed : NodeFeed) (count : ℕ)
    → IsFeeding new reading taken feed → AllGiven reading taken feed → new.end ≡ Open → new.sorter.stopped ≡ None
    → (IsTrue tells → FillsLog reading.from files new.log taken (Ok count)) → (count ≡ 0 → ⊥) → StepsTo tells files new reading taken feed (Read count)
reads_bytes tells files new reading taken feed zero feeding given goes_on going fills not = absurd (not refl)
reads_bytes tells files new reading taken feed (suc count) feeding given goes_on going fills not = record {
  more = [];
  reads =
      still tells files new reading taken feed
      record {
        feeding = feeding;
        going = λ e. going;
        stands = λ t.
            subst (λ (n : NodeEnd). ReadingStands n reading.from files new.log taken) (sym goes_on) record { read = (fills t).read; sized = (fills t).sized };
      };
  grows = feed_stays feed;
  comes =
      subst (λ (list : List LogEntry). Comes tells files new reading list feed (Read (suc count))) (sym (append-nil taken))
      (omega arith, given, λ t. ((fills t).asked, (fills t).behind, all_sound_read reading.from (log_up_to (fills t).asked files) taken feeding.sound (fills t).before));
}

-- the source failed, or there was no memory
pub cut_off : (point : RestartPoint) (files : List (List ℕ)) (log : LogReader) (taken : List LogEntry) → AllSound (start_at point) taken
    → StaysFilled point files log taken → ReadingStands ReadFailed point files log taken
cut_off point files log taken sound stays = record {
  read = λ there. all_sound_read point (log_up_to log.place files) taken sound (stays.before there);
  first = first_sound point files log taken sound stays.all.read;
}

-- ---- one read

pub fills_more : FilesHaveOneReading → (point : RestartPoint) (files : List (List ℕ)) (taken : List LogEntry) (old new : LogReader) (count : ℕ)
    → IsTakenTo point files old.follower old.place taken → old.place.file ≤ length files → new.place ≡ record { file = old.place.file; at = old.place.at + count }
    → (IsReadUpTo point files old.follower old.place taken → IsReadUpTo point files new.follower new.place taken) → IsLogSized files new → 0 < count
    → FillsLog point files new taken (Ok count)
fills_more one point files taken old new zero all there place reads sized some = absurd (omega (arith, some))
fills_more one point files taken old new (suc count) all there place reads sized some = record {
  asked = old.place;
  behind = place;
  before = taken_up_to one point files old.follower old.place taken there all;
  read = reads all.read;
  sized = sized;
}

pub fills_not : FilesHaveOneReading → (point : RestartPoint) (files : List (List ℕ)) (taken : List LogEntry) (old new : LogReader) (stopped : Stopped)
    → IsTakenTo point files old.follower old.place taken → (new.follower ≡ old.follower) × (new.place ≡ old.place) → FillsLog point files new taken (Err stopped)
fills_not one point files taken old new stopped all same =
    stays_filled one point files new taken
    (subst (λ (f : Follower). IsTakenTo point files f new.place taken) (sym same.0)
    (subst (λ (p : Place). IsTakenTo point files old.follower p taken) (sym same.1) all))

pub fills_last : FilesHaveOneReading → (point : RestartPoint) (files : List (List ℕ)) (taken : List LogEntry) (old new : LogReader) (result : Result ℕ Stopped)
    → IsTakenTo point files old.follower old.place taken → old.place.file ≡ length files
    → IfOk result (λ read. new.place ≡ record { file = old.place.file; at = old.place.at + read })
    → IfOk result (λ read. read ≡ 0 → length (file_of files old.place.file) ≤ old.place.at)
    → OnOk result (IsReadUpTo point files old.follower old.place taken → IsReadUpTo point files new.follower new.place taken) → IsLogSized files new
    → OnErr result ((new.follower ≡ old.follower) × (new.place ≡ old.place)) → FillsLog point files new taken result
fills_last one point files taken old new (Ok zero) all last place ends reads sized err = taken_whole one point files old.follower old.place taken last (ends refl) all
fills_last one point files taken old new (Ok (suc count)) all last place ends reads sized err =
    fills_more one point files taken old new (suc count) all (omega (arith, last)) place reads sized (omega arith)
fills_last one point files taken old new (Err stopped) all last place ends reads sized err = fills_not one point files taken old new stopped all err

-- a file whose end is reached
pub passes_file : (point : RestartPoint) (files : List (List ℕ)) (taken : List LogEntry) (old mid new : LogReader) (count : ℕ) → count ≡ 0
    → IsTakenTo point files old.follower old.place taken → (count ≡ 0 → mid.follower ≡ old.follower)
    → mid.place ≡ record { file = old.place.file; at = old.place.at + count } → old.place.file ≤ length files
    → length (file_of files old.place.file) ≤ old.place.at
    → (mid.place.file ≤ length files → length (file_of files mid.place.file) ≤ mid.place.at → IsTakenTo point files mid.follower mid.place taken
    → IsTakenTo point files new.follower new.place taken)
    → new.opened ≡ false → IsTakenTo point files new.follower new.place taken × IsLogSized files new
passes_file point files taken old mid new count none all follower place there ends on opened =
    let zero_more : old.place.at + count ≡ old.place.at = omega (arith, none) in
    let same : mid.place ≡ old.place = place ∙ ap (λ (n : ℕ). record { file = old.place.file; at = n }) zero_more in (
      on (subst (λ (p : Place). p.file ≤ length files) (sym same) there) (subst (λ (p : Place). length (file_of files p.file) ≤ p.at) (sym same) ends)
          (subst (λ (f : Follower). IsTakenTo point files f mid.place taken) (sym (follower none))
          (subst (λ (p : Place). IsTakenTo point files old.follower p taken) (sym same) all)),
      λ is. absurd (let h : false ≡ true = sym opened ∙ is in cc),
    )

-- ---- a reader where no bytes are had

never_open : (stopped : Stopped) (end : NodeEnd) → end ≡ end_of_stop stopped → end ≡ Open → ⊥
never_open SourceFailed end is e = let h : ReadFailed ≡ Open = sym is ∙ e in cc
never_open WantsMemory end is e = let h : NoMemory ≡ Open = sym is ∙ e in cc

stop_stands : (stopped : Stopped) (point : RestartPoint) (files : List (List ℕ)) (log : LogReader) (taken : List LogEntry) → AllSound (start_at point) taken
    → StaysFilled point files log taken → ReadingStands (end_of_stop stopped) point files log taken
stop_stands SourceFailed point files log taken sound stays = cut_off point files log taken sound stays
stop_stands WantsMemory point files log taken sound stays = first_sound point files log taken sound stays.all.read

pub stops_so : (tells : Bool) (files : List (List ℕ)) (new : ReaderState) (reading : SortReading) (taken : List LogEntry) (feed : NodeFeed) (stopped : Stopped)
    → IsFeeding new reading taken feed → AllGiven reading taken feed → new.end ≡ end_of_stop stopped
    → (IsTrue tells → StaysFilled reading.from files new.log taken) → StepsTo tells files new reading taken feed End
stops_so tells files new reading taken feed stopped feeding given is stays =
    ends_so tells files new reading taken feed feeding given (never_open stopped new.end is)
    (λ t. subst (λ (n : NodeEnd). ReadingStands n reading.from files new.log taken) (sym is) (stop_stands stopped reading.from files new.log taken feeding.sound (stays t)))

pub whole_so : (tells : Bool) (files : List (List ℕ)) (new : ReaderState) (reading : SortReading) (taken : List LogEntry) (feed : NodeFeed) (count : ℕ)
    → IsFeeding new reading taken feed → AllGiven reading taken feed → new.end ≡ Whole → count ≡ 0
    → (IsTrue tells → FillsLog reading.from files new.log taken (Ok count)) → StepsTo tells files new reading taken feed End
whole_so tells files new reading taken feed count feeding given is none fills =
    ends_so tells files new reading taken feed feeding given (λ e. let h : Whole ≡ Open = sym is ∙ e in cc)
    (λ t.
    subst (λ (n : NodeEnd). ReadingStands n reading.from files new.log taken) (sym is)
    (all_sound_read reading.from files taken feeding.sound
    (subst (λ (n : ℕ). FillsLog reading.from files new.log taken (Ok n)) none (fills t))))

-- ---- a reader's next step

same_log : (tells : Bool) (files : List (List ℕ)) (old new : ReaderState) (reading : SortReading) (taken : List LogEntry) (feed given : NodeFeed)
    → IsReading tells files old reading taken feed → new.log ≡ old.log → new.end ≡ old.end → new.sorter.stopped ≡ old.sorter.stopped
    → IsFeeding new reading taken given → IsReading tells files new reading taken given
same_log tells files old new reading taken feed given reads log end stopped feeding = record {
  feeding = feeding;
  going = λ e. stopped ∙ reads.going (sym end ∙ e);
  stands = λ t.
      subst (λ (l : LogReader). ReadingStands new.end reading.from files l taken) (sym log)
      (subst (λ (n : NodeEnd). ReadingStands n reading.from files old.log taken) (sym end) (reads.stands t));
}

comes_now : (tells : Bool) (files : List (List ℕ)) (new : ReaderState) (reading : SortReading) (taken : List LogEntry) (feed : NodeFeed) (step : Step)
    → GivesNow reading taken feed step → Comes tells files new reading taken feed step
comes_now tells files new reading taken feed (Branch branch) now = tt
comes_now tells files new reading taken feed (Bound bound) now = now
comes_now tells files new reading taken feed (Read count) now = absurd now
comes_now tells files new reading taken feed End now = absurd now

pub settled_so : (tells : Bool) (files : List (List ℕ)) (old new : ReaderState) (reading : SortReading) (taken : List LogEntry) (feed : NodeFeed) (step : Step)
    → IsReading tells files old reading taken feed → new.log ≡ old.log → new.end ≡ old.end → new.sorter.stopped ≡ old.sorter.stopped
    → Settles new reading taken feed step → StepsTo tells files new reading taken feed step
settled_so tells files old new reading taken feed step reads log end stopped settles = record {
  more = [];
  reads =
      still tells files new reading taken (feed_by step feed)
      (same_log tells files old new reading taken feed (feed_by step feed) reads log end stopped settles.feeding);
  grows = settles.grows;
  comes =
      subst (λ (list : List LogEntry). Comes tells files new reading list feed step) (sym (append-nil taken))
      (comes_now tells files new reading taken feed step settles.now);
}

pub nothing_settled : (tells : Bool) (files : List (List ℕ)) (old new : ReaderState) (reading : SortReading) (taken : List LogEntry) (feed : NodeFeed)
    → IsReading tells files old reading taken feed → new.log ≡ old.log → new.end ≡ old.end → new.sorter.stopped ≡ old.sorter.stopped
    → IsFeeding new reading taken feed → IsReading tells files new reading taken feed
nothing_settled tells files old new reading taken feed reads log end stopped feeding =
    same_log tells files old new reading taken feed feed reads log end stopped feeding

pub over_so : (tells : Bool) (files : List (List ℕ)) (new : ReaderState) (reading : SortReading) (taken : List LogEntry) (feed : NodeFeed)
    → IsReading tells files new reading taken feed → AllGiven reading taken feed → (new.end ≡ Open → ⊥) → StepsTo tells files new reading taken feed End
over_so tells files new reading taken feed reads given over = ends_so tells files new reading taken feed reads.feeding given over reads.stands

pub gives_so : (tells : Bool) (files : List (List ℕ)) (new : ReaderState) (reading : SortReading) (taken : List LogEntry) (feed : NodeFeed) (step : Step)
    → Advances tells files new reading taken feed (Gives step) → StepsTo tells files new reading taken feed step
gives_so tells files new reading taken feed step (more, reads, grows, now) = record {
  more = more;
  reads = reads;
  grows = grows;
  comes = comes_now tells files new reading (taken ++ more) feed step now;
}

pub steps_behind : (tells : Bool) (files : List (List ℕ)) (new : ReaderState) (reading : SortReading) (taken more : List LogEntry) (feed : NodeFeed) (step : Step)
    → StepsTo tells files new reading (taken ++ more) feed step → StepsTo tells files new reading taken feed step
steps_behind tells files new reading taken more feed step steps = record {
  more = more ++ steps.more;
  reads = subst (λ (list : List LogEntry). IsReading tells files new reading list (feed_by step feed)) (append_assoc taken more steps.more) steps.reads;
  grows = steps.grows;
  comes = subst (λ (list : List LogEntry). Comes tells files new reading list feed step) (append_assoc taken more steps.more) steps.comes;
}

pub ended_so : (tells : Bool) (files : List (List ℕ)) (new : ReaderState) (reading : SortReading) (taken : List LogEntry) (feed : NodeFeed)
    → AdvancesTo tells files new reading taken feed → (new.end ≡ Open → ⊥) → StepsTo tells files new reading taken feed End
ended_so tells files new reading taken feed to over =
    steps_behind tells files new reading taken to.more feed End (over_so tells files new reading (taken ++ to.more) feed to.reads to.given over)

-- ---- tests

pub open_told : (end : NodeEnd) → is_going end ≡ true → end ≡ Open
open_told Open e = refl
open_told Whole e = absurd (let h : false ≡ true = e in cc)
open_told ReadFailed e = absurd (let h : false ≡ true = e in cc)
open_told NoMemory e = absurd (let h : false ≡ true = e in cc)
open_told (Faulty place fault) e = absurd (let h : false ≡ true = e in cc)

pub over_told : (end : NodeEnd) → is_going end ≡ false → end ≡ Open → ⊥
over_told end over is = let h : true ≡ false = sym (ap is_going is) ∙ over in cc

pub giving_no_read : (step : Step) (count : ℕ) → IsGiving step → step ≡ Read count → ⊥
giving_no_read step count giving is = subst IsGiving is giving
