-- What a reader keeps, and what it says of the reading that it follows.
use Rattle.std.specs.Prelude.{◌≡◌, ◌<◌, ◌≤◌, ◌+◌, ℕ, Bool, true, false, IsTrue, List, [], ◌∷◌, ◌++◌, length, reverse, Some, None}
use Rattle.cdc_base.specs.declared.place.Place.{Place}
use Rattle.cdc_model.specs.declared.fault.NodeFault.TheVariants.{Sort, File, Group}
use Rattle.cdc_model.specs.Records.{LogEntry}
use Rattle.cdc_model.specs.Start.{left_by}
use Rattle.cdc_model.specs.Soundness.{AllSound, entry_fault}
use Rattle.cdc_model.specs.Feed.{NodeFeed, FeedGrows}
use Rattle.cdc_model.specs.NodeReading.{FeedsBehind, feed_with, feed_told}
use Rattle.cdc_model.specs.Restart.{RestartPoint, start_at}
use Rattle.cdc_sorter.specs.Sorting.{Sorting, SortReading, HoldsReading, settled_behind, low_of}
use Rattle.cdc_sorter.specs.declared.sorter.SortError.{SortError}
use Rattle.cdc_sorter.specs.declared.sorter.SortError.TheVariants.{Fault as Refuses, Memory as Wanting}
use Rattle.cdc_reader.specs.declared.log.LogReader.{LogReader}
use Rattle.cdc_reader.specs.declared.log.Stopped.{Stopped}
use Rattle.cdc_reader.specs.declared.log.Stopped.TheVariants.{Failed as SourceFailed, Memory as WantsMemory}
use Rattle.cdc_reader.specs.declared.step.NodeEnd.{NodeEnd}
use Rattle.cdc_reader.specs.declared.step.NodeEnd.TheVariants.{Open, Whole, Read as ReadFailed, Memory as NoMemory, Fault as Faulty}
use Rattle.cdc_reader.specs.declared.step.Step.{Step}
use Rattle.cdc_reader.specs.declared.step.Step.TheVariants.{Branch, Bound, Read, End}
use Rattle.cdc_reader.specs.declared.step.Advance.{Advance}
use Rattle.cdc_reader.specs.declared.step.Advance.TheVariants.{Gives, NeedsBytes, Ends}
use Rattle.cdc_reader.specs.LogFront.{log_up_to, IsReadUpTo, IsTakenTo, IsReadAs, AreFirstSound}
use Rattle.cdc_reader.specs.Filling.{IsLogSized}

-- what a reader keeps: the log so far, the sorter, the number of the next entry, the bound that it told last, and how the reading ended
pub record ReaderState : Type 0 where
  pub log : LogReader
  pub sorter : Sorting
  pub entries : ℕ
  pub told : ℕ
  pub end : NodeEnd

-- of the sound entries that a reader has taken, the oldest first, it has given this feed: the sorter's branches, and the bound told last
pub record IsFeeding (reader : ReaderState) (reading : SortReading) (taken : List LogEntry) (feed : NodeFeed) : Type 0 where
  pub sorted : HoldsReading reader.sorter reading (reverse taken) feed.branches
  pub told : reader.told ≡ feed.bound
  pub sound : AllSound (start_at reading.from) taken
  pub feeds : FeedsBehind reading.last (start_at reading.from) reading.node (reverse taken) feed
  pub counted : reader.entries ≡ reading.from.entry + length taken

-- all that is settled was given, and the low-water mark told
pub record AllGiven (reading : SortReading) (taken : List LogEntry) (feed : NodeFeed) : Type 0 where
  pub branches : feed.branches ≡ settled_behind reading (reverse taken)
  pub bound : feed.bound ≡ low_of reading (reverse taken)

-- the reading is at a place of the log, where these entries were taken
pub record IsOpenAt (point : RestartPoint) (files : List (List ℕ)) (log : LogReader) (taken : List LogEntry) : Type 0 where
  pub read : IsReadUpTo point files log.follower log.place taken
  pub sized : IsLogSized files log

-- the source failed: of what was read up to this place these are the sound entries, without a fault; and of the whole log the first ones
pub record IsCutOff (point : RestartPoint) (files : List (List ℕ)) (log : LogReader) (taken : List LogEntry) : Type 0 where
  pub read : log.place.file ≤ length files → IsReadAs point (log_up_to log.place files) taken None
  pub first : AreFirstSound point files taken

-- how a reading stands, by its end: where it goes on; its log was read whole, and has no fault; the source failed; there was no memory; or
-- the log has this fault
abbrev pub ReadingStands : NodeEnd → RestartPoint → List (List ℕ) → LogReader → List LogEntry → Type 0
ReadingStands Open point files log taken = IsOpenAt point files log taken
ReadingStands Whole point files log taken = IsReadAs point files taken None
ReadingStands ReadFailed point files log taken = IsCutOff point files log taken
ReadingStands NoMemory point files log taken = AreFirstSound point files taken
ReadingStands (Faulty place fault) point files log taken = IsReadAs point files taken (Some (place, fault))

-- a reader has taken these entries of a log, the oldest first, and has given this feed; where the source tells, the log has these files
pub record IsReading (tells : Bool) (files : List (List ℕ)) (reader : ReaderState) (reading : SortReading) (taken : List LogEntry) (feed : NodeFeed) : Type 0 where
  pub feeding : IsFeeding reader reading taken feed
  pub going : reader.end ≡ Open → reader.sorter.stopped ≡ None
  pub stands : IsTrue tells → ReadingStands reader.end reading.from files reader.log taken

-- what a step adds to a feed
abbrev pub feed_by : Step → NodeFeed → NodeFeed
feed_by (Branch branch) feed = feed_with feed branch
feed_by (Bound bound) feed = feed_told feed bound
feed_by (Read count) feed = feed
feed_by End feed = feed

-- a step gives a branch or a bound
abbrev pub IsGiving : Step → Type 0
IsGiving (Branch branch) = Unit {0}
IsGiving (Bound bound) = Unit {0}
IsGiving (Read count) = ⊥
IsGiving End = ⊥

-- whether a reading goes on
abbrev pub is_going : NodeEnd → Bool
is_going Open = true
is_going Whole = false
is_going ReadFailed = false
is_going NoMemory = false
is_going (Faulty place fault) = false

-- an end that isn't the source's failure
abbrev pub IsOfLog : NodeEnd → Type 0
IsOfLog end = end ≡ ReadFailed → ⊥

-- what comes of the events at hand: something is given, bytes are wanted, or the log ends the reading
abbrev pub IsOfEvents : Advance → Type 0
IsOfEvents (Gives step) = IsGiving step
IsOfEvents NeedsBytes = Unit {0}
IsOfEvents (Ends end) = IsOfLog end

-- what comes to be given: the next settled branch; or, where all were given, the low-water mark
abbrev pub GivesNow : SortReading → List LogEntry → NodeFeed → Step → Type 0
GivesNow reading taken feed (Branch branch) = Unit {0}
GivesNow reading taken feed (Bound bound) = AllGiven reading taken (feed_told feed bound)
GivesNow reading taken feed (Read count) = ⊥
GivesNow reading taken feed End = ⊥

-- something settled is given
pub record Settles (reader : ReaderState) (reading : SortReading) (taken : List LogEntry) (feed : NodeFeed) (step : Step) : Type 0 where
  pub feeding : IsFeeding reader reading taken (feed_by step feed)
  pub grows : FeedGrows feed (feed_by step feed)
  pub now : GivesNow reading taken feed step

-- why an entry isn't taken
abbrev pub RefusesEntry : SortReading → List LogEntry → LogEntry → NodeEnd → Type 0
RefusesEntry reading taken entry Open = ⊥
RefusesEntry reading taken entry Whole = ⊥
RefusesEntry reading taken entry ReadFailed = ⊥
RefusesEntry reading taken entry NoMemory = Unit {0}
RefusesEntry reading taken entry (Faulty place (File fault)) = ⊥
RefusesEntry reading taken entry (Faulty place (Group fault)) = ⊥
RefusesEntry reading taken entry (Faulty place (Sort fault)) =
    (place ≡ entry.at) × (entry_fault entry.kind (left_by (start_at reading.from) (reverse taken)) ≡ Some fault)

-- how a reading ends where an entry at this place is refused
abbrev pub end_of_refusal : Place → SortError → NodeEnd
end_of_refusal at (Refuses fault) = Faulty at (Sort fault)
end_of_refusal at Wanting = NoMemory

-- how it ends where no bytes are had
abbrev pub end_of_stop : Stopped → NodeEnd
end_of_stop SourceFailed = ReadFailed
end_of_stop WantsMemory = NoMemory

-- an entry was found behind those that were taken
pub record IsEntryFound (tells : Bool) (files : List (List ℕ)) (reader : ReaderState) (reading : SortReading) (taken : List LogEntry) (feed : NodeFeed) (entry : LogEntry) : Type 0 where
  pub feeding : IsFeeding reader reading taken feed
  pub given : AllGiven reading taken feed
  pub going : reader.sorter.stopped ≡ None
  pub goes_on : reader.end ≡ Open
  pub read : IsTrue tells → IsOpenAt reading.from files reader.log (taken ++ entry ∷ [])

-- how the events at hand were taken: up to one by which something settled is given; all of them; or up to one that ends the reading
pub record AdvancesTo (tells : Bool) (files : List (List ℕ)) (reader : ReaderState) (reading : SortReading) (taken : List LogEntry) (feed : NodeFeed) : Type 0 where
  pub more : List LogEntry
  pub reads : IsReading tells files reader reading (taken ++ more) feed
  pub given : AllGiven reading (taken ++ more) feed

-- the reader with this end
abbrev pub reading_ended : ReaderState → NodeEnd → ReaderState
reading_ended reader end = record { log = reader.log; sorter = reader.sorter; entries = reader.entries; told = reader.told; end = end }

-- the events at hand are taken, and bytes are to be read before more is settled
abbrev pub WantsBytes : Bool → List (List ℕ) → ReaderState → SortReading → List LogEntry → NodeFeed → Type 0
WantsBytes tells files reader reading taken feed =
    (to : AdvancesTo tells files reader reading taken feed)
    × (IsTrue tells → IsTakenTo reading.from files reader.log.follower reader.log.place (taken ++ to.more))

-- what is done with the events at hand
abbrev pub Advances : Bool → List (List ℕ) → ReaderState → SortReading → List LogEntry → NodeFeed → Advance → Type 0
Advances tells files reader reading taken feed (Gives step) =
    (more : List LogEntry) × IsReading tells files reader reading (taken ++ more) (feed_by step feed) × FeedGrows feed (feed_by step feed)
    × GivesNow reading (taken ++ more) feed step
Advances tells files reader reading taken feed NeedsBytes = WantsBytes tells files reader reading taken feed
Advances tells files reader reading taken feed (Ends end) =
    AdvancesTo tells files (reading_ended reader end) reading taken feed × (end ≡ Open → ⊥)

-- what stands behind a step: of bytes that were read, that what was settled before was given, and what the log had up to there; at the
-- end, that the reading is over, and all that is settled was given, but where memory was wanting
abbrev pub Comes : Bool → List (List ℕ) → ReaderState → SortReading → List LogEntry → NodeFeed → Step → Type 0
Comes tells files reader reading taken feed (Branch branch) = Unit {0}
Comes tells files reader reading taken feed (Bound bound) = AllGiven reading taken (feed_told feed bound)
Comes tells files reader reading taken feed (Read count) =
    (0 < count) × AllGiven reading taken feed
    × (IsTrue tells → (asked : Place) × (reader.log.place ≡ record { file = asked.file; at = asked.at + count })
    × IsReadAs reading.from (log_up_to asked files) taken None)
Comes tells files reader reading taken feed End = (reader.end ≡ Open → ⊥) × ((reader.end ≡ NoMemory → ⊥) → AllGiven reading taken feed)

-- what a step comes to: the entries that were taken in it, and the feed with what is given
pub record StepsTo (tells : Bool) (files : List (List ℕ)) (reader : ReaderState) (reading : SortReading) (taken : List LogEntry) (feed : NodeFeed) (step : Step) : Type 0 where
  pub more : List LogEntry
  pub reads : IsReading tells files reader reading (taken ++ more) (feed_by step feed)
  pub grows : FeedGrows feed (feed_by step feed)
  pub comes : Comes tells files reader reading (taken ++ more) feed step
