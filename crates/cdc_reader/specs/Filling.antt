-- What a read of a log's next bytes comes to.
use Rattle.std.specs.Prelude.{◌≡◌, ◌≤◌, ◌+◌, ℕ, zero, suc, true, List, [], ◌∷◌, ◌++◌, length, Option, Some, None, Result, Ok, Err}
use Rattle.cdc_base.specs.declared.place.Place.{Place}
use Rattle.cdc_outside.specs.Source.{file_of}
use Rattle.cdc_model.specs.declared.fault.NodeFault.{NodeFault}
use Rattle.cdc_model.specs.Records.{LogEntry}
use Rattle.cdc_model.specs.Restart.{RestartPoint}
use Rattle.cdc_model.specs.ReadFrom.{AreEntriesReadFrom}
use Rattle.cdc_reader.specs.declared.follower.Follower.{Follower}
use Rattle.cdc_reader.specs.declared.follower.Found.{Found}
use Rattle.cdc_reader.specs.declared.follower.Found.TheVariants.{Nothing, Entry, Need, Fault}
use Rattle.cdc_reader.specs.declared.log.LogReader.{LogReader}
use Rattle.cdc_reader.specs.declared.log.Stopped.{Stopped}
use Rattle.cdc_reader.specs.LogFront.{log_up_to, IsReadUpTo, IsTakenTo}

-- where a file's length was asked for, it is what was told
abbrev pub IsLogSized : List (List ℕ) → LogReader → Type 0
IsLogSized files log = log.opened ≡ true → log.size ≡ length (file_of files log.place.file)

-- the entries of a log from a point on are these, and no fault ends them
abbrev pub AreAllEntries : RestartPoint → List (List ℕ) → List LogEntry → Type 0
AreAllEntries point files taken = (entries : List LogEntry) (fault : Option (Place × NodeFault))
    → AreEntriesReadFrom point.place point.checksum files entries fault → (entries ≡ taken) × (fault ≡ None)

-- bytes more were read, where those before them had just these entries
pub record FillsMore (point : RestartPoint) (files : List (List ℕ)) (log : LogReader) (taken : List LogEntry) (count : ℕ) : Type 0 where
  pub asked : Place
  pub behind : log.place ≡ record { file = asked.file; at = asked.at + count }
  pub before : AreAllEntries point (log_up_to asked files) taken
  pub read : IsReadUpTo point files log.follower log.place taken
  pub sized : IsLogSized files log

-- no bytes were had: the log still stands where all of its entries were taken
pub record StaysFilled (point : RestartPoint) (files : List (List ℕ)) (log : LogReader) (taken : List LogEntry) : Type 0 where
  pub all : IsTakenTo point files log.follower log.place taken
  pub before : log.place.file ≤ length files → AreAllEntries point (log_up_to log.place files) taken

-- what a read came to: bytes more; the log's end; or none were had
abbrev pub FillsLog : RestartPoint → List (List ℕ) → LogReader → List LogEntry → Result ℕ Stopped → Type 0
FillsLog point files log taken (Ok zero) = AreAllEntries point files taken
FillsLog point files log taken (Ok (suc count)) = FillsMore point files log taken (suc count)
FillsLog point files log taken (Err stopped) = StaysFilled point files log taken

-- what is found next in a log whose bytes so far had these entries
abbrev pub FindsInLog : RestartPoint → List (List ℕ) → Follower → Place → List LogEntry → Found → Type 0
FindsInLog point files follower place taken Nothing = IsReadUpTo point files follower place taken
FindsInLog point files follower place taken (Entry entry) = IsReadUpTo point files follower place (taken ++ entry ∷ [])
FindsInLog point files follower place taken Need = IsTakenTo point files follower place taken
FindsInLog point files follower place taken (Fault at fault) = (entries : List LogEntry) (ended : Option (Place × NodeFault))
    → AreEntriesReadFrom point.place point.checksum files entries ended → (entries ≡ taken) × (ended ≡ Some (at, fault))
