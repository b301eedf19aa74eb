-- The fault of a log: its first unsound entry's, before the one that ended its entries.
use Rattle.std.specs.Prelude.{◌≡◌, List, ◌∷◌, ◌++◌, reverse, Option, Some, MatchOption}
use Rattle.cdc_base.specs.declared.place.Place.{Place}
use Rattle.cdc_model.specs.declared.fault.SortFault.{SortFault}
use Rattle.cdc_model.specs.declared.fault.NodeFault.{NodeFault}
use Rattle.cdc_model.specs.declared.fault.NodeFault.TheVariants.{Sort}
use Rattle.cdc_model.specs.Records.{LogEntry, Start}
use Rattle.cdc_model.specs.Start.{left_by}
use Rattle.cdc_model.specs.Soundness.{entry_fault, AllSound, sort_fault, log_fault}

-- the first unsound entry of some: those before it are sound, and this is its fault behind them, at its place
pub record IsFirstUnsound (start : Start) (entries : List LogEntry) (at : Place) (fault : SortFault) : Type 0 where
  pub before : List LogEntry
  pub unsound : LogEntry
  pub behind : List LogEntry
  pub in_order : entries ≡ before ++ unsound ∷ behind
  pub sound : AllSound start before
  pub wrong : entry_fault unsound.kind (left_by start (reverse before)) ≡ Some fault
  pub place : at ≡ unsound.at

-- law: entries have no fault exactly where all are sound; else theirs is the first unsound one's
abbrev pub SortFaultIsFirst : Type 0
SortFaultIsFirst = (start : Start) (entries : List LogEntry)
    → MatchOption (sort_fault start entries) (AllSound start entries) (λ (found : Place × SortFault). IsFirstUnsound start entries found.0 found.1)

-- the fault of a log, where one ended its entries or none
pub record IsLogFault (start : Start) (entries : List LogEntry) (ended fault : Option (Place × NodeFault)) : Type 0 where
  pub sound : AllSound start entries → fault ≡ ended
  pub unsound : (at : Place) (wrong : SortFault) → IsFirstUnsound start entries at wrong → fault ≡ Some (at, Sort wrong)

-- law: a log's fault is its first unsound entry's, and only where all its entries are sound the one that ended them
abbrev pub LogFaultIsFirst : Type 0
LogFaultIsFirst = (start : Start) (entries : List LogEntry) (ended : Option (Place × NodeFault))
    → IsLogFault start entries ended (log_fault Sort start entries ended)
