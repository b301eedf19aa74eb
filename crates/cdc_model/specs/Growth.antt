-- What stays and what comes where the logs of the nodes go on.
use Rattle.std.specs.Prelude.{◌≡◌, ◌≤◌, ◌<◌, ℕ, List, ◌++◌, Option, Some}
use Rattle.std.specs.List.{AllByRecursion, AllZip}
use Rattle.cdc_base.specs.declared.key.Key.{Key}
use Rattle.cdc_base.specs.declared.key.Key.TheVariants.{Shared, Plain as PlainKey}
use Rattle.cdc_base.specs.declared.place.Place.{Place}
use Rattle.cdc_base.specs.declared.rename.Rename.{Rename}
use Rattle.cdc_model.specs.declared.fault.NodeFault.{NodeFault}
use Rattle.cdc_model.specs.declared.fault.NodeFault.TheVariants.{Sort}
use Rattle.cdc_model.specs.declared.node_log.NodeLog.{NodeLog}
use Rattle.cdc_model.specs.Records.{LogEntry, CommittedBranch, Transaction, Start}
use Rattle.cdc_model.specs.Log.{Continues, IsLogPrefix, AreLogPrefixes}
use Rattle.cdc_model.specs.Entries.{AreLogEntries, LengthensLog}
use Rattle.cdc_model.specs.Start.{beginning}
use Rattle.cdc_model.specs.Watermark.{node_low_water_mark}
use Rattle.cdc_model.specs.Soundness.{sound_entries, log_fault, reached}
use Rattle.cdc_model.specs.Transaction.{node_branches, logs_low_water_mark, ordered_transactions, settled_transactions, oversized_transaction}
use Rattle.cdc_model.specs.Output.{files_of, expected_files, one_file, unrotated_file, beyond_the_file}
use Rattle.cdc_model.specs.SettledOrder.{IsFront}

-- ---- one log

-- law: the sound entries of a log begin those of each log that continues it, and where it had a fault the longer one has the same and
-- no sound entry more
abbrev pub SoundPrefixGrows : Type 0
SoundPrefixGrows = (files others : List (List ℕ)) (entries longer : List LogEntry) (fault later : Option (Place × NodeFault))
    → IsLogPrefix files others → AreLogEntries files entries fault → AreLogEntries others longer later
    → LengthensLog (sound_entries beginning entries) (sound_entries beginning longer) (log_fault Sort beginning entries fault) (log_fault Sort beginning longer later)

-- law: the same over entries, from whatever starting point
abbrev pub SoundEntriesGrow : Type 0
SoundEntriesGrow = (start : Start) (entries longer : List LogEntry) (fault later : Option (Place × NodeFault))
    → LengthensLog entries longer fault later
    → LengthensLog (sound_entries start entries) (sound_entries start longer) (log_fault Sort start entries fault) (log_fault Sort start longer later)

-- ---- the logs of all nodes

-- a log goes on: from the same starting point, its sound entries begin with those of before
pub record LogGrows (old new : NodeLog) : Type 0 where
  pub same_start : new.start ≡ old.start
  pub front : IsFront (sound_entries old.start old.entries) (sound_entries new.start new.entries)

-- the logs of all nodes go on, node by node
abbrev pub LogsGrow : List NodeLog → List NodeLog → Type 0
LogsGrow olds news = AllZip LogGrows olds news

-- the entries of a node's files, read whole
pub record IsReadWhole (files : List (List ℕ)) (log : NodeLog) : Type 0 where
  pub begins : log.start ≡ beginning
  pub fault : Option (Place × NodeFault)
  pub read : AreLogEntries files log.entries fault

-- law: logs of bytes that continue others go on
abbrev pub ContinuedLogsGrow : Type 0
ContinuedLogsGrow = (olds news : List (List (List ℕ))) (logs laters : List NodeLog)
    → AreLogPrefixes olds news → AllZip IsReadWhole olds logs → AllZip IsReadWhole news laters → LogsGrow logs laters

-- a key that a node can still bring behind a mark: a shared key above it, a local one at or above it
abbrev pub LiesAbove : ℕ → Key → Type 0
LiesAbove mark (Shared timestamp gtrid) = mark < timestamp
LiesAbove mark (PlainKey timestamp node entry) = mark ≤ timestamp

-- a node's low-water mark doesn't fall, and its further branches lie above the mark of before
pub record MarkRises (last : Key) (node : ℕ) (old new : NodeLog) : Type 0 where
  pub low : node_low_water_mark (reached old) ≤ node_low_water_mark (reached new)
  pub more : List CommittedBranch
  pub goes_on : node_branches last (node, new) ≡ node_branches last (node, old) ++ more
  pub above : AllByRecursion (λ (branch : CommittedBranch). LiesAbove (node_low_water_mark (reached old)) branch.key) more

-- law: where a log goes on, its low-water mark doesn't fall, and a new branch with a shared key lies above the mark of before, one with
-- a local key at or above it
abbrev pub LowWaterMarkRises : Type 0
LowWaterMarkRises = (last : Key) (node : ℕ) (old new : NodeLog) → LogGrows old new → MarkRises last node old new

-- law: where all logs go on, the low-water mark of all doesn't fall
abbrev pub LeastMarkRises : Type 0
LeastMarkRises = (olds news : List NodeLog) → LogsGrow olds news → logs_low_water_mark olds ≤ logs_low_water_mark news

-- ---- the output

-- the transactions of logs that go on
pub record TransactionsGrow (rules : List Rename) (count : ℕ) (last : Key) (olds news : List NodeLog) : Type 0 where
  pub ordered : IsFront (ordered_transactions count last olds) (ordered_transactions count last news)
  pub settled : IsFront (settled_transactions rules count last olds) (settled_transactions rules count last news)
  pub oversized : (txn : Transaction) → oversized_transaction rules count last olds ≡ Some txn
      → (oversized_transaction rules count last news ≡ Some txn)
      × (settled_transactions rules count last news ≡ settled_transactions rules count last olds)

-- law: where all logs go on, the settled transactions of before are a front, and an oversized one stays and ends them
abbrev pub SettledOrderGrows : Type 0
SettledOrderGrows = (rules : List Rename) (count : ℕ) (last : Key) (olds news : List NodeLog) → LogsGrow olds news
    → TransactionsGrow rules count last olds news

-- the output files of more transactions continue those of fewer, and so does the one file
pub record OutputOfMore (rules : List Rename) (rotation : ℕ) (txns more : List Transaction) : Type 0 where
  pub files : IsLogPrefix (files_of rules rotation txns) (files_of rules rotation more)
  pub whole : Continues (one_file txns) (one_file more)

-- law: transactions in front of others have output files that those of all continue
abbrev pub OutputOfMoreGoesOn : Type 0
OutputOfMoreGoesOn = (rules : List Rename) (rotation : ℕ) (txns more : List Transaction) → IsFront txns more → OutputOfMore rules rotation txns more

-- the output of logs that go on
pub record OutputGrows (rules : List Rename) (rotation : ℕ) (olds news : List NodeLog) : Type 0 where
  pub files : IsLogPrefix (expected_files rules rotation olds) (expected_files rules rotation news)
  pub whole : Continues (unrotated_file olds) (unrotated_file news)
  pub beyond : (txn : Transaction) → beyond_the_file olds ≡ Some txn
      → (beyond_the_file news ≡ Some txn) × (unrotated_file news ≡ unrotated_file olds)

-- law: where all logs go on, the output files of before stand, and so does the one file; the transaction that it has no room for stays
abbrev pub OutputOnlyGrows : Type 0
OutputOnlyGrows = (rules : List Rename) (rotation : ℕ) (olds news : List NodeLog) → LogsGrow olds news → OutputGrows rules rotation olds news
