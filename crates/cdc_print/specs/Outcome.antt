-- What a print of all logs comes to, as it is seen from outside.
use Rattle.std.specs.Prelude.{◌≡◌, ℕ, ◌-◌, ◌^◌, ◌<◌, ◌≤◌, ◌⊎◌, ◌++◌, min, Bool, IsTrue, List, [], ◌∷◌, length, map, slice_index, slice_index_or, Option, Some, None}
use Rattle.std.specs.List.{AllByRecursion, AllZip}
use Rattle.cdc_base.specs.declared.place.Place.{Place}
use Rattle.cdc_base.specs.Key.{first_key}
use Rattle.cdc_outside.specs.Count.{Rose}
use Rattle.cdc_outside.specs.Sink.{WritesTo}
use Rattle.cdc_model.specs.declared.fault.NodeFault.{NodeFault}
use Rattle.cdc_model.specs.declared.fault.NodeFault.TheVariants.{Sort}
use Rattle.cdc_model.specs.declared.node_log.NodeLog.{NodeLog}
use Rattle.cdc_model.specs.Records.{LogEntry, Transaction}
use Rattle.cdc_model.specs.Start.{beginning}
use Rattle.cdc_model.specs.Soundness.{log_fault}
use Rattle.cdc_model.specs.Entries.{AreLogEntries}
use Rattle.cdc_model.specs.Growth.{IsReadWhole}
use Rattle.cdc_model.specs.Print.{printed_length}
use Rattle.cdc_model.specs.Transaction.{ordered_transactions}
use Rattle.cdc_model.specs.Output.{file_with, unrotated_file, beyond_the_file}
use Rattle.cdc_reader.specs.declared.step.NodeEnd.{NodeEnd}
use Rattle.cdc_reader.specs.declared.step.NodeEnd.TheVariants.{Open, Whole, Read as ReadFailed, Memory as NoMemory, Fault as Faulty}
use Rattle.cdc_print.specs.declared.end.PrintEnd.{PrintEnd}
use Rattle.cdc_print.specs.declared.end.PrintEnd.TheVariants.{Done, Read, Memory, TooLarge, Fault, Sink}

-- a print as it is seen from outside: what the sources hold, and their counts of faults before and now; what the sink has before and now,
-- and its counts
pub record PrintRun : Type 0 where
  pub nodes : List (List (List ℕ))
  pub reads_before : List ℕ
  pub reads_now : List ℕ
  pub out_before : List ℕ
  pub out_now : List ℕ
  pub faults_before : ℕ
  pub faults_now : ℕ

-- a print by its devices: what sources hold and how often they failed, what sinks have and how often they failed, of the sources and the
-- sink before and now
abbrev pub run_seen : {S K : Type 0} → (S → List (List ℕ)) → (S → ℕ) → (K → List ℕ) → (K → ℕ) → List S → List S → K → K → PrintRun
run_seen held failed written faults nodes nodes_now out out_now = record {
  nodes = map held nodes;
  reads_before = map failed nodes;
  reads_now = map failed nodes_now;
  out_before = written out;
  out_now = written out_now;
  faults_before = faults out;
  faults_now = faults out_now;
}

-- the count of a node, counted from 1, rose
pub record NodeRose (before now : List ℕ) (node : ℕ) : Type 0 where
  pub first : 1 ≤ node
  pub last : node ≤ length before
  pub rose : Rose (slice_index before (node - 1)) (slice_index now (node - 1))

-- no node's count fell
abbrev pub NoCountFell : List ℕ → List ℕ → Type 0
NoCountFell before now = (place : ℕ) → slice_index before place ≤ slice_index now place

-- the files of a node, counted from 1
abbrev pub files_at : List (List (List ℕ)) → ℕ → List (List ℕ)
files_at nodes node = slice_index_or nodes (node - 1) []

-- a log with these files, read whole, has this fault, or none
abbrev pub IsFaultOf : List (List ℕ) → Option (Place × NodeFault) → Type 0
IsFaultOf files fault = (entries : List LogEntry) (ended : Option (Place × NodeFault))
    → AreLogEntries files entries ended → log_fault Sort beginning entries ended ≡ fault

-- no node's log has a fault
abbrev pub AreClean : List (List (List ℕ)) → Type 0
AreClean nodes = AllByRecursion (λ (files : List (List ℕ)). IsFaultOf files None) nodes

-- the least node whose log has a fault: it has this one, and the logs of lesser nodes have none
pub record IsLeastFault (nodes : List (List (List ℕ))) (node : ℕ) (place : Place) (fault : NodeFault) : Type 0 where
  pub first : 1 ≤ node
  pub last : node ≤ length nodes
  pub has : IsFaultOf (files_at nodes node) (Some (place, fault))
  pub lesser : (other : ℕ) → 1 ≤ other → other < node → IsFaultOf (files_at nodes other) None

-- these are the logs of nodes with these files, read whole
abbrev pub AreNodeLogs : List (List (List ℕ)) → List NodeLog → Type 0
AreNodeLogs nodes logs = AllZip IsReadWhole nodes logs

-- the one file has room for all transactions
abbrev pub NothingBeyond : List (List (List ℕ)) → Type 0
NothingBeyond nodes = (logs : List NodeLog) → AreNodeLogs nodes logs → beyond_the_file logs ≡ None

-- the one file ends before a transaction that has this number, and a print of so many bytes, told up to the greatest number
abbrev pub IsBeyond : List (List (List ℕ)) → ℕ → ℕ → Type 0
IsBeyond nodes number bytes = (logs : List NodeLog) → AreNodeLogs nodes logs
    → (txn : Transaction) × (beyond_the_file logs ≡ Some txn) × (number ≡ txn.number) × (bytes ≡ min (printed_length [] txn) (2 ^ 64 - 1))

-- exactly the one file of all logs was written
abbrev pub GaveFile : PrintRun → Type 0
GaveFile run = (logs : List NodeLog) → AreNodeLogs run.nodes logs → run.out_now ≡ run.out_before ++ unrotated_file logs

-- a front of the one file of all logs was written
abbrev pub GaveFront : PrintRun → Type 0
GaveFront run = (logs : List NodeLog) → AreNodeLogs run.nodes logs → WritesTo run.out_before (unrotated_file logs) run.out_now

-- nothing was written
abbrev pub GaveNothing : PrintRun → Type 0
GaveNothing run = run.out_now ≡ run.out_before

-- the one file was written, or a front of it where the sink's count rose
abbrev pub GaveOrFailed : PrintRun → Type 0
GaveOrFailed run = GaveFile run ⊎ (GaveFront run × Rose run.faults_before run.faults_now)

-- how the reading of a node's log ended, and why: it was read whole and has no fault; its source's count rose; there was no memory to read
-- on; or it has this fault
abbrev pub HasEnded : Bool → List (List ℕ) → ℕ → ℕ → NodeEnd → Type 0
HasEnded told files before now Open = ⊥
HasEnded told files before now Whole = IsTrue told → IsFaultOf files None
HasEnded told files before now ReadFailed = Rose before now
HasEnded told files before now NoMemory = Unit {0}
HasEnded told files before now (Faulty place fault) = IsTrue told → IsFaultOf files (Some (place, fault))

-- the reading of a lesser node ended otherwise than by a failure of its source
pub record EndedOtherwise (told : Bool) (run : PrintRun) (node : ℕ) : Type 0 where
  pub end : NodeEnd
  pub ended : HasEnded told (files_at run.nodes node) (slice_index run.reads_before (node - 1)) (slice_index run.reads_now (node - 1)) end
  pub otherwise : end ≡ ReadFailed → ⊥

-- the least node whose source failed: its count rose, and the readings of lesser nodes ended otherwise
pub record IsLeastFailed (told : Bool) (run : PrintRun) (node : ℕ) : Type 0 where
  pub rose : NodeRose run.reads_before run.reads_now node
  pub lesser : (other : ℕ) → 1 ≤ other → other < node → EndedOtherwise told run other

-- how a print ended, and why, where the sources tell what they hold and the sink what it was given
abbrev pub IsPrintEnd : Bool → Bool → PrintRun → PrintEnd → Type 0
IsPrintEnd told shown run Done = IsTrue told → AreClean run.nodes × NothingBeyond run.nodes × (IsTrue shown → GaveFile run)
IsPrintEnd told shown run (Read node) = IsLeastFailed told run node × (IsTrue shown → GaveNothing run)
IsPrintEnd told shown run Memory = IsTrue shown → GaveNothing run
IsPrintEnd told shown run (TooLarge number bytes) = IsTrue told → IsBeyond run.nodes number bytes × (IsTrue shown → GaveOrFailed run)
IsPrintEnd told shown run (Fault node place fault) =
    IsTrue told → IsLeastFault run.nodes node place fault × NothingBeyond run.nodes × (IsTrue shown → GaveOrFailed run)
IsPrintEnd told shown run Sink =
    Rose run.faults_before run.faults_now × (IsTrue told → AreClean run.nodes × NothingBeyond run.nodes × (IsTrue shown → GaveFront run))

-- the log of a node was read to its end, or to its fault
pub record WasRead (told : Bool) (run : PrintRun) (node : ℕ) : Type 0 where
  pub end : NodeEnd
  pub ended : HasEnded told (files_at run.nodes node) (slice_index run.reads_before (node - 1)) (slice_index run.reads_now (node - 1)) end
  pub otherwise : end ≡ ReadFailed → ⊥
  pub had_memory : end ≡ NoMemory → ⊥

-- the logs of all nodes were
abbrev pub WereAllRead : Bool → PrintRun → Type 0
WereAllRead told run = (node : ℕ) → 1 ≤ node → node ≤ length run.nodes → WasRead told run node

-- every end but a source that failed and want of memory comes behind the reading of all logs
abbrev pub ComesBehindReading : Bool → PrintRun → PrintEnd → Type 0
ComesBehindReading told run Done = WereAllRead told run
ComesBehindReading told run (Read node) = Unit {0}
ComesBehindReading told run Memory = Unit {0}
ComesBehindReading told run (TooLarge number bytes) = WereAllRead told run
ComesBehindReading told run (Fault node place fault) = WereAllRead told run
ComesBehindReading told run Sink = WereAllRead told run

-- ---- laws

-- no device failed
pub record NoneFailedIn (run : PrintRun) : Type 0 where
  pub sources : (node : ℕ) → NodeRose run.reads_before run.reads_now node → ⊥
  pub sink : Rose run.faults_before run.faults_now → ⊥

-- law: where sources tell, no log has a fault, the one file has room for all, and no device failed, all is done, or memory was wanting
abbrev pub PrintIsComplete : Type 0
PrintIsComplete = (told shown : Bool) (run : PrintRun) (logs : List NodeLog) (end : PrintEnd) → IsPrintEnd told shown run end
    → IsTrue told → AreNodeLogs run.nodes logs → AreClean run.nodes → beyond_the_file logs ≡ None → NoneFailedIn run
    → (end ≡ Done) ⊎ (end ≡ Memory)

-- the file of some transactions, each printed whole: nothing where there is none
abbrev pub whole_file : List Transaction → List ℕ
whole_file [] = []
whole_file (txn ∷ txns) = file_with [] (txn ∷ txns)

-- law: where the one file has room for all, it has the print of each settled transaction of all logs, whole and in order
abbrev pub FileHasAll : Type 0
FileHasAll = (logs : List NodeLog) → beyond_the_file logs ≡ None → unrotated_file logs ≡ whole_file (ordered_transactions 0 first_key logs)

-- the files' numbers are bytes
abbrev pub AreByteFiles : List (List (List ℕ)) → Type 0
AreByteFiles nodes = AllByRecursion (λ (files : List (List ℕ)). AllByRecursion (λ (bytes : List ℕ). (i : ℕ) → slice_index bytes i < 256) files) nodes

-- law: nodes have logs, whatever the bytes of their files are
abbrev pub NodesHaveLogs : Type 0
NodesHaveLogs = (nodes : List (List (List ℕ))) → AreByteFiles nodes → (logs : List NodeLog) × AreNodeLogs nodes logs

-- law: nodes have one list of logs
abbrev pub OneListOfLogs : Type 0
OneListOfLogs = (nodes : List (List (List ℕ))) (logs others : List NodeLog) → AreNodeLogs nodes logs → AreNodeLogs nodes others → logs ≡ others
