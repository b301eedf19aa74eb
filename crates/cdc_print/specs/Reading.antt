-- How the logs of all nodes are read and merged.
use Rattle.std.specs.Prelude.{◌≡◌, ◌≤◌, ℕ, ◌+◌, ◌||◌, not, Bool, true, false, List, [], ◌∷◌, map, Option, Some, None, if◌then◌else◌}
use Rattle.cdc_base.specs.Key.{first_key}
use Rattle.cdc_outside.specs.Count.{Rose}
use Rattle.cdc_model.specs.Records.{LogEntry, Transaction}
use Rattle.cdc_model.specs.Feed.{NodeFeed, merged_transactions}
use Rattle.cdc_model.specs.NodeReading.{no_feed}
use Rattle.cdc_model.specs.Restart.{first_point}
use Rattle.cdc_sorter.specs.Sorting.{SortReading}
use Rattle.cdc_reader.specs.declared.step.NodeEnd.{NodeEnd}
use Rattle.cdc_reader.specs.declared.step.NodeEnd.TheVariants.{Open, Whole, Read as ReadFailed, Memory as NoMemory, Fault as Faulty}
use Rattle.cdc_reader.specs.Standing.{ReaderState, IsReading, AllGiven}
use Rattle.cdc_merger.specs.Merging.{Merging, Merges}
use Rattle.cdc_print.specs.declared.end.PrintEnd.{PrintEnd}
use Rattle.cdc_print.specs.declared.end.PrintEnd.TheVariants.{Done, Read, Memory, TooLarge, Fault}
use Rattle.cdc_print.specs.declared.node.NodeReader.{NodeReader}
use Rattle.cdc_print.specs.declared.printing.Beyond.{Beyond}
use Rattle.cdc_print.specs.declared.printing.Printing.{Printing}
use Rattle.cdc_print.specs.Printed.{IsPrinted}

-- a node's log is read from its start, and all its branches are given
abbrev pub whole_reading : ℕ → SortReading
whole_reading node = record { last = first_key; from = first_point; node = node }

-- a reading is over: all that is settled was given, but where memory was wanting
pub record IsOver (reader : ReaderState) (reading : SortReading) (taken : List LogEntry) (feed : NodeFeed) : Type 0 where
  pub ended : reader.end ≡ Open → ⊥
  pub given : (reader.end ≡ NoMemory → ⊥) → AllGiven reading taken feed

-- a node's reader has taken some entries of its log, and has given this feed; its source's count was and is this
pub record NodeReads (told : Bool) (files : List (List ℕ)) (before now node : ℕ) (state : NodeReader) (feed : NodeFeed) : Type 0 where
  pub taken : List LogEntry
  pub reads : IsReading told files state.reader (whole_reading node) taken feed
  pub rises : before ≤ now
  pub failed : state.reader.end ≡ ReadFailed → Rose before now
  pub over : state.over ≡ true → IsOver state.reader (whole_reading node) taken feed

-- the readers of all nodes, of which the first has this number, have given these feeds
abbrev pub AreReading : {S : Type 0} → Bool → (S → List (List ℕ)) → (S → ℕ) → ℕ → List ℕ → List S → List NodeReader → List NodeFeed → Type 0
AreReading told held failed node [] [] [] [] = Unit {0}
AreReading told held failed node (before ∷ befores) (source ∷ sources) (state ∷ states) (feed ∷ feeds) =
    NodeReads told (held source) before (failed source) node state feed × AreReading told held failed (node + 1) befores sources states feeds
AreReading told held failed node befores sources states feeds = ⊥

-- the readers of nodes, of which the first has this number, before anything was read
abbrev pub AreNew : ℕ → List NodeReader → Type 0
AreNew node [] = Unit {0}
AreNew node (state ∷ states) =
    ((told : Bool) (files : List (List ℕ)) (before : ℕ) → NodeReads told files before before node state no_feed) × AreNew (node + 1) states

-- where printing goes on, what nodes gave in these feeds is merged, and what was merged is printed
abbrev pub IsMerged : Bool → Merging → Printing → List NodeFeed → Type 0
IsMerged prints merger printing feeds = prints ≡ true → (gave : List Transaction) × Merges merger 0 first_key feeds gave × IsPrinted printing gave

-- and all of it was merged
abbrev pub IsMergedAll : Bool → Merging → Printing → List NodeFeed → Type 0
IsMergedAll prints merger printing feeds = prints ≡ true
    → Merges merger 0 first_key feeds (merged_transactions 0 feeds) × IsPrinted printing (merged_transactions 0 feeds)

-- how the readings of nodes ended
abbrev pub ends_of : List NodeReader → List NodeEnd
ends_of states = map (λ (state : NodeReader). state.reader.end) states

-- a source failed
abbrev pub is_failed : NodeEnd → Bool
is_failed Open = false
is_failed Whole = false
is_failed ReadFailed = true
is_failed NoMemory = false
is_failed (Faulty place fault) = false

-- there was no memory to read on
abbrev pub is_lacking : NodeEnd → Bool
is_lacking Open = false
is_lacking Whole = false
is_lacking ReadFailed = false
is_lacking NoMemory = true
is_lacking (Faulty place fault) = false

-- the least node whose source failed, of nodes from this number on
abbrev pub failed_node : ℕ → List NodeEnd → Option ℕ
failed_node node [] = None
failed_node node (end ∷ ends) = if is_failed end then Some node else failed_node (node + 1) ends

-- some node had no memory to read on
abbrev pub some_lacking : List NodeEnd → Bool
some_lacking [] = false
some_lacking (end ∷ ends) = is_lacking end || some_lacking ends

-- the end for a node whose log has a fault, or another
abbrev pub fault_or_else : ℕ → NodeEnd → PrintEnd → PrintEnd
fault_or_else node Open other = other
fault_or_else node Whole other = other
fault_or_else node ReadFailed other = other
fault_or_else node NoMemory other = other
fault_or_else node (Faulty place fault) other = Fault node place fault

-- the end for the least node whose log has a fault, of nodes from this number on, or done
abbrev pub fault_end : ℕ → List NodeEnd → PrintEnd
fault_end node [] = Done
fault_end node (end ∷ ends) = fault_or_else node end (fault_end (node + 1) ends)

-- the end for a transaction that is too large, or another
abbrev pub large_or_else : Option Beyond → PrintEnd → PrintEnd
large_or_else None other = other
large_or_else (Some beyond) other = TooLarge beyond.number beyond.bytes

-- the end for want of memory, or another
abbrev pub memory_or_else : Bool → PrintEnd → PrintEnd
memory_or_else true other = Memory
memory_or_else false other = other

-- the end for a source that failed, or another
abbrev pub read_or_else : Option ℕ → PrintEnd → PrintEnd
read_or_else None other = other
read_or_else (Some node) other = Read node

-- how a print ends, but for the sink: the first of these, by how the readings ended, whether printing went on, and where the file ends
abbrev pub end_by : List NodeEnd → Bool → Option Beyond → PrintEnd
end_by ends prints beyond =
    read_or_else (failed_node 1 ends) (memory_or_else (not prints || some_lacking ends) (large_or_else beyond (fault_end 1 ends)))
