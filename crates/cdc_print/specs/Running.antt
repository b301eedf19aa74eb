-- A printer while it reads, merges and prints, and how it finishes.
use Rattle.std.specs.Prelude.{◌≡◌, ℕ, ◌-◌, ◌⊎◌, ◌++◌, Bool, IsTrue, List, [], if◌then◌else◌}
use Rattle.cdc_base.specs.Key.{first_key}
use Rattle.cdc_outside.specs.Count.{Rose}
use Rattle.cdc_outside.specs.Sink.{WritesTo}
use Rattle.cdc_model.specs.Feed.{NodeFeed, FeedGrows}
use Rattle.cdc_reader.specs.declared.step.Step.{Step}
use Rattle.cdc_reader.specs.Standing.{feed_by}
use Rattle.cdc_merger.specs.Rounds.{node_at}
use Rattle.cdc_merger.specs.Merging.{IsOrderedFeed, no_feeds}
use Rattle.cdc_print.specs.declared.end.PrintEnd.{PrintEnd}
use Rattle.cdc_print.specs.declared.end.PrintEnd.TheVariants.{Done, Read, Memory, TooLarge, Fault, Sink}
use Rattle.cdc_print.specs.declared.printing.Printing.{Printing}
use Rattle.cdc_print.specs.declared.printer.Printer.{Printer}
use Rattle.cdc_print.specs.Reading.{AreNew, AreReading, IsMerged, IsMergedAll}

-- what nodes gave is merged and printed, as far as bounds settle it and it was asked for
abbrev pub IsMergedBy : Printer → List NodeFeed → Type 0
IsMergedBy printer feeds = IsMerged printer.prints printer.merger printer.printing feeds

-- and all of it is
abbrev pub IsMergedAllBy : Printer → List NodeFeed → Type 0
IsMergedAllBy printer feeds = IsMergedAll printer.prints printer.merger printer.printing feeds

-- nothing was read
abbrev pub HasReadNothing : Printer → ℕ → Type 0
HasReadNothing printer nodes = AreNew 1 printer.nodes.items × IsMergedBy printer (no_feeds nodes)

-- the logs of all nodes are being read from these sources, and what nodes gave is merged and printed
pub record IsRunning {S : Type 0} (told : Bool) (held : S → List (List ℕ)) (failed : S → ℕ) (befores : List ℕ) (sources : List S) (printer : Printer) : Type 0 where
  pub feeds : List NodeFeed
  pub reading : AreReading told held failed 1 befores sources printer.nodes.items feeds
  pub merged : IsMergedBy printer feeds

-- what a node gives goes on its feed, in order of key
pub record CanTake (node : ℕ) (step : Step) (feeds : List NodeFeed) : Type 0 where
  pub ordered : IsOrderedFeed first_key (feed_by step (node_at feeds (node - 1)))
  pub grows : FeedGrows (node_at feeds (node - 1)) (feed_by step (node_at feeds (node - 1)))

-- the file that a printing has: nothing where it hasn't begun
abbrev pub file_of_printing : Printing → List ℕ
file_of_printing printing = if printing.begun then printing.pieces else []

-- the file was written, or a front of it where the sink's count rose
abbrev pub WritesOrFails : Bool → List ℕ → List ℕ → List ℕ → ℕ → ℕ → Type 0
WritesOrFails shown before file now faults_before faults_now =
    (IsTrue shown → now ≡ before ++ file) ⊎ (Rose faults_before faults_now × (IsTrue shown → WritesTo before file now))

-- how a print ends with its sink, by how it ended before
abbrev pub Finishes : Bool → List ℕ → List ℕ → List ℕ → ℕ → ℕ → PrintEnd → PrintEnd → Type 0
Finishes shown before file now faults_before faults_now Done result =
    ((result ≡ Done) × (IsTrue shown → now ≡ before ++ file))
    ⊎ ((result ≡ Sink) × Rose faults_before faults_now × (IsTrue shown → WritesTo before file now))
Finishes shown before file now faults_before faults_now (Read node) result = (result ≡ Read node) × (IsTrue shown → now ≡ before)
Finishes shown before file now faults_before faults_now Memory result = (result ≡ Memory) × (IsTrue shown → now ≡ before)
Finishes shown before file now faults_before faults_now (TooLarge number bytes) result =
    (result ≡ TooLarge number bytes) × WritesOrFails shown before file now faults_before faults_now
Finishes shown before file now faults_before faults_now (Fault node place fault) result =
    (result ≡ Fault node place fault) × WritesOrFails shown before file now faults_before faults_now
Finishes shown before file now faults_before faults_now Sink result = Unit {0}
