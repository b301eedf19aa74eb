-- A step of one node, and what it does to all.
use Rattle.std.proofs.Common.{◌≡◌, ◌≤◌, ◌<◌, ◌⊎◌, ℕ, ◌+◌, ◌-◌, Bool, true, false, List, [], ◌++◌, length, map, get_or, ap, sym, subst, ◌∙◌, arith, ⊎_elim, le_refl}
use Rattle.std.proofs.Math.ListN.{set}
use Rattle.cdc_outside.specs.Count.{Rose}
use Rattle.cdc_base.specs.Key.{first_key}
use Rattle.cdc_model.specs.Records.{LogEntry}
use Rattle.cdc_model.specs.Feed.{NodeFeed, FeedGrows}
use Rattle.cdc_model.specs.NodeReading.{no_feed, NodeSettledInOrder}
use Rattle.cdc_sorter.specs.Sorting.{SortReading}
use Rattle.cdc_reader.specs.declared.step.NodeEnd.TheVariants.{Open, Read as ReadFailed}
use Rattle.cdc_reader.specs.declared.step.Step.{Step}
use Rattle.cdc_reader.specs.declared.step.Step.TheVariants.{End}
use Rattle.cdc_reader.specs.Standing.{ReaderState, feed_by, IsReading, StepsTo, Comes}
use Rattle.cdc_merger.specs.Feeding.{changed_at}
use Rattle.cdc_merger.specs.Rounds.{node_at}
use Rattle.cdc_merger.specs.Merging.{IsOrderedFeed, no_feeds}
use Rattle.cdc_print.specs.declared.node.NodeReader.{NodeReader}
use Rattle.cdc_print.specs.declared.printer.Printer.{Printer}
use Rattle.cdc_print.specs.Reading.{whole_reading, IsOver, NodeReads, AreReading}
use Rattle.cdc_print.specs.Running.{HasReadNothing, IsRunning, IsMergedBy, IsMergedAllBy, CanTake}
use Rattle.cdc_print.proofs.Nodes.{all_begin, reads_at, reads_on, reads_in_order}
use Rattle.cdc_print.proofs.Settling.{merged_still}

-- ---- one node

pub node_new : (told : Bool) (files : List (List ℕ)) (before node : ℕ) (state : NodeReader) → IsReading told files state.reader (whole_reading node) [] no_feed
    → state.reader.end ≡ Open → state.over ≡ false → NodeReads told files before before node state no_feed
node_new told files before node state reads opens over = record {
  taken = [];
  reads = reads;
  rises = le_refl before;
  failed = λ is. absurd (let e : Open ≡ ReadFailed = sym opens ∙ is in cc);
  over = λ is. absurd (let e : false ≡ true = sym over ∙ is in cc);
}

over_so : (told : Bool) (files : List (List ℕ)) (reader : ReaderState) (reading : SortReading) (taken : List LogEntry) (feed : NodeFeed) (step : Step) → step ≡ End
    → Comes told files reader reading taken feed step → IsOver reader reading taken (feed_by step feed)
over_so told files reader reading taken feed step is comes =
    let end : Comes told files reader reading taken feed End = subst (Comes told files reader reading taken feed) is comes in
    subst (λ (s : Step). IsOver reader reading taken (feed_by s feed)) (sym is) record { ended = end.0; given = end.1 }

pub node_stepped : (told : Bool) (files : List (List ℕ)) (now later : ℕ) (old new : NodeReader) (reader : ReaderState) (step : Step) → new.reader ≡ reader
    → ((reading : SortReading) (taken : List LogEntry) (feed : NodeFeed) → IsReading told files old.reader reading taken feed → StepsTo told files reader reading taken feed step)
    → (reader.end ≡ ReadFailed → (old.reader.end ≡ ReadFailed) ⊎ Rose now later) → now ≤ later → (new.over ≡ true → step ≡ End)
    → (before node : ℕ) (feed : NodeFeed) → NodeReads told files before now node old feed
    → NodeReads told files before later node new (feed_by step feed) × FeedGrows feed (feed_by step feed)
node_stepped told files now later old new reader step same steps fails rises ends before node feed reads =
    let to = steps (whole_reading node) reads.taken feed reads.reads in (
      record {
        taken = reads.taken ++ to.more;
        reads = subst (λ (r : ReaderState). IsReading told files r (whole_reading node) (reads.taken ++ to.more) (feed_by step feed)) (sym same) to.reads;
        rises = omega (arith, reads.rises, rises);
        failed = λ is. ⊎_elim (λ was. omega (arith, reads.failed was, rises)) (λ rose. omega (arith, rose, reads.rises)) (fails (sym (ap (λ (r : ReaderState). r.end) same) ∙ is));
        over = λ is.
            subst (λ (r : ReaderState). IsOver r (whole_reading node) (reads.taken ++ to.more) (feed_by step feed)) (sym same)
            (over_so told files reader (whole_reading node) (reads.taken ++ to.more) feed step (ends is) to.comes);
      },
      to.grows,
    )

-- ---- all nodes

pub stepped : {S : Type 0} → NodeSettledInOrder → (told : Bool) (held : S → List (List ℕ)) (failed : S → ℕ) (befores : List ℕ) (sources : List S) (printer mid new : Printer)
    (index : ℕ) (source source_new : S) (state state_new : NodeReader) (step : Step) → IsRunning told held failed befores sources printer
    → index < length sources → source ≡ get_or sources index source → state ≡ get_or printer.nodes.items index state
    → ((before node : ℕ) (feed : NodeFeed) → NodeReads told (held source) before (failed source) node state feed
    → NodeReads told (held source) before (failed source_new) node state_new (feed_by step feed) × FeedGrows feed (feed_by step feed))
    → held source_new ≡ held source
    → ((feeds : List NodeFeed) → IsMergedBy printer feeds → IsMergedBy mid feeds)
    → ((feeds : List NodeFeed) → IsMergedBy mid feeds → CanTake (index + 1) step feeds → IsMergedBy new (changed_at (feed_by step) (index + 1 - 1) feeds))
    → new.nodes.items ≡ set printer.nodes.items index state_new
    → IsRunning told held failed befores (set sources index source_new) new
stepped law told held failed befores sources printer mid new index source source_new state state_new step running h is same nexts holds kept takes nodes =
    let feeds = running.feeds in
    let feed = node_at feeds index in
    let before = get_or befores index 0 in
    let one = nexts before (1 + index) feed
    (reads_at told held failed 1 befores sources printer.nodes.items feeds index source state running.reading h is same) in
    let place : index ≡ index + 1 - 1 = omega arith in
    let ordered : IsOrderedFeed first_key (feed_by step feed)
    = reads_in_order law told (held source) before (failed source_new) (1 + index) state_new (feed_by step feed) one.0 in
    record {
      feeds = changed_at (feed_by step) index feeds;
      reading =
          subst (λ (states : List NodeReader). AreReading told held failed 1 befores (set sources index source_new) states (changed_at (feed_by step) index feeds)) (sym nodes)
          (reads_on told held failed 1 befores sources printer.nodes.items feeds index source_new state_new (feed_by step) running.reading h
          (subst (λ (files : List (List ℕ)). NodeReads told files before (failed source_new) (1 + index) state_new (feed_by step feed)) (sym holds) one.0));
      merged =
          subst (λ (i : ℕ). IsMergedBy new (changed_at (feed_by step) i feeds)) (sym place)
          (takes feeds (kept feeds running.merged) record {
            ordered = subst (λ (i : ℕ). IsOrderedFeed first_key (feed_by step (node_at feeds i))) place ordered;
            grows = subst (λ (i : ℕ). FeedGrows (node_at feeds i) (feed_by step (node_at feeds i))) place one.1;
          });
    }

-- what nodes gave is merged all, and reading goes on
pub settled_running : {S : Type 0} (told : Bool) (held : S → List (List ℕ)) (failed : S → ℕ) (befores : List ℕ) (sources : List S) (mid new : Printer) → new.nodes.items ≡ mid.nodes.items
    → ((feeds : List NodeFeed) → IsMergedBy mid feeds → IsMergedAllBy new feeds) → IsRunning told held failed befores sources mid → IsRunning told held failed befores sources new
settled_running told held failed befores sources mid new same all running = record {
  feeds = running.feeds;
  reading = subst (λ (states : List NodeReader). AreReading told held failed 1 befores sources states running.feeds) (sym same) running.reading;
  merged = merged_still new.prints new.merger new.printing running.feeds (all running.feeds running.merged);
}

-- a print that begins is running
pub begins_running : {S : Type 0} (told : Bool) (held : S → List (List ℕ)) (failed : S → ℕ) (sources : List S) (printer : Printer) (nodes : ℕ) → length sources ≡ nodes
    → length printer.nodes.items ≡ nodes → HasReadNothing printer nodes → IsRunning told held failed (map failed sources) sources printer
begins_running told held failed sources printer nodes many same begins = record {
  feeds = no_feeds nodes;
  reading = all_begin told held failed 1 sources printer.nodes.items nodes begins.0 many same;
  merged = begins.1;
}
