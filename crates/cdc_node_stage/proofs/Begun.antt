-- A stage at its beginning, and one whose reader forgot points.
use Rattle.std.proofs.Common.{◌≡◌, ℕ, inl, inr, Bool, true, false, List, [], ◌++◌, Option, Some, None, refl, sym, ap, subst, ◌∙◌}
use Rattle.cdc_base.specs.declared.key.Key.{Key}
use Rattle.cdc_base.specs.declared.place.Place.{Place}
use Rattle.cdc_model.specs.Records.{LogEntry}
use Rattle.cdc_model.specs.Feed.{NodeFeed}
use Rattle.cdc_model.specs.NodeReading.{no_feed}
use Rattle.cdc_model.specs.Restart.{RestartPoint}
use Rattle.cdc_sorter.specs.Sorting.{SortReading}
use Rattle.cdc_reader.specs.declared.log.LogReader.{LogReader}
use Rattle.cdc_reader.specs.declared.step.NodeEnd.TheVariants.{Open}
use Rattle.cdc_reader.specs.Asking.{IsFromOn}
use Rattle.cdc_reader.specs.LogFront.{IsTakenTo}
use Rattle.cdc_reader.specs.Standing.{ReaderState, AllGiven, IsReading}
use Rattle.cdc_reader.proofs.Asked.{from_itself}
use Rattle.cdc_turns.specs.Ends.{EndsAs}
use Rattle.cdc_item.specs.declared.node_item.NodeItem.{NodeItem}
use Rattle.cdc_item.specs.declared.node_item.NodeItem.TheVariants.{End}
use Rattle.cdc_item.specs.Item.{closes_node_window}
use Rattle.cdc_node_stage.specs.Feeding.{feed_sent, ComeInTime, waiting_item}
use Rattle.cdc_node_stage.specs.Sending.{NodeState, reading_of, IsWindowOver, IsWindowGiven, HasSent, IsNodeStanding}
use Rattle.cdc_node_stage.specs.Preparing.{BeginsAs}
use Rattle.cdc_node_stage.proofs.Sent.{after, same_reading, still_stands}

abbrev reading_by : Key → RestartPoint → ℕ → SortReading
reading_by last from node = record { last = last; from = from; node = node }

module _ (s : NodeState) (reading : SortReading) (window : ℕ) (none : s.pending ≡ None) (open_still : s.ended ≡ false) (from : s.from ≡ reading.from)
    (reads : (tells : Bool) (files : List (List ℕ)) → IsReading tells files s.reader reading [] no_feed) where
  reads_by : reading_of s ≡ reading
  reads_by =
      let first = reads true [] in
      ap (λ (last : Key). reading_by last s.from s.reader.sorter.node) first.feeding.sorted.last
      ∙ ap (λ (point : RestartPoint). reading_by reading.last point s.reader.sorter.node) from
      ∙ ap (λ (node : ℕ). reading_by reading.last reading.from node) first.feeding.sorted.node

  reads_nothing : (tells : Bool) (files : List (List ℕ)) → IsReading tells files s.reader (reading_of s) [] no_feed
  reads_nothing tells files = subst (λ (r : SortReading). IsReading tells files s.reader r [] no_feed) (sym reads_by) (reads tells files)

  sends_nothing : (tells : Bool) (files : List (List ℕ)) → HasSent tells files s 1 []
  sends_nothing tells files = record {
    taken = [];
    reads = subst (λ (o : Option NodeItem). IsReading tells files s.reader (reading_of s) [] (feed_sent (waiting_item o))) (sym none) (reads_nothing tells files);
    in_time = subst (λ (o : Option NodeItem). ComeInTime no_feed (waiting_item o)) (sym none) tt;
    ends = subst (λ (b : Bool). EndsAs closes_node_window 1 b []) (sym open_still) refl;
    closed = λ over. by over;
    emptied = λ is. none;
  }
    where
      by : IsWindowOver s → IsWindowGiven tells files s [] (feed_sent (waiting_item s.pending))
      by (inl is) = absurd (let h : true ≡ false = sym is ∙ open_still in cc)
      by (inr is) = absurd (let h : None ≡ Some End = sym none ∙ is in cc)

  pub begins : s.window ≡ window → s.room ≡ window → s.reader.end ≡ Open → s.reader.log.place ≡ reading.from.place → s.reader.sorter.trail.known ≡ reading.last
      → BeginsAs s reading window
  begins sized room goes_on place known = record {
    sends = sends_nothing;
    stands = λ tells files. record {
      taken = [];
      feed = no_feed;
      reads = reads_nothing tells files;
      onward = subst (λ (p : Place). IsFromOn s.from.place p) (ap (λ (point : RestartPoint). point.place) from ∙ sym place) (from_itself s.from.place);
    };
    goes_by = reads_by;
    fresh = (sized, room, open_still, goes_on);
    known = known;
  }

-- ---- points are forgotten

module _ (tells : Bool) (files : List (List ℕ)) (s : NodeState) (reader : ReaderState)
    (keeps : (reading : SortReading) (taken : List LogEntry) (feed : NodeFeed) → IsReading tells files s.reader reading taken feed → IsReading tells files reader reading taken feed)
    (end : reader.end ≡ s.reader.end) (log : reader.log ≡ s.reader.log) where
  pub forgets_sent : (window : ℕ) (items : List NodeItem) → HasSent tells files s window items → HasSent tells files (after s reader s.pending s.room) window items
  forgets_sent window items sent =
      let feed = feed_sent (items ++ waiting_item s.pending) in
      let reads = keeps (reading_of s) sent.taken feed sent.reads in
      let same = same_reading tells files s reader s.pending s.room sent.taken feed reads in record {
        taken = sent.taken;
        reads = subst (λ (r : SortReading). IsReading tells files reader r sent.taken (feed_sent (items ++ waiting_item s.pending))) (sym same) reads;
        in_time = sent.in_time;
        ends = sent.ends;
        closed = λ over.
            let given = sent.closed over in record {
              given = λ not. subst (λ (r : SortReading). AllGiven r sent.taken (feed_sent (items ++ waiting_item s.pending))) (sym same) (given.given (λ is. not (end ∙ is)));
              all = λ going told. subst (λ (l : LogReader). IsTakenTo s.from files l.follower l.place sent.taken) (sym log) (given.all (sym end ∙ going) told);
            };
        emptied = sent.emptied;
      }

  pub forgets_stands : IsNodeStanding tells files s → IsNodeStanding tells files (after s reader s.pending s.room)
  forgets_stands stands =
      still_stands tells files s reader s.pending s.room stands.taken stands.feed (keeps (reading_of s) stands.taken stands.feed stands.reads)
      (subst (λ (l : LogReader). IsFromOn s.from.place l.place) (sym log) stands.onward)
