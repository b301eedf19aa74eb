-- What one node's job has read and sent since it began at a point.
use Rattle.std.proofs.Common.{◌≡◌, ◌⊎◌, inl, inr, ℕ, true, IsTrue, List, ◌++◌, append-nil, reverse, Option, None, sym, ap, subst, ◌∙◌}
use Rattle.cdc_base.specs.declared.key.Key.{Key}
use Rattle.cdc_outside.specs.Count.{Rose}
use Rattle.cdc_model.specs.Records.{LogEntry}
use Rattle.cdc_model.specs.Commits.{IsStart}
use Rattle.cdc_model.specs.Feed.{NodeFeed}
use Rattle.cdc_model.specs.NodeReading.{no_feed, FeedsBehind}
use Rattle.cdc_model.specs.Restart.{RestartPoint, start_at, IsLatestPoint}
use Rattle.cdc_model.proofs.NodeFeeds.{node_settled_in_order}
use Rattle.cdc_sorter.specs.Sorting.{SortReading, low_of, settled_behind}
use Rattle.cdc_reader.specs.declared.step.NodeEnd.{NodeEnd}
use Rattle.cdc_reader.specs.declared.step.NodeEnd.TheVariants.{Open, Read as ReadFailed, Memory as NoMemory}
use Rattle.cdc_reader.specs.Standing.{IsReading, AllGiven}
use Rattle.cdc_content.specs.Reading.{HasReadFrom, HasReadAll}
use Rattle.cdc_content.specs.Laws.{IsToEnd, ReadingsStandSo}
use Rattle.cdc_item.specs.declared.node_item.NodeItem.{NodeItem}
use Rattle.cdc_node_stage.specs.Feeding.{ComeInTime, waiting_item}
use Rattle.cdc_node_stage.specs.Sending.{node_state, reading_of, HasSent}
use Rattle.cdc_node_stage.specs.Preparing.{BeginsAs}
use Rattle.cdc_node_stage.specs.Job.{SourceWords, SourcedStage}
use Rattle.cdc_merge_stage.specs.Merged.{feed_of, IsKeptItems}
use Rattle.cdc_windows.specs.Sourced.{MayRestartAt, HasReadOn}
use Rattle.cdc_print.proofs.Feeding.{ordered_feed}
use Rattle.cdc_reads.proofs.Alike.{feed_of_sent, comes_in_time}

-- what a job goes by: branches with keys above a last one, from a point of its log on
abbrev pub reading_from : Key → RestartPoint → ℕ → SortReading
reading_from last point node = record { last = last; from = point; node = node }

-- of its source's log a job has taken these entries since it began at this point, and sent what they give and tell; unless memory
-- was wanting, all that they settle; the latest point from which it may be read again is that of what was taken; and it failed by its
-- source only where that one's count rose
pub record NodeHasRead {S : Type 0} (w : SourceWords S) (last : Key) (point : RestartPoint) (node : ℕ) (job later : SourcedStage S) (taken : List LogEntry) (items : List NodeItem) : Type 0 where
  pub reads : IsReading w.tells (w.held job.source) (node_state later.stage).reader (reading_from last point node) taken (feed_of items)
  pub given : ((node_state later.stage).reader.end ≡ NoMemory → ⊥) → AllGiven (reading_from last point node) taken (feed_of items)
  pub kept : IsKeptItems last items
  pub restarts : (key : Key) (latest : RestartPoint) → MayRestartAt w later key latest → IsStart (start_at point) → IsLatestPoint key point node taken latest
  pub failed : (node_state later.stage).reader.end ≡ ReadFailed → Rose (w.faults job.source) (w.faults later.source)

-- what a node gave of what it read is kept: in time, and in order
kept_items : (last : Key) (point : RestartPoint) (node : ℕ) (taken : List LogEntry) (items : List NodeItem)
    → ComeInTime no_feed items → FeedsBehind last (start_at point) node (reverse taken) (feed_of items) → IsKeptItems last items
kept_items last point node taken items came feeds = record {
  in_time = comes_in_time no_feed items came;
  ordered =
      ordered_feed last (low_of (reading_from last point node) (reverse taken)) (settled_behind (reading_from last point node) (reverse taken)) (feed_of items)
      (node_settled_in_order last (low_of (reading_from last point node) (reverse taken)) (start_at point) node (reverse taken)) feeds.first;
}

-- what began open, and failed, failed since
failed_since : (end : NodeEnd) (before now : ℕ) → end ≡ Open → (end ≡ ReadFailed) ⊎ Rose before now → Rose before now
failed_since end before now open_then (inl failed) = absurd cc
failed_since end before now open_then (inr rose) = rose

module _ {S : Type 0} (w : SourceWords S) (last : Key) (point : RestartPoint) (node size : ℕ) (job later : SourcedStage S)
    (begins : BeginsAs (node_state job.stage) (reading_from last point node) size) (on : HasReadOn w job later) where
  -- it goes by its point still
  goes_by : reading_of (node_state later.stage) ≡ reading_from last point node
  goes_by = on.reading ∙ begins.goes_by

  module _ (window : ℕ) (items : List NodeItem) (sent : HasSent w.tells (w.held later.source) (node_state later.stage) window items)
      (ended : later.stage.ended ≡ true) where
    -- nothing waits
    is_empty : (node_state later.stage).pending ≡ None
    is_empty = sent.emptied ended

    -- what was sent is all that its reader gave and told
    is_read : IsReading w.tells (w.held job.source) (node_state later.stage).reader (reading_from last point node) sent.taken (feed_of items)
    is_read =
        subst (λ (files : List (List ℕ)). IsReading w.tells files (node_state later.stage).reader (reading_from last point node) sent.taken (feed_of items)) on.asked.held
        (subst (λ (r : SortReading). IsReading w.tells (w.held later.source) (node_state later.stage).reader r sent.taken (feed_of items)) goes_by
        (subst (λ (f : NodeFeed). IsReading w.tells (w.held later.source) (node_state later.stage).reader (reading_of (node_state later.stage)) sent.taken f)
        (feed_of_sent items (node_state later.stage).pending is_empty) sent.reads))

    -- and all that is settled of what was taken
    is_given : ((node_state later.stage).reader.end ≡ NoMemory → ⊥) → AllGiven (reading_from last point node) sent.taken (feed_of items)
    is_given had =
        subst (λ (r : SortReading). AllGiven r sent.taken (feed_of items)) goes_by
        (subst (λ (f : NodeFeed). AllGiven (reading_of (node_state later.stage)) sent.taken f) (feed_of_sent items (node_state later.stage).pending is_empty)
        ((sent.closed (inl ended)).given had))

    -- it came in time
    came_in_time : ComeInTime no_feed items
    came_in_time =
        subst (λ (list : List NodeItem). ComeInTime no_feed list) (append-nil items)
        (subst (λ (p : Option NodeItem). ComeInTime no_feed (items ++ waiting_item p)) is_empty sent.in_time)

    -- where it may be read again is the latest point of what was taken
    restarts_at : (key : Key) (latest : RestartPoint) → MayRestartAt w later key latest → IsStart (start_at point) → IsLatestPoint key point node sent.taken latest
    restarts_at key latest may start =
        let from : later.stage.from ≡ point = ap (λ (r : SortReading). r.from) goes_by in
        subst (λ (r : SortReading). IsLatestPoint key r.from r.node sent.taken latest) goes_by
        (may window items sent (subst (λ (p : RestartPoint). IsStart (start_at p)) (sym from) start))

    -- a job that began and has ended its windows
    pub node_has_read : NodeHasRead w last point node job later sent.taken items
    node_has_read = record {
      reads = is_read;
      given = is_given;
      kept = kept_items last point node sent.taken items came_in_time is_read.feeding.feeds;
      restarts = restarts_at;
      failed = λ failed. failed_since (node_state job.stage).reader.end (w.faults job.source) (w.faults later.source) begins.fresh.3 (on.asked.fails failed);
    }

-- ---- as the content of passes speaks of it

module _ {S : Type 0} (w : SourceWords S) (law : ReadingsStandSo) (tells : IsTrue w.tells) (last : Key) (point : RestartPoint) (node : ℕ) (job later : SourcedStage S)
    (taken : List LogEntry) (items : List NodeItem) (has : NodeHasRead w last point node job later taken items) where
  -- these are the first sound entries
  pub has_read_from : HasReadFrom (w.held job.source) last point node taken (feed_of items)
  has_read_from = (law w.tells (w.held job.source) (node_state later.stage).reader (reading_from last point node) taken (feed_of items) tells has.reads).read

  -- an end of the log isn't want of memory
  had_memory : (end : NodeEnd) → IsToEnd end → end ≡ NoMemory → ⊥
  had_memory end to wanting = subst IsToEnd wanting to

  -- and all of them where the reading came to its log's end or its fault
  pub has_read_all : IsToEnd (node_state later.stage).reader.end → HasReadAll (w.held job.source) point taken (feed_of items)
  has_read_all to =
      (law w.tells (w.held job.source) (node_state later.stage).reader (reading_from last point node) taken (feed_of items) tells has.reads).all to
      (has.given (had_memory (node_state later.stage).reader.end to))
