-- What the job of a node over its source tells of being read again.
use Rattle.std.specs.Prelude.{◌≡◌, ℕ, Bool, true, false, List}
use Rattle.cdc_base.specs.declared.key.Key.{Key}
use Rattle.cdc_model.specs.Commits.{IsStart}
use Rattle.cdc_model.specs.Restart.{RestartPoint, start_at, IsLatestPoint}
use Rattle.cdc_reader.specs.declared.step.NodeEnd.{NodeEnd}
use Rattle.cdc_reader.specs.declared.step.NodeEnd.TheVariants.{Open, Whole, Read as ReadFailed, Memory as NoMemory, Fault as Faulty}
use Rattle.cdc_item.specs.declared.node_item.NodeItem.{NodeItem}
use Rattle.cdc_node_stage.specs.Sending.{node_state, reading_of, HasSent}
use Rattle.cdc_node_stage.specs.Job.{SourceWords, SourcedStage, HasAsked}
use Rattle.cdc_merge_stage.specs.Merged.{MergeState}
use Rattle.cdc_windows.specs.declared.reached.Reached.{Reached}
use Rattle.cdc_windows.specs.Rereading.{Rereading}

-- a reading is over by how it ended
abbrev pub is_over_by : NodeEnd → Bool
is_over_by Open = false
is_over_by Whole = true
is_over_by ReadFailed = true
is_over_by NoMemory = true
is_over_by (Faulty place fault) = true

-- a stage may be read again from a point for a key: it is the latest restart point of what was taken, whatever was sent
abbrev pub MayRestartAt : {S : Type 0} → SourceWords S → SourcedStage S → Key → RestartPoint → Type 0
MayRestartAt w job last point =
    (window : ℕ) (items : List NodeItem) (sent : HasSent w.tells (w.held job.source) (node_state job.stage) window items)
    → IsStart (start_at job.stage.from) → IsLatestPoint last job.stage.from job.stage.reader.sorter.node sent.taken point

-- what turns and forgetting leave of a stage and its source: what it goes by, its end once it is over, and the source's bytes; it
-- asked for nothing below its point, and failed by the source only where that one's count rose
pub record HasReadOn {S : Type 0} (w : SourceWords S) (old new : SourcedStage S) : Type 0 where
  pub reading : reading_of (node_state new.stage) ≡ reading_of (node_state old.stage)
  pub over : (old.stage.reader.end ≡ Open → ⊥) → new.stage.reader.end ≡ old.stage.reader.end
  pub asked : HasAsked w (node_state old.stage) old.source (node_state new.stage) new.source

-- what such a job tells
abbrev pub node_rereading : {S : Type 0} → SourceWords S → Rereading (SourcedStage S)
node_rereading w = record {
  may_restart = MayRestartAt w;
  over = λ job. is_over_by job.stage.reader.end;
  known = λ job. job.stage.reader.sorter.trail.known;
  read_on = HasReadOn w;
}

-- how far a merge stage came: where it would begin behind the last unit that was made
abbrev pub reached_by : MergeState → Reached
reached_by s = record { count = s.behind.count; last = s.behind.last; layout = s.behind.before }
