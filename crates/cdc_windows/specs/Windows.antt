-- Windows: what a pass gave and kept so far.
use Rattle.std.specs.Prelude.{◌≡◌, ℕ, ◌+◌, ◌≤◌, true, Bool, IsTrue, List, length, map, take, Some, Option}
use Rattle.std.specs.List.{All, AllZip, AllByRecursion}
use Rattle.cdc_outside.specs.Disk.{Image, LeavesOnly}
use Rattle.cdc_model.specs.declared.node_log.NodeLog.{NodeLog}
use Rattle.cdc_model.specs.Output.{layout_of}
use Rattle.cdc_model.specs.Records.{Transaction}
use Rattle.cdc_model.specs.Restart.{RestartPoint, AreRestartPoints}
use Rattle.cdc_model.specs.Transaction.{key_at}
use Rattle.cdc_cell.specs.declared.cell.Cell.{Cell}
use Rattle.cdc_cell.specs.Cell.{cell_number_of}
use Rattle.cdc_cell.specs.Record.{CellRecord, kept_record}
use Rattle.cdc_records.specs.declared.checkpoint.Checkpoint.{Checkpoint}
use Rattle.cdc_records.specs.Checkpoint.{IsPoint, point_number}
use Rattle.cdc_recovery.specs.Outputs.{OutputPlan, planned_transactions, KeepsFrom}
use Rattle.cdc_recovery.specs.Checkpoints.{KeepsPoint}
use Rattle.cdc_recovery.specs.Growing.{Each, TaskKept}
use Rattle.cdc_turns.specs.Account.{Sender, Passer, Taker}
use Rattle.cdc_turns.specs.Joined.{joined, nothing_for, AllTurned}
use Rattle.cdc_turns.specs.Flow.{Line, Flow, Ran, LanesFit}
use Rattle.cdc_item.specs.declared.node_item.NodeItem.{NodeItem}
use Rattle.cdc_item.specs.declared.dump_item.DumpItem.{DumpItem}
use Rattle.cdc_dump_stage.specs.declared.dump_end.DumpEnd.TheVariants.{Whole}
use Rattle.cdc_dump_stage.specs.Disks.{DiskWords, LosesNothing}
use Rattle.cdc_dump_stage.specs.Standing.{IsReadyFor, AreUnits, units_in}
use Rattle.cdc_dump_stage.specs.Job.{StagedDisk}
use Rattle.cdc_windows.specs.declared.reached.Reached.{Reached}
use Rattle.cdc_windows.specs.Keeping.{IsStoredBy}
use Rattle.cdc_windows.specs.Rereading.{Rereading}

-- an output is whole: whatever so many transactions it was ready for the next of, each image of it keeps them
pub record IsWholeOut {D : Type 0} (w : DiskWords D) (job : StagedDisk D) : Type 0 where
  pub whole : job.stage.end ≡ Whole
  pub keeps : IsTrue w.tells → (plan : OutputPlan) (txns : List Transaction) (sent : ℕ) → IsReadyFor w plan txns sent job.stage job.disk → Each (w.may_leave job.disk) (KeepsFrom plan txns sent)

-- all outputs have published what their windows gave
abbrev pub AreWholeStages : {D : Type 0} → DiskWords D → List (StagedDisk D) → Type 0
AreWholeStages w dumps = AllByRecursion (IsWholeOut w) dumps

-- the checkpoint of nodes that came so far, under a rotation size
pub record IsCheckpointOf {N : Type 0} (r : Rereading N) (rotation : ℕ) (nodes : List N) (came : Reached) (p : Checkpoint) : Type 0 where
  pub count : p.count ≡ came.count
  pub layout : p.layout ≡ came.layout
  pub last : p.last ≡ came.last
  pub rotation_is : p.rotation ≡ Some rotation
  pub points : AllZip (λ node cut. r.may_restart node came.last cut) nodes p.nodes

-- items have the units of the next transactions behind the first so many, up to a count
pub record HasUnits (plan : OutputPlan) (txns : List Transaction) (from count : ℕ) (items : List DumpItem) : Type 0 where
  pub units : AreUnits plan txns from items
  pub many : from + units_in items ≡ count

-- a pass that began behind the first so many transactions gave the units of the next ones to each output, up to where it came
pub record AreGiven (plan : OutputPlan) (txns : List Transaction) (from : ℕ) (came : Reached) (gives : List (List DumpItem)) : Type 0 where
  pub within : came.count ≤ length txns
  pub last : came.last ≡ key_at txns came.count
  pub layout : came.layout ≡ layout_of plan.rules plan.rotation (take came.count txns)
  pub units : AllByRecursion (HasUnits plan txns from came.count) gives

-- what was sent and given in so many windows by jobs that have ended, which came of these by turns and by forgetting
pub record HaveEndedFrom {N M : Type 0} (a : Sender N NodeItem) (m : Passer M NodeItem DumpItem) (r : Rereading N) (nodes : List N) (merge : M) (laters : List N) (later : M) (window : ℕ) (sends : List (List NodeItem)) (gives : List (List DumpItem)) : Type 0 where
  pub nodes_on : AllZip r.read_on nodes laters
  pub merge_on : m.turned merge later
  pub sent : AllZip (λ node items. a.sent node window items) laters sends
  pub did : m.did later window sends gives
  pub nodes_ended : All (λ node. a.ended node ≡ true) laters
  pub merge_ended : m.ended later ≡ true

-- jobs of nodes and a merge job read these logs behind the first so many transactions: whatever they sent and gave since, in
-- however many windows, the units given are those of the logs' transactions, and points from which the nodes may be read
-- again are restart points
pub record ReadLogs {N M : Type 0} (a : Sender N NodeItem) (m : Passer M NodeItem DumpItem) (r : Rereading N) (came : M → Reached) (plan : OutputPlan) (logs : List NodeLog) (from : ℕ) (nodes : List N) (merge : M) : Type 0 where
  pub gives : (laters : List N) (later : M) (window : ℕ) (sends : List (List NodeItem)) (gives : List (List DumpItem))
      → HaveEndedFrom a m r nodes merge laters later window sends gives
      → AreGiven plan (planned_transactions plan logs) from (came later) gives
  pub points : (laters : List N) (later : M) (window : ℕ) (sends : List (List NodeItem)) (gives : List (List DumpItem)) (points : List RestartPoint)
      → HaveEndedFrom a m r nodes merge laters later window sends gives
      → AllZip (λ node point. r.may_restart node (came later).last point) laters points → AreRestartPoints (came later).last logs points

-- jobs have run to the end of a window: what they sent and gave in all windows
pub record HaveRun {N M : Type 0} (a : Sender N NodeItem) (m : Passer M NodeItem DumpItem) (r : Rereading N) (nodes : List N) (merge : M) (laters : List N) (later : M) : Type 0 where
  pub window : ℕ
  pub sends : List (List NodeItem)
  pub gives : List (List DumpItem)
  pub ended : HaveEndedFrom a m r nodes merge laters later window sends gives

-- before the first window: nothing was sent or given
pub record IsBegun {N M D T U : Type 0} (a : Sender N T) (m : Passer M T U) (d : Taker D U) (line : Line N M D T U) : Type 0 where
  pub fits : LanesFit m line
  pub flow : Flow a m d 1 line
  pub gets : flow.gets ≡ nothing_for line.dumps

-- in a window: what the outputs' jobs took since the first one is what they got
pub record IsFlowing {N M D T U : Type 0} (a : Sender N T) (m : Passer M T U) (d : Taker D U) (r : Rereading N) (first line : Line N M D T U) : Type 0 where
  pub fits : LanesFit m line
  pub window : ℕ
  pub flow : Flow a m d window line
  pub nodes : AllZip r.read_on first.nodes line.nodes
  pub merge : m.turned first.merge line.merge
  pub dumps : AllTurned d.turned first.dumps flow.gets line.dumps

-- behind a window: all have ended, and what the outputs' jobs took in all windows is what was given
pub record HasRun {N M D T U : Type 0} (a : Sender N T) (m : Passer M T U) (d : Taker D U) (r : Rereading N) (first line : Line N M D T U) : Type 0 where
  pub fits : LanesFit m line
  pub window : ℕ
  pub ran : Ran a m d window line
  pub nodes : AllZip r.read_on first.nodes line.nodes
  pub merge : m.turned first.merge line.merge
  pub dumps : AllTurned d.turned first.dumps ran.gives line.dumps

-- a window that flowed has run to its end, and what the outputs' jobs took in it came behind what they had got
pub record RunsOn {N M D T U : Type 0} (a : Sender N T) (m : Passer M T U) (d : Taker D U) (r : Rereading N) (first old new : Line N M D T U) (flows : IsFlowing a m d r first old) : Type 0 where
  pub has_run : HasRun a m d r first new
  pub taken : List (List U)
  pub gives : has_run.ran.gives ≡ joined flows.flow.gets taken
  pub dumps : AllTurned d.turned old.dumps taken new.dumps

-- the disks of jobs
abbrev pub disks_of : {D : Type 0} → List (StagedDisk D) → List D
disks_of {D} dumps = map (λ (job : StagedDisk D). job.disk) dumps

-- over a run no output loses anything, and each is ready for what follows the first so many transactions
abbrev pub OutsGoOn : {D : Type 0} → DiskWords D → OutputPlan → List Transaction → ℕ → List (StagedDisk D) → List (StagedDisk D) → Type 0
OutsGoOn {D} w plan txns count olds news =
    AllZip (λ (old : StagedDisk D) (new : StagedDisk D). LosesNothing w plan txns old.disk new.disk × IsReadyFor w plan txns count new.stage new.disk) olds news

-- over a run each image of the task is recoverable and no checkpoint was kept that runs ahead of an output
pub record TaskGoesOn {D : Type 0} (w : DiskWords D) (plan : OutputPlan) (logs : List NodeLog) (count : ℕ) (outs : List D) (old new : D) : Type 0 where
  pub most : ℕ
  pub below : most ≤ count
  pub kept : TaskKept w.may_leave w.moment w.left_since plan logs (planned_transactions plan logs) outs old new most

-- windows behind the first so many transactions of these logs: what the outputs and the task keep
pub record KeepsAll {D : Type 0} (w : DiskWords D) (plan : OutputPlan) (logs : List NodeLog) (count : ℕ) (olds news : List (StagedDisk D)) (task_old task_new : D) : Type 0 where
  pub outs : OutsGoOn w plan (planned_transactions plan logs) count olds news
  pub task : AllByRecursion (λ (disk : D). Each (w.may_leave disk) (KeepsFrom plan (planned_transactions plan logs) 0)) (disks_of olds)
      → Each (w.may_leave task_old) (λ (image : Image). (point : Option Checkpoint) × KeepsPoint plan logs point image)
      → TaskGoesOn w plan logs count (disks_of news) task_old task_new

-- the checkpoint of a window, where it was kept: all outputs were whole
pub record KeptWindow {N D : Type 0} (w : DiskWords D) (r : Rereading N) (rotation : ℕ) (nodes : List N) (came : Reached) (dumps : List (StagedDisk D)) (old new : D) : Type 0 where
  pub whole : Bool
  pub are_whole : whole ≡ true → AreWholeStages w dumps
  pub any_moment : LeavesOnly w.moment w.left_since old new (IsStoredBy (w.may_leave old) (w.seen old) (whole ≡ true) (IsCheckpointOf r rotation nodes came))

-- the checkpoint of nodes that came so far is kept, or a record whose number isn't below its own, where a record may have it
pub record IsOffered {N : Type 0} (r : Rereading N) (rotation : ℕ) (nodes : List N) (came : Reached) (cell : Cell) : Type 0 where
  pub point : Checkpoint
  pub made : IsCheckpointOf r rotation nodes came point
  pub kept : IsPoint point → point_number point ≤ cell_number_of cell

-- an image has a record of at least this number
pub record HasNumberFrom (least : ℕ) (image : Image) : Type 0 where
  pub is : CellRecord
  pub there : kept_record image ≡ Some is
  pub reached : least ≤ is.number

-- behind the last window each image of the task has the record of the checkpoint of where the jobs came, or one whose number isn't
-- below its own, where a record may have it
pub record IsLastKept {N D : Type 0} (w : DiskWords D) (r : Rereading N) (rotation : ℕ) (nodes : List N) (came : Reached) (task : D) : Type 0 where
  pub point : Checkpoint
  pub made : IsCheckpointOf r rotation nodes came point
  pub kept : IsPoint point → Each (w.may_leave task) (HasNumberFrom (point_number point))
