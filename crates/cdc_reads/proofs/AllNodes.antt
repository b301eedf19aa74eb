-- What the jobs of all nodes have read and sent, and what it comes to as the content of a pass.
use Rattle.std.proofs.Common.{◌≡◌, ℕ, zero, suc, ◌+◌, true, IsTrue, List, [], ◌∷◌, arith}
use Rattle.std.specs.List.{All, AllZip, AllByRecursion}
use Rattle.cdc_base.specs.declared.key.Key.{Key}
use Rattle.cdc_model.specs.declared.node_log.NodeLog.{NodeLog}
use Rattle.cdc_model.specs.Records.{LogEntry}
use Rattle.cdc_model.specs.Soundness.{sound_entries}
use Rattle.cdc_model.specs.Commits.{IsStart}
use Rattle.cdc_model.specs.Restart.{RestartPoint, first_point, start_at, RestartPointIsStart}
use Rattle.cdc_content.specs.Reading.{HaveReadFrom, HaveReadAll, AreLatestOfRead}
use Rattle.cdc_content.specs.Laws.{ReadingsStandSo}
use Rattle.cdc_content.proofs.Behind.{PointsFrom}
use Rattle.cdc_item.specs.declared.node_item.NodeItem.{NodeItem}
use Rattle.cdc_node_stage.specs.Sending.{node_state, HasSent}
use Rattle.cdc_node_stage.specs.Job.{SourceWords, SourcedStage}
use Rattle.cdc_merge_stage.specs.Merged.{IsKeptItems, feeds_of}
use Rattle.cdc_windows.specs.Sourced.{MayRestartAt, HasReadOn}
use Rattle.cdc_reads.specs.Begun.{AllBegin, files_of_jobs}
use Rattle.cdc_reads.specs.Ended.{AreReadThrough}
use Rattle.cdc_reads.proofs.OneNode.{NodeHasRead, node_has_read, has_read_from, has_read_all}

-- what holds at each place holds of each
pub each_by_recursion : {X : Type 0} (P : X → Type 0) (xs : List X) → All P xs → AllByRecursion P xs
each_by_recursion P [] all = tt
each_by_recursion P (x ∷ xs) all = (all zero x (omega arith), each_by_recursion P xs (λ k d within. all (suc k) d (omega (arith, within))))

-- each job has read and sent so, of nodes of which the first has this number
abbrev pub AllHaveRead : {S : Type 0} → SourceWords S → ℕ → Key → List RestartPoint → List (SourcedStage S) → List (SourcedStage S) → List (List LogEntry) → List (List NodeItem) → Type 0
AllHaveRead w node last [] [] [] [] [] = Unit {0}
AllHaveRead w node last (point ∷ points) (job ∷ jobs) (later ∷ laters) (taken ∷ takens) (items ∷ sends) =
    NodeHasRead w last point node job later taken items × AllHaveRead w (node + 1) last points jobs laters takens sends
AllHaveRead w node last points jobs laters takens sends = ⊥

-- there is what each has taken
pub record HaveTaken {S : Type 0} (w : SourceWords S) (node : ℕ) (last : Key) (points : List RestartPoint) (jobs laters : List (SourcedStage S)) (sends : List (List NodeItem)) : Type 0 where
  pub takens : List (List LogEntry)
  pub each : AllHaveRead w node last points jobs laters takens sends

-- jobs that began and have ended their windows
pub have_taken : {S : Type 0} (w : SourceWords S) (node : ℕ) (last : Key) (points : List RestartPoint) (jobs laters : List (SourcedStage S)) (window : ℕ) (sends : List (List NodeItem))
    → AllBegin node last points jobs → AllZip (HasReadOn w) jobs laters
    → AllZip (λ (later : SourcedStage S) (items : List NodeItem). HasSent w.tells (w.held later.source) (node_state later.stage) window items) laters sends
    → AllByRecursion (λ (later : SourcedStage S). later.stage.ended ≡ true) laters → HaveTaken w node last points jobs laters sends
have_taken w node last [] [] [] window [] begin on sent ended = record { takens = []; each = tt }
have_taken w node last (point ∷ points) (job ∷ jobs) (later ∷ laters) window (items ∷ sends) (begins, begin) (is_on, on) (has, sent) (is, ended) =
    let rest = have_taken w (node + 1) last points jobs laters window sends begin on sent ended in
    record { takens = has.taken ∷ rest.takens; each = (node_has_read w last point node begins.0 job later begins.1 is_on window items has is, rest.each) }
have_taken w node last [] [] [] window (items ∷ sends) begin on sent ended = absurd sent
have_taken w node last [] [] (later ∷ laters) window sends begin on sent ended = absurd on
have_taken w node last [] (job ∷ jobs) laters window sends begin on sent ended = absurd begin
have_taken w node last (point ∷ points) [] laters window sends begin on sent ended = absurd begin
have_taken w node last (point ∷ points) (job ∷ jobs) [] window sends begin on sent ended = absurd on
have_taken w node last (point ∷ points) (job ∷ jobs) (later ∷ laters) window [] begin on sent ended = absurd sent

module _ {S : Type 0} (w : SourceWords S) (law : ReadingsStandSo) (tells : IsTrue w.tells) where
  -- all have read from their points on
  pub have_read_from : (node : ℕ) (last : Key) (points : List RestartPoint) (jobs laters : List (SourcedStage S)) (takens : List (List LogEntry)) (sends : List (List NodeItem))
      → AllHaveRead w node last points jobs laters takens sends → HaveReadFrom node (files_of_jobs w jobs) last points takens (feeds_of sends)
  have_read_from node last [] [] [] [] [] all = tt
  have_read_from node last (point ∷ points) (job ∷ jobs) (later ∷ laters) (taken ∷ takens) (items ∷ sends) (has, all) = (
    has_read_from w law tells last point node job later taken items has,
    have_read_from (node + 1) last points jobs laters takens sends all,
  )
  have_read_from node last points jobs laters takens sends all = absurd all

  -- and all of their logs where each reading came to its log's end or fault
  pub have_read_all : (node : ℕ) (last : Key) (points : List RestartPoint) (jobs laters : List (SourcedStage S)) (takens : List (List LogEntry)) (sends : List (List NodeItem))
      → AllHaveRead w node last points jobs laters takens sends → AreReadThrough laters → HaveReadAll (files_of_jobs w jobs) points takens (feeds_of sends)
  have_read_all node last [] [] [] [] [] all through = tt
  have_read_all node last (point ∷ points) (job ∷ jobs) (later ∷ laters) (taken ∷ takens) (items ∷ sends) (has, all) (to, through) = (
    has_read_all w law tells last point node job later taken items has to,
    have_read_all (node + 1) last points jobs laters takens sends all through,
  )
  have_read_all node last points jobs laters takens sends all through = absurd all

-- what they sent is kept
pub all_kept : {S : Type 0} (w : SourceWords S) (node : ℕ) (last : Key) (points : List RestartPoint) (jobs laters : List (SourcedStage S)) (takens : List (List LogEntry)) (sends : List (List NodeItem))
    → AllHaveRead w node last points jobs laters takens sends → AllByRecursion (IsKeptItems last) sends
all_kept w node last [] [] [] [] [] all = tt
all_kept w node last (point ∷ points) (job ∷ jobs) (later ∷ laters) (taken ∷ takens) (items ∷ sends) (has, all) =
    (has.kept, all_kept w (node + 1) last points jobs laters takens sends all)
all_kept w node last points jobs laters takens sends all = absurd all

-- ---- points

-- readings from the points of a checkpoint begin well
pub points_start : RestartPointIsStart → (last : Key) (node : ℕ) (logs : List NodeLog) (points : List RestartPoint) → PointsFrom last node logs points
    → AllByRecursion (λ (point : RestartPoint). IsStart (start_at point)) points
points_start law last node [] [] are = tt
points_start law last node (log ∷ logs) (point ∷ points) (is, are) = (
  law last first_point node (sound_entries log.start log.entries) point (record { numbered = omega arith; in_order = tt; held = tt }) is,
  points_start law last (node + 1) logs points are,
)
points_start law last node [] (point ∷ points) are = absurd are
points_start law last node (log ∷ logs) [] are = absurd are

-- points from which all may be read again are the latest ones of what was taken
pub all_latest : {S : Type 0} (w : SourceWords S) (node : ℕ) (last key : Key) (points : List RestartPoint) (jobs laters : List (SourcedStage S)) (takens : List (List LogEntry)) (sends : List (List NodeItem)) (latests : List RestartPoint)
    → AllHaveRead w node last points jobs laters takens sends → AllByRecursion (λ (point : RestartPoint). IsStart (start_at point)) points
    → AllZip (λ (later : SourcedStage S) (latest : RestartPoint). MayRestartAt w later key latest) laters latests → AreLatestOfRead node key points takens latests
all_latest w node last key [] [] [] [] [] [] all starts may = tt
all_latest w node last key [] [] [] [] [] (latest ∷ latests) all starts may = absurd may
all_latest w node last key (point ∷ points) (job ∷ jobs) (later ∷ laters) (taken ∷ takens) (items ∷ sends) (latest ∷ latests) (has, all) (start, starts) (is, may) =
    (has.restarts key latest is start, all_latest w (node + 1) last key points jobs laters takens sends latests all starts may)
all_latest w node last key (point ∷ points) (job ∷ jobs) (later ∷ laters) (taken ∷ takens) (items ∷ sends) [] all starts may = absurd may
all_latest w node last key points jobs laters takens sends latests all starts may = absurd all
