-- A pass that read all leaves the last checkpoint in each image of the task.
use Rattle.std.proofs.Common.{◌≡◌, ℕ, ◌+◌, ◌≤◌, ◌⊎◌, inl, inr, ◌<◌, ◌^◌, IsTrue, not, List, [], ◌∷◌, length, Option, Some, None, sym, ◌∙◌, subst, arith}
use Rattle.std.specs.List.{AllZip, AllByRecursion}
use Rattle.cdc_base.specs.declared.key.Key.{Key}
use Rattle.cdc_base.specs.Key.{timestamp_of}
use Rattle.cdc_outside.specs.Disk.{Image}
use Rattle.cdc_cell.specs.Record.{CellRecord}
use Rattle.cdc_model.specs.declared.layout.Layout.{Layout}
use Rattle.cdc_model.specs.declared.node_log.NodeLog.{NodeLog}
use Rattle.cdc_model.specs.Restart.{RestartPoint, IsAtMost}
use Rattle.cdc_model.specs.RestartNodes.{AreLatestPoints}
use Rattle.cdc_model.specs.Transaction.{key_at}
use Rattle.cdc_model.proofs.RestartPoints.{at_most_itself}
use Rattle.cdc_records.specs.declared.checkpoint.Checkpoint.{Checkpoint}
use Rattle.cdc_records.specs.Checkpoint.{IsCut, IsPoint, IsPointRecord, IsKeptPoint, point_number}
use Rattle.cdc_reader.proofs.Reading.{at_most_or_above}
use Rattle.cdc_recovery.specs.Outputs.{OutputPlan, planned_transactions}
use Rattle.cdc_recovery.specs.Checkpoints.{IsSoundCheckpoint, IsLastCheckpoint, KeepsPoint, KeepsTask}
use Rattle.cdc_recovery.specs.Laws.{IsSameBut, LatestIsLast}
use Rattle.cdc_recovery.proofs.Runs.{each_behind}
use Rattle.cdc_dump_stage.specs.Disks.{DiskWords}
use Rattle.cdc_merge_stage.specs.declared.start.MergeStart.{MergeStart}
use Rattle.cdc_merge_stage.specs.Merged.{MergeState}
use Rattle.cdc_node_stage.specs.Job.{SourceWords, SourcedStage}
use Rattle.cdc_reads.specs.Begun.{AllBegin, IsPassBegun}
use Rattle.cdc_units.specs.Given.{point_at}
use Rattle.cdc_windows.specs.Rereading.{RememberFrom}
use Rattle.cdc_windows.specs.Sourced.{node_rereading, reached_by}
use Rattle.cdc_windows.specs.Windows.{HasNumberFrom, IsLastKept, TaskGoesOn}
use Rattle.cdc_headline.specs.Headline.{HasLastPoint, KeepsLastPoint}

-- ---- what was forgotten

-- jobs that begin for keys above a last one have forgotten up to no more than it
remember_from : {S : Type 0} (s : SourceWords S) (first : ℕ) (last : Key) (points : List RestartPoint) (jobs : List (SourcedStage S)) → AllBegin first last points jobs → RememberFrom (node_rereading s) last jobs
remember_from s first last [] [] begin = tt
remember_from s first last [] (j ∷ jobs) begin = absurd begin
remember_from s first last (p ∷ points) [] begin = absurd begin
remember_from s first last (p ∷ points) (j ∷ jobs) begin =
    (subst (λ (key : Key). IsAtMost key last) (sym begin.0.1.known) (at_most_itself last), remember_from s (first + 1) last points jobs begin.1)

-- so no job of a pass has forgotten more than it begins behind
pub remember_begun : {S : Type 0} (s : SourceWords S) (plan : OutputPlan) (logs : List NodeLog) (points : List RestartPoint) (jobs : List (SourcedStage S)) (merge : MergeState) → IsPassBegun s plan logs points jobs merge
    → RememberFrom (node_rereading s) (key_at (planned_transactions plan logs) merge.start.count) jobs
remember_begun s plan logs points jobs merge begun =
    subst (λ (key : Key). RememberFrom (node_rereading s) key jobs) begun.behind.key (remember_from s 1 merge.start.last points jobs begun.begin)

-- ---- checkpoints that are the same, but for the rotation size

-- the other way round
same_back : (p q : Checkpoint) → IsSameBut p q → IsSameBut q p
same_back p q same = record { count = sym same.count; layout = sym same.layout; last = sym same.last; nodes = sym same.nodes }

-- a record may have the other one
point_of_same : (p q : Checkpoint) → IsSameBut p q → IsPoint p → IsPoint q
point_of_same p q same is = record {
  some = subst (λ (nodes : List RestartPoint). 1 ≤ length nodes) same.nodes is.some;
  most = subst (λ (nodes : List RestartPoint). length nodes ≤ 256) same.nodes is.most;
  cuts = subst (λ (nodes : List RestartPoint). AllByRecursion IsCut nodes) same.nodes is.cuts;
  timestamp = subst (λ (last : Key). timestamp_of last < 2 ^ 63) same.last is.timestamp;
  within = subst (λ (count : ℕ). q.layout.file ≤ count) same.count (subst (λ (layout : Layout). layout.file ≤ p.count) same.layout is.within);
  left_open = subst (λ (layout : Layout). IsTrue (not layout.closed) → layout.length < 2 ^ 30) same.layout is.left_open;
  size = subst (λ (layout : Layout). layout.length < 2 ^ 31) same.layout is.size;
  begins = λ none. let start = is.begins (same.count ∙ none) in record { layout = sym same.layout ∙ start.layout; last = sym same.last ∙ start.last };
  number =
      subst (λ (count : ℕ). point_number (record { count = count; layout = q.layout; last = q.last; rotation = q.rotation; nodes = q.nodes }) ≤ 2 ^ 61) same.count
      (subst (λ (nodes : List RestartPoint). point_number (record { count = p.count; layout = p.layout; last = p.last; rotation = p.rotation; nodes = nodes }) ≤ 2 ^ 61) same.nodes is.number);
}

-- a sound one is a last one where the other is
last_of_same : (plan : OutputPlan) (logs : List NodeLog) (p q : Checkpoint) → IsSoundCheckpoint plan logs p → IsSameBut p q → IsLastCheckpoint plan logs q → IsLastCheckpoint plan logs p
last_of_same plan logs p q sound same last = record {
  sound = sound;
  all = same.count ∙ last.all;
  latest =
      subst (λ (key : Key). AreLatestPoints key logs p.nodes) (sym same.last)
      (subst (λ (nodes : List RestartPoint). AreLatestPoints q.last logs nodes) (sym same.nodes) last.latest);
}

module _ (latest_is_last : LatestIsLast) (plan : OutputPlan) (logs : List NodeLog) where
  -- two last ones are the same
  last_is_one : (p q : Checkpoint) → IsLastCheckpoint plan logs p → IsLastCheckpoint plan logs q → (point_number q ≤ point_number p) ⊎ (point_number p < point_number q) → IsSameBut p q
  last_is_one p q first second (inl below) = latest_is_last plan logs p q first.sound second below
  last_is_one p q first second (inr above) = same_back q p (latest_is_last plan logs q p second.sound first (omega (arith, above)))

  -- a recoverable image whose record isn't below the last one's has a last one
  has_last : (q : Checkpoint) (image : Image) (point : Option Checkpoint) → IsLastCheckpoint plan logs q → KeepsPoint plan logs point image → HasNumberFrom (point_number q) image → HasLastPoint plan logs image
  has_last q image None last keeps from = absurd (subst (λ (kept : Option CellRecord). IsKeptPoint kept None) from.there keeps.has.kept)
  has_last q image (Some p) last keeps from =
      let kept : IsPointRecord from.is p = subst (λ (kept : Option CellRecord). IsKeptPoint kept (Some p)) from.there keeps.has.kept in
      let number = kept.number in
      let reached = from.reached in
      let same = latest_is_last plan logs p q keeps.recoverable.sound last (omega (arith, number, reached)) in
      record { point = p; has = keeps.has; last = last_of_same plan logs p q keeps.recoverable.sound same last }

-- ---- the checkpoint of where the jobs came

-- a checkpoint is what it is made of
point_is : (rotation : ℕ) (behind : MergeStart) (p : Checkpoint) → p.count ≡ behind.count → p.layout ≡ behind.before → p.last ≡ behind.last → p.rotation ≡ Some rotation → point_at rotation behind p.nodes ≡ p
point_is rotation behind p count layout last named = sym (λ i. record { count = count i; layout = layout i; last = last i; rotation = named i; nodes = p.nodes })

-- where that one is the last, each image that may be left of the task has the last one
pub keeps_last : {S D : Type 0} (s : SourceWords S) (w : DiskWords D) → ((disk : D) (t : ℕ) (image : Image) → t ≤ w.moment disk → w.may_leave disk image → w.left_since disk t image)
    → LatestIsLast → (plan : OutputPlan) (logs : List NodeLog) (laters : List (SourcedStage S)) (later : MergeState) (count : ℕ) (outs_now : List D) (task task_now : D)
    → ((cuts : List RestartPoint) → AllZip (λ (job : SourcedStage S) (cut : RestartPoint). (node_rereading s).may_restart job later.behind.last cut) laters cuts → IsLastCheckpoint plan logs (point_at plan.rotation later.behind cuts))
    → IsLastKept w (node_rereading s) plan.rotation laters (reached_by later) task_now → TaskGoesOn w plan logs count outs_now task task_now → KeepsLastPoint w plan logs task_now
keeps_last {S} {D} s w counts latest_is_last plan logs laters later count outs_now task task_now at_end kept on = λ point last is image leaves.
    let q = kept.point in
    let made = kept.made in
    let q_last : IsLastCheckpoint plan logs q = subst (λ (p : Checkpoint). IsLastCheckpoint plan logs p) (point_is plan.rotation later.behind q made.count made.layout made.last made.rotation_is) (at_end q.nodes made.points) in
    let same = last_is_one latest_is_last plan logs point q last q_last (at_most_or_above (point_number q) (point_number point)) in
    let most = on.most in
    let keeps = each_behind w.may_leave w.moment w.left_since counts task task_now (KeepsTask plan logs (w.may_leave task) most) on.kept.every_moment image leaves in
    has_last latest_is_last plan logs q image keeps.point q_last keeps.keeps (kept.kept (point_of_same point q same is) image leaves)
