-- What is recoverable stays so for more transactions and for logs that go on.
use Rattle.std.proofs.Common.{◌≡◌, ℕ, ◌-◌, ◌≤◌, List, ◌++◌, length, length-append, take, drop, Option, Some, None, ap, sym, subst, ◌∙◌, arith}
use Rattle.std.specs.Prelude.{IfSome}
use Rattle.std.proofs.lemmas.List.{take-append-le}
use Rattle.cdc_base.specs.Key.{first_key}
use Rattle.cdc_outside.specs.Disk.{Image}
use Rattle.cdc_model.specs.declared.node_log.NodeLog.{NodeLog}
use Rattle.cdc_model.specs.Records.{Transaction}
use Rattle.cdc_model.specs.Output.{layout_of, files_of}
use Rattle.cdc_model.specs.Transaction.{key_at}
use Rattle.cdc_model.specs.Growth.{LogsGrow}
use Rattle.cdc_model.specs.Restart.{AreRestartPoints}
use Rattle.cdc_model.proofs.OutputGrowth.{settled_order_grows}
use Rattle.cdc_model.proofs.RestartOrder.{key_is_nth, nth_of_front}
use Rattle.cdc_model.proofs.RestartPoints.{at_most_itself}
use Rattle.cdc_model.proofs.NodePoints.{restart_points_stay}
use Rattle.cdc_records.specs.declared.front.Front.{Front}
use Rattle.cdc_records.specs.declared.checkpoint.Checkpoint.{Checkpoint}
use Rattle.cdc_recovery.specs.Outputs.{OutputPlan, planned_transactions, passed_below, IsFrontOf, KeepsOut}
use Rattle.cdc_recovery.specs.Checkpoints.{IsSoundCheckpoint, IsRecoverablePoint}
use Rattle.cdc_recovery.specs.Laws.{OutputsStayKept, LogsKeepOutputs, CheckpointStaysSound, LogsKeepTask}

-- the n-th key is that of each longer list
pub key_in_front : (txns rest : List Transaction) (count : ℕ) → count ≤ length txns → key_at (txns ++ rest) count ≡ key_at txns count
key_in_front txns rest count h =
    let longer : count ≤ length (txns ++ rest) = omega (arith, h, length-append txns rest) in
    key_is_nth count (txns ++ rest) longer ∙ (sym (nth_of_front first_key count txns rest h) ∙ sym (key_is_nth count txns h))

pub kept_in_front : (plan : OutputPlan) (txns rest : List Transaction) (f : Front) (image : Image) → IsFrontOf plan txns f image → IsFrontOf plan (txns ++ rest) f image
kept_in_front plan txns rest f image h =
    let same : take f.count txns ≡ take f.count (txns ++ rest) = sym (take-append-le f.count txns rest h.within) in
    record {
      within = omega (arith, h.within, length-append txns rest);
      layout = h.layout ∙ ap (λ (list : List Transaction). layout_of plan.rules plan.rotation list) same;
      files = h.files ∙ ap (λ (list : List Transaction). drop (f.first - 1) (files_of plan.rules plan.rotation list)) same;
      passed = h.passed ∙ ap (λ (list : List Transaction). passed_below plan f.first list) same;
      last = λ key is. h.last key is ∙ sym (key_in_front txns rest f.count h.within);
      behind = h.behind;
    }

pub outputs_stay_kept : OutputsStayKept
outputs_stay_kept plan txns more count image front kept =
    subst (λ (list : List Transaction). KeepsOut plan list count image) (sym front.is)
    (record { front = kept.front; is_front = kept.is_front; counted = kept.counted; is_kept = kept_in_front plan txns front.rest kept.front image kept.is_kept })

pub logs_keep_outputs : LogsKeepOutputs
logs_keep_outputs plan olds news count image grow kept =
    outputs_stay_kept plan (planned_transactions plan olds) (planned_transactions plan news) count image
    (settled_order_grows plan.rules 0 first_key olds news grow).settled kept

-- the parts of a sound checkpoint that speak of transactions
sound_in_front : (plan : OutputPlan) (logs : List NodeLog) (txns rest : List Transaction) (p : Checkpoint) → planned_transactions plan logs ≡ txns ++ rest
    → p.count ≤ length txns → p.last ≡ key_at txns p.count → p.layout ≡ layout_of plan.rules plan.rotation (take p.count txns) → AreRestartPoints p.last logs p.nodes
    → IsSoundCheckpoint plan logs p
sound_in_front plan logs txns rest p is within last layout points = record {
  within = omega (arith, within, length-append txns rest, ap length is);
  last = last ∙ (sym (key_in_front txns rest p.count within) ∙ ap (λ (list : List Transaction). key_at list p.count) (sym is));
  layout = layout ∙ (ap (λ (list : List Transaction). layout_of plan.rules plan.rotation list) (sym (take-append-le p.count txns rest within))
      ∙ ap (λ (list : List Transaction). layout_of plan.rules plan.rotation (take p.count list)) (sym is));
  points = points;
}

pub checkpoint_stays_sound : CheckpointStaysSound
checkpoint_stays_sound plan olds news p grow sound =
    let front = (settled_order_grows plan.rules 0 first_key olds news grow).settled in
    sound_in_front plan news (planned_transactions plan olds) front.rest p front.is sound.within sound.last sound.layout
    (restart_points_stay p.last p.last olds news p.nodes (at_most_itself p.last) grow sound.points)

stays_recoverable : (plan : OutputPlan) (olds news : List NodeLog) (point : Option Checkpoint) → LogsGrow olds news
    → IfSome point (IsRecoverablePoint plan olds) → IfSome point (IsRecoverablePoint plan news)
stays_recoverable plan olds news None grow is = tt
stays_recoverable plan olds news (Some p) grow is = record { sound = checkpoint_stays_sound plan olds news p grow is.sound; rotation = is.rotation }

pub logs_keep_task : LogsKeepTask
logs_keep_task plan olds news point image grow kept = record { has = kept.has; recoverable = stays_recoverable plan olds news point grow kept.recoverable }
