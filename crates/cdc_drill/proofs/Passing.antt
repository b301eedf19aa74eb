-- What a pass over disks that have nothing tells.
use Rattle.std.proofs.Common.{◌≡◌, List, length, map, subst}
use Rattle.std.specs.List.{AllByRecursion}
use Rattle.cdc_memory.specs.declared.mem_disk.MemDisk.{MemDisk}
use Rattle.cdc_memory.specs.declared.source.PureSource.{PureSource}
use Rattle.cdc_memory.specs.MemDisk.{held_by}
use Rattle.cdc_memory.specs.Source.{pure_held_files}
use Rattle.cdc_memory.specs.Replay.{LeavesNow}
use Rattle.cdc_model.specs.declared.node_log.NodeLog.{NodeLog}
use Rattle.cdc_recovery.specs.Laws.{NothingIsKept, NoTaskIsKept}
use Rattle.cdc_recovery.specs.Outputs.{OutputPlan, planned_transactions, KeepsFrom}
use Rattle.cdc_recovery.specs.Growing.{Each}
use Rattle.cdc_opening.specs.declared.outcome.Outcome.{Outcome}
use Rattle.cdc_headline.specs.Ending.{IsPassEnd, PublishesAll}
use Rattle.cdc_headline.specs.Headline.{Headline}
use Rattle.cdc_headline.specs.Running.{IsPassOver}
use Rattle.cdc_drill.specs.Drill.{drill_plan}
use Rattle.cdc_drill.specs.Attempts.{IsBlankDisk, ForLogsOf}
use Rattle.cdc_drill.proofs.Fresh.{pure_words, memory_words, fresh_begins}

-- each image that some disks may leave keeps all transactions of these logs
abbrev pub KeepAllOf : List NodeLog → List MemDisk → Type 0
KeepAllOf logs disks = AllByRecursion (λ (disk : MemDisk). Each (LeavesNow (held_by disk)) (KeepsFrom drill_plan (planned_transactions drill_plan logs) (length (planned_transactions drill_plan logs)))) disks

-- it ends as the logs have it, and where it publishes all, its outputs keep all
pub record HasTold (logs : List NodeLog) (nodes : List PureSource) (outs_now : List MemDisk) (outcome : Outcome) : Type 0 where
  pub ends : IsPassEnd drill_plan logs (map pure_held_files nodes) outcome
  pub keeps : PublishesAll outcome → KeepAllOf logs outs_now

pub has_told : (plan : OutputPlan) (nodes nodes_now : List PureSource) (outs outs_now : List MemDisk) (task task_now : MemDisk) (outcome : Outcome) → NothingIsKept → NoTaskIsKept → plan ≡ drill_plan
    → AllByRecursion IsBlankDisk outs → IsBlankDisk task
    → ((logs : List NodeLog) → IsPassOver pure_words memory_words plan logs nodes outs task → Headline pure_words memory_words plan logs nodes nodes_now outs outs_now task task_now outcome)
    → ForLogsOf (map pure_held_files nodes) (λ logs. HasTold logs nodes outs_now outcome)
has_told plan nodes nodes_now outs outs_now task task_now outcome nothing none same fresh_outs fresh_task headline logs whole =
    let h = headline logs (fresh_begins nothing none plan logs nodes outs task fresh_outs fresh_task whole) in
    record {
      ends = subst (λ (p : OutputPlan). IsPassEnd p logs (map pure_held_files nodes) outcome) same h.ends;
      keeps = λ all.
          subst (λ (p : OutputPlan). AllByRecursion (λ (disk : MemDisk). Each (LeavesNow (held_by disk)) (KeepsFrom p (planned_transactions p logs) (length (planned_transactions p logs)))) outs_now) same (h.published all);
    }
