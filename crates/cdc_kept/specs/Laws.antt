-- The laws of kept disks.
use Rattle.std.specs.Prelude.{◌≡◌, ◌↔◌, ℕ, List, length, Result, Ok, IfErr}
use Rattle.std.specs.List.{AllZip}
use Rattle.cdc_outside.specs.Disk.{Image}
use Rattle.cdc_model.specs.declared.node_log.NodeLog.{NodeLog}
use Rattle.cdc_model.specs.Growth.{IsReadWhole}
use Rattle.cdc_recovery.specs.Outputs.{OutputPlan}
use Rattle.cdc_task.specs.declared.start.Start.TheVariants.{Cut}
use Rattle.cdc_task.specs.Task.{GoesOnFrom}
use Rattle.cdc_opening.specs.declared.opened.Opened.{Opened}
use Rattle.cdc_opening.specs.declared.outcome.Outcome.{Outcome}
use Rattle.cdc_opening.specs.Answers.{AnswersDisks, AnswersLogs, published_counts}
use Rattle.cdc_kept.specs.Kept.{AreKeptBy, MayAnswer, opened_start, GoesOnSoundly}

-- what an opening answered over kept disks of logs that have these bytes
pub record IsOpeningOfKept (plan : OutputPlan) (nodes : List (List (List ℕ))) (logs : List NodeLog) (outs : List Image) (task : Image) (result : Result Opened Outcome) : Type 0 where
  pub whole : AllZip IsReadWhole nodes logs
  pub kept : AreKeptBy plan logs outs task
  pub disks : AnswersDisks outs task (length nodes) plan.rotation result
  pub sources : AnswersLogs outs task nodes result

-- law: kept disks are opened, want of memory and failed devices aside
abbrev pub KeptIsOpened : Type 0
KeptIsOpened = (plan : OutputPlan) (nodes : List (List (List ℕ))) (logs : List NodeLog) (outs : List Image) (task : Image) (result : Result Opened Outcome)
    → IsOpeningOfKept plan nodes logs outs task result → IfErr result MayAnswer

-- law: and the pass then goes on soundly
abbrev pub OpenedGoesOn : Type 0
OpenedGoesOn = (plan : OutputPlan) (nodes : List (List (List ℕ))) (logs : List NodeLog) (outs : List Image) (task : Image) (opened : Opened)
    → IsOpeningOfKept plan nodes logs outs task (Ok opened)
    → ((opened.start ≡ Cut) ↔ GoesOnFrom opened.kept (published_counts opened.dumpers.items))
    → GoesOnSoundly plan logs (opened_start nodes opened) opened.dumpers.items
