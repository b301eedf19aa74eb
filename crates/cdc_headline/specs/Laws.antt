-- The laws of the headline.
use Rattle.std.specs.Prelude.{◌≡◌, ◌⊎◌, ℕ, IsTrue, List, map, Result, Ok, Err}
use Rattle.cdc_outside.specs.Count.{Rose}
use Rattle.cdc_model.specs.declared.node_log.NodeLog.{NodeLog}
use Rattle.cdc_recovery.specs.Outputs.{OutputPlan}
use Rattle.cdc_dump_stage.specs.Disks.{DiskWords}
use Rattle.cdc_kept.specs.Kept.{opened_start}
use Rattle.cdc_node_stage.specs.Job.{SourceWords}
use Rattle.cdc_opening.specs.declared.opened.Opened.{Opened}
use Rattle.cdc_opening.specs.declared.outcome.Outcome.{Outcome}
use Rattle.cdc_opening.specs.declared.outcome.Outcome.TheVariants.{Disk, TaskDisk, Read, Memory}
use Rattle.cdc_opening.specs.Lists.{DeviceRoseAt}
use Rattle.cdc_windows.specs.Jobs.{pass_start}
use Rattle.cdc_headline.specs.Running.{IsPassOver, HasOpened, HasRunWindows}
use Rattle.cdc_headline.specs.Headline.{Headline}

-- law: a pass that opened, or was refused, and did no more keeps the headline
abbrev pub OpeningKeepsHeadline : {S D : Type 0} → SourceWords S → DiskWords D → Type 0
OpeningKeepsHeadline {S} {D} s w = (plan : OutputPlan) (logs : List NodeLog) (nodes nodes_now : List S) (outs outs_now : List D) (task task_now : D) (result : Result Opened Outcome) (outcome : Outcome)
    → IsTrue s.tells → IsTrue w.tells → IsPassOver s w plan logs nodes outs task
    → HasOpened s w plan nodes nodes_now outs outs_now task task_now result → (result ≡ Err outcome) ⊎ (outcome ≡ Memory)
    → Headline s w plan logs nodes nodes_now outs outs_now task task_now outcome

-- law: a pass that opened and ran its windows keeps the headline
abbrev pub WindowsKeepHeadline : {S D : Type 0} → SourceWords S → DiskWords D → Type 0
WindowsKeepHeadline {S} {D} s w = (plan : OutputPlan) (logs : List NodeLog) (nodes mid nodes_now : List S) (outs outs_mid outs_now : List D) (task task_mid task_now : D) (opened : Opened) (outcome : Outcome)
    → IsTrue s.tells → IsTrue w.tells → IsPassOver s w plan logs nodes outs task
    → HasOpened s w plan nodes mid outs outs_mid task task_mid (Ok opened)
    → HasRunWindows s w plan (opened_start nodes opened) opened.dumpers.items (pass_start opened.kept opened.start) mid nodes_now outs_mid outs_now task_mid task_now outcome
    → Headline s w plan logs nodes nodes_now outs outs_now task task_now outcome

-- a device that an answer names has a count that rose
pub record NamesByCounts {S D : Type 0} (s : SourceWords S) (w : DiskWords D) (nodes nodes_now : List S) (outs outs_now : List D) (task task_now : D) (outcome : Outcome) : Type 0 where
  pub outs_rose : (number : ℕ) → outcome ≡ Disk number → DeviceRoseAt (map w.faults outs) (map w.faults outs_now) number
  pub task_rose : outcome ≡ TaskDisk → Rose (w.faults task) (w.faults task_now)
  pub nodes_rose : (number : ℕ) → outcome ≡ Read number → DeviceRoseAt (map s.faults nodes) (map s.faults nodes_now) number

-- law: windows name a device only where its count rose, whatever the devices tell
abbrev pub WindowsNameByCounts : {S D : Type 0} → SourceWords S → DiskWords D → Type 0
WindowsNameByCounts {S} {D} s w = (plan : OutputPlan) (nodes nodes_now : List S) (outs outs_now : List D) (task task_now : D) (opened : Opened) (outcome : Outcome)
    → HasRunWindows s w plan (opened_start nodes opened) opened.dumpers.items (pass_start opened.kept opened.start) nodes nodes_now outs outs_now task task_now outcome
    → NamesByCounts s w nodes nodes_now outs outs_now task task_now outcome
