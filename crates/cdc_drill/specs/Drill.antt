-- A drill as it is seen from outside: how it ends, and what it writes.
use Rattle.std.specs.Prelude.{◌≡◌, ℕ, ◌++◌, Bool, IsTrue, List, [], ◌∷◌, length, map, codes, decimal}
use Rattle.std.specs.List.{AllZip}
use Rattle.cdc_outside.specs.Count.{Rose}
use Rattle.cdc_outside.specs.Sink.{WritesTo}
use Rattle.cdc_model.specs.declared.node_log.NodeLog.{NodeLog}
use Rattle.cdc_model.specs.Growth.{IsReadWhole}
use Rattle.cdc_model.specs.Output.{layout_of}
use Rattle.cdc_records.specs.declared.front.Front.{Front}
use Rattle.cdc_records.specs.Front.{front_layout}
use Rattle.cdc_recovery.specs.Outputs.{OutputPlan, planned_transactions}
use Rattle.cdc_opening.specs.declared.outcome.Outcome.TheVariants as pass
use Rattle.cdc_headline.specs.Ending.{IsPassEnd}
use Rattle.cdc_gen.specs.Logs.{drill_logs}
use Rattle.cdc_list.specs.Lines.{out_line}
use Rattle.cdc_drill.specs.declared.drill_end.DrillEnd.{DrillEnd}
use Rattle.cdc_drill.specs.declared.drill_end.DrillEnd.TheVariants.{Done, TooLarge, Node, Memory, Sink}

-- the plan of a drill: no renaming rules, and a file is closed from 1,048,576 bytes on
abbrev pub drill_plan : OutputPlan
drill_plan = record { rules = []; rotation = 1048576 }

-- the bytes of a drill's nodes, one file each
abbrev pub drill_nodes : ℕ → ℕ → ℕ → List (List (List ℕ))
drill_nodes seed nodes count = map (λ (log : List ℕ). log ∷ []) (drill_logs seed nodes count)

-- a drill as it is seen from outside: its numbers; what the sink has before and now, and its count of faults
pub record DrillRun : Type 0 where
  pub seed : ℕ
  pub nodes : ℕ
  pub count : ℕ
  pub out_before : List ℕ
  pub out_now : List ℕ
  pub faults_before : ℕ
  pub faults_now : ℕ

-- these, as one
abbrev pub drill_run : ℕ → ℕ → ℕ → List ℕ → List ℕ → ℕ → ℕ → DrillRun
drill_run seed nodes count out_before out_now faults_before faults_now =
    record { seed = seed; nodes = nodes; count = count; out_before = out_before; out_now = out_now; faults_before = faults_before; faults_now = faults_now }

-- the line of a drill: its numbers
abbrev pub drill_line : DrillRun → List ℕ
drill_line run = codes "drill " ++ (decimal run.seed ++ (codes " " ++ (decimal run.nodes ++ (codes " " ++ (decimal run.count ++ codes "\n")))))

-- the text of a drill: its line, and the line of an output that has all settled transactions of these logs
pub record IsDrillText (run : DrillRun) (logs : List NodeLog) (text : List ℕ) : Type 0 where
  pub front : Front
  pub counted : front.count ≡ length (planned_transactions drill_plan logs)
  pub layout : front_layout front ≡ layout_of drill_plan.rules drill_plan.rotation (planned_transactions drill_plan logs)
  pub is : text ≡ drill_line run ++ out_line 1 front

-- whatever logs the bytes of the drill's nodes are
abbrev pub ForDrillLogs : DrillRun → (List NodeLog → Type 0) → Type 0
ForDrillLogs run P = (logs : List NodeLog) → AllZip IsReadWhole (drill_nodes run.seed run.nodes run.count) logs → P logs

-- the drill's logs have no fault and no transaction that is too large, and this is the text of it
abbrev pub IsDone : DrillRun → List ℕ → Type 0
IsDone run text = ForDrillLogs run (λ logs. IsPassEnd drill_plan logs (drill_nodes run.seed run.nodes run.count) pass.Done × IsDrillText run logs text)

-- nothing was written
abbrev pub WroteNothing : Bool → DrillRun → Type 0
WroteNothing shown run = IsTrue shown → run.out_now ≡ run.out_before

-- how a drill ends, why, and what was written, where the sink shows
abbrev pub IsDrillEnd : Bool → DrillRun → DrillEnd → Type 0
IsDrillEnd shown run Done = (text : List ℕ) × IsDone run text × (IsTrue shown → run.out_now ≡ run.out_before ++ text)
IsDrillEnd shown run (TooLarge number bytes) =
    WroteNothing shown run × ForDrillLogs run (λ logs. IsPassEnd drill_plan logs (drill_nodes run.seed run.nodes run.count) (pass.TooLarge number bytes))
IsDrillEnd shown run (Node node place fault) =
    WroteNothing shown run × ForDrillLogs run (λ logs. IsPassEnd drill_plan logs (drill_nodes run.seed run.nodes run.count) (pass.Node node place fault))
IsDrillEnd shown run Memory = WroteNothing shown run
IsDrillEnd shown run Sink = Rose run.faults_before run.faults_now × ((text : List ℕ) × IsDone run text × (IsTrue shown → WritesTo run.out_before text run.out_now))
