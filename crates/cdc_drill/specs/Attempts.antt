-- One attempt of a drill: a pass over its logs into fresh disks of some size.
use Rattle.std.specs.Prelude.{◌≡◌, ◌≤◌, ◌^◌, ℕ, Bool, IsTrue, List, [], ◌∷◌, ◌++◌, length, map, codes, decimal}
use Rattle.std.specs.List.{AllZip}
use Rattle.cdc_outside.specs.declared.disk_file.DiskFile.{DiskFile}
use Rattle.cdc_model.specs.declared.node_log.NodeLog.{NodeLog}
use Rattle.cdc_model.specs.Growth.{IsReadWhole}
use Rattle.cdc_model.specs.Records.{Transaction}
use Rattle.cdc_model.specs.Output.{layout_of}
use Rattle.cdc_records.specs.declared.front.Front.{Front}
use Rattle.cdc_records.specs.Front.{front_layout}
use Rattle.cdc_recovery.specs.Outputs.{OutputPlan, planned_transactions}
use Rattle.cdc_memory.specs.declared.mem_disk.MemDisk.{MemDisk}
use Rattle.cdc_memory.specs.MemDisk.{start_of, steps_of}
use Rattle.cdc_opening.specs.declared.outcome.Outcome.TheVariants as pass
use Rattle.cdc_headline.specs.Ending.{IsPassEnd}
use Rattle.cdc_outside.specs.Count.{Rose}
use Rattle.cdc_outside.specs.Sink.{WritesTo}
use Rattle.cdc_list.specs.Lines.{out_line}
use Rattle.cdc_drill.specs.Drill.{drill_plan, DrillRun, drill_line, WroteNothing}
use Rattle.cdc_drill.specs.declared.drill_end.DrillEnd.{DrillEnd}
use Rattle.cdc_drill.specs.declared.drill_end.DrillEnd.TheVariants as told
use Rattle.cdc_drill.specs.declared.attempt.Attempt.{Attempt}
use Rattle.cdc_drill.specs.declared.attempt.Attempt.TheVariants.{Found, TooLarge, Node, TooSmall, Memory}

-- a log of at most 2^40 bytes
abbrev pub IsShortLog : List ℕ → Type 0
IsShortLog log = length log ≤ 2 ^ 40

-- logs as nodes of one file each
abbrev pub one_file_each : List (List ℕ) → List (List (List ℕ))
one_file_each logs = map (λ (log : List ℕ). log ∷ []) logs

-- a disk that has nothing, and that nothing was done to
pub record IsBlankDisk (disk : MemDisk) : Type 0 where
  pub empty : (file : DiskFile) → start_of disk file ≡ []
  pub untouched : steps_of disk ≡ []

-- a Front tells all of these transactions
pub record TellsAll (plan : OutputPlan) (txns : List Transaction) (front : Front) : Type 0 where
  pub counted : front.count ≡ length txns
  pub layout : front_layout front ≡ layout_of plan.rules plan.rotation txns

-- the Front tells all settled transactions of these logs
abbrev pub TellsAllOf : List NodeLog → Front → Type 0
TellsAllOf logs front = TellsAll drill_plan (planned_transactions drill_plan logs) front

-- whatever logs the bytes of these nodes are
abbrev pub ForLogsOf : List (List (List ℕ)) → (List NodeLog → Type 0) → Type 0
ForLogsOf nodes P = (logs : List NodeLog) → AllZip IsReadWhole nodes logs → P logs

-- how an attempt over these nodes ended, and why
abbrev pub IsAttempt : List (List (List ℕ)) → Attempt → Type 0
IsAttempt nodes (Found front) = ForLogsOf nodes (λ logs. IsPassEnd drill_plan logs nodes pass.Done × TellsAllOf logs front)
IsAttempt nodes (TooLarge number bytes) = ForLogsOf nodes (λ logs. IsPassEnd drill_plan logs nodes (pass.TooLarge number bytes))
IsAttempt nodes (Node node place fault) = ForLogsOf nodes (λ logs. IsPassEnd drill_plan logs nodes (pass.Node node place fault))
IsAttempt nodes TooSmall = Unit {0}
IsAttempt nodes Memory = Unit {0}

-- the line of these numbers
abbrev pub numbers_line : ℕ → ℕ → ℕ → List ℕ
numbers_line seed nodes count = codes "drill " ++ (decimal seed ++ (codes " " ++ (decimal nodes ++ (codes " " ++ (decimal count ++ codes "\n")))))

-- how the writing of a drill's text ended, whose output has this Front
abbrev pub WritesText : Bool → DrillRun → Front → DrillEnd → Type 0
WritesText shown run front told.Done = IsTrue shown → run.out_now ≡ run.out_before ++ (drill_line run ++ out_line 1 front)
WritesText shown run front (told.TooLarge number bytes) = ⊥
WritesText shown run front (told.Node node place fault) = ⊥
WritesText shown run front told.Memory = WroteNothing shown run
WritesText shown run front told.Sink = Rose run.faults_before run.faults_now × (IsTrue shown → WritesTo run.out_before (drill_line run ++ out_line 1 front) run.out_now)
