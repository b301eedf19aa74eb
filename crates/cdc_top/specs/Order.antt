-- The order of answers: what a call met with, and which of it is answered.
use Rattle.std.specs.Prelude.{true, false, Option, Some, None, option_map, if◌then◌else◌}
use Rattle.cdc_print.specs.declared.end.PrintEnd.{PrintEnd}
use Rattle.cdc_print.specs.declared.end.PrintEnd.TheVariants as print
use Rattle.cdc_drill.specs.declared.drill_end.DrillEnd.{DrillEnd}
use Rattle.cdc_drill.specs.declared.drill_end.DrillEnd.TheVariants as drill
use Rattle.cdc_list.specs.declared.list_end.ListEnd.{ListEnd}
use Rattle.cdc_list.specs.declared.list_end.ListEnd.TheVariants as list
use Rattle.cdc_opening.specs.declared.outcome.Outcome.{Outcome}
use Rattle.cdc_opening.specs.declared.outcome.Outcome.TheVariants as pass
use Rattle.cdc_task.specs.declared.fault.TaskFault.{TaskFault}
use Rattle.cdc_task.specs.declared.fault.TaskFault.TheVariants as task
use Rattle.cdc_top.specs.declared.config.ConfigStop.{ConfigStop}
use Rattle.cdc_top.specs.declared.config.ConfigStop.TheVariants as stop
use Rattle.cdc_top.specs.declared.answer.Answer.{Answer}
use Rattle.cdc_top.specs.declared.answer.Answer.TheVariants.{Done, Usage, Config, Node, ReadConfig, Read, Disk, TooLarge, Unopened, TaskDisk, TaskCell, TaskNodes, TaskRotation, Behind, Differs, OtherKey, Memory, Sink}
use Rattle.cdc_top.specs.declared.findings.Findings.{Findings}
use Rattle.cdc_top.specs.declared.findings.UnopenedOut.{UnopenedOut}
use Rattle.cdc_top.specs.declared.findings.Oversized.{Oversized}
use Rattle.cdc_top.specs.declared.findings.Faulty.{Faulty}

-- the answer to what was met with, or else a later one
abbrev pub answer_or : Option Answer → Answer → Answer
answer_or (Some answer) later = answer
answer_or None later = later

-- the answer to an out that can't be opened
abbrev pub unopened_answer : UnopenedOut → Answer
unopened_answer found = Unopened found.out found.fault

-- the answer to a transaction that is too large
abbrev pub oversized_answer : Oversized → Answer
oversized_answer txn = TooLarge txn.number txn.bytes

-- the answer to a node's fault
abbrev pub faulty_answer : Faulty → Answer
faulty_answer log = Node log.node log.place log.fault

-- the answer to a task that can't be opened
abbrev pub task_answer : TaskFault → Answer
task_answer task.DiskFault = TaskDisk
task_answer (task.BadCell slot) = TaskCell
task_answer (task.NodeCount kept given) = TaskNodes kept given
task_answer (task.Rotation kept given) = TaskRotation kept given
task_answer task.Memory = Memory

-- the answer to how a pass ended
abbrev pub pass_answer : Outcome → Answer
pass_answer pass.Done = Done
pass_answer (pass.Disk out) = Disk out
pass_answer pass.TaskDisk = TaskDisk
pass_answer (pass.Read node) = Read node
pass_answer pass.Memory = Memory
pass_answer (pass.TooLarge number bytes) = TooLarge number bytes
pass_answer (pass.Node node place fault) = Node node place fault
pass_answer (pass.Open out fault) = Unopened out fault
pass_answer (pass.Task fault) = task_answer fault
pass_answer (pass.Behind node kept given) = Behind node kept given
pass_answer (pass.Differs out kept given) = Differs out kept given
pass_answer (pass.Key out kept given) = OtherKey out kept given

-- the answer of a call, whatever its command: that of the first thing it met with. Its words are no command; its configuration can't be read,
-- or is refused; a pass ended before all was published; an out can't be opened; the disk of an out failed; a source failed; there was no memory; the output has no room for a
-- transaction; a node's log has a fault; the sink failed. Where there is none of these, all is done
abbrev pub answer_of : Findings → Answer
answer_of found =
    if found.usage then Usage
    else if found.config_unread then ReadConfig
    else answer_or (option_map Config found.config_refused)
    (answer_or (option_map pass_answer found.passed)
    (answer_or (option_map unopened_answer found.unopened)
    (answer_or (option_map Disk found.failed)
    (answer_or (option_map Read found.unread)
    (if found.wanting then Memory
    else answer_or (option_map oversized_answer found.oversized)
    (answer_or (option_map faulty_answer found.faulty)
    (if found.sink then Sink else Done)))))))

-- nothing that hinders
abbrev pub nothing_met : Findings
nothing_met = record {
  usage = false;
  config_unread = false;
  config_refused = None;
  passed = None;
  unopened = None;
  failed = None;
  unread = None;
  wanting = false;
  oversized = None;
  faulty = None;
  sink = false;
}

-- words that are no command
abbrev pub usage_met : Findings
usage_met = record nothing_met { usage = true }

-- want of memory
abbrev pub wanting_met : Findings
wanting_met = record nothing_met { wanting = true }

-- a sink that failed
abbrev pub sink_met : Findings
sink_met = record nothing_met { sink = true }

-- what the end of a print tells
abbrev pub findings_of_print : PrintEnd → Findings
findings_of_print print.Done = nothing_met
findings_of_print (print.Read node) = record nothing_met { unread = Some node }
findings_of_print print.Memory = wanting_met
findings_of_print (print.TooLarge number bytes) = record nothing_met { oversized = Some (record { number = number; bytes = bytes }) }
findings_of_print (print.Fault node place fault) = record nothing_met { faulty = Some (record { node = node; place = place; fault = fault }) }
findings_of_print print.Sink = sink_met

-- what the end of a listing tells
abbrev pub findings_of_listing : ListEnd → Findings
findings_of_listing list.Done = nothing_met
findings_of_listing (list.Unopened out fault) = record nothing_met { unopened = Some (record { out = out; fault = fault }) }
findings_of_listing (list.Disk out) = record nothing_met { failed = Some out }
findings_of_listing list.Memory = wanting_met
findings_of_listing list.Sink = sink_met

-- what it tells that there is no plan
abbrev pub findings_of_config : ConfigStop → Findings
findings_of_config stop.Unread = record nothing_met { config_unread = true }
findings_of_config (stop.Refused key) = record nothing_met { config_refused = Some key }
findings_of_config stop.Memory = wanting_met

-- what the end of a pass tells: of one that publishes all no more than a transaction that is too large, or a node's fault
abbrev pub findings_of_pass : Outcome → Findings
findings_of_pass pass.Done = nothing_met
findings_of_pass (pass.Disk out) = record nothing_met { passed = Some (pass.Disk out) }
findings_of_pass pass.TaskDisk = record nothing_met { passed = Some pass.TaskDisk }
findings_of_pass (pass.Read node) = record nothing_met { passed = Some (pass.Read node) }
findings_of_pass pass.Memory = record nothing_met { passed = Some pass.Memory }
findings_of_pass (pass.TooLarge number bytes) = record nothing_met { oversized = Some (record { number = number; bytes = bytes }) }
findings_of_pass (pass.Node node place fault) = record nothing_met { faulty = Some (record { node = node; place = place; fault = fault }) }
findings_of_pass (pass.Open out fault) = record nothing_met { passed = Some (pass.Open out fault) }
findings_of_pass (pass.Task fault) = record nothing_met { passed = Some (pass.Task fault) }
findings_of_pass (pass.Behind node kept given) = record nothing_met { passed = Some (pass.Behind node kept given) }
findings_of_pass (pass.Differs out kept given) = record nothing_met { passed = Some (pass.Differs out kept given) }
findings_of_pass (pass.Key out kept given) = record nothing_met { passed = Some (pass.Key out kept given) }

-- what a pass that published all tells, and the end of the lines that were written behind it
abbrev pub findings_of_lines : Outcome → ListEnd → Findings
findings_of_lines outcome end = record (findings_of_listing end) { oversized = (findings_of_pass outcome).oversized; faulty = (findings_of_pass outcome).faulty }

-- what the end of a drill tells
abbrev pub findings_of_drill : DrillEnd → Findings
findings_of_drill drill.Done = nothing_met
findings_of_drill (drill.TooLarge number bytes) = record nothing_met { oversized = Some (record { number = number; bytes = bytes }) }
findings_of_drill (drill.Node node place fault) = record nothing_met { faulty = Some (record { node = node; place = place; fault = fault }) }
findings_of_drill drill.Memory = wanting_met
findings_of_drill drill.Sink = sink_met

-- the answer to the end of a drill
abbrev pub drill_answer : DrillEnd → Answer
drill_answer drill.Done = Done
drill_answer (drill.TooLarge number bytes) = TooLarge number bytes
drill_answer (drill.Node node place fault) = Node node place fault
drill_answer drill.Memory = Memory
drill_answer drill.Sink = Sink
