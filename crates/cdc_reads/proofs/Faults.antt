-- How the readings of nodes ended, as their whole logs or their sources say.
use Rattle.std.proofs.Common.{◌≡◌, ℕ, ◌+◌, ◌-◌, true, List, [], ◌∷◌, drop, Option, Some, None, refl, sym, ap, subst, ◌∙◌, arith}
use Rattle.std.specs.List.{AllZip}
use Rattle.cdc_base.specs.declared.key.Key.{Key}
use Rattle.cdc_base.specs.declared.place.Place.{Place}
use Rattle.cdc_model.specs.declared.fault.NodeFault.{NodeFault}
use Rattle.cdc_model.specs.declared.fault.NodeFault.TheVariants.{Sort}
use Rattle.cdc_model.specs.declared.node_log.NodeLog.{NodeLog}
use Rattle.cdc_model.specs.Records.{LogEntry}
use Rattle.cdc_model.specs.Start.{beginning}
use Rattle.cdc_model.specs.Soundness.{sound_entries, log_fault}
use Rattle.cdc_model.specs.Entries.{OneEntryList}
use Rattle.cdc_model.specs.Growth.{IsReadWhole}
use Rattle.cdc_model.specs.Restart.{RestartPoint, first_point, start_at, IsRestartPoint, RestartReadsTheRest, RestartPlaceReadsTheRest}
use Rattle.cdc_model.proofs.Fronts.{front_itself}
use Rattle.cdc_reader.specs.declared.step.NodeEnd.{NodeEnd}
use Rattle.cdc_reader.specs.declared.step.NodeEnd.TheVariants.{Open, Whole, Read as ReadFailed, Memory as NoMemory, Fault as Faulty}
use Rattle.cdc_reader.specs.LogFront.{IsReadAs}
use Rattle.cdc_reader.specs.Standing.{ReadingStands}
use Rattle.cdc_content.proofs.Behind.{PointsFrom, point_of_whole, read_behind}
use Rattle.cdc_item.specs.declared.node_item.NodeItem.{NodeItem}
use Rattle.cdc_node_stage.specs.Sending.{node_state}
use Rattle.cdc_node_stage.specs.Job.{SourceWords, SourcedStage}
use Rattle.cdc_print.specs.Outcome.{IsFaultOf, HasEnded}
use Rattle.cdc_windows.specs.Rereading.{AreOver}
use Rattle.cdc_windows.specs.Sourced.{is_over_by, node_rereading}
use Rattle.cdc_reads.specs.Begun.{files_of_jobs}
use Rattle.cdc_reads.specs.Ended.{HaveAllEnded}
use Rattle.cdc_reads.specs.Laws.{EndsAreFaults}
use Rattle.cdc_reads.proofs.OneNode.{NodeHasRead}
use Rattle.cdc_reads.proofs.AllNodes.{AllHaveRead}
use Rattle.cdc_reads.proofs.Passing.{taken_by}

-- the fault that was met behind a restart point is the whole log's
fault_of_whole : OneEntryList → RestartReadsTheRest → RestartPlaceReadsTheRest → (last : Key) (point : RestartPoint) (node : ℕ) (files : List (List ℕ)) (log : NodeLog)
    (taken : List LogEntry) (fault : Option (Place × NodeFault)) → IsReadWhole files log → IsRestartPoint last first_point node (sound_entries log.start log.entries) point
    → IsReadAs point files taken fault → IsFaultOf files fault
fault_of_whole one rest_law place_law last point node files log taken fault whole is reads entries ended are =
    let same = one files entries log.entries ended whole.fault are whole.read in
    let behind = reads (drop (point.entry - 1) log.entries) whole.fault (read_behind place_law last node files log point whole is) in
    let rest = rest_law last first_point point node log.entries log.entries (omega arith) (front_itself (sound_entries (start_at first_point) log.entries))
    (point_of_whole last node files log point whole is) in
    subst (λ (list : List LogEntry). log_fault Sort beginning list ended ≡ fault) (sym same.0)
    (subst (λ (end : Option (Place × NodeFault)). log_fault Sort beginning log.entries end ≡ fault) (sym same.1) (sym (rest.fault whole.fault) ∙ behind.1))

module _ {S : Type 0} (w : SourceWords S) (one : OneEntryList) (rest_law : RestartReadsTheRest) (place_law : RestartPlaceReadsTheRest) where
  -- how one node's reading ended
  node_ended : (last : Key) (point : RestartPoint) (node : ℕ) (job later : SourcedStage S) (log : NodeLog) (taken : List LogEntry) (items : List NodeItem)
      → NodeHasRead w last point node job later taken items → IsReadWhole (w.held job.source) log
      → IsRestartPoint last first_point node (sound_entries log.start log.entries) point → is_over_by (node_state later.stage).reader.end ≡ true
      → HasEnded w.tells (w.held job.source) (w.faults job.source) (w.faults later.source) (node_state later.stage).reader.end
  node_ended last point node job later log taken items has whole at over = by (node_state later.stage).reader.end refl
    where
      by : (end : NodeEnd) → (node_state later.stage).reader.end ≡ end → HasEnded w.tells (w.held job.source) (w.faults job.source) (w.faults later.source) end
      by Open is = absurd (let e : is_over_by Open ≡ true = sym (ap is_over_by is) ∙ over in cc)
      by Whole is = λ tells. fault_of_whole one rest_law place_law last point node (w.held job.source) log taken None whole at
          (subst (λ (e : NodeEnd). ReadingStands e point (w.held job.source) (node_state later.stage).reader.log taken) is (has.reads.stands tells))
      by ReadFailed is = has.failed is
      by NoMemory is = tt
      by (Faulty place fault) is = λ tells. fault_of_whole one rest_law place_law last point node (w.held job.source) log taken (Some (place, fault)) whole at
          (subst (λ (e : NodeEnd). ReadingStands e point (w.held job.source) (node_state later.stage).reader.log taken) is (has.reads.stands tells))

  -- and those of all nodes, of which the first has this number
  all_ended : (node : ℕ) (last : Key) (points : List RestartPoint) (jobs laters : List (SourcedStage S)) (logs : List NodeLog) (takens : List (List LogEntry)) (sends : List (List NodeItem))
      → AllHaveRead w node last points jobs laters takens sends → AllZip IsReadWhole (files_of_jobs w jobs) logs → PointsFrom last node logs points
      → AreOver (node_rereading w) laters → HaveAllEnded w jobs laters
  all_ended node last [] [] [] logs [] [] all whole at over = tt
  all_ended node last (point ∷ points) (job ∷ jobs) (later ∷ laters) [] (taken ∷ takens) (items ∷ sends) all whole at over = absurd whole
  all_ended node last (point ∷ points) (job ∷ jobs) (later ∷ laters) (log ∷ logs) (taken ∷ takens) (items ∷ sends) (has, all) (is_whole, whole) (is_at, at) (is_over, over) = (
    node_ended last point node job later log taken items has is_whole is_at is_over,
    all_ended (node + 1) last points jobs laters logs takens sends all whole at over,
  )
  all_ended node last points jobs laters logs takens sends all whole at over = absurd all

-- each ended as its log or its source says
pub ends_are_faults : {S : Type 0} (w : SourceWords S) → OneEntryList → RestartReadsTheRest → RestartPlaceReadsTheRest → EndsAreFaults w
ends_are_faults w one rest_law place_law plan logs points nodes merge laters later begun run over =
    let taken = taken_by w plan logs points nodes merge begun laters later run.window run.sends run.gives run.ended in
    all_ended w one rest_law place_law 1 merge.start.last points nodes laters logs taken.takens run.sends taken.each begun.whole begun.behind.restart over
