-- A device that the answer of windows names has a count that rose.
use Rattle.std.proofs.Common.{◌≡◌, ℕ, zero, suc, ◌+◌, ◌-◌, ⊎_elim, List, [], ◌∷◌, ◌++◌, map, get_or, Option, subst, arith}
use Rattle.std.specs.List.{AllZip, AllByRecursion}
use Rattle.std.proofs.lemmas.List.{length-map}
use Rattle.cdc_base.specs.declared.key.Key.{Key}
use Rattle.cdc_outside.specs.Count.{Rose}
use Rattle.cdc_model.specs.Restart.{RestartPoint}
use Rattle.cdc_reader.specs.declared.step.NodeEnd.TheVariants.{Read as ReadFailed}
use Rattle.cdc_recovery.specs.Outputs.{OutputPlan}
use Rattle.cdc_dumper.specs.State.{DumperState}
use Rattle.cdc_dump_stage.specs.Disks.{DiskWords}
use Rattle.cdc_merge_stage.specs.declared.merge_end.MergeEnd.{MergeEnd}
use Rattle.cdc_merge_stage.specs.declared.merge_end.MergeEnd.TheVariants as merging
use Rattle.cdc_node_stage.specs.Job.{SourceWords, SourcedStage}
use Rattle.cdc_opening.specs.declared.outcome.Outcome.{Outcome}
use Rattle.cdc_opening.specs.declared.outcome.Outcome.TheVariants.{Done, Disk, TaskDisk, Read, Memory, TooLarge, Node, Open, Task, Behind, Differs, Key as OtherKey}
use Rattle.cdc_opening.specs.Lists.{DeviceRoseAt}
use Rattle.cdc_kept.specs.Kept.{PassStart}
use Rattle.cdc_reads.specs.Begun.{AllBegin}
use Rattle.cdc_windows.specs.Causes.{IsCausedBy, causes_of_pass}
use Rattle.cdc_windows.specs.Sourced.{HasReadOn}
use Rattle.cdc_headline.specs.Ending.{causes_of_nodes, cause_of_merge}
use Rattle.cdc_headline.specs.Running.{HasRunWindows, sources_of}
use Rattle.cdc_headline.specs.Laws.{WindowsNameByCounts}
use Rattle.cdc_headline.proofs.Lists.{all_joined}
use Rattle.cdc_headline.proofs.Causes.{EndsAt, FaultsAt, one_has, nodes_have, outs_have, pass_has}

-- a place, as a number counted from 1
device_rose : {D : Type 0} (faults : D → ℕ) (olds news : List D) (k number : ℕ) → number ≡ 1 + k → FaultsAt faults Rose olds news k → DeviceRoseAt (map faults olds) (map faults news) number
device_rose faults olds news k number is at =
    let within = at.within in
    let long = length-map olds faults in
    record {
      first = omega (arith, is);
      last = omega (arith, is, within, long);
      rose = subst (λ (n : ℕ). Rose (get_or (map faults olds) n 0) (get_or (map faults news) n 0)) (let e : k ≡ number - 1 = omega (arith, is) in e) at.so;
    }

-- a node whose reading was open at first and ended by its source
node_rose_at : {S : Type 0} (s : SourceWords S) (first : ℕ) (last : Key) (points : List RestartPoint) (jobs laters : List (SourcedStage S)) (k : ℕ) → AllBegin first last points jobs → AllZip (HasReadOn s) jobs laters
    → EndsAt laters k ReadFailed → FaultsAt s.faults Rose (sources_of jobs) (sources_of laters) k
node_rose_at s first last [] [] [] k begin read ends = absurd ends
node_rose_at s first last [] [] (l ∷ laters) k begin read ends = absurd read
node_rose_at s first last [] (j ∷ jobs) laters k begin read ends = absurd begin
node_rose_at s first last (p ∷ points) [] laters k begin read ends = absurd begin
node_rose_at s first last (p ∷ points) (j ∷ jobs) [] k begin read ends = absurd read
node_rose_at s first last (p ∷ points) (j ∷ jobs) (l ∷ laters) zero begin read ends = record {
  within = omega arith;
  so = ⊎_elim (λ was. absurd (let a = was in let b = begin.0.1.fresh.3 in cc)) (λ rose. rose) (read.0.asked.fails ends);
}
node_rose_at s first last (p ∷ points) (j ∷ jobs) (l ∷ laters) (suc k) begin read ends =
    let there = node_rose_at s (first + 1) last points jobs laters k begin.1 read.1 ends in
    record { within = let within = there.within in omega (arith, within); so = there.so }

-- what an answer names by a count
abbrev RoseBy : {S D : Type 0} → SourceWords S → DiskWords D → List S → List S → List D → List D → D → D → Outcome → Type 0
RoseBy s w nodes nodes_now outs outs_now task task_now Done = Unit {0}
RoseBy s w nodes nodes_now outs outs_now task task_now (Disk out) = DeviceRoseAt (map w.faults outs) (map w.faults outs_now) out
RoseBy s w nodes nodes_now outs outs_now task task_now TaskDisk = Rose (w.faults task) (w.faults task_now)
RoseBy s w nodes nodes_now outs outs_now task task_now (Read node) = DeviceRoseAt (map s.faults nodes) (map s.faults nodes_now) node
RoseBy s w nodes nodes_now outs outs_now task task_now Memory = Unit {0}
RoseBy s w nodes nodes_now outs outs_now task task_now (TooLarge number bytes) = Unit {0}
RoseBy s w nodes nodes_now outs outs_now task task_now (Node node place fault) = Unit {0}
RoseBy s w nodes nodes_now outs outs_now task task_now (Open out fault) = Unit {0}
RoseBy s w nodes nodes_now outs outs_now task task_now (Task fault) = Unit {0}
RoseBy s w nodes nodes_now outs outs_now task task_now (Behind node kept given) = Unit {0}
RoseBy s w nodes nodes_now outs outs_now task task_now (Differs out kept given) = Unit {0}
RoseBy s w nodes nodes_now outs outs_now task task_now (OtherKey out kept given) = Unit {0}

module _ {S D : Type 0} (s : SourceWords S) (w : DiskWords D) (nodes nodes_now : List S) (outs outs_now : List D) (task task_now : D) where
  -- the merging names no device
  merge_rose : (end : MergeEnd) → RoseBy s w nodes nodes_now outs outs_now task task_now (cause_of_merge end)
  merge_rose merging.Open = tt
  merge_rose merging.Whole = tt
  merge_rose (merging.TooLarge number bytes) = tt
  merge_rose merging.Memory = tt

  -- of the outputs and the task
  disks_rose : (cause : Outcome) → IsCausedBy w.faults outs outs_now task task_now cause → RoseBy s w nodes nodes_now outs outs_now task task_now cause
  disks_rose cause by =
      one_has (RoseBy s w nodes nodes_now outs outs_now task task_now) (causes_of_pass by.jobs by.task_failed by.wanting) cause tt
      (pass_has (RoseBy s w nodes nodes_now outs outs_now task task_now) by.jobs by.task_failed by.wanting tt
      (outs_have (RoseBy s w nodes nodes_now outs outs_now task task_now) w.faults Rose 1 outs by.jobs tt (λ out kept given. tt) (λ out kept given. tt) by.outs_rose
      (λ k out is at. device_rose w.faults outs outs_now k out is (subst (λ (news : List D). FaultsAt w.faults Rose outs news k) by.of_disks at))) by.task_rose) by.first.one

  -- of the sources
  nodes_rose : (last : Key) (points : List RestartPoint) (jobs laters : List (SourcedStage S)) → AllBegin 1 last points jobs → AllZip (HasReadOn s) jobs laters → sources_of jobs ≡ nodes → sources_of laters ≡ nodes_now
      → AllByRecursion (RoseBy s w nodes nodes_now outs outs_now task task_now) (causes_of_nodes 1 laters)
  nodes_rose last points jobs laters begin read of to =
      nodes_have (RoseBy s w nodes nodes_now outs outs_now task task_now) 1 laters tt tt
      (λ k node is ends. device_rose s.faults nodes nodes_now k node is
      (subst (λ (news : List S). FaultsAt s.faults Rose nodes news k) to (subst (λ (olds : List S). FaultsAt s.faults Rose olds (sources_of laters) k) of (node_rose_at s 1 last points jobs laters k begin read ends))))
      (λ k node place fault is ends. tt)

  -- of the answer
  answer_rose : (plan : OutputPlan) (start : PassStart) (dumpers : List DumperState) (behind : Option (ℕ × Key)) (outcome : Outcome)
      → HasRunWindows s w plan start dumpers behind nodes nodes_now outs outs_now task task_now outcome → RoseBy s w nodes nodes_now outs outs_now task task_now outcome
  answer_rose plan start dumpers behind outcome ran =
      one_has (RoseBy s w nodes nodes_now outs outs_now task task_now) (ran.passed.cause ∷ causes_of_nodes 1 ran.laters ++ cause_of_merge ran.later.end ∷ []) outcome tt (
        disks_rose ran.passed.cause ran.caused,
        all_joined (RoseBy s w nodes nodes_now outs outs_now task task_now) (causes_of_nodes 1 ran.laters) (cause_of_merge ran.later.end ∷ [])
            (nodes_rose start.last start.points ran.jobs ran.laters ran.begin ran.ran.ended.nodes_on ran.of_nodes ran.to_nodes) (merge_rose ran.later.end, tt),
      ) ran.first.one

-- windows name a device by its count
pub windows_name_by_counts : {S D : Type 0} (s : SourceWords S) (w : DiskWords D) → WindowsNameByCounts s w
windows_name_by_counts s w = λ plan nodes nodes_now outs outs_now task task_now opened outcome ran.
    let rose = answer_rose s w nodes nodes_now outs outs_now task task_now plan _ _ _ outcome ran in
    record {
      outs_rose = λ number is. subst (λ (o : Outcome). RoseBy s w nodes nodes_now outs outs_now task task_now o) is rose;
      task_rose = λ is. subst (λ (o : Outcome). RoseBy s w nodes nodes_now outs outs_now task task_now o) is rose;
      nodes_rose = λ number is. subst (λ (o : Outcome). RoseBy s w nodes nodes_now outs outs_now task task_now o) is rose;
    }
