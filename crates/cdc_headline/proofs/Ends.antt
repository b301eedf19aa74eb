-- How a pass that ran its windows ends, and what it came to then.
use Rattle.std.proofs.Common.{◌≡◌, ℕ, zero, suc, ◌+◌, ◌-◌, ◌<◌, ◌≤◌, inl, inr, true, false, Bool, IsTrue, List, [], ◌∷◌, length, slice_index_or, Some, None, refl, subst, arith}
use Rattle.std.specs.List.{AllByRecursion}
use Rattle.std.proofs.lemmas.List.{length-map}
use Rattle.cdc_base.specs.declared.place.Place.{Place}
use Rattle.cdc_base.specs.Key.{first_key}
use Rattle.cdc_model.specs.declared.fault.NodeFault.{NodeFault}
use Rattle.cdc_model.specs.declared.node_log.NodeLog.{NodeLog}
use Rattle.cdc_model.specs.Transaction.{oversized_transaction}
use Rattle.cdc_reader.specs.declared.step.NodeEnd.{NodeEnd}
use Rattle.cdc_reader.specs.declared.step.NodeEnd.TheVariants.{Open as GoesOn, Whole, Read as ReadFailed, Memory as NoMemory, Fault as Faulty}
use Rattle.cdc_recovery.specs.Outputs.{OutputPlan, planned_transactions}
use Rattle.cdc_print.specs.Outcome.{IsFaultOf, HasEnded, AreClean, IsLeastFault}
use Rattle.cdc_content.specs.Laws.{IsToEnd}
use Rattle.cdc_merge_stage.specs.declared.merge_end.MergeEnd.{MergeEnd}
use Rattle.cdc_merge_stage.specs.declared.merge_end.MergeEnd.TheVariants as merging
use Rattle.cdc_merge_stage.specs.Merged.{MergeState, merges_on}
use Rattle.cdc_node_stage.specs.Job.{SourceWords, SourcedStage}
use Rattle.cdc_opening.specs.declared.outcome.Outcome.{Outcome}
use Rattle.cdc_opening.specs.declared.outcome.Outcome.TheVariants.{Done, Disk, TaskDisk, Read, Memory, TooLarge, Node, Open, Task, Behind, Differs, Key as OtherKey}
use Rattle.cdc_opening.specs.Outcomes.{place_of_outcome, ComesBefore}
use Rattle.cdc_units.specs.Laws.{EndsAtOversized}
use Rattle.cdc_windows.specs.declared.pass.Passed.{Passed}
use Rattle.cdc_windows.specs.Rereading.{AreOver}
use Rattle.cdc_windows.specs.Sourced.{is_over_by, node_rereading}
use Rattle.cdc_reads.specs.Begun.{files_of_jobs}
use Rattle.cdc_reads.specs.Ended.{AreReadThrough, HaveAllEnded}
use Rattle.cdc_headline.specs.Ending.{cause_of_node, causes_of_nodes, cause_of_merge, IsPassEnd, PublishesAll, ReadsAll}
use Rattle.cdc_headline.proofs.Causes.{EndsAt}

-- a node, counted from 1, ended so
pub record EndedAs {S : Type 0} (jobs : List (SourcedStage S)) (node : ℕ) (end : NodeEnd) : Type 0 where
  pub behind : ℕ
  pub is_number : node ≡ 1 + behind
  pub ends : EndsAt jobs behind end

-- what an answer tells of the nodes' readings and of the merging
abbrev pub IsTold : {S : Type 0} → List (SourcedStage S) → MergeEnd → Outcome → Type 0
IsTold jobs end Done = Unit {0}
IsTold jobs end (Disk out) = Unit {0}
IsTold jobs end TaskDisk = Unit {0}
IsTold jobs end (Read node) = Unit {0}
IsTold jobs end Memory = Unit {0}
IsTold jobs end (TooLarge number bytes) = end ≡ merging.TooLarge number bytes
IsTold jobs end (Node node place fault) = EndedAs jobs node (Faulty place fault)
IsTold jobs end (Open out fault) = ⊥
IsTold jobs end (Task fault) = ⊥
IsTold jobs end (Behind node kept given) = ⊥
IsTold jobs end (Differs out kept given) = ⊥
IsTold jobs end (OtherKey out kept given) = ⊥

-- the merging's cause tells it
pub merge_told : {S : Type 0} (jobs : List (SourcedStage S)) (end : MergeEnd) → IsTold jobs end (cause_of_merge end)
merge_told jobs merging.Open = tt
merge_told jobs merging.Whole = tt
merge_told jobs (merging.TooLarge number bytes) = refl
merge_told jobs merging.Memory = tt

-- ---- each reading and the merging, where no cause comes before a late answer

-- a reading that is over came to its log's end or its fault
read_through : (node : ℕ) (end : NodeEnd) (outcome : Outcome) → 10 < place_of_outcome outcome → (ComesBefore (cause_of_node node end) outcome → ⊥) → is_over_by end ≡ true → IsToEnd end
read_through node GoesOn outcome late never over = absurd (let h = over in cc)
read_through node Whole outcome late never over = tt
read_through node ReadFailed outcome late never over = absurd (never (inl (omega (arith, late))))
read_through node NoMemory outcome late never over = absurd (never (inl (omega (arith, late))))
read_through node (Faulty place fault) outcome late never over = tt

-- so did all
all_read_through : {S : Type 0} (s : SourceWords S) (first : ℕ) (jobs : List (SourcedStage S)) (outcome : Outcome) → 10 < place_of_outcome outcome
    → AllByRecursion (λ (cause : Outcome). ComesBefore cause outcome → ⊥) (causes_of_nodes first jobs) → AreOver (node_rereading s) jobs → AreReadThrough jobs
all_read_through s first [] outcome late never over = tt
all_read_through s first (job ∷ jobs) outcome late never over =
    (read_through first job.stage.reader.end outcome late never.0 over.0, all_read_through s (first + 1) jobs outcome late never.1 over.1)

-- the merging is whole
merged_whole : (end : MergeEnd) (outcome : Outcome) → 12 < place_of_outcome outcome → (ComesBefore (cause_of_merge end) outcome → ⊥) → merges_on end ≡ false → end ≡ merging.Whole
merged_whole merging.Open outcome late never over = absurd (let h = over in cc)
merged_whole merging.Whole outcome late never over = refl
merged_whole (merging.TooLarge number bytes) outcome late never over = absurd (never (inl (omega (arith, late))))
merged_whole merging.Memory outcome late never over = absurd (never (inl (omega (arith, late))))

-- a reading whose fault would come before has none
clean_end : (told : Bool) (files : List (List ℕ)) (before now node : ℕ) (end : NodeEnd) (outcome : Outcome) → 10 < place_of_outcome outcome → ((place : Place) (fault : NodeFault) → ComesBefore (Node node place fault) outcome)
    → HasEnded told files before now end → (ComesBefore (cause_of_node node end) outcome → ⊥) → IsTrue told → IsFaultOf files None
clean_end told files before now node GoesOn outcome late sooner ended never tells = absurd ended
clean_end told files before now node Whole outcome late sooner ended never tells = ended tells
clean_end told files before now node ReadFailed outcome late sooner ended never tells = absurd (never (inl (omega (arith, late))))
clean_end told files before now node NoMemory outcome late sooner ended never tells = absurd (never (inl (omega (arith, late))))
clean_end told files before now node (Faulty place fault) outcome late sooner ended never tells = absurd (never (sooner place fault))

module _ {S : Type 0} (s : SourceWords S) (tells : IsTrue s.tells) where
  -- where all is done no log has a fault
  all_clean : (first : ℕ) (jobs laters : List (SourcedStage S)) → HaveAllEnded s jobs laters → AllByRecursion (λ (cause : Outcome). ComesBefore cause Done → ⊥) (causes_of_nodes first laters) → AreClean (files_of_jobs s jobs)
  all_clean first [] [] ended never = tt
  all_clean first [] (l ∷ laters) ended never = absurd ended
  all_clean first (j ∷ jobs) [] ended never = absurd ended
  all_clean first (j ∷ jobs) (l ∷ laters) ended never = (
    clean_end s.tells (s.held j.source) (s.faults j.source) (s.faults l.source) first l.stage.reader.end Done (omega arith) (λ place fault. inl (omega arith)) ended.0 never.0 tells,
    all_clean (first + 1) jobs laters ended.1 never.1,
  )

  -- the log of a node that would be answered before has no fault
  clean_at : (first : ℕ) (jobs laters : List (SourcedStage S)) (k node : ℕ) (outcome : Outcome) → node ≡ first + k → k < length jobs → 10 < place_of_outcome outcome
      → ((place : Place) (fault : NodeFault) → ComesBefore (Node node place fault) outcome) → HaveAllEnded s jobs laters
      → AllByRecursion (λ (cause : Outcome). ComesBefore cause outcome → ⊥) (causes_of_nodes first laters) → IsFaultOf (slice_index_or (files_of_jobs s jobs) k []) None
  clean_at first [] laters k node outcome is within late sooner ended never = absurd (omega (arith, within))
  clean_at first (j ∷ jobs) [] k node outcome is within late sooner ended never = absurd ended
  clean_at first (j ∷ jobs) (l ∷ laters) zero node outcome is within late sooner ended never =
      clean_end s.tells (s.held j.source) (s.faults j.source) (s.faults l.source) first l.stage.reader.end outcome late
      (λ place fault. subst (λ (n : ℕ). ComesBefore (Node n place fault) outcome) (let e : node ≡ first = omega (arith, is) in e) (sooner place fault)) ended.0 never.0 tells
  clean_at first (j ∷ jobs) (l ∷ laters) (suc k) node outcome is within late sooner ended never =
      clean_at (first + 1) jobs laters k node outcome (omega (arith, is)) (omega (arith, within)) late sooner ended.1 never.1

  -- a node's reading that ended by a fault: it is the log's
  fault_at : (jobs laters : List (SourcedStage S)) (k : ℕ) (place : Place) (fault : NodeFault) → HaveAllEnded s jobs laters → EndsAt laters k (Faulty place fault)
      → (k < length jobs) × IsFaultOf (slice_index_or (files_of_jobs s jobs) k []) (Some (place, fault))
  fault_at [] [] k place fault ended ends = absurd ends
  fault_at [] (l ∷ laters) k place fault ended ends = absurd ended
  fault_at (j ∷ jobs) [] k place fault ended ends = absurd ended
  fault_at (j ∷ jobs) (l ∷ laters) zero place fault ended ends =
      (omega arith, subst (λ (end : NodeEnd). HasEnded s.tells (s.held j.source) (s.faults j.source) (s.faults l.source) end) ends ended.0 tells)
  fault_at (j ∷ jobs) (l ∷ laters) (suc k) place fault ended ends =
      let there = fault_at jobs laters k place fault ended.1 ends in
      (let within = there.0 in omega (arith, within), there.1)

  -- the node that is answered has the least fault
  least_fault : (jobs laters : List (SourcedStage S)) (node : ℕ) (place : Place) (fault : NodeFault) → HaveAllEnded s jobs laters → EndedAs laters node (Faulty place fault)
      → AllByRecursion (λ (cause : Outcome). ComesBefore cause (Node node place fault) → ⊥) (causes_of_nodes 1 laters) → IsLeastFault (files_of_jobs s jobs) node place fault
  least_fault jobs laters node place fault ended so never =
      let is = so.is_number in
      let there = fault_at jobs laters so.behind place fault ended so.ends in
      let within = there.0 in
      let long = length-map jobs (λ (job : SourcedStage S). s.held job.source) in
      record {
        first = omega (arith, is);
        last = omega (arith, is, within, long);
        has = subst (λ (k : ℕ). IsFaultOf (slice_index_or (files_of_jobs s jobs) k []) (Some (place, fault))) (let e : so.behind ≡ node - 1 = omega (arith, is) in e) there.1;
        lesser = λ other from less.
            clean_at 1 jobs laters (other - 1) other (Node node place fault) (omega (arith, from)) (omega (arith, is, within, less)) (omega arith) (λ at cause. inr (refl, less)) ended never;
      }

-- what is known of a pass that ran its windows to an answer
pub record HasStopped {S : Type 0} (s : SourceWords S) (plan : OutputPlan) (logs : List NodeLog) (jobs laters : List (SourcedStage S)) (later : MergeState) (passed : Passed) (outcome : Outcome) : Type 0 where
  pub told : IsTold laters later.end outcome
  pub disks_later : ComesBefore passed.cause outcome → ⊥
  pub nodes_later : AllByRecursion (λ (cause : Outcome). ComesBefore cause outcome → ⊥) (causes_of_nodes 1 laters)
  pub merge_later : ComesBefore (cause_of_merge later.end) outcome → ⊥
  pub over : 10 < place_of_outcome passed.cause → AreOver (node_rereading s) laters
  pub whole : 11 < place_of_outcome passed.cause → passed.whole ≡ true
  pub merged : merges_on later.end ≡ false
  pub all_given : AreReadThrough laters → later.end ≡ merging.Whole → (later.behind.count ≡ length (planned_transactions plan logs)) × (oversized_transaction plan.rules 0 first_key logs ≡ None)
  pub too_large : (number bytes : ℕ) → later.end ≡ merging.TooLarge number bytes → EndsAtOversized plan logs later number bytes
  pub ended : AreOver (node_rereading s) laters → HaveAllEnded s jobs laters

-- how it ends by the logs, and that all was published where that is told
pub record EndsSo {S : Type 0} (s : SourceWords S) (plan : OutputPlan) (logs : List NodeLog) (jobs : List (SourcedStage S)) (count : ℕ) (whole : Bool) (outcome : Outcome) : Type 0 where
  pub ends : IsPassEnd plan logs (files_of_jobs s jobs) outcome
  pub all : PublishesAll outcome → (whole ≡ true) × (count ≡ length (planned_transactions plan logs))

-- each reading was read through, the merging is whole, and no output and no want of memory stopped the pass
pub record IsReadOut {S : Type 0} (laters : List (SourcedStage S)) (later : MergeState) (passed : Passed) : Type 0 where
  pub late : 11 < place_of_outcome passed.cause
  pub through : AreReadThrough laters
  pub whole : later.end ≡ merging.Whole

-- answers that read all come late
reads_late : (outcome : Outcome) → ReadsAll outcome → 12 < place_of_outcome outcome
reads_late Done all = omega arith
reads_late (Disk out) all = absurd all
reads_late TaskDisk all = absurd all
reads_late (Read node) all = absurd all
reads_late Memory all = absurd all
reads_late (TooLarge number bytes) all = absurd all
reads_late (Node node place fault) all = omega arith
reads_late (Open out fault) all = absurd all
reads_late (Task fault) all = absurd all
reads_late (Behind node kept given) all = absurd all
reads_late (Differs out kept given) all = absurd all
reads_late (OtherKey out kept given) all = absurd all

-- what isn't less is at least
not_less : (x y : ℕ) → (x < y → ⊥) → y ≤ x
not_less x y never = omega (arith, never)

module _ {S : Type 0} (s : SourceWords S) (tells : IsTrue s.tells) (plan : OutputPlan) (logs : List NodeLog) (jobs laters : List (SourcedStage S)) (later : MergeState) (passed : Passed) where
  -- the outputs' cause doesn't come before the answer
  disks_are_late : (outcome : Outcome) → HasStopped s plan logs jobs laters later passed outcome → place_of_outcome outcome ≤ place_of_outcome passed.cause
  disks_are_late outcome stopped = not_less (place_of_outcome passed.cause) (place_of_outcome outcome) (λ less. stopped.disks_later (inl less))

  -- behind a late answer all was read, and the merging is whole
  read_out : (outcome : Outcome) → HasStopped s plan logs jobs laters later passed outcome → 12 < place_of_outcome outcome → IsReadOut laters later passed
  read_out outcome stopped late =
      let by_disks = disks_are_late outcome stopped in
      record {
        late = omega (arith, late, by_disks);
        through = all_read_through s 1 laters outcome (omega (arith, late)) stopped.nodes_later (stopped.over (omega (arith, late, by_disks)));
        whole = merged_whole later.end outcome late stopped.merge_later stopped.merged;
      }

  -- so it is where it reads all
  pub reads_all : (outcome : Outcome) → HasStopped s plan logs jobs laters later passed outcome → ReadsAll outcome → IsReadOut laters later passed
  reads_all outcome stopped all = read_out outcome stopped (reads_late outcome all)

  -- all was given then
  given_all : (outcome : Outcome) → HasStopped s plan logs jobs laters later passed outcome → 12 < place_of_outcome outcome
      → (later.behind.count ≡ length (planned_transactions plan logs)) × (oversized_transaction plan.rules 0 first_key logs ≡ None)
  given_all outcome stopped late = let out = read_out outcome stopped late in stopped.all_given out.through out.whole

  -- by each answer
  pub ends_so : (outcome : Outcome) → HasStopped s plan logs jobs laters later passed outcome → EndsSo s plan logs jobs later.behind.count passed.whole outcome
  ends_so Done stopped =
      let late = disks_are_late Done stopped in
      let over = stopped.over (omega (arith, late)) in
      let given = given_all Done stopped (omega arith) in
      record { ends = (all_clean s tells 1 jobs laters (stopped.ended over) stopped.nodes_later, given.1); all = λ is. (stopped.whole (omega (arith, late)), given.0) }
  ends_so (Disk out) stopped = record { ends = tt; all = λ is. absurd is }
  ends_so TaskDisk stopped = record { ends = tt; all = λ is. absurd is }
  ends_so (Read node) stopped = record { ends = tt; all = λ is. absurd is }
  ends_so Memory stopped = record { ends = tt; all = λ is. absurd is }
  ends_so (TooLarge number bytes) stopped =
      let late = disks_are_late (TooLarge number bytes) stopped in
      let large = stopped.too_large number bytes stopped.told in
      record {
        ends = record { txn = large.txn; oversized = large.oversized; is_number = large.is_number; is_length = large.is_length };
        all = λ is. (stopped.whole (omega (arith, late)), large.all);
      }
  ends_so (Node node place fault) stopped =
      let late = disks_are_late (Node node place fault) stopped in
      let over = stopped.over (omega (arith, late)) in
      let given = given_all (Node node place fault) stopped (omega arith) in
      record {
        ends = (least_fault s tells jobs laters node place fault (stopped.ended over) stopped.told stopped.nodes_later, given.1);
        all = λ is. (stopped.whole (omega (arith, late)), given.0);
      }
  ends_so (Open out fault) stopped = absurd stopped.told
  ends_so (Task fault) stopped = absurd stopped.told
  ends_so (Behind node kept given) stopped = absurd stopped.told
  ends_so (Differs out kept given) stopped = absurd stopped.told
  ends_so (OtherKey out kept given) stopped = absurd stopped.told
