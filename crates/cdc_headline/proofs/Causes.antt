-- What the causes of a pass tell, and which of them isn't answered.
use Rattle.std.proofs.Common.{◌≡◌, ℕ, zero, suc, ◌+◌, ◌<◌, inl, inr, true, false, Bool, List, [], ◌∷◌, ◌++◌, length, map, get_or, refl, sym, subst, arith}
use Rattle.std.specs.List.{AllZip, AllByRecursion}
use Rattle.cdc_base.specs.declared.key.Key.{Key}
use Rattle.cdc_base.specs.declared.place.Place.{Place}
use Rattle.cdc_model.specs.declared.fault.NodeFault.{NodeFault}
use Rattle.cdc_model.specs.declared.layout.Layout.{Layout}
use Rattle.cdc_reader.specs.declared.step.NodeEnd.{NodeEnd}
use Rattle.cdc_reader.specs.declared.step.NodeEnd.TheVariants.{Open as GoesOn, Whole, Read as ReadFailed, Memory as NoMemory, Fault as Faulty}
use Rattle.cdc_dump_stage.specs.declared.dump_end.DumpEnd.{DumpEnd}
use Rattle.cdc_dump_stage.specs.declared.dump_end.DumpEnd.TheVariants as dumping
use Rattle.cdc_dump_stage.specs.Job.{StagedDisk}
use Rattle.cdc_node_stage.specs.Job.{SourcedStage}
use Rattle.cdc_opening.specs.declared.outcome.Outcome.{Outcome}
use Rattle.cdc_opening.specs.declared.outcome.Outcome.TheVariants.{Done, Disk, TaskDisk, Read, Memory, Node, Differs, Key as OtherKey}
use Rattle.cdc_windows.specs.Causes.{cause_of_out, causes_of_outs, IsOneOf, also_cause, causes_of_pass}
use Rattle.cdc_headline.specs.Ending.{cause_of_node, causes_of_nodes}
use Rattle.cdc_headline.proofs.Lists.{all_joined}

-- what holds of done and of each cause holds of the one that is answered
pub one_has : (P : Outcome → Type 0) (causes : List Outcome) (first : Outcome) → P Done → AllByRecursion P causes → IsOneOf first causes → P first
one_has P [] first done all is = subst P (sym is) done
one_has P (cause ∷ causes) first done all (inl is) = subst P (sym is) all.0
one_has P (cause ∷ causes) first done all (inr is) = one_has P causes first done all.1 is

-- ---- the nodes

-- of jobs the one behind the first so many ended so
abbrev pub EndsAt : {S : Type 0} → List (SourcedStage S) → ℕ → NodeEnd → Type 0
EndsAt [] k end = ⊥
EndsAt (job ∷ jobs) zero end = job.stage.reader.end ≡ end
EndsAt (job ∷ jobs) (suc k) end = EndsAt jobs k end

-- of one node
node_has : (P : Outcome → Type 0) (node : ℕ) (end : NodeEnd) → P Done → P Memory → (end ≡ ReadFailed → P (Read node)) → ((place : Place) (fault : NodeFault) → end ≡ Faulty place fault → P (Node node place fault)) → P (cause_of_node node end)
node_has P node GoesOn done memory failed faulty = done
node_has P node Whole done memory failed faulty = done
node_has P node ReadFailed done memory failed faulty = failed refl
node_has P node NoMemory done memory failed faulty = memory
node_has P node (Faulty place fault) done memory failed faulty = faulty place fault refl

-- of all nodes, the first of which has this number
pub nodes_have : {S : Type 0} (P : Outcome → Type 0) (first : ℕ) (jobs : List (SourcedStage S)) → P Done → P Memory → ((k node : ℕ) → node ≡ first + k → EndsAt jobs k ReadFailed → P (Read node))
    → ((k node : ℕ) (place : Place) (fault : NodeFault) → node ≡ first + k → EndsAt jobs k (Faulty place fault) → P (Node node place fault)) → AllByRecursion P (causes_of_nodes first jobs)
nodes_have P first [] done memory failed faulty = tt
nodes_have P first (job ∷ jobs) done memory failed faulty = (
  node_has P first job.stage.reader.end done memory (λ is. failed zero first (omega arith) is) (λ place fault is. faulty zero first place fault (omega arith) is),
  nodes_have P (first + 1) jobs done memory (λ k node is ends. failed (suc k) node (omega (arith, is)) ends) (λ k node place fault is ends. faulty (suc k) node place fault (omega (arith, is)) ends),
)

-- ---- the outputs and the task

-- of one output
out_has : (P : Outcome → Type 0) (out : ℕ) (end : DumpEnd) → P Done → ((kept given : Layout) → P (Differs out kept given)) → ((kept given : Key) → P (OtherKey out kept given)) → (end ≡ dumping.Disk → P (Disk out)) → P (cause_of_out out end)
out_has P out dumping.Open done differs key failed = done
out_has P out dumping.Whole done differs key failed = done
out_has P out dumping.Disk done differs key failed = failed refl
out_has P out (dumping.Differs kept given) done differs key failed = differs kept given
out_has P out (dumping.Key kept given) done differs key failed = key kept given

-- a disk behind the first so many has this count of faults before and now
pub record FaultsAt {D : Type 0} (faults : D → ℕ) (R : ℕ → ℕ → Type 0) (olds news : List D) (k : ℕ) : Type 0 where
  pub within : k < length olds
  pub so : R (get_or (map faults olds) k 0) (get_or (map faults news) k 0)

-- of all outputs, the first of which has this number
pub outs_have : {D : Type 0} (P : Outcome → Type 0) (faults : D → ℕ) (R : ℕ → ℕ → Type 0) (first : ℕ) (olds : List D) (jobs : List (StagedDisk D)) → P Done → ((out : ℕ) (kept given : Layout) → P (Differs out kept given)) → ((out : ℕ) (kept given : Key) → P (OtherKey out kept given))
    → AllZip (λ (old : D) (job : StagedDisk D). job.stage.end ≡ dumping.Disk → R (faults old) (faults job.disk)) olds jobs
    → ((k out : ℕ) → out ≡ first + k → FaultsAt faults R olds (map (λ (job : StagedDisk D). job.disk) jobs) k → P (Disk out)) → AllByRecursion P (causes_of_outs first jobs)
outs_have P faults R first [] [] done differs key rose failed = tt
outs_have P faults R first [] (job ∷ jobs) done differs key rose failed = absurd rose
outs_have P faults R first (old ∷ olds) [] done differs key rose failed = tt
outs_have P faults R first (old ∷ olds) (job ∷ jobs) done differs key rose failed = (
  out_has P first job.stage.end done (differs first) (key first) (λ is. failed zero first (omega arith) (record { within = omega arith; so = rose.0 is })),
  outs_have P faults R (first + 1) olds jobs done differs key rose.1 (λ k out is at. failed (suc k) out (omega (arith, is)) (record { within = let there = at.within in omega (arith, there); so = at.so })),
)

-- of a cause that is there only at times
also_has : (P : Outcome → Type 0) (is_there : Bool) (cause : Outcome) → (is_there ≡ true → P cause) → AllByRecursion P (also_cause is_there cause)
also_has P true cause so = (so refl, tt)
also_has P false cause so = tt

-- of all causes of a pass beside its nodes and its merging
pub pass_has : {D : Type 0} (P : Outcome → Type 0) (jobs : List (StagedDisk D)) (task_failed wanting : Bool) → P Memory → AllByRecursion P (causes_of_outs 1 jobs) → (task_failed ≡ true → P TaskDisk)
    → AllByRecursion P (causes_of_pass jobs task_failed wanting)
pass_has P jobs task_failed wanting memory outs task =
    all_joined P (causes_of_outs 1 jobs ++ also_cause task_failed TaskDisk) (also_cause wanting Memory)
    (all_joined P (causes_of_outs 1 jobs) (also_cause task_failed TaskDisk) outs (also_has P task_failed TaskDisk task)) (also_has P wanting Memory (λ is. memory))
