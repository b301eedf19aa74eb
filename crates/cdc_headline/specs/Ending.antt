-- How a pass ends, and why.
use Rattle.std.specs.Prelude.{◌≡◌, ◌<◌, ◌^◌, ℕ, ◌+◌, List, [], ◌∷◌, Some, None}
use Rattle.cdc_base.specs.Key.{first_key}
use Rattle.cdc_model.specs.declared.node_log.NodeLog.{NodeLog}
use Rattle.cdc_model.specs.Records.{Transaction}
use Rattle.cdc_model.specs.Print.{printed_length}
use Rattle.cdc_model.specs.Transaction.{oversized_transaction}
use Rattle.cdc_recovery.specs.Outputs.{OutputPlan}
use Rattle.cdc_print.specs.Outcome.{AreClean, IsLeastFault}
use Rattle.cdc_reader.specs.declared.step.NodeEnd.{NodeEnd}
use Rattle.cdc_reader.specs.declared.step.NodeEnd.TheVariants.{Open as GoesOn, Whole, Read as ReadFailed, Memory as NoMemory, Fault as Faulty}
use Rattle.cdc_node_stage.specs.Job.{SourcedStage}
use Rattle.cdc_merge_stage.specs.declared.merge_end.MergeEnd.{MergeEnd}
use Rattle.cdc_merge_stage.specs.declared.merge_end.MergeEnd.TheVariants as merging
use Rattle.cdc_opening.specs.declared.outcome.Outcome.{Outcome}
use Rattle.cdc_opening.specs.declared.outcome.Outcome.TheVariants.{Done, Disk, TaskDisk, Read, Memory, TooLarge, Node, Open, Task, Behind, Differs, Key as OtherKey}

-- what the end of a node's reading says of the pass
abbrev pub cause_of_node : ℕ → NodeEnd → Outcome
cause_of_node node GoesOn = Done
cause_of_node node Whole = Done
cause_of_node node ReadFailed = Read node
cause_of_node node NoMemory = Memory
cause_of_node node (Faulty place fault) = Node node place fault

-- what the ends of all nodes' readings say, numbered from one on
abbrev pub causes_of_nodes : {S : Type 0} → ℕ → List (SourcedStage S) → List Outcome
causes_of_nodes node [] = []
causes_of_nodes node (job ∷ jobs) = cause_of_node node job.stage.reader.end ∷ causes_of_nodes (node + 1) jobs

-- what the end of the merging says
abbrev pub cause_of_merge : MergeEnd → Outcome
cause_of_merge merging.Open = Done
cause_of_merge merging.Whole = Done
cause_of_merge (merging.TooLarge number bytes) = TooLarge number bytes
cause_of_merge merging.Memory = Memory

-- of the logs of a plan a transaction is too large, and it has this number and a print of so many bytes, where a u64 has them
pub record IsOversizedAs (plan : OutputPlan) (logs : List NodeLog) (number bytes : ℕ) : Type 0 where
  pub txn : Transaction
  pub oversized : oversized_transaction plan.rules 0 first_key logs ≡ Some txn
  pub is_number : number ≡ txn.number
  pub is_length : printed_length plan.rules txn < 2 ^ 64 → bytes ≡ printed_length plan.rules txn

-- none is
abbrev pub NoneIsOversized : OutputPlan → List NodeLog → Type 0
NoneIsOversized plan logs = oversized_transaction plan.rules 0 first_key logs ≡ None

-- how a pass over kept disks ends by its logs: it is done where no log has a fault and no transaction is too large; a transaction
-- is the too large one; a fault is that of the least node whose log has one; a device that failed and want of memory are told
-- by counts and by nothing; nothing is refused
abbrev pub IsPassEnd : OutputPlan → List NodeLog → List (List (List ℕ)) → Outcome → Type 0
IsPassEnd plan logs nodes Done = AreClean nodes × NoneIsOversized plan logs
IsPassEnd plan logs nodes (Disk out) = Unit {0}
IsPassEnd plan logs nodes TaskDisk = Unit {0}
IsPassEnd plan logs nodes (Read node) = Unit {0}
IsPassEnd plan logs nodes Memory = Unit {0}
IsPassEnd plan logs nodes (TooLarge number bytes) = IsOversizedAs plan logs number bytes
IsPassEnd plan logs nodes (Node node place fault) = IsLeastFault nodes node place fault × NoneIsOversized plan logs
IsPassEnd plan logs nodes (Open out fault) = ⊥
IsPassEnd plan logs nodes (Task fault) = ⊥
IsPassEnd plan logs nodes (Behind node kept given) = ⊥
IsPassEnd plan logs nodes (Differs out kept given) = ⊥
IsPassEnd plan logs nodes (OtherKey out kept given) = ⊥

-- with this answer all that is settled is published
abbrev pub PublishesAll : Outcome → Type 0
PublishesAll Done = Unit {0}
PublishesAll (Disk out) = ⊥
PublishesAll TaskDisk = ⊥
PublishesAll (Read node) = ⊥
PublishesAll Memory = ⊥
PublishesAll (TooLarge number bytes) = Unit {0}
PublishesAll (Node node place fault) = Unit {0}
PublishesAll (Open out fault) = ⊥
PublishesAll (Task fault) = ⊥
PublishesAll (Behind node kept given) = ⊥
PublishesAll (Differs out kept given) = ⊥
PublishesAll (OtherKey out kept given) = ⊥

-- with this answer each log was read to its end or its fault, and nothing stops a later pass
abbrev pub ReadsAll : Outcome → Type 0
ReadsAll Done = Unit {0}
ReadsAll (Disk out) = ⊥
ReadsAll TaskDisk = ⊥
ReadsAll (Read node) = ⊥
ReadsAll Memory = ⊥
ReadsAll (TooLarge number bytes) = ⊥
ReadsAll (Node node place fault) = Unit {0}
ReadsAll (Open out fault) = ⊥
ReadsAll (Task fault) = ⊥
ReadsAll (Behind node kept given) = ⊥
ReadsAll (Differs out kept given) = ⊥
ReadsAll (OtherKey out kept given) = ⊥

-- a refusal of the opening
abbrev pub IsRefusedOpening : Outcome → Type 0
IsRefusedOpening Done = ⊥
IsRefusedOpening (Disk out) = ⊥
IsRefusedOpening TaskDisk = ⊥
IsRefusedOpening (Read node) = ⊥
IsRefusedOpening Memory = ⊥
IsRefusedOpening (TooLarge number bytes) = ⊥
IsRefusedOpening (Node node place fault) = ⊥
IsRefusedOpening (Open out fault) = Unit {0}
IsRefusedOpening (Task fault) = Unit {0}
IsRefusedOpening (Behind node kept given) = Unit {0}
IsRefusedOpening (Differs out kept given) = ⊥
IsRefusedOpening (OtherKey out kept given) = ⊥
