-- What happens in a drill, in order, and on which node. Nodes and transactions are counted from 1, blocks of four transactions from 0.
use Rattle.std.specs.Prelude.{ℕ, ◌+◌, ◌-◌, ◌*◌, ◌/◌, ◌%◌, ◌==◌, nat_le, List, [], ◌∷◌, ◌++◌, map, take, drop, min, if◌then◌else◌}
use Rattle.std.specs.List.{range_with_len, flat_map}
use Rattle.cdc_gen.specs.declared.step.StepKind.{StepKind}
use Rattle.cdc_gen.specs.declared.step.StepKind.TheVariants.{Prepare, Commit, Local, End}
use Rattle.cdc_gen.specs.declared.step.Step.{Step}
use Rattle.cdc_gen.specs.declared.step.Planned.{Planned}
use Rattle.cdc_gen.specs.Draws.{draw}

-- a step on a node
abbrev pub step_on : StepKind → ℕ → ℕ → Step
step_on kind number node = record { node = node; kind = kind; number = number }

-- a transaction, and the node that its draw gives: before it stand a draw a transaction and one a whole block
abbrev pub planned : ℕ → ℕ → ℕ → Planned
planned seed nodes k = record { number = k; first = draw seed (k + (k - 1) / 4) % nodes + 1 }

-- the nodes of a transaction that is planned: that node, and the next one where there are two
abbrev pub nodes_of : ℕ → Planned → List ℕ
nodes_of nodes plan = if nat_le 2 nodes then plan.first ∷ (plan.first % nodes + 1) ∷ [] else plan.first ∷ []

-- a step of a transaction on each of its nodes
abbrev pub script_steps : ℕ → StepKind → Planned → List Step
script_steps nodes kind plan = map (step_on kind plan.number) (nodes_of nodes plan)

-- how many transactions a block has
abbrev pub block_size : ℕ → ℕ → ℕ
block_size count block = min (count - 4 * block) 4

-- the transactions of a block
abbrev pub block_plan : ℕ → ℕ → ℕ → ℕ → List Planned
block_plan seed nodes count block = map (planned seed nodes) (range_with_len (4 * block + 1) (block_size count block))

-- a list that begins at one of its places and goes round
abbrev pub going_round : {A : Type 0} → ℕ → List A → List A
going_round start items = drop start items ++ take start items

-- the place of a block's first commit, by the draw behind those of its transactions
abbrev pub first_commit : ℕ → ℕ → ℕ → ℕ
first_commit seed count block = draw seed (5 * block + block_size count block + 1) % block_size count block

-- behind each hundred transactions, a transaction on one node, which goes by turns
abbrev pub local_steps : ℕ → ℕ → List Step
local_steps nodes k = if k % 100 == 0 then step_on Local k ((k / 100 - 1) % nodes + 1) ∷ [] else []

-- what happens in a block: all prepares in order, all commits going round, and maybe a transaction on one node
unfoldable pub block_steps : ℕ → ℕ → ℕ → ℕ → List Step
block_steps seed nodes count block =
    let plan = block_plan seed nodes count block in
    flat_map (script_steps nodes Prepare) plan
    ++ flat_map (script_steps nodes Commit) (going_round (first_commit seed count block) plan)
    ++ local_steps nodes (4 * block + block_size count block)

-- the end, on each node
abbrev pub end_steps : ℕ → ℕ → List Step
end_steps nodes count = map (step_on End count) (range_with_len 1 nodes)

-- all blocks, and then the end
unfoldable pub drill_steps : ℕ → ℕ → ℕ → List Step
drill_steps seed nodes count = flat_map (block_steps seed nodes count) (range_with_len 0 ((count + 3) / 4)) ++ end_steps nodes count
