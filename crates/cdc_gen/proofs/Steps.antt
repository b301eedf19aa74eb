-- Lists of steps: how long they are, and one more of them.
use Rattle.std.proofs.Common.{◌≡◌, ℕ, zero, suc, ◌+◌, ◌*◌, ◌-◌, ◌/◌, ◌%◌, ◌≤◌, ◌<◌, Bool, true, false, List, [], ◌∷◌, ◌++◌, length, map, take, drop, length-append, length-take, length-drop, append_assoc, append-nil, ap, sym, ◌∙◌, add-one, arith}
use Rattle.std.specs.Prelude.{Result, Ok, Err, OnOk}
use Rattle.std.proofs.lemmas.Bool.{le-leb, lt-leb, eq-eqb}
use Rattle.std.specs.Prelude.{◌==◌, nat_le, if◌then◌else◌}
use Rattle.std.specs.List.{range_with_len, flat_map, AllByRecursion}
use Rattle.std.proofs.lemmas.List.{length-map}
use Rattle.std.proofs.lemmas.Grind.{flat_map-append}
use Rattle.std.proofs.lemmas.List.Folds.{flat_map-map}
use Rattle.std.proofs.lemmas.List.FromFn.{map-range_with_len_more, length-map-range_with_len}
use Rattle.cdc_gen.specs.declared.step.StepKind.{StepKind}
use Rattle.cdc_gen.specs.declared.step.StepKind.TheVariants.{Prepare, Commit, Local, End}
use Rattle.cdc_gen.specs.declared.step.Step.{Step}
use Rattle.cdc_gen.specs.declared.step.Planned.{Planned}
use Rattle.cdc_gen.specs.Script.{step_on, planned, nodes_of, script_steps, block_size, block_plan, going_round, first_commit, local_steps, block_steps, end_steps}
use Rattle.cdc_gen.specs.Growing.{growing_logs}

-- ---- facts of all items

pub all_more : {A : Type 0} (P : A → Type 0) (xs : List A) (x : A) → AllByRecursion P xs → P x → AllByRecursion P (xs ++ x ∷ [])
all_more P [] x all one = (one, tt)
all_more P (y ∷ ys) x all one = (all.0, all_more P ys x all.1 one)

all_behind : {A : Type 0} (P : A → Type 0) (xs : List A) (i : ℕ) → AllByRecursion P (drop i xs) → AllByRecursion P (drop (suc i) xs)
all_behind P [] zero all = all
all_behind P [] (suc i) all = all
all_behind P (x ∷ xs) zero all = all.1
all_behind P (x ∷ xs) (suc i) all = all_behind P xs i all

pub all_left : {A : Type 0} (P : A → Type 0) (xs : List A) (i : ℕ) → AllByRecursion P (drop i xs) → AllByRecursion P (drop (i + 1) xs)
all_left P xs i all = rw add-one (all_behind P xs i all)

-- ---- lengths

-- there is a log a node
pub growing_length : (nodes : ℕ) (steps : List Step) (logs : List (List ℕ)) → logs ≡ growing_logs nodes steps → length logs ≡ nodes
growing_length nodes steps logs h = ap length h ∙ length-map-range_with_len _ 1 nodes

chosen_few : (both : Bool) (first second : ℕ) → length (if both then first ∷ second ∷ [] else first ∷ []) ≤ 2
chosen_few true first second = omega arith
chosen_few false first second = omega arith

pub nodes_few : (nodes : ℕ) (plan : Planned) → length (nodes_of nodes plan) ≤ 2
nodes_few nodes plan = chosen_few (nat_le 2 nodes) plan.first (plan.first % nodes + 1)

pub steps_few : (nodes : ℕ) (kind : StepKind) (plans : List Planned) → length (flat_map (script_steps nodes kind) plans) ≤ 2 * length plans
steps_few nodes kind [] = omega arith
steps_few nodes kind (plan ∷ plans) =
    let first = length-map (nodes_of nodes plan) (step_on kind plan.number) in
    let few = nodes_few nodes plan in
    let rest = steps_few nodes kind plans in
    let both = length-append (script_steps nodes kind plan) (flat_map (script_steps nodes kind) plans) in
    omega (arith, first, few, rest, both)

maybe_few : (there : Bool) (step : Step) → length (if there then step ∷ [] else []) ≤ 1
maybe_few true step = omega arith
maybe_few false step = omega arith

round_length : (start : ℕ) (plans : List Planned) → length (going_round start plans) ≡ length plans
round_length start plans = length-append (drop start plans) (take start plans) ∙ (let front = length-drop start plans in let back = length-take start plans in omega (arith, front, back))

block_few : (seed nodes count block : ℕ) → length (block_steps seed nodes count block) ≤ 17
unfolding block_steps
block_few seed nodes count block =
    let plan = block_plan seed nodes count block in
    let long : length plan ≡ block_size count block = length-map-range_with_len (planned seed nodes) (4 * block + 1) (block_size count block) in
    let round = going_round (first_commit seed count block) plan in
    let again = round_length (first_commit seed count block) plan in
    let one = steps_few nodes Prepare plan in
    let two = steps_few nodes Commit round in
    let three = maybe_few ((4 * block + block_size count block) % 100 == 0) (step_on Local (4 * block + block_size count block) (((4 * block + block_size count block) / 100 - 1) % nodes + 1)) in
    simp length-append (omega (arith, long, again, one, two, three))

pub blocks_few : (seed nodes count a n : ℕ) → length (flat_map (block_steps seed nodes count) (range_with_len a n)) ≤ 17 * n
blocks_few seed nodes count a zero = omega arith
blocks_few seed nodes count a (suc n) =
    let first = block_few seed nodes count a in
    let rest = blocks_few seed nodes count (a + 1) n in
    let both = length-append (block_steps seed nodes count a) (flat_map (block_steps seed nodes count) (range_with_len (a + 1) n)) in
    omega (arith, first, rest, both)

pub ends_few : (nodes count : ℕ) → length (end_steps nodes count) ≡ nodes
ends_few nodes count = length-map-range_with_len (step_on End count) 1 nodes

-- ---- one more

pub more_ranges : {A : Type 0} (f : ℕ → List A) (a n j : ℕ) → a + n ≡ j → flat_map f (range_with_len a (n + 1)) ≡ flat_map f (range_with_len a n) ++ f j
more_ranges {A = A} f a n j h =
    let items : List A → List A = λ x. x in
    sym (flat_map-map items f (range_with_len a (n + 1)))
    ∙ ap (λ xss. flat_map items xss) (map-range_with_len_more f a n j h)
    ∙ flat_map-append items (map f (range_with_len a n)) (f j ∷ [])
    ∙ ap (λ front. front ++ (f j ++ [])) (flat_map-map items f (range_with_len a n))
    ∙ ap (λ last. flat_map f (range_with_len a n) ++ last) (append-nil (f j))

pub more_ends : (steps : List Step) (nodes count : ℕ) → (steps ++ end_steps nodes count) ++ step_on End count (nodes + 1) ∷ [] ≡ steps ++ end_steps (nodes + 1) count
more_ends steps nodes count =
    let more = map-range_with_len_more (step_on End count) 1 nodes (nodes + 1) (omega arith) in
    append_assoc steps (end_steps nodes count) (step_on End count (nodes + 1) ∷ []) ∙ ap (λ last. steps ++ last) (sym more)

-- ---- the nodes of a transaction

pub one_node : (nodes : ℕ) (kind : StepKind) (plan : Planned) → nodes < 2 → script_steps nodes kind plan ≡ step_on kind plan.number plan.first ∷ []
one_node nodes kind plan h =
    ap (λ both. map (step_on kind plan.number) (if both then plan.first ∷ (plan.first % nodes + 1) ∷ [] else plan.first ∷ [])) (lt-leb 2 nodes h)

pub two_nodes : (nodes : ℕ) (kind : StepKind) (plan : Planned) → 2 ≤ nodes →
    script_steps nodes kind plan ≡ step_on kind plan.number plan.first ∷ step_on kind plan.number (plan.first % nodes + 1) ∷ []
two_nodes nodes kind plan h =
    ap (λ both. map (step_on kind plan.number) (if both then plan.first ∷ (plan.first % nodes + 1) ∷ [] else plan.first ∷ [])) (le-leb 2 nodes h)

-- behind a hundred
pub local_due : (nodes k : ℕ) → k % 100 ≡ 0 → local_steps nodes k ≡ step_on Local k ((k / 100 - 1) % nodes + 1) ∷ []
local_due nodes k h = ap (λ due. if due then step_on Local k ((k / 100 - 1) % nodes + 1) ∷ [] else []) (eq-eqb (k % 100) 0 h)

-- ---- more steps behind steps

pub two_more : (nodes count : ℕ) (kind : StepKind) (plan : Planned) (steps : List Step) (new : List (List ℕ)) → 2 ≤ nodes → count ≡ nodes →
    new ≡ growing_logs nodes ((steps ++ step_on kind plan.number plan.first ∷ []) ++ step_on kind plan.number (plan.first % count + 1) ∷ []) →
    new ≡ growing_logs nodes (steps ++ script_steps nodes kind plan)
two_more nodes count kind plan steps new both same e =
    let first = step_on kind plan.number plan.first in
    e ∙ ap (λ all. growing_logs nodes all)
    (append_assoc steps (first ∷ []) (step_on kind plan.number (plan.first % count + 1) ∷ [])
    ∙ ap (λ n. steps ++ first ∷ step_on kind plan.number (plan.first % n + 1) ∷ []) same
    ∙ ap (λ more. steps ++ more) (sym (two_nodes nodes kind plan both)))

pub due_more : (nodes count k : ℕ) (steps : List Step) (new : List (List ℕ)) → count ≡ nodes → k % 100 ≡ 0 →
    new ≡ growing_logs nodes (steps ++ step_on Local k ((k / 100 - 1) % count + 1) ∷ []) →
    new ≡ growing_logs nodes (steps ++ local_steps nodes k)
due_more nodes count k steps new same due e =
    e ∙ ap (λ n. growing_logs nodes (steps ++ step_on Local k ((k / 100 - 1) % n + 1) ∷ [])) same
    ∙ ap (λ more. growing_logs nodes (steps ++ more)) (sym (local_due nodes k due))

-- a fact that stands in any case
pub always : {T E P : Type 0} (r : Result T E) → P → OnOk r P
always (Ok x) p = p
always (Err e) p = tt

-- the steps of a block, part by part
block_is : (seed nodes count block start : ℕ) (steps : List Step) (plan : List Planned) →
    plan ≡ block_plan seed nodes count block → start ≡ first_commit seed count block →
    (((steps ++ flat_map (script_steps nodes Prepare) plan) ++ flat_map (script_steps nodes Commit) (drop start plan)) ++ flat_map (script_steps nodes Commit) (take start plan)) ++ local_steps nodes (4 * block + block_size count block)
    ≡ steps ++ block_steps seed nodes count block
unfolding block_steps
block_is seed nodes count block start steps plan p s =
    let commits = flat_map-append (script_steps nodes Commit) (drop start plan) (take start plan) in
    rw (← p, ← s, commits) (simp append_assoc)

pub block_done : (seed nodes count block start size : ℕ) (steps : List Step) (whole front back : List Planned) (new : List (List ℕ)) →
    whole ≡ block_plan seed nodes count block → start ≡ first_commit seed count block → size ≡ block_size count block → front ≡ take start whole → back ≡ drop start whole →
    new ≡ growing_logs nodes ((((steps ++ flat_map (script_steps nodes Prepare) whole) ++ flat_map (script_steps nodes Commit) back) ++ flat_map (script_steps nodes Commit) front) ++ local_steps nodes (4 * block + size)) →
    new ≡ growing_logs nodes (steps ++ block_steps seed nodes count block)
block_done seed nodes count block start size steps whole front back new w s z f b e =
    let commit = script_steps nodes Commit in
    let first = steps ++ flat_map (script_steps nodes Prepare) whole in
    e ∙ ap (λ items. growing_logs nodes (((first ++ flat_map commit items) ++ flat_map commit front) ++ local_steps nodes (4 * block + size))) b
    ∙ ap (λ items. growing_logs nodes (((first ++ flat_map commit (drop start whole)) ++ flat_map commit items) ++ local_steps nodes (4 * block + size))) f
    ∙ ap (λ n. growing_logs nodes (((first ++ flat_map commit (drop start whole)) ++ flat_map commit (take start whole)) ++ local_steps nodes (4 * block + n))) z
    ∙ ap (λ steps. growing_logs nodes steps) (block_is seed nodes count block start steps whole w s)
