-- Committed branches that wait to be given: by key, and those of one key by the entries that committed them.
use Rattle.std.specs.Prelude.{◌≡◌, ◌<◌, List, [], ◌∷◌, if◌then◌else◌}
use Rattle.std.specs.List.{AllByRecursion}
use Rattle.std.specs.Ordering.{is_lt, nat_cmp, on, then_cmp}
use Rattle.std.specs.Cmp.{IsTotalOrder, nat_cmp_total, on_total, then_total}
use Rattle.std.specs.BTreeSet.{insert_key}
use Rattle.std.specs.declared.cmp.Ordering.{Ordering}
use Rattle.cdc_base.specs.Key.{key_order}
use Rattle.cdc_base.proofs.KeyOrder.{key_order_total}
use Rattle.cdc_model.specs.Records.{CommittedBranch}

-- the order in which branches wait: by key, then by the number of the entry that committed them
abbrev pub wait_order : CommittedBranch → CommittedBranch → Ordering
wait_order = then_cmp (on (λ (branch : CommittedBranch). branch.key) key_order) (on (λ (branch : CommittedBranch). branch.entry) nat_cmp)

-- it is a total order
pub wait_order_total : IsTotalOrder wait_order
wait_order_total = then_total (on_total (λ (branch : CommittedBranch). branch.key) key_order_total) (on_total (λ (branch : CommittedBranch). branch.entry) nat_cmp_total)

-- a branch more, at its place in that order, unless one of the same key and number stands there
abbrev pub wait_with : List CommittedBranch → CommittedBranch → List CommittedBranch
wait_with waiting branch = insert_key wait_order waiting branch

-- a branch more, behind all whose keys aren't above its own
abbrev pub wait_behind : List CommittedBranch → CommittedBranch → List CommittedBranch
wait_behind [] branch = branch ∷ []
wait_behind (first ∷ rest) branch =
    if is_lt (key_order branch.key first.key) then branch ∷ first ∷ rest else first ∷ wait_behind rest branch

-- law: a branch that a later entry committed than all that wait stands behind all whose keys aren't above its own
abbrev pub NewestStandsBehind : Type 0
NewestStandsBehind = (waiting : List CommittedBranch) (branch : CommittedBranch)
    → AllByRecursion (λ (other : CommittedBranch). other.entry < branch.entry) waiting → wait_with waiting branch ≡ wait_behind waiting branch
