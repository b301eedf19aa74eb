-- Committed branches that wait to be given, the least key first.
use Rattle.std.specs.Prelude.{◌≡◌, List, [], ◌∷◌}
use Rattle.std.specs.List.{AllByRecursion, fold}
use Rattle.std.specs.declared.cmp.Ordering.TheVariants.{Less}
use Rattle.cdc_base.specs.Key.{key_order}
use Rattle.cdc_model.specs.Records.{CommittedBranch}
use Rattle.cdc_waiting.specs.Waiting.{wait_with}

-- some branches more, one after another
abbrev pub wait_with_all : List CommittedBranch → List CommittedBranch → List CommittedBranch
wait_with_all waiting more = fold wait_with waiting more

-- branches of which none has a key below an earlier one's
abbrev pub AscendByKey : List CommittedBranch → Type 0
AscendByKey [] = Unit {0}
AscendByKey (branch ∷ others) =
    AllByRecursion (λ (other : CommittedBranch). key_order other.key branch.key ≡ Less → ⊥) others × AscendByKey others
