use Rattle.std.proofs.Common.{◌≡◌, drop}
use Rattle.cdc_config.specs.Keys.{names_of}
use Rattle.cdc_config.specs.Tree.{is_among}
use Rattle.cdc_config.proofs.keys.is_named.Given as goal

-- what is left decides the answer
abbrev pub invariant-loop-user : goal.invariant-loop-user
invariant-loop-user l = is_among l.name (names_of (drop l.user-index l.users)) ≡ is_among l.name (names_of l.users)
