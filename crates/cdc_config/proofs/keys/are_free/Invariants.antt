use Rattle.std.proofs.Common.{◌≡◌, drop, not}
use Rattle.std.specs.List.{list_all}
use Rattle.cdc_config.specs.Tree.{is_among}
use Rattle.cdc_config.proofs.keys.are_free.Given as goal

-- what is left decides the answer
abbrev pub invariant-loop-text : goal.invariant-loop-text
invariant-loop-text l = list_all (λ text. not (is_among text l.taken)) (drop l.text-index l.texts) ≡ list_all (λ text. not (is_among text l.taken)) l.texts
