use Rattle.std.proofs.Common.{◌≡◌, take, drop}
use Rattle.cdc_model.specs.Print.{split_at_colons}
use Rattle.cdc_model.proofs.Colons.{behind}
use Rattle.cdc_model.proofs.statement.colons_at.Given as goal

-- what is left of the text decides the rest
abbrev pub invariant-loop-at : goal.invariant-loop-at
invariant-loop-at l = behind (take l.at l.text) (split_at_colons (drop l.at l.text)) ≡ split_at_colons l.text
