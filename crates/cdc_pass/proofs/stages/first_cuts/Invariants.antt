-- The first so many starts.
use Rattle.std.proofs.Common.{◌≡◌, take, map}
use Rattle.cdc_model.specs.Restart.{first_point}
use Rattle.cdc_pass.proofs.stages.first_cuts.Given as goal

abbrev pub invariant-loop : goal.invariant-loop
invariant-loop g l = l.cuts ≡ map (λ _. first_point) (take l.counter l.nodes)
