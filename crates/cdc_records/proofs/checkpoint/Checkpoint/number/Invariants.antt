use Rattle.std.proofs.Common.{◌≡◌, ◌+◌, ◌-◌, ◌^◌, min, take}
use Rattle.std.specs.Prelude.{sum_by}
use Rattle.cdc_model.specs.Restart.{RestartPoint}
use Rattle.cdc_records.proofs.checkpoint.Checkpoint.number.Given as goal

abbrev pub invariant-loop-cut : goal.invariant-loop-cut
invariant-loop-cut l = l.number ≡ min (l.self.count + sum_by (λ (point : RestartPoint). point.entry) (take l.cut-index l.self.nodes)) (2 ^ 64 - 1)
