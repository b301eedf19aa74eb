use Rattle.std.proofs.Common.{◌≡◌, drop, map}
use Rattle.cdc_model.specs.Soundness as soundness
use Rattle.cdc_model.specs.Watermark as watermark
use Rattle.cdc_model.specs.Transaction.{logs_low_water_mark}
use Rattle.cdc_plain.proofs.watermark.low_water_mark.Given as goal

-- what is left decides the rest
abbrev pub invariant-loop-log : goal.invariant-loop-log
invariant-loop-log l =
    watermark.least l.mark (map (λ log. watermark.node_low_water_mark (soundness.reached log)) (drop l.log-index l.rest)) ≡ logs_low_water_mark l.logs
