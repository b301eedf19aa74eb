use Rattle.std.proofs.Common.{◌≡◌, drop, map}
use Rattle.cdc_model.specs.Watermark as watermark
use Rattle.cdc_plain.proofs.watermark.node_low_water_mark.Given as goal

-- what is left decides the rest
abbrev pub invariant-loop-branch : goal.invariant-loop-branch
invariant-loop-branch l =
    watermark.least l.mark (map (λ branch. branch.floor) (drop l.branch-index l.start.opened)) ≡ watermark.node_low_water_mark l.start
