use Rattle.std.proofs.Common.{◌≡◌, take}
use Rattle.cdc_config.specs.Keys.{folders_of}
use Rattle.cdc_config.proofs.keys.folders_of.Given as goal

-- the texts so far
abbrev pub invariant-loop-out : goal.invariant-loop-out
invariant-loop-out l = l.folders ≡ folders_of (take l.out-index l.outs)
