use Rattle.std.proofs.Common.{◌≡◌, length}
use Rattle.cdc_config.specs.Options.{no_options, options_from}
use Rattle.cdc_config.proofs.options.options_of.Given as goal

-- what is left decides the rest
abbrev pub invariant-loop-rest : goal.invariant-loop-rest
invariant-loop-rest l = options_from l.given l.rest ≡ options_from no_options l.words

abbrev pub decreases-loop-rest : goal.decreases-loop-rest
decreases-loop-rest l = length l.rest
