use Rattle.std.proofs.Common.{refl}
use Rattle.std.specs.Fmt.{digits as decimal_digits}
use Rattle.cdc_model.specs.Print.{digits}
use Rattle.cdc_model.specs.Output.{file_name}
use Rattle.cdc_list.proofs.laws.worked_outs_are_listed.Goals as goal

pub returns : goal.returns
unfolding digits decimal_digits file_name
returns c = refl
