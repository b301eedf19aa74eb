use Rattle.cdc_index.proofs.ChainLaw.{chain_law}
use Rattle.cdc_index.proofs.laws.chain_is_exact.Goals as goal

pub returns : goal.returns
returns c = chain_law
