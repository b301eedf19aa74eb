use Rattle.cdc_model.proofs.SoundGrowth.{continued_logs_grow}
use Rattle.cdc_model.proofs.growth_laws.continued_logs_grow.Goals as goal

pub returns : goal.returns
returns c = continued_logs_grow c.file_is_read_in_one_way.ensures c.grown_file_continues.ensures
