use Rattle.cdc_config.proofs.Readings.{reads_found, reads_others, reads_usage}
use Rattle.cdc_config.proofs.words.command_of.Goals as goal

pub returns-clause-command : goal.returns-clause-command
returns-clause-command c = reads_found c.read.result _ c.read.ensures

pub returns-clause-usage : goal.returns-clause-usage
returns-clause-usage c = reads_usage c.read.result _ c.read.ensures

pub returns-clause-others : goal.returns-clause-others
returns-clause-others c = reads_others c.read.result _ c.read.ensures
