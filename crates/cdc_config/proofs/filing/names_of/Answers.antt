use Rattle.std.proofs.Common.{codes}
use Rattle.toml.specs.Data.{get}
use Rattle.toml.specs.View.{view}
use Rattle.cdc_config.proofs.RuleNames.{names_given, names_refused}
use Rattle.cdc_config.proofs.RuleSizes.{rules_are}
use Rattle.cdc_config.proofs.filing.names_of.Goals as goal

pub names_from-requires : goal.names_from-requires
names_from-requires c = rules_are (get (codes "table") (view c.args.root.now)) c.in-Ok.rules c.in-Ok.ensures

pub returns-in-Ok : goal.returns-in-Ok
returns-in-Ok c = names_given c.names_from.result c.in-Ok.rules (view c.args.root.now) c.in-Ok.ensures c.names_from.ensures

pub returns-in-Err : goal.returns-in-Err
returns-in-Err c = names_refused c.in-Err.misfit (view c.args.root.now) c.in-Err.ensures
