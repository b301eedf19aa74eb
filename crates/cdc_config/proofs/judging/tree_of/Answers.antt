use Rattle.std.proofs.Common.{sym, ◌∙◌, ap, ◌≡◌, Some}
use Rattle.toml.proofs.Views.{view-Table}
use Rattle.toml.specs.Parse.{parse_document}
use Rattle.toml.specs.View.{table_view}
use Rattle.cdc_config.proofs.Whole.{no_tree, tree_is}
use Rattle.cdc_config.proofs.judging.tree_of.Goals as goal

pub returns-in_default : goal.returns-in_default
returns-in_default c = no_tree c.args.config.now c.in_default.ensures.cases.0

pub returns-in-Ok-table_from_str : goal.returns-in-Ok-table_from_str
returns-in-Ok-table_from_str c =
    let parsed : parse_document c.args.config.now ≡ Some (table_view c.in-Ok-table_from_str.table) = rw c.in-Ok.ensures.cases.0 at c.in-Ok-table_from_str.ensures.ok in
    tree_is c.args.config.now (table_view c.in-Ok-table_from_str.table) c.if-config-gt-CONFIG_MAX.false c.in-Ok.ensures.cases.1 parsed
    ∙ ap Some (sym (view-Table c.in-Ok-table_from_str.table))
