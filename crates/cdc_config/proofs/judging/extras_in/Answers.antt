use Rattle.std.proofs.Common.{sym, ◌∙◌}
use Rattle.toml.specs.View.{view}
use Rattle.cdc_config.proofs.ExtraKeys.{extras_judged, split_refused, table_refused, unknown_refused, user_refused}
use Rattle.cdc_config.proofs.judging.extras_in.Goals as goal

pub returns-in-Err-clause-judged : goal.returns-in-Err-clause-judged
returns-in-Err-clause-judged c = table_refused (view c.args.root.now) c.in-Err.misfit c.at.result c.at.ensures c.in-Err.ensures

pub returns-in-Err-users_of-clause-judged : goal.returns-in-Err-users_of-clause-judged
returns-in-Err-users_of-clause-judged c =
    user_refused (view c.args.root.now) c.in-Ok.names c.in-Err-users_of.misfit c.at-in-Err-users_of.result c.at-in-Err-users_of.ensures c.in-Ok.ensures c.in-Err-users_of.ensures.users

pub returns-in-Err-split_in-clause-judged : goal.returns-in-Err-split_in-clause-judged
returns-in-Err-split_in-clause-judged c =
    split_refused (view c.args.root.now) c.in-Ok.names c.in-Ok-users_of.users c.in-Err-split_in.misfit c.at-in-Err-split_in.result c.at-in-Err-split_in.ensures c.in-Ok.ensures c.in-Ok-users_of.ensures.users c.in-Err-split_in.ensures.split

pub returns-then-not-fits-clause-judged : goal.returns-then-not-fits-clause-judged
returns-then-not-fits-clause-judged c =
    unknown_refused (view c.args.root.now) c.in-Ok.names c.in-Ok-users_of.users c.in-Ok-split_in.split c.in-Ok.ensures c.in-Ok-users_of.ensures.users c.in-Ok-split_in.ensures.split (sym c.fits.ensures ∙ c.if-not-fits.true)

pub returns-clause-judged : goal.returns-clause-judged
returns-clause-judged c =
    extras_judged (view c.args.root.now) (record { names = c.in-Ok.names; users = c.in-Ok-users_of.users; split = c.in-Ok-split_in.split }) c.in-Ok.ensures c.in-Ok-users_of.ensures.users c.in-Ok-split_in.ensures.split (sym c.fits.ensures ∙ c.if-not-fits.false)
