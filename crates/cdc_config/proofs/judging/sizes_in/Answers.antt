use Rattle.toml.specs.View.{view}
use Rattle.cdc_config.proofs.PathKeys.{rotation_refused, sizes_judged, window_refused}
use Rattle.cdc_config.proofs.judging.sizes_in.Goals as goal

pub returns-in-None-clause-judged : goal.returns-in-None-clause-judged
returns-in-None-clause-judged c = rotation_refused (view c.args.root.now) c.in-None.ensures.number

pub returns-in-Some-window_of-clause-judged : goal.returns-in-Some-window_of-clause-judged
returns-in-Some-window_of-clause-judged c =
    sizes_judged (view c.args.root.now) (record { rotation = c.in-Some.rotation; window = c.in-Some-window_of.window }) c.in-Some.ensures.number c.in-Some-window_of.ensures.number

pub returns-in-None-window_of-clause-judged : goal.returns-in-None-window_of-clause-judged
returns-in-None-window_of-clause-judged c = window_refused (view c.args.root.now) c.in-Some.rotation c.in-Some.ensures.number c.in-None-window_of.ensures.number
