use Rattle.std.proofs.Common.{ap, ◌∙◌, arith}
use Rattle.cdc_writer.specs.declared.spot.Spot.{Spot}
use Rattle.cdc_writer.proofs.Runs.{place_most, file_most, run_most, run_begins, unit_is, unit_steps}
use Rattle.cdc_writer.proofs.run.unit.Goals as goal

pub run_of-requires-clause-end : goal.run_of-requires-clause-end
run_of-requires-clause-end c =
    omega (arith, c.in_ok-statements.ensures.length.1, place_most c.args.before.now c.args.rotation _ c.place-spot.result c.requires.before c.place-spot.ensures)

pub unit_with-requires-clause-begins : goal.unit_with-requires-clause-begins
unit_with-requires-clause-begins c begins =
    run_begins c.args.names.now c.args.txn.now c.place-spot.result c.in_ok-run.run' c.in_ok-run.ensures (ap (λ (s : Spot). s.head) c.place-spot.ensures ∙ begins)

pub unit_with-requires-clause-most : goal.unit_with-requires-clause-most
unit_with-requires-clause-most c =
    run_most c.args.names.now c.args.txn.now c.place-spot.result c.in_ok-run.run' c.in_ok-run.ensures
    (file_most c.args.before.now c.args.rotation _ c.place-spot.result c.requires.before c.place-spot.ensures)
    (omega (arith, c.in_ok-statements.ensures.length.0, c.in_ok-statements.ensures.length.1))

pub returns-clause-step : goal.returns-clause-step
returns-clause-step c =
    unit_steps c.args.names.now c.args.rotation c.args.txn.now c.args.before.now c.unit_with.result c.units_are_steps.ensures
    (unit_is c.args.names.now c.args.rotation _ c.args.txn.now c.args.before.now c.place-spot.result c.in_ok-run.run' c.unit_with.result
    c.in_ok-statements.ensures.length.0
    c.place-spot.ensures c.in_ok-run.ensures c.unit_with.ensures)
