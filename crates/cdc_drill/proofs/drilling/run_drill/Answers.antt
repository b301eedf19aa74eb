-- There is a log a node, and the nodes are the drill's.
use Rattle.std.proofs.Common.{ℕ, List, length, ap, subst, ◌∙◌}
use Rattle.std.proofs.lemmas.List.FromFn.{length-map-range_with_len}
use Rattle.cdc_gen.specs.Logs.{drill_log}
use Rattle.cdc_drill.specs.Attempts.{IsAttempt, one_file_each}
use Rattle.cdc_drill.proofs.drilling.run_drill.Goals as goal

pub pass_over_logs-requires-clause-each : goal.pass_over_logs-requires-clause-each
pass_over_logs-requires-clause-each c =
    ap (λ (logs : List (List ℕ)). length logs) c.in-Ok.ensures.logs ∙ length-map-range_with_len (drill_log c.args.seed c.args.nodes c.args.count) 1 c.args.nodes

pub returns-in-Ok : goal.returns-in-Ok
returns-in-Ok c = subst (λ (logs : List (List ℕ)). IsAttempt (one_file_each logs) c.pass_over_logs.result) c.in-Ok.ensures.logs c.pass_over_logs.ensures
