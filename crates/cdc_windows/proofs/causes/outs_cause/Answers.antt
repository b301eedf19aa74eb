-- One cause more, and all of them.
use Rattle.std.proofs.Common.{◌+◌, ◌∙◌, ap, subst}
use Rattle.cdc_dump_stage.specs.declared.dump_end.DumpEnd.{DumpEnd}
use Rattle.cdc_dump_stage.specs.declared.stage.DumpStage.{DumpStage}
use Rattle.cdc_windows.specs.Causes.{cause_of_out, IsFirstPassCause}
use Rattle.cdc_windows.proofs.FirstCause.{causes_more, all_causes}
use Rattle.cdc_windows.proofs.causes.outs_cause.Goals as goal

pub loop-index-preserved : goal.loop-index-preserved
loop-index-preserved g c =
    causes_more c.args.dumps.now c.loop-index.index c.index-dumps-index.result c.loop-index.first c.cause_of_out-cause.result c.earlier-first.result c.loop-index-test.true c.index-dumps-index.is c.loop-index.invariant
    (c.cause_of_out-cause.ensures ∙ ap (λ (e : DumpEnd). cause_of_out (c.loop-index.index + 1) e) (c.end.ensures.end ∙ ap (λ (s : DumpStage). s.end) c.stage.ensures)) c.earlier-first.ensures.one c.earlier-first.ensures.first

pub returns : goal.returns
returns g c = subst (λ causes. IsFirstPassCause causes c.loop-index.first) (all_causes c.args.dumps.now 1 c.loop-index.index c.loop-index-test.false) c.loop-index.invariant
