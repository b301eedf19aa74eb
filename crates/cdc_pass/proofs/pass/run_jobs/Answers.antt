-- Nothing was sent or merged before the windows; what they did, and the first of all causes.
use Rattle.std.proofs.Common.{◌≡◌, inr, false, ◌∙◌, ap, subst}
use Rattle.cdc_merge_stage.specs.declared.merge_end.MergeEnd.{MergeEnd}
use Rattle.cdc_merge_stage.specs.Merged.{merges_on}
use Rattle.cdc_headline.specs.Ending.{causes_of_nodes, cause_of_merge}
use Rattle.cdc_pass.proofs.Causes.{first_of_all}
use Rattle.cdc_pass.proofs.Ran.{nothing_sent, nothing_merged}
use Rattle.cdc_pass.proofs.pass.run_jobs.Goals as goal

pub run_opened-requires-clause-sent : goal.run_opened-requires-clause-sent
run_opened-requires-clause-sent g c = nothing_sent g.S.Source.tells g.S.Source.held c.args.jobs.now c.requires.begun

pub run_opened-requires-clause-did : goal.run_opened-requires-clause-did
run_opened-requires-clause-did g c = nothing_merged c.args.merge.now c.args.jobs.now c.args.outs.now.items c.requires.took c.requires.gave c.requires.merges

pub returns-in-Ok-clause-ran : goal.returns-in-Ok-clause-ran
returns-in-Ok-clause-ran g c = inr
    record {
      passed = c.in-Ok.passed;
      ran = c.in-Ok.ensures.ran;
      over = c.in-Ok.ensures.over;
      whole = c.in-Ok.ensures.whole;
      merged = subst (λ (e : MergeEnd). merges_on e ≡ false) c.end.ensures.end (c.end.ensures.told c.in-Ok.ensures.ran.ended.merge_ended);
      keeps = λ told plan logs from olds same reads opened kept sound few. c.in-Ok.ensures.keeps told plan logs from olds same reads opened kept sound few;
      last = λ told plan logs from reads low behind. c.in-Ok.ensures.last told plan logs from reads low behind;
      caused = c.in-Ok.ensures.cause;
      first =
          first_of_all (causes_of_nodes 1 c.run_opened.new.nodes) c.in-Ok.passed.cause c.nodes_cause.result c.earlier.result c.merge_cause.result (cause_of_merge c.run_opened.new.merge.end) c.earlier-in-Ok.result
          c.nodes_cause.ensures c.earlier.ensures.one c.earlier.ensures.first c.earlier-in-Ok.ensures.one c.earlier-in-Ok.ensures.first (c.merge_cause.ensures ∙ ap (λ (e : MergeEnd). cause_of_merge e) c.end.ensures.end);
    }
