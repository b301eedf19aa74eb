use Rattle.std.proofs.Common.{◌≡◌, ap, subst, sym, ◌∙◌}
use Rattle.cdc_dump_stage.specs.Disks.{disk_words}
use Rattle.cdc_node_stage.specs.Job.{source_words}
use Rattle.cdc_top.specs.Answers.{status_of, line_of, IsSaid}
use Rattle.cdc_top.specs.declared.answer.Answer.{Answer}
use Rattle.cdc_top.specs.Order.{answer_of, drill_answer}
use Rattle.cdc_top.specs.Ran.{RunSays}
use Rattle.cdc_top.proofs.Drilled.{drill_answered}
use Rattle.cdc_top.proofs.Answered.{answered}
use Rattle.cdc_top.proofs.RunFindings.{run_says}
use Rattle.cdc_top.proofs.top_call.top.Goals as goal

pub returns-clause-answered : goal.returns-clause-answered
returns-clause-answered g c other =
    rw (c.status.ensures, c.answer_of-answer.ensures) (answered c.image_has_one_front.ensures g.S.Source.tells g.K.Sink.tells _ c.do_words-found.result (c.do_words-found.ensures.findings other) (c.do_words-found.ensures.wrote other))

pub returns-clause-answer : goal.returns-clause-answer
returns-clause-answer g c other = (
  c.do_words-found.result,
  c.do_words-found.ensures.findings other,
  c.status.ensures ∙ ap status_of c.answer_of-answer.ensures,
  c.do_words-found.ensures.wrote other,
  λ s. subst
      (λ (a : Answer). IsSaid (g.K.Sink.written c.args.err.now) (line_of a) (g.K.Sink.written c.report.new.err) (g.K.Sink.faults c.args.err.now) (g.K.Sink.faults c.report.new.err))
      c.answer_of-answer.ensures (c.report.ensures.line s),
)

pub returns-clause-ran : goal.returns-clause-ran
returns-clause-ran g c run = (
  c.answer_of-answer.result,
  subst
      (RunSays (source_words g.S.Source.tells g.S.Source.held g.S.Source.sizes g.S.Source.lowest g.S.Source.faults)
      (disk_words g.D.Disk.tells g.D.Disk.seen g.D.Disk.synced g.D.Disk.pending g.D.Disk.may_leave g.D.Disk.moment g.D.Disk.left_since g.D.Disk.faults) g.K.Sink.tells _)
      (sym c.answer_of-answer.ensures)
      (run_says _ _ _ _ c.do_words-found.result (c.do_words-found.ensures.ran run)),
  c.status.ensures,
  c.report.ensures.line,
)

pub returns-clause-drilled : goal.returns-clause-drilled
returns-clause-drilled g c seed nodes count is =
    let d = c.do_words-found.ensures.drilled seed nodes count is in
    let answer : c.answer_of-answer.result ≡ drill_answer d.0 = c.answer_of-answer.ensures ∙ ap answer_of d.2 ∙ drill_answered d.0 in (
      d.0,
      d.1,
      c.status.ensures ∙ ap status_of answer,
      λ s. subst
          (λ (a : Answer). IsSaid (g.K.Sink.written c.args.err.now) (line_of a) (g.K.Sink.written c.report.new.err) (g.K.Sink.faults c.args.err.now) (g.K.Sink.faults c.report.new.err))
          answer (c.report.ensures.line s),
    )
