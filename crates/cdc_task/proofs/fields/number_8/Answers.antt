use Rattle.std.proofs.Common.{◌∙◌, ap}
use Rattle.cdc_event.specs.Number.{number_of}
use Rattle.cdc_task.proofs.Fronts.{number_front, too_short}
use Rattle.cdc_task.proofs.fields.number_8.Goals as goal

pub returns-then-bytes-lt8-clause-reads : goal.returns-then-bytes-lt8-clause-reads
returns-then-bytes-lt8-clause-reads c = λ n rest fits e. absurd (too_short 8 n c.args.bytes.now rest c.if-bytes-lt8.true e)

pub returns-clause-reads : goal.returns-clause-reads
returns-clause-reads c = λ n rest fits e.
    let parts = number_front 8 n c.args.bytes.now rest fits e in
    (c.spelled_8.ensures ∙ (ap number_of c.split_at.ensures.front ∙ parts.0), c.split_at.ensures.back ∙ parts.1)
