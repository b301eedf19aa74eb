use Rattle.std.proofs.Common.{◌∙◌, ap}
use Rattle.cdc_event.specs.Number.{number_of}
use Rattle.cdc_task.proofs.Fronts.{number_front, too_short}
use Rattle.cdc_task.proofs.fields.number_2.Goals as goal

pub returns-then-bytes-lt2 : goal.returns-then-bytes-lt2
returns-then-bytes-lt2 c = record { reads = λ n rest fits e. absurd (too_short 2 n c.args.bytes.now rest c.if-bytes-lt2.true e) }

pub returns : goal.returns
returns c = record {
  reads = λ n rest fits e.
      let parts = number_front 2 n c.args.bytes.now rest fits e in
      (c.number_2.ensures ∙ (ap number_of c.split_at.ensures.front ∙ parts.0), c.split_at.ensures.back ∙ parts.1);
}
