use Rattle.std.proofs.Common.{◌∙◌, sym}
use Rattle.cdc_query.proofs.Agree.{is_read, is_text}
use Rattle.cdc_query.proofs.read.read_text.Goals as goal

pub returns-clause-grammar : goal.returns-clause-grammar
returns-clause-grammar c verb = (
  λ e. is_text c.args.text.now verb (sym c.read_words.ensures ∙ e),
  λ h. c.read_words.ensures ∙ is_read c.args.text.now verb h,
)
