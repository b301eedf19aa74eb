use Rattle.std.proofs.Common.{◌∙◌, sym}
use Rattle.cdc_query.proofs.Pieces.{verb_from-more, verb_of-cut}
use Rattle.cdc_query.proofs.read.read_words.Goals as goal

pub returns-else-is_empty : goal.returns-else-is_empty
returns-else-is_empty c =
    c.read_with.ensures
    ∙ sym (verb_from-more c.cut_word.result.0.now c.cut_word.result.1.now (sym c.is_empty.ensures ∙ c.if-is_empty.false))
    ∙ verb_of-cut c.args.text.now c.skip_spaces.result.now _ _ c.skip_spaces.ensures c.cut_word.ensures.word c.cut_word.ensures.rest
