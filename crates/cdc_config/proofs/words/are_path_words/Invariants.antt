use Rattle.std.proofs.Common.{◌≡◌, drop}
use Rattle.std.specs.List.{list_all}
use Rattle.cdc_config.specs.Words.{is_path_word}
use Rattle.cdc_config.proofs.words.are_path_words.Given as goal

-- what is left decides the answer
abbrev pub invariant-loop-word : goal.invariant-loop-word
invariant-loop-word l = list_all is_path_word (drop l.word-index l.words) ≡ list_all is_path_word l.words
