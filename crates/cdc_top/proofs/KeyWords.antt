-- The words of the configuration's keys.
use Rattle.std.proofs.Common.{◌≤◌, length, arith}
use Rattle.cdc_config.specs.declared.command.ConfigKey.{ConfigKey}
use Rattle.cdc_config.specs.declared.command.ConfigKey.TheVariants.{Toml, Rotation, Window, Node, Out, Task, Table, User, Split, Unknown}
use Rattle.cdc_config.specs.KeyWords.{key_word}

-- a word has at most eight letters
pub key_word_is_short : (key : ConfigKey) → length (key_word key) ≤ 8
key_word_is_short Toml = omega arith
key_word_is_short Rotation = omega arith
key_word_is_short Window = omega arith
key_word_is_short Node = omega arith
key_word_is_short Out = omega arith
key_word_is_short Task = omega arith
key_word_is_short Table = omega arith
key_word_is_short User = omega arith
key_word_is_short Split = omega arith
key_word_is_short Unknown = omega arith
