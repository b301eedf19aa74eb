-- The words by which lines name the keys of a configuration.
use Rattle.std.specs.Prelude.{ℕ, List, codes}
use Rattle.cdc_config.specs.declared.command.ConfigKey.{ConfigKey}
use Rattle.cdc_config.specs.declared.command.ConfigKey.TheVariants as key

-- a key in lower case
abbrev pub key_word : ConfigKey → List ℕ
key_word key.Toml = codes "toml"
key_word key.Rotation = codes "rotation"
key_word key.Window = codes "window"
key_word key.Node = codes "node"
key_word key.Out = codes "out"
key_word key.Task = codes "task"
key_word key.Table = codes "table"
key_word key.User = codes "user"
key_word key.Split = codes "split"
key_word key.Unknown = codes "unknown"
