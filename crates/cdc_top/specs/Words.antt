-- The commands that this call has, and their texts.
use Rattle.std.specs.Prelude.{◌≡◌, ℕ, Bool, true, false, not, List, ◌++◌, codes, Option, Some, None}
use Rattle.cdc_config.specs.declared.command.Command.{Command}
use Rattle.cdc_config.specs.declared.command.Command.TheVariants as command
use Rattle.cdc_config.specs.Words.{command_from}

-- what `--help` prints: a line a command
unfoldable pub help_text : List ℕ
help_text =
    codes "cdc print FILE ..: print the settled transactions of 1 to 256 nodes, one file a node\n"
    ++ (codes "cdc run CONFIG [--order N]: publish what is settled to each output\n"
    ++ (codes "cdc list CONFIG: print what each output has published\n"
    ++ (codes "cdc drill SEED NODES COUNT [--order N]: print what one pass over made logs publishes\n"
    ++ (codes "cdc serve CONFIG [--connections N]: serve each output's published files at its address\n"
    ++ (codes "cdc --help: print the commands\n" ++ codes "cdc --version: print the name and the version\n")))))

-- what `--version` prints
unfoldable pub version_text : List ℕ
version_text = codes "cdc 0.1.0\n"

-- a command that this call has
abbrev pub is_built : Command → Bool
is_built (command.Print files) = true
is_built (command.Run config order threads) = not threads
is_built (command.List config) = true
is_built (command.Drill seed nodes count order threads) = not threads
is_built command.Help = true
is_built command.Version = true
is_built _ = false

-- the words are a command that this call has
abbrev pub is_command_built : Option Command → Bool
is_command_built None = false
is_command_built (Some found) = is_built found

-- the words are a command of this call
abbrev pub is_command : List (List ℕ) → Bool
is_command words = is_command_built (command_from words)

-- the words are `list` and a configuration
abbrev pub IsList : List (List ℕ) → Type 0
IsList words = (config : List ℕ) × (command_from words ≡ Some (command.List config))

-- the words are `print` and files
abbrev pub IsPrint : List (List ℕ) → Type 0
IsPrint words = (files : List (List ℕ)) × (command_from words ≡ Some (command.Print files))

-- the words are `run` and a configuration, on one thread
abbrev pub IsRunCommand : List (List ℕ) → Type 0
IsRunCommand words = (config : List ℕ) × (order : Option ℕ) × (command_from words ≡ Some (command.Run config order false))

-- the words are `drill` with these numbers, on one thread
abbrev pub IsDrillCommand : List (List ℕ) → ℕ → ℕ → ℕ → Type 0
IsDrillCommand words seed nodes count = (order : Option ℕ) × (command_from words ≡ Some (command.Drill seed nodes count order false))

-- the words aren't `run`
abbrev pub IsNoRun : List (List ℕ) → Type 0
IsNoRun words = IsRunCommand words → ⊥

-- the words ask for no pass: they are neither `run` nor `drill`
pub record IsNoPass (words : List (List ℕ)) : Type 0 where
  pub no_run : IsNoRun words
  pub no_drill : (seed nodes count : ℕ) → IsDrillCommand words seed nodes count → ⊥
