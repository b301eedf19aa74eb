-- The command that the words behind the program's name are.
use Rattle.std.specs.Prelude.{◌≡◌, ℕ, ◌==◌, ◌&&◌, not, nat_le, if◌then◌else◌, Bool, false, List, [], ◌∷◌, length, Option, Some, None, IsSome, option_map, option_and_then, Result, Ok, Err}
use Rattle.std.specs.List.{list_all}
use Rattle.cdc_config.specs.declared.command.Command.{Command}
use Rattle.cdc_config.specs.declared.command.Command.TheVariants as command
use Rattle.cdc_config.specs.declared.command.Refusal.{Refusal}
use Rattle.cdc_config.specs.declared.command.Refusal.TheVariants as refusal
use Rattle.cdc_config.specs.declared.verb.Verb.{Verb}
use Rattle.cdc_config.specs.declared.verb.Verb.TheVariants as verb
use Rattle.cdc_config.specs.declared.words.Server.{Server}
use Rattle.cdc_config.specs.declared.words.Target.{Target}
use Rattle.cdc_config.specs.declared.words.Drill.{Drill}
use Rattle.cdc_config.specs.Number.{number_from}
use Rattle.cdc_config.specs.Options.{pace_from, sessions_from}
use Rattle.cdc_config.specs.Verb.{verb_spelled}

-- a word that may name a file: not empty, and not beginning with `-`
abbrev pub is_path_word : List ℕ → Bool
is_path_word [] = false
is_path_word (byte ∷ bytes) = not (byte == 45)

-- a word, where it may name a file
abbrev pub path_from : List ℕ → Option (List ℕ)
path_from word = if is_path_word word then Some word else None

-- FILE ..: 1 to 256 files
abbrev pub files_from : List (List ℕ) → Option (List (List ℕ))
files_from files = if nat_le 1 (length files) && nat_le (length files) 256 && list_all is_path_word files then Some files else None

-- CONFIG
abbrev pub config_from : List (List ℕ) → Option (List ℕ)
config_from [] = None
config_from (config ∷ []) = path_from config
config_from (config ∷ more ∷ rest) = None

-- CONFIG [--order N] [--threads]
abbrev pub run_from : List (List ℕ) → Option Command
run_from [] = None
run_from (config ∷ options) =
    option_and_then (λ pace. option_map (λ path. command.Run path pace.order pace.threads) (path_from config)) (pace_from options)

-- CONFIG [--connections N]
abbrev pub server_from : List (List ℕ) → Option Server
server_from [] = None
server_from (config ∷ options) =
    option_and_then (λ sessions. option_map (λ path. record { config = path; connections = sessions.connections }) (path_from config)) (sessions_from options)

-- CONFIG OUT N
abbrev pub target_from : List (List ℕ) → Option Target
target_from (config ∷ out ∷ number ∷ []) =
    option_and_then (λ n. option_and_then (λ m. option_map (λ path. record { config = path; out = n; number = m }) (path_from config)) (number_from number)) (number_from out)
target_from _ = None

-- a drill of 1 to 256 nodes and at most 100,000 transactions
abbrev pub if_drill : ℕ → ℕ → ℕ → Option Drill
if_drill seed nodes count =
    if nat_le 1 nodes && nat_le nodes 256 && nat_le count 100000 then Some (record { seed = seed; nodes = nodes; count = count }) else None

-- SEED NODES COUNT
abbrev pub drill_numbers : List ℕ → List ℕ → List ℕ → Option Drill
drill_numbers seed nodes count =
    option_and_then (λ s. option_and_then (λ n. option_and_then (λ c. if_drill s n c) (number_from count)) (number_from nodes)) (number_from seed)

-- SEED NODES COUNT [--order N] [--threads]
abbrev pub drill_from : List (List ℕ) → Option Command
drill_from (seed ∷ nodes ∷ count ∷ options) =
    option_and_then (λ drill. option_map (λ pace. command.Drill drill.seed drill.nodes drill.count pace.order pace.threads) (pace_from options)) (drill_numbers seed nodes count)
drill_from _ = None

-- a word that stands alone
abbrev pub alone : Command → List (List ℕ) → Option Command
alone found [] = Some found
alone found (word ∷ rest) = None

-- the command of a verb, by the words behind it
abbrev pub command_by : Verb → List (List ℕ) → Option Command
command_by verb.Print words = option_map command.Print (files_from words)
command_by verb.Run words = run_from words
command_by verb.List words = option_map command.List (config_from words)
command_by verb.Serve words = option_map (λ (s : Server). command.Serve s.config s.connections) (server_from words)
command_by verb.Follow words = option_map (λ (s : Server). command.Follow s.config s.connections) (server_from words)
command_by verb.Split words = option_map command.Split (config_from words)
command_by verb.Purge words = option_map (λ (t : Target). command.Purge t.config t.out t.number) (target_from words)
command_by verb.Seek words = option_map (λ (t : Target). command.Seek t.config t.out t.number) (target_from words)
command_by verb.Drill words = drill_from words
command_by verb.Help words = alone command.Help words
command_by verb.Version words = alone command.Version words

-- the command that the words are; none where they are none
abbrev pub command_from : List (List ℕ) → Option Command
command_from [] = None
command_from (word ∷ words) = option_and_then (λ v. command_by v words) (verb_spelled word)

-- what an answer says of what words are: they are no such thing exactly where it is `Usage`, and want of memory says no more
abbrev pub Reads : {A : Type 0} → Result A Refusal → Option A → Type 0
Reads (Ok read) found = found ≡ Some read
Reads (Err refusal.Usage) found = found ≡ None
Reads (Err refusal.Memory) found = IsSome found
Reads (Err (refusal.Config key)) found = ⊥
