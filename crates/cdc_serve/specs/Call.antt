-- Why a server's call answers so.
use Rattle.std.specs.Prelude.{◌≡◌, ◌⊎◌, ℕ, Bool, true, false, List, Option, Some, None, ⊤}
use Rattle.cdc_base.specs.declared.user.User.{User}
use Rattle.cdc_dumper.specs.declared.fault.OpenFault.{OpenFault}
use Rattle.cdc_config.specs.Plan.{IsPlanOf, refused_key}
use Rattle.cdc_config.specs.Words.{command_from}
use Rattle.cdc_config.specs.declared.command.Command.{Command}
use Rattle.cdc_config.specs.declared.command.Command.TheVariants as command
use Rattle.cdc_config.specs.declared.plan.Plan.{Plan}
use Rattle.cdc_serve.specs.declared.answer.ServeAnswer.{ServeAnswer}
use Rattle.cdc_serve.specs.declared.answer.ServeAnswer.TheVariants as answer
use Rattle.cdc_server.specs.declared.serve_end.ServeEnd.{ServeEnd}
use Rattle.cdc_server.specs.declared.serve_end.ServeEnd.TheVariants.{Done, Disk, Kept, Torn, Memory, Door, Salt}

-- whether a command is `serve`
abbrev pub is_serve : Command → Bool
is_serve (command.Serve config connections) = true
is_serve _ = false

-- the words are `serve`
pub record IsServe (words : List (List ℕ)) : Type 0 where
  pub command : Command
  pub read : command_from words ≡ Some command
  pub serves : is_serve command ≡ true

-- why a call with a configuration answers so: by its text where that is told, whether its source failed, what serving the
-- doors of a plan with these users came to, and that no device was touched
abbrev pub IsConfigAnswer : List ℕ → Type 0 → Type 0 → (List User → ServeEnd → Type 0) → Type 0 → ServeAnswer → Type 0
IsConfigAnswer text told unread served untouched answer.Usage = ⊥
IsConfigAnswer text told unread served untouched answer.ReadConfig = unread × untouched
IsConfigAnswer text told unread served untouched (answer.Config key) = (told → refused_key text ≡ Some key) × untouched
IsConfigAnswer text told unread served untouched answer.Memory = untouched
IsConfigAnswer text told unread served untouched (answer.Served end) = (plan : Plan) × (told → IsPlanOf text plan) × served plan.users end

-- why a call answers so, by its words too
abbrev pub IsServeAnswer : List (List ℕ) → List ℕ → Type 0 → Type 0 → (List User → ServeEnd → Type 0) → Type 0 → ServeAnswer → Type 0
IsServeAnswer words text told unread served untouched answer.Usage = (IsServe words → ⊥) × untouched
IsServeAnswer words text told unread served untouched answer.ReadConfig = IsServe words × IsConfigAnswer text told unread served untouched answer.ReadConfig
IsServeAnswer words text told unread served untouched (answer.Config key) = IsServe words × IsConfigAnswer text told unread served untouched (answer.Config key)
IsServeAnswer words text told unread served untouched answer.Memory = (command_from words ≡ None → ⊥) × untouched
IsServeAnswer words text told unread served untouched (answer.Served end) = IsServe words × IsConfigAnswer text told unread served untouched (answer.Served end)

-- what stands behind an end of a server: all doors are shut; the fault of a disk, a refusal of an output, a torn file, the
-- fault of a door or of a salt, each by its number
abbrev pub IsCausedEnd : Type 0 → (ℕ → Type 0) → (ℕ → OpenFault → Type 0) → (ℕ → Type 0) → (ℕ → Type 0) → (ℕ → Type 0) → ServeEnd → Type 0
IsCausedEnd shut disk refused torn door salt Done = shut
IsCausedEnd shut disk refused torn door salt (Disk out) = disk out
IsCausedEnd shut disk refused torn door salt (Kept out fault) = refused out fault
IsCausedEnd shut disk refused torn door salt (Torn out) = torn out
IsCausedEnd shut disk refused torn door salt Memory = ⊤
IsCausedEnd shut disk refused torn door salt (Door number) = door number
IsCausedEnd shut disk refused torn door salt (Salt number) = salt number
