-- The options of a command: each at most once, in any order, with its value as the next word.
use Rattle.std.specs.Prelude.{ℕ, ◌&&◌, ◌||◌, nat_eq, is_some, is_none, if◌then◌else◌, Bool, true, false, List, [], ◌∷◌, codes, Option, Some, None, option_and_then}
use Rattle.std.specs.Cmp.Lexicographic.{pointwise}
use Rattle.cdc_config.specs.declared.options.Options.{Options}
use Rattle.cdc_config.specs.Number.{number_from}

-- no option was given
abbrev pub no_options : Options
no_options = record { order = None; threads = false; connections = None }

-- a word says so, byte for byte
abbrev pub says : List ℕ → List ℕ → Bool
says word text = pointwise nat_eq word text

-- `--threads` more, where it wasn't given before
abbrev pub with_threads : Options → Option Options
with_threads given = if given.threads then None else Some (record given { threads = true })

-- an option with a number more, where it wasn't given before
abbrev pub numbered : Options → List ℕ → ℕ → Option Options
numbered given word number =
    if says word (codes "--order") && is_none given.order then Some (record given { order = Some number })
    else if says word (codes "--connections") && is_none given.connections then Some (record given { connections = Some number })
    else None

-- an option and the word behind it
abbrev pub valued : Options → List ℕ → List ℕ → Option Options
valued given word value = option_and_then (numbered given word) (number_from value)

abbrev mutual
  -- the options that words give, behind those that were given before; none where a word is no option, an option has no
  -- number, or stands there twice
  pub options_from : Options → List (List ℕ) → Option Options
  options_from given [] = Some given
  options_from given (word ∷ rest) =
      if says word (codes "--threads") then option_and_then (λ more. options_from more rest) (with_threads given) else options_behind given word rest

  -- the same behind an option whose number is the next word
  pub options_behind : Options → List ℕ → List (List ℕ) → Option Options
  options_behind given word [] = None
  options_behind given word (value ∷ rest) = option_and_then (λ more. options_from more rest) (valued given word value)

-- the options where they fit the command
abbrev pub if_fit : (Options → Bool) → Option Options → Option Options
if_fit test None = None
if_fit test (Some given) = if test given then None else Some given

-- the options of a pass: an order or threads, not both
abbrev pub pace_from : List (List ℕ) → Option Options
pace_from words = if_fit (λ given. is_some given.connections || (given.threads && is_some given.order)) (options_from no_options words)

-- the options of a server
abbrev pub sessions_from : List (List ℕ) → Option Options
sessions_from words = if_fit (λ given. given.threads || is_some given.order) (options_from no_options words)
