-- The first word of a command.
use Rattle.std.specs.Prelude.{ℕ, nat_eq, List, [], ◌∷◌, codes, Option}
use Rattle.std.specs.List.{find}
use Rattle.std.specs.Cmp.Lexicographic.{pointwise}
use Rattle.cdc_config.specs.declared.verb.Verb.{Verb}
use Rattle.cdc_config.specs.declared.verb.Verb.TheVariants as verb

-- how a verb is spelled
abbrev pub spelling : Verb → List ℕ
spelling verb.Print = codes "print"
spelling verb.Run = codes "run"
spelling verb.List = codes "list"
spelling verb.Serve = codes "serve"
spelling verb.Follow = codes "follow"
spelling verb.Split = codes "split"
spelling verb.Purge = codes "purge"
spelling verb.Seek = codes "seek"
spelling verb.Drill = codes "drill"
spelling verb.Help = codes "--help"
spelling verb.Version = codes "--version"

-- all verbs
abbrev pub verbs : List Verb
verbs = verb.Print ∷ verb.Run ∷ verb.List ∷ verb.Serve ∷ verb.Follow ∷ verb.Split ∷ verb.Purge ∷ verb.Seek ∷ verb.Drill ∷ verb.Help ∷ verb.Version ∷ []

-- the verb that a word spells, byte for byte
abbrev pub verb_spelled : List ℕ → Option Verb
verb_spelled word = find (λ v. pointwise nat_eq word (spelling v)) verbs
