-- When a log continues another.
use Rattle.std.specs.Prelude.{◌≡◌, ℕ, List, [], ◌∷◌, ◌++◌}
use Rattle.std.specs.List.{AllZip}

-- a file that may have grown
abbrev pub Continues : List ℕ → List ℕ → Type 0
Continues old new = (more : List ℕ) × (new ≡ old ++ more)

-- a node's log, a list of files, continues an older one: all its files stand as they were, but the last of the
-- older one may have grown, and new files may stand behind it
abbrev pub IsLogPrefix : List (List ℕ) → List (List ℕ) → Type 0
IsLogPrefix [] new = Unit {0}
IsLogPrefix (file ∷ []) [] = ⊥
IsLogPrefix (file ∷ []) (other ∷ others) = Continues file other
IsLogPrefix (file ∷ next ∷ files) [] = ⊥
IsLogPrefix (file ∷ next ∷ files) (other ∷ others) = (file ≡ other) × IsLogPrefix (next ∷ files) others

-- the logs of all nodes continue older ones, node by node
abbrev pub AreLogPrefixes : List (List (List ℕ)) → List (List (List ℕ)) → Type 0
AreLogPrefixes olds news = AllZip IsLogPrefix olds news

-- law: each log continues itself, and what continues a continuation continues the first
abbrev pub LogPrefixIsAnOrder : Type 0
LogPrefixIsAnOrder = ((log : List (List ℕ)) → IsLogPrefix log log)
    × ((first second third : List (List ℕ)) → IsLogPrefix first second → IsLogPrefix second third → IsLogPrefix first third)

-- law: a log whose last file has grown, and that has further files behind it, continues the old one
abbrev pub GrownLogContinues : Type 0
GrownLogContinues = (files : List (List ℕ)) (last more : List ℕ) (further : List (List ℕ))
    → IsLogPrefix (files ++ last ∷ []) (files ++ (last ++ more) ∷ further)
