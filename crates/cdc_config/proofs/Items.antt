-- What the items of an array give, one after another.
use Rattle.std.proofs.Common.{List, ◌++◌, Option, option_map}

-- what was given, in front of what more gives
abbrev pub behind : {A : Type 0} → List A → Option (List A) → Option (List A)
behind given more = option_map (λ parts. given ++ parts) more
