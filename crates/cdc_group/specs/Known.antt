-- The branch that is known by the name that its start has.
use Rattle.std.specs.Prelude.{◌≡◌, ℕ, List, ◌++◌, codes, Some}
use Rattle.cdc_base.specs.declared.xid.Xid.{Xid}
use Rattle.cdc_query.specs.declared.verb.Verb.TheVariants.{XaEnd}
use Rattle.cdc_query.specs.Words.{verb_of}
use Rattle.cdc_group.specs.declared.known.Known.{Known}

-- the text that starts a branch of this name
abbrev pub start_text : List ℕ → List ℕ
start_text name = codes "XA START " ++ name

-- the text that ends it
abbrev pub end_text : List ℕ → List ℕ
end_text name = codes "XA END " ++ name

-- where a branch is known, the text that ends its name ends it
abbrev pub IsKnown : Known → Type 0
IsKnown known = (xid : Xid) → known.xid ≡ Some xid → verb_of (end_text known.name) ≡ XaEnd xid
