-- What the filing of a configuration's rules gives.
use Rattle.std.proofs.Common.{◌≡◌, List, Option, Some, Result, Ok, Err, refl, codes}
use Rattle.toml.specs.Data.{Data, get}
use Rattle.cdc_base.specs.declared.rename.Rename.{Rename}
use Rattle.cdc_config.specs.declared.misfit.Misfit.{Misfit}
use Rattle.cdc_config.specs.declared.misfit.Misfit.TheVariants as misfit
use Rattle.cdc_config.specs.Filing.{Files, GivesNames}
use Rattle.cdc_config.specs.Keys.{listed, rule_from, rules_from}
use Rattle.cdc_config.specs.Tree.{GivesPart, array_of}

abbrev pub rules_at : Data → Option (List Rename)
rules_at root = listed (array_of 0 65536 rule_from) (get (codes "table") root)

pub names_given : (r : Result (List Rename) Misfit) (rules : List Rename) (root : Data) → rules_at root ≡ Some rules → Files r rules → GivesNames r root
unfolding rules_from
names_given (Ok names) rules root there h = (rules, rw (there, h.0) refl, h.1)
names_given (Err misfit.Refused) rules root there h = rw (there, h) refl
names_given (Err misfit.Memory) rules root there h = tt

pub names_refused : (why : Misfit) (root : Data) → GivesPart {A = List Rename} (Err why) (rules_at root) → GivesNames (Err why) root
unfolding rules_from
names_refused misfit.Refused root h = rw h refl
names_refused misfit.Memory root h = tt
