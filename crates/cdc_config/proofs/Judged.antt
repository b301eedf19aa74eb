-- Keys that are judged one after another.
use Rattle.std.proofs.Common.{◌≡◌, not, Bool, true, false, cond, List, [], ◌∷◌, ◌++◌, Option, Some, None, is_some, Result, Ok, Err, refl, ap, ◌∙◌, inl, inr}
use Rattle.std.proofs.lemmas.Bool.{cases_Bool}
use Rattle.toml.specs.Data.{Data}
use Rattle.cdc_config.specs.declared.command.ConfigKey.{ConfigKey}
use Rattle.cdc_config.specs.declared.command.Refusal.{Refusal}
use Rattle.cdc_config.specs.declared.command.Refusal.TheVariants as refusal
use Rattle.cdc_config.specs.declared.misfit.Misfit.{Misfit}
use Rattle.cdc_config.specs.declared.misfit.Misfit.TheVariants as misfit
use Rattle.cdc_config.specs.Plan.{Judges, accepts, refusal_at, refused_among}
use Rattle.cdc_config.specs.Tree.{GivesPart}

-- a key whose value can't be had is the first that is refused
pub refused_here : {A B : Type 0} (root : Data) (k : ConfigKey) (more : List ConfigKey) (found : Option A) (why : Misfit) (P : B → Type 0) → accepts root k ≡ is_some found → GivesPart {A = A} (Err why) found
    → Judges {A = B} (Err (refusal_at why k)) root (k ∷ more) P
refused_here root k more found misfit.Refused P same h =
    let refuses : accepts root k ≡ false = same ∙ ap is_some h in
    rw refuses refl
refused_here root k more found misfit.Memory P same h = tt

-- so is one that isn't accepted
pub refused_now : {B : Type 0} (root : Data) (k : ConfigKey) (more : List ConfigKey) (P : B → Type 0) → accepts root k ≡ false → Judges {A = B} (Err (refusal.Config k)) root (k ∷ more) P
refused_now root k more P refuses = rw refuses refl

-- behind a key that is accepted the rest decides
pub passed_on : {B : Type 0} (root : Data) (k : ConfigKey) (more : List ConfigKey) (r : Result B Refusal) (P : B → Type 0) → accepts root k ≡ true → Judges r root more P → Judges r root (k ∷ more) P
passed_on root k more (Ok value) P accepted h = (rw accepted h.0, h.1)
passed_on root k more (Err (refusal.Config j)) P accepted h = rw accepted h
passed_on root k more (Err refusal.Usage) P accepted h = h
passed_on root k more (Err refusal.Memory) P accepted h = tt

both_none : (b : Bool) (k : ConfigKey) (rest : Option ConfigKey) → cond (not b) (Some k) rest ≡ None → (b ≡ true) × (rest ≡ None)
both_none true k rest h = (refl, h)
both_none false k rest h = cc

-- behind keys that are accepted the rest decides
pub passed_all : {B : Type 0} (root : Data) (first more : List ConfigKey) (r : Result B Refusal) (P : B → Type 0) → refused_among root first ≡ None → Judges r root more P → Judges r root (first ++ more) P
passed_all root [] more r P none h = h
passed_all root (k ∷ first) more r P none h =
    let both = both_none (accepts root k) k (refused_among root first) none in
    passed_on root k (first ++ more) r P both.0 (passed_all root first more r P both.1 h)

refused_first : (root : Data) (first more : List ConfigKey) (j : ConfigKey) → refused_among root first ≡ Some j → refused_among root (first ++ more) ≡ Some j
refused_first root [] more j h = cc
refused_first root (k ∷ first) more j h =
    elim (cases_Bool (accepts root k)) [
      | inl accepted ↦ let rest : refused_among root first ≡ Some j = rw accepted at h in rw accepted (refused_first root first more j rest)
      | inr refused ↦ let here : Some k ≡ Some j = rw refused at h in rw refused here
    ]

-- what is refused first is so whatever follows
pub refused_all : {A B : Type 0} (root : Data) (first more : List ConfigKey) (why : Refusal) (P : A → Type 0) (Q : B → Type 0) → Judges {A = A} (Err why) root first P → Judges {A = B} (Err why) root (first ++ more) Q
refused_all root first more (refusal.Config j) P Q h = refused_first root first more j h
refused_all root first more refusal.Usage P Q h = h
refused_all root first more refusal.Memory P Q h = tt
