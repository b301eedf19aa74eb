-- What an answer says of what words are, part by part.
use Rattle.std.proofs.Common.{◌≡◌, ◌↔◌, ◌⊎◌, Option, Some, None, IsSome, Result, Ok, Err, refl, sym, ◌∙◌, inl, inr}
use Rattle.std.specs.Prelude.{IfErr, IfOk}
use Rattle.std.proofs.lemmas.Bool.{false≢true}
use Rattle.cdc_config.specs.declared.command.Refusal.{Refusal}
use Rattle.cdc_config.specs.declared.command.Refusal.TheVariants as refusal
use Rattle.cdc_config.specs.Words.{Reads}

pub reads_found : {A : Type 0} (r : Result A Refusal) (found : Option A) → Reads r found → IfOk r (λ read. found ≡ Some read)
reads_found (Ok read) found h = h
reads_found (Err refusal.Usage) found h = tt
reads_found (Err refusal.Memory) found h = tt
reads_found (Err (refusal.Config key)) found h = tt

-- something isn't nothing
some_is_some : {A : Type 0} (found : Option A) → IsSome found → found ≡ None → ⊥
some_is_some None h e = false≢true h
some_is_some (Some x) h e = cc

pub reads_usage : {A : Type 0} (r : Result A Refusal) (found : Option A) → Reads r found → (r ≡ Err refusal.Usage) ↔ (found ≡ None)
reads_usage (Ok read) found h = (λ e. cc, λ e. let clash : Some read ≡ None = sym h ∙ e in cc)
reads_usage (Err refusal.Usage) found h = (λ _. h, λ _. refl)
reads_usage (Err refusal.Memory) found h = (λ e. cc, λ e. absurd (some_is_some found h e))
reads_usage (Err (refusal.Config key)) found h = absurd h

pub reads_others : {A : Type 0} (r : Result A Refusal) (found : Option A) → Reads r found → IfErr r (λ e. (e ≡ refusal.Usage) ⊎ (e ≡ refusal.Memory))
reads_others (Ok read) found h = tt
reads_others (Err refusal.Usage) found h = inl refl
reads_others (Err refusal.Memory) found h = inr refl
reads_others (Err (refusal.Config key)) found h = absurd h
