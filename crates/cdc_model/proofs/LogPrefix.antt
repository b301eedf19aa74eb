-- When a log continues another: an order, in which a last file may grow.
use Rattle.std.proofs.Common.{ℕ, List, [], ◌∷◌, ◌++◌, append_assoc, append-nil, ap, sym, refl, subst, ◌∙◌}
use Rattle.cdc_model.specs.Log.{Continues, IsLogPrefix, LogPrefixIsAnOrder, GrownLogContinues}

pub continues_itself : (file : List ℕ) → Continues file file
continues_itself file = ([], sym (append-nil file))

pub continues_on : (first second third : List ℕ) → Continues first second → Continues second third → Continues first third
continues_on first second third (more, is) (further, then) =
    (more ++ further, then ∙ ap (λ (file : List ℕ). file ++ further) is ∙ append_assoc first more further)

pub prefix_itself : (log : List (List ℕ)) → IsLogPrefix log log
prefix_itself [] = tt
prefix_itself (file ∷ []) = continues_itself file
prefix_itself (file ∷ next ∷ files) = (refl, prefix_itself (next ∷ files))

pub prefix_on : (first second third : List (List ℕ)) → IsLogPrefix first second → IsLogPrefix second third → IsLogPrefix first third
prefix_on [] second third a b = tt
prefix_on (file ∷ []) [] third a b = absurd a
prefix_on (file ∷ []) (other ∷ []) [] a b = absurd b
prefix_on (file ∷ []) (other ∷ []) (last ∷ files) a b = continues_on file other last a b
prefix_on (file ∷ []) (other ∷ next ∷ others) [] a b = absurd b
prefix_on (file ∷ []) (other ∷ next ∷ others) (last ∷ files) a b = subst (Continues file) b.0 a
prefix_on (file ∷ next ∷ files) [] third a b = absurd a
prefix_on (file ∷ next ∷ []) (other ∷ []) third a b = absurd a.1
prefix_on (file ∷ next ∷ more ∷ files) (other ∷ []) third a b = absurd a.1
prefix_on (file ∷ next ∷ files) (other ∷ another ∷ others) [] a b = absurd b
prefix_on (file ∷ next ∷ files) (other ∷ another ∷ others) (last ∷ lasts) a b =
    (a.0 ∙ b.0, prefix_on (next ∷ files) (another ∷ others) lasts a.1 b.1)

pub log_prefix_is_an_order : LogPrefixIsAnOrder
log_prefix_is_an_order = (prefix_itself, prefix_on)

pub grown_log_continues : GrownLogContinues
grown_log_continues [] last more further = (more, refl)
grown_log_continues (file ∷ []) last more further = (refl, (more, refl))
grown_log_continues (file ∷ next ∷ files) last more further = (refl, grown_log_continues (next ∷ files) last more further)
