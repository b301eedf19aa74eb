-- Keys behind a key, as tests and as facts.
use Rattle.std.proofs.Common.{◌≡◌, ◌⊎◌, inl, inr, Bool, true, false, ap, sym, refl, subst, ◌∙◌}
use Rattle.std.specs.Ordering.{is_lt}
use Rattle.std.specs.declared.cmp.Ordering.{Ordering}
use Rattle.std.specs.declared.cmp.Ordering.TheVariants.{Less, Equal, Greater}
use Rattle.cdc_base.specs.declared.key.Key.{Key}
use Rattle.cdc_base.specs.Key.{key_order}
use Rattle.cdc_base.proofs.KeyOrder.{key_order_total, same_key}
use Rattle.cdc_model.specs.Records.{CommittedBranch}
use Rattle.cdc_model.specs.Transaction.{has_key}
use Rattle.cdc_model.proofs.KeyList.{above, not_below_itself}
use Rattle.cdc_model.proofs.OwnBranches.{has_is, has_itself}
use Rattle.cdc_merger.specs.Feeding.{is_behind}

no_test : true ≡ false → ⊥
no_test e = cc

pub less_of : (o : Ordering) → is_lt o ≡ true → o ≡ Less
less_of Less e = refl
less_of Equal e = absurd (cc)
less_of Greater e = absurd (cc)

pub behind_less : (key : Key) (branch : CommittedBranch) → is_behind key branch ≡ true → key_order key branch.key ≡ Less
behind_less key branch e = less_of (key_order key branch.key) e

pub less_behind : (key : Key) (branch : CommittedBranch) → key_order key branch.key ≡ Less → is_behind key branch ≡ true
less_behind key branch e = ap is_lt e

pub not_behind : (key : Key) (branch : CommittedBranch) → is_behind key branch ≡ false → key_order key branch.key ≡ Less → ⊥
not_behind key branch e less = no_test (sym (less_behind key branch less) ∙ e)

pub tests_not : (key : Key) (branch : CommittedBranch) → (key_order key branch.key ≡ Less → ⊥) → is_behind key branch ≡ false
tests_not key branch never = by (is_behind key branch) refl
  where
    by : (b : Bool) → is_behind key branch ≡ b → is_behind key branch ≡ false
    by true e = absurd (never (behind_less key branch e))
    by false e = e

-- a key that another isn't below is that one or below it
pub same_or_above : (a b : Key) → (key_order b a ≡ Less → ⊥) → (a ≡ b) ⊎ (key_order a b ≡ Less)
same_or_above a b never = by (key_order a b) refl
  where
    by : (o : Ordering) → key_order a b ≡ o → (a ≡ b) ⊎ (key_order a b ≡ Less)
    by Less e = inr e
    by Equal e = inl (same_key a b e)
    by Greater e = absurd (never (above a b e))

pub below_through : (a b c : Key) → (key_order b a ≡ Less → ⊥) → key_order b c ≡ Less → key_order a c ≡ Less
below_through a b c never less = elim (same_or_above a b never) [
  | inl same ↦ subst (λ (k : Key). key_order k c ≡ Less) (sym same) less
  | inr below ↦ key_order_total.trans a b c below less
]

pub not_below_through : (a b c : Key) → (key_order b a ≡ Less → ⊥) → (key_order c b ≡ Less → ⊥) → key_order c a ≡ Less → ⊥
not_below_through a b c never still less = elim (same_or_above a b never) [
  | inl same ↦ still (subst (λ (k : Key). key_order c k ≡ Less) same less)
  | inr below ↦ still (key_order_total.trans c a b less below)
]

pub own_not_behind : (key : Key) (branch : CommittedBranch) → has_key key branch ≡ true → is_behind key branch ≡ false
own_not_behind key branch has = tests_not key branch (λ less. not_below_itself key (subst (λ (k : Key). key_order key k ≡ Less) (sym (has_is key branch has)) less))

pub lacks_then_behind : (key : Key) (branch : CommittedBranch) → (key_order branch.key key ≡ Less → ⊥) → has_key key branch ≡ false → is_behind key branch ≡ true
lacks_then_behind key branch never lacks = elim (same_or_above key branch.key never) [
  | inl same ↦ absurd (no_test (sym (has_itself key branch same) ∙ lacks))
  | inr less ↦ less_behind key branch less
]

pub behind_lacks : (key : Key) (branch : CommittedBranch) → is_behind key branch ≡ true → has_key key branch ≡ false
behind_lacks key branch behind = by (has_key key branch) refl
  where
    by : (b : Bool) → has_key key branch ≡ b → has_key key branch ≡ false
    by true e = absurd (no_test (sym behind ∙ own_not_behind key branch e))
    by false e = e

pub below_along : (a b c : Key) → key_order a b ≡ Less → (key_order c b ≡ Less → ⊥) → key_order a c ≡ Less
below_along a b c less never = elim (same_or_above b c never) [
  | inl same ↦ subst (λ (k : Key). key_order a k ≡ Less) same less
  | inr below ↦ key_order_total.trans a b c less below
]

-- what isn't behind a key isn't behind a later one, and hasn't that one
pub not_behind_on : (last key : Key) (branch : CommittedBranch) → key_order last key ≡ Less → is_behind last branch ≡ false → is_behind key branch ≡ false
not_behind_on last key branch less e =
    tests_not key branch (λ below. not_behind last branch e (key_order_total.trans last key branch.key less below))

pub lacks_before : (last key : Key) (branch : CommittedBranch) → key_order last key ≡ Less → is_behind last branch ≡ false → has_key key branch ≡ false
lacks_before last key branch less e = by (has_key key branch) refl
  where
    by : (b : Bool) → has_key key branch ≡ b → has_key key branch ≡ false
    by true has = absurd (not_behind last branch e (subst (λ (k : Key). key_order last k ≡ Less) (has_is key branch has) less))
    by false has = has
