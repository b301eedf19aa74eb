-- What forgetting leaves of nodes.
use Rattle.std.proofs.Common.{◌≡◌, ℕ, zero, suc, ◌+◌, ◌<◌, ◌≤◌, ◌⊎◌, inl, inr, Bool, true, false, List, [], ◌∷◌, length, get_or, set, map, refl, sym, ap, subst, ◌∙◌, arith}
use Rattle.std.proofs.lemmas.List.{length-set, get_or-set_same, get_or-set_other, get_or_default}
use Rattle.std.specs.Prelude.{if◌then◌else◌}
use Rattle.std.specs.List.{AllZip}
use Rattle.std.specs.Ordering.{is_gt}
use Rattle.cdc_base.specs.declared.key.Key.{Key}
use Rattle.cdc_base.specs.Key.{key_order}
use Rattle.cdc_model.specs.Restart.{IsAtMost}
use Rattle.cdc_model.proofs.RestartPoints.{at_most_itself}
use Rattle.cdc_turns.specs.Account.{Sender}
use Rattle.cdc_turns.proofs.Pairwise.{zip_by_index, zip_over}
use Rattle.cdc_windows.specs.Rereading.{Rereading, RememberFrom}
use Rattle.cdc_windows.proofs.MorePairs.{zip_weaker, all_over}

-- of one node, up to a key: what it sent stands, whether it has ended, it forgot nothing above that key, and it is read on
pub record HasForgotten {N T : Type 0} (a : Sender N T) (r : Rereading N) (last : Key) (old new : N) : Type 0 where
  pub sent : (window : ℕ) (items : List T) → a.sent old window items → a.sent new window items
  pub ended : a.ended new ≡ a.ended old
  pub known : IsAtMost (r.known old) last → IsAtMost (r.known new) last
  pub read_on : r.read_on old new

-- what was forgotten up to a key, where the key is greater, or up to an earlier one
pub known_up_to : (old last new : Key) → new ≡ (if is_gt (key_order last old) then last else old) → IsAtMost old last → IsAtMost new last
known_up_to old last new is low = by (is_gt (key_order last old)) is
  where
    by : (more : Bool) → new ≡ (if more then last else old) → IsAtMost new last
    by true is = subst (λ (key : Key). IsAtMost key last) (sym is) (at_most_itself last)
    by false is = subst (λ (key : Key). IsAtMost key last) (sym is) low

-- a place below the next one
before_or_at : (k i : ℕ) → k < i + 1 → (k < i) ⊎ (k ≡ i)
before_or_at zero zero low = inr refl
before_or_at zero (suc i) low = inl (omega arith)
before_or_at (suc k) zero low = absurd (omega (arith, low))
before_or_at (suc k) (suc i) low = elim (before_or_at k i (omega (arith, low))) [
  | inl less ↦ inl (omega (arith, less))
  | inr same ↦ inr (ap suc same)
]

-- where each is seen the same, all are
map_same : {A B : Type 0} (f : A → B) (xs ys : List A) → AllZip (λ (x y : A). f y ≡ f x) xs ys → map f ys ≡ map f xs
map_same f [] [] all = refl
map_same f [] (y ∷ ys) all = absurd all
map_same f (x ∷ xs) [] all = absurd all
map_same f (x ∷ xs) (y ∷ ys) all = ap (λ v. v ∷ map f ys) all.0 ∙ ap (λ rest. f x ∷ rest) (map_same f xs ys all.1)

module _ {N T : Type 0} (a : Sender N T) (r : Rereading N) (last : Key) where
  -- one node more
  pub forgot_next : (olds news : List N) (i : ℕ) (x y : N) → i < length news → length news ≡ length olds → HasForgotten a r last (get_or news i x) y
      → ((k : ℕ) (d : N) → k < i → k < length news → HasForgotten a r last (get_or olds k d) (get_or news k d))
      → ((k : ℕ) (d : N) → i ≤ k → get_or news k d ≡ get_or olds k d)
      → (length (set news i y) ≡ length olds)
      × ((k : ℕ) (d : N) → k < i + 1 → k < length (set news i y) → HasForgotten a r last (get_or olds k d) (get_or (set news i y) k d))
      × ((k : ℕ) (d : N) → i + 1 ≤ k → get_or (set news i y) k d ≡ get_or olds k d)
  forgot_next olds news i x y within long forgot before behind = (
    length-set news i y ∙ long,
    (λ k d low inside. by k d (let same = length-set news i y in omega (arith, inside, same)) (before_or_at k i low)),
    (λ k d high. get_or-set_other news i k y d (λ same. omega (arith, high, same)) ∙ behind k d (omega (arith, high))),
  )
    where
      by : (k : ℕ) (d : N) → k < length news → (k < i) ⊎ (k ≡ i) → HasForgotten a r last (get_or olds k d) (get_or (set news i y) k d)
      by k d inside (inl less) =
          subst (λ (v : N). HasForgotten a r last (get_or olds k d) v) (sym (get_or-set_other news i k y d (λ same. omega (arith, less, same)))) (before k d less inside)
      by k d inside (inr same) =
          subst (λ j. HasForgotten a r last (get_or olds j d) (get_or (set news i y) j d)) (sym same)
          (subst (λ (v : N). HasForgotten a r last (get_or olds i d) v) (sym (get_or-set_same news i y d within))
          (subst (λ (v : N). HasForgotten a r last v y) (get_or_default news i x d within ∙ behind i d (omega arith)) forgot))

  -- of all nodes, place by place
  pub all_forgot : (olds news : List N) → length news ≡ length olds → ((k : ℕ) (d : N) → k < length olds → HasForgotten a r last (get_or olds k d) (get_or news k d)) → AllZip (HasForgotten a r last) olds news
  all_forgot olds news long each = zip_by_index (HasForgotten a r last) olds news long each

  -- what was sent stands
  pub all_sent : (olds news : List N) → AllZip (HasForgotten a r last) olds news → (window : ℕ) (sends : List (List T))
      → AllZip (λ node items. a.sent node window items) olds sends → AllZip (λ node items. a.sent node window items) news sends
  all_sent olds news all window sends sent =
      zip_over (HasForgotten a r last) (λ (node : N) (items : List T). a.sent node window items) (λ (node : N) (items : List T). a.sent node window items) (λ x y items forgot was. forgot.sent window items was) olds news sends all sent

  -- the same have ended
  pub all_ended : (olds news : List N) → AllZip (HasForgotten a r last) olds news → map a.ended news ≡ map a.ended olds
  all_ended olds news all = map_same a.ended olds news (zip_weaker (HasForgotten a r last) (λ (x y : N). a.ended y ≡ a.ended x) (λ x y forgot. forgot.ended) olds news all)

  -- all are read on
  pub all_read_on : (olds news : List N) → AllZip (HasForgotten a r last) olds news → AllZip r.read_on olds news
  all_read_on olds news all = zip_weaker (HasForgotten a r last) r.read_on (λ x y forgot. forgot.read_on) olds news all

  -- none has forgotten more
  pub all_known : (olds news : List N) → AllZip (HasForgotten a r last) olds news → RememberFrom r last olds → RememberFrom r last news
  all_known olds news all =
      all_over (HasForgotten a r last) (λ (node : N). IsAtMost (r.known node) last) (λ (node : N). IsAtMost (r.known node) last) (λ x y forgot. forgot.known) olds news all
