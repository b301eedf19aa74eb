-- One node more is opened, or refused.
use Rattle.std.proofs.Common.{◌≡◌, ℕ, zero, suc, ◌+◌, ◌-◌, ◌<◌, ◌≤◌, Bool, IsTrue, List, [], ◌∷◌, length, get_or, map, Some, sym, ◌∙◌, ap, subst, arith}
use Rattle.std.specs.Prelude.{slice_get}
use Rattle.std.proofs.lemmas.List.{length-map, get_or-map}
use Rattle.cdc_model.specs.Restart.{RestartPoint}
use Rattle.cdc_opening.specs.declared.outcome.Outcome.{Outcome}
use Rattle.cdc_opening.specs.declared.outcome.Outcome.TheVariants.{Done, Disk, TaskDisk, Read, Memory, TooLarge, Node, Open, Task, Behind, Differs, Key}
use Rattle.cdc_opening.specs.OpenSources.{EndsBeforePlace, NoneEndsBefore}
use Rattle.cdc_opening.specs.SourceAnswers.{IsNodeAnswer, AreNodesAnswer}
use Rattle.cdc_opening.proofs.Zips.{zip_before, at_place}

-- one more pair
pub pairs_more : {A B : Type 0} (P : A → B → Type 0) (xs : List A) (ys : List B) (k : ℕ) (x : A) (y : B) → k < length xs → k < length ys
    → ((j : ℕ) (d : A) (e : B) → j < k → P (get_or xs j d) (get_or ys j e)) → x ≡ get_or xs k x → y ≡ get_or ys k y → P x y
    → (j : ℕ) (d : A) (e : B) → j < k + 1 → P (get_or xs j d) (get_or ys j e)
pairs_more P [] ys k x y within there each x_is y_is one j d e below = absurd (omega (arith, within))
pairs_more P (a ∷ xs) [] k x y within there each x_is y_is one j d e below = absurd (omega (arith, there))
pairs_more P (a ∷ xs) (b ∷ ys) zero x y within there each x_is y_is one zero d e below = subst (λ v. P v b) x_is (subst (λ v. P x v) y_is one)
pairs_more P (a ∷ xs) (b ∷ ys) zero x y within there each x_is y_is one (suc j) d e below = absurd (omega (arith, below))
pairs_more P (a ∷ xs) (b ∷ ys) (suc k) x y within there each x_is y_is one zero d e below = each zero d e (omega arith)
pairs_more P (a ∷ xs) (b ∷ ys) (suc k) x y within there each x_is y_is one (suc j) d e below =
    pairs_more P xs ys k x y (omega (arith, within)) (omega (arith, there)) (λ i d e lt. each (suc i) d e (omega (arith, lt))) x_is y_is one j d e (omega (arith, below))

-- an item at a place of a list seen by a function
pub seen_place : {A B : Type 0} (f : A → B) (xs : List A) (k : ℕ) (x : A) → k < length xs → x ≡ get_or xs k x → slice_get (map f xs) (k + 1 - 1) ≡ Some (f x)
seen_place f xs k x within is =
    subst (λ n. slice_get (map f xs) n ≡ Some (f x)) (let e : k ≡ k + 1 - 1 = omega arith in e)
    (at_place (map f xs) k (f x) (let long = length-map xs f in omega (arith, long, within)) (ap f is ∙ sym (get_or-map f xs k x (f x) within)))

pub this_place : {A : Type 0} (xs : List A) (k : ℕ) (x : A) → k < length xs → x ≡ get_or xs k x → slice_get xs (k + 1 - 1) ≡ Some x
this_place xs k x within is = subst (λ n. slice_get xs n ≡ Some x) (let e : k ≡ k + 1 - 1 = omega arith in e) (at_place xs k x within is)

-- those before this one don't end before their points
pub none_before : {S : Type 0} (held : S → List (List ℕ)) (olds : List S) (cuts : List RestartPoint) (k : ℕ) → k ≤ length olds → k ≤ length cuts
    → ((j : ℕ) (d : S) (e : RestartPoint) → j < k → EndsBeforePlace (held (get_or olds j d)) (get_or cuts j e) → ⊥) → NoneEndsBefore k (map held olds) cuts
none_before held olds cuts k few many each = zip_before held (λ files cut. EndsBeforePlace files cut → ⊥) olds cuts k few many each

-- what one node is refused for, all are
pub node_refused : (told : Bool) (logs : List (List (List ℕ))) (cuts : List RestartPoint) (files : List (List ℕ)) (cut : RestartPoint) (k : ℕ) (e : Outcome)
    → (IsTrue told → NoneEndsBefore k logs cuts) → slice_get logs (k + 1 - 1) ≡ Some files → slice_get cuts (k + 1 - 1) ≡ Some cut → IsNodeAnswer told files cut (k + 1) e → AreNodesAnswer told logs cuts e
node_refused told logs cuts files cut k Done before log point a = absurd a
node_refused told logs cuts files cut k (Disk out) before log point a = absurd a
node_refused told logs cuts files cut k TaskDisk before log point a = absurd a
node_refused told logs cuts files cut k (Read node) before log point a = λ is. subst (λ n. NoneEndsBefore n logs cuts) (let e : k ≡ node - 1 = omega (arith, a) in e) (before is)
node_refused told logs cuts files cut k Memory before log point a = absurd a
node_refused told logs cuts files cut k (TooLarge of bytes) before log point a = absurd a
node_refused told logs cuts files cut k (Node node place fault) before log point a = absurd a
node_refused told logs cuts files cut k (Open out fault) before log point a = absurd a
node_refused told logs cuts files cut k (Task fault) before log point a = absurd a
node_refused told logs cuts files cut k (Behind node kept given) before log point a = λ is.
    let number : node ≡ k + 1 = a.0 in
    let behind = a.1 is in
    record {
      first = omega (arith, number);
      before = subst (λ n. NoneEndsBefore n logs cuts) (let e : k ≡ node - 1 = omega (arith, number) in e) (before is);
      files = files;
      log = subst (λ n. slice_get logs (n - 1) ≡ Some files) (sym number) log;
      cut = cut;
      point = subst (λ n. slice_get cuts (n - 1) ≡ Some cut) (sym number) point;
      behind = behind.behind;
      kept_is = behind.kept_is;
      given_is = behind.given_is;
    }
node_refused told logs cuts files cut k (Differs out kept given) before log point a = absurd a
node_refused told logs cuts files cut k (Key out kept given) before log point a = absurd a

-- the number of the one that failed
pub failed_number : (told : Bool) (files : List (List ℕ)) (cut : RestartPoint) (number node : ℕ) (e : Outcome) → e ≡ Read node → IsNodeAnswer told files cut number e → node ≡ number
failed_number told files cut number node e is a = subst (λ (o : Outcome). IsNodeAnswer told files cut number o) is a
