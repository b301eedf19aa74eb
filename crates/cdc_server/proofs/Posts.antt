-- Doors with their shelves and salts, put together.
use Rattle.std.proofs.Common.{◌≡◌, ◌⊎◌, ℕ, ◌+◌, ◌≤◌, ◌<◌, List, [], ◌∷◌, ◌++◌, length, map, refl, sym, ◌∙◌, ap, subst, inl, inr, arith, slice_index_or, slice_set}
use Rattle.std.specs.List.{Contains}
use Rattle.std.proofs.lemmas.List.Elements.{Contains-append_cases, Contains-push_cases}
use Rattle.cdc_server.specs.declared.door_end.DoorEnd.{DoorEnd}
use Rattle.cdc_server.specs.declared.serve_end.FirstEnd.{FirstEnd}
use Rattle.cdc_server.specs.Ends.{cause_rank}
use Rattle.cdc_server.specs.Server.{Post, IsFirstOfTwo, IsFirstEnd, ServesDoors}

-- ---- slices of one item, and their first item

pub one_item : {A : Type 0} (xs : List A) (d : A) → length xs ≡ 1 → xs ≡ slice_index_or xs 0 d ∷ []
one_item [] d one = absurd (omega (arith, one))
one_item (x ∷ []) d one = refl
one_item (x ∷ y ∷ ys) d one = absurd (omega (arith, one))

pub one_set : {A : Type 0} (xs : List A) (now : A) → length xs ≡ 1 → slice_set xs 0 now ≡ now ∷ []
one_set [] now one = absurd (omega (arith, one))
one_set (x ∷ []) now one = refl
one_set (x ∷ y ∷ ys) now one = absurd (omega (arith, one))

pub front_item : {A : Type 0} (xs front more : List A) (d : A) → xs ≡ front ++ more → length front ≡ 1 → xs ≡ slice_index_or front 0 d ∷ more
front_item xs front more d e one = e ∙ ap (λ l. l ++ more) (one_item front d one)

pub front_set : {A : Type 0} (front more : List A) (now : A) → length front ≡ 1 → slice_set front 0 now ++ more ≡ now ∷ more
front_set front more now one = ap (λ l. l ++ more) (one_set front now one)

-- ---- the first of ends

none_there : (ending : DoorEnd) → Contains [] ending → ⊥
none_there ending there = (let no = there.1 in omega (arith, no))

first_or_more : (one : DoorEnd) (more : List DoorEnd) (ending : DoorEnd) → Contains (one ∷ more) ending → (one ≡ ending) ⊎ Contains more ending
first_or_more one more ending there = elim (Contains-append_cases (one ∷ []) more ending there) [
  | inl first ↦ elim (Contains-push_cases [] one ending first) [ inl none ↦ absurd (none_there ending none) | inr same ↦ inl same ]
  | inr later ↦ inr later
]

pub rank_from : (number : ℕ) (endings : List DoorEnd) (first : FirstEnd) → IsFirstEnd number endings first → (ending : DoorEnd) → Contains endings ending → cause_rank first.ending ≤ cause_rank ending
rank_from number endings first is ending there =
    elim (Contains-append_cases is.before (first.ending ∷ is.behind) ending (subst (λ (l : List DoorEnd). Contains l ending) is.all there)) [
      | inl before ↦ (let later = is.later_before ending before in omega (arith, later))
      | inr rest ↦ elim (first_or_more first.ending is.behind ending rest) [
        | inl same ↦ subst (λ (e : DoorEnd). cause_rank first.ending ≤ cause_rank e) same (omega arith)
        | inr behind ↦ is.none_behind ending behind
      ]
    ]

one_end : (number : ℕ) (ending : DoorEnd) → IsFirstEnd number (ending ∷ []) (record { door = number; ending = ending })
one_end number ending = record {
  before = [];
  behind = [];
  all = refl;
  door = omega arith;
  later_before = λ other there. absurd (none_there other there);
  none_behind = λ other there. absurd (none_there other there);
}

own_first : (number : ℕ) (ending : DoorEnd) (endings : List DoorEnd) (behind : FirstEnd) → cause_rank ending ≤ cause_rank behind.ending → IsFirstEnd (number + 1) endings behind
    → IsFirstEnd number (ending ∷ endings) (record { door = number; ending = ending })
own_first number ending endings behind least is = record {
  before = [];
  behind = endings;
  all = refl;
  door = omega arith;
  later_before = λ other there. absurd (none_there other there);
  none_behind = λ other there. (let rank = rank_from (number + 1) endings behind is other there in omega (arith, rank, least));
}

later_first : (number : ℕ) (ending : DoorEnd) (endings : List DoorEnd) (behind : FirstEnd) → cause_rank behind.ending < cause_rank ending → IsFirstEnd (number + 1) endings behind
    → IsFirstEnd number (ending ∷ endings) behind
later_first number ending endings behind less is = record {
  before = ending ∷ is.before;
  behind = is.behind;
  all = ap (λ (l : List DoorEnd). ending ∷ l) is.all;
  door = (let door = is.door in omega (arith, door));
  later_before = λ other there. elim (first_or_more ending is.before other there) [
    | inl same ↦ subst (λ (e : DoorEnd). cause_rank behind.ending < cause_rank e) same less
    | inr before ↦ is.later_before other before
  ];
  none_behind = is.none_behind;
}

first_more : (number : ℕ) (ending : DoorEnd) (endings : List DoorEnd) (behind first : FirstEnd) → IsFirstOfTwo (record { door = number; ending = ending }) behind first
    → IsFirstEnd (number + 1) endings behind → IsFirstEnd number (ending ∷ endings) first
first_more number ending endings behind first chosen is = elim chosen [
  | inl own ↦ subst (λ (f : FirstEnd). IsFirstEnd number (ending ∷ endings) f) (sym own.0) (own_first number ending endings behind own.1 is)
  | inr later ↦ subst (λ (f : FirstEnd). IsFirstEnd number (ending ∷ endings) f) (sym later.0) (later_first number ending endings behind later.1 is)
]

-- ---- doors

module _ {D G Z : Type 0} (serves : ℕ → D → D → G → G → Z → Z → DoorEnd → Type 0) where
  -- one door
  pub one_post : (number : ℕ) (shelf shelf_now : D) (door door_now : G) (salt salt_now : Z) (ending : DoorEnd) {shelves shelves_now : List D} {doors doors_now : List G} {salts salts_now : List Z}
      → shelves ≡ shelf ∷ [] → doors ≡ door ∷ [] → salts ≡ salt ∷ [] → shelves_now ≡ shelf_now ∷ [] → doors_now ≡ door_now ∷ [] → salts_now ≡ salt_now ∷ []
      → serves number shelf shelf_now door door_now salt salt_now ending → ServesDoors serves number shelves shelves_now doors doors_now salts salts_now (record { door = number; ending = ending })
  one_post number shelf shelf_now door door_now salt salt_now ending shelves_are doors_are salts_are shelves_now_are doors_now_are salts_now_are served =
      let post : Post D G Z = record { shelf = shelf; shelf_now = shelf_now; door = door; door_now = door_now; salt = salt; salt_now = salt_now; ending = ending } in
      record {
        posts = post ∷ [];
        shelves_are = shelves_are;
        shelves_now_are = shelves_now_are;
        doors_are = doors_are;
        doors_now_are = doors_now_are;
        salts_are = salts_are;
        salts_now_are = salts_now_are;
        each = (served, tt);
        first_end = one_end number ending;
      }

  -- one door before others
  pub more_posts : (number : ℕ) (shelf shelf_now : D) (door door_now : G) (salt salt_now : Z) (ending : DoorEnd) (behind first : FirstEnd)
      {shelves shelves_now more_shelves more_shelves_now : List D} {doors doors_now more_doors more_doors_now : List G} {salts salts_now more_salts more_salts_now : List Z}
      → IsFirstOfTwo (record { door = number; ending = ending }) behind first → serves number shelf shelf_now door door_now salt salt_now ending
      → ServesDoors serves (number + 1) more_shelves more_shelves_now more_doors more_doors_now more_salts more_salts_now behind
      → shelves ≡ shelf ∷ more_shelves → shelves_now ≡ shelf_now ∷ more_shelves_now → doors ≡ door ∷ more_doors → doors_now ≡ door_now ∷ more_doors_now
      → salts ≡ salt ∷ more_salts → salts_now ≡ salt_now ∷ more_salts_now → ServesDoors serves number shelves shelves_now doors doors_now salts salts_now first
  more_posts number shelf shelf_now door door_now salt salt_now ending behind first chosen served rest shelves_are shelves_now_are doors_are doors_now_are salts_are salts_now_are =
      let post : Post D G Z = record { shelf = shelf; shelf_now = shelf_now; door = door; door_now = door_now; salt = salt; salt_now = salt_now; ending = ending } in
      record {
        posts = post ∷ rest.posts;
        shelves_are = shelves_are ∙ ap (λ (l : List D). shelf ∷ l) rest.shelves_are;
        shelves_now_are = shelves_now_are ∙ ap (λ (l : List D). shelf_now ∷ l) rest.shelves_now_are;
        doors_are = doors_are ∙ ap (λ (l : List G). door ∷ l) rest.doors_are;
        doors_now_are = doors_now_are ∙ ap (λ (l : List G). door_now ∷ l) rest.doors_now_are;
        salts_are = salts_are ∙ ap (λ (l : List Z). salt ∷ l) rest.salts_are;
        salts_now_are = salts_now_are ∙ ap (λ (l : List Z). salt_now ∷ l) rest.salts_now_are;
        each = (served, rest.each);
        first_end = first_more number ending (map (λ (p : Post D G Z). p.ending) rest.posts) behind first chosen rest.first_end;
      }
