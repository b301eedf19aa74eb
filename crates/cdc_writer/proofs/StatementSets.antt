-- The different statements of branches, as a set keeps them.
use Rattle.std.proofs.Common.{◌≡◌, ℕ, zero, suc, ◌+◌, ◌<◌, ◌≤◌, Bool, true, false, cond, ◌&&◌, ◌||◌, not, nat_eq, List, [], ◌∷◌, ◌++◌, length, take, drop, get_or, map, Option, Some, None, IfSome, is_some, refl, ap, sym, subst, ◌∙◌, arith, append-nil, add-one}
use Rattle.std.specs.List.{AllByRecursion, list_any, filter, cons_option}
use Rattle.std.specs.Cmp.Lexicographic.{pointwise}
use Rattle.std.specs.Cmp.{IsEquivalence, and_equiv, on_equiv}
use Rattle.std.proofs.lemmas.Cmp.{nat_list_eq_equiv}
use Rattle.std.proofs.lemmas.List.{take_more, map-append}
use Rattle.std.proofs.lemmas.List.Elements.{filter_map-append}
use Rattle.std.proofs.Math.Seq.{drop-cons}
use Rattle.std.proofs.lemmas.Bool.Decides.{nat_tests}
use Rattle.indexmap.specs.IndexSet.{insert_key}
use Rattle.cdc_model.specs.Records.{Row, CommittedBranch}
use Rattle.cdc_model.specs.Print.{Statement, branch_statement, same_statement, distinct, statements_of, statement_event}
use Rattle.cdc_writer.specs.Statements.{IsShort, told, with_statement}
use Rattle.cdc_writer.proofs.Cases.{has_statement}
use Rattle.cdc_writer.proofs.Laid.{none_left}
use Rattle.cdc_writer.proofs.StatementsOnce.{distinct_more}
use denote.Ref.{Bor}

-- a statement as a set keeps it
abbrev Kept : Type 0
Kept = Bor (List ℕ) × Bor (List ℕ)

abbrev pub tell : Kept → Statement
tell kept = (kept.0.now, kept.1.now)

same_kept : Kept → Kept → Bool
same_kept a b = pointwise nat_eq a.0.now b.0.now && pointwise nat_eq a.1.now b.1.now

-- ---- a set's insert is that of a statement

any_told : (kept : Kept) (keys : List Kept) → list_any (λ (other : Kept). pointwise nat_eq kept.0.now other.0.now && pointwise nat_eq kept.1.now other.1.now) keys ≡ list_any (same_statement (tell kept)) (told keys)
any_told kept [] = refl
any_told kept (x ∷ keys) = ap (λ rest. same_statement (tell kept) (tell x) || rest) (any_told kept keys)

insert_by : (a b : Bool) (kept : Kept) (keys : List Kept) → a ≡ b → told (cond a keys (keys ++ kept ∷ [])) ≡ cond b (told keys) (told keys ++ tell kept ∷ [])
insert_by true b kept keys e = rw (← e) refl
insert_by false b kept keys e = rw (← e) (map-append (λ (k : Kept). tell k) keys (kept ∷ []))

pub inserted : (kept : Kept) (keys : List Kept) → told (insert_key (λ (a b : Kept). pointwise nat_eq a.0.now b.0.now && pointwise nat_eq a.1.now b.1.now) keys kept) ≡ with_statement (Some (tell kept)) (told keys)
inserted kept keys = insert_by _ _ kept keys (any_told kept keys)

-- ---- the different statements of one branch more

same_is : IsEquivalence same_statement
same_is = and_equiv (on_equiv (λ (s : Statement). s.0) nat_list_eq_equiv) (on_equiv (λ (s : Statement). s.1) nat_list_eq_equiv)

-- a statement's own are not left out with those of another
own_step : (x s y : Statement) (rest others : Bool) → same_statement s x ≡ false → rest ≡ others → (c d : Bool) → c ≡ same_statement x y → d ≡ same_statement s y
    → cond (not c) (d || rest) rest ≡ (d || others)
own_step x s y rest others e h true true c d = absurd (let same = same_is.congr x y s (sym c) in let symm = same_is.symm s y in let back = same_is.symm s x in cc)
own_step x s y rest others e h true false c d = h
own_step x s y rest others e h false d' c d = ap (λ more. d' || more) h

any_if : (p : Statement → Bool) (keep : Bool) (y : Statement) (rest : List Statement) → list_any p (cond keep (y ∷ rest) rest) ≡ cond keep (p y || list_any p rest) (list_any p rest)
any_if p true y rest = refl
any_if p false y rest = refl

own_kept : (x s : Statement) (ys : List Statement) → same_statement s x ≡ false → list_any (same_statement s) (filter (λ other. not (same_statement x other)) ys) ≡ list_any (same_statement s) ys
own_kept x s [] e = refl
own_kept x s (y ∷ ys) e =
    let rest = filter (λ other. not (same_statement x other)) ys in
    any_if (same_statement s) (not (same_statement x y)) y rest
    ∙ own_step x s y (list_any (same_statement s) rest) (list_any (same_statement s) ys) e (own_kept x s ys e) (same_statement x y) (same_statement s y) refl refl

among_step : (x s : Statement) (rest : List Statement) (others : Bool) (c : Bool) → c ≡ same_statement s x → list_any (same_statement s) rest ≡ others
    → (c || list_any (same_statement s) (filter (λ other. not (same_statement x other)) rest)) ≡ (same_statement x s || others)
among_step x s rest others true c h = let symm = same_is.symm s x in rw (← symm, ← c) refl
among_step x s rest others false c h = let symm = same_is.symm s x in rw (← symm, ← c) (own_kept x s rest (sym c) ∙ h)

-- a statement is among the different ones where it is among all
among_different : (xs : List Statement) (s : Statement) → list_any (same_statement s) (distinct xs) ≡ list_any (λ other. same_statement other s) xs
among_different [] s = refl
among_different (x ∷ xs) s = among_step x s (distinct xs) (list_any (λ other. same_statement other s) xs) (same_statement s x) refl (among_different xs s)

with_by : (a b : Bool) (s : Statement) (xs : List Statement) → a ≡ b → cond a xs (xs ++ s ∷ []) ≡ xs ++ cond b [] (s ∷ [])
with_by true b s xs e = rw (← e) (sym (append-nil xs))
with_by false b s xs e = rw (← e) refl

one_branch_more : (o : Option Statement) (xs : List Statement) → with_statement o (distinct xs) ≡ distinct (xs ++ cons_option o [])
one_branch_more None xs = rw (append-nil xs) refl
one_branch_more (Some s) xs = with_by _ _ s (distinct xs) (among_different xs s) ∙ sym (distinct_more xs s)

-- ---- what a set keeps of the branches in front

all_append : (xs ys : List Statement) → AllByRecursion IsShort xs → AllByRecursion IsShort ys → AllByRecursion IsShort (xs ++ ys)
all_append [] ys all more = more
all_append (x ∷ xs) ys all more = (all.0, all_append xs ys all.1 more)

short_by : (b : Bool) (s : Statement) (xs : List Statement) → AllByRecursion IsShort xs → IsShort s → AllByRecursion IsShort (cond b xs (xs ++ s ∷ []))
short_by true s xs all short = all
short_by false s xs all short = all_append xs (s ∷ []) all (short, tt)

pub short_with : (o : Option Statement) (xs : List Statement) → AllByRecursion IsShort xs → IfSome o IsShort → AllByRecursion IsShort (with_statement o xs)
short_with None xs all short = all
short_with (Some s) xs all short = short_by (list_any (same_statement s) xs) s xs all short

pub record KeepsFront (keys : List Kept) (front : List CommittedBranch) : Type 0 where
  pub statements : told keys ≡ distinct (statements_of front)
  pub short : AllByRecursion IsShort (told keys)

pub none_kept : (keys : List Kept) → keys ≡ [] → KeepsFront keys []
none_kept keys e = record { statements = ap told e; short = rw e tt }

pub one_kept : {keys : List Kept} (keys' : List Kept) (branches : List CommittedBranch) (i : ℕ) (branch : CommittedBranch) → i < length branches → branch ≡ get_or branches i branch
    → KeepsFront keys (take i branches) → told keys' ≡ with_statement (branch_statement branch.rows) (told keys) → (AllByRecursion IsShort (told keys) → AllByRecursion IsShort (told keys'))
    → KeepsFront keys' (take (i + 1) branches)
one_kept {keys} keys' branches i branch lt e kept with short =
    let o = branch_statement branch.rows in
    let more : take i branches ++ branch ∷ [] ≡ take (i + 1) branches = ap (λ item. take i branches ++ item ∷ []) e ∙ sym (take_more branches i branch lt) in
    record {
      statements = with ∙ ap (with_statement o) kept.statements ∙ one_branch_more o (statements_of (take i branches))
          ∙ ap distinct (sym (filter_map-append (λ (b : CommittedBranch). branch_statement b.rows) (take i branches) (branch ∷ []))) ∙ ap (λ front. distinct (statements_of front)) more;
      short = short kept.short;
    }

-- ---- what is left of the statements of a set

abbrev pub told_events : List Kept → List Row
told_events keys = map statement_event (told keys)

item_at : (keys : List Kept) (i : ℕ) (other : Kept) → i < length keys → drop i keys ≡ get_or keys i other ∷ drop (i + 1) keys
item_at keys i other lt = rw (add-one, drop-cons keys i other lt) refl

pub told_first : (keys : List Kept) (i : ℕ) (other : Kept) → i < length keys → told_events (drop i keys) ≡ statement_event (tell (get_or keys i other)) ∷ told_events (drop (i + 1) keys)
told_first keys i other lt = ap told_events (item_at keys i other lt)

pub told_none : (keys : List Kept) (i : ℕ) → length keys ≤ i → told_events (drop i keys) ≡ []
told_none keys i le = ap told_events (none_left keys i le)

pub told_short : (keys : List Kept) (i : ℕ) (other : Kept) → i < length keys → AllByRecursion IsShort (told (drop i keys)) → IsShort (tell (get_or keys i other)) × AllByRecursion IsShort (told (drop (i + 1) keys))
told_short keys i other lt all = subst (AllByRecursion IsShort) (ap told (item_at keys i other lt)) all

-- what an index gives where there is nothing
abbrev pub nothing : Kept
nothing = (record { ref_ptr = (0, 0); now = [] }, record { ref_ptr = (0, 0); now = [] })

pub front_all : {X : Type 0} (xs : List X) (i : ℕ) → length xs ≤ i → take i xs ≡ xs
front_all [] zero le = refl
front_all [] (suc i) le = refl
front_all (x ∷ xs) zero le = absurd (omega arith)
front_all (x ∷ xs) (suc i) le = ap (λ ys. x ∷ ys) (front_all xs i (omega arith))

not_none : (n : ℕ) → not (nat_eq (suc n) 0) ≡ true
not_none n = grind (arith, nat_tests)

-- a branch has a statement where the different ones are not none
has_step : (o : Option Statement) (others : Bool) (rest : List Statement) → others ≡ not (nat_eq (length (distinct rest)) 0) → (is_some o || others) ≡ not (nat_eq (length (distinct (cons_option o rest))) 0)
has_step None others rest e = e
has_step (Some s) others rest e = sym (not_none (length (filter (λ other. not (same_statement s other)) (distinct rest))))

has_some : (branches : List CommittedBranch) → has_statement branches ≡ not (nat_eq (length (distinct (statements_of branches))) 0)
has_some [] = refl
has_some (branch ∷ branches) = has_step (branch_statement branch.rows) (has_statement branches) (statements_of branches) (has_some branches)

length_told : (keys : List Kept) → length (told keys) ≡ length keys
length_told [] = refl
length_told (k ∷ keys) = ap suc (length_told keys)

-- the same by the length of what a set keeps
pub has_told : (keys : List Kept) (branches : List CommittedBranch) → told keys ≡ distinct (statements_of branches) → has_statement branches ≡ not (nat_eq (length keys) 0)
has_told keys branches e = has_some branches ∙ ap (λ n. not (nat_eq n 0)) (sym (ap length e) ∙ length_told keys)
