-- Rules that are filed from the last to the first.
use Rattle.std.proofs.Common.{◌≡◌, ◌&&◌, Bool, true, false, List, [], ◌∷◌, ◌++◌, Option, Some, None, IsSome, IsNone, is_none, cond, append_assoc, append-nil, refl, ap, sym, subst, ◌∙◌, Err}
use Rattle.std.specs.List.{AllByRecursion}
use Rattle.std.proofs.lemmas.List.Sorted.{IsPermutation-cons, IsPermutation-refl, IsPermutation-trans}
use Rattle.std.proofs.lemmas.Bool.{false≢true}
use Rattle.cdc_base.specs.declared.rename.Rename.{Rename}
use Rattle.cdc_event.specs.Table.{is_rule_for, rule_for}
use Rattle.cdc_rename.specs.Names.{Adds, IsRule}
use Rattle.cdc_config.specs.declared.misfit.Misfit.{Misfit}
use Rattle.cdc_config.specs.declared.misfit.Misfit.TheVariants as misfit
use Rattle.cdc_config.specs.Filing.{AreNames, Files}
use Rattle.cdc_config.specs.Keys.{are_apart}

-- how far the filing has come: those behind are filed, and each of those in front is a rule
pub record AreFiled (all front names : List Rename) : Type 0 where
  pub behind : List Rename
  pub parted : all ≡ front ++ behind
  pub rules : AllByRecursion IsRule front
  pub apart : are_apart behind ≡ true
  pub filed : AreNames behind names

-- nothing is filed
pub none_filed : (all : List Rename) → AllByRecursion IsRule all → AreFiled all all []
none_filed all rules = record {
  behind = [];
  parted = sym (append-nil all);
  rules = rules;
  apart = refl;
  filed = record { same = IsPermutation-refl []; answers = λ db table. refl };
}

-- each of those in front of the last is a rule, and the last is one
pub rules_front : (front : List Rename) (last : Rename) → AllByRecursion IsRule (front ++ last ∷ []) → AllByRecursion IsRule front
rules_front [] last h = tt
rules_front (rule ∷ front) last h = (h.0, rules_front front last h.1)

pub rule_last : (front : List Rename) (last : Rename) → AllByRecursion IsRule (front ++ last ∷ []) → IsRule last
rule_last [] last h = h.0
rule_last (rule ∷ front) last h = rule_last front last h.1

none_is_none : {A : Type 0} (found : Option A) → IsNone found → is_none found ≡ true
none_is_none None h = refl
none_is_none (Some x) h = cc

first_apart : (rule : Rename) (rules : List Rename) → IsNone (rule_for rule.db rule.table rules) → are_apart rules ≡ true → are_apart (rule ∷ rules) ≡ true
first_apart rule rules none apart = rw (none_is_none (rule_for rule.db rule.table rules) none, apart) refl

-- one rule more is filed
pub one_filed : (all front before now : List Rename) (last : Rename) → AreFiled all (front ++ last ∷ []) before → Adds before now last → IsNone (rule_for last.db last.table before) → AreFiled all front now
one_filed all front before now last h adds apart = record {
  behind = last ∷ h.behind;
  parted = h.parted ∙ append_assoc front (last ∷ []) h.behind;
  rules = rules_front front last h.rules;
  apart = first_apart last h.behind (subst IsNone (h.filed.answers last.db last.table) apart) h.apart;
  filed = record {
    same = IsPermutation-trans (last ∷ h.behind) (last ∷ before) now (IsPermutation-cons last h.behind before h.filed.same) adds.rules;
    answers = λ db table. adds.answers db table ∙ ap (λ (r : Option Rename). cond (is_rule_for db table last) (Some last) r) (h.filed.answers db table);
  };
}

-- rules that aren't apart aren't so behind others either
apart_behind : (front rules : List Rename) → are_apart rules ≡ false → are_apart (front ++ rules) ≡ false
apart_behind [] rules h = h
apart_behind (rule ∷ front) rules h = rw (apart_behind front rules h) (and_false (is_none (rule_for rule.db rule.table (front ++ rules))))
  where
    and_false : (b : Bool) → (b && false) ≡ false
    and_false true = refl
    and_false false = refl

some_not_none : {A : Type 0} (found : Option A) → IsSome found → is_none found ≡ false
some_not_none None h = absurd (false≢true h)
some_not_none (Some x) h = refl

first_twice : (rule : Rename) (rules : List Rename) → IsSome (rule_for rule.db rule.table rules) → are_apart (rule ∷ rules) ≡ false
first_twice rule rules some = rw (some_not_none (rule_for rule.db rule.table rules) some) refl

-- a rule for a table that has one already
pub one_twice : (all front before : List Rename) (last : Rename) → AreFiled all (front ++ last ∷ []) before → IsSome (rule_for last.db last.table before) → are_apart all ≡ false
one_twice all front before last h there =
    let twice = first_twice last h.behind (subst IsSome (h.filed.answers last.db last.table) there) in
    let parted : all ≡ front ++ last ∷ h.behind = h.parted ∙ append_assoc front (last ∷ []) h.behind in
    rw parted (apart_behind front (last ∷ h.behind) twice)

-- all are filed
pub all_filed : (all names : List Rename) → AreFiled all [] names → (are_apart all ≡ true) × AreNames all names
all_filed all names h = rw h.parted (h.apart, h.filed)

-- why a rule isn't filed
pub not_filed : (all front before : List Rename) (last : Rename) (why : Misfit) → AreFiled all (front ++ last ∷ []) before → (why ≡ misfit.Refused → IsSome (rule_for last.db last.table before)) → Files (Err why) all
not_filed all front before last misfit.Refused h there = one_twice all front before last h (there refl)
not_filed all front before last misfit.Memory h there = tt
