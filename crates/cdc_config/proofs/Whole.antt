-- A configuration as a whole.
use Rattle.std.proofs.Common.{◌≡◌, ℕ, ◌&&◌, ◌≤◌, Bool, true, false, nat_le, List, length, Some, None, Result, Ok, Err, refl, ap, sym, subst, ◌∙◌, inl, inr}
use Rattle.std.specs.Prelude.{IfOk, OnOk}
use Rattle.std.specs.Str.{IsUtf8, is_utf8}
use Rattle.std.proofs.lemmas.Bool.{cases_Bool, le-leb}
use Rattle.std.proofs.lemmas.Str.{IsUtf8-from_is_utf8, is_utf8-from_IsUtf8}
use Rattle.toml.specs.Data.{Data, Members, table}
use Rattle.toml.specs.Parse.{parse_document}
use Rattle.cdc_base.specs.declared.rename.Rename.{Rename}
use Rattle.cdc_config.specs.declared.command.ConfigKey.{ConfigKey}
use Rattle.cdc_config.specs.declared.command.ConfigKey.TheVariants as key
use Rattle.cdc_config.specs.declared.command.Refusal.{Refusal}
use Rattle.cdc_config.specs.declared.command.Refusal.TheVariants as refusal
use Rattle.cdc_config.specs.declared.judging.Extras.{Extras}
use Rattle.cdc_config.specs.declared.judging.Sizes.{Sizes}
use Rattle.cdc_config.specs.declared.misfit.Misfit.{Misfit}
use Rattle.cdc_config.specs.declared.misfit.Misfit.TheVariants as misfit
use Rattle.cdc_config.specs.declared.plan.Paths.{Paths}
use Rattle.cdc_config.specs.declared.plan.Plan.{Plan}
use Rattle.cdc_config.specs.Filing.{AreNamesIn}
use Rattle.cdc_config.specs.Judging.{AreExtras, AreSizesIn, GivesTree, IsMadeOf}
use Rattle.cdc_config.specs.Plan.{ArePaths, IsPlanIn, IsPlanOf, Judges, JudgesText, refusal_at, refused_key, tested_keys, tree_from}

and_false : (b : Bool) → (b && false) ≡ false
and_false true = refl
and_false false = refl

not_utf8 : (text : List ℕ) → ¬ (IsUtf8 text) → is_utf8 text ≡ false
not_utf8 text h = elim (cases_Bool (is_utf8 text)) [ inl is ↦ absurd (h (IsUtf8-from_is_utf8 text is)) | inr other ↦ other ]

-- what is no text is no tree
pub no_tree : (text : List ℕ) → ¬ (IsUtf8 text) → tree_from text ≡ None
unfolding tree_from
no_tree text h = rw (not_utf8 text h, and_false (nat_le (length text) 1048576)) refl

-- the tree of a text in TOML
pub tree_is : (text : List ℕ) (members : Members) → length text ≤ 1048576 → IsUtf8 text → parse_document text ≡ Some members → tree_from text ≡ Some (table members)
unfolding tree_from
tree_is text members small utf8 parsed = rw (le-leb (length text) 1048576 small, is_utf8-from_IsUtf8 text utf8, parsed) refl

-- the plan of parts that are a tree's
pub plan_made : (root : Data) (sizes : Sizes) (paths : Paths) (extras : Extras) (plan : Plan) → AreSizesIn root sizes → ArePaths root paths → AreExtras root extras → IsMadeOf sizes paths extras plan → IsPlanIn root plan
plan_made root sizes paths extras plan s p e made = record {
  rotation_is = s.rotation_is ∙ ap Some (sym made.rotation_is);
  window_is = s.window_is ∙ ap Some (sym made.window_is);
  paths_are = subst (ArePaths root) (sym made.paths_are) p;
  names_are = subst (λ (names : List Rename). AreNamesIn root names) (sym made.names_are) e.names_are;
  users_are = e.users_are ∙ ap Some (sym made.users_are);
  split_is = e.split_is ∙ ap Some (sym made.split_is);
  no_other = e.no_other;
}

-- what is judged of the tree is so of the text
pub text_judged : (r : Result Plan Refusal) (text : List ℕ) (root : Data) → tree_from text ≡ Some root → Judges r root tested_keys (IsPlanIn root) → JudgesText r text
text_judged (Ok plan) text root there h = (rw there h.0, (root, there, h.1))
text_judged (Err (refusal.Config k)) text root there h = rw there h
text_judged (Err refusal.Usage) text root there h = h
text_judged (Err refusal.Memory) text root there h = tt

pub text_refused : (why : Misfit) (answer : Refusal) (text : List ℕ) → answer ≡ refusal_at why key.Toml → GivesTree (Err why) (tree_from text) → JudgesText (Err answer) text
text_refused why answer text same h = subst (λ (r : Refusal). JudgesText (Err r) text) (sym same) (refused why h)
  where
    refused : (why : Misfit) → GivesTree (Err why) (tree_from text) → JudgesText (Err (refusal_at why key.Toml)) text
    refused misfit.Refused h = rw h refl
    refused misfit.Memory h = tt

-- the answer, part by part
pub judged_plan : (r : Result Plan Refusal) (text : List ℕ) → JudgesText r text → IfOk r (IsPlanOf text)
judged_plan (Ok plan) text h = h.1
judged_plan (Err why) text h = tt

pub judged_accepted : (r : Result Plan Refusal) (text : List ℕ) → JudgesText r text → OnOk r (refused_key text ≡ None)
judged_accepted (Ok plan) text h = h.0
judged_accepted (Err why) text h = tt

pub judged_refused : (r : Result Plan Refusal) (text : List ℕ) → JudgesText r text → (k : ConfigKey) → r ≡ Err (refusal.Config k) → refused_key text ≡ Some k
judged_refused r text h k e = subst (λ (answer : Result Plan Refusal). JudgesText answer text) e h

pub judged_usage : (r : Result Plan Refusal) (text : List ℕ) → JudgesText r text → r ≡ Err refusal.Usage → ⊥
judged_usage r text h e = subst (λ (answer : Result Plan Refusal). JudgesText answer text) e h
