-- The other keys of a tree, judged.
use Rattle.std.proofs.Common.{◌≡◌, true, false, List, [], ◌∷◌, Option, Some, is_some, Result, Ok, Err, refl, ap, sym, subst, ◌∙◌}
use Rattle.toml.specs.Data.{Data}
use Rattle.cdc_base.specs.declared.rename.Rename.{Rename}
use Rattle.cdc_config.specs.declared.command.ConfigKey.TheVariants as key
use Rattle.cdc_config.specs.declared.command.Refusal.{Refusal}
use Rattle.cdc_config.specs.declared.command.Refusal.TheVariants as refusal
use Rattle.cdc_config.specs.declared.judging.Extras.{Extras}
use Rattle.cdc_config.specs.declared.misfit.Misfit.{Misfit}
use Rattle.cdc_config.specs.declared.plan.SplitPlan.{SplitPlan}
use Rattle.cdc_base.specs.declared.user.User.{User}
use Rattle.cdc_config.specs.declared.shape.Shape.TheVariants as shape
use Rattle.cdc_config.specs.Filing.{AreNamesIn, GivesNames}
use Rattle.cdc_config.specs.Judging.{AreExtras, extra_keys, split_given}
use Rattle.cdc_config.specs.Keys.{rules_from, users_from}
use Rattle.cdc_config.specs.Plan.{Judges, refusal_at}
use Rattle.cdc_config.specs.Tree.{GivesPart, is_shaped}
use Rattle.cdc_config.proofs.Judged.{passed_on, refused_here, refused_now}
use Rattle.cdc_config.proofs.KeyTests.{names_give, split_test, table_test, unknown_test, user_test}

pub table_refused : (root : Data) (why : Misfit) (answer : Refusal) → answer ≡ refusal_at why key.Table → GivesNames (Err why) root → Judges {A = Extras} (Err answer) root extra_keys (AreExtras root)
table_refused root why answer same h =
    subst (λ (r : Refusal). Judges {A = Extras} (Err r) root extra_keys (AreExtras root)) (sym same)
    (refused_here root key.Table (key.User ∷ key.Split ∷ key.Unknown ∷ []) (rules_from root) why (AreExtras root) (table_test root) (names_give why root h))

-- behind the names
past_names : (root : Data) (names : List Rename) (r : Result Extras Refusal) → AreNamesIn root names → Judges r root (key.User ∷ key.Split ∷ key.Unknown ∷ []) (AreExtras root) → Judges r root extra_keys (AreExtras root)
past_names root names r n h = passed_on root key.Table (key.User ∷ key.Split ∷ key.Unknown ∷ []) r (AreExtras root) (table_test root ∙ ap is_some n.1) h

-- behind the users
past_users : (root : Data) (users : List User) (r : Result Extras Refusal) → users_from root ≡ Some users → Judges r root (key.Split ∷ key.Unknown ∷ []) (AreExtras root) → Judges r root (key.User ∷ key.Split ∷ key.Unknown ∷ []) (AreExtras root)
past_users root users r u h = passed_on root key.User (key.Split ∷ key.Unknown ∷ []) r (AreExtras root) (user_test root ∙ ap is_some u) h

-- behind the split
past_split : (root : Data) (split : Option SplitPlan) (r : Result Extras Refusal) → split_given root ≡ Some split → Judges r root (key.Unknown ∷ []) (AreExtras root) → Judges r root (key.Split ∷ key.Unknown ∷ []) (AreExtras root)
past_split root split r s h = passed_on root key.Split (key.Unknown ∷ []) r (AreExtras root) (split_test root ∙ ap is_some s) h

pub user_refused : (root : Data) (names : List Rename) (why : Misfit) (answer : Refusal) → answer ≡ refusal_at why key.User → AreNamesIn root names → GivesPart {A = List User} (Err why) (users_from root)
    → Judges {A = Extras} (Err answer) root extra_keys (AreExtras root)
user_refused root names why answer same n h =
    subst (λ (r : Refusal). Judges {A = Extras} (Err r) root extra_keys (AreExtras root)) (sym same)
    (past_names root names (Err (refusal_at why key.User)) n (refused_here root key.User (key.Split ∷ key.Unknown ∷ []) (users_from root) why (AreExtras root) (user_test root) h))

pub split_refused : (root : Data) (names : List Rename) (users : List User) (why : Misfit) (answer : Refusal) → answer ≡ refusal_at why key.Split → AreNamesIn root names → users_from root ≡ Some users → GivesPart {A = Option SplitPlan} (Err why) (split_given root)
    → Judges {A = Extras} (Err answer) root extra_keys (AreExtras root)
split_refused root names users why answer same n u h =
    subst (λ (r : Refusal). Judges {A = Extras} (Err r) root extra_keys (AreExtras root)) (sym same)
    (past_names root names (Err (refusal_at why key.Split)) n (past_users root users (Err (refusal_at why key.Split)) u
    (refused_here root key.Split (key.Unknown ∷ []) (split_given root) why (AreExtras root) (split_test root) h)))

pub unknown_refused : (root : Data) (names : List Rename) (users : List User) (split : Option SplitPlan) → AreNamesIn root names → users_from root ≡ Some users → split_given root ≡ Some split → is_shaped shape.Top root ≡ false
    → Judges {A = Extras} (Err (refusal.Config key.Unknown)) root extra_keys (AreExtras root)
unknown_refused root names users split n u s h =
    past_names root names (Err (refusal.Config key.Unknown)) n (past_users root users (Err (refusal.Config key.Unknown)) u (past_split root split (Err (refusal.Config key.Unknown)) s
    (refused_now root key.Unknown [] (AreExtras root) (unknown_test root ∙ h))))

pub extras_judged : (root : Data) (extras : Extras) → AreNamesIn root extras.names → users_from root ≡ Some extras.users → split_given root ≡ Some extras.split → is_shaped shape.Top root ≡ true
    → Judges {A = Extras} (Ok extras) root extra_keys (AreExtras root)
extras_judged root extras n u s h =
    past_names root extras.names (Ok extras) n (past_users root extras.users (Ok extras) u (past_split root extras.split (Ok extras) s
    (passed_on root key.Unknown [] (Ok extras) (AreExtras root) (unknown_test root ∙ h) (refl, record { names_are = n; users_are = u; split_is = s; no_other = h }))))
