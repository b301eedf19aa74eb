-- What it is that a key is accepted.
use Rattle.std.proofs.Common.{◌≡◌, ℕ, true, List, [], ◌∷◌, ◌++◌, length, Option, Some, None, is_some, option_map, unwrap_or, Err, refl, ap, sym, ◌∙◌}
use Rattle.std.proofs.lemmas.List.{length-map}
use Rattle.toml.specs.Data.{Data}
use Rattle.cdc_base.specs.declared.rename.Rename.{Rename}
use Rattle.cdc_config.specs.declared.command.ConfigKey.TheVariants as key
use Rattle.cdc_config.specs.declared.misfit.Misfit.{Misfit}
use Rattle.cdc_config.specs.declared.misfit.Misfit.TheVariants as misfit
use Rattle.cdc_config.specs.declared.parts.OutTable.{OutTable}
use Rattle.cdc_config.specs.declared.plan.Paths.{Paths}
use Rattle.cdc_config.specs.declared.shape.Shape.TheVariants as shape
use Rattle.cdc_config.specs.Filing.{GivesNames}
use Rattle.cdc_config.specs.Judging.{split_given}
use Rattle.cdc_config.specs.Keys.{GivesOuts, folders_of, nodes_from, outs_from, rotation_from, rules_from, split_from, task_from, users_from, window_from}
use Rattle.cdc_config.specs.Plan.{ArePaths, accepts, outs_in, taken_in, task_in}
use Rattle.cdc_config.specs.Tree.{GivesPart, is_shaped}

pub rotation_test : (root : Data) → accepts root key.Rotation ≡ is_some (rotation_from root)
unfolding accepts
rotation_test root = refl

pub window_test : (root : Data) → accepts root key.Window ≡ is_some (window_from root)
unfolding accepts
window_test root = refl

pub node_test : (root : Data) → accepts root key.Node ≡ is_some (nodes_from root)
unfolding accepts
node_test root = refl

pub out_test : (root : Data) → accepts root key.Out ≡ is_some (outs_from root)
unfolding accepts
out_test root = refl

pub task_test : (root : Data) → accepts root key.Task ≡ is_some (task_in root)
unfolding accepts
task_test root = refl

pub table_test : (root : Data) → accepts root key.Table ≡ is_some (rules_from root)
unfolding accepts
table_test root = refl

pub user_test : (root : Data) → accepts root key.User ≡ is_some (users_from root)
unfolding accepts
user_test root = refl

pub split_test : (root : Data) → accepts root key.Split ≡ is_some (split_given root)
unfolding accepts
split_test root = refl

pub unknown_test : (root : Data) → accepts root key.Unknown ≡ is_shaped shape.Top root
unfolding accepts
unknown_test root = refl

-- something that is made of a value has the value
pub mapped_some : {A B : Type 0} (made : A → B) (found : Option A) (last : B) → option_map made found ≡ Some last → is_some found ≡ true
mapped_some made None last h = cc
mapped_some made (Some value) last h = refl

pub outs_give : (why : Misfit) (found : Option (List OutTable)) → GivesOuts (Err why) found → GivesPart {A = List OutTable} (Err why) found
outs_give misfit.Refused found h = h
outs_give misfit.Memory found h = tt

-- the folders that are read are those of the tree's outs
outs_folders : (found : Option (List OutTable)) (folders : List (List ℕ)) → option_map folders_of found ≡ Some folders → folders_of (unwrap_or found []) ≡ folders
outs_folders None folders h = cc
outs_folders (Some outs) folders h = cc

pub task_same : (root : Data) (folders : List (List ℕ)) → option_map folders_of (outs_from root) ≡ Some folders → task_in root ≡ task_from folders root
task_same root folders h = ap (λ (taken : List (List ℕ)). task_from taken root) (outs_folders (outs_from root) folders h)

outs_count : (root : Data) (folders : List (List ℕ)) → option_map folders_of (outs_from root) ≡ Some folders → length folders ≡ length (outs_in root)
outs_count root folders h = ap length (sym (outs_folders (outs_from root) folders h)) ∙ length-map (outs_in root) (λ (out : OutTable). out.folder)

or_none : {A : Type 0} (found : Option (List A)) (value : List A) → found ≡ Some value → value ≡ unwrap_or found []
or_none None value h = cc
or_none (Some other) value h = cc

taken_same : (root : Data) (paths : Paths) → ArePaths root paths → paths.out_folders ++ paths.task_folder ∷ [] ≡ taken_in root
taken_same root paths h =
    ap (λ (folders : List (List ℕ)). folders ++ paths.task_folder ∷ []) (sym (outs_folders (outs_from root) paths.out_folders h.outs_are))
    ∙ ap (λ (task : List ℕ). folders_of (outs_in root) ++ task ∷ []) (or_none (task_in root) paths.task_folder h.task_is)

-- the split that is read is that of the tree
pub split_same : (root : Data) (paths : Paths) (taken : List (List ℕ)) → ArePaths root paths → taken ≡ paths.out_folders ++ paths.task_folder ∷ [] → split_from (length paths.out_folders) taken root ≡ split_given root
split_same root paths taken h same =
    ap (λ (n : ℕ). split_from n taken root) (outs_count root paths.out_folders h.outs_are)
    ∙ ap (λ (t : List (List ℕ)). split_from (length (outs_in root)) t root) (same ∙ taken_same root paths h)

pub names_give : (why : Misfit) (root : Data) → GivesNames (Err why) root → GivesPart {A = List Rename} (Err why) (rules_from root)
names_give misfit.Refused root h = h
names_give misfit.Memory root h = tt
