-- The keys of a tree's sizes and paths, judged.
use Rattle.std.proofs.Common.{◌≡◌, ℕ, List, [], ◌∷◌, Some, None, is_some, option_map, Ok, Err, refl, ap, sym, subst, ◌∙◌}
use Rattle.toml.specs.Data.{Data}
use Rattle.cdc_config.specs.declared.command.ConfigKey.TheVariants as key
use Rattle.cdc_config.specs.declared.command.Refusal.{Refusal}
use Rattle.cdc_config.specs.declared.command.Refusal.TheVariants as refusal
use Rattle.cdc_config.specs.declared.judging.Sizes.{Sizes}
use Rattle.cdc_config.specs.declared.misfit.Misfit.{Misfit}
use Rattle.cdc_config.specs.declared.plan.Paths.{Paths}
use Rattle.cdc_config.specs.Judging.{AreSizesIn, path_keys, size_keys}
use Rattle.cdc_config.specs.Keys.{GivesOuts, addresses_of, folders_of, nodes_from, outs_from, rotation_from, task_from, window_from}
use Rattle.cdc_config.specs.Plan.{ArePaths, Judges, refusal_at}
use Rattle.cdc_config.specs.Tree.{GivesPart}
use Rattle.cdc_config.proofs.Judged.{passed_on, refused_here, refused_now}
use Rattle.cdc_config.proofs.KeyTests.{mapped_some, node_test, out_test, outs_give, rotation_test, task_same, task_test, window_test}

pub rotation_refused : (root : Data) → None ≡ rotation_from root → Judges {A = Sizes} (Err (refusal.Config key.Rotation)) root size_keys (AreSizesIn root)
rotation_refused root h = refused_now root key.Rotation (key.Window ∷ []) (AreSizesIn root) (rotation_test root ∙ ap is_some (sym h))

pub window_refused : (root : Data) (rotation : ℕ) → Some rotation ≡ rotation_from root → None ≡ window_from root → Judges {A = Sizes} (Err (refusal.Config key.Window)) root size_keys (AreSizesIn root)
window_refused root rotation r h =
    passed_on root key.Rotation (key.Window ∷ []) (Err (refusal.Config key.Window)) (AreSizesIn root) (rotation_test root ∙ ap is_some (sym r))
    (refused_now root key.Window [] (AreSizesIn root) (window_test root ∙ ap is_some (sym h)))

pub sizes_judged : (root : Data) (sizes : Sizes) → Some sizes.rotation ≡ rotation_from root → Some sizes.window ≡ window_from root → Judges {A = Sizes} (Ok sizes) root size_keys (AreSizesIn root)
sizes_judged root sizes r w =
    passed_on root key.Rotation (key.Window ∷ []) (Ok sizes) (AreSizesIn root) (rotation_test root ∙ ap is_some (sym r))
    (passed_on root key.Window [] (Ok sizes) (AreSizesIn root) (window_test root ∙ ap is_some (sym w)) (refl, record { rotation_is = sym r; window_is = sym w }))

pub node_refused : (root : Data) (why : Misfit) (answer : Refusal) → answer ≡ refusal_at why key.Node → GivesPart {A = List (List (List ℕ))} (Err why) (nodes_from root)
    → Judges {A = Paths} (Err answer) root path_keys (ArePaths root)
node_refused root why answer same h =
    subst (λ (r : Refusal). Judges {A = Paths} (Err r) root path_keys (ArePaths root)) (sym same)
    (refused_here root key.Node (key.Out ∷ key.Task ∷ []) (nodes_from root) why (ArePaths root) (node_test root) h)

pub out_refused : (root : Data) (nodes : List (List (List ℕ))) (why : Misfit) (answer : Refusal) → answer ≡ refusal_at why key.Out → nodes_from root ≡ Some nodes → GivesOuts (Err why) (outs_from root)
    → Judges {A = Paths} (Err answer) root path_keys (ArePaths root)
out_refused root nodes why answer same n h =
    subst (λ (r : Refusal). Judges {A = Paths} (Err r) root path_keys (ArePaths root)) (sym same)
    (passed_on root key.Node (key.Out ∷ key.Task ∷ []) (Err (refusal_at why key.Out)) (ArePaths root) (node_test root ∙ ap is_some n)
    (refused_here root key.Out (key.Task ∷ []) (outs_from root) why (ArePaths root) (out_test root) (outs_give why (outs_from root) h)))

pub task_refused : (root : Data) (nodes : List (List (List ℕ))) (folders : List (List ℕ)) (why : Misfit) (answer : Refusal) → answer ≡ refusal_at why key.Task → nodes_from root ≡ Some nodes → option_map folders_of (outs_from root) ≡ Some folders
    → GivesPart {A = List ℕ} (Err why) (task_from folders root) → Judges {A = Paths} (Err answer) root path_keys (ArePaths root)
task_refused root nodes folders why answer same n o h =
    subst (λ (r : Refusal). Judges {A = Paths} (Err r) root path_keys (ArePaths root)) (sym same)
    (passed_on root key.Node (key.Out ∷ key.Task ∷ []) (Err (refusal_at why key.Task)) (ArePaths root) (node_test root ∙ ap is_some n)
    (passed_on root key.Out (key.Task ∷ []) (Err (refusal_at why key.Task)) (ArePaths root) (out_test root ∙ mapped_some folders_of (outs_from root) folders o)
    (refused_here root key.Task [] (task_from folders root) why (ArePaths root) (task_test root ∙ ap is_some (task_same root folders o)) h)))

pub paths_judged : (root : Data) (paths : Paths) → nodes_from root ≡ Some paths.node_files → option_map folders_of (outs_from root) ≡ Some paths.out_folders → option_map addresses_of (outs_from root) ≡ Some paths.listen
    → task_from paths.out_folders root ≡ Some paths.task_folder → Judges {A = Paths} (Ok paths) root path_keys (ArePaths root)
paths_judged root paths n o l t =
    let task = task_same root paths.out_folders o ∙ t in
    passed_on root key.Node (key.Out ∷ key.Task ∷ []) (Ok paths) (ArePaths root) (node_test root ∙ ap is_some n)
    (passed_on root key.Out (key.Task ∷ []) (Ok paths) (ArePaths root) (out_test root ∙ mapped_some folders_of (outs_from root) paths.out_folders o)
    (passed_on root key.Task [] (Ok paths) (ArePaths root) (task_test root ∙ ap is_some task)
    (refl, record { nodes_are = n; outs_are = o; listen_are = l; task_is = task })))
