-- What was found of outputs that are opened, and from where a pass goes on.
use Rattle.std.proofs.Common.{◌≡◌, ◌↔◌, ℕ, Bool, IsTrue, List, [], ◌∷◌, map, refl, sym, ap, subst}
use Rattle.std.specs.Prelude.{Option}
use Rattle.std.specs.List.{AllZip, AllByRecursion}
use Rattle.cdc_outside.specs.declared.disk_file.DiskFile.{DiskFile}
use Rattle.cdc_outside.specs.Disk.{Image, Change}
use Rattle.cdc_dumper.specs.Opening.{IsFound}
use Rattle.cdc_dumper.specs.State.{DumperState}
use Rattle.cdc_cell.specs.declared.cell.Cell.{Cell}
use Rattle.cdc_records.specs.declared.checkpoint.Checkpoint.{Checkpoint}
use Rattle.cdc_records.specs.declared.front.Front.{Front}
use Rattle.cdc_task.specs.declared.start.Start.{Start}
use Rattle.cdc_task.specs.declared.start.Start.TheVariants.{Cut}
use Rattle.cdc_task.specs.Task.{GoesOnFrom, IsOpened}
use Rattle.cdc_opening.specs.Answers.{published_counts, used_point, GoesOnBy, TaskOpens}
use Rattle.cdc_opening.specs.Lists.{AllThree}
use Rattle.cdc_opening.specs.OpenOuts.{IsOutOpened, CanOpen}
use Rattle.cdc_opening.proofs.Zips.{zip_first}

-- what holds of the first two of each three, the first seen by a function
three_seen : {A B C X : Type 0} (R : A → B → C → Type 0) (f : A → X) (S : X → B → Type 0) → ((a : A) (b : B) (c : C) → R a b c → S (f a) b)
    → (xs : List A) (ys : List B) (zs : List C) → AllThree R xs ys zs → AllZip S (map f xs) ys
three_seen R f S so [] [] [] all = tt
three_seen R f S so [] [] (z ∷ zs) all = absurd all
three_seen R f S so [] (y ∷ ys) zs all = absurd all
three_seen R f S so (x ∷ xs) [] zs all = absurd all
three_seen R f S so (x ∷ xs) (y ∷ ys) [] all = absurd all
three_seen R f S so (x ∷ xs) (y ∷ ys) (z ∷ zs) all = (so x y z all.0, three_seen R f S so xs ys zs all.1)

-- the second ones of pairs seen by a function
zip_right : {A B C : Type 0} (g : B → C) (R : A → B → Type 0) (S : A → C → Type 0) → ((a : A) (b : B) → R a b → S a (g b)) → (xs : List A) (ys : List B) → AllZip R xs ys → AllZip S xs (map g ys)
zip_right g R S so [] [] all = tt
zip_right g R S so [] (y ∷ ys) all = absurd all
zip_right g R S so (x ∷ xs) [] all = absurd all
zip_right g R S so (x ∷ xs) (y ∷ ys) all = (so x y all.0, zip_right g R S so xs ys all.1)

counts_seen : (dumpers : List DumperState) → map (λ (front : Front). front.count) (map (λ (dumper : DumperState). dumper.published) dumpers) ≡ published_counts dumpers
counts_seen [] = refl
counts_seen (dumper ∷ dumpers) = ap (λ (counts : List ℕ). dumper.published.count ∷ counts) (counts_seen dumpers)

module _ {D : Type 0} (told : Bool) (seen synced : D → Image) (pending : D → DiskFile → List Change) where
  -- each dumper has the Front of what was seen
  pub fronts_found : IsTrue told → (olds : List D) (dumpers : List DumperState) (news : List D) → AllThree (IsOutOpened told seen synced pending) olds dumpers news
      → AllZip (λ (image : Image) (dumper : DumperState). IsFound image dumper.published) (map seen olds) dumpers
  fronts_found is olds dumpers news all =
      three_seen (IsOutOpened told seen synced pending) seen (λ (image : Image) (dumper : DumperState). IsFound image dumper.published) (λ a b c o. o.found is) olds dumpers news all

  -- all outputs can be opened
  pub all_open : (olds : List D) (dumpers : List DumperState) (news : List D) → AllThree (IsOutOpened told seen synced pending) olds dumpers news → IsTrue told → AllByRecursion CanOpen (map seen olds)
  all_open olds dumpers news all is =
      zip_first (λ (image : Image) (dumper : DumperState). IsFound image dumper.published) CanOpen (λ image dumper found. record { front = dumper.published; found = found }) (map seen olds) dumpers (fronts_found is olds dumpers news all)

  -- a pass goes on from what was used
  pub goes_on : IsTrue told → (olds : List D) (dumpers : List DumperState) (news : List D) (task : Image) (nodes rotation : ℕ) (cell : Cell) (kept : Option Checkpoint) (start : Start)
      → AllThree (IsOutOpened told seen synced pending) olds dumpers news → IsOpened task nodes rotation cell kept → ((start ≡ Cut) ↔ GoesOnFrom kept (published_counts dumpers))
      → GoesOnBy (map seen olds) task (used_point start kept)
  goes_on is olds dumpers news task nodes rotation cell kept start all opened starts = record {
    fronts = map (λ (dumper : DumperState). dumper.published) dumpers;
    found = zip_right (λ (dumper : DumperState). dumper.published) (λ (image : Image) (dumper : DumperState). IsFound image dumper.published) IsFound (λ image dumper found. found) (map seen olds) dumpers (fronts_found is olds dumpers news all);
    kept = kept;
    has = opened.has;
    start = start;
    starts = subst (λ (counts : List ℕ). (start ≡ Cut) ↔ GoesOnFrom kept counts) (sym (counts_seen dumpers)) starts;
    used_is = refl;
  }

-- a task that was opened can be
pub task_opens : (task : Image) (nodes rotation : ℕ) (cell : Cell) (kept : Option Checkpoint) → IsOpened task nodes rotation cell kept → TaskOpens task nodes rotation
task_opens task nodes rotation cell kept opened = record { kept = kept; has = opened.has; fits = opened.fits }
