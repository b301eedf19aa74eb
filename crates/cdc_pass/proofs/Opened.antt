-- What stands behind an opening, for the windows.
use Rattle.std.proofs.Common.{◌≡◌, ℕ, zero, suc, ◌-◌, ◌^◌, ◌<◌, ◌≤◌, IsTrue, List, [], ◌∷◌, length, map, get_or, Option, Some, None, refl, sym, ◌∙◌, ap, subst, arith}
use Rattle.std.specs.Prelude.{sum, IfSome}
use Rattle.std.specs.List.{AllZip, AllByRecursion}
use Rattle.std.proofs.lemmas.List.{length-map}
use Rattle.std.proofs.lemmas.List.Sums.{sum_by-cons}
use Rattle.cdc_base.specs.declared.place.Place.{Place}
use Rattle.cdc_outside.specs.Count.{Rose}
use Rattle.cdc_outside.specs.Source.{size_of}
use Rattle.cdc_model.specs.Restart.{RestartPoint, first_point}
use Rattle.cdc_records.specs.declared.checkpoint.Checkpoint.{Checkpoint}
use Rattle.cdc_records.specs.Checkpoint.{IsCut, IsPoint}
use Rattle.cdc_dumper.specs.State.{DumperState}
use Rattle.cdc_dump_stage.specs.Disks.{DiskWords}
use Rattle.cdc_base.specs.Key.{first_key}
use Rattle.cdc_model.specs.Output.{no_output, layout_in}
use Rattle.cdc_kept.specs.Kept.{PassStart, start_of_pass}
use Rattle.cdc_task.specs.declared.start.Start.{Start}
use Rattle.cdc_task.specs.declared.start.Start.TheVariants.{First, Cut}
use Rattle.cdc_task.specs.Task.{FitsPlan}
use Rattle.cdc_node_stage.specs.Job.{SourceWords}
use Rattle.cdc_opening.specs.Answers.{used_point}
use Rattle.cdc_opening.specs.Lists.{AllThree, DeviceRoseAt}
use Rattle.cdc_opening.specs.OpenOuts.{IsOutOpened}
use Rattle.cdc_opening.specs.OpenSources.{CanReadFrom, IsSourceKept}
use Rattle.cdc_windows.specs.Jobs.{IsReadyOut}
use Rattle.cdc_headline.specs.Running.{KeepsSource}
use Rattle.cdc_pass.specs.Starting.{IsClear}
use Rattle.cdc_pass.proofs.Listing.{same_many}

-- outputs that were opened are ready, where nothing stands behind the file that follows their Fronts
pub outs_ready : {D : Type 0} (w : DiskWords D) (olds : List D) (dumpers : List DumperState) (news : List D) → AllThree (IsOutOpened w.tells w.seen w.synced w.pending) olds dumpers news
    → (IsTrue w.tells → AllByRecursion (λ (disk : D). IsClear (w.seen disk)) olds) → AllZip (IsReadyOut w) dumpers news
outs_ready w [] [] [] opened clear = tt
outs_ready w [] [] (n ∷ news) opened clear = absurd opened
outs_ready w [] (d ∷ dumpers) news opened clear = absurd opened
outs_ready w (o ∷ olds) [] news opened clear = absurd opened
outs_ready w (o ∷ olds) (d ∷ dumpers) [] opened clear = absurd opened
outs_ready w (o ∷ olds) (d ∷ dumpers) (n ∷ news) opened clear = (
  record {
    works = opened.0.works;
    settled = opened.0.settled;
    stands = λ told. opened.0.stands told ((clear told).0 d.published (opened.0.found told));
  },
  outs_ready w olds dumpers news opened.1 (λ told. (clear told).1),
)

-- as many dumpers as outputs
pub dumpers_long : {A B C : Type 0} (R : A → B → C → Type 0) (xs : List A) (ys : List B) (zs : List C) → AllThree R xs ys zs → length ys ≡ length zs
dumpers_long R [] [] [] all = refl
dumpers_long R [] [] (z ∷ zs) all = absurd all
dumpers_long R [] (y ∷ ys) zs all = absurd all
dumpers_long R (x ∷ xs) [] zs all = absurd all
dumpers_long R (x ∷ xs) (y ∷ ys) [] all = absurd all
dumpers_long R (x ∷ xs) (y ∷ ys) (z ∷ zs) all = let e = dumpers_long R xs ys zs all.1 in omega (arith, e)

-- pairs are as many on both sides
pub zip_long : {A B : Type 0} (R : A → B → Type 0) (xs : List A) (ys : List B) → AllZip R xs ys → length xs ≡ length ys
zip_long R [] [] all = refl
zip_long R [] (y ∷ ys) all = absurd all
zip_long R (x ∷ xs) [] all = absurd all
zip_long R (x ∷ xs) (y ∷ ys) all = let e = zip_long R xs ys all.1 in omega (arith, e)

-- ---- counts over an opening and windows

-- a count that rose rose from a lower one too
pub rose_from : (a b c : ℕ) → a ≤ b → Rose b c → Rose a c
rose_from a b c le rose = omega (arith, le, rose)

-- a count at a place doesn't fall
later_at : {A : Type 0} (faults : A → ℕ) (R : A → A → Type 0) → ((old new : A) → R old new → faults old ≤ faults new) → (olds news : List A) (k : ℕ) → AllZip R olds news → get_or (map faults olds) k 0 ≤ get_or (map faults news) k 0
later_at faults R so [] [] k all = omega arith
later_at faults R so [] (n ∷ news) k all = absurd all
later_at faults R so (o ∷ olds) [] k all = absurd all
later_at faults R so (o ∷ olds) (n ∷ news) zero all = so o n all.0
later_at faults R so (o ∷ olds) (n ∷ news) (suc k) all = later_at faults R so olds news k all.1

-- a count that rose behind an opening, which lets none fall, rose since before it
pub rose_since : {A : Type 0} (faults : A → ℕ) (R : A → A → Type 0) → ((old new : A) → R old new → faults old ≤ faults new) → (olds mids news : List A) (number : ℕ) → AllZip R olds mids
    → DeviceRoseAt (map faults mids) (map faults news) number → DeviceRoseAt (map faults olds) (map faults news) number
rose_since faults R so olds mids news number all rose = record {
  first = rose.first;
  last = let a = zip_long R olds mids all in let b = length-map olds faults in let c = length-map mids faults in let d = rose.last in omega (arith, a, b, c, d);
  rose = rose_from (get_or (map faults olds) (number - 1) 0) (get_or (map faults mids) (number - 1) 0) (get_or (map faults news) (number - 1) 0) (later_at faults R so olds mids (number - 1) all) rose.rose;
}

-- ---- points

-- a number is at most the sum of all
size_in : (sizes : List ℕ) (k : ℕ) → get_or sizes k 0 ≤ sum sizes
size_in [] k = omega arith
size_in (x ∷ sizes) zero = let cons = sum_by-cons (λ (n : ℕ). n) x sizes in omega (arith, cons)
size_in (x ∷ sizes) (suc k) = let cons = sum_by-cons (λ (n : ℕ). n) x sizes in let le = size_in sizes k in omega (arith, cons, le)

-- a byte of a file is small, and so is the start of a log
at_small : (entry at size total : ℕ) → 1 ≤ entry → (entry ≡ 1 → at ≡ 0) → (1 < entry → at ≤ size) → size ≤ total → total ≤ 2 ^ 54 → at < 2 ^ 63
at_small zero at size total numbered start within le limit = absurd (omega (arith, numbered))
at_small (suc zero) at size total numbered start within le limit = let e : at ≡ 0 = start refl in omega (arith, e)
at_small (suc (suc n)) at size total numbered start within le limit = let e : at ≤ size = within (omega arith) in omega (arith, e, le, limit)

-- a point that can be read from is at a byte of a file
point_small : (sizes : List ℕ) (cut : RestartPoint) → sum sizes ≤ 2 ^ 54 → IsCut cut → CanReadFrom sizes cut → cut.place.at < 2 ^ 63
point_small sizes cut limit is can =
    at_small cut.entry cut.place.at (size_of sizes cut.place.file) (sum sizes) is.numbered (λ one. ap (λ (c : RestartPoint). c.place.at) (is.from_start one)) can.at (size_in sizes (cut.place.file - 1)) limit

-- all points that can be read from are
points_small : {S : Type 0} (sizes : S → List ℕ) → ((source : S) → sum (sizes source) ≤ 2 ^ 54) → (nodes : List S) (cuts : List RestartPoint) → AllByRecursion IsCut cuts → AllZip (λ (source : S) (cut : RestartPoint). CanReadFrom (sizes source) cut) nodes cuts
    → AllByRecursion (λ (cut : RestartPoint). cut.place.at < 2 ^ 63) cuts
points_small sizes limit [] [] are can = tt
points_small sizes limit [] (c ∷ cuts) are can = absurd can
points_small sizes limit (n ∷ nodes) [] are can = absurd can
points_small sizes limit (n ∷ nodes) (c ∷ cuts) are can = (point_small (sizes n) c (limit n) are.0 can.0, points_small sizes limit nodes cuts are.1 can.1)

-- the start of a log is a point
first_is_cut : IsCut first_point
first_is_cut = record { numbered = omega arith; placed = omega arith; in_order = tt; from_start = λ one. refl }

-- all starts are points
firsts_are_cuts : {N : Type 0} (nodes : List N) → AllByRecursion IsCut (map (λ _. first_point) nodes)
firsts_are_cuts [] = tt
firsts_are_cuts (n ∷ nodes) = (first_is_cut, firsts_are_cuts nodes)

-- all starts are at the first byte
firsts_small : {N : Type 0} (nodes : List N) → AllByRecursion (λ (cut : RestartPoint). cut.place.at < 2 ^ 63) (map (λ _. first_point) nodes)
firsts_small [] = tt
firsts_small (n ∷ nodes) = (omega arith, firsts_small nodes)

-- the points of a start are points of nodes
pub start_cuts : {N : Type 0} (nodes : List N) (used : Option Checkpoint) → IfSome used IsPoint → AllByRecursion IsCut (start_of_pass nodes used).points
start_cuts nodes None sound = firsts_are_cuts nodes
start_cuts nodes (Some p) sound = sound.cuts

-- at bytes of files
pub start_small : {S : Type 0} (sizes : S → List ℕ) → ((source : S) → sum (sizes source) ≤ 2 ^ 54) → (nodes : List S) (used : Option Checkpoint) → IfSome used IsPoint
    → IfSome used (λ (point : Checkpoint). AllZip (λ (source : S) (cut : RestartPoint). CanReadFrom (sizes source) cut) nodes point.nodes) → AllByRecursion (λ (cut : RestartPoint). cut.place.at < 2 ^ 63) (start_of_pass nodes used).points
start_small sizes limit nodes None sound can = firsts_small nodes
start_small sizes limit nodes (Some p) sound can = points_small sizes limit nodes p.nodes sound.cuts can

-- one a node
pub start_long : {N : Type 0} (nodes : List N) (rotation : ℕ) (used : Option Checkpoint) → FitsPlan (length nodes) rotation used → length (start_of_pass nodes used).points ≡ length nodes
start_long nodes rotation None fits = length-map nodes (λ _. first_point)
start_long nodes rotation (Some p) fits = fits.0

-- what holds of a kept checkpoint holds of the one that is used
pub used_holds : (P : Checkpoint → Type 0) (start : Start) (kept : Option Checkpoint) → IfSome kept P → IfSome (used_point start kept) P
used_holds P First kept holds = tt
used_holds P Cut kept holds = holds

-- what is used fits the plan
pub used_fits : (nodes rotation : ℕ) (start : Start) (kept : Option Checkpoint) → FitsPlan nodes rotation kept → FitsPlan nodes rotation (used_point start kept)
used_fits nodes rotation First kept fits = tt
used_fits nodes rotation Cut kept fits = fits

-- the start of a pass without a checkpoint, at these points
abbrev start_with : List RestartPoint → PassStart
start_with points = record { count = 0; last = first_key; before = layout_in no_output; points = points }

-- the start of as many nodes is the same
pub same_start : {N M : Type 0} (nodes : List N) (others : List M) (used : Option Checkpoint) → length nodes ≡ length others → start_of_pass nodes used ≡ start_of_pass others used
same_start nodes others None long = ap (λ (points : List RestartPoint). start_with points) (same_many first_point nodes others long)
same_start nodes others (Some p) long = refl

-- ---- what an opening leaves of sources

-- sources hold what they held and were asked for nothing
pub sources_kept : {S : Type 0} (s : SourceWords S) (highest : S → Option Place) (olds news : List S) → AllZip (IsSourceKept s.held s.sizes s.lowest highest s.faults) olds news → AllZip (KeepsSource s) olds news
sources_kept s highest [] [] all = tt
sources_kept s highest [] (n ∷ news) all = absurd all
sources_kept s highest (o ∷ olds) [] all = absurd all
sources_kept s highest (o ∷ olds) (n ∷ news) all = (record { held = all.0.holds; lowest = all.0.least; later = all.0.later }, sources_kept s highest olds news all.1)

-- so they hold the same bytes
pub sources_held : {S : Type 0} (s : SourceWords S) (olds news : List S) → AllZip (KeepsSource s) olds news → map s.held news ≡ map s.held olds
sources_held s [] [] all = refl
sources_held s [] (n ∷ news) all = absurd all
sources_held s (o ∷ olds) [] all = absurd all
sources_held s (o ∷ olds) (n ∷ news) all = ap (λ files. files ∷ map s.held news) all.0.held ∙ ap (λ rest. s.held o ∷ rest) (sources_held s olds news all.1)

-- points that could be read from still can be
pub still_can : {S : Type 0} (held : S → List (List ℕ)) (sizes : S → List ℕ) (lowest highest : S → Option Place) (faults : S → ℕ) (olds news : List S) (cuts : List RestartPoint)
    → AllZip (IsSourceKept held sizes lowest highest faults) olds news → AllZip (λ (source : S) (cut : RestartPoint). CanReadFrom (sizes source) cut) olds cuts → AllZip (λ (source : S) (cut : RestartPoint). CanReadFrom (sizes source) cut) news cuts
still_can held sizes lowest highest faults [] [] [] all can = tt
still_can held sizes lowest highest faults [] [] (c ∷ cuts) all can = absurd can
still_can held sizes lowest highest faults [] (n ∷ news) cuts all can = absurd all
still_can held sizes lowest highest faults (o ∷ olds) [] cuts all can = absurd all
still_can held sizes lowest highest faults (o ∷ olds) (n ∷ news) [] all can = absurd can
still_can held sizes lowest highest faults (o ∷ olds) (n ∷ news) (c ∷ cuts) all can =
    (subst (λ (list : List ℕ). CanReadFrom list c) (sym all.0.sized) can.0, still_can held sizes lowest highest faults olds news cuts all.1 can.1)

-- so can those of the checkpoint that is used
pub used_can : {S : Type 0} (held : S → List (List ℕ)) (sizes : S → List ℕ) (lowest highest : S → Option Place) (faults : S → ℕ) (olds news : List S) (used : Option Checkpoint) → AllZip (IsSourceKept held sizes lowest highest faults) olds news
    → IfSome used (λ (point : Checkpoint). AllZip (λ (source : S) (cut : RestartPoint). CanReadFrom (sizes source) cut) olds point.nodes) → IfSome used (λ (point : Checkpoint). AllZip (λ (source : S) (cut : RestartPoint). CanReadFrom (sizes source) cut) news point.nodes)
used_can held sizes lowest highest faults olds news None all can = tt
used_can held sizes lowest highest faults olds news (Some p) all can = still_can held sizes lowest highest faults olds news p.nodes all can
