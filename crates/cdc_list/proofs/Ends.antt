-- How a listing ends, seen from where it began.
use Rattle.std.proofs.Common.{◌≡◌, ℕ, ◌+◌, ◌-◌, ◌<◌, ◌^◌, Bool, IsTrue, List, [], ◌∷◌, ◌++◌, length, map, take, get_or, ap, sym, refl, ◌∙◌, subst, inl, inr, arith}
use Rattle.std.proofs.Math.ListN.{set}
use Rattle.std.proofs.lemmas.List.{length-map, map-set, get_or-map, get_or-set_same, take_more}
use Rattle.std.specs.List.{AllZip}
use Rattle.cdc_outside.specs.Count.{Rose}
use Rattle.cdc_outside.specs.Disk.{Image}
use Rattle.cdc_records.specs.declared.front.Front.{Front}
use Rattle.cdc_dumper.specs.declared.fault.OpenFault.{OpenFault}
use Rattle.cdc_dumper.specs.declared.fault.OpenFault.TheVariants.{DiskFault}
use Rattle.cdc_dumper.specs.Opening.{IsFound, IsFrontOrNone, IsOpenFault}
use Rattle.cdc_list.specs.declared.out_lines.OutStop.{OutStop}
use Rattle.cdc_list.specs.declared.out_lines.OutStop.TheVariants as stop
use Rattle.cdc_list.specs.declared.list_end.ListEnd.{ListEnd}
use Rattle.cdc_list.specs.declared.list_end.ListEnd.TheVariants.{Done, Unopened, Disk, Memory, Sink}
use Rattle.cdc_list.specs.Listing.{image_of, AllLater, OutRose, IsOpenable, AreOpenable, IsUnopened, IsStopped}
use Rattle.cdc_list.proofs.Zips.{later_at, zip_at, zip_push}

-- the out at an index, counted from 1
place_of : (index : ℕ) → index + 1 - 1 ≡ index
place_of index = omega arith

-- its content
pub content_is : (images : List Image) (index : ℕ) → image_of images (index + 1) ≡ get_or images index (λ file. [])
content_is images index = ap (λ (n : ℕ). get_or images n (λ file. [])) (place_of index)

pub content_at : {D : Type 0} (shows : D → Image) (outs : List D) (index : ℕ) (disk : D) → index < length outs → disk ≡ get_or outs index disk
    → image_of (map shows outs) (index + 1) ≡ shows disk
content_at shows outs index disk below is =
    content_is (map shows outs) index ∙ (get_or-map shows outs index disk (λ file. []) below ∙ ap shows (sym is))

-- its count rose
pub rose_at : {D : Type 0} (faults : D → ℕ) (outs : List D) (index : ℕ) (old new : D) → index < length outs → old ≡ get_or outs index old → Rose (faults old) (faults new)
    → OutRose (map faults outs) (map faults (set outs index new)) (index + 1)
rose_at faults outs index old new below is rose =
    let before : get_or (map faults outs) index 0 ≡ faults old = get_or-map faults outs index old 0 below ∙ ap faults (sym is) in
    let inside : index < length (map faults outs) = rw length-map below in
    let now : get_or (map faults (set outs index new)) index 0 ≡ faults new = rw map-set (get_or-set_same (map faults outs) index (faults new) 0 inside) in
    let here : Rose (get_or (map faults outs) index 0) (get_or (map faults (set outs index new)) index 0) = omega (arith, before, now, rose) in
    record {
      first = omega arith;
      last = omega (arith, inside);
      rose = subst (λ (n : ℕ). Rose (get_or (map faults outs) n 0) (get_or (map faults (set outs index new)) n 0)) (sym (place_of index)) here;
    }

-- a count that rose later rose
pub rose_since : {D : Type 0} (faults : D → ℕ) (olds mids : List D) (now : List ℕ) (out : ℕ) → AllLater faults olds mids → length mids ≡ length olds
    → OutRose (map faults mids) now out → OutRose (map faults olds) now out
rose_since faults olds mids now out later many rose =
    let less = later_at faults olds mids (out - 1) later in
    let a : length (map faults olds) ≡ length olds = length-map olds faults in
    let b : length (map faults mids) ≡ length mids = length-map mids faults in
    record { first = rose.first; last = omega (arith, rose.last, a, b, many); rose = omega (arith, rose.rose, less) }

-- so an end seen later is one
pub stopped_since : {D : Type 0} (told : Bool) (shows : D → Image) (faults : D → ℕ) (olds mids : List D) (now : List ℕ) (end : ListEnd)
    → AllLater faults olds mids → length mids ≡ length olds → (IsTrue told → map shows mids ≡ map shows olds)
    → IsStopped told (map shows mids) (map faults mids) now end → IsStopped told (map shows olds) (map faults olds) now end
stopped_since told shows faults olds mids now Done later many same stop = absurd stop
stopped_since told shows faults olds mids now (Unopened out fault) later many same stop =
    let a : length (map shows olds) ≡ length olds = length-map olds shows in
    let b : length (map shows mids) ≡ length mids = length-map mids shows in
    record {
      first = stop.first;
      last = omega (arith, stop.last, a, b, many);
      failed = λ is. rose_since faults olds mids now out later many (stop.failed is);
      refused = λ t. subst (λ (images : List Image). IsOpenFault (image_of images out) fault) (same t) (stop.refused t);
      lesser = λ t other first below. subst (λ (images : List Image). IsOpenable (image_of images other)) (same t) (stop.lesser t other first below);
    }
stopped_since told shows faults olds mids now (Disk out) later many same stop =
    (rose_since faults olds mids now out later many stop.0, λ t. subst (λ (images : List Image). AreOpenable images) (same t) (stop.1 t))
stopped_since told shows faults olds mids now Memory later many same stop = tt
stopped_since told shows faults olds mids now Sink later many same stop = absurd stop

-- the least out that can't be opened
pub unopened : (told : Bool) (images : List Image) (before now : List ℕ) (index : ℕ) (fronts : List Front) (fault : OpenFault)
    → index < length images → (fault ≡ DiskFault → OutRose before now (index + 1)) → (IsTrue told → IsOpenFault (image_of images (index + 1)) fault)
    → (IsTrue told → AllZip IsFound (take index images) fronts) → IsUnopened told images before now (index + 1) fault
unopened told images before now index fronts fault below failed refused found = record {
  first = omega arith;
  last = omega (arith, below);
  failed = failed;
  refused = refused;
  lesser = λ t other first less. zip_at IsFound images fronts index (other - 1) (λ file. []) (found t) (omega (arith, first, less)) (omega (arith, below));
}

-- an out at which a listing stops
pub stopped_by : (told : Bool) (images : List Image) (before now : List ℕ) (out : ℕ) (why : OutStop) (end : ListEnd)
    → (why ≡ stop.Disk → end ≡ Disk out) → (why ≡ stop.Memory → end ≡ Memory) → (why ≡ stop.Disk → OutRose before now out) → (IsTrue told → AreOpenable images)
    → IsStopped told images before now end
stopped_by told images before now out stop.Disk end disk memory rose all =
    subst (λ (e : ListEnd). IsStopped told images before now e) (sym (disk refl)) (rose refl, all)
stopped_by told images before now out stop.Memory end disk memory rose all =
    subst (λ (e : ListEnd). IsStopped told images before now e) (sym (memory refl)) tt

-- a Front's file is far from the greatest number
pub front_is_near : (f : Front) → IsFrontOrNone f → f.file < 2 ^ 63
front_is_near f (inl none) = let zero_file : f.file ≡ 0 = ap (λ (g : Front). g.file) none in omega (arith, zero_file)
front_is_near f (inr sound) = omega (arith, sound.most, sound.within)

-- one content more
pub content_next : (images : List Image) (index : ℕ) (fronts : List Front) (front : Front) → index < length images → AllZip IsFound (take index images) fronts
    → IsFound (image_of images (index + 1)) front → AllZip IsFound (take (index + 1) images) (fronts ++ front ∷ [])
content_next images index fronts front below found one =
    let here : IsFound (get_or images index (λ file. [])) front = subst (λ (n : ℕ). IsFound (get_or images n (λ file. [])) front) (place_of index) one in
    subst (λ (l : List Image). AllZip IsFound l (fronts ++ front ∷ [])) (sym (take_more images index (λ file. []) below))
    (zip_push IsFound (take index images) fronts (get_or images index (λ file. [])) front found here)
