-- Reading a list item by item.
use Rattle.std.proofs.Common.{◌≡◌, ℕ, ◌<◌, ◌≤◌, List, [], ◌∷◌, ◌++◌, length, length-append, append_assoc, append-nil, ap, sym, subst, refl, ◌∙◌, arith}
use Rattle.std.specs.List.{AllByRecursion, flat_map}
use Rattle.cdc_base.specs.declared.xid.Xid.{Xid}
use Rattle.cdc_event.specs.Number.{low_first}
use Rattle.cdc_event.proofs.Numbers.{length_low_first}
use Rattle.cdc_model.specs.Restart.{RestartPoint}
use Rattle.cdc_records.specs.Checkpoint.{counted_id, held_bytes, held_list_bytes, cut_bytes}
use Rattle.cdc_task.specs.Reading.{ReadsFront}

-- where the whole bytes are a list of so many items, the items read so far begin it, and the bytes that are left are the others'
pub record ReadsOn {X : Type 0} (bytes_of : X → List ℕ) (Fits : X → Type 0) (count : ℕ) (whole : List ℕ) (list : List X) (left : List ℕ) : Type 0 where
  pub on : (all : List X) (rest : List ℕ) → AllByRecursion Fits all → length all ≡ count → whole ≡ flat_map bytes_of all ++ rest
      → (tail : List X) × (all ≡ list ++ tail) × (left ≡ flat_map bytes_of tail ++ rest)

pub reads_none : {X : Type 0} (bytes_of : X → List ℕ) (Fits : X → Type 0) (count : ℕ) (whole : List ℕ) → ReadsOn bytes_of Fits count whole [] whole
reads_none bytes_of Fits count whole = record { on = λ all rest fits size e. (all, refl, e) }

-- the facts of the items behind some
pub all_behind : {X : Type 0} (P : X → Type 0) (front back : List X) → AllByRecursion P (front ++ back) → AllByRecursion P back
all_behind P [] back all = all
all_behind P (x ∷ front) back all = all_behind P front back all.1

pub reads_more : {X : Type 0} (bytes_of : X → List ℕ) (Fits : X → Type 0) (count : ℕ) (whole : List ℕ) (list : List X) (left : List ℕ) (item : X) (behind : List ℕ)
    → length list < count → ReadsFront bytes_of Fits left item behind → ReadsOn bytes_of Fits count whole list left → ReadsOn bytes_of Fits count whole (list ++ item ∷ []) behind
reads_more {X} bytes_of Fits count whole list left item behind below reads so_far = record { on = step }
  where
    more : (all : List X) (rest : List ℕ) → AllByRecursion Fits all → length all ≡ count → (tail : List X) → all ≡ list ++ tail → left ≡ flat_map bytes_of tail ++ rest
        → (further : List X) × (all ≡ (list ++ item ∷ []) ++ further) × (behind ≡ flat_map bytes_of further ++ rest)
    more all rest fits size [] split e = absurd (omega (arith, size, ap length split, length-append list []))
    more all rest fits size (x ∷ further) split e =
        let own : AllByRecursion Fits (x ∷ further) = all_behind Fits list (x ∷ further) (subst (AllByRecursion Fits) split fits) in
        let same = reads x (flat_map bytes_of further ++ rest) own.0 (e ∙ append_assoc (bytes_of x) (flat_map bytes_of further) rest) in
        let is : all ≡ (list ++ item ∷ []) ++ further =
        split ∙ (ap (λ (y : X). list ++ y ∷ further) (sym same.0) ∙ sym (append_assoc list (item ∷ []) further)) in
        (further, is, same.1)

    step : (all : List X) (rest : List ℕ) → AllByRecursion Fits all → length all ≡ count → whole ≡ flat_map bytes_of all ++ rest
        → (further : List X) × (all ≡ (list ++ item ∷ []) ++ further) × (behind ≡ flat_map bytes_of further ++ rest)
    step all rest fits size e =
        let had = so_far.on all rest fits size e in more all rest fits size had.0 had.1 had.2

-- all items are read
pub reads_all : {X : Type 0} (bytes_of : X → List ℕ) (Fits : X → Type 0) (count : ℕ) (whole : List ℕ) (list : List X) (left : List ℕ)
    → count ≤ length list → ReadsOn bytes_of Fits count whole list left
    → (all : List X) (rest : List ℕ) → AllByRecursion Fits all → length all ≡ count → whole ≡ flat_map bytes_of all ++ rest → (list ≡ all) × (left ≡ rest)
reads_all {X} bytes_of Fits count whole list left enough so_far all rest fits size e =
    let had = so_far.on all rest fits size e in by had.0 had.1 had.2
  where
    by : (tail : List X) → all ≡ list ++ tail → left ≡ flat_map bytes_of tail ++ rest → (list ≡ all) × (left ≡ rest)
    by [] split is = (sym (split ∙ append-nil list), is)
    by (x ∷ tail) split is = absurd (omega (arith, size, ap length split, length-append list (x ∷ tail)))

-- bytes that end before all items are read are of no such list
pub reads_short : {X : Type 0} (bytes_of : X → List ℕ) (Fits : X → Type 0) → ((x : X) → 1 ≤ length (bytes_of x)) → (count : ℕ) (whole : List ℕ) (list : List X) (left : List ℕ)
    → length list < count → length left ≡ 0 → ReadsOn bytes_of Fits count whole list left
    → (all : List X) (rest : List ℕ) → AllByRecursion Fits all → length all ≡ count → whole ≡ flat_map bytes_of all ++ rest → ⊥
reads_short {X} bytes_of Fits some count whole list left below none so_far all rest fits size e =
    let had = so_far.on all rest fits size e in by had.0 had.1 had.2
  where
    by : (tail : List X) → all ≡ list ++ tail → left ≡ flat_map bytes_of tail ++ rest → ⊥
    by [] split is = omega (arith, size, ap length split, length-append list [])
    by (x ∷ tail) split is =
        omega (arith, some x, none, ap length is, length-append (flat_map bytes_of (x ∷ tail)) rest, length-append (bytes_of x) (flat_map bytes_of tail))

-- a held branch has some bytes, and so has a point
pub held_some : (held : Xid × ℕ) → 1 ≤ length (held_bytes held)
held_some held =
    omega (arith, length_low_first 8 held.1, length-append (low_first 8 held.1) (low_first 4 held.0.format ++ (counted_id held.0.gtrid ++ counted_id held.0.bqual)))

pub cut_some : (point : RestartPoint) → 1 ≤ length (cut_bytes point)
cut_some point =
    omega (arith, length_low_first 8 point.entry, length-append (low_first 8 point.entry) (low_first 4 point.place.file ++ (low_first 8 point.place.at ++ (low_first 8 point.mark ++ (point.checksum ∷ held_list_bytes point.held)))))
