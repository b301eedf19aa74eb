-- Where each out can be opened and no device failed, all is listed; and contents have one text.
use Rattle.std.proofs.Common.{◌≡◌, ℕ, zero, suc, ◌-◌, ◌<◌, List, [], ◌∷◌, length, get_or, Option, Some, None, ap, sym, refl, ◌∙◌, subst, inl, inr, arith}
use Rattle.std.specs.Prelude.{MatchOption}
use Rattle.std.specs.List.{AllZip}
use Rattle.cdc_outside.specs.declared.disk_file.DiskFile.{DiskFile}
use Rattle.cdc_outside.specs.declared.disk_file.DiskFile.TheVariants.{Log}
use Rattle.cdc_outside.specs.Disk.{Image}
use Rattle.cdc_cell.specs.Record.{CellRecord, kept_record}
use Rattle.cdc_records.specs.declared.front.Front.{Front}
use Rattle.cdc_records.specs.Front.{no_front, IsFrontRecord, HasFront}
use Rattle.cdc_recovery.specs.Laws.{ImageHasOneFront}
use Rattle.cdc_dumper.specs.declared.fault.OpenFault.{OpenFault}
use Rattle.cdc_dumper.specs.declared.fault.OpenFault.TheVariants.{DiskFault, BadCell, BadFront}
use Rattle.cdc_dumper.specs.Opening.{IsFound, IsRefused, IsOpenFault}
use Rattle.cdc_list.specs.declared.list_end.ListEnd.TheVariants.{Done, Unopened, Disk, Memory, Sink}
use Rattle.cdc_list.specs.Lines.{listed_outs, listing_text}
use Rattle.cdc_list.specs.Listing.{image_of, IsOpenable, AreOpenable, ListIsComplete, ListingIsOne}

-- a record that is a Front's isn't none
record_is_front : (kept : Option CellRecord) (found : CellRecord) (f : Front) → MatchOption kept (f ≡ no_front) (λ r. IsFrontRecord r f) → kept ≡ Some found → IsFrontRecord found f
record_is_front None found f has is = absurd (let e = is in cc)
record_is_front (Some r) found f has is = let same : r ≡ found = cc in subst (λ (x : CellRecord). IsFrontRecord x f) same has

-- a slot that is refused, and a Front
refused_has_none : (image : Image) (slot : DiskFile) (f : Front) → IsRefused image slot → HasFront image f → ⊥
refused_has_none image slot f (inl bad) has = absurd (let both : Some slot ≡ None = sym bad ∙ has.cell in cc)
refused_has_none image slot f (inr none) has = none.no_front f (record_is_front (kept_record image) none.found f has.kept none.kept)

-- so an image that can be opened is refused for nothing but its disk
pub openable_is : ImageHasOneFront → (image : Image) (fault : OpenFault) → IsOpenable image → IsOpenFault image fault → fault ≡ DiskFault
openable_is law image DiskFault found refused = refl
openable_is law image (BadCell slot) found refused = absurd (refused_has_none image slot found.0 refused found.1.has)
openable_is law image (BadFront kept there) found refused =
    let same : refused.front ≡ found.0 = law image refused.front found.0 refused.has found.1.has in
    let short : length (image (Log refused.front.file)) < refused.front.length = omega (arith, refused.said, refused.there, refused.short) in
    let less : length (image (Log found.0.file)) < found.0.length = subst (λ (f : Front). length (image (Log f.file)) < f.length) same short in
    absurd (omega (arith, less, found.1.whole))

-- each of several
pub openable_at : (images : List Image) (index : ℕ) → AreOpenable images → index < length images → IsOpenable (get_or images index (λ file. []))
openable_at [] index all below = absurd (omega (arith, below))
openable_at (image ∷ images) zero all below = all.0
openable_at (image ∷ images) (suc index) all below = openable_at images index all.1 (omega (arith, below))

pub list_is_complete : ImageHasOneFront → ListIsComplete
list_is_complete law told shown run Done ended t all none = inl refl
list_is_complete law told shown run (Unopened out fault) ended t all none =
    let stop = ended.0 in
    let found = openable_at run.images (out - 1) all (omega (arith, stop.first, stop.last)) in
    absurd (none.outs out (stop.failed (openable_is law (image_of run.images out) fault found (stop.refused t))))
list_is_complete law told shown run (Disk out) ended t all none = absurd (none.outs out ended.0.0)
list_is_complete law told shown run Memory ended t all none = inr refl
list_is_complete law told shown run Sink ended t all none = absurd (none.sink ended.0)

-- contents have one list of Fronts
one_list : ImageHasOneFront → (images : List Image) (fronts others : List Front) → AllZip IsFound images fronts → AllZip IsFound images others → fronts ≡ others
one_list law [] [] [] a b = refl
one_list law [] (f ∷ fronts) others a b = absurd a
one_list law [] [] (g ∷ others) a b = absurd b
one_list law (image ∷ images) [] others a b = absurd a
one_list law (image ∷ images) (f ∷ fronts) [] a b = absurd b
one_list law (image ∷ images) (f ∷ fronts) (g ∷ others) a b =
    let first : f ≡ g = law image f g a.0.has b.0.has in
    let rest : fronts ≡ others = one_list law images fronts others a.1 b.1 in
    λ i. first i ∷ rest i

pub listing_is_one : ImageHasOneFront → ListingIsOne
listing_is_one law images text other a b =
    a.is ∙ (ap (λ (fronts : List Front). listing_text (listed_outs fronts images)) (one_list law images a.fronts b.fronts a.found b.found) ∙ sym b.is)
