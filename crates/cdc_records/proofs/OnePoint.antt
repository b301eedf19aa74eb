-- Bytes are one checkpoint's: each field is told apart from what is behind it.
use Rattle.std.proofs.Common.{◌≡◌, ℕ, ◌<◌, ◌^◌, Bool, true, false, List, [], ◌∷◌, ◌++◌, length, append_assoc, append-nil, Option, Some, None, ap, sym, refl, ◌∙◌, arith}
use Rattle.std.specs.Prelude.{IfSome}
use Rattle.std.specs.List.{AllByRecursion, flat_map}
use Rattle.cdc_base.specs.declared.key.Key.{Key}
use Rattle.cdc_base.specs.declared.key.Key.TheVariants.{Shared, Plain}
use Rattle.cdc_base.specs.declared.xid.Xid.{Xid}
use Rattle.cdc_event.specs.Number.{low_first, number_of}
use Rattle.cdc_event.proofs.Numbers.{length_low_first, number_again}
use Rattle.cdc_event.proofs.FileReading.{one_front}
use Rattle.cdc_cell.specs.Record.{CellRecord, kept_record}
use Rattle.cdc_model.specs.declared.layout.Layout.{Layout}
use Rattle.cdc_model.specs.Restart.{RestartPoint}
use Rattle.cdc_records.specs.declared.checkpoint.Checkpoint.{Checkpoint}
use Rattle.cdc_records.specs.KeyBytes.{flag_byte, key_bytes, IsRecordKey}
use Rattle.cdc_records.specs.Checkpoint.{counted_id, held_bytes, held_list_bytes, cut_bytes, cut_list_bytes, layout_bytes, rotation_bytes, point_version, FitsHeld, FitsCut, IsKeptPoint, BytesAreOnePoint, ImageHasOnePoint}

-- ---- single fields

-- a number that fits its width
pub one_number : (width a b : ℕ) (rest more : List ℕ) → a < 256 ^ width → b < 256 ^ width → low_first width a ++ rest ≡ low_first width b ++ more → (a ≡ b) × (rest ≡ more)
one_number width a b rest more fits also e =
    let parts = one_front (low_first width a) (low_first width b) rest more (length_low_first width a ∙ sym (length_low_first width b)) e in
    (sym (number_again width a fits) ∙ (ap number_of parts.0 ∙ number_again width b also), parts.1)

-- a byte
pub one_byte : (a b : ℕ) (rest more : List ℕ) → a ∷ rest ≡ b ∷ more → (a ≡ b) × (rest ≡ more)
one_byte a b rest more e = let head : a ≡ b = cc in let tail : rest ≡ more = cc in (head, tail)

-- a flag
pub one_flag : (a b : Bool) → flag_byte a ≡ flag_byte b → a ≡ b
one_flag true true e = refl
one_flag false false e = refl
one_flag true false e = absurd (omega (arith, e))
one_flag false true e = absurd (omega (arith, e))

-- an id behind its length
pub one_id : (a b rest more : List ℕ) → counted_id a ++ rest ≡ counted_id b ++ more → (a ≡ b) × (rest ≡ more)
one_id a b rest more e =
    let parts = one_byte (length a) (length b) (a ++ rest) (b ++ more) e in
    one_front a b rest more parts.0 parts.1

-- a number and what is behind it, in front of more
pub one_in_front : (width a b : ℕ) (own other rest more : List ℕ) → a < 256 ^ width → b < 256 ^ width
    → (low_first width a ++ own) ++ rest ≡ (low_first width b ++ other) ++ more → (a ≡ b) × (own ++ rest ≡ other ++ more)
one_in_front width a b own other rest more fits also e =
    one_number width a b (own ++ rest) (other ++ more) fits also
    (sym (append_assoc (low_first width a) own rest) ∙ (e ∙ append_assoc (low_first width b) other more))

-- ---- keys

pub one_key : (a b : Key) (rest more : List ℕ) → IsRecordKey a → IsRecordKey b → key_bytes a ++ rest ≡ key_bytes b ++ more → (a ≡ b) × (rest ≡ more)
one_key (Shared t id) (Shared u other) rest more f g e =
    let time = one_in_front 8 t u (0 ∷ counted_id id) (0 ∷ counted_id other) rest more f.0 g.0 e in
    let class = one_byte 0 0 (counted_id id ++ rest) (counted_id other ++ more) time.1 in
    let same = one_id id other rest more class.1 in
    ((λ i. Shared (time.0 i) (same.0 i)), same.1)
one_key (Shared t id) (Plain u node entry) rest more f g e =
    let time = one_in_front 8 t u (0 ∷ counted_id id) (1 ∷ (low_first 4 node ++ low_first 8 entry)) rest more f.0 g.0 e in
    let class = one_byte 0 1 (counted_id id ++ rest) ((low_first 4 node ++ low_first 8 entry) ++ more) time.1 in
    absurd (omega (arith, class.0))
one_key (Plain t node entry) (Shared u id) rest more f g e =
    let time = one_in_front 8 t u (1 ∷ (low_first 4 node ++ low_first 8 entry)) (0 ∷ counted_id id) rest more f.0 g.0 e in
    let class = one_byte 1 0 ((low_first 4 node ++ low_first 8 entry) ++ rest) (counted_id id ++ more) time.1 in
    absurd (omega (arith, class.0))
one_key (Plain t node entry) (Plain u other later) rest more f g e =
    let time = one_in_front 8 t u (1 ∷ (low_first 4 node ++ low_first 8 entry)) (1 ∷ (low_first 4 other ++ low_first 8 later)) rest more f.0 g.0 e in
    let class = one_byte 1 1 ((low_first 4 node ++ low_first 8 entry) ++ rest) ((low_first 4 other ++ low_first 8 later) ++ more) time.1 in
    let node_is = one_in_front 4 node other (low_first 8 entry) (low_first 8 later) rest more f.1 g.1 class.1 in
    let entry_is = one_number 8 entry later rest more f.2 g.2 node_is.1 in
    ((λ i. Plain (time.0 i) (node_is.0 i) (entry_is.0 i)), entry_is.1)

-- ---- lists

-- as many items on both sides
pub one_list : {X : Type 0} (bytes : X → List ℕ) (Fits : X → Type 0)
    → ((a b : X) (rest more : List ℕ) → Fits a → Fits b → bytes a ++ rest ≡ bytes b ++ more → (a ≡ b) × (rest ≡ more))
    → (xs ys : List X) (rest more : List ℕ) → length xs ≡ length ys → AllByRecursion Fits xs → AllByRecursion Fits ys
    → flat_map bytes xs ++ rest ≡ flat_map bytes ys ++ more → (xs ≡ ys) × (rest ≡ more)
one_list bytes Fits one [] [] rest more size fits also e = (refl, e)
one_list bytes Fits one [] (b ∷ ys) rest more size fits also e = absurd (omega (arith, size))
one_list bytes Fits one (a ∷ xs) [] rest more size fits also e = absurd (omega (arith, size))
one_list bytes Fits one (a ∷ xs) (b ∷ ys) rest more size fits also e =
    let here = one a b (flat_map bytes xs ++ rest) (flat_map bytes ys ++ more) fits.0 also.0
    (sym (append_assoc (bytes a) (flat_map bytes xs) rest) ∙ (e ∙ append_assoc (bytes b) (flat_map bytes ys) more)) in
    let sizes : length xs ≡ length ys = omega (arith, size) in
    let behind = one_list bytes Fits one xs ys rest more sizes fits.1 also.1 here.1 in
    ((λ i. here.0 i ∷ behind.0 i), behind.1)

-- a list behind its number
pub one_counted : {X : Type 0} (width : ℕ) (bytes : X → List ℕ) (Fits : X → Type 0)
    → ((a b : X) (rest more : List ℕ) → Fits a → Fits b → bytes a ++ rest ≡ bytes b ++ more → (a ≡ b) × (rest ≡ more))
    → (xs ys : List X) (rest more : List ℕ) → length xs < 256 ^ width → length ys < 256 ^ width → AllByRecursion Fits xs → AllByRecursion Fits ys
    → (low_first width (length xs) ++ flat_map bytes xs) ++ rest ≡ (low_first width (length ys) ++ flat_map bytes ys) ++ more → (xs ≡ ys) × (rest ≡ more)
one_counted width bytes Fits one xs ys rest more few less fits also e =
    let count = one_in_front width (length xs) (length ys) (flat_map bytes xs) (flat_map bytes ys) rest more few less e in
    one_list bytes Fits one xs ys rest more count.0 fits also count.1

-- ---- held branches and points

pub one_held : (a b : Xid × ℕ) (rest more : List ℕ) → FitsHeld a → FitsHeld b → held_bytes a ++ rest ≡ held_bytes b ++ more → (a ≡ b) × (rest ≡ more)
one_held a b rest more f g e =
    let ids : List ℕ = counted_id a.0.gtrid ++ counted_id a.0.bqual in
    let others : List ℕ = counted_id b.0.gtrid ++ counted_id b.0.bqual in
    let below : a.1 < 256 ^ 8 = omega (arith, f.floor) in
    let under : b.1 < 256 ^ 8 = omega (arith, g.floor) in
    let floor = one_in_front 8 a.1 b.1 (low_first 4 a.0.format ++ ids) (low_first 4 b.0.format ++ others) rest more below under e in
    let format = one_in_front 4 a.0.format b.0.format ids others rest more f.format g.format floor.1 in
    let id = one_id a.0.gtrid b.0.gtrid (counted_id a.0.bqual ++ rest) (counted_id b.0.bqual ++ more)
    (sym (append_assoc (counted_id a.0.gtrid) (counted_id a.0.bqual) rest) ∙ (format.1 ∙ append_assoc (counted_id b.0.gtrid) (counted_id b.0.bqual) more)) in
    let qualifier = one_id a.0.bqual b.0.bqual rest more id.1 in
    ((λ i. (record { gtrid = id.0 i; bqual = qualifier.0 i; format = format.0 i }, floor.0 i)), qualifier.1)

pub one_cut : (a b : RestartPoint) (rest more : List ℕ) → FitsCut a → FitsCut b → cut_bytes a ++ rest ≡ cut_bytes b ++ more → (a ≡ b) × (rest ≡ more)
one_cut a b rest more f g e =
    let tail : RestartPoint → List ℕ = λ (p : RestartPoint). p.checksum ∷ held_list_bytes p.held in
    let marked : RestartPoint → List ℕ = λ (p : RestartPoint). low_first 8 p.mark ++ tail p in
    let placed : RestartPoint → List ℕ = λ (p : RestartPoint). low_first 8 p.place.at ++ marked p in
    let filed : RestartPoint → List ℕ = λ (p : RestartPoint). low_first 4 p.place.file ++ placed p in
    let below : a.mark < 256 ^ 8 = omega (arith, f.mark) in
    let under : b.mark < 256 ^ 8 = omega (arith, g.mark) in
    let entry = one_in_front 8 a.entry b.entry (filed a) (filed b) rest more f.entry g.entry e in
    let file = one_in_front 4 a.place.file b.place.file (placed a) (placed b) rest more f.file g.file entry.1 in
    let at = one_in_front 8 a.place.at b.place.at (marked a) (marked b) rest more f.at g.at file.1 in
    let mark = one_in_front 8 a.mark b.mark (tail a) (tail b) rest more below under at.1 in
    let setting = one_byte a.checksum b.checksum (held_list_bytes a.held ++ rest) (held_list_bytes b.held ++ more) mark.1 in
    let held = one_counted 8 held_bytes FitsHeld one_held a.held b.held rest more f.held.few g.held.few f.held.each g.held.each setting.1 in
    ((λ i. record { entry = entry.0 i; place = record { file = file.0 i; at = at.0 i }; mark = mark.0 i; checksum = setting.0 i; held = held.0 i }), held.1)

-- ---- checkpoints

-- where an output stands
pub one_layout : (a b : Layout) (rest more : List ℕ) → a.file < 2 ^ 64 → b.file < 2 ^ 64 → a.length < 2 ^ 64 → b.length < 2 ^ 64
    → layout_bytes a ++ rest ≡ layout_bytes b ++ more → (a ≡ b) × (rest ≡ more)
one_layout a b rest more fa fb la lb e =
    let file = one_in_front 8 a.file b.file (low_first 8 a.length ++ (flag_byte a.closed ∷ [])) (low_first 8 b.length ++ (flag_byte b.closed ∷ [])) rest more fa fb e in
    let size = one_in_front 8 a.length b.length (flag_byte a.closed ∷ []) (flag_byte b.closed ∷ []) rest more la lb file.1 in
    let flag = one_byte (flag_byte a.closed) (flag_byte b.closed) rest more size.1 in
    let closed = one_flag a.closed b.closed flag.0 in
    ((λ i. record { file = file.0 i; length = size.0 i; closed = closed i }), flag.1)

-- records of one version name a rotation size both, or neither
one_rotation : (a b : Option ℕ) (rest more : List ℕ) → IfSome a (λ size. size < 2 ^ 64) → IfSome b (λ size. size < 2 ^ 64) → point_version a ≡ point_version b
    → rotation_bytes a ++ rest ≡ rotation_bytes b ++ more → (a ≡ b) × (rest ≡ more)
one_rotation None None rest more f g v e = (refl, e)
one_rotation None (Some size) rest more f g v e = absurd (omega (arith, v))
one_rotation (Some size) None rest more f g v e = absurd (omega (arith, v))
one_rotation (Some size) (Some other) rest more f g v e =
    let same = one_number 8 size other rest more f g e in (ap (λ (n : ℕ). Some n) same.0, same.1)

pub bytes_are_one_point : BytesAreOnePoint
bytes_are_one_point p q f g e =
    let nodes : Checkpoint → List ℕ = λ (c : Checkpoint). cut_list_bytes c.nodes in
    let sized : Checkpoint → List ℕ = λ (c : Checkpoint). rotation_bytes c.rotation ++ nodes c in
    let keyed : Checkpoint → List ℕ = λ (c : Checkpoint). key_bytes c.last ++ sized c in
    let laid : Checkpoint → List ℕ = λ (c : Checkpoint). layout_bytes c.layout ++ keyed c in
    let version = one_byte (point_version p.rotation) (point_version q.rotation) (low_first 8 p.count ++ laid p) (low_first 8 q.count ++ laid q) e in
    let count = one_number 8 p.count q.count (laid p) (laid q) f.count g.count version.1 in
    let layout = one_layout p.layout q.layout (keyed p) (keyed q) f.file g.file f.size g.size count.1 in
    let key = one_key p.last q.last (sized p) (sized q) f.key g.key layout.1 in
    let rotation = one_rotation p.rotation q.rotation (nodes p) (nodes q) f.rotation g.rotation version.0 key.1 in
    let behind : nodes p ++ [] ≡ nodes q ++ [] = append-nil (nodes p) ∙ (rotation.1 ∙ sym (append-nil (nodes q))) in
    let cuts = one_counted 2 cut_bytes FitsCut one_cut p.nodes q.nodes [] [] f.nodes.few g.nodes.few f.nodes.each g.nodes.each behind in
    λ i. record { count = count.0 i; layout = layout.0 i; last = key.0 i; rotation = rotation.0 i; nodes = cuts.0 i }

-- by the record of an image
one_kept : (r : Option CellRecord) (a b : Option Checkpoint) → IsKeptPoint r a → IsKeptPoint r b → a ≡ b
one_kept None None None x y = refl
one_kept None None (Some q) x y = absurd y
one_kept None (Some p) b x y = absurd x
one_kept (Some r) None b x y = absurd x
one_kept (Some r) (Some p) None x y = absurd y
one_kept (Some r) (Some p) (Some q) x y = ap (λ (c : Checkpoint). Some c) (bytes_are_one_point p q x.fits y.fits (sym x.payload ∙ y.payload))

pub image_has_one_point : ImageHasOnePoint
image_has_one_point image kept other x y = one_kept (kept_record image) kept other x.kept y.kept
