-- The bytes of a Front's record are read again.
use Rattle.std.proofs.Common.{◌≡◌, ◌≢◌, ℕ, ◌-◌, ◌<◌, ◌≤◌, ◌^◌, ◌==◌, Bool, true, false, List, [], ◌∷◌, ◌++◌, length, take, drop, get_or, refl, sym, ◌∙◌, ap, arith, length-append, length-drop, append_assoc, append-nil}
use Rattle.std.specs.Prelude.{Option, None, Some}
use Rattle.std.specs.List.{slice_range}
use Rattle.cdc_base.specs.declared.key.Key.{Key}
use Rattle.cdc_base.specs.declared.key.Key.TheVariants.{Shared, Plain}
use Rattle.cdc_event.specs.Number.{low_first, number_of}
use Rattle.cdc_event.proofs.Numbers.{length_low_first}
use Rattle.cdc_event.proofs.Fields.{ReadAt, read_at, ByteAt, byte_at, last_part}
use Rattle.cdc_records.specs.declared.front.Front.{Front}
use Rattle.cdc_records.specs.KeyBytes.{flag_byte, key_bytes, IsRecordKey}
use Rattle.cdc_records.specs.Front.{front_numbers, front_bytes, front_bytes_with, IsOfVersion, IsSoundFront}

-- what stands in a shared key's bytes
pub record ReadsShared (bytes : List ℕ) (timestamp : ℕ) (gtrid : List ℕ) : Type 0 where
  pub long : 10 ≤ length bytes
  pub time : number_of (slice_range bytes 0 8) ≡ timestamp
  pub class : get_or bytes 8 0 ≡ 0
  pub id : drop 10 bytes ≡ gtrid

pub reads_shared : (bytes : List ℕ) (timestamp : ℕ) (gtrid : List ℕ) → timestamp < 2 ^ 64 → bytes ≡ key_bytes (Shared timestamp gtrid) → ReadsShared bytes timestamp gtrid
reads_shared bytes timestamp gtrid lt e =
    let a : ReadAt 8 timestamp bytes (0 ∷ (length gtrid ∷ gtrid)) 0 = read_at 8 timestamp bytes (0 ∷ (length gtrid ∷ gtrid)) 0 lt e in
    let b : ByteAt 0 bytes (length gtrid ∷ gtrid) 8 = byte_at 0 bytes (length gtrid ∷ gtrid) 8 a.behind in
    let c : ByteAt (length gtrid) bytes gtrid 9 = byte_at (length gtrid) bytes gtrid 9 b.behind in
    record { long = omega (arith, c.within); time = a.here; class = b.here; id = c.behind }

-- what stands in a local key's bytes
pub record ReadsPlain (bytes : List ℕ) (timestamp node entry : ℕ) : Type 0 where
  pub size : length bytes ≡ 21
  pub time : number_of (slice_range bytes 0 8) ≡ timestamp
  pub class : get_or bytes 8 0 ≡ 1
  pub from : number_of (slice_range bytes 9 13) ≡ node
  pub number : number_of (slice_range bytes 13 21) ≡ entry

pub reads_plain : (bytes : List ℕ) (timestamp node entry : ℕ) → timestamp < 2 ^ 64 → node < 2 ^ 32 → entry < 2 ^ 64 → bytes ≡ key_bytes (Plain timestamp node entry) → ReadsPlain bytes timestamp node entry
reads_plain bytes timestamp node entry t n l e =
    let a : ReadAt 8 timestamp bytes (1 ∷ (low_first 4 node ++ low_first 8 entry)) 0 = read_at 8 timestamp bytes (1 ∷ (low_first 4 node ++ low_first 8 entry)) 0 t e in
    let b : ByteAt 1 bytes (low_first 4 node ++ low_first 8 entry) 8 = byte_at 1 bytes (low_first 4 node ++ low_first 8 entry) 8 a.behind in
    let c : ReadAt 4 node bytes (low_first 8 entry) 9 = read_at 4 node bytes (low_first 8 entry) 9 n b.behind in
    let d : ReadAt 8 entry bytes [] 13 = read_at 8 entry bytes [] 13 l (c.behind ∙ sym (append-nil (low_first 8 entry))) in
    record {
      size = ap length e ∙ simp (length-append, length_low_first);
      time = a.here;
      class = b.here;
      from = c.here;
      number = d.here;
    }

-- what stands in the part that both versions have
pub record ReadsNumbers (p : List ℕ) (f : Front) (version : ℕ) (rest : List ℕ) : Type 0 where
  pub kind : get_or p 0 0 ≡ version
  pub count : number_of (slice_range p 1 9) ≡ f.count
  pub file : number_of (slice_range p 9 17) ≡ f.file
  pub size : number_of (slice_range p 17 25) ≡ f.length
  pub flag : get_or p 25 0 ≡ flag_byte f.closed
  pub behind : drop 26 p ≡ rest
  pub long : 26 ≤ length p

pub reads_numbers : (p : List ℕ) (f : Front) (version : ℕ) (rest : List ℕ) → IsSoundFront f → p ≡ version ∷ (front_numbers f ++ rest) → ReadsNumbers p f version rest
reads_numbers p f version rest sound e =
    let count_lt : f.count < 2 ^ 64 = omega (arith, sound.most) in
    let file_lt : f.file < 2 ^ 64 = omega (arith, sound.most, sound.within) in
    let grouped : front_numbers f ++ rest ≡ low_first 8 f.count ++ (low_first 8 f.file ++ (low_first 8 f.length ++ (flag_byte f.closed ∷ rest))) = simp append_assoc in
    let a : ByteAt version p (front_numbers f ++ rest) 0 = byte_at version p (front_numbers f ++ rest) 0 e in
    let b : ReadAt 8 f.count p (low_first 8 f.file ++ (low_first 8 f.length ++ (flag_byte f.closed ∷ rest))) 1
    = read_at 8 f.count p (low_first 8 f.file ++ (low_first 8 f.length ++ (flag_byte f.closed ∷ rest))) 1 count_lt (a.behind ∙ grouped) in
    let c : ReadAt 8 f.file p (low_first 8 f.length ++ (flag_byte f.closed ∷ rest)) 9 = read_at 8 f.file p (low_first 8 f.length ++ (flag_byte f.closed ∷ rest)) 9 file_lt b.behind in
    let d : ReadAt 8 f.length p (flag_byte f.closed ∷ rest) 17 = read_at 8 f.length p (flag_byte f.closed ∷ rest) 17 sound.fits c.behind in
    let k : ByteAt (flag_byte f.closed) p rest 25 = byte_at (flag_byte f.closed) p rest 25 d.behind in
    record { kind = a.here; count = b.here; file = c.here; size = d.here; flag = k.here; behind = k.behind; long = omega (arith, k.within) }

-- a flag that is read is the flag
pub flag_again : (b : Bool) (n : ℕ) → n ≡ flag_byte b → (n == 1) ≡ b
flag_again true n e = ap (λ (m : ℕ). m == 1) e
flag_again false n e = ap (λ (m : ℕ). m == 1) e

-- by whether there is a last key
pub record IsFirstVersion (p : List ℕ) (f : Front) : Type 0 where
  pub none : f.last ≡ None
  pub reads : ReadsNumbers p f 1 []
  pub first : f.first ≡ 1
  pub passed : f.passed ≡ 0

pub record IsSecondVersion (p : List ℕ) (f : Front) (key : Key) : Type 0 where
  pub some : f.last ≡ Some key
  pub reads : ReadsNumbers p f 2 (low_first 8 f.first ++ (low_first 8 f.passed ++ key_bytes key))
  pub first : number_of (slice_range p 26 34) ≡ f.first
  pub passed : number_of (slice_range p 34 42) ≡ f.passed
  pub key_there : drop 42 p ≡ key_bytes key
  pub fits : IsRecordKey key

pub data Version (p : List ℕ) (f : Front) : Type 0 where
  OfFirst : IsFirstVersion p f → Version p f
  OfSecond : (key : Key) → IsSecondVersion p f key → Version p f

version_by : (p : List ℕ) (f : Front) (last : Option Key) → f.last ≡ last → IsSoundFront f → IsOfVersion last f → p ≡ front_bytes_with last f → Version p f
version_by p f None is sound of e =
    OfFirst record {
      none = is;
      reads = reads_numbers p f 1 [] sound (e ∙ ap (λ (xs : List ℕ). 1 ∷ xs) (sym (append-nil (front_numbers f))));
      first = of.0;
      passed = of.1;
    }
version_by p f (Some key) is sound of e =
    let reads : ReadsNumbers p f 2 (low_first 8 f.first ++ (low_first 8 f.passed ++ key_bytes key)) = reads_numbers p f 2 (low_first 8 f.first ++ (low_first 8 f.passed ++ key_bytes key)) sound e in
    let first_lt : f.first < 2 ^ 64 = omega (arith, sound.upto, sound.within, sound.most) in
    let passed_lt : f.passed < 2 ^ 64 = omega (arith, sound.below, sound.most) in
    let a : ReadAt 8 f.first p (low_first 8 f.passed ++ key_bytes key) 26 = read_at 8 f.first p (low_first 8 f.passed ++ key_bytes key) 26 first_lt reads.behind in
    let b : ReadAt 8 f.passed p (key_bytes key) 34 = read_at 8 f.passed p (key_bytes key) 34 passed_lt a.behind in
    OfSecond key record { some = is; reads = reads; first = a.here; passed = b.here; key_there = b.behind; fits = of }

pub version_of : (p : List ℕ) (f : Front) → IsSoundFront f → p ≡ front_bytes f → Version p f
version_of p f sound e = version_by p f f.last refl sound sound.version e

-- a key out of its bytes
pub key_long : (bytes : List ℕ) (key : Key) → IsRecordKey key → bytes ≡ key_bytes key → 10 ≤ length bytes
key_long bytes (Shared timestamp gtrid) fits e = (reads_shared bytes timestamp gtrid fits.0 e).long
key_long bytes (Plain timestamp node entry) fits e = omega (arith, (reads_plain bytes timestamp node entry fits.0 fits.1 fits.2 e).size)

pub key_short : (bytes id : List ℕ) (key : Key) → IsRecordKey key → bytes ≡ key_bytes key → get_or bytes 8 0 ≡ 0 → id ≡ drop 10 bytes → length id ≤ 64
key_short bytes id (Shared timestamp gtrid) fits e zero_there is =
    let same : id ≡ gtrid = is ∙ (reads_shared bytes timestamp gtrid fits.0 e).id in
    omega (arith, ap length same, fits.1)
key_short bytes id (Plain timestamp node entry) fits e zero_there is =
    absurd (omega (arith, zero_there, (reads_plain bytes timestamp node entry fits.0 fits.1 fits.2 e).class))

pub key_shared : (bytes id : List ℕ) (time : ℕ) (key : Key) → IsRecordKey key → bytes ≡ key_bytes key → get_or bytes 8 0 ≡ 0 → time ≡ number_of (slice_range bytes 0 8) → id ≡ drop 10 bytes → Shared time id ≡ key
key_shared bytes id time (Shared timestamp gtrid) fits e zero_there t i =
    let reads = reads_shared bytes timestamp gtrid fits.0 e in
    ap (λ (n : ℕ). Shared n id) (t ∙ reads.time) ∙ ap (λ (xs : List ℕ). Shared timestamp xs) (i ∙ reads.id)
key_shared bytes id time (Plain timestamp node entry) fits e zero_there t i =
    absurd (omega (arith, zero_there, (reads_plain bytes timestamp node entry fits.0 fits.1 fits.2 e).class))

pub key_size : (bytes : List ℕ) (key : Key) → IsRecordKey key → bytes ≡ key_bytes key → get_or bytes 8 0 ≢ 0 → length bytes ≡ 21
key_size bytes (Shared timestamp gtrid) fits e other = absurd (other (reads_shared bytes timestamp gtrid fits.0 e).class)
key_size bytes (Plain timestamp node entry) fits e other = (reads_plain bytes timestamp node entry fits.0 fits.1 fits.2 e).size

pub key_plain : (bytes : List ℕ) (time from number : ℕ) (key : Key) → IsRecordKey key → bytes ≡ key_bytes key → get_or bytes 8 0 ≢ 0
    → time ≡ number_of (slice_range bytes 0 8) → from ≡ number_of (slice_range bytes 9 13) → number ≡ number_of (slice_range bytes 13 21) → Plain time from number ≡ key
key_plain bytes time from number (Shared timestamp gtrid) fits e other t n l = absurd (other (reads_shared bytes timestamp gtrid fits.0 e).class)
key_plain bytes time from number (Plain timestamp node entry) fits e other t n l =
    let reads = reads_plain bytes timestamp node entry fits.0 fits.1 fits.2 e in
    ap (λ (k : ℕ). Plain k from number) (t ∙ reads.time) ∙ ap (λ (k : ℕ). Plain timestamp k number) (n ∙ reads.from) ∙ ap (λ (k : ℕ). Plain timestamp node k) (l ∙ reads.number)

-- a Front out of its bytes
pub front_long : (p : List ℕ) (f : Front) → IsSoundFront f → p ≡ front_bytes f → 26 ≤ length p
front_long p f sound e = elim (version_of p f sound e) [ OfFirst is ↦ is.reads.long | OfSecond key is ↦ is.reads.long ]

-- the parts that both versions have
pub record FrontParts (p : List ℕ) (count file size : ℕ) (closed : Bool) : Type 0 where
  pub count_is : count ≡ number_of (slice_range p 1 9)
  pub file_is : file ≡ number_of (slice_range p 9 17)
  pub size_is : size ≡ number_of (slice_range p 17 25)
  pub closed_is : closed ≡ (get_or p 25 0 == 1)

abbrev front_of : ℕ → ℕ → ℕ → Bool → ℕ → ℕ → Option Key → Front
front_of count file size closed first passed last = record { count = count; file = file; length = size; closed = closed; first = first; passed = passed; last = last }

same_front_parts : (f : Front) (count file size : ℕ) (closed : Bool) (first passed : ℕ) (last : Option Key) → count ≡ f.count → file ≡ f.file → size ≡ f.length → closed ≡ f.closed → first ≡ f.first → passed ≡ f.passed → last ≡ f.last
    → front_of count file size closed first passed last ≡ f
same_front_parts f count file size closed first passed last a b c d e g h =
    λ i. record { count = a i; file = b i; length = c i; closed = d i; first = e i; passed = g i; last = h i }

pub front_first : (p : List ℕ) (f : Front) (count file size : ℕ) (closed : Bool) → IsSoundFront f → p ≡ front_bytes f → get_or p 0 0 ≡ 1 → FrontParts p count file size closed
    → front_of count file size closed 1 0 None ≡ f
front_first p f count file size closed sound e one parts = elim (version_of p f sound e) [
  | OfFirst is ↦ same_front_parts f count file size closed 1 0 None (parts.count_is ∙ is.reads.count) (parts.file_is ∙ is.reads.file) (parts.size_is ∙ is.reads.size)
      (parts.closed_is ∙ flag_again f.closed (get_or p 25 0) is.reads.flag) (sym is.first) (sym is.passed) (sym is.none)
  | OfSecond key is ↦ absurd (omega (arith, one, is.reads.kind))
]

pub front_second_long : (p : List ℕ) (f : Front) → IsSoundFront f → p ≡ front_bytes f → get_or p 0 0 ≢ 1 → 42 ≤ length p
front_second_long p f sound e other = elim (version_of p f sound e) [
  | OfFirst is ↦ absurd (other is.reads.kind)
  | OfSecond key is ↦ omega (arith, length-drop 42 p, key_long (drop 42 p) key is.fits is.key_there)
]

-- the key behind them
pub record KeyBehind (p : List ℕ) (f : Front) : Type 0 where
  pub key : Key
  pub fits : IsRecordKey key
  pub there : take (length p - 42) (drop 42 p) ≡ key_bytes key
  pub some : f.last ≡ Some key
  pub first : number_of (slice_range p 26 34) ≡ f.first
  pub passed : number_of (slice_range p 34 42) ≡ f.passed
  pub reads : (count file size : ℕ) (closed : Bool) → FrontParts p count file size closed → (count ≡ f.count) × (file ≡ f.file) × (size ≡ f.length) × (closed ≡ f.closed)

pub key_behind : (p : List ℕ) (f : Front) → IsSoundFront f → p ≡ front_bytes f → get_or p 0 0 ≢ 1 → KeyBehind p f
key_behind p f sound e other = elim (version_of p f sound e) [
  | OfFirst is ↦ absurd (other is.reads.kind)
  | OfSecond key is ↦ record {
    key = key;
    fits = is.fits;
    there = last_part p 42 (front_second_long p f sound e other) ∙ is.key_there;
    some = is.some;
    first = is.first;
    passed = is.passed;
    reads = λ count file size closed parts. (parts.count_is ∙ is.reads.count, parts.file_is ∙ is.reads.file, parts.size_is ∙ is.reads.size, parts.closed_is ∙ flag_again f.closed (get_or p 25 0) is.reads.flag);
  }
]

pub front_second : (p : List ℕ) (f : Front) (count file size : ℕ) (closed : Bool) (first passed : ℕ) (last : Key) → KeyBehind p f → FrontParts p count file size closed
    → first ≡ number_of (slice_range p 26 34) → passed ≡ number_of (slice_range p 34 42) → Some last ≡ f.last
    → front_of count file size closed first passed (Some last) ≡ f
front_second p f count file size closed first passed last behind parts a b h =
    let reads = behind.reads count file size closed parts in
    same_front_parts f count file size closed first passed (Some last) reads.0 reads.1 reads.2 reads.3 (a ∙ behind.first) (b ∙ behind.passed) h

-- a record has at most 116 bytes
key_at_most : (key : Key) → IsRecordKey key → length (key_bytes key) ≤ 74
key_at_most (Shared timestamp gtrid) fits = omega (arith, length-append (low_first 8 timestamp) (0 ∷ (length gtrid ∷ gtrid)), length_low_first 8 timestamp, fits.1)
key_at_most (Plain timestamp node entry) fits =
    omega (arith, length-append (low_first 8 timestamp) (1 ∷ (low_first 4 node ++ low_first 8 entry)), length-append (low_first 4 node) (low_first 8 entry), length_low_first 8 timestamp, length_low_first 4 node, length_low_first 8 entry)

pub front_at_most : (f : Front) → IsSoundFront f → length (front_bytes f) ≤ 116
front_at_most f sound = elim (version_of (front_bytes f) f sound refl) [
  | OfFirst is ↦ omega (arith, length-drop 26 (front_bytes f), ap length is.reads.behind)
  | OfSecond key is ↦ omega (arith, length-drop 42 (front_bytes f), ap length is.key_there, key_at_most key is.fits)
]
