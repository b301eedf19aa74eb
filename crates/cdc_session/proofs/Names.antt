-- Names of files, and the event that tells one.
use Rattle.std.proofs.Common.{◌≡◌, ℕ, ◌+◌, ◌-◌, ◌^◌, ◌<◌, ◌≤◌, ltb, Bool, true, false, if◌then◌else◌, List, [], ◌∷◌, length, codes, decimal, length-append, map, ap, sym, refl, ◌∙◌, suc, arith}
use Rattle.std.specs.Str.{bytes_eq}
use Rattle.std.proofs.lemmas.Fmt.{length-decimal-le}
use Rattle.cdc_outside.specs.Disk.{Image}
use Rattle.cdc_event.specs.Number.{low_first}
use Rattle.cdc_event.specs.Event.{IsEvent, FitsBody, body_bytes, header_bytes}
use Rattle.cdc_event.specs.declared.body.Body.TheVariants.{Rotate}
use Rattle.cdc_event.proofs.Numbers.{length_low_first}
use Rattle.cdc_model.specs.Print.{digits}
use Rattle.cdc_model.specs.Output.{file_name}
use Rattle.cdc_model.specs.Transaction.{numbers_from}
use Rattle.cdc_records.specs.declared.front.Front.{Front}
use Rattle.cdc_session.specs.Shelf.{PublishedFile, file_at, files_on}
use Rattle.cdc_session.specs.Dump.{artificial_rotate, rotate_to, named_files, asked_files}
use Rattle.cdc_session.proofs.Choices.{chosen, left_out}

six : (number : ℕ) → length (digits 6 number) ≡ 6
unfolding digits
six number = refl

long_or_short : (short : Bool) (number : ℕ) → number < 2 ^ 64 → length (if short then digits 6 number else decimal number) ≤ 20
long_or_short true number fits = (let n = six number in omega (arith, n))
long_or_short false number fits = length-decimal-le 20 number (omega arith) (omega arith) fits

pub name_short : (number : ℕ) → number < 2 ^ 64 → length (file_name number) ≤ 27
unfolding file_name
name_short number fits =
    omega (arith, long_or_short (ltb number 1000000) number fits, length-append (codes "binlog.") (if ltb number 1000000 then digits 6 number else decimal number))

rotate_fits : (at : ℕ) (name : List ℕ) → at < 2 ^ 64 → FitsBody (Rotate at name)
unfolding FitsBody
rotate_fits at name h = omega (arith, h)

rotate_size : (at : ℕ) (name : List ℕ) → length (body_bytes (Rotate at name)) ≡ 8 + length name
unfolding body_bytes
rotate_size at name = omega (arith, length-append (low_first 8 at) name, length_low_first 8 at)

-- it is an event
pub rotate_is_event : (number at : ℕ) → number < 2 ^ 64 → at < 2 ^ 64 → IsEvent (artificial_rotate number at)
rotate_is_event number at fits place =
    let short = name_short number fits in
    let size = rotate_size at (file_name number) in
    record {
      header = record { seconds = omega arith; kind = omega arith; server = omega arith; next = omega arith; flags = omega arith };
      body = rotate_fits at (file_name number) place;
      kind = refl;
      whole = omega (arith, size);
      most = omega (arith, short);
    }

pub rotate_short : (number at : ℕ) → number < 2 ^ 64 → length (rotate_to number at) ≤ 54
unfolding rotate_to header_bytes low_first
rotate_short number at fits =
    let short = name_short number fits in
    let size = rotate_size at (file_name number) in
    omega (arith, size, short, length-append (header_bytes (artificial_rotate number at).header) (body_bytes (Rotate at (file_name number))))

-- ---- the published files from a number on

pub files_here : (f : Front) (image : Image) (number : ℕ) → number ≤ f.file → files_on f image number ≡ file_at f image number ∷ files_on f image (number + 1)
files_here f image number h =
    let one : f.file + 1 - number ≡ suc (f.file - number) = omega (arith, h) in
    let less : f.file - number ≡ f.file + 1 - (number + 1) = omega (arith, h) in
    ap (λ n. map (file_at f image) (numbers_from number n)) one ∙ ap (λ n. file_at f image number ∷ map (file_at f image) (numbers_from (number + 1) n)) less

pub no_files : (f : Front) (image : Image) (number : ℕ) → f.file < number → files_on f image number ≡ []
no_files f image number h =
    let none : f.file + 1 - number ≡ 0 = omega (arith, h) in
    ap (λ n. map (file_at f image) (numbers_from number n)) none

-- the file of a number has the name
pub named_here : (f : Front) (image : Image) (number : ℕ) (name : List ℕ) → number ≤ f.file → bytes_eq (file_name number) name ≡ true
    → named_files name (files_on f image number) ≡ files_on f image number
named_here f image number name h e =
    ap (λ files. named_files name files) (files_here f image number h) ∙ chosen (bytes_eq (file_name number) name) _ _ e ∙ sym (files_here f image number h)

-- it hasn't
pub named_later : (f : Front) (image : Image) (number : ℕ) (name : List ℕ) → number ≤ f.file → bytes_eq (file_name number) name ≡ false
    → named_files name (files_on f image number) ≡ named_files name (files_on f image (number + 1))
named_later f image number name h e =
    ap (λ files. named_files name files) (files_here f image number h) ∙ left_out (bytes_eq (file_name number) name) _ _ e

pub named_none : (f : Front) (image : Image) (number : ℕ) (name : List ℕ) → f.file < number → named_files name (files_on f image number) ≡ []
named_none f image number name h = ap (λ files. named_files name files) (no_files f image number h)

-- a name that isn't empty
pub asked_named : (name : List ℕ) (files : List PublishedFile) → 0 < length name → asked_files name files ≡ named_files name files
asked_named [] files h = absurd (omega (arith, h))
asked_named (byte ∷ name) files h = refl

-- an empty name
pub asked_empty : (name : List ℕ) (files : List PublishedFile) → length name ≡ 0 → asked_files name files ≡ files
asked_empty [] files h = refl
asked_empty (byte ∷ name) files h = absurd (omega (arith, h))
