-- The text of a listing: what is left of it decides the rest.
use Rattle.std.proofs.Common.{◌≡◌, ℕ, suc, ◌+◌, ◌-◌, ◌<◌, ◌≤◌, List, [], ◌∷◌, ◌++◌, length, map, drop, get_or, ap, sym, ◌∙◌, arith, append_assoc, append-nil}
use Rattle.std.specs.List.{concat}
use Rattle.std.proofs.lemmas.List.{drop_more, drop_all}
use Rattle.std.proofs.lemmas.List.Folds.{concat-append}
use Rattle.cdc_outside.specs.Disk.{Image}
use Rattle.cdc_model.specs.Transaction.{numbers_from}
use Rattle.cdc_records.specs.declared.front.Front.{Front}
use Rattle.cdc_records.specs.Published.{published_file}
use Rattle.cdc_list.specs.Lines.{file_line, file_lines, out_line, out_lines, listed_out, listed_outs, listing_lines, front_lines}

-- ---- the files of an out

-- the lengths of the published files from a number on
abbrev pub lengths_from : Front → Image → ℕ → List ℕ
lengths_from f image number = map (λ (bytes : List ℕ). length bytes) (map (published_file f image) (numbers_from number (f.file + 1 - number)))

-- their text
abbrev pub files_left : ℕ → Front → Image → ℕ → List ℕ
files_left out f image number = concat (file_lines out number (lengths_from f image number))

pub files_next : (out : ℕ) (f : Front) (image : Image) (number : ℕ) → number ≤ f.file
    → files_left out f image number ≡ file_line out number (length (published_file f image number)) ++ files_left out f image (number + 1)
files_next out f image number h =
    let one : f.file + 1 - number ≡ suc (f.file - number) = omega (arith, h) in
    let less : f.file - number ≡ f.file + 1 - (number + 1) = omega (arith, h) in
    let lengths_of : ℕ → ℕ → List ℕ = λ (first count : ℕ). map (λ (bytes : List ℕ). length bytes) (map (published_file f image) (numbers_from first count)) in
    ap (λ (n : ℕ). concat (file_lines out number (lengths_of number n))) one
    ∙ ap (λ (n : ℕ). file_line out number (length (published_file f image number)) ++ concat (file_lines out (number + 1) (lengths_of (number + 1) n))) less

pub files_done : (out : ℕ) (f : Front) (image : Image) (number : ℕ) → f.file < number → files_left out f image number ≡ []
files_done out f image number h =
    let none : f.file + 1 - number ≡ 0 = omega (arith, h) in
    ap (λ (n : ℕ). concat (file_lines out number (map (λ (bytes : List ℕ). length bytes) (map (published_file f image) (numbers_from number n))))) none

-- one line more
pub files_more : (text more next : List ℕ) (out : ℕ) (f : Front) (image : Image) (number : ℕ) → number ≤ f.file
    → next ≡ more ++ file_line out number (length (published_file f image number)) → more ++ files_left out f image number ≡ text
    → next ++ files_left out f image (number + 1) ≡ text
files_more text more next out f image number h is so_far =
    ap (λ (l : List ℕ). l ++ files_left out f image (number + 1)) is
    ∙ (append_assoc more (file_line out number (length (published_file f image number))) (files_left out f image (number + 1))
    ∙ (ap (λ (l : List ℕ). more ++ l) (sym (files_next out f image number h)) ∙ so_far))

pub files_all : (text more : List ℕ) (out : ℕ) (f : Front) (image : Image) (number : ℕ) → f.file < number → more ++ files_left out f image number ≡ text → more ≡ text
files_all text more out f image number h so_far =
    sym (append-nil more) ∙ (ap (λ (l : List ℕ). more ++ l) (sym (files_done out f image number h)) ∙ so_far)

-- ---- the lines of an out

pub out_text : (out : ℕ) (f : Front) (image : Image) (text files line : List ℕ)
    → files ≡ text ++ files_left out f image f.first → line ≡ out_line out f → files ++ line ≡ text ++ concat (out_lines out (listed_out f image))
out_text out f image text files line is same =
    ap (λ (l : List ℕ). l ++ line) is ∙ (append_assoc text (files_left out f image f.first) line
    ∙ ap (λ (l : List ℕ). text ++ l)
    (ap (λ (l : List ℕ). files_left out f image f.first ++ l) (same ∙ sym (append-nil (out_line out f)))
    ∙ sym (concat-append (file_lines out f.first (lengths_from f image f.first)) (out_line out f ∷ []))))

-- ---- all outs

-- the text of the outs from an index on
abbrev pub outs_left : List Front → List Image → ℕ → List ℕ
outs_left fronts images index = concat (listing_lines (index + 1) (listed_outs (drop index fronts) (drop index images)))

pub outs_next : (fronts : List Front) (images : List Image) (index : ℕ) (f : Front) (image : Image) → index < length fronts → index < length images
    → get_or fronts index f ≡ f → get_or images index image ≡ image
    → outs_left fronts images index ≡ concat (out_lines (index + 1) (listed_out f image)) ++ outs_left fronts images (index + 1)
outs_next fronts images index f image below within is same =
    let one : drop index fronts ≡ f ∷ drop (index + 1) fronts = drop_more fronts index f below ∙ ap (λ (g : Front). g ∷ drop (index + 1) fronts) is in
    let two : drop index images ≡ image ∷ drop (index + 1) images = drop_more images index image within ∙ ap (λ (i : Image). i ∷ drop (index + 1) images) same in
    ap (λ (l : List Front). concat (listing_lines (index + 1) (listed_outs l (drop index images)))) one
    ∙ (ap (λ (l : List Image). concat (listing_lines (index + 1) (listed_outs (f ∷ drop (index + 1) fronts) l))) two
    ∙ concat-append (out_lines (index + 1) (listed_out f image)) (listing_lines (index + 1 + 1) (listed_outs (drop (index + 1) fronts) (drop (index + 1) images))))

pub outs_more : (text more next : List ℕ) (fronts : List Front) (images : List Image) (index : ℕ) (f : Front) (image : Image) → index < length fronts → index < length images
    → get_or fronts index f ≡ f → get_or images index image ≡ image → next ≡ more ++ concat (out_lines (index + 1) (listed_out f image))
    → more ++ outs_left fronts images index ≡ text → next ++ outs_left fronts images (index + 1) ≡ text
outs_more text more next fronts images index f image below within is same step so_far =
    ap (λ (l : List ℕ). l ++ outs_left fronts images (index + 1)) step
    ∙ (append_assoc more (concat (out_lines (index + 1) (listed_out f image))) (outs_left fronts images (index + 1))
    ∙ (ap (λ (l : List ℕ). more ++ l) (sym (outs_next fronts images index f image below within is same)) ∙ so_far))

pub outs_all : (text more : List ℕ) (fronts : List Front) (images : List Image) (index : ℕ) → length fronts ≤ index → more ++ outs_left fronts images index ≡ text → more ≡ text
outs_all text more fronts images index h so_far =
    let none : drop index fronts ≡ [] = drop_all index fronts h in
    let nothing : outs_left fronts images index ≡ [] = ap (λ (l : List Front). concat (listing_lines (index + 1) (listed_outs l (drop index images)))) none in
    sym (append-nil more) ∙ (ap (λ (l : List ℕ). more ++ l) (sym nothing) ∙ so_far)

-- ---- the outs' own lines

-- their text from an index on
abbrev pub fronts_left : List Front → ℕ → List ℕ
fronts_left fronts index = concat (front_lines (index + 1) (drop index fronts))

-- it begins with the line of the out at the index
pub fronts_next : (fronts : List Front) (index : ℕ) (f : Front) → index < length fronts → get_or fronts index f ≡ f
    → fronts_left fronts index ≡ out_line (index + 1) f ++ fronts_left fronts (index + 1)
fronts_next fronts index f below is =
    let one : drop index fronts ≡ f ∷ drop (index + 1) fronts = drop_more fronts index f below ∙ ap (λ (g : Front). g ∷ drop (index + 1) fronts) is in
    ap (λ (l : List Front). concat (front_lines (index + 1) l)) one

-- one line more
pub fronts_more : (text more next : List ℕ) (fronts : List Front) (index : ℕ) (f : Front) → index < length fronts → get_or fronts index f ≡ f
    → next ≡ more ++ out_line (index + 1) f → more ++ fronts_left fronts index ≡ text → next ++ fronts_left fronts (index + 1) ≡ text
fronts_more text more next fronts index f below is step so_far =
    ap (λ (l : List ℕ). l ++ fronts_left fronts (index + 1)) step
    ∙ (append_assoc more (out_line (index + 1) f) (fronts_left fronts (index + 1))
    ∙ (ap (λ (l : List ℕ). more ++ l) (sym (fronts_next fronts index f below is)) ∙ so_far))

-- behind the last out nothing is left
pub fronts_all : (text more : List ℕ) (fronts : List Front) (index : ℕ) → length fronts ≤ index → more ++ fronts_left fronts index ≡ text → more ≡ text
fronts_all text more fronts index h so_far =
    let none : drop index fronts ≡ [] = drop_all index fronts h in
    let nothing : fronts_left fronts index ≡ [] = ap (λ (l : List Front). concat (front_lines (index + 1) l)) none in
    sym (append-nil more) ∙ (ap (λ (l : List ℕ). more ++ l) (sym nothing) ∙ so_far)
