-- The bytes of a file between two of them, and the files of a log around one.
use Rattle.std.proofs.Common.{◌≡◌, ◌≤◌, ◌<◌, ℕ, zero, suc, ◌+◌, ◌-◌, min, List, [], ◌∷◌, ◌++◌, length, take, drop, get_or, drop-cons, ap, sym, refl, ◌∙◌, arith}
use Rattle.std.proofs.lemmas.List.{take-append-drop, drop-drop, drop-take, take_all, take-take, take_at, drop_at, drop_all, length-take, length-take-le, get_or-take}
use Rattle.std.proofs.Math.Seq.{take-add}
use Rattle.cdc_base.specs.declared.place.Place.{Place}
use Rattle.cdc_outside.specs.Source.{file_of}
use Rattle.cdc_reader.specs.LogFront.{bytes_between, log_up_to}

-- they are so many bytes from the first one on
between_is : (start at : ℕ) (bytes : List ℕ) → start ≤ at → bytes_between start at bytes ≡ take (at - start) (drop start bytes)
between_is start at bytes ordered =
    let sum : at ≡ start + (at - start) = omega arith in
    ap (λ (n : ℕ). drop start (take n bytes)) sum ∙ drop-take start (at - start) bytes

behind_is : (start at : ℕ) (bytes : List ℕ) → start ≤ at → drop (at - start) (drop start bytes) ≡ drop at bytes
behind_is start at bytes ordered =
    let sum : start + (at - start) ≡ at = omega arith in
    drop-drop (at - start) start bytes ∙ ap (λ (n : ℕ). drop n bytes) sum

pub none_between : (at : ℕ) (bytes : List ℕ) → bytes_between at at bytes ≡ []
none_between at bytes =
    let size : length (take at bytes) ≡ min at (length bytes) = length-take at bytes in
    let within : length (take at bytes) ≤ at = omega arith in
    drop_all at (take at bytes) within

pub more_between : (start at count : ℕ) (bytes : List ℕ) → start ≤ at → bytes_between start (at + count) bytes ≡ bytes_between start at bytes ++ take count (drop at bytes)
more_between start at count bytes ordered =
    let later : start ≤ at + count = omega arith in
    let sum : at + count - start ≡ (at - start) + count = omega arith in
    between_is start (at + count) bytes later
    ∙ ap (λ (n : ℕ). take n (drop start bytes)) sum
    ∙ take-add (at - start) count (drop start bytes)
    ∙ ap (λ (list : List ℕ). take (at - start) (drop start bytes) ++ take count list) (behind_is start at bytes ordered)
    ∙ ap (λ (list : List ℕ). list ++ take count (drop at bytes)) (sym (between_is start at bytes ordered))

pub rest_between : (start at : ℕ) (bytes : List ℕ) → start ≤ at → drop start bytes ≡ bytes_between start at bytes ++ drop at bytes
rest_between start at bytes ordered =
    sym (take-append-drop (at - start) (drop start bytes))
    ∙ ap (λ (list : List ℕ). take (at - start) (drop start bytes) ++ list) (behind_is start at bytes ordered)
    ∙ ap (λ (list : List ℕ). list ++ drop at bytes) (sym (between_is start at bytes ordered))

pub all_between : (start at : ℕ) (bytes : List ℕ) → length bytes ≤ at → drop start bytes ≡ bytes_between start at bytes
all_between start at bytes ends = ap (drop start) (sym (take_all at bytes ends))

-- ---- files

-- a file that is there, and those behind it
pub file_there : (k : ℕ) (files : List (List ℕ)) → k < length files → drop k files ≡ get_or files k [] ∷ drop (suc k) files
file_there k files there = drop-cons files k [] there

-- the same in a log that has the same files up to it
pub same_file_there : (k : ℕ) (others files : List (List ℕ)) → k < length files → take (suc k) others ≡ take (suc k) files
    → drop k others ≡ get_or files k [] ∷ drop (suc k) others
same_file_there k others files there same =
    let size : length (take (suc k) others) ≡ min (suc k) (length others) = length-take (suc k) others in
    let other : length (take (suc k) files) ≡ min (suc k) (length files) = length-take (suc k) files in
    let both : length (take (suc k) others) ≡ length (take (suc k) files) = ap length same in
    let here : k < length others = omega arith in
    let within : k < suc k = omega arith in
    drop-cons others k [] here
    ∙ ap (λ (bytes : List ℕ). bytes ∷ drop (suc k) others)
    (sym (get_or-take (suc k) others k [] within) ∙ ap (λ (list : List (List ℕ)). get_or list k []) same ∙ get_or-take (suc k) files k [] within)

pub same_before : (k : ℕ) (others files : List (List ℕ)) → take (suc k) others ≡ take (suc k) files → take k others ≡ take k files
same_before k others files same =
    let less : k ≤ suc k = omega arith in
    sym (take-take k (suc k) others less) ∙ ap (take k) same ∙ take-take k (suc k) files less

-- a log up to a place has the same files before it, and then the bytes up to there
pub same_up_to : (place : Place) (files : List (List ℕ)) → place.file - 1 ≤ length files → take (place.file - 1) (log_up_to place files) ≡ take (place.file - 1) files
same_up_to place files there =
    take_at (take (place.file - 1) files) (take place.at (file_of files place.file) ∷ []) (place.file - 1) (length-take-le (place.file - 1) files there)

pub rest_up_to : (place : Place) (files : List (List ℕ)) → place.file - 1 ≤ length files
    → drop (place.file - 1) (log_up_to place files) ≡ take place.at (file_of files place.file) ∷ []
rest_up_to place files there =
    drop_at (take (place.file - 1) files) (take place.at (file_of files place.file) ∷ []) (place.file - 1) (length-take-le (place.file - 1) files there)

-- no file is there
pub no_file : (place : Place) (files : List (List ℕ)) → length files ≤ place.file - 1 → drop (place.file - 1) files ≡ []
no_file place files ends = drop_all (place.file - 1) files ends

pub no_bytes : (k : ℕ) (files : List (List ℕ)) → length files ≤ k → get_or files k [] ≡ []
no_bytes zero [] ends = refl
no_bytes (suc k) [] ends = refl
no_bytes zero (bytes ∷ files) ends = absurd (omega arith)
no_bytes (suc k) (bytes ∷ files) ends = let less : length files ≤ k = omega arith in no_bytes k files less
