-- What the files of a disk hold after one of them was changed.
use Rattle.std.proofs.Common.{◌≡◌, ◌≢◌, inl, inr, ℕ, suc, ◌+◌, ◌<◌, ◌≤◌, true, false, List, [], ◌∷◌, ◌++◌, length, map, get_or, set, refl, sym, ◌∙◌, ap, subst, arith, true≢false, length-append}
use Rattle.std.proofs.lemmas.Bool.{cases_Bool, cases_eq, cases_lt}
use Rattle.std.proofs.lemmas.List.{get_or-map, map-set, get_or-set_same, get_or-set_other, get_or_past, length-map, get_or_append_left, get_or_at}
use Rattle.cdc_outside.specs.declared.disk_file.DiskFile.{DiskFile}
use Rattle.cdc_outside.specs.declared.disk_file.DiskFile.TheVariants.{SlotA, SlotB, Log}
use Rattle.cdc_outside.specs.Disk.{Image, same_file, with_file}
use Rattle.cdc_outside.proofs.Pending.{same_file_is, same_file_self, with_file_same, with_file_other}
use Rattle.cdc_memory.specs.DiskFiles.{place_of, content_of}
use Rattle.cdc_memory.specs.declared.mem_file.MemFile.{MemFile}

abbrev pub bytes_of : MemFile → List ℕ
bytes_of file = file.bytes.items

place_is : (file other : DiskFile) → place_of file ≡ place_of other → file ≡ other
place_is SlotA SlotA e = refl
place_is SlotB SlotB e = refl
place_is (Log number) (Log other) e = let same : number ≡ other = omega arith in ap (λ n. Log n) same
place_is SlotA SlotB e = absurd (omega arith)
place_is SlotA (Log other) e = absurd (omega arith)
place_is SlotB SlotA e = absurd (omega arith)
place_is SlotB (Log other) e = absurd (omega arith)
place_is (Log number) SlotA e = absurd (omega arith)
place_is (Log number) SlotB e = absurd (omega arith)

pub places_differ : (file other : DiskFile) → same_file file other ≡ false → place_of other ≢ place_of file
places_differ file other isnt e =
    let same : file ≡ other = place_is file other (sym e) in
    true≢false (sym (subst (λ it. same_file file it ≡ true) same (same_file_self file)) ∙ isnt)

pub content_at : (files : List MemFile) (file : DiskFile) (place : ℕ) (other : MemFile) → place ≡ place_of file → place < length files → content_of files file ≡ bytes_of (get_or files place other)
content_at files file place other e lt = ap (λ n. get_or (map bytes_of files) n []) (sym e) ∙ get_or-map bytes_of files place other [] lt

pub content_past : (files : List MemFile) (file : DiskFile) → length files ≤ place_of file → content_of files file ≡ []
content_past files file le = get_or_past (map bytes_of files) (place_of file) [] (omega (arith, length-map files bytes_of))

content_set : (files : List MemFile) (file : DiskFile) (place : ℕ) (new : MemFile) → place ≡ place_of file → place < length files
    → (other : DiskFile) → content_of (set files place new) other ≡ with_file file (bytes_of new) (content_of files) other
content_set files file place new e lt other =
    ap (λ (l : List (List ℕ)). get_or l (place_of other) []) (map-set bytes_of files place new)
    ∙ elim (cases_Bool (same_file file other)) [
      | inl is ↦
          let same : file ≡ other = same_file_is file other is in
          let at : place_of other ≡ place = ap place_of (sym same) ∙ sym e in
          ap (λ n. get_or (set (map bytes_of files) place (bytes_of new)) n []) at
          ∙ get_or-set_same (map bytes_of files) place (bytes_of new) [] (omega (arith, length-map files bytes_of, lt))
          ∙ subst (λ it. bytes_of new ≡ with_file file (bytes_of new) (content_of files) it) same (sym (with_file_same file (bytes_of new) (content_of files)))
      | inr isnt ↦
          let apart : place_of other ≢ place = λ at. places_differ file other isnt (at ∙ e) in
          get_or-set_other (map bytes_of files) place (place_of other) (bytes_of new) [] apart
          ∙ sym (with_file_other file (bytes_of new) (content_of files) other isnt)
    ]

-- one file was changed
pub changed_file : (files : List MemFile) (file : DiskFile) (place : ℕ) (old new : MemFile) (change : List ℕ → List ℕ) → place ≡ place_of file → place < length files
    → old ≡ get_or files place old → bytes_of new ≡ change (bytes_of old) → content_of (set files place new) ≡ with_file file (change (content_of files file)) (content_of files)
changed_file files file place old new change e lt was is =
    let at : bytes_of new ≡ change (content_of files file) = is ∙ ap (λ it. change (bytes_of it)) was ∙ ap change (sym (content_at files file place old e lt)) in
    (λ i other. content_set files file place new e lt other i) ∙ ap (λ (l : List ℕ). with_file file l (content_of files)) at

-- a file that isn't there has no bytes, and none are cut off it
pub unchanged_file : (files : List MemFile) (file : DiskFile) (bytes : List ℕ) → bytes ≡ content_of files file → content_of files ≡ with_file file bytes (content_of files)
unchanged_file files file bytes e = λ i other. at other i
  where
    at : (other : DiskFile) → content_of files other ≡ with_file file bytes (content_of files) other
    at other = elim (cases_Bool (same_file file other)) [
      | inl is ↦
          let same : file ≡ other = same_file_is file other is in
          subst (λ it. content_of files it ≡ with_file file bytes (content_of files) it) same (sym e ∙ sym (with_file_same file bytes (content_of files)))
      | inr isnt ↦ sym (with_file_other file bytes (content_of files) other isnt)
    ]

-- what holds of each of a list's files holds with one more
pub each_more : (P : MemFile → Type 0) (files : List MemFile) (file : MemFile) → ((place : ℕ) (other : MemFile) → place < length files → P (get_or files place other)) → P file
    → (place : ℕ) (other : MemFile) → place < length (files ++ file ∷ []) → P (get_or (files ++ file ∷ []) place other)
each_more P files file each is place other lt = elim (cases_lt place (length files)) [
  | inl within ↦ subst P (sym (get_or_append_left files (file ∷ []) other place within)) (each place other within)
  | inr past ↦
      let end : length files ≡ place = omega (arith, length-append files (file ∷ [])) in
      subst P (sym (get_or_at files file [] other place end)) is
]

pub each_empty : (files : List MemFile) → ((place : ℕ) (other : MemFile) → place < length files → bytes_of (get_or files place other) ≡ []) → (file : DiskFile) → content_of files file ≡ []
each_empty [] each file = refl
each_empty (one ∷ files) each file = elim (cases_lt (place_of file) (length (one ∷ files))) [
  | inl within ↦ content_at (one ∷ files) file (place_of file) one refl within ∙ each (place_of file) one within
  | inr past ↦ content_past (one ∷ files) file past
]

-- files were copied one by one
pub copied_more : (files others : List MemFile) (place : ℕ) (new : MemFile) → place < length files
    → ((k : ℕ) (one two : MemFile) → k < place → bytes_of (get_or files k one) ≡ bytes_of (get_or others k two)) → ((two : MemFile) → bytes_of new ≡ bytes_of (get_or others place two))
    → (k : ℕ) (one two : MemFile) → k < place + 1 → bytes_of (get_or (set files place new) k one) ≡ bytes_of (get_or others k two)
copied_more files others place new lt done here k one two le = elim (cases_eq k place) [
  | inl same ↦
      ap (λ n. bytes_of (get_or (set files place new) n one)) same ∙ ap bytes_of (get_or-set_same files place new one lt) ∙ here two ∙ ap (λ n. bytes_of (get_or others n two)) (sym same)
  | inr apart ↦ ap bytes_of (get_or-set_other files place k new one apart) ∙ done k one two (omega arith)
]

pub all_copied : (files others : List MemFile) → length files ≡ length others
    → ((k : ℕ) (one two : MemFile) → k < length files → bytes_of (get_or files k one) ≡ bytes_of (get_or others k two)) → content_of files ≡ content_of others
all_copied files others size done =
    ap (λ (l : List (List ℕ)). λ (file : DiskFile). get_or l (place_of file) []) same
  where
    at : (fs os : List MemFile) → length fs ≡ length os → ((k : ℕ) (one two : MemFile) → k < length fs → bytes_of (get_or fs k one) ≡ bytes_of (get_or os k two)) → map bytes_of fs ≡ map bytes_of os
    at [] [] e each = refl
    at [] (o ∷ os) e each = absurd (omega arith)
    at (f ∷ fs) [] e each = absurd (omega arith)
    at (f ∷ fs) (o ∷ os) e each =
        let head : bytes_of f ≡ bytes_of o = each 0 f o (omega arith) in
        let tail : map bytes_of fs ≡ map bytes_of os = at fs os (omega arith) (λ k one two lt. each (suc k) one two (omega arith)) in
        λ i. head i ∷ tail i

    same : map bytes_of files ≡ map bytes_of others
    same = at files others size done

-- one file more, whose bytes are those of an image
pub imaged_more : (files : List MemFile) (file : MemFile) (place : ℕ) (own : DiskFile) (image : Image) → length files ≡ place → place_of own ≡ place → bytes_of file ≡ image own
    → ((k : ℕ) (other : MemFile) (it : DiskFile) → k < place → place_of it ≡ k → bytes_of (get_or files k other) ≡ image it)
    → (k : ℕ) (other : MemFile) (it : DiskFile) → k < place + 1 → place_of it ≡ k → bytes_of (get_or (files ++ file ∷ []) k other) ≡ image it
imaged_more files file place own image size is here done k other it lt e = elim (cases_lt k place) [
  | inl within ↦ ap bytes_of (get_or_append_left files (file ∷ []) other k (omega arith)) ∙ done k other it within e
  | inr past ↦
      let same : own ≡ it = place_is own it (omega arith) in
      ap bytes_of (get_or_at files file [] other k (omega arith)) ∙ here ∙ ap image same
]

-- files that are an image, which has no bytes of others
pub all_imaged : (files : List MemFile) (image : Image) → ((k : ℕ) (other : MemFile) (it : DiskFile) → k < length files → place_of it ≡ k → bytes_of (get_or files k other) ≡ image it)
    → ((it : DiskFile) → length files ≤ place_of it → image it ≡ []) → (it : DiskFile) → content_of files it ≡ image it
all_imaged [] image done none it = sym (none it (omega arith))
all_imaged (one ∷ files) image done none it = elim (cases_lt (place_of it) (length (one ∷ files))) [
  | inl within ↦ content_at (one ∷ files) it (place_of it) one refl within ∙ done (place_of it) one it within refl
  | inr past ↦ content_past (one ∷ files) it past ∙ sym (none it past)
]
