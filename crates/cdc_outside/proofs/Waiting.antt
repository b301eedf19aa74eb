-- Writes that wait for a sync, behind what is to stay.
use Rattle.std.proofs.Common.{◌≡◌, inl, inr, ℕ, ◌≤◌, ◌<◌, false}
use Rattle.std.proofs.Common.{List, [], ◌∷◌, ◌++◌, length, take, refl, sym, ◌∙◌, ap, subst, arith, length-take}
use Rattle.std.proofs.lemmas.Bool.{cases_Bool}
use Rattle.std.proofs.lemmas.Bool.Decides.{nat_tests}
use Rattle.std.proofs.lemmas.Grind.{same_number_lists}
use Rattle.std.proofs.lemmas.List.{get_or-take}
use Rattle.std.specs.Prelude.{Option, None, Some}
use Rattle.cdc_outside.specs.declared.disk_file.DiskFile.{DiskFile}
use Rattle.cdc_outside.specs.Disk.{Image, Change, Wrote, CutTo, MayLeave, Begins, Keep, AreBehind, FileWaits, IsPlaceBehind, IsWaiting, KeepsFile, KeepsBelow, same_file, with_file, shortest, is_written}
use Rattle.cdc_outside.proofs.Pending.{Leaves, as_synced, same_file_is, with_file_same, with_file_other}

behind_more : (kept : ℕ) (changes : List Change) (at count : ℕ) → AreBehind kept changes → kept ≤ at → AreBehind kept (changes ++ Wrote at count ∷ [])
behind_more kept [] at count are le = (le, tt)
behind_more kept (Wrote a b ∷ changes) at count are le = (are.0, behind_more kept changes at count are.1 le)
behind_more kept (CutTo to ∷ changes) at count are le = (are.0, behind_more kept changes at count are.1 le)

behind_shortest : (kept synced : ℕ) (changes : List Change) → kept ≤ synced → AreBehind kept changes → kept ≤ shortest synced changes
behind_shortest kept synced [] le are = le
behind_shortest kept synced (Wrote a b ∷ changes) le are = behind_shortest kept synced changes le are.1
behind_shortest kept synced (CutTo to ∷ changes) le are = omega (arith, behind_shortest kept synced changes le are.1, are.0)

behind_unwritten : (kept place : ℕ) (changes : List Change) → place < kept → AreBehind kept changes → is_written place changes ≡ false
behind_unwritten kept place [] lt are = refl
behind_unwritten kept place (Wrote a b ∷ changes) lt are =
    let rest = behind_unwritten kept place changes lt are.1 in
    let low = are.0 in
    grind (arith, nat_tests)
behind_unwritten kept place (CutTo to ∷ changes) lt are = behind_unwritten kept place changes lt are.1

-- what is to stay of a file is in every image
behind_kept : (kept : ℕ) (synced left : List ℕ) (changes : List Change) → kept ≤ length synced → AreBehind kept changes → MayLeave synced changes left
    → (kept ≤ length left) × (take kept left ≡ take kept synced)
behind_kept kept synced left changes le are may =
    let short = behind_shortest kept (length synced) changes le are in
    let long : kept ≤ length left = omega (arith, short, may.no_shorter) in (
      long,
      same_number_lists (take kept left) (take kept synced) (omega (arith, length-take kept left, length-take kept synced)) (λ k lt.
          let within : k < kept = omega (arith, length-take kept left) in
          get_or-take kept left k 0 within ∙ may.same k (omega (arith, short)) (behind_unwritten kept k changes within are) ∙ sym (get_or-take kept synced k 0 within)),
    )

-- so where writes wait, a crash leaves what is to stay
file_kept : (kept : Option ℕ) (seen synced left : List ℕ) (changes : List Change) → FileWaits kept seen synced changes → MayLeave synced changes left → KeepsFile kept seen left
file_kept None seen synced left changes waits may = as_synced synced left (subst (λ cs. MayLeave synced cs left) waits.1 may) ∙ waits.0
file_kept (Some kept) seen synced left changes waits may =
    let stays = behind_kept kept synced left changes waits.0 waits.1 may in
    (stays.0, stays.1 ∙ sym waits.2)

pub waiting_kept : (keep : Keep) (seen synced : Image) (pending : DiskFile → List Change) (image : Image) → IsWaiting keep seen synced pending → Leaves synced pending image → KeepsBelow keep seen image
waiting_kept keep seen synced pending image waits leaves = λ file. file_kept (keep file) (seen file) (synced file) (image file) (pending file) (waits file) (leaves file)

-- what is seen is an image, so it waits as well
file_seen : (kept : Option ℕ) (seen now synced : List ℕ) (changes more : List Change) → FileWaits kept seen synced changes
    → ((n : ℕ) → kept ≡ Some n → AreBehind n more) → (kept ≡ None → more ≡ []) → MayLeave synced more now → FileWaits kept now synced more
file_seen None seen now synced changes more waits behind none may =
    (sym (as_synced synced now (subst (λ cs. MayLeave synced cs now) (none refl) may)), none refl)
file_seen (Some kept) seen now synced changes more waits behind none may =
    let are = behind kept refl in
    let stays = behind_kept kept synced now more waits.0 are may in
    (waits.0, are, stays.1)

-- what is pending of one file stays behind, with one write more
file_behind : (kept : Option ℕ) (seen synced : List ℕ) (changes : List Change) → FileWaits kept seen synced changes → (n : ℕ) → kept ≡ Some n → AreBehind n changes
file_behind None seen synced changes waits n is = absurd (cc)
file_behind (Some kept) seen synced changes waits n is = let same : kept ≡ n = cc in subst (λ m. AreBehind m changes) same waits.1

file_behind_more : (kept : Option ℕ) (seen synced : List ℕ) (changes : List Change) (at count : ℕ) → FileWaits kept seen synced changes → IsPlaceBehind kept at
    → (n : ℕ) → kept ≡ Some n → AreBehind n (changes ++ Wrote at count ∷ [])
file_behind_more None seen synced changes at count waits place n is = absurd place
file_behind_more (Some kept) seen synced changes at count waits place n is =
    let same : kept ≡ n = cc in
    subst (λ m. AreBehind m (changes ++ Wrote at count ∷ [])) same (behind_more kept changes at count waits.1 place)

file_none : (kept : Option ℕ) (seen synced : List ℕ) (changes : List Change) → FileWaits kept seen synced changes → kept ≡ None → changes ≡ []
file_none None seen synced changes waits is = waits.1
file_none (Some kept) seen synced changes waits is = absurd (cc)

file_not_none : (kept : Option ℕ) (at : ℕ) (more : List Change) → IsPlaceBehind kept at → kept ≡ None → more ≡ []
file_not_none None at more place is = absurd place
file_not_none (Some kept) at more place is = absurd (cc)

module _ (file : DiskFile) (at count : ℕ) (keep : Keep) (place : IsPlaceBehind (keep file) at) (seen now synced : Image) (pending more : DiskFile → List Change)
    (waits : IsWaiting keep seen synced pending) (leaves : Leaves synced more now) where
  waits_same : more ≡ pending → IsWaiting keep now synced more
  waits_same same = λ other.
      let e : more other ≡ pending other = ap (λ (p : DiskFile → List Change). p other) same in
      file_seen (keep other) (seen other) (now other) (synced other) (pending other) (more other) (waits other)
      (λ n is. subst (AreBehind n) (sym e) (file_behind (keep other) (seen other) (synced other) (pending other) (waits other) n is))
      (λ is. e ∙ file_none (keep other) (seen other) (synced other) (pending other) (waits other) is) (leaves other)

  waits_begun : more ≡ with_file file (pending file ++ Wrote at count ∷ []) pending → IsWaiting keep now synced more
  waits_begun begun = λ other. elim (cases_Bool (same_file file other)) [
    | inl is ↦
        let at_other : file ≡ other = same_file_is file other is in
        subst (λ o. FileWaits (keep o) (now o) (synced o) (more o)) at_other own
    | inr isnt ↦
        let e : more other ≡ pending other = ap (λ (p : DiskFile → List Change). p other) begun ∙ with_file_other file (pending file ++ Wrote at count ∷ []) pending other isnt in
        file_seen (keep other) (seen other) (now other) (synced other) (pending other) (more other) (waits other)
        (λ n is. subst (AreBehind n) (sym e) (file_behind (keep other) (seen other) (synced other) (pending other) (waits other) n is))
        (λ is. e ∙ file_none (keep other) (seen other) (synced other) (pending other) (waits other) is) (leaves other)
  ]
    where
      own_is : more file ≡ pending file ++ Wrote at count ∷ []
      own_is = ap (λ (p : DiskFile → List Change). p file) begun ∙ with_file_same file (pending file ++ Wrote at count ∷ []) pending

      own : FileWaits (keep file) (now file) (synced file) (more file)
      own =
          file_seen (keep file) (seen file) (now file) (synced file) (pending file) (more file) (waits file)
          (λ n is. subst (AreBehind n) (sym own_is) (file_behind_more (keep file) (seen file) (synced file) (pending file) at count (waits file) place n is))
          (λ is. file_not_none (keep file) at (more file) place is) (leaves file)

  pub still_waits : Begins file (Wrote at count) pending more → IsWaiting keep now synced more
  still_waits (inl same) = waits_same same
  still_waits (inr begun) = waits_begun begun

-- what is to stay is the same, whichever of the two contents is looked at
file_as_before : (kept : Option ℕ) (seen now synced left : List ℕ) (changes more : List Change) → FileWaits kept seen synced changes → FileWaits kept now synced more → KeepsFile kept now left → KeepsFile kept seen left
file_as_before None seen now synced left changes more was is keeps = keeps ∙ sym is.0 ∙ was.0
file_as_before (Some kept) seen now synced left changes more was is keeps = (keeps.0, keeps.1 ∙ is.2 ∙ sym was.2)

pub kept_as_before : (keep : Keep) (seen now synced : Image) (pending more : DiskFile → List Change) (image : Image) → IsWaiting keep seen synced pending → IsWaiting keep now synced more
    → KeepsBelow keep now image → KeepsBelow keep seen image
kept_as_before keep seen now synced pending more image was is keeps =
    λ file. file_as_before (keep file) (seen file) (now file) (synced file) (image file) (pending file) (more file) (was file) (is file) (keeps file)
