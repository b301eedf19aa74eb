-- Jobs made and taken apart, one more.
use Rattle.std.proofs.Common.{◌≡◌, ℕ, ◌+◌, ◌<◌, List, [], ◌∷◌, ◌++◌, length, Option, refl, sym, ◌∙◌, ap, subst, arith, append_assoc, append-nil}
use Rattle.std.specs.Prelude.{remove, slice_index_or}
use Rattle.std.specs.List.{AllZip}
use Rattle.cdc_base.specs.declared.key.Key.{Key}
use Rattle.cdc_dumper.specs.State.{DumperState, Stands}
use Rattle.cdc_dump_stage.specs.declared.dump_end.DumpEnd.{DumpEnd}
use Rattle.cdc_dump_stage.specs.declared.dump_end.DumpEnd.TheVariants.{Whole}
use Rattle.cdc_dump_stage.specs.declared.stage.DumpStage.{DumpStage}
use Rattle.cdc_dump_stage.specs.Disks.{DiskWords}
use Rattle.cdc_dump_stage.specs.Standing.{IsStanding}
use Rattle.cdc_dump_stage.specs.Taking.{StartsAs}
use Rattle.cdc_dump_stage.specs.Job.{StagedDisk}
use Rattle.cdc_opening.specs.Lists.{AllThree}
use Rattle.cdc_records.specs.declared.front.Front.{Front}
use Rattle.cdc_windows.specs.Jobs.{IsReadyOut}
use Rattle.cdc_windows.specs.Windows.{disks_of}

-- the first of each list goes, and what is made of both comes
pub left_more : {A B C : Type 0} (R : A → B → C → Type 0) (firsts : List A) (others : List B) (xs : List A) (ys : List B) (made : List C) (x : A) (y : B) (z : C) → 0 < length xs → 0 < length ys
    → x ≡ slice_index_or xs 0 x → y ≡ slice_index_or ys 0 y → R x y z
    → ((rest : List C) → AllThree R xs ys rest → AllThree R firsts others (made ++ rest))
    → (rest : List C) → AllThree R (remove xs 0) (remove ys 0) rest → AllThree R firsts others ((made ++ z ∷ []) ++ rest)
left_more R firsts others [] ys made x y z some any x_is y_is one left rest all = absurd (omega (arith, some))
left_more R firsts others (a ∷ xs) [] made x y z some any x_is y_is one left rest all = absurd (omega (arith, any))
left_more R firsts others (a ∷ xs) (b ∷ ys) made x y z some any x_is y_is one left rest all =
    subst (λ items. AllThree R firsts others items) (sym (append_assoc made (z ∷ []) rest))
    (left (z ∷ rest) (subst (λ v. R v b z) x_is (subst (λ v. R x v z) y_is one), all))

pub zip_rest : {A B : Type 0} (R : A → B → Type 0) (xs : List A) (ys : List B) → AllZip R xs ys → AllZip R (remove xs 0) (remove ys 0)
zip_rest R [] [] all = tt
zip_rest R [] (y ∷ ys) all = absurd all
zip_rest R (x ∷ xs) [] all = absurd all
zip_rest R (x ∷ xs) (y ∷ ys) all = all.1

pub zip_head : {A B : Type 0} (R : A → B → Type 0) (xs : List A) (ys : List B) (x : A) (y : B) → AllZip R xs ys → 0 < length xs → x ≡ slice_index_or xs 0 x → y ≡ slice_index_or ys 0 y → R x y
zip_head R [] [] x y all some x_is y_is = absurd (omega (arith, some))
zip_head R [] (b ∷ ys) x y all some x_is y_is = absurd all
zip_head R (a ∷ xs) [] x y all some x_is y_is = absurd all
zip_head R (a ∷ xs) (b ∷ ys) x y all some x_is y_is = subst (λ v. R v y) (sym x_is) (subst (λ v. R a v) (sym y_is) all.0)

-- all were made
pub none_left : {A B C : Type 0} (R : A → B → C → Type 0) (firsts : List A) (others : List B) (xs : List A) (ys : List B) (made : List C) → length xs ≡ 0 → length ys ≡ 0
    → ((rest : List C) → AllThree R xs ys rest → AllThree R firsts others (made ++ rest)) → AllThree R firsts others made
none_left R firsts others [] [] made none also left = subst (λ items. AllThree R firsts others items) (append-nil made) (left [] tt)
none_left R firsts others [] (y ∷ ys) made none also left = absurd (omega (arith, also))
none_left R firsts others (x ∷ xs) ys made none also left = absurd (omega (arith, none))

pub empty_list : {A : Type 0} (xs : List A) → length xs ≡ 0 → xs ≡ []
empty_list [] none = refl
empty_list (x ∷ xs) none = absurd (omega (arith, none))

pub shorter : {A : Type 0} (xs : List A) → 0 < length xs → length (remove xs 0) + 1 ≡ length xs
shorter [] some = absurd (omega (arith, some))
shorter (x ∷ xs) some = omega arith

-- disks given back
pub back_more : {D : Type 0} (outs : List D) (jobs : List (StagedDisk D)) (job : StagedDisk D) (disk : D) → 0 < length jobs → job ≡ slice_index_or jobs 0 job → disk ≡ job.disk
    → (outs ++ disk ∷ []) ++ disks_of (remove jobs 0) ≡ outs ++ disks_of jobs
back_more outs [] job disk some is of = absurd (omega (arith, some))
back_more {D} outs (j ∷ jobs) job disk some is of = append_assoc outs (disk ∷ []) (disks_of jobs) ∙ ap (λ (d : D). outs ++ d ∷ disks_of jobs) (of ∙ ap (λ (v : StagedDisk D). v.disk) is)

-- a stage at its start isn't whole
starts_not_whole : (front : Front) (start : Option (ℕ × Key)) (e : DumpEnd) → StartsAs front start e → e ≡ Whole → ⊥
starts_not_whole front start e starts is = subst (λ (d : DumpEnd). StartsAs front start d) is starts

-- a stage that begins stands over its disk
pub stands_new : {D : Type 0} (w : DiskWords D) (dumper : DumperState) (disk : D) (start : Option (ℕ × Key)) (stage : DumpStage) → IsReadyOut w dumper disk → stage.dumper ≡ dumper → StartsAs dumper.published start stage.end → stage.waiting ≡ 0 → IsStanding w stage disk
stands_new w dumper disk start stage ready of starts waiting = record {
  works = λ well. ap (λ (d : DumperState). d.failed) of ∙ ready.works;
  stands = λ told well. subst (λ (d : DumperState). Stands d (w.seen disk) (w.synced disk) (w.pending disk)) (sym of) (ready.stands told);
  few = λ well.
      let same : stage.dumper.appended.count ≡ stage.dumper.published.count = ap (λ (d : DumperState). d.appended.count) of ∙ (ap (λ (f : Front). f.count) ready.settled ∙ ap (λ (d : DumperState). d.published.count) (sym of)) in
      omega (arith, same);
  small = omega (arith, waiting);
  whole = λ is. absurd (starts_not_whole dumper.published start stage.end starts is);
}
