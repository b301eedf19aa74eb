-- The counts of the outputs' disks: none falls, and a stage failed by its disk only where the disk's count rose.
use Rattle.std.proofs.Common.{◌≡◌, ℕ, ◌≤◌, ⊎_elim, List, [], ◌∷◌, Option, subst}
use Rattle.std.specs.List.{AllZip}
use Rattle.cdc_base.specs.declared.key.Key.{Key}
use Rattle.cdc_outside.specs.Count.{Rose}
use Rattle.cdc_dumper.specs.State.{DumperState}
use Rattle.cdc_turns.specs.Joined.{AllTurned}
use Rattle.cdc_item.specs.declared.dump_item.DumpItem.{DumpItem}
use Rattle.cdc_dump_stage.specs.declared.dump_end.DumpEnd.{DumpEnd}
use Rattle.cdc_dump_stage.specs.declared.dump_end.DumpEnd.TheVariants.{Disk}
use Rattle.cdc_dump_stage.specs.Disks.{DiskWords}
use Rattle.cdc_dump_stage.specs.Taking.{StartsAs}
use Rattle.cdc_dump_stage.specs.Job.{StagedDisk, HasGone}
use Rattle.cdc_opening.specs.Lists.{AllThree}
use Rattle.cdc_windows.specs.Jobs.{IsJobOf}
use Rattle.cdc_windows.specs.Windows.{disks_of}

one_rose : {D : Type 0} (w : DiskWords D) (start : Option (ℕ × Key)) (dumper : DumperState) (disk : D) (first : StagedDisk D) (items : List DumpItem) (last : StagedDisk D) → IsJobOf start dumper disk first → HasGone w first items last
    → last.stage.end ≡ Disk → Rose (w.faults disk) (w.faults last.disk)
one_rose {D} w start dumper disk first items last made gone is =
    ⊎_elim
    (λ (was : first.stage.end ≡ Disk). absurd (subst (λ (e : DumpEnd). StartsAs dumper.published start e) was made.starts))
    (λ (rose : Rose (w.faults first.disk) (w.faults last.disk)). subst (λ (v : D). Rose (w.faults v) (w.faults last.disk)) made.of_disk rose) (gone.fails is)

pub outs_rose : {D : Type 0} (w : DiskWords D) (start : Option (ℕ × Key)) (dumpers : List DumperState) (disks : List D) (firsts : List (StagedDisk D)) (items : List (List DumpItem)) (lasts : List (StagedDisk D))
    → AllThree (IsJobOf start) dumpers disks firsts → AllTurned (HasGone w) firsts items lasts → AllZip (λ (old : D) (job : StagedDisk D). job.stage.end ≡ Disk → Rose (w.faults old) (w.faults job.disk)) disks lasts
outs_rose w start [] [] [] [] [] made turned = tt
outs_rose w start [] [] [] [] (j ∷ lasts) made turned = absurd turned
outs_rose w start [] [] [] (i ∷ items) lasts made turned = absurd turned
outs_rose w start [] [] (f ∷ firsts) items lasts made turned = absurd made
outs_rose w start [] (o ∷ disks) firsts items lasts made turned = absurd made
outs_rose w start (d ∷ dumpers) [] firsts items lasts made turned = absurd made
outs_rose w start (d ∷ dumpers) (o ∷ disks) [] items lasts made turned = absurd made
outs_rose w start (d ∷ dumpers) (o ∷ disks) (f ∷ firsts) [] lasts made turned = absurd turned
outs_rose w start (d ∷ dumpers) (o ∷ disks) (f ∷ firsts) (i ∷ items) [] made turned = absurd turned
outs_rose w start (d ∷ dumpers) (o ∷ disks) (f ∷ firsts) (i ∷ items) (j ∷ lasts) made turned = (one_rose w start d o f i j made.0 turned.0, outs_rose w start dumpers disks firsts items lasts made.1 turned.1)

-- none falls
pub outs_later : {D : Type 0} (w : DiskWords D) (start : Option (ℕ × Key)) (dumpers : List DumperState) (disks : List D) (firsts : List (StagedDisk D)) (items : List (List DumpItem)) (lasts : List (StagedDisk D))
    → AllThree (IsJobOf start) dumpers disks firsts → AllTurned (HasGone w) firsts items lasts → AllZip (λ (old : D) (new : D). w.faults old ≤ w.faults new) disks (disks_of lasts)
outs_later w start [] [] [] [] [] made turned = tt
outs_later w start [] [] [] [] (j ∷ lasts) made turned = absurd turned
outs_later w start [] [] [] (i ∷ items) lasts made turned = absurd turned
outs_later w start [] [] (f ∷ firsts) items lasts made turned = absurd made
outs_later w start [] (o ∷ disks) firsts items lasts made turned = absurd made
outs_later w start (d ∷ dumpers) [] firsts items lasts made turned = absurd made
outs_later w start (d ∷ dumpers) (o ∷ disks) [] items lasts made turned = absurd made
outs_later w start (d ∷ dumpers) (o ∷ disks) (f ∷ firsts) [] lasts made turned = absurd turned
outs_later w start (d ∷ dumpers) (o ∷ disks) (f ∷ firsts) (i ∷ items) [] made turned = absurd turned
outs_later {D} w start (d ∷ dumpers) (o ∷ disks) (f ∷ firsts) (i ∷ items) (j ∷ lasts) made turned = (
  subst (λ (v : D). w.faults v ≤ w.faults j.disk) made.0.of_disk turned.0.later,
  outs_later w start dumpers disks firsts items lasts made.1 turned.1,
)
