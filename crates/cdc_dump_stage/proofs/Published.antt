-- A whole output keeps all that was taken.
use Rattle.std.proofs.Common.{◌≡◌, ℕ, inl, inr, List, refl, sym, subst}
use Rattle.cdc_model.specs.Records.{Transaction}
use Rattle.cdc_records.specs.declared.front.Front.{Front}
use Rattle.cdc_records.specs.Front.{HasFront}
use Rattle.cdc_recovery.specs.Outputs.{OutputPlan, KeepsFrom}
use Rattle.cdc_dump_stage.specs.declared.dump_end.DumpEnd.TheVariants.{Whole}
use Rattle.cdc_dump_stage.specs.declared.stage.DumpStage.{DumpStage}
use Rattle.cdc_dump_stage.specs.Disks.{DiskWords}
use Rattle.cdc_dump_stage.specs.Standing.{IsReadyFor}

-- what is seen keeps them
pub whole_keeps : {D : Type 0} (w : DiskWords D) (plan : OutputPlan) (txns : List Transaction) (sent : ℕ) (stage : DumpStage) (disk : D) → HasFront (w.seen disk) stage.dumper.published → stage.dumper.appended ≡ stage.dumper.published → stage.end ≡ Whole
    → IsReadyFor w plan txns sent stage disk → KeepsFrom plan txns sent (w.seen disk)
whole_keeps w plan txns sent stage disk has all whole (inl working) = record {
  count = stage.dumper.appended.count;
  reached = working.counted;
  keeps = record {
    front = stage.dumper.appended;
    is_front = subst (λ (f : Front). HasFront (w.seen disk) f) (sym all) has;
    counted = refl;
    is_kept = working.fronts.appended;
  };
}
whole_keeps w plan txns sent stage disk has all whole (inr failed) = absurd cc
