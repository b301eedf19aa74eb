-- An output and a task that have nothing.
use Rattle.std.proofs.Common.{refl, arith}
use Rattle.cdc_records.specs.Front.{no_front}
use Rattle.cdc_recovery.specs.Laws.{NothingIsKept, NoTaskIsKept}

pub nothing_is_kept : NothingIsKept
nothing_is_kept plan txns = record {
  front = no_front;
  is_front = record { cell = refl; kept = refl };
  counted = refl;
  is_kept = record {
    within = omega arith;
    layout = refl;
    files = refl;
    passed = refl;
    last = λ key e. absurd cc;
    behind = λ file above. refl;
  };
}

pub no_task_is_kept : NoTaskIsKept
no_task_is_kept plan logs = record { has = record { cell = refl; kept = tt }; recoverable = tt }
