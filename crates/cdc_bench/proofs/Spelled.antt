-- A row event's body is spelled by its bytes.
use Rattle.std.proofs.Common.{◌≡◌, ℕ, ◌+◌, ◌^◌, ◌<◌, ◌≤◌, IsTrue, List, length, refl, arith}
use Rattle.cdc_event.specs.declared.body.Body.{Body}
use Rattle.cdc_event.specs.declared.body.Body.TheVariants.{Rows}
use Rattle.cdc_event.specs.Event.{FitsBody, body_bytes, is_rows_kind}
use Rattle.cdc_model.specs.Row.{IsRow}
use Rattle.cdc_model.specs.Run.{SpellsRow}

pub rows_spelled : (kind : ℕ) (bytes : List ℕ) → IsTrue (is_rows_kind kind) → kind < 256 → 19 + length bytes ≤ 2 ^ 27
    → (body : Body) × SpellsRow kind bytes body
unfolding FitsBody body_bytes
rows_spelled kind bytes rows numbered most = (
  Rows bytes,
  record {
    row = record { fits = tt; kind = rows; numbered = numbered; most = most };
    spelled = refl;
  },
)
