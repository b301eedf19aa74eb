-- Rows that are printed.
use Rattle.std.proofs.Common.{◌≡◌, ℕ, ◌+◌, ◌<◌, ◌^◌, IsTrue, Bool, true, false, cond, List, [], ◌∷◌, ◌++◌, length, drop, get_or, is_none, refl, ap, sym, subst, ◌∙◌, arith}
use Rattle.cdc_base.specs.declared.rename.Rename.{Rename}
use Rattle.cdc_event.specs.declared.body.Body.{Body}
use Rattle.cdc_model.specs.Records.{Row, CommittedBranch}
use Rattle.cdc_model.specs.Kept.{IsRow}
use Rattle.cdc_model.specs.Print.{row_length, row_events, without_statement, branch_statement}
use Rattle.cdc_rename.specs.Names.{KeepsRow}
use Rattle.cdc_writer.specs.Events.{IsPrintable, renamed_rows}
use Rattle.cdc_writer.specs.Statements.{branch_events}
use Rattle.cdc_writer.proofs.Laid.{item_first}

-- a kept row may be printed under other names
pub row_printable : (at : ℕ) (row : Row) (body : Body) → IsRow row → KeepsRow row.1 body → at + row_length (row.0, body) < 2 ^ 32 → IsPrintable at (row.0, body)
row_printable at row body kept keeps room = record {
  fits = keeps.fits kept.fits;
  kind = subst IsTrue (sym (keeps.kind row.0)) kept.kind;
  most = omega (arith, keeps.size, kept.most);
  room = room;
}

-- the first branch of what is left
branch_step : (rules : List Rename) (branch : CommittedBranch) (rest : List CommittedBranch) (none : Bool) → row_events rules (cond none (branch ∷ without_statement rest) (without_statement rest)) ≡ cond none (renamed_rows rules branch.rows) [] ++ row_events rules (without_statement rest)
branch_step rules branch rest true = refl
branch_step rules branch rest false = refl

pub branches_first : (rules : List Rename) (branches : List CommittedBranch) (i : ℕ) (branch : CommittedBranch) → i < length branches → branch ≡ get_or branches i branch → row_events rules (without_statement (drop i branches)) ≡ branch_events rules branch ++ row_events rules (without_statement (drop (i + 1) branches))
branches_first rules branches i branch lt e =
    ap (λ left. row_events rules (without_statement left)) (item_first branches i branch lt e)
    ∙ branch_step rules branch (drop (i + 1) branches) (is_none (branch_statement branch.rows))
