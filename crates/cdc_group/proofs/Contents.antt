-- What a group holds, by its rows and whether its one row is a statement.
use Rattle.std.proofs.Common.{◌≡◌, suc, ◌==◌, Bool, true, false, List, [], ◌∷◌, ◌++◌, length, Some, None, refl, arith}
use Rattle.std.proofs.lemmas.Bool.Decides.{nat_tests}
use Rattle.cdc_model.specs.declared.fault.GroupFault.{GroupFault}
use Rattle.cdc_model.specs.declared.fault.GroupFault.TheVariants.{BadDdl}
use Rattle.cdc_model.specs.Records.{Row}
use Rattle.cdc_model.specs.Group.{TableRows, OneStatement, rows_of}
use Rattle.cdc_model.specs.Misfit.{misfit_statement, misfit_row}
use Rattle.cdc_model.specs.Advance.{with_row}
use Rattle.cdc_group.specs.State.{group_content}

not_empty : (row : Row) (rows : List Row) → (length (row ∷ rows) == 0) ≡ true → ⊥
not_empty row rows e = let none : suc (length rows) ≡ 0 = grind (arith, nat_tests, e) in omega arith

is_empty : (length {A = Row} [] == 0) ≡ false → ⊥
is_empty e = cc

pub none_yet : (statement : Bool) (rows : List Row) → (length rows == 0) ≡ true → misfit_statement (group_content statement rows) ≡ None
none_yet false [] e = refl
none_yet true [] e = refl
none_yet statement (row ∷ rows) e = absurd (not_empty row rows e)

pub some_already : (statement : Bool) (rows : List Row) → (length rows == 0) ≡ false → misfit_statement (group_content statement rows) ≡ Some BadDdl
some_already statement [] e = absurd (is_empty e)
some_already false (row ∷ rows) e = refl
some_already true (row ∷ []) e = refl
some_already true (row ∷ other ∷ rows) e = refl

pub one_statement : (statement : Bool) (rows : List Row) → statement ≡ true → length rows ≡ 1 → misfit_row (group_content statement rows) ≡ Some BadDdl
one_statement false rows e one = absurd (let h : false ≡ true = e in cc)
one_statement true [] e one = absurd (omega (arith, one))
one_statement true (row ∷ []) e one = refl
one_statement true (row ∷ other ∷ rows) e one = absurd (omega (arith, one))

pub of_tables : (statement : Bool) (rows : List Row) → statement ≡ false → misfit_row (group_content statement rows) ≡ None
of_tables false rows e = refl
of_tables true rows e = absurd (let h : true ≡ false = e in cc)

pub not_alone : (statement : Bool) (rows : List Row) → (length rows ≡ 1 → ⊥) → misfit_row (group_content statement rows) ≡ None
not_alone false rows many = refl
not_alone true [] many = refl
not_alone true (row ∷ []) many = absurd (many refl)
not_alone true (row ∷ other ∷ rows) many = refl

no_fault : (fault : GroupFault) → Some fault ≡ None → ⊥
no_fault fault e = cc

-- a statement that fits is the group's one row
pub statement_added : (statement : Bool) (rows : List Row) (row : Row) → misfit_statement (group_content statement rows) ≡ None
    → group_content true (rows ++ row ∷ []) ≡ OneStatement row
statement_added statement [] row e = refl
statement_added false (first ∷ rows) row e = absurd (no_fault BadDdl e)
statement_added true (first ∷ []) row e = absurd (no_fault BadDdl e)
statement_added true (first ∷ other ∷ rows) row e = absurd (no_fault BadDdl e)

-- a row that fits stands behind rows of tables
pub row_added : (statement : Bool) (rows : List Row) (row : Row) → misfit_row (group_content statement rows) ≡ None
    → TableRows (rows ++ row ∷ []) ≡ with_row (group_content statement rows) row
row_added false rows row e = refl
row_added true [] row e = refl
row_added true (first ∷ []) row e = absurd (no_fault BadDdl e)
row_added true (first ∷ other ∷ rows) row e = refl

-- a group's rows are its content's
pub content_rows : (statement : Bool) (rows : List Row) → rows_of (group_content statement rows) ≡ rows
content_rows false rows = refl
content_rows true [] = refl
content_rows true (row ∷ []) = refl
content_rows true (row ∷ other ∷ rows) = refl
