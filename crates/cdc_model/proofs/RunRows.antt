-- Rows as one run of bytes: what is laid is read again, and a run begins with its first row.
use Rattle.std.proofs.Common.{◌≡◌, ℕ, zero, suc, ◌+◌, ◌-◌, ◌*◌, ◌^◌, ◌<◌, ◌≤◌, ◌==◌, Bool, true, false, IsTrue, List, [], ◌∷◌, ◌++◌, length, take, drop, get_or, min, Option, Some, None, refl, ap, sym, subst, ◌∙◌, arith, length-append, append_assoc, append-nil}
use Rattle.std.specs.List.{AllByRecursion, sum_by}
use Rattle.std.proofs.lemmas.List.Sums.{sum_by-cons}
use Rattle.std.proofs.Math.Seq.{drop-append_seam, take-append_seam}
use Rattle.cdc_event.specs.declared.body.Body.{Body}
use Rattle.cdc_event.specs.declared.body.Body.TheVariants.{Format, Query, Rotate, RowsQuery, TableMap, Rows, XaPrepare, Timestamp, Skipped}
use Rattle.cdc_event.specs.declared.body.Body.TheVariants.{Xid as XidEvent}
use Rattle.cdc_event.specs.Number.{low_first, number_of}
use Rattle.cdc_event.specs.Event.{body_bytes, FitsBody, has_kind}
use Rattle.cdc_event.specs.Reading.{HasKnownAlgorithm, IsBodyOf}
use Rattle.cdc_event.proofs.Numbers.{number_again, length_low_first}
use Rattle.cdc_event.proofs.Bodies.{is_kind, body_again}
use Rattle.cdc_event.proofs.FormatBody.{format_is}
use Rattle.cdc_model.specs.Row.{Row, IsRow}
use Rattle.cdc_model.specs.Run.{row_bytes, run_bytes, run_body, run_rows, IsRun, SpellsRow, seen_row, first_kind, first_length, first_own, first_behind}

-- ---- a body's bytes are read as the body

pub no_test : false ≡ true → ⊥
no_test e = cc

-- a body that stands under a type, and not under 15, is of another type
pub not_format : (kind : ℕ) (body : Body) → has_kind body 15 ≡ false → IsTrue (has_kind body kind) → (kind == 15) ≡ false
not_format kind body other typed = by (kind == 15) refl
  where
    by : (test : Bool) → (kind == 15) ≡ test → test ≡ false
    by true e =
        let under : IsTrue (has_kind body 15) = subst (λ (n : ℕ). IsTrue (has_kind body n)) (is_kind kind 15 e) typed in
        absurd (no_test (sym other ∙ under))
    by false e = refl

pub other_back : (kind : ℕ) (body : Body) → HasKnownAlgorithm body → has_kind body 15 ≡ false → FitsBody body → IsTrue (has_kind body kind)
    → run_body kind (body_bytes body) ≡ body
unfolding run_body
other_back kind body known other fits typed =
    rw (not_format kind body other typed, body_again kind (body_bytes body) body record { fits = fits; typed = typed; algorithm = known; spelled = refl }) refl

pub format_back : (kind : ℕ) (text : List ℕ) (created : ℕ) (lengths : List ℕ) (checksum tail : ℕ) → FitsBody (Format text created lengths checksum tail)
    → kind ≡ 15 → run_body kind (body_bytes (Format text created lengths checksum tail)) ≡ Format text created lengths checksum tail
unfolding run_body
format_back kind text created lengths checksum tail fits is =
    rw is (format_is (body_bytes (Format text created lengths checksum tail)) text created lengths checksum tail fits refl)

pub body_back : (kind : ℕ) (body : Body) → FitsBody body → IsTrue (has_kind body kind) → run_body kind (body_bytes body) ≡ body
body_back kind (Format text created lengths checksum tail) fits typed =
    format_back kind text created lengths checksum tail fits (is_kind kind 15 typed)
body_back kind (Query thread seconds error status db text) fits typed =
    other_back kind (Query thread seconds error status db text) tt refl fits typed
body_back kind (Rotate position name) fits typed = other_back kind (Rotate position name) tt refl fits typed
body_back kind (XidEvent number) fits typed = other_back kind (XidEvent number) tt refl fits typed
body_back kind (RowsQuery size text) fits typed = other_back kind (RowsQuery size text) tt refl fits typed
body_back kind (TableMap table flags db name rest) fits typed =
    other_back kind (TableMap table flags db name rest) tt refl fits typed
body_back kind (Rows bytes) fits typed = other_back kind (Rows bytes) tt refl fits typed
body_back kind (XaPrepare one_phase xid) fits typed = other_back kind (XaPrepare one_phase xid) tt refl fits typed
body_back kind (Timestamp class value) fits typed = other_back kind (Timestamp class value) tt refl fits typed
body_back kind (Skipped bytes) fits typed = other_back kind (Skipped bytes) tt refl fits typed

pub row_back : (row : Row) → IsRow row → seen_row row.0 (body_bytes row.1) ≡ row
row_back (kind, body) is = ap (λ (b : Body). (kind, b)) (body_back kind body is.fits is.kind)

-- bytes that spell a row are seen as it
pub seen_is : (kind : ℕ) (bytes : List ℕ) (body : Body) → SpellsRow kind bytes body → seen_row kind bytes ≡ (kind, body)
seen_is kind bytes body spells = ap (seen_row kind) spells.spelled ∙ row_back (kind, body) spells.row

-- ---- the first row of a run

pub cut_here : (kind count size : ℕ) (own behind : List ℕ) → size ≡ length own
    → (kind, run_body kind (take size (own ++ behind))) ∷ run_rows count (drop size (own ++ behind)) ≡ (kind, run_body kind own) ∷ run_rows count behind
cut_here kind count size own behind is = rw (is, take-append_seam own behind, drop-append_seam own behind) refl

pub length_back : (row : Row) → IsRow row → number_of (low_first 4 (length (body_bytes row.1))) ≡ length (body_bytes row.1)
length_back row is = number_again 4 (length (body_bytes row.1)) (omega (arith, is.most))

pub first_read : (row : Row) (count : ℕ) (behind : List ℕ) → IsRow row
    → run_rows (suc count) (row_bytes row ++ behind) ≡ seen_row row.0 (body_bytes row.1) ∷ run_rows count behind
unfolding run_rows low_first
first_read row count behind is =
    cut_here row.0 count (number_of (low_first 4 (length (body_bytes row.1)))) (body_bytes row.1) behind (length_back row is)

pub first_row : (row : Row) (count : ℕ) (behind : List ℕ) → IsRow row → run_rows (suc count) (row_bytes row ++ behind) ≡ row ∷ run_rows count behind
first_row row count behind is = first_read row count behind is ∙ ap (λ (r : Row). r ∷ run_rows count behind) (row_back row is)

-- rows that are laid are read again
pub rows_back : (rows : List Row) → AllByRecursion IsRow rows → run_rows (length rows) (run_bytes rows) ≡ rows
unfolding run_rows
rows_back [] all = refl
rows_back (row ∷ rows) (is, all) = first_row row (length rows) (run_bytes rows) is ∙ ap (λ (list : List Row). row ∷ list) (rows_back rows all)

-- a run's rows are those that it is seen as
pub rows_are : (count : ℕ) (bytes : List ℕ) (rows : List Row) → IsRun count bytes rows → run_rows count bytes ≡ rows
rows_are count bytes rows run = rw (run.counted, run.spelled) (rows_back rows run.all)

pub run_is : (count : ℕ) (bytes : List ℕ) (rows : List Row) → IsRun count bytes rows → IsRun count bytes (run_rows count bytes)
run_is count bytes rows run = subst (IsRun count bytes) (sym (rows_are count bytes rows run)) run

-- no rows, whatever the bytes
pub none_rows : (bytes : List ℕ) → run_rows 0 bytes ≡ []
unfolding run_rows
none_rows bytes = refl

pub none_run : (bytes : List ℕ) → bytes ≡ [] → IsRun 0 bytes (run_rows 0 bytes)
none_run bytes is = rw (is, none_rows []) record { counted = refl; spelled = refl; all = tt }

-- ---- one row more

pub run_append : (rows more : List Row) → run_bytes (rows ++ more) ≡ run_bytes rows ++ run_bytes more
run_append [] more = refl
run_append (row ∷ rows) more =
    ap (λ (list : List ℕ). row_bytes row ++ list) (run_append rows more) ∙ sym (append_assoc (row_bytes row) (run_bytes rows) (run_bytes more))

pub one_run : (row : Row) → run_bytes (row ∷ []) ≡ row_bytes row
one_run row = append-nil (row_bytes row)

pub all_more : (rows : List Row) (row : Row) → AllByRecursion IsRow rows → IsRow row → AllByRecursion IsRow (rows ++ row ∷ [])
all_more [] row all is = (is, tt)
all_more (first ∷ rows) row (one, all) is = (one, all_more rows row all is)

pub run_more : (count : ℕ) (bytes : List ℕ) (rows : List Row) (row : Row) (bytes' : List ℕ) → IsRun count bytes rows → IsRow row
    → bytes' ≡ bytes ++ row_bytes row → IsRun (count + 1) bytes' (rows ++ row ∷ [])
run_more count bytes rows row bytes' run is written = record {
  counted = omega (arith, run.counted, length-append rows (row ∷ []));
  spelled =
      written ∙ ap (λ (list : List ℕ). list ++ row_bytes row) run.spelled
      ∙ sym (run_append rows (row ∷ []) ∙ ap (λ (list : List ℕ). run_bytes rows ++ list) (one_run row));
  all = all_more rows row run.all is;
}

-- ---- how long a run is

pub row_size : (row : Row) → length (row_bytes row) ≡ 5 + length (body_bytes row.1)
row_size row =
    omega (arith, length-append (low_first 4 (length (body_bytes row.1))) (body_bytes row.1), length_low_first 4 (length (body_bytes row.1)))

-- of each row its event's length but for 14 bytes
pub run_size : (rows : List Row) → length (run_bytes rows) + 14 * length rows ≡ sum_by (λ (row : Row). 19 + length (body_bytes row.1)) rows
run_size [] = refl
run_size (row ∷ rows) =
    omega (arith, length-append (row_bytes row) (run_bytes rows), row_size row, run_size rows, sum_by-cons (λ (r : Row). 19 + length (body_bytes r.1)) row rows)

pub few_rows : (rows : List Row) → 5 * length rows ≤ length (run_bytes rows)
few_rows [] = omega arith
few_rows (row ∷ rows) = omega (arith, length-append (row_bytes row) (run_bytes rows), row_size row, few_rows rows)

pub few : (count : ℕ) (bytes : List ℕ) (rows : List Row) → IsRun count bytes rows → 5 * count ≤ length bytes
few count bytes rows run = rw (run.counted, run.spelled) (few_rows rows)

-- as events, up to the greatest number
pub events_size : (count : ℕ) (bytes : List ℕ) → IsRun count bytes (run_rows count bytes)
    → min (min (14 * count) (2 ^ 64 - 1) + length bytes) (2 ^ 64 - 1) ≡ min (sum_by (λ (row : Row). 19 + length (body_bytes row.1)) (run_rows count bytes)) (2 ^ 64 - 1)
events_size count bytes run =
    omega (arith, run_size (run_rows count bytes), ap length run.spelled, run.counted)

-- ---- what the first row is cut from

-- a run of one row or more: its first row is whole, and the others are the run of the rest
pub record IsCut (count : ℕ) (bytes : List ℕ) : Type 0 where
  pub long : 5 ≤ length bytes
  pub whole : first_length bytes ≤ length (drop 5 bytes)
  pub spells : SpellsRow (first_kind bytes) (first_own bytes) (run_body (first_kind bytes) (first_own bytes))
  pub first : run_rows (suc count) bytes ≡ seen_row (first_kind bytes) (first_own bytes) ∷ run_rows count (first_behind bytes)
  pub rest : IsRun count (first_behind bytes) (run_rows count (first_behind bytes))

-- the parts of the first row, as it is laid
pub record IsLaid (row : Row) (behind bytes : List ℕ) : Type 0 where
  pub kind : first_kind bytes ≡ row.0
  pub size : first_length bytes ≡ length (body_bytes row.1)
  pub tail : drop 5 bytes ≡ body_bytes row.1 ++ behind
  pub own : first_own bytes ≡ body_bytes row.1
  pub rest : first_behind bytes ≡ behind

pub is_laid : (row : Row) (behind : List ℕ) → IsRow row → IsLaid row behind (row_bytes row ++ behind)
unfolding low_first
is_laid row behind is =
    let size : number_of (low_first 4 (length (body_bytes row.1))) ≡ length (body_bytes row.1) = length_back row is in
    record {
      kind = refl;
      size = size;
      tail = refl;
      own = ap (λ (n : ℕ). take n (body_bytes row.1 ++ behind)) size ∙ take-append_seam (body_bytes row.1) behind;
      rest = ap (λ (n : ℕ). drop n (body_bytes row.1 ++ behind)) size ∙ drop-append_seam (body_bytes row.1) behind;
    }

pub cut_of : (count : ℕ) (row : Row) (rows : List Row) (bytes : List ℕ) → IsRow row → AllByRecursion IsRow rows → count ≡ length rows
    → bytes ≡ row_bytes row ++ run_bytes rows → IsLaid row (run_bytes rows) bytes → IsCut count bytes
cut_of count row rows bytes is all counted spelled laid =
    let run : IsRun count (first_behind bytes) rows = record { counted = counted; spelled = laid.rest; all = all } in
    let seen : seen_row (first_kind bytes) (first_own bytes) ≡ row = rw (laid.kind, laid.own) (row_back row is) in
    let body : run_body (first_kind bytes) (first_own bytes) ≡ row.1 = ap (λ (r : Row). r.1) seen in
    record {
      long = omega (arith, ap length spelled, length-append (row_bytes row) (run_bytes rows), row_size row);
      whole = omega (arith, laid.size, ap length laid.tail, length-append (body_bytes row.1) (run_bytes rows));
      spells = record {
        row = subst IsRow (sym seen) is;
        spelled = laid.own ∙ ap body_bytes (sym body);
      };
      first =
          ap (run_rows (suc count)) spelled ∙ first_row row count (run_bytes rows) is
          ∙ ap (λ (r : Row). r ∷ run_rows count (run_bytes rows)) (sym seen)
          ∙ ap (λ (list : List ℕ). seen_row (first_kind bytes) (first_own bytes) ∷ run_rows count list) (sym laid.rest);
      rest = run_is count (first_behind bytes) rows run;
    }

pub begins : (count : ℕ) (bytes : List ℕ) (rows : List Row) → IsRun (suc count) bytes rows → IsCut count bytes
begins count bytes [] run = absurd (omega (arith, run.counted))
begins count bytes (row ∷ rows) run =
    let laid : IsLaid row (run_bytes rows) bytes = subst (IsLaid row (run_bytes rows)) (sym run.spelled) (is_laid row (run_bytes rows) run.all.0) in
    cut_of count row rows bytes run.all.0 run.all.1 (omega (arith, run.counted)) run.spelled laid

pub begins_at : (count : ℕ) (bytes : List ℕ) (rows : List Row) → (count ≡ 0 → ⊥) → IsRun count bytes rows → IsCut (count - 1) bytes
begins_at zero bytes rows some run = absurd (some refl)
begins_at (suc count) bytes rows some run =
    let less : suc count - 1 ≡ count = omega arith in
    rw less (begins count bytes rows run)

-- the parts of a run that were cut off are its first row and the rest
pub record IsNext (count : ℕ) (bytes : List ℕ) (kind : ℕ) (own behind : List ℕ) : Type 0 where
  pub spells : SpellsRow kind own (run_body kind own)
  pub first : run_rows count bytes ≡ seen_row kind own ∷ run_rows (count - 1) behind
  pub rest : IsRun (count - 1) behind (run_rows (count - 1) behind)

pub next_of : (count : ℕ) (bytes : List ℕ) (kind : ℕ) (own behind : List ℕ) → (count ≡ 0 → ⊥) → IsRun count bytes (run_rows count bytes)
    → kind ≡ first_kind bytes → own ≡ first_own bytes → behind ≡ first_behind bytes → IsNext count bytes kind own behind
next_of count bytes kind own behind some run is_kind is_own is_behind =
    let cut = begins_at count bytes (run_rows count bytes) some run in
    let all : count ≡ suc (count - 1) = omega (arith, some) in
    rw (is_kind, is_own, is_behind) record {
      spells = cut.spells;
      first = ap (λ (n : ℕ). run_rows n bytes) all ∙ cut.first;
      rest = cut.rest;
    }

pub first_within : (count : ℕ) (bytes : List ℕ) → (count ≡ 0 → ⊥) → IsRun count bytes (run_rows count bytes)
    → (5 ≤ length bytes) × (first_length bytes ≤ length (drop 5 bytes))
first_within count bytes some run =
    let cut = begins_at count bytes (run_rows count bytes) some run in
    (cut.long, cut.whole)

-- ---- one row more by its body's bytes

pub spelled_row : (kind : ℕ) (own : List ℕ) (body : Body) (before after : List ℕ) → SpellsRow kind own body
    → after ≡ before ++ (kind ∷ (low_first 4 (length own) ++ own)) → after ≡ before ++ row_bytes (kind, body)
spelled_row kind own body before after spells written =
    written ∙ ap (λ (bytes : List ℕ). before ++ (kind ∷ (low_first 4 (length bytes) ++ bytes))) spells.spelled
