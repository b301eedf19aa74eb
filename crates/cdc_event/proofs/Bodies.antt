-- The body of each type, read and spelled.
use Rattle.std.proofs.Common.{◌≡◌, ℕ, ◌==◌, ◌||◌, not, Bool, true, false, IsTrue, List, refl, ap, sym, ◌∙◌, subst, arith, Option, Some, None, ◌⊎◌, inl, inr}
use Rattle.std.proofs.lemmas.Bool.Decides.{nat_tests}
use Rattle.cdc_event.specs.declared.body.Body.{Body}
use Rattle.cdc_event.specs.declared.body.Body.TheVariants.{Format, Query, Rotate, RowsQuery, TableMap, Rows, XaPrepare, Timestamp, Skipped}
use Rattle.cdc_event.specs.declared.body.Body.TheVariants.{Xid as XidEvent}
use Rattle.cdc_event.specs.Event.{body_bytes, FitsBody, is_rows_kind, is_known_kind}
use Rattle.cdc_event.specs.Reading.{IsBodyOf, body_at}
use Rattle.cdc_event.proofs.Numbers.{AreBytes}
use Rattle.cdc_event.proofs.Steps.{same_some}
use Rattle.cdc_event.proofs.Query.{query_spelled, query_again}
use Rattle.cdc_event.proofs.ShortBodies.{rotate_spelled, rotate_again, xid_spelled, xid_again, rows_query_spelled, rows_query_again, timestamp_spelled, timestamp_again}
use Rattle.cdc_event.proofs.FormatBody.{format_spelled, format_again}
use Rattle.cdc_event.proofs.TableMapBody.{table_map_spelled, table_map_again}
use Rattle.cdc_event.proofs.PrepareBody.{prepare_spelled, prepare_again}

pub test_cases : (test : Bool) → (test ≡ true) ⊎ (test ≡ false)
test_cases true = inl refl
test_cases false = inr refl

pub is_kind : (kind known : ℕ) → IsTrue (kind == known) → kind ≡ known
is_kind kind known h = grind (arith, nat_tests, h)

-- which row of the table a type is in
pub data KindOf (kind : ℕ) : Type 0 where
  query : kind ≡ 2 → KindOf kind
  rotate : kind ≡ 4 → KindOf kind
  format : kind ≡ 15 → KindOf kind
  xid : kind ≡ 16 → KindOf kind
  table_map : kind ≡ 19 → KindOf kind
  rows_query : kind ≡ 29 → KindOf kind
  prepare : kind ≡ 38 → KindOf kind
  partial : kind ≡ 39 → KindOf kind
  compressed : kind ≡ 40 → KindOf kind
  timestamp : kind ≡ 200 → KindOf kind
  rows : IsTrue (is_rows_kind kind) → ((bytes : List ℕ) → body_at kind bytes ≡ Some (Rows bytes)) → KindOf kind
  other : IsTrue (not (is_known_kind kind)) → ((bytes : List ℕ) → body_at kind bytes ≡ Some (Skipped bytes)) → KindOf kind

turned : (kind known : ℕ) → (kind == known) ≡ false → (known == kind) ≡ false
turned kind known h = grind (arith, nat_tests, h)

-- a type that is in no row
rest_of : (kind : ℕ) → (kind == 2) ≡ false → (kind == 4) ≡ false → (kind == 15) ≡ false → (kind == 16) ≡ false → (kind == 19) ≡ false → (kind == 29) ≡ false → (kind == 38) ≡ false → (kind == 39) ≡ false → (kind == 40) ≡ false → (kind == 200) ≡ false → KindOf kind
unfolding body_at
rest_of kind a b c d e f g h i j =
    elim (test_cases (is_rows_kind kind)) [
      | inl t ↦ rows t (λ bytes. rw (a, b, c, d, e, f, g, h, i, j, t) refl)
      | inr t ↦ other (rw (t, turned kind 2 a, turned kind 4 b, turned kind 15 c, turned kind 16 d, turned kind 19 e, turned kind 29 f, turned kind 38 g, turned kind 39 h, turned kind 40 i, turned kind 200 j) refl) (λ bytes. rw (a, b, c, d, e, f, g, h, i, j, t) refl)
    ]

pub kind_of : (kind : ℕ) → KindOf kind
kind_of kind =
    elim (test_cases (kind == 2)) [
      | inl t ↦ query (is_kind kind 2 t)
      | inr a ↦
          elim (test_cases (kind == 4)) [
            | inl t ↦ rotate (is_kind kind 4 t)
            | inr b ↦
                elim (test_cases (kind == 15)) [
                  | inl t ↦ format (is_kind kind 15 t)
                  | inr c ↦
                      elim (test_cases (kind == 16)) [
                        | inl t ↦ xid (is_kind kind 16 t)
                        | inr d ↦
                            elim (test_cases (kind == 19)) [
                              | inl t ↦ table_map (is_kind kind 19 t)
                              | inr e ↦
                                  elim (test_cases (kind == 29)) [
                                    | inl t ↦ rows_query (is_kind kind 29 t)
                                    | inr f ↦
                                        elim (test_cases (kind == 38)) [
                                          | inl t ↦ prepare (is_kind kind 38 t)
                                          | inr g ↦
                                              elim (test_cases (kind == 39)) [
                                                | inl t ↦ partial (is_kind kind 39 t)
                                                | inr h ↦
                                                    elim (test_cases (kind == 40)) [
                                                      | inl t ↦ compressed (is_kind kind 40 t)
                                                      | inr i ↦
                                                          elim (test_cases (kind == 200)) [ inl t ↦ timestamp (is_kind kind 200 t) | inr j ↦ rest_of kind a b c d e f g h i j ]
                                                    ]
                                              ]
                                        ]
                                  ]
                            ]
                      ]
                ]
          ]
    ]

at_kind : (kind known : ℕ) (bytes : List ℕ) (read : Option Body) → kind ≡ known → body_at kind bytes ≡ read → body_at known bytes ≡ read
at_kind kind known bytes read k e = subst (λ n. body_at n bytes ≡ read) k e

from_kind : (kind known : ℕ) (bytes : List ℕ) (body : Body) → kind ≡ known → IsBodyOf known bytes body → IsBodyOf kind bytes body
from_kind kind known bytes body k h = subst (λ n. IsBodyOf n bytes body) (sym k) h

unread : (body : Body) → ◌≡◌ {A = Option Body} None (Some body) → ⊥
unread body e = cc

rows_spelled : (kind : ℕ) (bytes : List ℕ) (body : Body) → IsTrue (is_rows_kind kind) → ◌≡◌ {A = Option Body} (Some (Rows bytes)) (Some body) → IsBodyOf kind bytes body
unfolding body_bytes FitsBody
rows_spelled kind bytes body t e =
    let fact : IsBodyOf kind bytes (Rows bytes) = record { fits = tt; typed = t; algorithm = tt; spelled = refl } in
    subst (IsBodyOf kind bytes) (same_some _ _ e) fact

skipped_spelled : (kind : ℕ) (bytes : List ℕ) (body : Body) → IsTrue (not (is_known_kind kind)) → ◌≡◌ {A = Option Body} (Some (Skipped bytes)) (Some body) → IsBodyOf kind bytes body
unfolding body_bytes FitsBody
skipped_spelled kind bytes body t e =
    let fact : IsBodyOf kind bytes (Skipped bytes) = record { fits = tt; typed = t; algorithm = tt; spelled = refl } in
    subst (IsBodyOf kind bytes) (same_some _ _ e) fact

-- what is read is spelled so
pub body_spelled : (kind : ℕ) (bytes : List ℕ) (body : Body) → AreBytes bytes → body_at kind bytes ≡ Some body → IsBodyOf kind bytes body
unfolding body_at
body_spelled kind bytes body h e =
    elim (kind_of kind) [
      | query k ↦ from_kind kind 2 bytes body k (query_spelled bytes body h (at_kind kind 2 bytes (Some body) k e))
      | rotate k ↦ from_kind kind 4 bytes body k (rotate_spelled bytes body h (at_kind kind 4 bytes (Some body) k e))
      | format k ↦ from_kind kind 15 bytes body k (format_spelled bytes body h (at_kind kind 15 bytes (Some body) k e))
      | xid k ↦ from_kind kind 16 bytes body k (xid_spelled bytes body h (at_kind kind 16 bytes (Some body) k e))
      | table_map k ↦ from_kind kind 19 bytes body k (table_map_spelled bytes body h (at_kind kind 19 bytes (Some body) k e))
      | rows_query k ↦ from_kind kind 29 bytes body k (rows_query_spelled bytes body h (at_kind kind 29 bytes (Some body) k e))
      | prepare k ↦ from_kind kind 38 bytes body k (prepare_spelled bytes body h (at_kind kind 38 bytes (Some body) k e))
      | partial k ↦ absurd (unread body (at_kind kind 39 bytes (Some body) k e))
      | compressed k ↦ absurd (unread body (at_kind kind 40 bytes (Some body) k e))
      | timestamp k ↦ from_kind kind 200 bytes body k (timestamp_spelled bytes body h (at_kind kind 200 bytes (Some body) k e))
      | rows t f ↦ rows_spelled kind bytes body t (sym (f bytes) ∙ e)
      | other t f ↦ skipped_spelled kind bytes body t (sym (f bytes) ∙ e)
    ]

-- no literal type is a row event's, nor passed over
not_rows : (kind known : ℕ) → kind ≡ known → IsTrue (is_rows_kind kind) → IsTrue (is_rows_kind known)
not_rows kind known k t = subst (λ n. IsTrue (is_rows_kind n)) k t

not_other : (kind known : ℕ) → kind ≡ known → IsTrue (not (is_known_kind kind)) → IsTrue (not (is_known_kind known))
not_other kind known k t = subst (λ n. IsTrue (not (is_known_kind n))) k t

no_test : false ≡ true → ⊥
no_test e = cc

both_kinds : (test rest : Bool) → IsTrue test → IsTrue (not (test || rest)) → ⊥
both_kinds true rest t n = no_test n
both_kinds false rest t n = no_test t

rows_again : (kind : ℕ) (bytes : List ℕ) → IsTrue (is_rows_kind kind) → body_at kind bytes ≡ Some (Rows bytes)
rows_again kind bytes t =
    elim (kind_of kind) [
      | query k ↦ absurd (no_test (not_rows kind 2 k t))
      | rotate k ↦ absurd (no_test (not_rows kind 4 k t))
      | format k ↦ absurd (no_test (not_rows kind 15 k t))
      | xid k ↦ absurd (no_test (not_rows kind 16 k t))
      | table_map k ↦ absurd (no_test (not_rows kind 19 k t))
      | rows_query k ↦ absurd (no_test (not_rows kind 29 k t))
      | prepare k ↦ absurd (no_test (not_rows kind 38 k t))
      | partial k ↦ absurd (no_test (not_rows kind 39 k t))
      | compressed k ↦ absurd (no_test (not_rows kind 40 k t))
      | timestamp k ↦ absurd (no_test (not_rows kind 200 k t))
      | rows r f ↦ f bytes
      | other o f ↦ absurd (both_kinds (is_rows_kind kind) _ t o)
    ]

skipped_again : (kind : ℕ) (bytes : List ℕ) → IsTrue (not (is_known_kind kind)) → body_at kind bytes ≡ Some (Skipped bytes)
skipped_again kind bytes t =
    elim (kind_of kind) [
      | query k ↦ absurd (no_test (not_other kind 2 k t))
      | rotate k ↦ absurd (no_test (not_other kind 4 k t))
      | format k ↦ absurd (no_test (not_other kind 15 k t))
      | xid k ↦ absurd (no_test (not_other kind 16 k t))
      | table_map k ↦ absurd (no_test (not_other kind 19 k t))
      | rows_query k ↦ absurd (no_test (not_other kind 29 k t))
      | prepare k ↦ absurd (no_test (not_other kind 38 k t))
      | partial k ↦ absurd (no_test (not_other kind 39 k t))
      | compressed k ↦ absurd (no_test (not_other kind 40 k t))
      | timestamp k ↦ absurd (no_test (not_other kind 200 k t))
      | rows r f ↦ absurd (both_kinds (is_rows_kind kind) _ r t)
      | other o f ↦ f bytes
    ]

rows_again_of : (kind : ℕ) (bytes own : List ℕ) → IsBodyOf kind bytes (Rows own) → body_at kind bytes ≡ Some (Rows own)
unfolding body_bytes
rows_again_of kind bytes own h = rows_again kind bytes h.typed ∙ ap (λ b. Some (Rows b)) h.spelled

skipped_again_of : (kind : ℕ) (bytes own : List ℕ) → IsBodyOf kind bytes (Skipped own) → body_at kind bytes ≡ Some (Skipped own)
unfolding body_bytes
skipped_again_of kind bytes own h = skipped_again kind bytes h.typed ∙ ap (λ b. Some (Skipped b)) h.spelled

from_read : (kind known : ℕ) (bytes : List ℕ) (read : Option Body) → kind ≡ known → body_at known bytes ≡ read → body_at kind bytes ≡ read
from_read kind known bytes read k e = subst (λ n. body_at n bytes ≡ read) (sym k) e

-- what is spelled so is read
pub body_again : (kind : ℕ) (bytes : List ℕ) (body : Body) → IsBodyOf kind bytes body → body_at kind bytes ≡ Some body
unfolding body_at
body_again kind bytes (Format text created lengths checksum tail) h = from_read kind 15 bytes _ (is_kind kind 15 h.typed) (format_again bytes text created lengths checksum tail h.fits h.algorithm h.spelled)
body_again kind bytes (Query thread seconds error status db text) h = from_read kind 2 bytes _ (is_kind kind 2 h.typed) (query_again bytes thread seconds error status db text h.fits h.spelled)
body_again kind bytes (Rotate position name) h = from_read kind 4 bytes _ (is_kind kind 4 h.typed) (rotate_again bytes position name h.fits h.spelled)
body_again kind bytes (XidEvent number) h = from_read kind 16 bytes _ (is_kind kind 16 h.typed) (xid_again bytes number h.fits h.spelled)
body_again kind bytes (RowsQuery size text) h = from_read kind 29 bytes _ (is_kind kind 29 h.typed) (rows_query_again bytes size text h.fits h.spelled)
body_again kind bytes (TableMap table flags db name rest) h = from_read kind 19 bytes _ (is_kind kind 19 h.typed) (table_map_again bytes table flags db name rest h.fits h.spelled)
body_again kind bytes (Rows own) h = rows_again_of kind bytes own h
body_again kind bytes (XaPrepare one_phase branch) h = from_read kind 38 bytes _ (is_kind kind 38 h.typed) (prepare_again bytes one_phase branch h.fits h.spelled)
body_again kind bytes (Timestamp class value) h = from_read kind 200 bytes _ (is_kind kind 200 h.typed) (timestamp_again bytes class value h.fits h.spelled)
body_again kind bytes (Skipped own) h = skipped_again_of kind bytes own h
