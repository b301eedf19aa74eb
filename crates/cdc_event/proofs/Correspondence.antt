-- The laws of the event encoding.
use Rattle.std.proofs.Common.{◌≡◌, ℕ, ◌+◌, ◌-◌, ◌≤◌, ◌==◌, ◌^◌, nat_le, true, false, IsTrue, not, if◌then◌else◌, List, [], ◌∷◌, ◌++◌, length, get_or, refl, ap, sym, ◌∙◌, subst, arith, append_assoc, length-append, Option, Some, Ok, inl, inr}
use Rattle.std.specs.List.{slice_range}
use Rattle.std.proofs.lemmas.Bool.Decides.{nat_tests}
use Rattle.cdc_event.specs.declared.header.Header.{Header}
use Rattle.cdc_event.specs.declared.body.Body.{Body}
use Rattle.cdc_event.specs.declared.body.Body.TheVariants.{Format, Query, Rotate, RowsQuery, TableMap, Rows, XaPrepare, Timestamp, Skipped}
use Rattle.cdc_event.specs.declared.body.Body.TheVariants.{Xid as XidEvent}
use Rattle.cdc_event.specs.Number.{number_of}
use Rattle.cdc_event.specs.Event.{header_bytes, body_bytes, has_kind, is_rows_kind, is_known_kind, FitsBody}
use Rattle.cdc_event.specs.Reading.{IsBodyOf, IsNoBody, guard, format_body_of, format_at, body_at, event_with}
use Rattle.cdc_event.specs.Laws.{WrittenIsRead, OneEvent, OneByteList, NoFront, OneFault, FormatByFields, IsBadFormat}
use Rattle.cdc_event.proofs.Numbers.{AreBytes}
use Rattle.cdc_event.proofs.Bodies.{is_kind, body_again, test_cases}
use Rattle.cdc_event.proofs.Steps.{same_some, guard_some}
use Rattle.cdc_event.proofs.FormatBody.{format_is, format_spelled}
use Rattle.cdc_event.proofs.Whole.{same_parts}
use Rattle.cdc_event.proofs.Faults.{fault_named}

pub written_is_read : WrittenIsRead
written_is_read event bytes rest header e known fits small cut =
    let most : event.header.length ≤ 2 ^ 27 + 256 = e.fits.most in
    let parts = same_parts header event.header rest (body_bytes event.body) fits small e.fits.header (omega arith) (sym cut ∙ e.spelled) in
    let own : IsBodyOf header.kind rest event.body = record {
      fits = e.fits.body;
      typed = subst (λ (h : Header). IsTrue (has_kind event.body h.kind)) (sym parts.header) e.fits.kind;
      algorithm = known;
      spelled = parts.behind;
    } in
    ap (λ r. event_with header r) (body_again header.kind rest event.body own) ∙ ap (λ h. Ok record { header = h; body = event.body }) parts.header

pub one_byte_list : OneByteList
one_byte_list event bytes more e f = e.spelled ∙ sym f.spelled

-- the body of these bytes, whatever the algorithm
pub body_for : ℕ → List ℕ → Option Body
body_for kind bytes = if kind == 15 then Some (format_body_of bytes) else body_at kind bytes

-- a type with another row than the format event's
known_as : (kind known : ℕ) (bytes : List ℕ) (body : Body) → IsTrue (kind == known) → (known == 15) ≡ false → IsBodyOf kind bytes body → body_for kind bytes ≡ Some body
unfolding body_for
known_as kind known bytes body t n own =
    let k : kind ≡ known = is_kind kind known t in
    let other : (kind == 15) ≡ false = ap (λ m. m == 15) k ∙ n in
    rw other (body_again kind bytes body own)

rows_are_no_format : (kind : ℕ) → IsTrue (is_rows_kind kind) → (kind == 15) ≡ false
rows_are_no_format kind t = elim (test_cases (kind == 15)) [
  | inl f ↦ absurd (let g : false ≡ true = subst (λ n. IsTrue (is_rows_kind n)) (is_kind kind 15 f) t in (cc))
  | inr f ↦ f
]

others_are_no_format : (kind : ℕ) → IsTrue (not (is_known_kind kind)) → (kind == 15) ≡ false
others_are_no_format kind t = elim (test_cases (kind == 15)) [
  | inl f ↦ absurd (let g : false ≡ true = subst (λ n. IsTrue (not (is_known_kind n))) (is_kind kind 15 f) t in (cc))
  | inr f ↦ f
]

pub body_is : (kind : ℕ) (bytes : List ℕ) (body : Body) → FitsBody body → IsTrue (has_kind body kind) → bytes ≡ body_bytes body → body_for kind bytes ≡ Some body
unfolding body_for
body_is kind bytes (Format text created lengths checksum tail) h t e = rw t (ap Some (format_is bytes text created lengths checksum tail h e))
body_is kind bytes (Query thread seconds error status db text) h t e = known_as kind 2 bytes (Query thread seconds error status db text) t refl (record { fits = h; typed = t; algorithm = tt; spelled = e })
body_is kind bytes (Rotate position name) h t e = known_as kind 4 bytes (Rotate position name) t refl (record { fits = h; typed = t; algorithm = tt; spelled = e })
body_is kind bytes (XidEvent number) h t e = known_as kind 16 bytes (XidEvent number) t refl (record { fits = h; typed = t; algorithm = tt; spelled = e })
body_is kind bytes (RowsQuery size text) h t e = known_as kind 29 bytes (RowsQuery size text) t refl (record { fits = h; typed = t; algorithm = tt; spelled = e })
body_is kind bytes (TableMap table flags db name rest) h t e = known_as kind 19 bytes (TableMap table flags db name rest) t refl (record { fits = h; typed = t; algorithm = tt; spelled = e })
body_is kind bytes (Rows own) h t e = rw (rows_are_no_format kind t) (body_again kind bytes (Rows own) (record { fits = h; typed = t; algorithm = tt; spelled = e }))
body_is kind bytes (XaPrepare one_phase xid) h t e = known_as kind 38 bytes (XaPrepare one_phase xid) t refl (record { fits = h; typed = t; algorithm = tt; spelled = e })
body_is kind bytes (Timestamp class value) h t e = known_as kind 200 bytes (Timestamp class value) t refl (record { fits = h; typed = t; algorithm = tt; spelled = e })
body_is kind bytes (Skipped own) h t e = rw (others_are_no_format kind t) (body_again kind bytes (Skipped own) (record { fits = h; typed = t; algorithm = tt; spelled = e }))

pub one_event : OneEvent
one_event a b bytes e f =
    let most : a.header.length ≤ 2 ^ 27 + 256 = e.fits.most in
    let most_too : b.header.length ≤ 2 ^ 27 + 256 = f.fits.most in
    let parts = same_parts a.header b.header (body_bytes a.body) (body_bytes b.body) e.fits.header (omega arith) f.fits.header (omega arith) (sym e.spelled ∙ f.spelled) in
    let typed : IsTrue (has_kind b.body a.header.kind) = subst (λ (h : Header). IsTrue (has_kind b.body h.kind)) (sym parts.header) f.fits.kind in
    let x = body_is a.header.kind (body_bytes a.body) a.body e.fits.body e.fits.kind refl in
    let y = body_is a.header.kind (body_bytes a.body) b.body f.fits.body typed parts.behind in
    let body : a.body ≡ b.body = same_some a.body b.body (sym x ∙ y) in
    let header : a.header ≡ b.header = parts.header in
    λ i. record { header = header i; body = body i }

none_left : (xs : List ℕ) → length xs ≡ 0 → xs ≡ []
none_left [] e = refl
none_left (x ∷ xs) e = absurd (omega arith)

append_assoc_of : (xs ys zs : List ℕ) → (xs ++ ys) ++ zs ≡ xs ++ (ys ++ zs)
append_assoc_of xs ys zs = simp append_assoc

pub no_front : NoFront
no_front a b bytes rest e f =
    let most : a.header.length ≤ 2 ^ 27 + 256 = e.fits.most in
    let most_too : b.header.length ≤ 2 ^ 27 + 256 = f.fits.most in
    let longer : header_bytes a.header ++ (body_bytes a.body ++ rest) ≡ header_bytes b.header ++ body_bytes b.body = sym (append_assoc_of (header_bytes a.header) (body_bytes a.body) rest) ∙ (ap (λ v. v ++ rest) (sym e.spelled) ∙ f.spelled) in
    let parts = same_parts a.header b.header (body_bytes a.body ++ rest) (body_bytes b.body) e.fits.header (omega arith) f.fits.header (omega arith) longer in
    let lengths : a.header.length ≡ b.header.length = ap (λ (h : Header). h.length) parts.header in
    let first : a.header.length ≡ 19 + length (body_bytes a.body) = e.fits.whole in
    let second : b.header.length ≡ 19 + length (body_bytes b.body) = f.fits.whole in
    let sizes : length (body_bytes a.body) + length rest ≡ length (body_bytes b.body) = sym (length-append (body_bytes a.body) rest) ∙ ap length parts.behind in
    none_left rest (omega arith)

pub one_fault : OneFault
one_fault kind bytes a b h k = sym (fault_named kind bytes a h) ∙ fault_named kind bytes b k

no_known : (bytes : List ℕ) → AreBytes bytes → nat_le 62 (length bytes) ≡ true → (number_of (slice_range bytes 0 2) == 4) ≡ true → (get_or bytes 56 0 == 19) ≡ true → nat_le (get_or bytes (length bytes - 5) 0) 1 ≡ true → IsNoBody 15 bytes → ⊥
unfolding format_at guard
no_known bytes h a b c d n =
    let read : format_at bytes ≡ Some (format_body_of bytes) = rw (a, b, c, d) refl in
    n (format_body_of bytes) (format_spelled bytes (format_body_of bytes) h read)

bad_format : (bytes : List ℕ) → AreBytes bytes → IsNoBody 15 bytes → IsBadFormat bytes
bad_format bytes h n =
    elim (test_cases (nat_le 62 (length bytes))) [
      | inr a ↦ inl (grind (arith, nat_tests, a))
      | inl a ↦ elim (test_cases (number_of (slice_range bytes 0 2) == 4)) [
        | inr b ↦ inr (inl (λ e. grind (arith, nat_tests, b, e)))
        | inl b ↦ elim (test_cases (get_or bytes 56 0 == 19)) [
          | inr c ↦ inr (inr (inl (λ e. grind (arith, nat_tests, c, e))))
          | inl c ↦ elim (test_cases (nat_le (get_or bytes (length bytes - 5) 0) 1)) [
            | inr d ↦ inr (inr (inr (grind (arith, nat_tests, d))))
            | inl d ↦ absurd (no_known bytes h a b c d n)
          ]
        ]
      ]
    ]

-- the fields of a format event's body that can be wrong
record AreGood (bytes : List ℕ) : Type 0 where
  pub long : 62 ≤ length bytes
  pub version : number_of (slice_range bytes 0 2) ≡ 4
  pub heads : get_or bytes 56 0 ≡ 19
  pub known : get_or bytes (length bytes - 5) 0 ≤ 1

good_fields : (bytes : List ℕ) (body : Body) → format_at bytes ≡ Some body → AreGood bytes
unfolding format_at
good_fields bytes body e =
    let a = guard_some _ _ body e in
    let b = guard_some _ _ body a.1 in
    let c = guard_some _ _ body b.1 in
    let d = guard_some _ _ body c.1 in
    record {
      long = grind (arith, nat_tests, a.0);
      version = grind (arith, nat_tests, b.0);
      heads = grind (arith, nat_tests, c.0);
      known = grind (arith, nat_tests, d.0);
    }

not_good : (bytes : List ℕ) → AreGood bytes → IsBadFormat bytes → ⊥
not_good bytes g (inl short) = let long = g.long in absurd (omega arith)
not_good bytes g (inr (inl version)) = version g.version
not_good bytes g (inr (inr (inl heads))) = heads g.heads
not_good bytes g (inr (inr (inr known))) = let least = g.known in absurd (omega arith)

read_format : (bytes : List ℕ) (body : Body) → IsBodyOf 15 bytes body → format_at bytes ≡ Some body
unfolding body_at
read_format bytes body own = body_again 15 bytes body own

pub format_by_fields : FormatByFields
format_by_fields bytes h = (
  λ n. bad_format bytes (record { below = h }) n,
  λ bad body own. not_good bytes (good_fields bytes body (read_format bytes body own)) bad,
)
