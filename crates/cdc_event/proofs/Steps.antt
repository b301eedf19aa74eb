-- Layouts: a test that stood, and each field of a layout in turn.
use Rattle.std.proofs.Common.{◌≡◌, ℕ, suc, ◌+◌, ◌<◌, ◌≤◌, Bool, true, false, List, ◌∷◌, ◌++◌, length, drop, get_or, refl, ap, sym, ◌∙◌, arith, Option, Some}
use Rattle.std.specs.List.{slice_range}
use Rattle.cdc_event.specs.declared.body.Body.{Body}
use Rattle.cdc_event.specs.Number.{low_first, number_of}
use Rattle.cdc_event.specs.Reading.{guard}
use Rattle.cdc_event.proofs.Numbers.{AreBytes}
use Rattle.cdc_event.proofs.Fields.{number_step, byte_step}

pub guard_some : (test : Bool) (read : Option Body) (body : Body) → guard test read ≡ Some body → (test ≡ true) × (read ≡ Some body)
unfolding guard
guard_some true read body e = (refl, e)
guard_some false read body e = absurd (cc)

pub guard_true : (test : Bool) (read : Option Body) → test ≡ true → guard test read ≡ read
unfolding guard
guard_true true read e = refl
guard_true false read e = absurd (cc)

pub same_some : (a b : Body) → ◌≡◌ {A = Option Body} (Some a) (Some b) → a ≡ b
same_some a b e = cc

-- the number that stands in a field, and what is behind it
pub number_is : (width : ℕ) (bytes : List ℕ) (from : ℕ) {number : ℕ} {rest : List ℕ} → AreBytes bytes → from + width ≤ length bytes → number_of (slice_range bytes from (from + width)) ≡ number → rest ≡ drop (from + width) bytes → low_first width number ++ rest ≡ drop from bytes
number_is width bytes from {number = number} {rest = rest} h k e r = ap (λ n. low_first width n ++ rest) (sym e) ∙ number_step width bytes from h k r

-- the byte that stands at a place, and what is behind it
pub byte_is : (bytes : List ℕ) (from : ℕ) {byte : ℕ} {rest : List ℕ} → from < length bytes → get_or bytes from 0 ≡ byte → rest ≡ drop (from + 1) bytes → byte ∷ rest ≡ drop from bytes
byte_is bytes from {byte = byte} {rest = rest} h e r =
    let next : drop (from + 1) bytes ≡ drop (suc from) bytes = ap (λ n. drop n bytes) (let one : from + 1 ≡ suc from = omega arith in one) in
    ap (λ b. b ∷ rest) (sym e) ∙ byte_step bytes from h (r ∙ next)
