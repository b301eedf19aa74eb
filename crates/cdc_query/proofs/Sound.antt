-- What is read, the grammar spells.
use Rattle.std.proofs.Common.{ℕ, zero, suc, List, [], ◌∷◌, ◌++◌, ◌≡◌, ◌≢◌, refl, sym, ap, subst, ◌∙◌, Option, Some, None}
use Rattle.std.specs.Prelude.{codes}
use Rattle.cdc_base.specs.declared.xid.Xid.{Xid}
use Rattle.cdc_query.specs.declared.verb.Verb.{Verb}
use Rattle.cdc_query.specs.declared.verb.Verb.TheVariants.{Begin, Commit, Rollback, Savepoint, XaStart, XaEnd, XaCommit, XaRollback, XaOther, Other}
use Rattle.cdc_query.specs.Grammar.{BeginsXa, EndsWord, IsAlone, IsSavepoint, IsWord, IsXaText, spaces}
use Rattle.cdc_query.specs.Words.{before, behind_word, since, unspaced, verb_alone, verb_from, verb_of, verb_with, xa_named, xid_of}
use Rattle.cdc_query.proofs.Fixed.{alone_cases, named_cases, with_cases}
use Rattle.cdc_query.proofs.Ids.{only_spaces, xid-sound}
use Rattle.cdc_query.proofs.Pieces.{IsSolid, StopsAt, front_of, split_of}

-- the text fits the verb's line; for `XaOther` its first word does, and of `Other` nothing is said
abbrev pub Fits : Verb → List ℕ → Type 0
Fits Begin text = IsAlone (codes "BEGIN") text
Fits Commit text = IsAlone (codes "COMMIT") text
Fits Rollback text = IsAlone (codes "ROLLBACK") text
Fits Savepoint text = IsSavepoint text
Fits (XaStart xid) text = IsXaText (codes "START") xid text
Fits (XaEnd xid) text = IsXaText (codes "END") xid text
Fits (XaCommit xid) text = IsXaText (codes "COMMIT") xid text
Fits (XaRollback xid) text = IsXaText (codes "ROLLBACK") xid text
Fits XaOther text = BeginsXa text
Fits Other text = Unit {0}

ends_spaces : (n : ℕ) → EndsWord (spaces n)
ends_spaces zero = tt
ends_spaces (suc n) = refl

fits_alone : (text word : List ℕ) (left right : ℕ) → text ≡ spaces left ++ (word ++ spaces right) → Fits (verb_alone word) text
fits_alone text word left right e =
    alone_cases (λ v. Fits v text) word (λ is. (left, right, word, is, e)) (λ is. (left, right, word, is, e)) (λ is. (left, right, word, is, e))
    (λ is. (left, word, spaces right, is, ends_spaces right, e)) tt

-- what follows a word where more follows: a space, further spaces and the rest
pub record Gap (gapped rest : List ℕ) : Type 0 where
  pub count : ℕ
  pub whole : gapped ≡ 32 ∷ (spaces count ++ rest)
  pub solid : IsSolid rest

gap_of : (gapped : List ℕ) (first : ℕ) (rest : List ℕ) → StopsAt 32 gapped → unspaced gapped ≡ first ∷ rest → Gap gapped (first ∷ rest)
gap_of [] first rest stops h = cc h
gap_of (b ∷ gapped) first rest stops h =
    let front = front_of gapped in
    let here : unspaced (b ∷ gapped) ≡ unspaced gapped = rw stops refl in
    let e : unspaced gapped ≡ first ∷ rest = sym here ∙ h in
    record {
      count = front.count;
      whole = rw stops (ap (λ (t : List ℕ). 32 ∷ t) (front.whole ∙ ap (λ (t : List ℕ). spaces front.count ++ t) e));
      solid = subst IsSolid e front.solid;
    }

-- a name of a branch is not empty, so a space stands before it
name_gap : (gapped : List ℕ) → StopsAt 32 gapped → (xid : Xid) → xid_of (unspaced gapped) ≡ Some xid → (n : ℕ) × (gapped ≡ 32 ∷ (spaces n ++ unspaced gapped))
name_gap [] stops xid h = cc h
name_gap (b ∷ gapped) stops xid h =
    let front = front_of gapped in
    (front.count, rw stops (ap (λ (t : List ℕ). 32 ∷ t) front.whole))

fits_named : (text xa word gapped : List ℕ) (xid : Option Xid) (left gap : ℕ) → IsWord (codes "XA") xa
    → text ≡ spaces left ++ (xa ++ (32 ∷ (spaces gap ++ (word ++ gapped)))) → StopsAt 32 gapped → xid_of (unspaced gapped) ≡ xid → Fits (xa_named word xid) text
fits_named text xa word gapped None left gap isxa e stops h = (left, xa, 32 ∷ (spaces gap ++ (word ++ gapped)), isxa, refl, e)
fits_named text xa word gapped (Some xid) left gap isxa e stops h =
    let (name, right, isname, layout) = xid-sound (unspaced gapped) xid h in
    let more = name_gap gapped stops xid h in
    let whole : text ≡ spaces left ++ (xa ++ (32 ∷ (spaces gap ++ (word ++ (32 ∷ (spaces more.0 ++ (name ++ spaces right))))))) =
    e ∙ ap (λ (t : List ℕ). spaces left ++ (xa ++ (32 ∷ (spaces gap ++ (word ++ t))))) (more.1 ∙ ap (λ (t : List ℕ). 32 ∷ (spaces more.0 ++ t)) layout) in
    named_cases (λ v. Fits v text) word xid
    (λ is. (left, gap, more.0, right, xa, word, name, isxa, is, isname, whole))
    (λ is. (left, gap, more.0, right, xa, word, name, isxa, is, isname, whole))
    (λ is. (left, gap, more.0, right, xa, word, name, isxa, is, isname, whole))
    (λ is. (left, gap, more.0, right, xa, word, name, isxa, is, isname, whole))
    (left, xa, 32 ∷ (spaces gap ++ (word ++ gapped)), isxa, refl, e)

fits_with : (text word rest : List ℕ) (left gap : ℕ) (first : ℕ) → first ≢ 32 → text ≡ spaces left ++ (word ++ (32 ∷ (spaces gap ++ (first ∷ rest)))) → Fits (verb_with word (first ∷ rest)) text
fits_with text word rest left gap first solid e =
    let split = split_of 32 (first ∷ rest) in
    let whole = e ∙ ap (λ (t : List ℕ). spaces left ++ (word ++ (32 ∷ (spaces gap ++ t)))) split.whole in
    with_cases (λ v. Fits v text) word (first ∷ rest) (λ is. (left, gap, word, first, rest, is, solid, e))
    (λ is. fits_named text word (before 32 (first ∷ rest)) (since 32 (first ∷ rest)) (xid_of (behind_word (first ∷ rest))) left gap is whole split.stops refl) tt

fits_from : (text word gapped rest : List ℕ) (left : ℕ) → text ≡ spaces left ++ (word ++ gapped) → StopsAt 32 gapped → unspaced gapped ≡ rest → Fits (verb_from word rest) text
fits_from text word gapped [] left e stops h =
    let tail = only_spaces gapped h in
    fits_alone text word left tail.0 (e ∙ ap (λ (t : List ℕ). spaces left ++ (word ++ t)) tail.1)
fits_from text word gapped (first ∷ rest) left e stops h =
    let gap = gap_of gapped first rest stops h in
    fits_with text word rest left gap.count first gap.solid (e ∙ ap (λ (t : List ℕ). spaces left ++ (word ++ t)) gap.whole)

pub fits : (text : List ℕ) → Fits (verb_of text) text
fits text =
    let front = front_of text in
    let split = split_of 32 (unspaced text) in
    fits_from text (before 32 (unspaced text)) (since 32 (unspaced text)) (behind_word (unspaced text)) front.count
    (front.whole ∙ ap (λ (t : List ℕ). spaces front.count ++ t) split.whole) split.stops refl
