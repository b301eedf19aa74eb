-- What the grammar spells is read.
use Rattle.std.proofs.Common.{ℕ, false, List, [], ◌∷◌, ◌++◌, ◌≡◌, ◌≢◌, length, refl, ap, ◌∙◌, arith, Option, Some, None}
use Rattle.std.specs.Prelude.{◌==◌, codes}
use Rattle.std.proofs.lemmas.Bool.{ne_eqb}
use Rattle.cdc_base.specs.declared.xid.Xid.{Xid}
use Rattle.cdc_query.specs.declared.verb.Verb.{Verb}
use Rattle.cdc_query.specs.declared.verb.Verb.TheVariants.{Begin, Commit, Rollback, Savepoint, XaStart, XaEnd, XaCommit, XaRollback, XaOther, Other}
use Rattle.cdc_query.specs.Grammar.{BeginsXa, EndsWord, IsAlone, IsSavepoint, IsWord, IsXaText, spaces}
use Rattle.cdc_query.specs.Words.{before, behind_word, unspaced, verb_alone, verb_at, verb_from, verb_of, verb_with, xa_named, xid_of}
use Rattle.cdc_query.proofs.Fixed.{IsFixed, Written, named_cases, solid-written, written}
use Rattle.cdc_query.proofs.Ids.{solid-name, xid-complete}
use Rattle.cdc_query.proofs.Pieces.{StopsAt, before-lacks, since-lacks, stops-spaces, unspaced-front, unspaced-only_spaces, verb_from-more}

pub begin_fixed : IsFixed (codes "BEGIN")
begin_fixed = record { some = λ e. cc; free = refl }

pub commit_fixed : IsFixed (codes "COMMIT")
commit_fixed = record { some = λ e. cc; free = refl }

pub rollback_fixed : IsFixed (codes "ROLLBACK")
rollback_fixed = record { some = λ e. cc; free = refl }

pub savepoint_fixed : IsFixed (codes "SAVEPOINT")
savepoint_fixed = record { some = λ e. cc; free = refl }

pub xa_fixed : IsFixed (codes "XA")
xa_fixed = record { some = λ e. cc; free = refl }

pub start_fixed : IsFixed (codes "START")
start_fixed = record { some = λ e. cc; free = refl }

pub end_fixed : IsFixed (codes "END")
end_fixed = record { some = λ e. cc; free = refl }

-- a text that begins with a word, by that word and what follows it
pub verb-by_word : (text word gapped : List ℕ) (left : ℕ) → text ≡ spaces left ++ (word ++ gapped) → Written word → StopsAt 32 gapped
    → verb_of text ≡ verb_from word (unspaced gapped)
verb-by_word text word gapped left e w stops =
    let front : unspaced text ≡ word ++ gapped = ap unspaced e ∙ unspaced-front left (word ++ gapped) (solid-written word gapped w) in
    ap verb_at front ∙ rw (before-lacks 32 word gapped w.free stops, since-lacks 32 word gapped w.free stops) refl

alone : (word text : List ℕ) → IsFixed word → IsAlone word text → (written : List ℕ) × IsWord word written × (verb_of text ≡ verb_alone written)
alone word text fixed (left, right, w, is, e) =
    let step = verb-by_word text w (spaces right) left e (written word w fixed is) (stops-spaces right) in
    (w, is, step ∙ ap (verb_from w) (unspaced-only_spaces right))

begin_alone : (w : List ℕ) → IsWord (codes "BEGIN") w → verb_alone w ≡ Begin
begin_alone w is = rw is refl

commit_alone : (w : List ℕ) → IsWord (codes "COMMIT") w → verb_alone w ≡ Commit
commit_alone w is = rw is refl

rollback_alone : (w : List ℕ) → IsWord (codes "ROLLBACK") w → verb_alone w ≡ Rollback
rollback_alone w is = rw is refl

xa_alone : (w : List ℕ) → IsWord (codes "XA") w → verb_alone w ≡ XaOther
xa_alone w is = rw is refl

pub begin-complete : (text : List ℕ) → IsAlone (codes "BEGIN") text → verb_of text ≡ Begin
begin-complete text h = let r = alone (codes "BEGIN") text begin_fixed h in r.2 ∙ begin_alone r.0 r.1

pub commit-complete : (text : List ℕ) → IsAlone (codes "COMMIT") text → verb_of text ≡ Commit
commit-complete text h = let r = alone (codes "COMMIT") text commit_fixed h in r.2 ∙ commit_alone r.0 r.1

pub rollback-complete : (text : List ℕ) → IsAlone (codes "ROLLBACK") text → verb_of text ≡ Rollback
rollback-complete text h = let r = alone (codes "ROLLBACK") text rollback_fixed h in r.2 ∙ rollback_alone r.0 r.1

savepoint_with : (w rest : List ℕ) → IsWord (codes "SAVEPOINT") w → verb_with w rest ≡ Savepoint
savepoint_with w rest is = rw is refl

xa_with : (w rest : List ℕ) → IsWord (codes "XA") w → verb_with w rest ≡ xa_named (before 32 rest) (xid_of (behind_word rest))
xa_with w rest is = rw is refl

pub savepoint-complete : (text : List ℕ) → IsSavepoint text → verb_of text ≡ Savepoint
savepoint-complete text (left, gap, w, first, rest, is, solid, e) =
    let step = verb-by_word text w (32 ∷ (spaces gap ++ (first ∷ rest))) left e (written (codes "SAVEPOINT") w savepoint_fixed is) refl in
    step ∙ ap (verb_from w) (unspaced-front gap (first ∷ rest) solid) ∙ savepoint_with w (first ∷ rest) is

-- a text whose first word is `XA`: another verb that begins so, or `XaOther`
abbrev pub IsXaFamily : Verb → Type 0
IsXaFamily Begin = ⊥
IsXaFamily Commit = ⊥
IsXaFamily Rollback = ⊥
IsXaFamily Savepoint = ⊥
IsXaFamily (XaStart xid) = Unit {0}
IsXaFamily (XaEnd xid) = Unit {0}
IsXaFamily (XaCommit xid) = Unit {0}
IsXaFamily (XaRollback xid) = Unit {0}
IsXaFamily XaOther = Unit {0}
IsXaFamily Other = ⊥

family_named : (word : List ℕ) (xid : Option Xid) → IsXaFamily (xa_named word xid)
family_named word None = tt
family_named word (Some xid) = named_cases IsXaFamily word xid (λ _. tt) (λ _. tt) (λ _. tt) (λ _. tt) tt

family_from : (w rest : List ℕ) → IsWord (codes "XA") w → IsXaFamily (verb_from w rest)
family_from w [] is = rw (xa_alone w is) tt
family_from w (b ∷ rest) is = rw (xa_with w (b ∷ rest) is) (family_named (before 32 (b ∷ rest)) (xid_of (behind_word (b ∷ rest))))

stops_word : (rest : List ℕ) → EndsWord rest → StopsAt 32 rest
stops_word [] h = tt
stops_word (b ∷ rest) h = h

pub xa-complete : (text : List ℕ) → BeginsXa text → IsXaFamily (verb_of text)
xa-complete text (left, w, rest, is, ends, e) =
    let step = verb-by_word text w rest left e (written (codes "XA") w xa_fixed is) (stops_word rest ends) in
    rw step (family_from w (unspaced rest) is)

not_empty : (w rest : List ℕ) → w ≢ [] → (length (w ++ rest) == 0) ≡ false
not_empty [] rest h = absurd (h refl)
not_empty (b ∷ w) rest h = ne_eqb (length (b ∷ (w ++ rest))) 0 (λ e. omega arith)

xa_statement : (word text : List ℕ) (xid : Xid) → IsFixed word → IsXaText word xid text
    → (written : List ℕ) × IsWord word written × (verb_of text ≡ xa_named written (Some xid))
xa_statement word text xid fixed (left, gap, more, right, xa, w, name, isxa, is, isname, e) =
    let tail : List ℕ = 32 ∷ (spaces more ++ (name ++ spaces right)) in
    let ok = written word w fixed is in
    let one = verb-by_word text xa (32 ∷ (spaces gap ++ (w ++ tail))) left e (written (codes "XA") xa xa_fixed isxa) refl in
    let two = ap (verb_from xa) (unspaced-front gap (w ++ tail) (solid-written w tail ok)) in
    let three = verb_from-more xa (w ++ tail) (not_empty w tail ok.some) ∙ xa_with xa (w ++ tail) isxa in
    let rest : behind_word (w ++ tail) ≡ name ++ spaces right =
    ap unspaced (since-lacks 32 w tail ok.free refl) ∙ unspaced-front more (name ++ spaces right) (solid-name xid name (spaces right) isname) in
    let four = ap (λ (v : List ℕ). xa_named v (xid_of (behind_word (w ++ tail)))) (before-lacks 32 w tail ok.free refl) in
    let five = ap (xa_named w) (ap xid_of rest ∙ xid-complete xid right name isname) in
    (w, is, one ∙ two ∙ three ∙ four ∙ five)

start_named : (w : List ℕ) (xid : Xid) → IsWord (codes "START") w → xa_named w (Some xid) ≡ XaStart xid
start_named w xid is = rw is refl

end_named : (w : List ℕ) (xid : Xid) → IsWord (codes "END") w → xa_named w (Some xid) ≡ XaEnd xid
end_named w xid is = rw is refl

commit_named : (w : List ℕ) (xid : Xid) → IsWord (codes "COMMIT") w → xa_named w (Some xid) ≡ XaCommit xid
commit_named w xid is = rw is refl

rollback_named : (w : List ℕ) (xid : Xid) → IsWord (codes "ROLLBACK") w → xa_named w (Some xid) ≡ XaRollback xid
rollback_named w xid is = rw is refl

pub start-complete : (text : List ℕ) (xid : Xid) → IsXaText (codes "START") xid text → verb_of text ≡ XaStart xid
start-complete text xid h = let r = xa_statement (codes "START") text xid start_fixed h in r.2 ∙ start_named r.0 xid r.1

pub end-complete : (text : List ℕ) (xid : Xid) → IsXaText (codes "END") xid text → verb_of text ≡ XaEnd xid
end-complete text xid h = let r = xa_statement (codes "END") text xid end_fixed h in r.2 ∙ end_named r.0 xid r.1

pub xa_commit-complete : (text : List ℕ) (xid : Xid) → IsXaText (codes "COMMIT") xid text → verb_of text ≡ XaCommit xid
xa_commit-complete text xid h = let r = xa_statement (codes "COMMIT") text xid commit_fixed h in r.2 ∙ commit_named r.0 xid r.1

pub xa_rollback-complete : (text : List ℕ) (xid : Xid) → IsXaText (codes "ROLLBACK") xid text → verb_of text ≡ XaRollback xid
xa_rollback-complete text xid h = let r = xa_statement (codes "ROLLBACK") text xid rollback_fixed h in r.2 ∙ rollback_named r.0 xid r.1
