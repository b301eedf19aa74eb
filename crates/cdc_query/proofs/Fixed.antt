-- The fixed words, in either case.
use Rattle.std.proofs.Common.{ℕ, true, false, List, [], ◌∷◌, ◌++◌, ◌≡◌, ◌≢◌, map, refl, sym, ap, subst, ◌∙◌}
use Rattle.std.specs.Prelude.{not, ◌==◌, codes, if◌then◌else◌, Some}
use Rattle.std.specs.Char.{to_ascii_lowercase}
use Rattle.std.specs.Str.{str_eq_ignore_ascii_case}
use Rattle.std.proofs.lemmas.Bool.{and_parts, cond_both, eq-eqb, ne_eqb}
use Rattle.std.proofs.lemmas.Slice.Eq.{bytes_eq-Decides}
use Rattle.cdc_base.specs.declared.xid.Xid.{Xid}
use Rattle.cdc_query.specs.declared.verb.Verb.{Verb}
use Rattle.cdc_query.specs.declared.verb.Verb.TheVariants.{Begin, Commit, Rollback, Savepoint, XaStart, XaEnd, XaCommit, XaRollback, XaOther, Other}
use Rattle.cdc_query.specs.Grammar.{IsWord}
use Rattle.cdc_query.specs.Words.{before, behind_word, verb_alone, verb_with, xa_named, xid_of}
use Rattle.cdc_query.proofs.Pieces.{IsSolid, lacks}

pub word-from_test : (word written : List ℕ) → str_eq_ignore_ascii_case written word ≡ true → IsWord word written
word-from_test word written = (bytes_eq-Decides (map to_ascii_lowercase written) (map to_ascii_lowercase word)).0

-- a byte that is a space in lower case is one
lower_space : (b : ℕ) → not (to_ascii_lowercase b == 32) ≡ true → b ≢ 32
lower_space b h e = let lowered = ap (λ (x : ℕ). not (to_ascii_lowercase x == 32)) e in cc

pub lacks-lower : (text : List ℕ) → lacks 32 (map to_ascii_lowercase text) ≡ true → lacks 32 text ≡ true
lacks-lower [] h = refl
lacks-lower (b ∷ rest) h =
    let parts = and_parts (not (to_ascii_lowercase b == 32)) (lacks 32 (map to_ascii_lowercase rest)) h in
    let here : (b == 32) ≡ false = ne_eqb b 32 (lower_space b parts.0) in
    rw here (lacks-lower rest parts.1)

-- a word that is not empty and has no space
pub record IsFixed (word : List ℕ) : Type 0 where
  pub some : map to_ascii_lowercase word ≢ []
  pub free : lacks 32 (map to_ascii_lowercase word) ≡ true

-- what holds of such a word, in whatever case it is written
pub record Written (written : List ℕ) : Type 0 where
  pub some : written ≢ []
  pub free : lacks 32 written ≡ true

pub written : (word text : List ℕ) → IsFixed word → IsWord word text → Written text
written word text fixed same = record {
  some = λ e. fixed.some (sym same ∙ ap (map to_ascii_lowercase) e);
  free = lacks-lower text (subst (λ (t : List ℕ). lacks 32 t ≡ true) (sym same) fixed.free);
}

pub solid-written : (text rest : List ℕ) → Written text → IsSolid (text ++ rest)
solid-written [] rest h = absurd (h.some refl)
solid-written (b ∷ text) rest h =
    let parts = and_parts (not (b == 32)) (lacks 32 text) h.free in
    λ e. let test : (b == 32) ≡ true = eq-eqb b 32 e in cc (parts.0, test)

-- what holds of the verb where the word is this one, and of the other verb, holds of the choice
pick : (P : Verb → Type 0) (word text : List ℕ) (here other : Verb) → (IsWord word text → P here) → P other
    → P (if str_eq_ignore_ascii_case text word then here else other)
pick P word text here other is else_ = cond_both (str_eq_ignore_ascii_case text word) here other P (λ t. is (word-from_test word text t)) (λ _. else_)

pub named_cases : (P : Verb → Type 0) (text : List ℕ) (xid : Xid) → (IsWord (codes "START") text → P (XaStart xid)) → (IsWord (codes "END") text → P (XaEnd xid))
    → (IsWord (codes "COMMIT") text → P (XaCommit xid)) → (IsWord (codes "ROLLBACK") text → P (XaRollback xid)) → P XaOther → P (xa_named text (Some xid))
named_cases P text xid start end commit rollback other =
    let fourth : Verb = if str_eq_ignore_ascii_case text (codes "ROLLBACK") then XaRollback xid else XaOther in
    let third : Verb = if str_eq_ignore_ascii_case text (codes "COMMIT") then XaCommit xid else fourth in
    let second : Verb = if str_eq_ignore_ascii_case text (codes "END") then XaEnd xid else third in
    pick P (codes "START") text (XaStart xid) second start
    (pick P (codes "END") text (XaEnd xid) third end
    (pick P (codes "COMMIT") text (XaCommit xid) fourth commit (pick P (codes "ROLLBACK") text (XaRollback xid) XaOther rollback other)))

pub alone_cases : (P : Verb → Type 0) (text : List ℕ) → (IsWord (codes "BEGIN") text → P Begin) → (IsWord (codes "COMMIT") text → P Commit)
    → (IsWord (codes "ROLLBACK") text → P Rollback) → (IsWord (codes "XA") text → P XaOther) → P Other → P (verb_alone text)
alone_cases P text begin commit rollback xa other =
    let fourth : Verb = if str_eq_ignore_ascii_case text (codes "XA") then XaOther else Other in
    let third : Verb = if str_eq_ignore_ascii_case text (codes "ROLLBACK") then Rollback else fourth in
    let second : Verb = if str_eq_ignore_ascii_case text (codes "COMMIT") then Commit else third in
    pick P (codes "BEGIN") text Begin second begin
    (pick P (codes "COMMIT") text Commit third commit
    (pick P (codes "ROLLBACK") text Rollback fourth rollback (pick P (codes "XA") text XaOther Other xa other)))

pub with_cases : (P : Verb → Type 0) (text rest : List ℕ) → (IsWord (codes "SAVEPOINT") text → P Savepoint)
    → (IsWord (codes "XA") text → P (xa_named (before 32 rest) (xid_of (behind_word rest)))) → P Other → P (verb_with text rest)
with_cases P text rest savepoint xa other =
    let named : Verb = xa_named (before 32 rest) (xid_of (behind_word rest)) in
    let second : Verb = if str_eq_ignore_ascii_case text (codes "XA") then named else Other in
    pick P (codes "SAVEPOINT") text Savepoint second savepoint (pick P (codes "XA") text named Other xa other)
