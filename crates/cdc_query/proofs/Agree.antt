-- A text is read as a verb exactly where it fits the grammar's line of that verb.
use Rattle.std.proofs.Common.{ℕ, List, ◌≡◌, ◌∷◌, ◌++◌, refl, sym, subst, ◌∙◌}
use Rattle.std.specs.Prelude.{codes}
use Rattle.cdc_base.specs.declared.xid.Xid.{Xid}
use Rattle.cdc_query.specs.declared.verb.Verb.{Verb}
use Rattle.cdc_query.specs.declared.verb.Verb.TheVariants.{Begin, Commit, Rollback, Savepoint, XaStart, XaEnd, XaCommit, XaRollback, XaOther, Other}
use Rattle.cdc_query.specs.Grammar.{BeginsXa, IsElse, IsNoXaText, IsTextOf, IsXaText, spaces}
use Rattle.cdc_query.specs.Words.{verb_of}
use Rattle.cdc_query.proofs.Complete.{IsXaFamily, begin-complete, commit-complete, end-complete, rollback-complete, savepoint-complete, start-complete, xa-complete, xa_commit-complete, xa_rollback-complete}
use Rattle.cdc_query.proofs.Sound.{Fits, fits}

fits_as : (text : List ℕ) (verb : Verb) → verb_of text ≡ verb → Fits verb text
fits_as text verb e = subst (λ v. Fits v text) e (fits text)

-- no text that is read as `XaOther` is one of the four statements
no_statement : (text : List ℕ) → verb_of text ≡ XaOther → IsNoXaText text
no_statement text e = record {
  start = λ xid h. let both : XaStart xid ≡ XaOther = sym (start-complete text xid h) ∙ e in cc both;
  end = λ xid h. let both : XaEnd xid ≡ XaOther = sym (end-complete text xid h) ∙ e in cc both;
  commit = λ xid h. let both : XaCommit xid ≡ XaOther = sym (xa_commit-complete text xid h) ∙ e in cc both;
  rollback = λ xid h. let both : XaRollback xid ≡ XaOther = sym (xa_rollback-complete text xid h) ∙ e in cc both;
}

nothing_else : (text : List ℕ) → verb_of text ≡ Other → IsElse text
nothing_else text e = record {
  begin = λ h. let both : Begin ≡ Other = sym (begin-complete text h) ∙ e in cc both;
  commit = λ h. let both : Commit ≡ Other = sym (commit-complete text h) ∙ e in cc both;
  rollback = λ h. let both : Rollback ≡ Other = sym (rollback-complete text h) ∙ e in cc both;
  savepoint = λ h. let both : Savepoint ≡ Other = sym (savepoint-complete text h) ∙ e in cc both;
  xa = λ h. subst IsXaFamily e (xa-complete text h);
}

pub is_text : (text : List ℕ) (verb : Verb) → verb_of text ≡ verb → IsTextOf verb text
is_text text Begin e = fits_as text Begin e
is_text text Commit e = fits_as text Commit e
is_text text Rollback e = fits_as text Rollback e
is_text text Savepoint e = fits_as text Savepoint e
is_text text (XaStart xid) e = fits_as text (XaStart xid) e
is_text text (XaEnd xid) e = fits_as text (XaEnd xid) e
is_text text (XaCommit xid) e = fits_as text (XaCommit xid) e
is_text text (XaRollback xid) e = fits_as text (XaRollback xid) e
is_text text XaOther e = (fits_as text XaOther e, no_statement text e)
is_text text Other e = nothing_else text e

xa_other : (text : List ℕ) → IsNoXaText text → (verb : Verb) → verb_of text ≡ verb → IsXaFamily verb → verb ≡ XaOther
xa_other text none Begin e family = absurd family
xa_other text none Commit e family = absurd family
xa_other text none Rollback e family = absurd family
xa_other text none Savepoint e family = absurd family
xa_other text none (XaStart xid) e family = absurd (none.start xid (fits_as text (XaStart xid) e))
xa_other text none (XaEnd xid) e family = absurd (none.end xid (fits_as text (XaEnd xid) e))
xa_other text none (XaCommit xid) e family = absurd (none.commit xid (fits_as text (XaCommit xid) e))
xa_other text none (XaRollback xid) e family = absurd (none.rollback xid (fits_as text (XaRollback xid) e))
xa_other text none XaOther e family = refl
xa_other text none Other e family = absurd family

xa_begins : (text word : List ℕ) (xid : Xid) → IsXaText word xid text → BeginsXa text
xa_begins text word xid (left, gap, more, right, xa, w, name, isxa, is, isname, e) =
    (left, xa, 32 ∷ (spaces gap ++ (w ++ (32 ∷ (spaces more ++ (name ++ spaces right))))), isxa, refl, e)

other : (text : List ℕ) → IsElse text → (xa : BeginsXa text → ⊥) → (verb : Verb) → verb_of text ≡ verb → verb ≡ Other
other text else_ xa Begin e = absurd (else_.begin (fits_as text Begin e))
other text else_ xa Commit e = absurd (else_.commit (fits_as text Commit e))
other text else_ xa Rollback e = absurd (else_.rollback (fits_as text Rollback e))
other text else_ xa Savepoint e = absurd (else_.savepoint (fits_as text Savepoint e))
other text else_ xa (XaStart xid) e = absurd (xa (xa_begins text (codes "START") xid (fits_as text (XaStart xid) e)))
other text else_ xa (XaEnd xid) e = absurd (xa (xa_begins text (codes "END") xid (fits_as text (XaEnd xid) e)))
other text else_ xa (XaCommit xid) e = absurd (xa (xa_begins text (codes "COMMIT") xid (fits_as text (XaCommit xid) e)))
other text else_ xa (XaRollback xid) e = absurd (xa (xa_begins text (codes "ROLLBACK") xid (fits_as text (XaRollback xid) e)))
other text else_ xa XaOther e = absurd (xa (fits_as text XaOther e))
other text else_ xa Other e = refl

pub is_read : (text : List ℕ) (verb : Verb) → IsTextOf verb text → verb_of text ≡ verb
is_read text Begin h = begin-complete text h
is_read text Commit h = commit-complete text h
is_read text Rollback h = rollback-complete text h
is_read text Savepoint h = savepoint-complete text h
is_read text (XaStart xid) h = start-complete text xid h
is_read text (XaEnd xid) h = end-complete text xid h
is_read text (XaCommit xid) h = xa_commit-complete text xid h
is_read text (XaRollback xid) h = xa_rollback-complete text xid h
is_read text XaOther h = xa_other text h.1 (verb_of text) refl (xa-complete text h.0)
is_read text Other h = other text h h.xa (verb_of text) refl
