-- A canonical text fits the grammar.
use Rattle.std.proofs.Common.{ℕ, ◌^◌, ◌<◌, List, ◌∷◌, ◌++◌, refl, sym, ap, arith, append_assoc, append-nil}
use Rattle.std.specs.Prelude.{codes, decimal}
use Rattle.std.proofs.lemmas.Fmt.{decimal_is_IsNumeral, length-decimal-le}
use Rattle.hex.specs.Hex.{encode_lower, lower_digits}
use Rattle.hex.proofs.HexLemmas.{decode_of-encode_lower, length-encode_with}
use Rattle.cdc_base.specs.declared.xid.Xid.{Xid}
use Rattle.cdc_query.specs.declared.verb.Verb.TheVariants.{Begin, Commit, Rollback, Savepoint, XaStart, XaEnd, XaCommit, XaRollback, XaOther, Other}
use Rattle.cdc_query.specs.Grammar.{IsFormat, IsHex, IsXaText, IsXidText, spaces}
use Rattle.cdc_query.specs.Text.{IsId, IsXid, ReadsBack, canonical_text, xid_text}
use Rattle.cdc_query.proofs.Complete.{end-complete, start-complete, xa_commit-complete, xa_rollback-complete}

hex_of : (id : List ℕ) → IsId id → IsHex id (encode_lower id)
hex_of id h =
    let long = length-encode_with lower_digits id in
    (omega (arith, long, h.short), decode_of-encode_lower id h.bytes)

format_of : (number : ℕ) → number < 2 ^ 32 → IsFormat number (decimal number)
format_of number h =
    let digits = decimal_is_IsNumeral number (omega arith) in
    let few = length-decimal-le 10 number (omega arith) (omega arith) (omega arith) in
    let value = digits.1 in
    (digits.0, few, omega (arith, value), value)

name_of : (xid : Xid) → IsXid xid → IsXidText xid (xid_text xid)
name_of xid h = (
  codes "X'" ++ (encode_lower xid.gtrid ++ (codes "'," ++ spaces 0)),
  codes "X'" ++ (encode_lower xid.bqual ++ (codes "'," ++ spaces 0)),
  decimal xid.format,
  (codes "X'", encode_lower xid.gtrid, 0, refl, hex_of xid.gtrid h.gtrid, refl),
  (codes "X'", encode_lower xid.bqual, 0, refl, hex_of xid.bqual h.bqual, refl),
  format_of xid.format h.format,
  simp append_assoc,
)

statement : (word : List ℕ) (xid : Xid) → IsXid xid → IsXaText word xid (codes "XA " ++ (word ++ (32 ∷ xid_text xid)))
statement word xid h = (
  0,
  0,
  0,
  0,
  codes "XA",
  word,
  xid_text xid,
  refl,
  refl,
  name_of xid h,
  ap (λ (t : List ℕ). codes "XA " ++ (word ++ (32 ∷ t))) (sym (append-nil (xid_text xid))),
)

pub reads_back : ReadsBack
reads_back (XaStart xid) h = start-complete (canonical_text (XaStart xid)) xid (statement (codes "START") xid h)
reads_back (XaEnd xid) h = end-complete (canonical_text (XaEnd xid)) xid (statement (codes "END") xid h)
reads_back (XaCommit xid) h = xa_commit-complete (canonical_text (XaCommit xid)) xid (statement (codes "COMMIT") xid h)
reads_back (XaRollback xid) h = xa_rollback-complete (canonical_text (XaRollback xid)) xid (statement (codes "ROLLBACK") xid h)
reads_back Begin h = absurd h
reads_back Commit h = absurd h
reads_back Rollback h = absurd h
reads_back Savepoint h = absurd h
reads_back XaOther h = absurd h
reads_back Other h = absurd h
