-- The grammar of statement texts, by which words stand in which order.
use Rattle.std.specs.Prelude.{◌≡◌, ◌≢◌, ℕ, zero, suc, ◌^◌, ◌<◌, ◌≤◌, List, [], ◌∷◌, ◌++◌, length, map, codes, Ok}
use Rattle.std.specs.Char.{to_ascii_lowercase}
use Rattle.std.specs.Str.Parse.{IsNumeral, digits_value}
use Rattle.hex.specs.Hex.{decode_of}
use Rattle.cdc_base.specs.declared.xid.Xid.{Xid}
use Rattle.cdc_query.specs.declared.verb.Verb.{Verb}
use Rattle.cdc_query.specs.declared.verb.Verb.TheVariants.{Begin, Commit, Rollback, Savepoint, XaStart, XaEnd, XaCommit, XaRollback, XaOther, Other}

-- this many spaces
abbrev pub spaces : ℕ → List ℕ
spaces zero = []
spaces (suc n) = 32 ∷ spaces n

-- the word, its letters in either case
abbrev pub IsWord : List ℕ → List ℕ → Type 0
IsWord word written = map to_ascii_lowercase written ≡ map to_ascii_lowercase word

-- an even number of hexadecimal digits in either case, 0 to 128, for the bytes of an id
abbrev pub IsHex : List ℕ → List ℕ → Type 0
IsHex id digits = (length digits ≤ 128) × (decode_of digits ≡ Ok id)

-- 1 to 10 decimal digits of a value below 2 ^ 32
abbrev pub IsFormat : ℕ → List ℕ → Type 0
IsFormat number digits =
    IsNumeral 10 digits × (length digits ≤ 10) × (digits_value 10 digits < 2 ^ 32) × (digits_value 10 digits ≡ number)

-- the id as `X'..',` with its digits, and spaces behind the comma
abbrev pub IsQuoted : List ℕ → List ℕ → Type 0
IsQuoted id written = (x digits : List ℕ) × (gap : ℕ) × IsWord (codes "X'") x × IsHex id digits
    × (written ≡ x ++ (digits ++ (codes "'," ++ spaces gap)))

-- the branch as `X'gtrid',X'bqual',format`: spaces may stand behind the commas and nowhere else
abbrev pub IsXidText : Xid → List ℕ → Type 0
IsXidText xid written = (gtrid bqual format : List ℕ) × IsQuoted xid.gtrid gtrid × IsQuoted xid.bqual bqual × IsFormat xid.format format
    × (written ≡ gtrid ++ (bqual ++ format))

-- the word alone; spaces at both ends don't count
abbrev pub IsAlone : List ℕ → List ℕ → Type 0
IsAlone word text = (left right : ℕ) × (written : List ℕ) × IsWord word written × (text ≡ spaces left ++ (written ++ spaces right))

-- `SAVEPOINT`, at least one space, and at least one byte more that is no space
abbrev pub IsSavepoint : List ℕ → Type 0
IsSavepoint text = (left gap : ℕ) × (written : List ℕ) × (first : ℕ) × (rest : List ℕ) × IsWord (codes "SAVEPOINT") written × (first ≢ 32)
    × (text ≡ spaces left ++ (written ++ (32 ∷ (spaces gap ++ (first ∷ rest)))))

-- `XA`, a second word, and the name of a branch, with spaces between them
abbrev pub IsXaText : List ℕ → Xid → List ℕ → Type 0
IsXaText word xid text = (left gap more right : ℕ) × (xa written name : List ℕ) × IsWord (codes "XA") xa × IsWord word written × IsXidText xid name
    × (text ≡ spaces left ++ (xa ++ (32 ∷ (spaces gap ++ (written ++ (32 ∷ (spaces more ++ (name ++ spaces right))))))))

-- a word ends here: with the text, or with a space
abbrev pub EndsWord : List ℕ → Type 0
EndsWord [] = Unit {0}
EndsWord (b ∷ rest) = b ≡ 32

-- the first word is `XA`
abbrev pub BeginsXa : List ℕ → Type 0
BeginsXa text = (left : ℕ) × (xa rest : List ℕ) × IsWord (codes "XA") xa × EndsWord rest × (text ≡ spaces left ++ (xa ++ rest))

-- the four XA statements that name a branch
pub record IsNoXaText (text : List ℕ) : Type 0 where
  pub start : (xid : Xid) → ¬ IsXaText (codes "START") xid text
  pub end : (xid : Xid) → ¬ IsXaText (codes "END") xid text
  pub commit : (xid : Xid) → ¬ IsXaText (codes "COMMIT") xid text
  pub rollback : (xid : Xid) → ¬ IsXaText (codes "ROLLBACK") xid text

-- the text fits no other line of the grammar
pub record IsElse (text : List ℕ) : Type 0 where
  pub begin : ¬ IsAlone (codes "BEGIN") text
  pub commit : ¬ IsAlone (codes "COMMIT") text
  pub rollback : ¬ IsAlone (codes "ROLLBACK") text
  pub savepoint : ¬ IsSavepoint text
  pub xa : ¬ BeginsXa text

-- the text fits the grammar's line of the verb
abbrev pub IsTextOf : Verb → List ℕ → Type 0
IsTextOf Begin text = IsAlone (codes "BEGIN") text
IsTextOf Commit text = IsAlone (codes "COMMIT") text
IsTextOf Rollback text = IsAlone (codes "ROLLBACK") text
IsTextOf Savepoint text = IsSavepoint text
IsTextOf (XaStart xid) text = IsXaText (codes "START") xid text
IsTextOf (XaEnd xid) text = IsXaText (codes "END") xid text
IsTextOf (XaCommit xid) text = IsXaText (codes "COMMIT") xid text
IsTextOf (XaRollback xid) text = IsXaText (codes "ROLLBACK") xid text
IsTextOf XaOther text = BeginsXa text × IsNoXaText text
IsTextOf Other text = IsElse text
