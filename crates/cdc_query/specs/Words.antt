-- The verb of a text, computed word by word.
use Rattle.std.specs.Prelude.{ℕ, ◌^◌, ◌==◌, ◌&&◌, nat_lt, nat_le, if◌then◌else◌, Bool, List, [], ◌∷◌, length, codes, Option, Some, None}
use Rattle.std.specs.Char.{is_ascii_digit, to_ascii_lowercase}
use Rattle.std.specs.List.{list_all}
use Rattle.std.specs.Str.{str_eq_ignore_ascii_case}
use Rattle.std.specs.Str.Parse.{digits_value}
use Rattle.std.specs.Result.{result_ok}
use Rattle.hex.specs.Hex.{decode_of}
use Rattle.cdc_base.specs.declared.xid.Xid.{Xid}
use Rattle.cdc_query.specs.declared.verb.Verb.{Verb}
use Rattle.cdc_query.specs.declared.verb.Verb.TheVariants.{Begin, Commit, Rollback, Savepoint, XaStart, XaEnd, XaCommit, XaRollback, XaOther, Other}

-- the text without the spaces at its front
abbrev pub unspaced : List ℕ → List ℕ
unspaced [] = []
unspaced (b ∷ rest) = if b == 32 then unspaced rest else b ∷ rest

-- what stands before the first byte `stop`; all where there is none
abbrev pub before : ℕ → List ℕ → List ℕ
before stop [] = []
before stop (b ∷ rest) = if b == stop then [] else b ∷ before stop rest

-- the first byte `stop` and what follows it; nothing where there is none
abbrev pub since : ℕ → List ℕ → List ℕ
since stop [] = []
since stop (b ∷ rest) = if b == stop then b ∷ rest else since stop rest

-- what follows the first word and the spaces behind it
abbrev pub behind_word : List ℕ → List ℕ
behind_word text = unspaced (since 32 text)

-- an id of at most 64 bytes, from two hexadecimal digits a byte
abbrev pub quoted_id_of : List ℕ → Option (List ℕ)
quoted_id_of digits = if nat_le (length digits) 128 then result_ok (decode_of digits) else None

-- what stands before a quote (39), where a comma (44) follows it; then spaces may stand
abbrev pub closed : List ℕ → List ℕ → Option (List ℕ × List ℕ)
closed digits [] = None
closed digits (quote ∷ []) = None
closed digits (quote ∷ comma ∷ rest) = if comma == 44 then Some (digits, unspaced rest) else None

-- what stands between the quotes of `X'..',` at the front, and what follows behind spaces
abbrev pub quoted : List ℕ → Option (List ℕ × List ℕ)
quoted [] = None
quoted (letter ∷ []) = None
quoted (letter ∷ quote ∷ rest) =
    if to_ascii_lowercase letter == 120 && quote == 39 then closed (before 39 rest) (since 39 rest) else None

-- 1 to 10 decimal digits
abbrev pub is_number : List ℕ → Bool
is_number digits = nat_lt 0 (length digits) && nat_le (length digits) 10 && list_all is_ascii_digit digits

-- the number, where it is below 2 ^ 32
abbrev pub if_small : ℕ → Option ℕ
if_small number = if nat_lt number (2 ^ 32) then Some number else None

-- the number below 2 ^ 32 that 1 to 10 decimal digits spell
abbrev pub decimal_of : List ℕ → Option ℕ
decimal_of digits = if is_number digits then if_small (digits_value 10 digits) else None

-- nothing, where something follows
abbrev pub if_last : Option ℕ → List ℕ → Option ℕ
if_last number [] = number
if_last number (b ∷ rest) = None

-- the format of a branch, the last word of a text
abbrev pub xid_format_of : List ℕ → Option ℕ
xid_format_of text = if_last (decimal_of (before 32 text)) (behind_word text)

-- the branch of these parts, where all three are there
abbrev pub xid_with : Option (List ℕ) → Option (List ℕ) → Option ℕ → Option Xid
xid_with None bqual format = None
xid_with (Some gtrid) None format = None
xid_with (Some gtrid) (Some bqual) None = None
xid_with (Some gtrid) (Some bqual) (Some format) = Some (record { gtrid = gtrid; bqual = bqual; format = format })

-- the branch with these digits of its gtrid, by what follows them
abbrev pub xid_behind : List ℕ → Option (List ℕ × List ℕ) → Option Xid
xid_behind gtrid None = None
xid_behind gtrid (Some bqual) = xid_with (quoted_id_of gtrid) (quoted_id_of bqual.0) (xid_format_of bqual.1)

-- the branch with this gtrid in front
abbrev pub xid_from_gtrid : Option (List ℕ × List ℕ) → Option Xid
xid_from_gtrid None = None
xid_from_gtrid (Some gtrid) = xid_behind gtrid.0 (quoted gtrid.1)

-- the branch that the rest of an XA statement names
abbrev pub xid_of : List ℕ → Option Xid
xid_of text = xid_from_gtrid (quoted text)

-- the XA verb with this second word
abbrev pub xa_named : List ℕ → Option Xid → Verb
xa_named word None = XaOther
xa_named word (Some xid) =
    if str_eq_ignore_ascii_case word (codes "START") then XaStart xid
    else if str_eq_ignore_ascii_case word (codes "END") then XaEnd xid
    else if str_eq_ignore_ascii_case word (codes "COMMIT") then XaCommit xid
    else if str_eq_ignore_ascii_case word (codes "ROLLBACK") then XaRollback xid
    else XaOther

-- the verb of a word that stands alone
abbrev pub verb_alone : List ℕ → Verb
verb_alone word =
    if str_eq_ignore_ascii_case word (codes "BEGIN") then Begin
    else if str_eq_ignore_ascii_case word (codes "COMMIT") then Commit
    else if str_eq_ignore_ascii_case word (codes "ROLLBACK") then Rollback
    else if str_eq_ignore_ascii_case word (codes "XA") then XaOther
    else Other

-- the verb of a first word that more follows
abbrev pub verb_with : List ℕ → List ℕ → Verb
verb_with word rest =
    if str_eq_ignore_ascii_case word (codes "SAVEPOINT") then Savepoint
    else if str_eq_ignore_ascii_case word (codes "XA") then xa_named (before 32 rest) (xid_of (behind_word rest))
    else Other

-- the verb of a first word, by whether more follows
abbrev pub verb_from : List ℕ → List ℕ → Verb
verb_from word [] = verb_alone word
verb_from word (b ∷ rest) = verb_with word (b ∷ rest)

-- the verb of a text without spaces at its front
abbrev pub verb_at : List ℕ → Verb
verb_at text = verb_from (before 32 text) (behind_word text)

-- the verb of a text
abbrev pub verb_of : List ℕ → Verb
verb_of text = verb_at (unspaced text)
