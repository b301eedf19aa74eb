-- The canonical texts of XA statements.
use Rattle.std.specs.Prelude.{◌≡◌, ℕ, ◌^◌, ◌<◌, ◌≤◌, List, [], ◌++◌, length, codes, decimal}
use Rattle.hex.specs.Hex.{IsBytes, encode_lower}
use Rattle.cdc_base.specs.declared.xid.Xid.{Xid}
use Rattle.cdc_query.specs.declared.verb.Verb.{Verb}
use Rattle.cdc_query.specs.declared.verb.Verb.TheVariants.{Begin, Commit, Rollback, Savepoint, XaStart, XaEnd, XaCommit, XaRollback, XaOther, Other}
use Rattle.cdc_query.specs.Words.{verb_of}

-- the name of a branch: X'gtrid',X'bqual',format
abbrev pub xid_text : Xid → List ℕ
xid_text xid =
    codes "X'" ++ encode_lower xid.gtrid ++ codes "',X'" ++ encode_lower xid.bqual ++ codes "'," ++ decimal xid.format

-- the text of an XA verb that names a branch; no other verb has one
abbrev pub canonical_text : Verb → List ℕ
canonical_text (XaStart xid) = codes "XA START " ++ xid_text xid
canonical_text (XaEnd xid) = codes "XA END " ++ xid_text xid
canonical_text (XaCommit xid) = codes "XA COMMIT " ++ xid_text xid
canonical_text (XaRollback xid) = codes "XA ROLLBACK " ++ xid_text xid
canonical_text Begin = []
canonical_text Commit = []
canonical_text Rollback = []
canonical_text Savepoint = []
canonical_text XaOther = []
canonical_text Other = []

-- an XA verb that names a branch
abbrev pub IsXa : Verb → Type 0
IsXa (XaStart xid) = Unit {0}
IsXa (XaEnd xid) = Unit {0}
IsXa (XaCommit xid) = Unit {0}
IsXa (XaRollback xid) = Unit {0}
IsXa Begin = ⊥
IsXa Commit = ⊥
IsXa Rollback = ⊥
IsXa Savepoint = ⊥
IsXa XaOther = ⊥
IsXa Other = ⊥

-- at most 64 bytes
pub record IsId (id : List ℕ) : Type 0 where
  pub short : length id ≤ 64
  pub bytes : IsBytes id

-- the name of a branch, as every `Xid` is
pub record IsXid (xid : Xid) : Type 0 where
  pub gtrid : IsId xid.gtrid
  pub bqual : IsId xid.bqual
  pub format : xid.format < 2 ^ 32

-- an XA verb whose branch has such a name
abbrev pub HasXid : Verb → Type 0
HasXid (XaStart xid) = IsXid xid
HasXid (XaEnd xid) = IsXid xid
HasXid (XaCommit xid) = IsXid xid
HasXid (XaRollback xid) = IsXid xid
HasXid Begin = ⊥
HasXid Commit = ⊥
HasXid Rollback = ⊥
HasXid Savepoint = ⊥
HasXid XaOther = ⊥
HasXid Other = ⊥

-- what is written is read again
abbrev pub ReadsBack : Type 0
ReadsBack = (verb : Verb) → HasXid verb → verb_of (canonical_text verb) ≡ verb
