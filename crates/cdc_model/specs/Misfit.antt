-- Which event doesn't fit behind an unfinished item, and why.
use Rattle.std.specs.Prelude.{◌==◌, ℕ, [], ◌∷◌, if◌then◌else◌, Option, Some, None}
use Rattle.cdc_base.specs.declared.xid.Xid.{Xid}
use Rattle.cdc_model.specs.declared.fault.GroupFault.{GroupFault}
use Rattle.cdc_model.specs.declared.fault.GroupFault.TheVariants.{NoTimestamp, BadTimestamp, Statement, XidDiffers, RowsOutside, OutOfPlace, BadDdl}
use Rattle.cdc_base.specs.Xid.{same_xid}
use Rattle.cdc_model.specs.Sign.{Sign, Gtid, Quiet, Ddl, Marked, CommitTime, BeatTime, NoTime, RowEvent, NumberEvent, PrepareEvent, CommitText, RollbackText, SavepointText, XaStartText, XaEndText, XaCommitText, OtherText, Foreign}
use Rattle.cdc_model.specs.Group.{Content, TableRows, OneStatement, Progress, Out, Wait, Xa, End, Local}

-- outside a group
abbrev pub misfit_outside : Sign → Option GroupFault
misfit_outside Foreign = Some Statement
misfit_outside NoTime = Some BadTimestamp
misfit_outside (XaEndText xid) = Some OutOfPlace
misfit_outside (XaCommitText xid) = Some NoTimestamp
misfit_outside (RowEvent row) = Some RowsOutside
misfit_outside NumberEvent = Some OutOfPlace
misfit_outside (PrepareEvent one_phase xid) = Some OutOfPlace
misfit_outside _ = None

-- behind a commit timestamp: ids of transactions, an XA start or an XA commit may follow
abbrev pub misfit_waiting : Sign → Option GroupFault
misfit_waiting Foreign = Some Statement
misfit_waiting Gtid = None
misfit_waiting (XaStartText xid) = None
misfit_waiting (XaCommitText xid) = None
misfit_waiting _ = Some BadTimestamp

-- a statement may stand where the group has neither rows nor a statement, and rows where it has no statement
abbrev pub misfit_statement : Content → Option GroupFault
misfit_statement (TableRows []) = None
misfit_statement (TableRows (row ∷ rows)) = Some BadDdl
misfit_statement (OneStatement row) = Some BadDdl

-- a row may not stand beside a statement
abbrev pub misfit_row : Content → Option GroupFault
misfit_row (TableRows rows) = None
misfit_row (OneStatement row) = Some BadDdl

-- a branch's events name that branch
abbrev pub unless_same : Xid → Xid → Option GroupFault → Option GroupFault
unless_same xid other fault = if same_xid xid other then fault else Some XidDiffers

-- inside an XA group
abbrev pub misfit_xa : Xid → Content → Sign → Option GroupFault
misfit_xa xid content Foreign = Some Statement
misfit_xa xid content Gtid = None
misfit_xa xid content Quiet = None
misfit_xa xid content (Ddl row) = misfit_statement content
misfit_xa xid content Marked = Some BadDdl
misfit_xa xid content (CommitTime timestamp) = Some BadTimestamp
misfit_xa xid content (BeatTime timestamp) = Some BadTimestamp
misfit_xa xid content NoTime = Some BadTimestamp
misfit_xa xid content (XaEndText other) = unless_same xid other None
misfit_xa xid content SavepointText = None
misfit_xa xid content OtherText = Some Statement
misfit_xa xid content (RowEvent row) = misfit_row content
misfit_xa xid content _ = Some OutOfPlace

-- a prepare in two phases has no commit timestamp before its group, and one in one phase has one
abbrev pub misfit_phase : Option ℕ → ℕ → Option GroupFault
misfit_phase None one_phase = if one_phase == 0 then None else Some NoTimestamp
misfit_phase (Some timestamp) one_phase = if one_phase == 0 then Some BadTimestamp else None

-- behind the end of an XA group
abbrev pub misfit_ended : Option ℕ → Xid → Sign → Option GroupFault
misfit_ended time xid Foreign = Some Statement
misfit_ended time xid Gtid = None
misfit_ended time xid Quiet = None
misfit_ended time xid (Ddl row) = None
misfit_ended time xid Marked = None
misfit_ended time xid (CommitTime timestamp) = Some BadTimestamp
misfit_ended time xid (BeatTime timestamp) = Some BadTimestamp
misfit_ended time xid NoTime = Some BadTimestamp
misfit_ended time xid OtherText = Some Statement
misfit_ended time xid (RowEvent row) = Some RowsOutside
misfit_ended time xid (PrepareEvent one_phase other) = unless_same xid other (misfit_phase time one_phase)
misfit_ended time xid _ = Some OutOfPlace

-- inside a local transaction
abbrev pub misfit_local : Sign → Option GroupFault
misfit_local Foreign = Some Statement
misfit_local Gtid = None
misfit_local Quiet = None
misfit_local (Ddl row) = None
misfit_local Marked = None
misfit_local (CommitTime timestamp) = Some BadTimestamp
misfit_local (BeatTime timestamp) = Some BadTimestamp
misfit_local NoTime = Some BadTimestamp
misfit_local CommitText = None
misfit_local RollbackText = None
misfit_local SavepointText = None
misfit_local OtherText = Some Statement
misfit_local (RowEvent row) = None
misfit_local NumberEvent = None
misfit_local _ = Some OutOfPlace

-- what is wrong with an event of this sign behind an unfinished item that has come so far; nothing where it fits
abbrev pub misfit : Progress → Sign → Option GroupFault
misfit Out sign = misfit_outside sign
misfit (Wait timestamp) sign = misfit_waiting sign
misfit (Xa time xid content) sign = misfit_xa xid content sign
misfit (End time xid content) sign = misfit_ended time xid sign
misfit (Local rows) sign = misfit_local sign
