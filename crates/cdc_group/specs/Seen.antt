-- The sign of an event, from what is kept of it beside its row.
use Rattle.cdc_model.specs.Records.{Row}
use Rattle.cdc_model.specs.Sign.{Sign, Ddl, RowEvent, NumberEvent, PrepareEvent, BeginText, CommitText, RollbackText, SavepointText, XaStartText, XaEndText, XaCommitText, XaRollbackText, OtherText}
use Rattle.cdc_model.specs.Sign.{Gtid as SaysGtid, Quiet as SaysQuiet, Marked as SaysMarked, CommitTime as SaysCommitTime, BeatTime as SaysBeatTime, NoTime as SaysNoTime, Foreign as SaysForeign}
use Rattle.cdc_group.specs.declared.sign.EventSign.{EventSign}
use Rattle.cdc_group.specs.declared.sign.EventSign.TheVariants.{Gtid, Quiet, Statement, Marked, CommitTime, BeatTime, NoTime, Row as IsARow, Number, Prepare, Begin, Commit, Rollback, Savepoint, XaStart, XaEnd, XaCommit, XaRollback, Other, Foreign}

-- the sign of an event of this row
abbrev pub sign_seen : Row → EventSign → Sign
sign_seen row Gtid = SaysGtid
sign_seen row Quiet = SaysQuiet
sign_seen row Statement = Ddl row
sign_seen row Marked = SaysMarked
sign_seen row (CommitTime time) = SaysCommitTime time.value
sign_seen row (BeatTime time) = SaysBeatTime time.value
sign_seen row NoTime = SaysNoTime
sign_seen row IsARow = RowEvent row
sign_seen row Number = NumberEvent
sign_seen row (Prepare one_phase xid) = PrepareEvent one_phase xid
sign_seen row Begin = BeginText
sign_seen row Commit = CommitText
sign_seen row Rollback = RollbackText
sign_seen row Savepoint = SavepointText
sign_seen row (XaStart xid) = XaStartText xid
sign_seen row (XaEnd xid) = XaEndText xid
sign_seen row (XaCommit xid) = XaCommitText xid
sign_seen row (XaRollback xid) = XaRollbackText xid
sign_seen row Other = OtherText
sign_seen row Foreign = SaysForeign
