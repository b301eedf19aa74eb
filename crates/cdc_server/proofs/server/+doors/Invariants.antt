use Rattle.std.proofs.Common.{◌+◌, ◌*◌, length}
use Rattle.cdc_server.proofs.server.+doors.Given as goal

abbrev pub decreases-serve_beside-join_mut+arg2 : goal.decreases-serve_beside-join_mut+arg2
decreases-serve_beside-join_mut+arg2 g l = 3 * length l.more_doors.now + 1

abbrev pub decreases-serve_beside : goal.decreases-serve_beside
decreases-serve_beside g l = 3 * length l.more_doors.now + 2

abbrev pub decreases-serve_from : goal.decreases-serve_from
decreases-serve_from g l = 3 * length l.doors.now
