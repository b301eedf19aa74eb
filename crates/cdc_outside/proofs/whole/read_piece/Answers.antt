use Rattle.std.proofs.Common.{◌≤◌, length, arith}
use Rattle.cdc_outside.proofs.Piece.{next_piece}
use Rattle.cdc_outside.proofs.whole.read_piece.Goals as goal

pub returns-clause-exact : goal.returns-clause-exact
returns-clause-exact g c told start =
    let within : c.in_ok-read.read ≤ length c.read_at.new.into = omega (arith, c.in_ok-read.ensures.within) in
    next_piece _ within (c.in_ok-read.ensures.read told) start c.in_ok-push.ensures.ok
