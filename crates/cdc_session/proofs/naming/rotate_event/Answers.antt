use Rattle.std.proofs.Common.{ℕ, List, length, ap, arith}
use Rattle.cdc_session.proofs.Names.{name_short}
use Rattle.cdc_session.proofs.naming.rotate_event.Goals as goal

pub overflow_cast-length : goal.overflow_cast-length
overflow_cast-length c =
    let short = name_short c.args.number c.ranges.number.fits in
    let same = ap (λ (l : List ℕ). length l) c.requires in
    omega (arith, same, short, c.len.ensures)
