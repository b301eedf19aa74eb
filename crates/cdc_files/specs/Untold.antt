-- What follows of a type that tells nothing.
use Rattle.std.specs.Prelude.{false, IsTrue}
use Rattle.std.proofs.Common.{sym, true≢false}

-- anything, if it told
pub untold : {A : Type 0} → IsTrue false → A
untold told = absurd (true≢false (sym told))
