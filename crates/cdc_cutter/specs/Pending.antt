-- The bytes that aren't cut yet.
use Rattle.std.specs.Prelude.{ℕ, List}
use Rattle.cdc_cutter.specs.declared.pending.Pending.{Pending}
use Rattle.cdc_cutter.specs.declared.pending.Pending.TheVariants.{Fed, Shared}

-- all of them
abbrev pub pending_bytes : Pending → List ℕ
pending_bytes (Fed bytes) = bytes
pending_bytes (Shared bytes) = bytes
