-- Feeds of nodes that have given nothing.
use Rattle.std.proofs.Common.{◌≡◌, ℕ, zero, suc, length, ap, refl}
use Rattle.cdc_merger.specs.Merging.{no_feeds}

pub so_many : (nodes : ℕ) → length (no_feeds nodes) ≡ nodes
so_many zero = refl
so_many (suc nodes) = ap suc (so_many nodes)
