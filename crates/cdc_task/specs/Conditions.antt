-- Conditions on a checkpoint, part by part.
use Rattle.std.specs.Prelude.{ℕ, ◌≤◌, ◌<◌, ◌^◌, not, IsTrue}
use Rattle.cdc_model.specs.declared.layout.Layout.{Layout}

-- an output's layout that may stand beside a count: an open file is below 2^30 bytes, a closed one below 2^31
pub record HasGoodLayout (count : ℕ) (layout : Layout) : Type 0 where
  pub within : layout.file ≤ count
  pub left_open : IsTrue (not layout.closed) → layout.length < 2 ^ 30
  pub size : layout.length < 2 ^ 31
