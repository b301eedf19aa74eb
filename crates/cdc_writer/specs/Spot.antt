-- Where a print goes.
use Rattle.std.specs.Prelude.{ℕ, ◌+◌, nat_le}
use Rattle.cdc_model.specs.declared.layout.Layout.{Layout}
use Rattle.cdc_model.specs.Layout.{begins_file, next_file}
use Rattle.cdc_model.specs.Unit.{print_place}
use Rattle.cdc_writer.specs.declared.spot.Spot.{Spot}

-- the spot of a print of a size: the file, the place where the print begins there, whether a head stands before it, and
-- whether the file has the rotation size behind it
abbrev pub spot_of : Layout → ℕ → ℕ → Spot
spot_of layout rotation size = record {
  file = next_file layout;
  at = print_place layout;
  head = begins_file layout;
  closes = nat_le rotation (print_place layout + size);
}
