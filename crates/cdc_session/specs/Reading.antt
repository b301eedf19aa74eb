-- What a window over a published file shows.
use Rattle.std.specs.Prelude.{ℕ, ◌≤◌, List, length}
use Rattle.cdc_index.specs.Shelf.{Shows}

-- a window shows a part of a file, of which so many bytes count
pub record WindowShows (content window : List ℕ) (from size limit : ℕ) : Type 0 where
  pub shows : Shows content window from size
  pub within : limit ≤ length content
