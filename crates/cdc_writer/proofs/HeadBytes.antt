-- The length of a file's head.
use Rattle.std.proofs.Common.{◌≡◌, length, refl}
use Rattle.cdc_event.specs.Number.{low_first}
use Rattle.cdc_event.specs.Event.{header_bytes, body_bytes}
use Rattle.cdc_model.specs.Output.{file_head, post_headers}

pub head_size : length file_head ≡ 123
unfolding file_head post_headers header_bytes body_bytes low_first
head_size = refl
