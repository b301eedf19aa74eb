-- The row whose bytes are at hand.
use Rattle.std.specs.Prelude.{◌≡◌}
use Rattle.cdc_event.specs.declared.body.Body.{Body}
use Rattle.cdc_event.specs.Event.{body_bytes}
use Rattle.cdc_group.specs.declared.source.Source.{Source}
use Rattle.cdc_group.specs.declared.source.Source.TheVariants.{Bytes, Whole}

-- the body is at hand, or these are its bytes
abbrev pub Tells : Source → Body → Type 0
Tells (Bytes bytes) body = bytes.now ≡ body_bytes body
Tells (Whole whole) body = whole.now ≡ body
