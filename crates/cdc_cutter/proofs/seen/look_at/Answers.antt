use Rattle.std.proofs.Common.{rules, refl, drop}
use Rattle.cdc_event.specs.File.{in_body}
use Rattle.cdc_cutter.proofs.seen.look_at.Goals as goal

pub returns-in-Ok : goal.returns-in-Ok
returns-in-Ok c = in_body c.in-Some.header (drop 19 c.args.bytes.now) c.in-Some.ensures.some (c.in-Ok.ensures.ok.0 refl) (search rules)
