use Rattle.std.specs.Prelude.{All}
use Rattle.cdc_memory.specs.Link.{IsNewLink}
use Rattle.server_tests.proofs.made.door.Given as goal

-- all links are new
abbrev pub invariant-loop-input : goal.invariant-loop-input
invariant-loop-input l = All IsNewLink l.links.items
