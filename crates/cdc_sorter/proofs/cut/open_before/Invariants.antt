use Rattle.std.proofs.Common.{◌≡◌, []}
use Rattle.cdc_open.specs.Standing.{branches_of}
use Rattle.cdc_open.specs.Table.{standing_list}
use Rattle.cdc_sorter.specs.Trail.{put_opens}
use Rattle.cdc_sorter.proofs.cut.open_before.Given as goal

-- what is left decides the rest
abbrev pub invariant-loop-key : goal.invariant-loop-key
invariant-loop-key l = put_opens l.number (branches_of (standing_list l.key-iterator)) l.held ≡ put_opens l.number (branches_of l.opened) []
