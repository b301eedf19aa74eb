use Rattle.std.proofs.Common.{◌≡◌, take}
use Rattle.cdc_model.proofs.opened.share_opened.Given as goal

abbrev pub invariant-loop-branch : goal.invariant-loop-branch
invariant-loop-branch l = l.shared ≡ take l.branch-index l.opened
