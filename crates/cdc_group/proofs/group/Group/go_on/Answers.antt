use Rattle.cdc_group.specs.Seen.{sign_seen}
use Rattle.cdc_group.proofs.Steps.{kind_outside}
use Rattle.cdc_group.proofs.group.Group.go_on.Goals as goal

pub returns-in-Out-clause-made : goal.returns-in-Out-clause-made
returns-in-Out-clause-made c = λ row. kind_outside c.args.self.now c.args.seconds (sign_seen row c.args.sign.now) c.begin.result c.in-Out.is (c.begin.ensures.made row c.args.seconds)
