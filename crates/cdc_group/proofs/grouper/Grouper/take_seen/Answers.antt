use Rattle.std.proofs.Common.{sym, ◌∙◌}
use Rattle.cdc_event.specs.View.{body_viewed, event_viewed}
use Rattle.cdc_model.specs.Records.{Row}
use Rattle.cdc_group.specs.Seen.{sign_seen}
use Rattle.cdc_group.proofs.Steps.{goes_on}
use Rattle.cdc_group.proofs.grouper.Grouper.take_seen.Goals as goal

pub returns : goal.returns
returns c =
    let row : Row = (c.args.view.now.header.kind, body_viewed c.args.view.now.body) in
    goes_on c.args.at c.args.end c.args.checksum (event_viewed c.args.view.now) (sign_seen row c.sign_of-sign.result)
    c.self.inside.group c.go_on-went.new.self c.args.self.now c.go_on-went.result c.placed.result c.requires.file (sym c.self.view_is) c.sign_of-sign.ensures.sign
    (sym (c.misfit.ensures row) ∙ c.in_default.is) (c.go_on-went.ensures.made row) (c.go_on-went.ensures.new (body_viewed c.args.view.now.body) c.requires.tells c.requires.event) c.go_on-went.ensures.err c.placed.ensures
