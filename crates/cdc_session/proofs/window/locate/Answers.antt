use Rattle.std.proofs.Common.{◌+◌, ◌≤◌, arith}
use Rattle.cdc_session.proofs.Views.{shown_part, shown_front}
use Rattle.cdc_session.proofs.window.locate.Goals as goal

pub returns-then-place-window-clause-told : goal.returns-then-place-window-clause-told
returns-then-place-window-clause-told g c told image same reads =
    shown_part _ _ _ _ _ _ _ reads c.if-window-place.true c.if-place-window.true

pub returns-clause-told : goal.returns-clause-told
returns-clause-told g c told image same reads =
    let limit : c.args.place + c.args.need ≤ c.args.source.limit = c.requires.there in
    let here = c.in_ok-size.ensures.reads told image same (let within = reads.within in omega (arith, within)) in
    shown_front _ _ _ _ _ _ here c.if-size-need.false
