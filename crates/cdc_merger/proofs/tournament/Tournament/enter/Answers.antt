use Rattle.std.proofs.Common.{◌≡◌, List, Option, length, ap, sym, ◌∙◌, arith}
use Rattle.cdc_merger.specs.Bracket.{played}
use Rattle.cdc_merger.proofs.Playing.{seats_of, played_bracket, counts_few}
use Rattle.cdc_merger.proofs.tournament.Tournament.enter.Goals as goal

pub play-requires : goal.play-requires
play-requires g c =
    let view = ap (λ (list : List (Option g.row.K.Denot)). length list) c.self.view_is in
    let given = ap (λ v. length v.items) c.swap.ensures.x_after in
    let now = ap (λ (list : List (Option g.row.K.Denot)). length list) c.deref.ensures.value in
    seats_of 0 (length c.self.inside.heads.items) (length c.deref.result.now) c.self.inside.bracket c.self.invariant.spans
    (omega (arith, view, given, now, c.requires.nodes))

pub invariant_of-self : goal.invariant_of-self
invariant_of-self g c =
    let many : length c.swap.new.x.items ≡ length c.self.inside.heads.items =
    ap (λ v. length v.items) c.swap.ensures.x_after ∙ c.requires.nodes ∙ sym (ap (λ (list : List (Option g.row.K.Denot)). length list) c.self.view_is) in
    played_bracket g.K.Ranked.order c.self.inside.heads.items c.swap.new.x.items c.self.inside.bracket c.play.new.bracket c.self.invariant many
    (c.play.ensures.played ∙ ap (λ list. played g.K.Ranked.order list c.self.inside.bracket) c.deref.ensures.value)

pub returns-clause-counted : goal.returns-clause-counted
returns-clause-counted g c =
    let many : length c.swap.new.x.items ≡ length c.self.inside.heads.items =
    ap (λ v. length v.items) c.swap.ensures.x_after ∙ c.requires.nodes ∙ sym (ap (λ (list : List (Option g.row.K.Denot)). length list) c.self.view_is) in
    counts_few g.K.Ranked.order c.self.inside.heads.items c.swap.new.x.items c.deref.result.now c.args.heads.now.items c.self.inside.bracket c.args.steps.now c.play.new.steps
    c.self.invariant many c.deref.ensures.value (ap (λ v. v.items) c.swap.ensures.x_after) c.play.ensures.counted
