use Rattle.std.proofs.Common.{List, Option, length, ap, refl, sym, subst, ◌∙◌, arith}
use Rattle.std.specs.Prelude.{slice_set}
use Rattle.cdc_merger.specs.Heads.{HasNoHead, LeadsWith}
use Rattle.cdc_merger.specs.Bracket.{replayed}
use Rattle.cdc_merger.proofs.Heading.{set_long}
use Rattle.cdc_merger.proofs.Playing.{seats_of, replayed_bracket, least_none, least_some}
use Rattle.cdc_merger.proofs.tournament.Tournament.replace.Goals as goal

pub replay-requires : goal.replay-requires
replay-requires g c =
    let long = set_long c.self.inside.heads.items c.leader-node.result c.replace-head.new.dest in
    let now = ap (λ (list : List (Option g.row.K.Denot)). length list) c.deref.ensures.value in
    seats_of 0 (length c.self.inside.heads.items) (length c.deref.result.now) c.self.inside.bracket c.self.invariant.spans (omega (arith, long, now))

pub unreachable-requires : goal.unreachable-requires
unreachable-requires g c =
    c.requires
    (subst (λ (heads : List (Option g.row.K.Denot)). HasNoHead heads) c.self.view_is
    (least_none g.K.Ranked.order g.met.K.Ranked.total c.self.inside.heads.items c.self.inside.bracket c.leader-node.result c.index_mut.result.now c.self.invariant
    c.leader-node.ensures.leads c.index_mut.ensures.value (sym c.replace-head.ensures.value ∙ c.in-None.is)))

pub invariant_of-self : goal.invariant_of-self
invariant_of-self g c =
    replayed_bracket g.K.Ranked.order c.self.inside.heads.items (slice_set c.self.inside.heads.items c.leader-node.result c.replace-head.new.dest) c.self.inside.bracket c.replay.new.bracket
    c.leader-node.result c.replace-head.new.dest c.self.invariant refl
    (c.replay.ensures.played ∙ ap (λ list. replayed g.K.Ranked.order list c.leader-node.result c.self.inside.bracket) c.deref.ensures.value)

pub returns-clause-given : goal.returns-clause-given
returns-clause-given g c = (
  c.leader-node.result,
  subst (λ (heads : List (Option g.row.K.Denot)). LeadsWith g.K.Ranked.order heads c.leader-node.result c.in-Some.key) c.self.view_is
      (least_some g.K.Ranked.order g.met.K.Ranked.total c.self.inside.heads.items c.self.inside.bracket c.leader-node.result c.index_mut.result.now c.in-Some.key c.self.invariant
      c.leader-node.ensures.leads c.index_mut.ensures.value (sym c.replace-head.ensures.value ∙ c.in-Some.is)),
  ap (λ (heads : List (Option g.row.K.Denot)). slice_set heads c.leader-node.result c.replace-head.new.dest) c.self.view_is
      ∙ ap (λ (next : Option g.row.K.Denot). slice_set c.args.self.now c.leader-node.result next) c.replace-head.ensures.after,
)
