use Rattle.cdc_merger.proofs.Playing.{idle_bracket}
use Rattle.cdc_merger.proofs.tournament.Tournament.new.Goals as goal

pub invariant_of-result : goal.invariant_of-result
invariant_of-result g c =
    idle_bracket g.K.Ranked.order c.in_ok-heads.heads.items c.args.nodes c.in_ok-bracket.bracket c.in_ok-heads.ensures c.in_ok-bracket.ensures.spans
    c.in_ok-bracket.ensures.idle c.in_ok-bracket.ensures.low
