use Rattle.std.proofs.Common.{refl}
use Rattle.cdc_merger.proofs.Heading.{count_less}
use Rattle.cdc_merger.proofs.gather.drain.Goals as goal

pub loop-heads-smaller : goal.loop-heads-smaller
loop-heads-smaller g c =
    count_less _ c.loop-heads.heads c.replace.new.self c.replace.ensures.given.0 c.replace.result _ c.replace.ensures.given.1 c.replace.ensures.given.2 refl
