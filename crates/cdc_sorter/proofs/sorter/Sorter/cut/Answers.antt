use Rattle.std.proofs.Common.{◌≡◌, reverse, subst, sym}
use Rattle.cdc_model.specs.Restart.{RestartPoint, IsLatestPoint}
use Rattle.cdc_sorter.specs.Trail.{cut_of}
use Rattle.cdc_sorter.proofs.Backs.{ok_weaker}
use Rattle.cdc_sorter.proofs.Steps.{open_ascend, cuts_latest}
use Rattle.cdc_sorter.proofs.sorter.Sorter.cut.Goals as goal

pub returns : goal.returns
returns c =
    let s = c.args.self.now in
    λ reading history gave h begins low.
    ok_weaker (λ (cut : RestartPoint). cut ≡ cut_of c.args.last.now s.first s.here s.trail)
    (λ (cut : RestartPoint). IsLatestPoint c.args.last.now reading.from reading.node (reverse history) cut)
    (λ cut is. subst (IsLatestPoint c.args.last.now reading.from reading.node (reverse history)) (sym is) (cuts_latest s reading history gave c.args.last.now h begins low))
    c.cut_here.result (c.cut_here.ensures (open_ascend s reading history gave h begins))
