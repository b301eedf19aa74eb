-- One stage more, and all of them.
use Rattle.std.proofs.Common.{rules, ◌≡◌, ◌+◌, ◌<◌, ◌^◌, ◌++◌, List, length, sym, ◌∙◌, ap, subst, arith}
use Rattle.std.specs.Prelude.{remove}
use Rattle.std.specs.List.{AllByRecursion}
use Rattle.std.proofs.lemmas.Bool.Decides.{nat_tests}
use Rattle.cdc_model.specs.Restart.{RestartPoint}
use Rattle.cdc_node_stage.specs.declared.stage.NodeStage.{NodeStage}
use Rattle.cdc_records.specs.Checkpoint.{IsCut}
use Rattle.cdc_windows.proofs.Making.{shorter}
use Rattle.cdc_pass.specs.Starting.{StagesBegin}
use Rattle.cdc_pass.proofs.Beginning.{stages_more, stages_all}
use Rattle.cdc_pass.proofs.Listing.{rest_holds, length_more}
use Rattle.cdc_pass.proofs.stages.stages_from.Goals as goal

pub loop-alloc-preserved : goal.loop-alloc-preserved
loop-alloc-preserved c =
    let some : 0 < length c.loop-alloc.points = first_of (search rules, omega arith, grind (arith, nat_tests)) in
    let rest : c.remove.new.self ≡ remove c.loop-alloc.points 0 = c.remove.ensures.rest in
    let fewer : length c.remove.new.self + 1 ≡ length c.loop-alloc.points = ap (λ (points : List RestartPoint). length points + 1) rest ∙ shorter c.loop-alloc.points some in
    let longer : length c.push_reserved.new.self.items ≡ length c.loop-alloc.stages.items + 1 = ap (λ (stages : List NodeStage). length stages) c.push_reserved.ensures.items ∙ length_more c.loop-alloc.stages.items c.in_ok-stage.stage in
    record {
      first = omega arith;
      few = let so_far = c.loop-alloc.invariant.few in omega (arith, fewer, so_far);
      room = let so_far = c.loop-alloc.invariant.room in let same = c.push_reserved.ensures.capacity in omega (arith, fewer, longer, so_far, same);
      cuts = subst (λ (points : List RestartPoint). AllByRecursion IsCut points) (sym rest) (rest_holds IsCut c.loop-alloc.points c.loop-alloc.invariant.cuts);
      bytes =
          subst (λ (points : List RestartPoint). AllByRecursion (λ (cut : RestartPoint). cut.place.at < 2 ^ 63) points) (sym rest)
          (rest_holds (λ (cut : RestartPoint). cut.place.at < 2 ^ 63) c.loop-alloc.points c.loop-alloc.invariant.bytes);
      left = λ others all.
          subst (λ (made : List NodeStage). StagesBegin 1 c.args.last.now c.args.points (made ++ others)) (sym c.push_reserved.ensures.items)
          (stages_more c.args.last.now c.args.points c.loop-alloc.node c.args.window c.loop-alloc.points c.loop-alloc.stages.items c.remove.result c.in_ok-stage.stage some c.remove.ensures.item c.in_ok-stage.ensures c.loop-alloc.invariant.left
          others (subst (λ (points : List RestartPoint). StagesBegin (c.loop-alloc.node + 1) c.args.last.now points others) rest all));
    }

pub returns : goal.returns
returns c =
    let none : length c.loop-alloc.points ≡ 0 = first_of (search rules, omega arith, grind (arith, nat_tests)) in
    stages_all c.args.last.now c.args.points c.loop-alloc.node c.loop-alloc.points c.loop-alloc.stages.items none c.loop-alloc.invariant.left
