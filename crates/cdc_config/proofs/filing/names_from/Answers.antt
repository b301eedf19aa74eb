use Rattle.std.proofs.Common.{List, Err, ap, subst}
use Rattle.cdc_base.specs.declared.rename.Rename.{Rename}
use Rattle.cdc_config.proofs.Filed.{AreFiled, not_filed, one_filed}
use Rattle.cdc_config.proofs.filing.names_from.Goals as goal

pub loop-rule-preserved : goal.loop-rule-preserved
loop-rule-preserved c =
    let filed = subst (λ (front : List Rename). AreFiled c.args.rules front c.loop-rule.names) c.in-Some.ensures.some c.loop-rule.invariant in
    one_filed c.args.rules c.pop.new.self c.loop-rule.names c.file.new.names c.in-Some.rule filed c.in-Ok.ensures.ok c.in-Ok.ensures.apart

pub returns-in-Err : goal.returns-in-Err
returns-in-Err c =
    let filed = subst (λ (front : List Rename). AreFiled c.args.rules front c.loop-rule.names) c.in-Some.ensures.some c.loop-rule.invariant in
    not_filed c.args.rules c.pop.new.self c.loop-rule.names c.in-Some.rule c.in-Err.misfit filed (λ why. c.in-Err.ensures.refused (ap Err why))
