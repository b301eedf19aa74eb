use Rattle.std.proofs.Common.{◌≡◌, false, refl, sym, ◌∙◌}
use Rattle.cdc_sorter.specs.Sorting.{is_ready}
use Rattle.cdc_sorter.proofs.Steps.{gives_none}
use Rattle.cdc_sorter.proofs.sorter.Sorter.pop.Goals as goal

pub returns-then-not-is_ready-clause-none : goal.returns-then-not-is_ready-clause-none
returns-then-not-is_ready-clause-none c =
    let unready : is_ready c.args.self.now ≡ false = sym c.is_ready.ensures ∙ c.if-not-is_ready.true in
    λ reading history gave h. (gives_none c.args.self.now reading history gave h unready, refl)
