-- One source more.
use Rattle.std.proofs.Common.{◌≡◌, ℕ, ◌+◌, refl, ◌∙◌, ap, subst, get_or, Result, Err}
use Rattle.std.proofs.lemmas.List.{length-set}
use Rattle.cdc_opening.specs.declared.outcome.Outcome.{Outcome}
use Rattle.cdc_opening.specs.declared.outcome.Outcome.TheVariants.{Read}
use Rattle.cdc_opening.specs.OpenSources.{IsSourceKept}
use Rattle.cdc_opening.specs.SourceAnswers.{IsWholeAnswer}
use Rattle.cdc_opening.proofs.Rising.{as_first, rose_put, same_behind, source_same}
use Rattle.cdc_opening.proofs.Zips.{zip_put, zip_same}
use Rattle.cdc_opening.proofs.sources.open_all_whole.Goals as goal

pub loop-index-init : goal.loop-index-init
loop-index-init g c = record {
  long = refl;
  kept =
      zip_same (IsSourceKept g.S.Source.held g.S.Source.sizes g.S.Source.lowest g.S.Source.highest g.S.Source.faults)
      (source_same g.S.Source.held g.S.Source.sizes g.S.Source.lowest g.S.Source.highest g.S.Source.faults) c.args.sources.now;
  same = λ k d le. refl;
}

pub returns-in-Err-clause-kept : goal.returns-in-Err-clause-kept
returns-in-Err-clause-kept g c =
    let old = get_or c.loop-index.sources c.loop-index.index c.index-sources-index.result in
    let first = as_first c.args.sources.now c.loop-index.sources c.loop-index.index c.index-sources-index.result c.loop-index.invariant.same c.index-sources-index.is in
    zip_put (IsSourceKept g.S.Source.held g.S.Source.sizes g.S.Source.lowest g.S.Source.highest g.S.Source.faults) c.args.sources.now c.loop-index.sources c.loop-index.index old c.open_whole.new.source
    c.loop-index.invariant.kept first c.open_whole.ensures.kept

pub returns-in-Err-clause-failed : goal.returns-in-Err-clause-failed
returns-in-Err-clause-failed g c number is =
    let old = get_or c.loop-index.sources c.loop-index.index c.index-sources-index.result in
    let first = as_first c.args.sources.now c.loop-index.sources c.loop-index.index c.index-sources-index.result c.loop-index.invariant.same c.index-sources-index.is in
    let outcome : c.in-Err.outcome ≡ Read number = cc in
    rose_put g.S.Source.faults c.args.sources.now c.loop-index.sources c.loop-index.index number old c.open_whole.new.source c.loop-index.invariant.long c.loop-index-test.true first
    (subst (λ (o : Outcome). IsWholeAnswer (c.loop-index.index + 1) o) outcome c.in-Err.ensures.refused) (c.in-Err.ensures.failed number (let e : ◌≡◌ {A = Result ℕ Outcome} (Err c.in-Err.outcome) (Err (Read number)) = ap (λ (o : Outcome). Err o) outcome in e))

pub loop-index-preserved : goal.loop-index-preserved
loop-index-preserved g c =
    let old = get_or c.loop-index.sources c.loop-index.index c.index-sources-index.result in
    let first = as_first c.args.sources.now c.loop-index.sources c.loop-index.index c.index-sources-index.result c.loop-index.invariant.same c.index-sources-index.is in
    record {
      long = length-set c.loop-index.sources c.loop-index.index c.open_whole.new.source ∙ c.loop-index.invariant.long;
      kept = zip_put (IsSourceKept g.S.Source.held g.S.Source.sizes g.S.Source.lowest g.S.Source.highest g.S.Source.faults) c.args.sources.now c.loop-index.sources c.loop-index.index old c.open_whole.new.source
          c.loop-index.invariant.kept first c.open_whole.ensures.kept;
      same = same_behind c.loop-index.sources c.args.sources.now c.loop-index.index c.open_whole.new.source c.loop-index.invariant.same;
    }
