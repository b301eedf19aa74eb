-- One output more.
use Rattle.std.proofs.Common.{◌≡◌, ℕ, ◌+◌, ◌<◌, ◌≤◌, List, set, refl, sym, ◌∙◌, ap, subst, arith, length, length-append, get_or, Result, Err}
use Rattle.std.proofs.lemmas.List.{length-set}
use Rattle.cdc_dumper.specs.State.{DumperState}
use Rattle.cdc_opening.specs.declared.outcome.Outcome.{Outcome}
use Rattle.cdc_opening.specs.declared.outcome.Outcome.TheVariants.{Disk}
use Rattle.cdc_opening.specs.OpenOuts.{IsOutKept, IsOutOpened}
use Rattle.cdc_opening.specs.OutAnswers.{IsOutAnswer}
use Rattle.cdc_opening.proofs.Keeping.{out_kept_same}
use Rattle.cdc_opening.proofs.OneMoreOut.{opened_more, item_at, open_before, seen_at, one_refused}
use Rattle.cdc_opening.proofs.Rising.{as_first, rose_put, same_behind}
use Rattle.cdc_opening.proofs.Threes.{three_by_index}
use Rattle.cdc_opening.proofs.Zips.{zip_put, zip_same}
use Rattle.cdc_opening.proofs.outs.open_outs.Goals as goal

pub returns-in_default-clause-kept : goal.returns-in_default-clause-kept
returns-in_default-clause-kept g c =
    zip_same (IsOutKept g.D.Disk.tells g.D.Disk.seen g.D.Disk.may_leave g.D.Disk.moment g.D.Disk.left_since g.D.Disk.faults)
    (out_kept_same g.D.Disk.tells g.D.Disk.seen g.D.Disk.may_leave g.D.Disk.moment g.D.Disk.left_since g.D.Disk.faults (λ told disk image left. g.met.D.Disk.only_now disk image told left)) c.args.outs.now

pub loop-index-init : goal.loop-index-init
loop-index-init g c = record {
  long = refl;
  many = ap length c.in-Ok.ensures.items;
  kept =
      zip_same (IsOutKept g.D.Disk.tells g.D.Disk.seen g.D.Disk.may_leave g.D.Disk.moment g.D.Disk.left_since g.D.Disk.faults)
      (out_kept_same g.D.Disk.tells g.D.Disk.seen g.D.Disk.may_leave g.D.Disk.moment g.D.Disk.left_since g.D.Disk.faults (λ told disk image left. g.met.D.Disk.only_now disk image told left)) c.args.outs.now;
  same = λ k d le. refl;
  opened = λ k d e f below. absurd (let h : k < 0 = below in omega (arith, h));
}

pub returns-in-Err-clause-refused : goal.returns-in-Err-clause-refused
returns-in-Err-clause-refused g c =
    let old = get_or c.loop-index.outs c.loop-index.index c.index-outs-index.result in
    let k : ℕ = c.loop-index.index in
    let first = as_first c.args.outs.now c.loop-index.outs k c.index-outs-index.result c.loop-index.invariant.same c.index-outs-index.is in
    let long : length c.loop-index.outs ≡ length c.args.outs.now = c.loop-index.invariant.long in
    let many : length c.loop-index.dumpers.items ≡ k = c.loop-index.invariant.many in
    let within : k < length c.args.outs.now = c.loop-index-test.true in
    one_refused g.D.Disk.tells _ (g.D.Disk.seen old) (k + 1) c.in-Err.outcome
    (λ told. open_before g.D.Disk.seen c.args.outs.now k within
    (λ (j : ℕ) (d : g.row.D.Denot) (below : j < k).
    let e : DumperState = item_at c.loop-index.dumpers.items j (omega (arith, below, many)) in
    record { front = (get_or c.loop-index.dumpers.items j e).published; found = (c.loop-index.invariant.opened j d e d below).found told }))
    (seen_at g.D.Disk.seen c.args.outs.now k old within first) c.in-Err.ensures.refused

pub returns-in-Err-clause-kept : goal.returns-in-Err-clause-kept
returns-in-Err-clause-kept g c =
    let old = get_or c.loop-index.outs c.loop-index.index c.index-outs-index.result in
    let first = as_first c.args.outs.now c.loop-index.outs c.loop-index.index c.index-outs-index.result c.loop-index.invariant.same c.index-outs-index.is in
    zip_put (IsOutKept g.D.Disk.tells g.D.Disk.seen g.D.Disk.may_leave g.D.Disk.moment g.D.Disk.left_since g.D.Disk.faults) c.args.outs.now c.loop-index.outs c.loop-index.index old c.open_out.new.disk
    c.loop-index.invariant.kept first c.open_out.ensures.kept

pub returns-in-Err-clause-failed : goal.returns-in-Err-clause-failed
returns-in-Err-clause-failed g c number is =
    let old = get_or c.loop-index.outs c.loop-index.index c.index-outs-index.result in
    let first = as_first c.args.outs.now c.loop-index.outs c.loop-index.index c.index-outs-index.result c.loop-index.invariant.same c.index-outs-index.is in
    let outcome : c.in-Err.outcome ≡ Disk number = cc in
    rose_put g.D.Disk.faults c.args.outs.now c.loop-index.outs c.loop-index.index number old c.open_out.new.disk c.loop-index.invariant.long c.loop-index-test.true first
    (subst (λ (o : Outcome). IsOutAnswer g.D.Disk.tells (g.D.Disk.seen old) (c.loop-index.index + 1) o) outcome c.in-Err.ensures.refused) (c.in-Err.ensures.failed number (let e : ◌≡◌ {A = Result DumperState Outcome} (Err c.in-Err.outcome) (Err (Disk number)) = ap (λ (o : Outcome). Err o) outcome in e))

pub returns-in_default-push-clause-kept : goal.returns-in_default-push-clause-kept
returns-in_default-push-clause-kept g c =
    let old = get_or c.loop-index.outs c.loop-index.index c.index-outs-index.result in
    let first = as_first c.args.outs.now c.loop-index.outs c.loop-index.index c.index-outs-index.result c.loop-index.invariant.same c.index-outs-index.is in
    zip_put (IsOutKept g.D.Disk.tells g.D.Disk.seen g.D.Disk.may_leave g.D.Disk.moment g.D.Disk.left_since g.D.Disk.faults) c.args.outs.now c.loop-index.outs c.loop-index.index old c.open_out.new.disk
    c.loop-index.invariant.kept first c.open_out.ensures.kept

pub loop-index-preserved : goal.loop-index-preserved
loop-index-preserved g c =
    let old = get_or c.loop-index.outs c.loop-index.index c.index-outs-index.result in
    let k : ℕ = c.loop-index.index in
    let first = as_first c.args.outs.now c.loop-index.outs k c.index-outs-index.result c.loop-index.invariant.same c.index-outs-index.is in
    let pushed = c.in-Ok-push.ensures.items in
    let many : length c.loop-index.dumpers.items ≡ k = c.loop-index.invariant.many in
    record {
      long = length-set c.loop-index.outs k c.open_out.new.disk ∙ c.loop-index.invariant.long;
      many = ap length pushed ∙ length-append _ _ ∙ ap (λ (n : ℕ). n + 1) many;
      kept = zip_put (IsOutKept g.D.Disk.tells g.D.Disk.seen g.D.Disk.may_leave g.D.Disk.moment g.D.Disk.left_since g.D.Disk.faults) c.args.outs.now c.loop-index.outs k old c.open_out.new.disk
          c.loop-index.invariant.kept first c.open_out.ensures.kept;
      same = same_behind c.loop-index.outs c.args.outs.now k c.open_out.new.disk c.loop-index.invariant.same;
      opened = λ j d e f below.
          subst (λ (ds : List DumperState). IsOutOpened g.D.Disk.tells g.D.Disk.seen g.D.Disk.synced g.D.Disk.pending (get_or c.args.outs.now j d) (get_or ds j e) (get_or (set c.loop-index.outs k c.open_out.new.disk) j f)) (sym pushed)
          (opened_more (IsOutOpened g.D.Disk.tells g.D.Disk.seen g.D.Disk.synced g.D.Disk.pending) c.args.outs.now c.loop-index.outs c.loop-index.dumpers.items k old c.open_out.new.disk c.in-Ok-open_out.dumper many
          c.loop-index.invariant.long c.loop-index-test.true c.loop-index.invariant.opened first c.in-Ok-open_out.ensures.opened j d e f below);
    }

pub returns-clause-opened : goal.returns-clause-opened
returns-clause-opened g c =
    let long : length c.loop-index.outs ≡ length c.args.outs.now = c.loop-index.invariant.long in
    let many : length c.loop-index.dumpers.items ≡ c.loop-index.index = c.loop-index.invariant.many in
    let past = c.loop-index-test.false in
    three_by_index (IsOutOpened g.D.Disk.tells g.D.Disk.seen g.D.Disk.synced g.D.Disk.pending) c.args.outs.now c.loop-index.dumpers.items c.loop-index.outs
    (let low : c.loop-index.index ≤ length c.args.outs.now = c.loop-index.auto.index-end in omega (arith, many, past, low)) long
    (λ k d e f within. c.loop-index.invariant.opened k d e f (omega (arith, within, past)))
