-- The units of an output's own transactions are never refused.
use Rattle.std.proofs.Common.{◌≡◌, ℕ, suc, ◌+◌, ◌≤◌, ◌<◌, ◌^◌, List, take, sym, ◌∙◌, ap, arith, add-one}
use Rattle.cdc_outside.specs.Disk.{Image}
use Rattle.cdc_model.specs.Records.{Transaction, OutputUnit}
use Rattle.cdc_model.specs.Output.{layout_of}
use Rattle.cdc_model.specs.Transaction.{key_at, key_or_first}
use Rattle.cdc_records.specs.declared.front.Front.{Front}
use Rattle.cdc_recovery.specs.Outputs.{OutputPlan, IsFrontOf, IsUnitAt}
use Rattle.cdc_dump_stage.specs.declared.dump_end.DumpEnd.{DumpEnd}
use Rattle.cdc_dump_stage.specs.declared.dump_end.DumpEnd.TheVariants.{Open, Whole, Disk, Differs, Key as OtherKey}
use Rattle.cdc_dump_stage.specs.Taking.{IsNextUnit, IsRefusedFor}

-- the unit behind a Front of the first so many is the next one
pub next_there : (plan : OutputPlan) (txns : List Transaction) (sent : ℕ) (g : Front) (image : Image) (unit : OutputUnit) → IsFrontOf plan txns g image → IsUnitAt plan txns sent unit → unit.number ≤ 2 ^ 62 → g.count ≡ sent → IsNextUnit g unit
next_there plan txns sent g image unit is at most here = record {
  number = at.number ∙ ap (λ n. n + 1) (sym here);
  most = most;
  before = ap (λ (u : OutputUnit). u.before) at.is ∙ ap (λ n. layout_of plan.rules plan.rotation (take n txns)) (sym here) ∙ sym is.layout;
}

-- the key of the unit behind the first so many is that of the transaction one further
pub key_there : (plan : OutputPlan) (txns : List Transaction) (sent count : ℕ) (unit : OutputUnit) → IsUnitAt plan txns sent unit → count ≡ unit.number → key_at txns count ≡ unit.key
key_there plan txns sent count unit at here =
    ap (λ n. key_at txns n) (let e : count ≡ suc sent = here ∙ at.number ∙ add-one sent in e) ∙ ap key_or_first at.there ∙ ap (λ (u : OutputUnit). u.key) (sym at.is)

pub never_refused : (plan : OutputPlan) (txns : List Transaction) (sent : ℕ) (g : Front) (image : Image) (unit : OutputUnit) (dump_end : DumpEnd) → IsFrontOf plan txns g image → sent ≤ g.count → IsUnitAt plan txns sent unit → unit.number ≤ 2 ^ 62 → IsRefusedFor g unit dump_end → ⊥
never_refused plan txns sent g image unit Open is counted at most refused = refused
never_refused plan txns sent g image unit Whole is counted at most refused = refused
never_refused plan txns sent g image unit Disk is counted at most refused = refused
never_refused plan txns sent g image unit (Differs kept given) is counted at most refused =
    let number : unit.number ≡ sent + 1 = at.number in
    let past : g.count < unit.number = refused.0 in
    refused.1 (next_there plan txns sent g image unit is at most (omega (arith, number, past, counted)))
never_refused plan txns sent g image unit (OtherKey kept given) is counted at most refused =
    let other = refused.0 in
    other.other (is.last kept other.last ∙ key_there plan txns sent g.count unit at (sym other.here) ∙ sym refused.1)
