-- Where a reading stands behind an entry that opens a branch.
use Rattle.std.proofs.Common.{◌≡◌, ◌+◌, ℕ, max, Bool, true, false, not, cond, List, [], ◌∷◌, Option, Some, None, ap, refl, ◌∙◌, arith}
use Rattle.cdc_base.specs.declared.xid.Xid.{Xid}
use Rattle.cdc_base.specs.Xid.{same_xid}
use Rattle.cdc_model.specs.declared.entry.EntryKind.TheVariants.{Prepare}
use Rattle.cdc_model.specs.Records.{Row, OpenBranch, Start}
use Rattle.cdc_model.specs.Start.{find_open, without, enter, next}
use Rattle.cdc_model.specs.Soundness.{unless_open, entry_fault}

-- where no branch of an xid is open, leaving it out changes nothing
pub without_closed : (xid : Xid) (opened : List OpenBranch) → find_open xid opened ≡ None → without xid opened ≡ opened
without_closed xid [] none = refl
without_closed xid (branch ∷ opened) none = by (same_xid xid branch.xid) none (without_closed xid opened)
  where
    by : (same : Bool) → cond same (Some branch) (find_open xid opened) ≡ None → (find_open xid opened ≡ None → without xid opened ≡ opened)
        → cond (not same) (branch ∷ without xid opened) (without xid opened) ≡ branch ∷ opened
    by true is later = absurd (cc)
    by false is later = ap (λ (list : List OpenBranch). branch ∷ list) (later is)

pub closed_by : (xid : Xid) (found : Option OpenBranch) → unless_open xid found None ≡ None → found ≡ None
closed_by xid (Some branch) sound = absurd (cc)
closed_by xid None sound = refl

pub max_none : (n : ℕ) → max 0 n ≡ n
max_none n = omega arith

-- a Prepare that is sound enters its branch
pub prepared : (xid : Xid) (rows : List Row) (start : Start) → entry_fault (Prepare xid rows) start ≡ None
    → next (Prepare xid rows) start ≡ record { entry = start.entry + 1; mark = start.mark; opened = enter (record { xid = xid; floor = start.mark; entry = start.entry; rows = rows }) start.opened }
prepared xid rows start sound =
    let closed : find_open xid start.opened ≡ None = closed_by xid (find_open xid start.opened) sound in
    let branch : OpenBranch = record { xid = xid; floor = start.mark; entry = start.entry; rows = rows } in
    let there : ℕ → List OpenBranch → Start = λ (mark : ℕ) (list : List OpenBranch). record { entry = start.entry + 1; mark = mark; opened = enter branch list } in
    ap (λ (mark : ℕ). there mark (without xid start.opened)) (max_none start.mark)
    ∙ ap (there start.mark) (without_closed xid start.opened closed)
