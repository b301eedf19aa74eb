-- Each sound commit gives one branch, and one entry more adds what is new of it.
use Rattle.std.proofs.Common.{◌≡◌, ℕ, ◌+◌, ◌≤◌, leb, Bool, true, false, cond, ◌&&◌, List, [], ◌∷◌, ◌++◌, length, map, filter, find, Option, Some, None, ap, sym, subst, refl, ◌∙◌, arith}
use Rattle.std.specs.List.{AllByRecursion}
use Rattle.std.specs.Ordering.{is_gt}
use Rattle.std.proofs.lemmas.Bool.{lt-leb}
use Rattle.std.proofs.lemmas.List.{map-append}
use Rattle.std.proofs.lemmas.List.Elements.{filter-append}
use Rattle.cdc_base.specs.declared.key.Key.{Key}
use Rattle.cdc_base.specs.declared.key.Key.TheVariants.{Shared, Plain as PlainKey}
use Rattle.cdc_base.specs.declared.xid.Xid.{Xid}
use Rattle.cdc_base.specs.Key.{key_order}
use Rattle.cdc_base.specs.Xid.{same_xid}
use Rattle.cdc_model.specs.declared.entry.EntryKind.{EntryKind}
use Rattle.cdc_model.specs.declared.entry.EntryKind.TheVariants.{Prepare, OnePhase, Commit, Rollback, Plain, Beat}
use Rattle.cdc_model.specs.declared.fault.SortFault.{SortFault}
use Rattle.cdc_model.specs.Records.{LogEntry, OpenBranch, Start}
use Rattle.cdc_model.specs.Start.{find_open, left_by}
use Rattle.cdc_model.specs.Soundness.{undercut, when_open, entry_fault}
use Rattle.cdc_model.specs.Branch.{Begun, committed, branch_of, begun_branches, is_new, new_branches}
use Rattle.cdc_model.specs.Commits.{begun_with, IsCommitted, EachCommitGivesOneBranch, OneEntryMore, IsHeld, HeldCommitGivesNone}
use Rattle.cdc_model.proofs.Marks.{numbers_count}
use Rattle.cdc_model.proofs.Openings.{open_is_newest_prepare, unsaid_history}

-- ---- what one entry commits

-- the branch that a Commit finds open, where the Commit is sound
pub found_open : (xid : Xid) (opened : Option OpenBranch) (fault : OpenBranch → Option SortFault) → when_open xid opened fault ≡ None
    → (branch : OpenBranch) × (opened ≡ Some branch)
found_open xid None fault sound = absurd (cc)
found_open xid (Some branch) fault sound = (branch, refl)

pub is_committed : (start : Start) (node : ℕ) (earlier : List LogEntry) (kind : EntryKind) (here : Start) → here ≡ left_by start earlier
    → here.entry ≡ start.entry + length earlier → entry_fault kind here ≡ None → IsCommitted start node earlier kind (branch_of node kind here)
is_committed start node earlier (Prepare xid rows) here is number sound = refl
is_committed start node earlier (OnePhase xid rows timestamp seconds) here is number sound =
    ap (λ (n : ℕ). begun_with n (Shared timestamp xid.gtrid) n seconds rows ∷ []) number
is_committed start node earlier (Commit xid timestamp seconds) here is number sound =
    let found = found_open xid (find_open xid here.opened) (λ branch. undercut timestamp branch.floor) sound in
    let branch = found.0 in (
      branch,
      (open_is_newest_prepare start earlier xid branch).0 (ap (λ (s : Start). find_open xid s.opened) (sym is) ∙ found.1),
      ap (committed (Shared timestamp xid.gtrid) here.entry seconds) found.1
          ∙ ap (λ (n : ℕ). begun_with branch.entry (Shared timestamp xid.gtrid) n seconds branch.rows ∷ []) number,
    )
is_committed start node earlier (Rollback xid) here is number sound = refl
is_committed start node earlier (Plain rows seconds) here is number sound =
    ap (λ (n : ℕ). begun_with n (PlainKey here.mark node n) n seconds rows ∷ []) number
    ∙ ap (λ (s : Start). begun_with (start.entry + length earlier) (PlainKey s.mark node (start.entry + length earlier)) (start.entry + length earlier) seconds rows ∷ []) is
is_committed start node earlier (Beat timestamp) here is number sound = refl

pub each_commit_gives_one_branch : EachCommitGivesOneBranch
each_commit_gives_one_branch start node earlier entry sound = (
  branch_of node entry.kind (left_by start earlier),
  refl,
  is_committed start node earlier entry.kind (left_by start earlier) refl (numbers_count start earlier) sound,
)

-- ---- one entry more

pub new_append : (last : Key) (start : Start) (front back : List Begun)
    → new_branches last start (front ++ back) ≡ new_branches last start front ++ new_branches last start back
new_append last start front back =
    ap (λ (list : List Begun). map (λ (b : Begun). b.1) list) (filter-append (is_new last start) front back)
    ∙ map-append (λ (b : Begun). b.1) (filter (is_new last start) front) (filter (is_new last start) back)

pub one_entry_more : OneEntryMore
one_entry_more last start node earlier entry =
    new_append last start (begun_branches start node earlier) (branch_of node entry.kind (left_by start earlier))

-- ---- a held branch

pub find_held : (test : OpenBranch → Bool) (opened : List OpenBranch) (branch : OpenBranch) → AllByRecursion IsHeld opened → find test opened ≡ Some branch → IsHeld branch
find_held test [] branch all found = absurd (cc)
find_held test (first ∷ rest) branch (here, all) found = by (test first) (find_held test rest branch all) found
  where
    by : (b : Bool) → (find test rest ≡ Some branch → IsHeld branch) → cond b (Some first) (find test rest) ≡ Some branch → IsHeld branch
    by true later is = let same : first ≡ branch = cc in subst IsHeld same here
    by false later is = later is

pub old_is_dropped : (last : Key) (start : Start) (begun : Begun) (old : Bool) → leb start.entry begun.0 ≡ old → old ≡ false → new_branches last start (begun ∷ []) ≡ []
old_is_dropped last start begun old is fails =
    let dropped : is_new last start begun ≡ false = ap (λ (b : Bool). b && is_gt (key_order begun.1.key last)) (is ∙ fails) in
    ap (λ (b : Bool). map (λ (b : Begun). b.1) (cond b (begun ∷ []) [])) dropped

pub held_gives_none : (last : Key) (start : Start) (key : Key) (number seconds : ℕ) (opened : Option OpenBranch) → 1 ≤ start.entry
    → ((branch : OpenBranch) → opened ≡ Some branch → IsHeld branch) → new_branches last start (committed key number seconds opened) ≡ []
held_gives_none last start key number seconds None first held = refl
held_gives_none last start key number seconds (Some branch) first held =
    let is : branch.entry ≡ 0 = (held branch refl).unnumbered in
    old_is_dropped last start (begun_with branch.entry key number seconds branch.rows) (leb start.entry branch.entry) refl
    (lt-leb start.entry branch.entry (omega (arith, is, first)))

pub held_commit_gives_none : HeldCommitGivesNone
held_commit_gives_none last start node earlier xid timestamp seconds is silent =
    held_gives_none last start (Shared timestamp xid.gtrid) (left_by start earlier).entry seconds (find_open xid (left_by start earlier).opened) is.numbered
    (λ branch found. find_held (λ (o : OpenBranch). same_xid xid o.xid) start.opened branch is.held (sym (unsaid_history xid start earlier silent) ∙ found))
