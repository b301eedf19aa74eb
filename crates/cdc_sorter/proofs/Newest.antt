-- What an entry commits is newer than all that wait: so it stands behind those of its key.
use Rattle.std.proofs.Common.{◌≡◌, ◌<◌, ℕ, ◌+◌, Bool, true, false, cond, Option, Some, None, List, [], ◌∷◌, map, filter, sym, subst, refl, arith}
use Rattle.std.specs.List.{AllByRecursion, fold}
use Rattle.cdc_base.specs.declared.key.Key.{Key}
use Rattle.cdc_base.specs.declared.key.Key.TheVariants.{Shared, Plain as PlainKey}
use Rattle.cdc_model.specs.declared.entry.EntryKind.{EntryKind}
use Rattle.cdc_model.specs.declared.entry.EntryKind.TheVariants.{Prepare, OnePhase, Commit, Rollback, Plain, Beat}
use Rattle.cdc_model.specs.Records.{LogEntry, CommittedBranch, OpenBranch, Start}
use Rattle.cdc_model.specs.Start.{find_open, left_by}
use Rattle.cdc_model.specs.Branch.{Begun, committed, branch_of, is_new, new_branches, committed_branches}
use Rattle.cdc_model.specs.Transaction.{has_key}
use Rattle.cdc_model.specs.Feed.{own_branches}
use Rattle.cdc_model.proofs.CommitLaws.{one_entry_more}
use Rattle.cdc_model.proofs.GrammarRows.{all_both}
use Rattle.cdc_model.proofs.Keeping.{all_weaker}
use Rattle.cdc_model.proofs.NodeFeeds.{given_at}
use Rattle.cdc_model.proofs.OwnBranches.{has_itself, own_with}
use Rattle.cdc_model.proofs.XidOrder.{all_filtered}
use Rattle.cdc_waiting.specs.Waiting.{wait_behind}
use Rattle.cdc_waiting.proofs.Behind.{newest_stands_behind}
use Rattle.cdc_sorter.specs.Waiting.{wait_with_all}

-- some branches more, each behind those whose keys aren't above its own
abbrev pub behind_all : List CommittedBranch → List CommittedBranch → List CommittedBranch
behind_all waiting more = fold wait_behind waiting more

-- branches that were committed by entries with numbers below one
abbrev pub NumbersBelow : ℕ → List CommittedBranch → Type 0
NumbersBelow number branches = AllByRecursion (λ (branch : CommittedBranch). branch.entry < number) branches

module _ (last : Key) (start : Start) where
  all_new : (P : CommittedBranch → Type 0) (begun : List Begun) → AllByRecursion (λ (b : Begun). P b.1) begun → AllByRecursion P (new_branches last start begun)
  all_new P [] all = tt
  all_new P (b ∷ begun) (here, all) = by (is_new last start b) (all_new P begun all)
    where
      by : (kept : Bool) → AllByRecursion P (new_branches last start begun)
          → AllByRecursion P (map (λ (x : Begun). x.1) (cond kept (b ∷ filter (is_new last start) begun) (filter (is_new last start) begun)))
      by true later = (here, later)
      by false later = later

  -- what a history has committed, earlier entries committed
  pub committed_below : (node : ℕ) (history : List LogEntry) → NumbersBelow (left_by start history).entry (committed_branches last start node history)
  committed_below node [] = tt
  committed_below node (entry ∷ earlier) =
      let here : Start = left_by start earlier in
      let given : List CommittedBranch = new_branches last start (branch_of node entry.kind here) in
      subst (NumbersBelow (here.entry + 1)) (sym (one_entry_more last start node earlier entry))
      (all_both (λ (branch : CommittedBranch). branch.entry < here.entry + 1) (committed_branches last start node earlier) given
      (all_weaker (λ (branch : CommittedBranch). branch.entry < here.entry) (λ (branch : CommittedBranch). branch.entry < here.entry + 1) (λ b h. omega (arith, h))
      (committed_branches last start node earlier) (committed_below node earlier))
      (all_new (λ (branch : CommittedBranch). branch.entry < here.entry + 1) (branch_of node entry.kind here)
      (given_at (λ (branch : CommittedBranch). branch.entry < here.entry + 1) node entry.kind here (λ b is. omega (arith, is)))))

  -- a branch more behind all that wait
  one_behind : (waiting : List CommittedBranch) (b : Begun) → NumbersBelow b.1.entry waiting
      → wait_with_all waiting (new_branches last start (b ∷ [])) ≡ behind_all waiting (new_branches last start (b ∷ []))
  one_behind waiting b below = by (is_new last start b)
    where
      by : (kept : Bool) → wait_with_all waiting (map (λ (x : Begun). x.1) (cond kept (b ∷ []) [])) ≡ behind_all waiting (map (λ (x : Begun). x.1) (cond kept (b ∷ []) []))
      by true = newest_stands_behind waiting b.1 below
      by false = refl

  -- what an entry commits stands behind those of its key
  pub given_behind : (waiting : List CommittedBranch) (node : ℕ) (kind : EntryKind) (here : Start) → NumbersBelow here.entry waiting
      → wait_with_all waiting (new_branches last start (branch_of node kind here)) ≡ behind_all waiting (new_branches last start (branch_of node kind here))
  given_behind waiting node (Prepare xid rows) here below = refl
  given_behind waiting node (OnePhase xid rows timestamp seconds) here below =
      one_behind waiting (here.entry, record { key = Shared timestamp xid.gtrid; entry = here.entry; seconds = seconds; rows = rows }) below
  given_behind waiting node (Commit xid timestamp seconds) here below = by (find_open xid here.opened)
    where
      by : (found : Option OpenBranch) → wait_with_all waiting (new_branches last start (committed (Shared timestamp xid.gtrid) here.entry seconds found))
          ≡ behind_all waiting (new_branches last start (committed (Shared timestamp xid.gtrid) here.entry seconds found))
      by None = refl
      by (Some o) = one_behind waiting (o.entry, record { key = Shared timestamp xid.gtrid; entry = here.entry; seconds = seconds; rows = o.rows }) below
  given_behind waiting node (Rollback xid) here below = refl
  given_behind waiting node (Plain rows seconds) here below =
      one_behind waiting (here.entry, record { key = PlainKey here.mark node here.entry; entry = here.entry; seconds = seconds; rows = rows }) below
  given_behind waiting node (Beat timestamp) here below = refl

-- what holds of the branches of each key holds of all
all_of_keys : (P : CommittedBranch → Type 0) (branches : List CommittedBranch) → ((key : Key) → AllByRecursion P (own_branches branches key)) → AllByRecursion P branches
all_of_keys P [] each = tt
all_of_keys P (branch ∷ branches) each = (
  (subst (AllByRecursion P) (own_with branch.key branch branches true (has_itself branch.key branch refl)) (each branch.key)).0,
  all_of_keys P branches (λ key. by key (has_key key branch) (each key)),
)
  where
    by : (key : Key) (has : Bool) → AllByRecursion P (cond has (branch ∷ own_branches branches key) (own_branches branches key)) → AllByRecursion P (own_branches branches key)
    by key true all = all.1
    by key false all = all

-- lists with the same branches of each key
pub all_by_own : (P : CommittedBranch → Type 0) (xs ys : List CommittedBranch) → ((key : Key) → own_branches xs key ≡ own_branches ys key) → AllByRecursion P ys → AllByRecursion P xs
all_by_own P xs ys same all = all_of_keys P xs (λ key. subst (AllByRecursion P) (sym (same key)) (all_filtered P (has_key key) ys all))
