-- The restart points of what is read from a restart point are those of the whole log.
use Rattle.std.proofs.Common.{◌≡◌, ◌≤◌, ◌<◌, ℕ, ◌+◌, ◌-◌, inl, inr, leb, Bool, true, false, if◌then◌else◌, List, [], ◌∷◌, ◌++◌, length, length-append, append-nil, map, take, reverse, Option, Some, None, ap, sym, subst, refl, ◌∙◌, arith}
use Rattle.std.specs.List.{AllByRecursion}
use Rattle.std.specs.Option.{option_map}
use Rattle.std.proofs.lemmas.Bool.{cases_lt, le-leb, leb-true}
use Rattle.std.proofs.lemmas.List.{reverse-append, length-reverse}
use Rattle.cdc_base.specs.declared.key.Key.{Key}
use Rattle.cdc_base.specs.declared.key.Key.TheVariants.{Shared, Plain as PlainKey}
use Rattle.cdc_model.specs.declared.entry.EntryKind.{EntryKind}
use Rattle.cdc_model.specs.declared.entry.EntryKind.TheVariants.{Prepare, OnePhase, Commit, Rollback, Plain, Beat}
use Rattle.cdc_model.specs.Records.{LogEntry, OpenBranch, Start}
use Rattle.cdc_model.specs.Start.{find_open, left_by}
use Rattle.cdc_model.specs.Branch.{Begun, committed, branch_of, begun_branches}
use Rattle.cdc_model.specs.Restart.{RestartPoint, start_at, point_behind, point_before, IsAtMost, IsRestartEntry, IsRestartPoint, PointsGoOn, RestartedPointsAreTheWholes}
use Rattle.cdc_model.proofs.Marks.{numbers_count}
use Rattle.cdc_model.proofs.SoundFront.{left_append}
use Rattle.cdc_model.proofs.GrammarRows.{all_both, all_front, all_back}
use Rattle.cdc_model.proofs.SoundGrowth.{begun_append}
use Rattle.cdc_model.proofs.Keeping.{forget, kept, find_kept, left_kept, number_grows, start_before, point_is_kept, point_behind_append}
use Rattle.cdc_model.proofs.RestartPoints.{at_most_on, OpenFrom, BegunBelow}
use Rattle.cdc_model.proofs.RestartRest.{begun_before, take_past}

-- ---- open branches, read whole and from a number on

-- the number of a branch that is kept
pub late_number : (from : ℕ) (o : OpenBranch) → from ≤ o.entry → (forget from o).entry ≡ o.entry
late_number from o h = ap (λ (b : Bool). if b then o.entry else 0) (le-leb from o.entry h)

pub number_late : (from : ℕ) (o : OpenBranch) → 1 ≤ from → from ≤ (forget from o).entry → from ≤ o.entry
number_late from o positive h = by (leb from o.entry) refl
  where
    by : (b : Bool) → leb from o.entry ≡ b → from ≤ o.entry
    by true is = leb-true from o.entry is
    by false is =
        let zero_is : (forget from o).entry ≡ 0 = ap (λ (b : Bool). if b then o.entry else 0) is in
        absurd (omega (arith, zero_is, h, positive))

module _ (first from number : ℕ) (grown : first ≤ from) (positive : 1 ≤ from) where
  ended_forth : (opened : List OpenBranch) → OpenFrom first from opened → OpenFrom from number (map (forget from) opened) → OpenFrom first number opened
  ended_forth [] before all = tt
  ended_forth (o ∷ opened) (low, before) (here, all) = (
    λ h.
        let late : from ≤ o.entry = low h in
        let same = late_number from o late in
        let high : number ≤ (forget from o).entry = here (omega (arith, late, same)) in
        omega (arith, high, same),
    ended_forth opened before all,
  )

  ended_back : (opened : List OpenBranch) → OpenFrom first number opened → OpenFrom from number (map (forget from) opened)
  ended_back [] all = tt
  ended_back (o ∷ opened) (here, all) = (
    λ h.
        let late = number_late from o positive h in
        let high : number ≤ o.entry = here (omega (arith, late, grown)) in
        omega (arith, high, late_number from o late),
    ended_back opened all,
  )

  -- ---- what began, read whole and from the number on

  module _ (last later : Key) (more : IsAtMost last later) where
    -- a branch as it is read whole, and as it is read from the number on: the same key, and the same number where that isn't below
    forth_one : (whole rest : Begun) → whole.1.key ≡ rest.1.key → (from ≤ whole.0 → rest.0 ≡ whole.0)
        → (first ≤ whole.0 → whole.0 < from → IsAtMost whole.1.key last) → (from ≤ rest.0 → rest.0 < number → IsAtMost rest.1.key later)
        → first ≤ whole.0 → whole.0 < number → IsAtMost whole.1.key later
    forth_one whole rest same numbered low high h k =
        elim (cases_lt whole.0 from) [
          | inl less ↦ at_most_on whole.1.key last later (low h less) more
          | inr late ↦
              let n = numbered late in
              subst (λ (key : Key). IsAtMost key later) (sym same) (high (omega (arith, n, late)) (omega (arith, n, k)))
        ]

    given_forth : (node : ℕ) (kind : EntryKind) (s : Start) → from ≤ s.entry → BegunBelow first from last (branch_of node kind s)
        → BegunBelow from number later (branch_of node kind (kept from s)) → BegunBelow first number later (branch_of node kind s)
    given_forth node (Prepare xid rows) s h low high = tt
    given_forth node (OnePhase xid rows timestamp seconds) s h (low, none) (high, no_more) =
        let b : Begun = (s.entry, record { key = Shared timestamp xid.gtrid; entry = s.entry; seconds = seconds; rows = rows }) in
        (forth_one b b refl (λ _. refl) low high, tt)
    given_forth node (Commit xid timestamp seconds) s h low high =
        by (find_open xid s.opened) low
        (subst (λ (o : Option OpenBranch). BegunBelow from number later (committed (Shared timestamp xid.gtrid) s.entry seconds o)) (find_kept from xid s.opened) high)
      where
        by : (o : Option OpenBranch) → BegunBelow first from last (committed (Shared timestamp xid.gtrid) s.entry seconds o)
            → BegunBelow from number later (committed (Shared timestamp xid.gtrid) s.entry seconds (option_map (forget from) o))
            → BegunBelow first number later (committed (Shared timestamp xid.gtrid) s.entry seconds o)
        by None below above = tt
        by (Some o) (below, none) (above, no_more) =
            let b : Begun = (o.entry, record { key = Shared timestamp xid.gtrid; entry = s.entry; seconds = seconds; rows = o.rows }) in
            let c : Begun = ((forget from o).entry, record { key = Shared timestamp xid.gtrid; entry = s.entry; seconds = seconds; rows = (forget from o).rows }) in
            (forth_one b c refl (late_number from o) below above, tt)
    given_forth node (Rollback xid) s h low high = tt
    given_forth node (Plain rows seconds) s h (low, none) (high, no_more) =
        let b : Begun = (s.entry, record { key = PlainKey s.mark node s.entry; entry = s.entry; seconds = seconds; rows = rows }) in
        (forth_one b b refl (λ _. refl) low high, tt)
    given_forth node (Beat timestamp) s h low high = tt

    below_forth : (node : ℕ) (s : Start) (history : List LogEntry) → from ≤ s.entry → BegunBelow first from last (begun_branches s node history)
        → BegunBelow from number later (begun_branches (kept from s) node history) → BegunBelow first number later (begun_branches s node history)
    below_forth node s [] h low high = tt
    below_forth node s (entry ∷ history) h low high =
        let P : Begun → Type 0 = λ (b : Begun). first ≤ b.0 → b.0 < from → IsAtMost b.1.key last in
        let Q : Begun → Type 0 = λ (b : Begun). from ≤ b.0 → b.0 < number → IsAtMost b.1.key later in
        let R : Begun → Type 0 = λ (b : Begun). first ≤ b.0 → b.0 < number → IsAtMost b.1.key later in
        let before : List Begun = begun_branches s node history in
        let here : List Begun = branch_of node entry.kind (left_by s history) in
        let before_rest : List Begun = begun_branches (kept from s) node history in
        let here_rest : List Begun = branch_of node entry.kind (left_by (kept from s) history) in
        let here_kept : BegunBelow from number later (branch_of node entry.kind (kept from (left_by s history))) =
        subst (λ (t : Start). BegunBelow from number later (branch_of node entry.kind t)) (left_kept from s history h) (all_back Q before_rest here_rest high) in
        all_both R before here
        (below_forth node s history h (all_front P before here low) (all_front Q before_rest here_rest high))
        (given_forth node entry.kind (left_by s history) (number_grows from s history h) (all_back P before here low) here_kept)

    low_forth : (begun : List Begun) → AllByRecursion (λ (b : Begun). b.0 < from) begun → BegunBelow first from last begun → BegunBelow first number later begun
    low_forth [] under low = tt
    low_forth (b ∷ begun) (less, under) (here, low) = (λ h k. at_most_on b.1.key last later (here h less) more, low_forth begun under low)

  module _ (later : Key) where
    back_one : (whole rest : Begun) → whole.1.key ≡ rest.1.key → (from ≤ rest.0 → whole.0 ≡ rest.0)
        → (first ≤ whole.0 → whole.0 < number → IsAtMost whole.1.key later) → from ≤ rest.0 → rest.0 < number → IsAtMost rest.1.key later
    back_one whole rest same numbered low h k =
        let n = numbered h in
        subst (λ (key : Key). IsAtMost key later) same (low (omega (arith, n, h, grown)) (omega (arith, n, k)))

    given_back : (node : ℕ) (kind : EntryKind) (s : Start) → from ≤ s.entry → BegunBelow first number later (branch_of node kind s)
        → BegunBelow from number later (branch_of node kind (kept from s))
    given_back node (Prepare xid rows) s h low = tt
    given_back node (OnePhase xid rows timestamp seconds) s h (low, none) =
        let b : Begun = (s.entry, record { key = Shared timestamp xid.gtrid; entry = s.entry; seconds = seconds; rows = rows }) in
        (back_one b b refl (λ _. refl) low, tt)
    given_back node (Commit xid timestamp seconds) s h low =
        subst (λ (o : Option OpenBranch). BegunBelow from number later (committed (Shared timestamp xid.gtrid) s.entry seconds o)) (sym (find_kept from xid s.opened))
        (by (find_open xid s.opened) low)
      where
        by : (o : Option OpenBranch) → BegunBelow first number later (committed (Shared timestamp xid.gtrid) s.entry seconds o)
            → BegunBelow from number later (committed (Shared timestamp xid.gtrid) s.entry seconds (option_map (forget from) o))
        by None below = tt
        by (Some o) (below, none) =
            let b : Begun = (o.entry, record { key = Shared timestamp xid.gtrid; entry = s.entry; seconds = seconds; rows = o.rows }) in
            let c : Begun = ((forget from o).entry, record { key = Shared timestamp xid.gtrid; entry = s.entry; seconds = seconds; rows = (forget from o).rows }) in
            (back_one b c refl (λ late. sym (late_number from o (number_late from o positive late))) below, tt)
    given_back node (Rollback xid) s h low = tt
    given_back node (Plain rows seconds) s h (low, none) =
        let b : Begun = (s.entry, record { key = PlainKey s.mark node s.entry; entry = s.entry; seconds = seconds; rows = rows }) in
        (back_one b b refl (λ _. refl) low, tt)
    given_back node (Beat timestamp) s h low = tt

    below_back : (node : ℕ) (s : Start) (history : List LogEntry) → from ≤ s.entry → BegunBelow first number later (begun_branches s node history)
        → BegunBelow from number later (begun_branches (kept from s) node history)
    below_back node s [] h low = tt
    below_back node s (entry ∷ history) h low =
        let Q : Begun → Type 0 = λ (b : Begun). from ≤ b.0 → b.0 < number → IsAtMost b.1.key later in
        let R : Begun → Type 0 = λ (b : Begun). first ≤ b.0 → b.0 < number → IsAtMost b.1.key later in
        let before : List Begun = begun_branches s node history in
        let here : List Begun = branch_of node entry.kind (left_by s history) in
        all_both Q (begun_branches (kept from s) node history) (branch_of node entry.kind (left_by (kept from s) history))
        (below_back node s history h (all_front R before here low))
        (subst (λ (t : Start). BegunBelow from number later (branch_of node entry.kind t)) (sym (left_kept from s history h))
        (given_back node entry.kind (left_by s history) (number_grows from s history h) (all_back R before here low)))

-- ---- sound numbers

module _ (last later : Key) (from : RestartPoint) (node : ℕ) (before behind : List LogEntry) (positive : 1 ≤ from.entry) where
  abbrev first : Start
  first = start_at from

  abbrev here : Start
  here = left_by first (reverse before)

  abbrev resumed : Start
  resumed = kept here.entry here

  abbrev whole : List LogEntry
  whole = reverse behind ++ reverse before

  here_number : here.entry ≡ from.entry + length before
  here_number = omega (arith, numbers_count first (reverse before), length-reverse before)

  grown : from.entry ≤ here.entry
  grown = omega (arith, here_number)

  same : here.entry ≤ here.entry
  same = omega arith

  above_zero : 1 ≤ here.entry
  above_zero = omega (arith, here_number, positive)

  rest_opened : (left_by resumed (reverse behind)).opened ≡ map (forget here.entry) (left_by first whole).opened
  rest_opened =
      ap (λ (s : Start). s.opened) (left_kept here.entry here (reverse behind) same)
      ∙ ap (λ (s : Start). map (forget here.entry) s.opened) (sym (left_append first (reverse behind) (reverse before)))

  whole_begun : begun_branches first node whole ≡ begun_branches first node (reverse before) ++ begun_branches here node (reverse behind)
  whole_begun = begun_append first node (reverse behind) (reverse before)

  entry_forth : IsAtMost last later → IsRestartEntry last first node whole here.entry → (number : ℕ)
      → IsRestartEntry later resumed node (reverse behind) number → IsRestartEntry later first node whole number
  entry_forth more sound number rest =
      let P : Begun → Type 0 = λ (b : Begun). from.entry ≤ b.0 → b.0 < here.entry → IsAtMost b.1.key last in
      let earlier : List Begun = begun_branches first node (reverse before) in
      let further : List Begun = begun_branches here node (reverse behind) in
      let low : BegunBelow from.entry here.entry last (earlier ++ further) = subst (BegunBelow from.entry here.entry last) whole_begun sound.below in
      record {
        first = omega (arith, rest.first, grown);
        most = omega (arith, rest.most, here_number, length-append (reverse behind) (reverse before), length-reverse before);
        ended =
            ended_forth from.entry here.entry number grown above_zero (left_by first whole).opened sound.ended
            (subst (OpenFrom here.entry number) rest_opened rest.ended);
        below =
            subst (BegunBelow from.entry number later) (sym whole_begun)
            (all_both (λ (b : Begun). from.entry ≤ b.0 → b.0 < number → IsAtMost b.1.key later) earlier further
            (low_forth from.entry here.entry number grown above_zero last later more earlier
            (begun_before first node (reverse before) (start_before from positive)) (all_front P earlier further low))
            (below_forth from.entry here.entry number grown above_zero last later more node here (reverse behind) same (all_back P earlier further low) rest.below));
      }

  entry_back : (number : ℕ) → here.entry ≤ number → IsRestartEntry later first node whole number → IsRestartEntry later resumed node (reverse behind) number
  entry_back number h sound =
      let R : Begun → Type 0 = λ (b : Begun). from.entry ≤ b.0 → b.0 < number → IsAtMost b.1.key later in
      let earlier : List Begun = begun_branches first node (reverse before) in
      let further : List Begun = begun_branches here node (reverse behind) in
      record {
        first = h;
        most = omega (arith, sound.most, here_number, length-append (reverse behind) (reverse before), length-reverse before);
        ended =
            subst (OpenFrom here.entry number) (sym rest_opened)
            (ended_back from.entry here.entry number grown above_zero (left_by first whole).opened sound.ended);
        below =
            below_back from.entry here.entry number grown above_zero later node here (reverse behind) same
            (all_back R earlier further (subst (BegunBelow from.entry number later) whole_begun sound.below));
      }

  -- ---- points

  parts_same : (point : RestartPoint) (number : ℕ) → point ≡ point_behind from (reverse before) → point.entry ≡ from.entry + length before → point.entry ≤ number
      → point_before point behind number ≡ point_before from (before ++ behind) number
  parts_same point number is at h =
      let count = number - point.entry in
      let all : number - from.entry ≡ length before + count = omega (arith, at, h) in
      ap (λ (p : RestartPoint). point_behind p (reverse (take count behind))) is
      ∙ point_behind_append from (reverse (take count behind)) (reverse before) positive
      ∙ ap (point_behind from) (sym (reverse-append before (take count behind)))
      ∙ ap (λ (list : List LogEntry). point_behind from (reverse list)) (sym (take_past (number - from.entry) count before behind all))

  go_on : (point : RestartPoint) → IsAtMost last later → point.entry ≡ from.entry + length before
      → IsRestartPoint last from node (before ++ behind) point → PointsGoOn later from point node before behind
  go_on point more at is =
      let none : point.entry - from.entry ≡ length before + 0 = omega (arith, at) in
      let point_is : point ≡ point_behind from (reverse before) =
      is.parts ∙ ap (λ (list : List LogEntry). point_behind from (reverse list)) (take_past (point.entry - from.entry) 0 before behind none ∙ append-nil before) in
      let start_is : start_at point ≡ resumed = ap start_at point_is ∙ point_is_kept from (reverse before) positive in
      let number_is : point.entry ≡ here.entry = omega (arith, at, here_number) in
      let order : reverse (before ++ behind) ≡ whole = reverse-append before behind in
      let sound : IsRestartEntry last first node whole here.entry =
      subst (IsRestartEntry last first node whole) number_is
      (subst (λ (list : List LogEntry). IsRestartEntry last first node list point.entry) order is.sound) in
      let forth_entry : (number : ℕ) → IsRestartEntry later (start_at point) node (reverse behind) number → IsRestartEntry later first node (reverse (before ++ behind)) number =
      λ number rest.
      subst (λ (list : List LogEntry). IsRestartEntry later first node list number) (sym order)
      (entry_forth more sound number (subst (λ (s : Start). IsRestartEntry later s node (reverse behind) number) start_is rest)) in
      let back_entry : (number : ℕ) → point.entry ≤ number → IsRestartEntry later first node (reverse (before ++ behind)) number → IsRestartEntry later (start_at point) node (reverse behind) number =
      λ number h all.
      subst (λ (s : Start). IsRestartEntry later s node (reverse behind) number) (sym start_is)
      (entry_back number (omega (arith, number_is, h)) (subst (λ (list : List LogEntry). IsRestartEntry later first node list number) order all)) in
      let forth : (other : RestartPoint) → IsRestartPoint later point node behind other → IsRestartPoint later from node (before ++ behind) other =
      λ other rest. record {
        sound = forth_entry other.entry rest.sound;
        parts = rest.parts ∙ parts_same point other.entry point_is at rest.sound.first;
      } in
      record {
        forth = forth;
        back = λ other h all. record {
          sound = back_entry other.entry h all.sound;
          parts = all.parts ∙ sym (parts_same point other.entry point_is at h);
        };
        latest = λ other rest. record {
          sound = forth other rest.sound;
          latest = λ number all.
              elim (cases_lt number point.entry) [
                | inl less ↦ (let least : point.entry ≤ other.entry = rest.sound.sound.first in omega (arith, least, less))
                | inr more ↦ rest.latest number (back_entry number more all)
              ];
        };
      }

pub restarted_points_are_the_wholes : RestartedPointsAreTheWholes
restarted_points_are_the_wholes last later from point node before behind positive more at is =
    go_on last later from node before behind positive point more at is
