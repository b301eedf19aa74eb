-- Restart points of one node: the start is one, they stay, and there is a latest one.
use Rattle.std.proofs.Common.{◌≡◌, ◌≤◌, ◌<◌, ℕ, ◌+◌, ◌-◌, min, inl, inr, leb, Bool, true, false, cond, ◌&&◌, List, [], ◌∷◌, ◌++◌, length, length-append, map, filter, take, find, reverse, Option, Some, None, ap, sym, subst, refl, ◌∙◌, arith}
use Rattle.std.specs.List.{AllByRecursion}
use Rattle.std.specs.Ordering.{is_gt}
use Rattle.std.specs.declared.cmp.Ordering.{Ordering}
use Rattle.std.specs.declared.cmp.Ordering.TheVariants.{Less, Equal, Greater}
use Rattle.std.proofs.lemmas.Bool.{cases_lt, leb-true, leb-false}
use Rattle.std.proofs.lemmas.List.{reverse-append, length-reverse, take-append-le, length-take}
use Rattle.cdc_base.specs.declared.key.Key.{Key}
use Rattle.cdc_base.specs.declared.key.Key.TheVariants.{Shared}
use Rattle.cdc_base.specs.declared.xid.Xid.{Xid}
use Rattle.cdc_base.specs.Key.{key_order}
use Rattle.cdc_base.proofs.KeyOrder.{key_order_total, same_key}
use Rattle.cdc_base.specs.Xid.{same_xid}
use Rattle.cdc_model.specs.declared.entry.EntryKind.{EntryKind}
use Rattle.cdc_model.specs.declared.entry.EntryKind.TheVariants.{Prepare, OnePhase, Commit, Rollback, Plain, Beat}
use Rattle.cdc_model.specs.Records.{LogEntry, OpenBranch, Start}
use Rattle.cdc_model.specs.Start.{find_open, left_by}
use Rattle.cdc_model.specs.Watermark.{least}
use Rattle.cdc_model.specs.Branch.{Begun, committed, branch_of, begun_branches, is_new}
use Rattle.cdc_model.specs.Commits.{IsHeld}
use Rattle.cdc_model.specs.Openings.{IsXidBelow, AscendByXid}
use Rattle.cdc_model.specs.SettledOrder.{IsFront}
use Rattle.cdc_model.specs.Restart.{RestartPoint, held_open, held_of, start_at, point_behind, point_before, IsAtMost, IsRestartEntry, IsLatestPoint, latest_number, latest_point, SoundNumbersEnd, StartIsRestartPoint, RestartPointStays, OneLatestPoint, LatestNeverFalls, RestartPointIsStart}
use Rattle.cdc_model.proofs.KeyList.{above, not_both_below}
use Rattle.cdc_model.proofs.Marks.{numbers_count}
use Rattle.cdc_model.proofs.SameXid.{no_test}
use Rattle.cdc_model.proofs.GrammarRows.{all_both, all_front, all_back}
use Rattle.cdc_model.proofs.XidOrder.{open_branches_ascend}
use Rattle.cdc_model.proofs.Keeping.{all_next, all_weaker}

-- ---- keys that are at most another

pub at_most_by : (a b c : Key) (first second third : Ordering) → key_order a b ≡ first → key_order b c ≡ second → key_order a c ≡ third
    → is_gt first ≡ false → is_gt second ≡ false → is_gt third ≡ false
at_most_by a b c first second Less p q r low high = refl
at_most_by a b c first second Equal p q r low high = refl
at_most_by a b c Greater second Greater p q r low high = absurd (no_test (sym low))
at_most_by a b c Less Greater Greater p q r low high = absurd (no_test (sym high))
at_most_by a b c Less Less Greater p q r low high = absurd (not_both_below c a (above a c r) (key_order_total.trans a b c p q))
at_most_by a b c Less Equal Greater p q r low high =
    absurd (not_both_below c a (above a c r) (subst (λ (k : Key). key_order a k ≡ Less) (same_key b c q) p))
at_most_by a b c Equal Greater Greater p q r low high = absurd (no_test (sym high))
at_most_by a b c Equal Less Greater p q r low high =
    absurd (not_both_below c a (above a c r) (subst (λ (k : Key). key_order k c ≡ Less) (sym (same_key a b p)) q))
at_most_by a b c Equal Equal Greater p q r low high =
    let tie : key_order a c ≡ Equal = ap (λ (k : Key). key_order k c) (same_key a b p) ∙ q in
    let clash : Greater ≡ Equal = sym r ∙ tie in absurd (cc)

pub at_most_on : (a b c : Key) → IsAtMost a b → IsAtMost b c → IsAtMost a c
at_most_on a b c low high = at_most_by a b c (key_order a b) (key_order b c) (key_order a c) refl refl refl low high

pub at_most_itself : (key : Key) → IsAtMost key key
at_most_itself key = by (key_order key key) refl
  where
    by : (o : Ordering) → key_order key key ≡ o → is_gt o ≡ false
    by Less is = refl
    by Equal is = refl
    by Greater is = absurd (not_both_below key key (above key key is) (above key key is))

-- ---- numbers of what an entry commits

-- open branches with a number from the first on have one from another on
abbrev pub OpenFrom : ℕ → ℕ → List OpenBranch → Type 0
OpenFrom first number opened = AllByRecursion (λ (o : OpenBranch). first ≤ o.entry → number ≤ o.entry) opened

abbrev pub BegunFrom : ℕ → ℕ → List Begun → Type 0
BegunFrom first number begun = AllByRecursion (λ (b : Begun). first ≤ b.0 → number ≤ b.0) begun

pub found_all : (P : OpenBranch → Type 0) (test : OpenBranch → Bool) (opened : List OpenBranch) (branch : OpenBranch)
    → AllByRecursion P opened → find test opened ≡ Some branch → P branch
found_all P test [] branch all found = absurd (cc)
found_all P test (first ∷ rest) branch (here, all) found = by (test first) (found_all P test rest branch all) found
  where
    by : (b : Bool) → (find test rest ≡ Some branch → P branch) → cond b (Some first) (find test rest) ≡ Some branch → P branch
    by true later is = let same : first ≡ branch = cc in subst P same here
    by false later is = later is

pub committed_all : (P : ℕ → Type 0) (key : Key) (number seconds : ℕ) (opened : Option OpenBranch) → ((branch : OpenBranch) → opened ≡ Some branch → P branch.entry)
    → AllByRecursion (λ (b : Begun). P b.0) (committed key number seconds opened)
committed_all P key number seconds None all = tt
committed_all P key number seconds (Some branch) all = (all branch refl, tt)

-- the numbers with which what an entry commits began: its own, or that of an open branch
pub given_all : (P : ℕ → Type 0) (node : ℕ) (kind : EntryKind) (s : Start) → P s.entry → AllByRecursion (λ (o : OpenBranch). P o.entry) s.opened
    → AllByRecursion (λ (b : Begun). P b.0) (branch_of node kind s)
given_all P node (Prepare xid rows) s here all = tt
given_all P node (OnePhase xid rows timestamp seconds) s here all = (here, tt)
given_all P node (Commit xid timestamp seconds) s here all =
    committed_all P (Shared timestamp xid.gtrid) s.entry seconds (find_open xid s.opened)
    (λ branch found. found_all (λ (o : OpenBranch). P o.entry) (λ (o : OpenBranch). same_xid xid o.xid) s.opened branch all found)
given_all P node (Rollback xid) s here all = tt
given_all P node (Plain rows seconds) s here all = (here, tt)
given_all P node (Beat timestamp) s here all = tt

-- ---- a sound number stays sound

pub open_from : (first number : ℕ) (start : Start) (new history : List LogEntry) → number ≤ (left_by start history).entry
    → OpenFrom first number (left_by start history).opened → OpenFrom first number (left_by start (new ++ history)).opened
open_from first number start [] history h all = all
open_from first number start (entry ∷ new) history h all =
    let here : Start = left_by start (new ++ history) in
    all_next (λ (o : OpenBranch). first ≤ o.entry → number ≤ o.entry) entry.kind here
    (λ xid rows from. still (new ++ history) (omega (arith, numbers_count start (new ++ history), numbers_count start history, length-append new history, h)))
    (open_from first number start new history h all)
  where
    still : (list : List LogEntry) → number ≤ (left_by start list).entry → number ≤ (left_by start list).entry
    still list k = k

-- what began below a number has a key of at most this one
abbrev pub BegunBelow : ℕ → ℕ → Key → List Begun → Type 0
BegunBelow first number last begun = AllByRecursion (λ (b : Begun). first ≤ b.0 → b.0 < number → IsAtMost b.1.key last) begun

pub begun_below : (first number node : ℕ) (last : Key) (start : Start) (new history : List LogEntry) → number ≤ (left_by start history).entry
    → OpenFrom first number (left_by start history).opened → BegunBelow first number last (begun_branches start node history)
    → BegunBelow first number last (begun_branches start node (new ++ history))
begun_below first number node last start [] history h all below = below
begun_below first number node last start (entry ∷ new) history h all below =
    let here : Start = left_by start (new ++ history) in
    let above : number ≤ here.entry = omega (arith, numbers_count start (new ++ history), numbers_count start history, length-append new history, h) in
    all_both (λ (b : Begun). first ≤ b.0 → b.0 < number → IsAtMost b.1.key last) (begun_branches start node (new ++ history)) (branch_of node entry.kind here)
    (begun_below first number node last start new history h all below)
    (all_weaker (λ (b : Begun). first ≤ b.0 → number ≤ b.0) (λ (b : Begun). first ≤ b.0 → b.0 < number → IsAtMost b.1.key last)
    (λ b from low high. absurd (let more : number ≤ b.0 = from low in omega (arith, more, high))) (branch_of node entry.kind here)
    (given_all (λ (n : ℕ). first ≤ n → number ≤ n) node entry.kind here (λ low. above) (open_from first number start new history h all)))

pub entry_stays : (last later : Key) (start : Start) (node : ℕ) (new history : List LogEntry) (number : ℕ) → IsAtMost last later
    → IsRestartEntry last start node history number → IsRestartEntry later start node (new ++ history) number
entry_stays last later start node new history number more sound =
    let h : number ≤ (left_by start history).entry = omega (arith, numbers_count start history, sound.most) in
    record {
      first = sound.first;
      most = omega (arith, sound.most, length-append new history);
      ended = open_from start.entry number start new history h sound.ended;
      below =
          begun_below start.entry number node later start new history h sound.ended
          (all_weaker (λ (b : Begun). start.entry ≤ b.0 → b.0 < number → IsAtMost b.1.key last)
          (λ (b : Begun). start.entry ≤ b.0 → b.0 < number → IsAtMost b.1.key later)
          (λ b is low high. at_most_on b.1.key last later (is low high) more) (begun_branches start node history) sound.below);
    }

-- ---- the start

pub all_trivial : {X : Type 0} (P : X → Type 0) → ((x : X) → P x) → (xs : List X) → AllByRecursion P xs
all_trivial P each [] = tt
all_trivial P each (x ∷ xs) = (each x, all_trivial P each xs)

pub start_entry : (last : Key) (start : Start) (node : ℕ) (history : List LogEntry) → IsRestartEntry last start node history start.entry
start_entry last start node history = record {
  first = omega arith;
  most = omega arith;
  ended = all_trivial (λ (o : OpenBranch). start.entry ≤ o.entry → start.entry ≤ o.entry) (λ o h. h) (left_by start history).opened;
  below = all_trivial (λ (b : Begun). start.entry ≤ b.0 → b.0 < start.entry → IsAtMost b.1.key last) (λ b low high. absurd (omega (arith, low, high))) (begun_branches start node history);
}

pub start_is_restart_point : StartIsRestartPoint
start_is_restart_point last from node entries = record {
  sound = start_entry last (start_at from) node (reverse entries);
  parts =
      let none : from.entry - from.entry ≡ 0 = omega arith in
      sym (ap (λ (n : ℕ). point_behind from (reverse (take n entries))) none);
}

-- ---- a point stays

pub front_before : (from : RestartPoint) (entries more : List LogEntry) (number : ℕ) → IsFront entries more → number ≤ from.entry + length entries
    → point_before from entries number ≡ point_before from more number
front_before from entries more number front h =
    ap (λ (list : List LogEntry). point_behind from (reverse list))
    (sym (take-append-le (number - from.entry) entries front.rest (omega (arith, h))) ∙ ap (take (number - from.entry)) (sym front.is))

pub restart_point_stays : RestartPointStays
restart_point_stays last later from node entries more point low front is =
    let size : length (reverse entries) ≡ length entries = length-reverse entries in
    record {
      sound =
          subst (λ (list : List LogEntry). IsRestartEntry later (start_at from) node list point.entry)
          (sym (ap reverse front.is ∙ reverse-append entries front.rest))
          (entry_stays last later (start_at from) node (reverse front.rest) (reverse entries) point.entry low is.sound);
      parts = is.parts ∙ front_before from entries more point.entry front (omega (arith, is.sound.most, size));
    }

-- ---- the latest

pub at_most_least : (number most : ℕ) (numbers : List ℕ) → number ≤ least most numbers → (number ≤ most) × AllByRecursion (λ (n : ℕ). number ≤ n) numbers
at_most_least number most [] h = (h, tt)
at_most_least number most (n ∷ numbers) h =
    let rest = at_most_least number (min most n) numbers h in
    (omega (arith, rest.0), (omega (arith, rest.0), rest.1))

pub least_at_most : (number most : ℕ) (numbers : List ℕ) → number ≤ most → AllByRecursion (λ (n : ℕ). number ≤ n) numbers → number ≤ least most numbers
least_at_most number most [] h all = h
least_at_most number most (n ∷ numbers) h (here, all) = least_at_most number (min most n) numbers (omega (arith, h, here)) all

-- the numbers of what passes a test
abbrev numbers_where : {X : Type 0} → (X → Bool) → (X → ℕ) → List X → List ℕ
numbers_where test number_of xs = map number_of (filter test xs)

pub where_passes : {X : Type 0} (test : X → Bool) (number_of : X → ℕ) (P : X → Type 0) (number : ℕ) → ((x : X) → test x ≡ true → P x → number ≤ number_of x)
    → (xs : List X) → AllByRecursion P xs → AllByRecursion (λ (n : ℕ). number ≤ n) (numbers_where test number_of xs)
where_passes test number_of P number least [] all = tt
where_passes {X} test number_of P number least (x ∷ xs) (here, all) = by (test x) refl (where_passes test number_of P number least xs all)
  where
    by : (b : Bool) → test x ≡ b → AllByRecursion (λ (n : ℕ). number ≤ n) (numbers_where test number_of xs)
        → AllByRecursion (λ (n : ℕ). number ≤ n) (map number_of (cond b (x ∷ filter test xs) (filter test xs)))
    by true is later = (least x is here, later)
    by false is later = later

pub passes_where : {X : Type 0} (test : X → Bool) (number_of : X → ℕ) (P : X → Type 0) (number : ℕ) → ((x : X) → test x ≡ false → P x) → ((x : X) → number ≤ number_of x → P x)
    → (xs : List X) → AllByRecursion (λ (n : ℕ). number ≤ n) (numbers_where test number_of xs) → AllByRecursion P xs
passes_where test number_of P number fails holds [] all = tt
passes_where {X} test number_of P number fails holds (x ∷ xs) all = by (test x) refl all (passes_where test number_of P number fails holds xs)
  where
    by : (b : Bool) → test x ≡ b → AllByRecursion (λ (n : ℕ). number ≤ n) (map number_of (cond b (x ∷ filter test xs) (filter test xs)))
        → (AllByRecursion (λ (n : ℕ). number ≤ n) (numbers_where test number_of xs) → AllByRecursion P xs) → AllByRecursion P (x ∷ xs)
    by true is (here, rest) later = (holds x here, later rest)
    by false is rest later = (fails x is, later rest)

module _ (last : Key) (start : Start) (node : ℕ) (history : List LogEntry) where
  abbrev here : Start
  here = left_by start history

  abbrev opened_late : OpenBranch → Bool
  opened_late o = leb start.entry o.entry

  abbrev waiting : List ℕ
  waiting = numbers_where opened_late (λ (o : OpenBranch). o.entry) here.opened

  abbrev begun_above : List ℕ
  begun_above = numbers_where (is_new last start) (λ (b : Begun). b.0) (begun_branches start node history)

  -- a branch that isn't new has a number before the start, or a key of at most the last
  not_new : (first : Bool) (over : Bool) (b : Begun) → leb start.entry b.0 ≡ first → is_gt (key_order b.1.key last) ≡ over → (first && over) ≡ false
      → start.entry ≤ b.0 → IsAtMost b.1.key last
  not_new true true b p q e h = absurd (no_test (sym e))
  not_new true false b p q e h = q
  not_new false over b p q e h = absurd (let less : b.0 < start.entry = leb-false start.entry b.0 p in omega (arith, less, h))

  new_is_above : (first : Bool) (over : Bool) (b : Begun) → leb start.entry b.0 ≡ first → is_gt (key_order b.1.key last) ≡ over → (first && over) ≡ true
      → (number : ℕ) → (start.entry ≤ b.0 → b.0 < number → IsAtMost b.1.key last) → number ≤ b.0
  new_is_above true true b p q e number low =
      elim (cases_lt b.0 number) [
        | inl less ↦ absurd (no_test (sym (low (leb-true start.entry b.0 p) less) ∙ q))
        | inr more ↦ more
      ]
  new_is_above true false b p q e number low = absurd (no_test e)
  new_is_above false over b p q e number low = absurd (no_test e)

  sound_numbers : (number : ℕ) → IsRestartEntry last start node history number → number ≤ latest_number last start node history
  sound_numbers number sound =
      least_at_most number here.entry (waiting ++ begun_above) (omega (arith, numbers_count start history, sound.most))
      (all_both (λ (n : ℕ). number ≤ n) waiting begun_above
      (where_passes opened_late (λ (o : OpenBranch). o.entry) (λ (o : OpenBranch). start.entry ≤ o.entry → number ≤ o.entry) number
      (λ o is low. low (leb-true start.entry o.entry is)) here.opened sound.ended)
      (where_passes (is_new last start) (λ (b : Begun). b.0) (λ (b : Begun). start.entry ≤ b.0 → b.0 < number → IsAtMost b.1.key last) number
      (λ b is low. new_is_above (leb start.entry b.0) (is_gt (key_order b.1.key last)) b refl refl is number low)
      (begun_branches start node history) sound.below))

  numbers_sound : (number : ℕ) → start.entry ≤ number → number ≤ latest_number last start node history → IsRestartEntry last start node history number
  numbers_sound number first h =
      let parts = at_most_least number here.entry (waiting ++ begun_above) h in
      let ended_part = all_front (λ (n : ℕ). number ≤ n) waiting begun_above parts.1 in
      let below_part = all_back (λ (n : ℕ). number ≤ n) waiting begun_above parts.1 in
      record {
        first = first;
        most = omega (arith, parts.0, numbers_count start history);
        ended =
            passes_where opened_late (λ (o : OpenBranch). o.entry) (λ (o : OpenBranch). start.entry ≤ o.entry → number ≤ o.entry) number
            (λ o is low. absurd (let less : o.entry < start.entry = leb-false start.entry o.entry is in omega (arith, less, low)))
            (λ o more low. more) here.opened ended_part;
        below =
            passes_where (is_new last start) (λ (b : Begun). b.0) (λ (b : Begun). start.entry ≤ b.0 → b.0 < number → IsAtMost b.1.key last) number
            (λ b is low less. not_new (leb start.entry b.0) (is_gt (key_order b.1.key last)) b refl refl is low)
            (λ b more low less. absurd (omega (arith, more, less))) (begun_branches start node history) below_part;
      }

pub sound_numbers_end : SoundNumbersEnd
sound_numbers_end last start node history number = (
  λ sound. (sound.first, sound_numbers last start node history number sound),
  λ both. numbers_sound last start node history number both.0 both.1,
)

-- the point of a sound number has that number
pub numbered : (last : Key) (from : RestartPoint) (node : ℕ) (entries : List LogEntry) (number : ℕ) → IsRestartEntry last (start_at from) node (reverse entries) number
    → (point_before from entries number).entry ≡ number
numbered last from node entries number sound =
    let size : length (take (number - from.entry) entries) ≡ number - from.entry =
    length-take (number - from.entry) entries
    ∙ (let n : min (number - from.entry) (length entries) ≡ number - from.entry = omega (arith, sound.most, length-reverse entries) in n) in
    behind (reverse (take (number - from.entry) entries))
    ∙ (let n : from.entry + length (reverse (take (number - from.entry) entries)) ≡ number =
    omega (arith, length-reverse (take (number - from.entry) entries), size, sound.first) in n)
  where
    behind : (history : List LogEntry) → (point_behind from history).entry ≡ from.entry + length history
    behind [] = omega arith
    behind (entry ∷ earlier) = numbers_count (start_at from) (entry ∷ earlier)

pub latest_is : (last : Key) (from : RestartPoint) (node : ℕ) (entries : List LogEntry) → IsLatestPoint last from node entries (latest_point last from node entries)
latest_is last from node entries =
    let start = start_at from in
    let history = reverse entries in
    let number = latest_number last start node history in
    let least_of = sound_numbers last start node history from.entry (start_entry last start node history) in
    let sound = numbers_sound last start node history number least_of (omega arith) in
    let is : (latest_point last from node entries).entry ≡ number = numbered last from node entries number sound in
    record {
      sound = record {
        sound = subst (IsRestartEntry last start node history) (sym is) sound;
        parts = ap (point_before from entries) (sym is);
      };
      latest = λ other other_sound. subst (λ (n : ℕ). other ≤ n) (sym is) (sound_numbers last start node history other other_sound);
    }

pub one_latest_point : OneLatestPoint
one_latest_point last from node entries =
    let found = latest_is last from node entries in
    let point = latest_point last from node entries in
    record {
      is = found;
      only = λ other is.
          let low : other.entry ≤ point.entry = found.latest other.entry is.sound.sound in
          let high : point.entry ≤ other.entry = is.latest point.entry found.sound.sound in
          let same : other.entry ≡ point.entry = omega (arith, low, high) in
          is.sound.parts ∙ ap (point_before from entries) same ∙ sym found.sound.parts;
    }

pub latest_never_falls : LatestNeverFalls
latest_never_falls last later from node entries more point other low front is after =
    after.latest point.entry (restart_point_stays last later from node entries more point low front is.sound).sound

-- ---- a point's start

pub all_held : (held : List (Xid × ℕ)) → AllByRecursion IsHeld (map held_open held)
all_held [] = tt
all_held (first ∷ held) = (record { unnumbered = refl; rowless = refl }, all_held held)

pub below_held : (xid : Xid) (opened : List OpenBranch) → AllByRecursion (λ (other : OpenBranch). IsXidBelow xid other.xid) opened
    → AllByRecursion (λ (other : OpenBranch). IsXidBelow xid other.xid) (map held_open (map held_of opened))
below_held xid [] all = tt
below_held xid (o ∷ opened) (here, all) = (here, below_held xid opened all)

pub ascend_held : (opened : List OpenBranch) → AscendByXid opened → AscendByXid (map held_open (map held_of opened))
ascend_held [] ascend = tt
ascend_held (o ∷ opened) (below, ascend) = (below_held o.xid opened below, ascend_held opened ascend)

pub behind_ascends : (from : RestartPoint) (history : List LogEntry) → AscendByXid (start_at from).opened → AscendByXid (start_at (point_behind from history)).opened
behind_ascends from [] ascend = ascend
behind_ascends from (entry ∷ earlier) ascend =
    ascend_held (left_by (start_at from) (entry ∷ earlier)).opened (open_branches_ascend (start_at from) (entry ∷ earlier) ascend)

pub restart_point_is_start : RestartPointIsStart
restart_point_is_start last from node entries point start is = record {
  numbered = omega (arith, start.numbered, is.sound.first);
  in_order =
      subst (λ (p : RestartPoint). AscendByXid (start_at p).opened) (sym is.parts)
      (behind_ascends from (reverse (take (point.entry - from.entry) entries)) start.in_order);
  held = all_held point.held;
}
