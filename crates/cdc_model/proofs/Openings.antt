-- The open branch of an xid is the one that its newest Prepare opened.
use Rattle.std.proofs.Common.{◌≡◌, ℕ, inl, inr, Bool, true, false, not, cond, List, [], ◌∷◌, filter, find, Option, Some, None, ap, sym, subst, refl, ◌∙◌}
use Rattle.std.specs.Ordering.{is_lt}
use Rattle.cdc_base.specs.declared.xid.Xid.{Xid}
use Rattle.cdc_model.specs.declared.entry.EntryKind.{EntryKind}
use Rattle.cdc_model.specs.declared.entry.EntryKind.TheVariants.{Prepare, OnePhase, Commit, Rollback, Plain, Beat}
use Rattle.cdc_model.specs.Records.{Row, LogEntry, OpenBranch, Start}
use Rattle.cdc_base.specs.Xid.{same_xid, xid_order}
use Rattle.cdc_model.specs.Start.{find_open, without, enter, opened_by, left_by}
use Rattle.cdc_model.specs.Watermark.{verdict}
use Rattle.cdc_model.specs.Openings.{SayNothingOf, branch_opened, StandsOpen, OpenIsNewestPrepare}
use Rattle.cdc_model.proofs.Marks.{numbers_count}
use Rattle.cdc_model.proofs.OpenBranches.{same_xid_laws}
use Rattle.cdc_model.proofs.SameXid.{same_xid_is}
use Rattle.cdc_model.proofs.SoundFront.{left_append}

-- ---- what is found in a list with one element more, or with some fewer

pub find_at : {X : Type 0} (test : X → Bool) (x : X) (xs : List X) (passes : Bool) → test x ≡ passes → find test (x ∷ xs) ≡ cond passes (Some x) (find test xs)
find_at test x xs passes is = ap (λ (b : Bool). cond b (Some x) (find test xs)) is

pub find_kept : {X : Type 0} (test out : X → Bool) (x : X) (xs : List X) (leaves : Bool) → out x ≡ leaves → (leaves ≡ true → test x ≡ false)
    → find test (filter (λ y. not (out y)) xs) ≡ find test xs → find test (filter (λ y. not (out y)) (x ∷ xs)) ≡ find test (x ∷ xs)
find_kept {X} test out x xs true is fails behind =
    ap (λ (b : Bool). find test (cond (not b) (x ∷ filter (λ y. not (out y)) xs) (filter (λ y. not (out y)) xs))) is
    ∙ behind ∙ sym (find_at test x xs false (fails refl))
find_kept {X} test out x xs false is fails behind =
    ap (λ (b : Bool). find test (cond (not b) (x ∷ filter (λ y. not (out y)) xs) (filter (λ y. not (out y)) xs))) is
    ∙ ap (λ (o : Option X). cond (test x) (Some x) o) behind

-- what is left_by out doesn't pass, so the search finds what it found
pub find_without_other : {X : Type 0} (test out : X → Bool) → ((x : X) → out x ≡ true → test x ≡ false) → (xs : List X)
    → find test (filter (λ y. not (out y)) xs) ≡ find test xs
find_without_other test out apart [] = refl
find_without_other test out apart (x ∷ xs) =
    find_kept test out x xs (out x) refl (apart x) (find_without_other test out apart xs)

pub find_left_at : {X : Type 0} (test out : X → Bool) (x : X) (xs : List X) (leaves : Bool) → out x ≡ leaves → (leaves ≡ false → test x ≡ false)
    → find test (filter (λ y. not (out y)) xs) ≡ None → find test (filter (λ y. not (out y)) (x ∷ xs)) ≡ None
find_left_at test out x xs true is fails behind =
    ap (λ (b : Bool). find test (cond (not b) (x ∷ filter (λ y. not (out y)) xs) (filter (λ y. not (out y)) xs))) is ∙ behind
find_left_at test out x xs false is fails behind =
    ap (λ (b : Bool). find test (cond (not b) (x ∷ filter (λ y. not (out y)) xs) (filter (λ y. not (out y)) xs))) is
    ∙ find_at test x (filter (λ y. not (out y)) xs) false (fails refl) ∙ behind

-- all that passes is left_by out, so the search finds none
pub find_without_same : {X : Type 0} (test out : X → Bool) → ((x : X) → out x ≡ false → test x ≡ false) → (xs : List X)
    → find test (filter (λ y. not (out y)) xs) ≡ None
find_without_same test out all [] = refl
find_without_same test out all (x ∷ xs) = find_left_at test out x xs (out x) refl (all x) (find_without_same test out all xs)

-- ---- an xid among the branches but those of another

pub differs_by : (xid other third : Xid) → same_xid xid other ≡ false → same_xid other third ≡ true → same_xid xid third ≡ false
differs_by xid other third differs same = subst (λ (x : Xid). same_xid xid x ≡ false) (same_xid_is other third same) differs

pub same_by : (xid other third : Xid) → same_xid xid other ≡ true → same_xid other third ≡ false → same_xid xid third ≡ false
same_by xid other third same differs = subst (λ (x : Xid). same_xid x third ≡ false) (sym (same_xid_is xid other same)) differs

pub found_without_other : (xid other : Xid) (opened : List OpenBranch) → same_xid xid other ≡ false
    → find_open xid (without other opened) ≡ find_open xid opened
found_without_other xid other opened differs =
    find_without_other (λ (o : OpenBranch). same_xid xid o.xid) (λ (o : OpenBranch). same_xid other o.xid)
    (λ o same. differs_by xid other o.xid differs same) opened

pub found_without_same : (xid other : Xid) (opened : List OpenBranch) → same_xid xid other ≡ true → find_open xid (without other opened) ≡ None
found_without_same xid other opened same =
    find_without_same (λ (o : OpenBranch). same_xid xid o.xid) (λ (o : OpenBranch). same_xid other o.xid)
    (λ o differs. same_by xid other o.xid same differs) opened

-- ---- an xid among the branches and one more

pub entered_here : {X : Type 0} (test : X → Bool) (x first : X) (rest later : List X) (before : Bool) → test x ≡ true → find test (first ∷ rest) ≡ None
    → (find test rest ≡ None → find test later ≡ Some x) → find test (cond before (x ∷ first ∷ rest) (first ∷ later)) ≡ Some x
entered_here test x first rest later true here none behind = find_at test x (first ∷ rest) true here
entered_here test x first rest later false here none behind = past (test first) refl
  where
    past : (b : Bool) → test first ≡ b → find test (first ∷ later) ≡ Some x
    past true is = absurd (let e : Some first ≡ None = sym (find_at test first rest true is) ∙ none in cc)
    past false is = find_at test first later false is ∙ behind (sym (find_at test first rest false is) ∙ none)

pub found_entered_same : (xid : Xid) (branch : OpenBranch) (opened : List OpenBranch) → same_xid xid branch.xid ≡ true → find_open xid opened ≡ None
    → find_open xid (enter branch opened) ≡ Some branch
found_entered_same xid branch [] same none = find_at (λ (o : OpenBranch). same_xid xid o.xid) branch [] true same
found_entered_same xid branch (first ∷ rest) same none =
    entered_here (λ (o : OpenBranch). same_xid xid o.xid) branch first rest (enter branch rest) (is_lt (xid_order branch.xid first.xid)) same none
    (found_entered_same xid branch rest same)

pub entered_other : {X : Type 0} (test : X → Bool) (x first : X) (rest later : List X) (before : Bool) → test x ≡ false → find test later ≡ find test rest
    → find test (cond before (x ∷ first ∷ rest) (first ∷ later)) ≡ find test (first ∷ rest)
entered_other test x first rest later true differs behind = find_at test x (first ∷ rest) false differs
entered_other {X} test x first rest later false differs behind = ap (λ (o : Option X). cond (test first) (Some first) o) behind

pub found_entered_other : (xid : Xid) (branch : OpenBranch) (opened : List OpenBranch) → same_xid xid branch.xid ≡ false
    → find_open xid (enter branch opened) ≡ find_open xid opened
found_entered_other xid branch [] differs = find_at (λ (o : OpenBranch). same_xid xid o.xid) branch [] false differs
found_entered_other xid branch (first ∷ rest) differs =
    entered_other (λ (o : OpenBranch). same_xid xid o.xid) branch first rest (enter branch rest) (is_lt (xid_order branch.xid first.xid)) differs
    (found_entered_other xid branch rest differs)

-- ---- what one entry does to the open branch of an xid

-- the branch that a Prepare opens behind a starting point
abbrev opens_at : Start → Xid → List Row → OpenBranch
opens_at start xid rows = record { xid = xid; floor = start.mark; entry = start.entry; rows = rows }

-- an entry opens the branch, ends it, or says nothing of it
pub data Tells (xid : Xid) (kind : EntryKind) (start : Start) : Type 0 where
  opens : (rows : List Row) → kind ≡ Prepare xid rows → find_open xid (opened_by kind start) ≡ Some (opens_at start xid rows) → Tells xid kind start
  ends : verdict xid kind ≡ Some false → find_open xid (opened_by kind start) ≡ None → Tells xid kind start
  nothing : verdict xid kind ≡ None → find_open xid (opened_by kind start) ≡ find_open xid start.opened → Tells xid kind start

pub verdict_at : (same : Bool) (told : Bool) (b : Bool) → same ≡ b → cond same (Some told) None ≡ cond b (Some told) None
verdict_at same told b is = ap (λ (c : Bool). cond c (Some told) None) is

pub prepare_tells : (xid other : Xid) (rows : List Row) (start : Start) (same : Bool) → same_xid xid other ≡ same → Tells xid (Prepare other rows) start
prepare_tells xid other rows start true is =
    let one : xid ≡ other = same_xid_is xid other is in
    subst (λ (x : Xid). Tells xid (Prepare x rows) start) one
    (opens rows refl
    (found_entered_same xid (opens_at start xid rows) (without xid start.opened) (same_xid_laws.refl xid)
    (found_without_same xid xid start.opened (same_xid_laws.refl xid))))
prepare_tells xid other rows start false is =
    nothing (verdict_at (same_xid xid other) true false is)
    (found_entered_other xid (opens_at start other rows) (without other start.opened) is ∙ found_without_other xid other start.opened is)

pub end_tells : (xid other : Xid) (start : Start) (kind : EntryKind) (same : Bool) → same_xid xid other ≡ same
    → verdict xid kind ≡ cond (same_xid xid other) (Some false) None → opened_by kind start ≡ without other start.opened → Tells xid kind start
end_tells xid other start kind true is told now =
    ends (told ∙ verdict_at (same_xid xid other) false true is) (ap (find_open xid) now ∙ found_without_same xid other start.opened is)
end_tells xid other start kind false is told now =
    nothing (told ∙ verdict_at (same_xid xid other) false false is) (ap (find_open xid) now ∙ found_without_other xid other start.opened is)

pub tells : (xid : Xid) (kind : EntryKind) (start : Start) → Tells xid kind start
tells xid (Prepare other rows) start = prepare_tells xid other rows start (same_xid xid other) refl
tells xid (OnePhase other rows timestamp seconds) start = nothing refl refl
tells xid (Commit other timestamp seconds) start = end_tells xid other start (Commit other timestamp seconds) (same_xid xid other) refl refl refl
tells xid (Rollback other) start = end_tells xid other start (Rollback other) (same_xid xid other) refl refl refl
tells xid (Plain rows seconds) start = nothing refl refl
tells xid (Beat timestamp) start = nothing refl refl

-- ---- a history

pub prepare_speaks : (xid : Xid) (rows : List Row) → verdict xid (Prepare xid rows) ≡ Some true
prepare_speaks xid rows = ap (λ (b : Bool). cond b (Some true) None) (same_xid_laws.refl xid)

-- an entry that says nothing leaves the branch as it was
pub unsaid : (xid : Xid) (kind : EntryKind) (start : Start) → verdict xid kind ≡ None → find_open xid (opened_by kind start) ≡ find_open xid start.opened
unsaid xid kind start none = by (tells xid kind start)
  where
    by : Tells xid kind start → find_open xid (opened_by kind start) ≡ find_open xid start.opened
    by (opens rows is now) = absurd (let e : Some true ≡ None = sym (prepare_speaks xid rows) ∙ ap (verdict xid) (sym is) ∙ none in cc)
    by (ends told now) = absurd (let e : Some false ≡ None = sym told ∙ none in cc)
    by (nothing told now) = now

pub unsaid_history : (xid : Xid) (start : Start) (history : List LogEntry) → SayNothingOf xid history
    → find_open xid (left_by start history).opened ≡ find_open xid start.opened
unsaid_history xid start [] all = refl
unsaid_history xid start (entry ∷ earlier) (none, all) = unsaid xid entry.kind (left_by start earlier) none ∙ unsaid_history xid start earlier all

pub some_is : {X : Type 0} (x y : X) → Some x ≡ Some y → x ≡ y
some_is x y e = cc

abbrev open_branch : Xid → ℕ → ℕ → List Row → OpenBranch
open_branch xid floor entry rows = record { xid = xid; floor = floor; entry = entry; rows = rows }

pub opened_here : (start : Start) (xid : Xid) (rows : List Row) (earlier : List LogEntry)
    → opens_at (left_by start earlier) xid rows ≡ branch_opened start xid rows earlier
opened_here start xid rows earlier = ap (λ (n : ℕ). open_branch xid (left_by start earlier).mark n rows) (numbers_count start earlier)

pub found_stands : (start : Start) (history : List LogEntry) (xid : Xid) (branch : OpenBranch) → find_open xid (left_by start history).opened ≡ Some branch
    → StandsOpen start history xid branch
found_stands start [] xid branch found = inr (tt, found)
found_stands start (entry ∷ earlier) xid branch found = by (tells xid entry.kind (left_by start earlier)) (found_stands start earlier xid branch)
  where
    later : verdict xid entry.kind ≡ None → StandsOpen start earlier xid branch → StandsOpen start (entry ∷ earlier) xid branch
    later none (inl newest) = inl record {
      later = entry ∷ newest.later;
      prepare = newest.prepare;
      earlier = newest.earlier;
      rows = newest.rows;
      in_order = ap (λ (list : List LogEntry). entry ∷ list) newest.in_order;
      prepares = newest.prepares;
      nothing_later = (none, newest.nothing_later);
      opened = newest.opened;
    }
    later none (inr held) = inr ((none, held.0), held.1)

    by : Tells xid entry.kind (left_by start earlier) → (find_open xid (left_by start earlier).opened ≡ Some branch → StandsOpen start earlier xid branch)
        → StandsOpen start (entry ∷ earlier) xid branch
    by (opens rows is now) behind = inl record {
      later = [];
      prepare = entry;
      earlier = earlier;
      rows = rows;
      in_order = refl;
      prepares = is;
      nothing_later = tt;
      opened = some_is branch (opens_at (left_by start earlier) xid rows) (sym found ∙ now) ∙ opened_here start xid rows earlier;
    }
    by (ends told now) behind = absurd (let e : None ≡ Some branch = sym now ∙ found in cc)
    by (nothing told now) behind = later told (behind (sym now ∙ found))

-- what a Prepare opens is found
pub prepared_found : (xid : Xid) (rows : List Row) (kind : EntryKind) (start : Start) → kind ≡ Prepare xid rows
    → find_open xid (opened_by kind start) ≡ Some (opens_at start xid rows)
prepared_found xid rows kind start is =
    ap (λ (k : EntryKind). find_open xid (opened_by k start)) is
    ∙ found_entered_same xid (opens_at start xid rows) (without xid start.opened) (same_xid_laws.refl xid)
    (found_without_same xid xid start.opened (same_xid_laws.refl xid))

pub stands_found : (start : Start) (history : List LogEntry) (xid : Xid) (branch : OpenBranch) → StandsOpen start history xid branch
    → find_open xid (left_by start history).opened ≡ Some branch
stands_found start history xid branch (inl newest) =
    ap (λ (list : List LogEntry). find_open xid (left_by start list).opened) newest.in_order
    ∙ ap (λ (s : Start). find_open xid s.opened) (left_append start newest.later (newest.prepare ∷ newest.earlier))
    ∙ unsaid_history xid (left_by start (newest.prepare ∷ newest.earlier)) newest.later newest.nothing_later
    ∙ prepared_found xid newest.rows newest.prepare.kind (left_by start newest.earlier) newest.prepares
    ∙ ap (λ (o : OpenBranch). Some o) (opened_here start xid newest.rows newest.earlier ∙ sym newest.opened)
stands_found start history xid branch (inr (silent, held)) = unsaid_history xid start history silent ∙ held

pub open_is_newest_prepare : OpenIsNewestPrepare
open_is_newest_prepare start history xid branch = (found_stands start history xid branch, stands_found start history xid branch)
