-- Going back on a trail undoes what was noted.
use Rattle.std.proofs.Common.{◌≡◌, ℕ, Bool, true, false, cond, List, [], ◌∷◌, ◌++◌, length, take, leb, Some, Result, Ok, Err, OnErr, IfOk, ap, refl, ◌∙◌, arith}
use Rattle.std.specs.Ordering.{is_gt}
use Rattle.std.proofs.lemmas.List.{take_all, take_at}
use Rattle.cdc_base.specs.declared.key.Key.{Key}
use Rattle.cdc_base.specs.Key.{key_order}
use Rattle.cdc_sorter.specs.Sorting.{Sorting}
use Rattle.cdc_open.specs.Standing.{StandingBranch}
use Rattle.cdc_sorter.specs.Trail.{Stand, EndedBranch, RecentBranch, Trail, stand_of, ended_with, recent_at, trail_noted, trail_ended, trail_committed, trail_back}

abbrev trail_of : Trail → List EndedBranch → List RecentBranch → Trail
trail_of trail ended recent = record { place = trail.place; checksum = trail.checksum; ended = ended; recent = recent; known = trail.known }

same_back : {X : Type 0} (xs : List X) → take (length xs) xs ≡ xs
same_back xs = take_all (length xs) xs (omega arith)

more_back : {X : Type 0} (xs : List X) (x : X) → take (length xs) (xs ++ x ∷ []) ≡ xs
more_back xs x = take_at xs (x ∷ []) (length xs) refl

-- the same lists, and one more in the second where a test holds
both_back : (trail : Trail) (front : List EndedBranch) (r : RecentBranch) (b : Bool) → take (length trail.ended) front ≡ trail.ended
    → trail_back (length trail.ended) (length trail.recent) (cond b (trail_of trail front (trail.recent ++ r ∷ [])) (trail_of trail front trail.recent)) ≡ trail
both_back trail front r true is =
    ap (λ (ended : List EndedBranch). trail_of trail ended (take (length trail.recent) (trail.recent ++ r ∷ []))) is
    ∙ ap (trail_of trail trail.ended) (more_back trail.recent r)
both_back trail front r false is =
    ap (λ (ended : List EndedBranch). trail_of trail ended (take (length trail.recent) trail.recent)) is
    ∙ ap (trail_of trail trail.ended) (same_back trail.recent)

pub noted_back : (trail : Trail) (key : Key) (stand : Stand) → trail_back (length trail.ended) (length trail.recent) (trail_noted trail key stand) ≡ trail
noted_back trail key stand = both_back trail trail.ended (recent_at key stand) (is_gt (key_order key trail.known)) (same_back trail.ended)

pub committed_back : (first number : ℕ) (key : Key) (s : StandingBranch) (trail : Trail)
    → trail_back (length trail.ended) (length trail.recent) (trail_committed first key (Some s) (trail_ended trail (ended_with number s))) ≡ trail
committed_back first number key s trail = by (leb first s.branch.entry)
  where
    by : (b : Bool) → trail_back (length trail.ended) (length trail.recent)
        (cond b (trail_noted (trail_ended trail (ended_with number s)) key (stand_of s)) (trail_ended trail (ended_with number s))) ≡ trail
    by true = both_back trail (trail.ended ++ ended_with number s ∷ []) (recent_at key (stand_of s)) (is_gt (key_order key trail.known)) (more_back trail.ended (ended_with number s))
    by false = both_back trail (trail.ended ++ ended_with number s ∷ []) (recent_at key (stand_of s)) false (more_back trail.ended (ended_with number s))

-- the first end of an equation
abbrev pub before_is : {A : Type 0} {x y : A} → x ≡ y → A
before_is {x = x} same = x

-- a sorter that goes back on its trail is what it was before a commit was noted
pub commit_undone : (old : Sorting) (number : ℕ) (key : Key) (s : StandingBranch) (new : Sorting) (made : Trail) (ended recent : ℕ)
    → new ≡ record old { trail = trail_back ended recent made } → ended ≡ length old.trail.ended → recent ≡ length old.trail.recent
    → made ≡ trail_committed old.first key (Some s) (trail_ended old.trail (ended_with number s)) → new ≡ old
commit_undone old number key s new made ended recent new_is ended_is recent_is made_is =
    let there : Trail → Sorting = λ (t : Trail). record old { trail = t } in
    new_is
    ∙ ap (λ (n : ℕ). there (trail_back n recent made)) ended_is
    ∙ ap (λ (n : ℕ). there (trail_back (length old.trail.ended) n made)) recent_is
    ∙ ap (λ (t : Trail). there (trail_back (length old.trail.ended) (length old.trail.recent) t)) made_is
    ∙ ap there (committed_back old.first number key s old.trail)

-- a fact of an error
pub on_err : {T E : Type 0} (P : Type 0) (r : Result T E) → P → OnErr r P
on_err P (Ok x) h = tt
on_err P (Err e) h = h

-- a fact of each value
pub ok_weaker : {T E : Type 0} (P Q : T → Type 0) → ((x : T) → P x → Q x) → (r : Result T E) → IfOk r P → IfOk r Q
ok_weaker P Q weaker (Ok x) h = weaker x h
ok_weaker P Q weaker (Err e) h = tt
