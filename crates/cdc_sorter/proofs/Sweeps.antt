-- What is told of points stays told where ended branches that stood open at none of them are dropped.
use Rattle.std.proofs.Common.{◌≡◌, ◌≤◌, ◌<◌, ◌||◌, ℕ, Bool, true, false, cond, List, [], ◌∷◌, map, filter, ap, sym, refl, ◌∙◌}
use Rattle.std.specs.List.{AllByRecursion}
use Rattle.std.specs.BTreeMap.{insert_entry}
use Rattle.cdc_base.specs.declared.xid.Xid.{Xid}
use Rattle.cdc_base.specs.Xid.{xid_order}
use Rattle.cdc_model.specs.Records.{LogEntry, OpenBranch}
use Rattle.cdc_model.specs.Restart.{RestartPoint}
use Rattle.cdc_model.proofs.GrammarRows.{all_front, all_back}
use Rattle.cdc_model.proofs.Keeping.{all_weaker}
use Rattle.cdc_model.proofs.XidOrder.{all_filtered}
use Rattle.cdc_open.specs.Standing.{StandingBranch, branches_of}
use Rattle.cdc_sorter.specs.Trail.{Stand, EndedBranch, RecentBranch, Trail, Standings, stand_of, held_now, stood_before, put_ended, with_ended, stood_at_some, trail_swept, began_numbers}
use Rattle.cdc_sorter.specs.Points.{IsStand, HoldsPoints}
use Rattle.cdc_sorter.proofs.HeldMaps.{stand_with}
use Rattle.cdc_sorter.proofs.Points.{all_mapped}

-- what is dropped didn't stand open before the entry of a number
abbrev pub IsCovered : List ℕ → ℕ → Type 0
IsCovered numbers number = (e : EndedBranch) → stood_at_some numbers e ≡ false → stood_before number e ≡ false

first_false : (a b : Bool) → (a || b) ≡ false → a ≡ false
first_false true b is = is
first_false false b is = refl

second_false : (a b : Bool) → (a || b) ≡ false → b ≡ false
second_false true b is = absurd (let clash : true ≡ false = is in cc)
second_false false b is = is

pub all_covered : (numbers : List ℕ) → AllByRecursion (IsCovered numbers) numbers
all_covered [] = tt
all_covered (n ∷ numbers) = (
  (λ e none. first_false (stood_before n e) (stood_at_some numbers e) none),
  all_weaker (IsCovered numbers) (IsCovered (n ∷ numbers)) (λ m is e none. is e (second_false (stood_before n e) (stood_at_some numbers e) none)) numbers (all_covered numbers),
)

-- what stood open there stands open still
pub swept_same : (number : ℕ) (keep : EndedBranch → Bool) → ((e : EndedBranch) → keep e ≡ false → stood_before number e ≡ false) → (ended : List EndedBranch) (held : List (Xid × ℕ))
    → with_ended number (filter keep ended) held ≡ with_ended number ended held
swept_same number keep drops [] held = refl
swept_same number keep drops (e ∷ ended) held = by (keep e) refl (swept_same number keep drops ended held)
  where
    by : (b : Bool) → keep e ≡ b → with_ended number (filter keep ended) held ≡ with_ended number ended held
        → with_ended number (cond b (e ∷ filter keep ended) (filter keep ended)) held ≡ with_ended number (e ∷ ended) held
    by true is later = ap (put_ended number e) later
    by false is later =
        later ∙ sym (ap (λ (b : Bool). cond b (insert_entry xid_order (with_ended number ended held) e.xid e.floor) (with_ended number ended held)) (drops e is))

all_two : {X : Type 0} (P Q R : X → Type 0) → ((x : X) → P x → Q x → R x) → (xs : List X) → AllByRecursion P xs → AllByRecursion Q xs → AllByRecursion R xs
all_two P Q R make [] ps qs = tt
all_two P Q R make (x ∷ xs) (p, ps) (q, qs) = (make x p q, all_two P Q R make xs ps qs)

pub points_swept : (from : RestartPoint) (node : ℕ) (history : List LogEntry) (here : Standings) (trail : Trail) → HoldsPoints from node history here trail
    → HoldsPoints from node history here (trail_swept (began_numbers here.opened trail.recent) trail)
points_swept from node history here trail holds =
    let opened : List OpenBranch = branches_of here.opened in
    let numbers : List ℕ = began_numbers here.opened trail.recent in
    let kept : List EndedBranch = filter (stood_at_some numbers) trail.ended in
    let open_ones : List ℕ = map (λ (s : StandingBranch). s.branch.entry) here.opened in
    let recent_ones : List ℕ = map (λ (r : RecentBranch). r.stand.entry) trail.recent in
    let stays : (stand : Stand) → IsCovered numbers stand.entry → IsStand from history opened trail.ended stand → IsStand from history opened kept stand =
    λ stand covered is. record {
      first = is.first;
      past = is.past;
      is = is.is ∙ ap (stand_with stand) (sym (swept_same stand.entry (stood_at_some numbers) covered trail.ended (held_now stand.entry opened)));
    } in
    record {
      place = holds.place;
      checksum = holds.checksum;
      ended = all_filtered (λ (e : EndedBranch). e.ended < here.entry) (stood_at_some numbers) trail.ended holds.ended;
      standing =
          all_two (λ (s : StandingBranch). IsCovered numbers s.branch.entry) (λ (s : StandingBranch). from.entry ≤ s.branch.entry → IsStand from history opened trail.ended (stand_of s))
          (λ (s : StandingBranch). from.entry ≤ s.branch.entry → IsStand from history opened kept (stand_of s))
          (λ s covered is low. stays (stand_of s) covered (is low)) here.opened
          (all_mapped (IsCovered numbers) (λ (s : StandingBranch). s.branch.entry) here.opened (all_front (IsCovered numbers) open_ones recent_ones (all_covered numbers)))
          holds.standing;
      recent =
          all_two (λ (r : RecentBranch). IsCovered numbers r.stand.entry) (λ (r : RecentBranch). IsStand from history opened trail.ended r.stand)
          (λ (r : RecentBranch). IsStand from history opened kept r.stand)
          (λ r covered is. stays r.stand covered is) trail.recent
          (all_mapped (IsCovered numbers) (λ (r : RecentBranch). r.stand.entry) trail.recent (all_back (IsCovered numbers) open_ones recent_ones (all_covered numbers)))
          holds.recent;
      told = holds.told;
      began = holds.began;
    }
