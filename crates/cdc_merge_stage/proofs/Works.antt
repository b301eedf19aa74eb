-- The work that is left, where one thing changes.
use Rattle.std.proofs.Common.{◌≡◌, ℕ, zero, suc, ◌+◌, ◌-◌, ◌*◌, ◌≤◌, ◌<◌, Bool, true, false, List, [], ◌∷◌, length, map, get_or, set, refl, sym, ◌∙◌, ap, arith, mul-add, Option, Some, None, is_some, if◌then◌else◌}
use Rattle.cdc_item.specs.declared.dump_item.DumpItem.{DumpItem}
use Rattle.std.proofs.lemmas.List.{length-map}
use Rattle.cdc_model.specs.Records.{OutputUnit}
use Rattle.cdc_item.specs.declared.dump_item.DumpItem.TheVariants.{Unit as OneUnit}
use Rattle.cdc_merge_stage.specs.declared.stage.MakeStep.{MakeStep}
use Rattle.cdc_merge_stage.specs.declared.stage.MakeStep.TheVariants.{Filled, Ended, Nothing}
use Rattle.cdc_merge_stage.specs.Passing.{HasFilled, MakeCosts}
use Rattle.cdc_merge_stage.specs.declared.merge_end.MergeEnd.{MergeEnd}
use Rattle.cdc_merge_stage.specs.Making.{MakerState}
use Rattle.cdc_merge_stage.specs.Merged.{MergeState, waiting_in, all_none, has_given, unit_cost, merge_work, merges_on}

pub waiting_less : (slots : List (Option DumpItem)) (out : ℕ) (item : DumpItem) → get_or slots out None ≡ Some item → waiting_in (set slots out None) + 1 ≡ waiting_in slots
waiting_less [] out item is = absurd cc
waiting_less (slot ∷ slots) zero item is = ap (λ (s : Option DumpItem). waiting_in (s ∷ slots)) (sym is)
waiting_less (None ∷ slots) (suc out) item is = waiting_less slots out item is
waiting_less (Some first ∷ slots) (suc out) item is = ap (λ n. n + 1) (waiting_less slots out item is)

pub waiting_all : (slots : List (Option DumpItem)) (item : DumpItem) → waiting_in (map (λ _. Some item) slots) ≡ length slots
waiting_all [] item = refl
waiting_all (slot ∷ slots) item = let rest = waiting_all slots item in omega (arith, rest)

pub waiting_none : (slots : List (Option DumpItem)) → all_none slots ≡ true → waiting_in slots ≡ 0
waiting_none [] none = refl
waiting_none (None ∷ slots) none = waiting_none slots none
waiting_none (Some item ∷ slots) none = absurd cc

-- no lane has got the End before it is given, nor where one waits
pub given_none : (slots others : List (Option DumpItem)) → length slots ≡ length others → map (has_given false) slots ≡ map (has_given false) others
given_none [] [] long = refl
given_none [] (o ∷ others) long = absurd (omega (arith, long))
given_none (s ∷ slots) [] long = absurd (omega (arith, long))
given_none (s ∷ slots) (o ∷ others) long = ap (λ (l : List Bool). false ∷ l) (given_none slots others (omega (arith, long)))

pub given_filled : (slots : List (Option DumpItem)) (item : DumpItem) → map (has_given true) (map (λ _. Some item) slots) ≡ map (has_given false) slots
given_filled [] item = refl
given_filled (s ∷ slots) item = ap (λ (l : List Bool). false ∷ l) (given_filled slots item)

pub given_at : (closing : Bool) (slots : List (Option DumpItem)) (out : ℕ) → out < length slots → is_some (get_or slots out None) ≡ true → get_or (map (has_given closing) slots) out true ≡ false
given_at closing [] out within some = absurd (omega (arith, within))
given_at true (None ∷ slots) zero within some = absurd cc
given_at true (Some item ∷ slots) zero within some = refl
given_at false (s ∷ slots) zero within some = refl
given_at closing (s ∷ slots) (suc out) within some = given_at closing slots out (omega (arith, within)) some

pub not_all_none : (slots : List (Option DumpItem)) (out : ℕ) → is_some (get_or slots out None) ≡ true → all_none slots ≡ false
not_all_none [] out some = absurd cc
not_all_none (None ∷ slots) zero some = absurd cc
not_all_none (Some item ∷ slots) zero some = refl
not_all_none (None ∷ slots) (suc out) some = not_all_none slots out some
not_all_none (Some item ∷ slots) (suc out) some = refl

-- ---- costs, over numbers

times_more : (c a b : ℕ) → a ≤ b → c * a ≤ c * b
times_more c a b le =
    let split : c * b ≡ c * a + c * (b - a) = ap (λ n. c * n) (let e : b ≡ a + (b - a) = omega (arith, le) in e) ∙ mul-add c a (b - a) in
    omega (arith, split)

-- one item less waits
pub push_costs : (price before after rest : ℕ) → after + 1 ≡ before → (price + 1) * after + rest + price * 1 + 1 ≤ (price + 1) * before + rest
push_costs price before after rest less =
    let one : (price + 1) * before ≡ (price + 1) * after + (price + 1) * 1 = ap (λ n. (price + 1) * n) (sym less) ∙ mul-add (price + 1) after 1 in
    omega (arith, one)

-- a unit waits for each lane, for which there was credit
pub fill_costs : (price outs cost credit later extra flag : ℕ) → cost ≡ (price + 1) * outs + 1 → later + 1 ≤ credit → (price + 1) * outs + cost * (later + extra) + flag + 1 ≤ (price + 1) * 0 + cost * (credit + extra) + flag
fill_costs price outs cost credit later extra flag is less =
    let many : cost * (later + 1 + extra) ≤ cost * (credit + extra) = times_more cost (later + 1 + extra) (credit + extra) (omega (arith, less)) in
    let one : cost * (later + extra + 1) ≡ cost * (later + extra) + cost * 1 = mul-add cost (later + extra) 1 in
    let same : cost * (later + 1 + extra) ≡ cost * (later + extra + 1) = ap (λ n. cost * n) (omega arith) in
    omega (arith, many, one, same, is)

pub less_credit : (cost credit later extra : ℕ) → later ≤ credit → cost * (later + extra) ≤ cost * (credit + extra)
less_credit cost credit later extra less = times_more cost (later + extra) (credit + extra) (omega (arith, less))

-- the Ends wait for all lanes
pub close_costs : (price outs cost credit flag later : ℕ) → cost ≡ (price + 1) * outs + 1 → later ≤ flag → (price + 1) * outs + cost * (credit + 0) + later + 1 ≤ (price + 1) * 0 + cost * (credit + 1) + flag
close_costs price outs cost credit flag later is less =
    let one : cost * (credit + 1) ≡ cost * credit + cost * 1 = mul-add cost credit 1 in
    let none : cost * (credit + 0) ≡ cost * credit = ap (λ n. cost * n) (omega arith) in
    omega (arith, one, none, is, less)

-- an item that a node gave is paid for by its weight
pub take_costs : (cost credit later extra flag less wait : ℕ) → later ≤ credit + 1 → less ≤ flag → wait + cost * (later + extra) + less + 0 + 1 ≤ wait + cost * (credit + extra) + flag + (cost + 1) * 1
take_costs cost credit later extra flag less wait more le =
    let up : cost * (later + extra) ≤ cost * (credit + extra + 1) = times_more cost (later + extra) (credit + extra + 1) (omega (arith, more)) in
    let one : cost * (credit + extra + 1) ≡ cost * (credit + extra) + cost * 1 = mul-add cost (credit + extra) 1 in
    omega (arith, up, one, le)

-- ---- costs, over stages

pub close_work : (old new : MergeState) (item : DumpItem) → new.maker ≡ old.maker → new.slots ≡ map (λ _. Some item) old.slots → all_none old.slots ≡ true → old.closing ≡ false → new.closing ≡ true → merges_on new.end ≡ false → (price : ℕ) → merge_work new price + 1 ≤ merge_work old price
close_work old new item maker slots none going closing ended price =
    let long = length-map old.slots (λ (slot : Option DumpItem). Some item) in
    let w1 : (price + 1) * waiting_in new.slots ≡ (price + 1) * length old.slots = ap (λ n. (price + 1) * n) (ap waiting_in slots ∙ waiting_all old.slots item) in
    let w0 : (price + 1) * waiting_in old.slots ≡ (price + 1) * 0 = ap (λ n. (price + 1) * n) (waiting_none old.slots none) in
    let u1 : unit_cost new price * (new.maker.credit + (if new.closing then 0 else 1)) ≡ unit_cost old price * (old.maker.credit + 0) =
    ap (λ (l : List (Option DumpItem)). ((price + 1) * length l + 1) * (new.maker.credit + (if new.closing then 0 else 1))) slots
    ∙ ap (λ n. ((price + 1) * n + 1) * (new.maker.credit + (if new.closing then 0 else 1))) long
    ∙ ap (λ (m : MakerState). unit_cost old price * (m.credit + (if new.closing then 0 else 1))) maker
    ∙ ap (λ (c : Bool). unit_cost old price * (old.maker.credit + (if c then 0 else 1))) closing in
    let u0 : unit_cost old price * (old.maker.credit + (if old.closing then 0 else 1)) ≡ unit_cost old price * (old.maker.credit + 1) = ap (λ (c : Bool). unit_cost old price * (old.maker.credit + (if c then 0 else 1))) going in
    let f1 : ◌≡◌ {A = ℕ} (if merges_on new.end then 1 else 0) 0 = ap (λ (b : Bool). if b then 1 else 0) ended in
    let base = close_costs price (length old.slots) (unit_cost old price) old.maker.credit (if merges_on old.end then 1 else 0) 0 refl (omega arith) in
    omega (arith, w1, w0, u1, u0, f1, base)

pub fill_work : (old new : MergeState) (item : DumpItem) → new.maker.credit + 1 ≤ old.maker.credit → new.slots ≡ map (λ _. Some item) old.slots → all_none old.slots ≡ true → new.closing ≡ old.closing → new.end ≡ old.end → (price : ℕ) → merge_work new price + 1 ≤ merge_work old price
fill_work old new item less slots none closing same price =
    let long = length-map old.slots (λ (slot : Option DumpItem). Some item) in
    let w1 : (price + 1) * waiting_in new.slots ≡ (price + 1) * length old.slots = ap (λ n. (price + 1) * n) (ap waiting_in slots ∙ waiting_all old.slots item) in
    let w0 : (price + 1) * waiting_in old.slots ≡ (price + 1) * 0 = ap (λ n. (price + 1) * n) (waiting_none old.slots none) in
    let u1 : unit_cost new price * (new.maker.credit + (if new.closing then 0 else 1)) ≡ unit_cost old price * (new.maker.credit + (if old.closing then 0 else 1)) =
    ap (λ (l : List (Option DumpItem)). ((price + 1) * length l + 1) * (new.maker.credit + (if new.closing then 0 else 1))) slots
    ∙ ap (λ n. ((price + 1) * n + 1) * (new.maker.credit + (if new.closing then 0 else 1))) long
    ∙ ap (λ (c : Bool). unit_cost old price * (new.maker.credit + (if c then 0 else 1))) closing in
    let f1 : ◌≡◌ {A = ℕ} (if merges_on new.end then 1 else 0) (if merges_on old.end then 1 else 0) = ap (λ (e : MergeEnd). if merges_on e then 1 else 0) same in
    let base = fill_costs price (length old.slots) (unit_cost old price) old.maker.credit new.maker.credit (if old.closing then 0 else 1) (if merges_on old.end then 1 else 0) refl less in
    omega (arith, w1, w0, u1, f1, base)

-- nothing new waits: the credit isn't more, and the end's record is paid for
pub rest_work : (old new : MergeState) → new.maker.credit ≤ old.maker.credit → new.slots ≡ old.slots → new.closing ≡ old.closing → (price : ℕ) → merge_work new price + (if merges_on old.end then 1 else 0) ≤ merge_work old price + (if merges_on new.end then 1 else 0)
rest_work old new less slots closing price =
    let w1 : (price + 1) * waiting_in new.slots ≡ (price + 1) * waiting_in old.slots = ap (λ (l : List (Option DumpItem)). (price + 1) * waiting_in l) slots in
    let u1 : unit_cost new price * (new.maker.credit + (if new.closing then 0 else 1)) ≡ unit_cost old price * (new.maker.credit + (if old.closing then 0 else 1)) =
    ap (λ (l : List (Option DumpItem)). ((price + 1) * length l + 1) * (new.maker.credit + (if new.closing then 0 else 1))) slots
    ∙ ap (λ (c : Bool). unit_cost old price * (new.maker.credit + (if c then 0 else 1))) closing in
    let base = less_credit (unit_cost old price) old.maker.credit new.maker.credit (if old.closing then 0 else 1) less in
    omega (arith, w1, u1, base)

pub rest_same : (old new : MergeState) → new.maker.credit ≤ old.maker.credit → new.slots ≡ old.slots → new.closing ≡ old.closing → new.end ≡ old.end → (price : ℕ) → merge_work new price ≤ merge_work old price
rest_same old new less slots closing ends price =
    let rest = rest_work old new less slots closing price in
    let same : ◌≡◌ {A = ℕ} (if merges_on new.end then 1 else 0) (if merges_on old.end then 1 else 0) = ap (λ (e : MergeEnd). if merges_on e then 1 else 0) ends in
    omega (arith, rest, same)

pub rest_ended : (old new : MergeState) → new.maker.credit ≤ old.maker.credit → new.slots ≡ old.slots → new.closing ≡ old.closing → merges_on old.end ≡ true → merges_on new.end ≡ false → (price : ℕ) → merge_work new price + 1 ≤ merge_work old price
rest_ended old new less slots closing was is price =
    let rest = rest_work old new less slots closing price in
    let one : ◌≡◌ {A = ℕ} (if merges_on old.end then 1 else 0) 1 = ap (λ (b : Bool). if b then 1 else 0) was in
    let none : ◌≡◌ {A = ℕ} (if merges_on new.end then 1 else 0) 0 = ap (λ (b : Bool). if b then 1 else 0) is in
    omega (arith, rest, one, none)

pub unit_costs : (old mid new : MergeState) (unit : OutputUnit) (step : MakeStep) → mid.slots ≡ old.slots → mid.closing ≡ old.closing → mid.end ≡ old.end → mid.maker.credit + 1 ≤ old.maker.credit → merges_on old.end ≡ true → all_none old.slots ≡ true
    → (new.maker ≡ mid.maker) × (new.start ≡ mid.start) × (new.took ≡ mid.took) × (new.closing ≡ mid.closing) → HasFilled mid unit new step → (price : ℕ) → MakeCosts old new price step
unit_costs old mid new unit Filled slots closing ends falls going none same filled price =
    let credit = ap (λ (m : MakerState). m.credit) same.0 in
    fill_work old new (OneUnit unit) (omega (arith, falls, credit)) (filled.0 ∙ ap (λ (l : List (Option DumpItem)). map (λ _. Some (OneUnit unit)) l) slots) none (same.3 ∙ closing) (filled.1 ∙ ends) price
unit_costs old mid new unit Ended slots closing ends falls going none same filled price =
    let credit = ap (λ (m : MakerState). m.credit) same.0 in
    let less = rest_work old new (omega (arith, falls, credit)) (filled.0 ∙ slots) (same.3 ∙ closing) price in
    let was : ◌≡◌ {A = ℕ} (if merges_on old.end then 1 else 0) 1 = ap (λ (b : Bool). if b then 1 else 0) going in
    let is : ◌≡◌ {A = ℕ} (if merges_on new.end then 1 else 0) 0 = ap (λ (e : MergeEnd). if merges_on e then 1 else 0) filled.1 in
    omega (arith, less, was, is)
unit_costs old mid new unit Nothing slots closing ends falls going none same filled price = absurd filled
