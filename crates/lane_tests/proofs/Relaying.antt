-- One turn of a relay between one lane and another.
use Rattle.std.proofs.Common.{◌≡◌, ℕ, ◌+◌, zero, Bool, true, false, cond, List, [], ◌∷◌, length, inl, inr, ap, sym, subst, refl, ◌∙◌, append-nil, slice_index_or, slice_set, arith}
use Rattle.std.specs.List.{AllZip}
use Rattle.cdc_lane.specs.declared.plain.PlainLane.{PlainLane}
use Rattle.cdc_lane.specs.Held.{held, room_of, WentIn, CameOut}
use Rattle.cdc_turns.specs.declared.turn.Turn.{Turn}
use Rattle.cdc_turns.specs.declared.turn.Turn.TheVariants.{Moved, Blocked, Done}
use Rattle.cdc_turns.specs.Ends.{EndsAs}
use Rattle.cdc_turns.specs.Joined.{joined, contents}
use Rattle.cdc_turns.specs.Turns.{Passes, MergeSays, is_move, one_if}
use Rattle.lane_tests.specs.declared.item.Item.{Item}
use Rattle.lane_tests.specs.declared.item.Item.TheVariants.{Number, End}
use Rattle.lane_tests.specs.declared.relay.State.{State}
use Rattle.lane_tests.specs.declared.relay.State.TheVariants.{Taking, Over}
use Rattle.lane_tests.specs.declared.relay.Relay.{Relay}
use Rattle.lane_tests.specs.Item.{is_closing}
use Rattle.lane_tests.specs.Jobs.{has_taken, has_given_number, is_holding, relay_account, state_of, TakesOne}
use Rattle.lane_tests.proofs.Sending.{ends_by}

abbrev Lanes : Type 0
Lanes = List (PlainLane Item)

joined_none : (lists : List (List Item)) → joined lists [] ≡ lists
joined_none [] = refl
joined_none (items ∷ lists) = refl

-- what a job says of its one lane stays where nothing comes
none_on : (window : ℕ) (before after : Bool) (lists : List (List Item)) → after ≡ before → AllZip (EndsAs is_closing window) (before ∷ []) lists
    → AllZip (EndsAs is_closing window) (after ∷ []) (joined lists [])
none_on window before after lists same all =
    subst (AllZip (EndsAs is_closing window) (after ∷ [])) (sym (joined_none lists)) (subst (λ (b : Bool). AllZip (EndsAs is_closing window) (b ∷ []) lists) (sym same) all)

-- and goes on with an item
one_on : (window : ℕ) (before after : Bool) (lists : List (List Item)) (item : Item) → before ≡ false → after ≡ is_closing item → AllZip (EndsAs is_closing window) (before ∷ []) lists
    → AllZip (EndsAs is_closing window) (after ∷ []) (joined lists ((item ∷ []) ∷ []))
one_on window before after [] item going now all = absurd all
one_on window before after (items ∷ []) item going now (here, all) = (ends_by window before after items item going now here, tt)
one_on window before after (items ∷ other ∷ lists) item going now (here, all) = absurd all

taken_of : (item : Item) → has_taken (state_of item) ≡ is_closing item
taken_of (Number number) = refl
taken_of End = refl

given_none : (item : Item) → has_given_number (state_of item) ≡ false
given_none (Number number) = refl
given_none End = refl

holds_it : (item : Item) → is_holding (state_of item) ≡ true
holds_it (Number number) = refl
holds_it End = refl

-- a turn, and what its answer says
pub record IsTurn (old new : Relay) (ins ins_later outs outs_later : Lanes) (turn : Turn) : Type 0 where
  pub passes : Passes relay_account old new ins ins_later outs outs_later turn
  pub says : MergeSays relay_account old new ins ins_later outs outs_later turn

-- ---- an item taken

module _ (old new : Relay) (lane after out : PlainLane Item) (item : Item) (flows : CameOut lane (item ∷ []) after) (here : old.state ≡ Taking) (there : new.state ≡ state_of item) where
  took_now : has_taken old.state ≡ false
  took_now = ap has_taken here

  takes_now : has_taken new.state ≡ is_closing item
  takes_now = ap has_taken there ∙ taken_of item

  gave_now : has_given_number old.state ≡ false
  gave_now = ap has_given_number here

  gives_now : has_given_number new.state ≡ has_given_number old.state
  gives_now = ap has_given_number there ∙ given_none item ∙ sym gave_now

  holds_before : (price : ℕ) → relay_account.work old price ≡ 0
  holds_before price = ap (λ (s : State). cond (is_holding s) (price + 1) 0) here

  holds_now : (price : ℕ) → relay_account.work new price ≡ price + 1
  holds_now price = ap (λ (s : State). cond (is_holding s) (price + 1) 0) there ∙ ap (λ (b : Bool). cond b (price + 1) 0) (holds_it item)

  pub takes_turn : IsTurn old new (lane ∷ []) (after ∷ []) (out ∷ []) (out ∷ []) Moved
  takes_turn = record {
    passes = record {
      taken = (item ∷ []) ∷ [];
      given = [];
      flows_in = ap (λ (items : List Item). items ∷ []) flows.first;
      flows_out = refl;
      did = λ window takes gives did.
          (one_on window (has_taken old.state) (has_taken new.state) takes item took_now takes_now did.0, none_on window (has_given_number old.state) (has_given_number new.state) gives gives_now did.1);
      weighs = λ price. refl;
      cost = λ price. omega (arith, holds_before price, holds_now price);
      width_in = refl;
      width_out = refl;
      turned = tt;
    };
    says = gave_now;
  }

-- ---- nothing taken, nothing given

none_passed : (old new : Relay) (ins ins_later outs outs_later : Lanes) (turn : Turn) → new.state ≡ old.state → contents ins_later ≡ contents ins → contents outs_later ≡ contents outs
    → ◌≡◌ {A = ℕ} (one_if (is_move turn)) 0 → Passes relay_account old new ins ins_later outs outs_later turn
none_passed old new ins ins_later outs outs_later turn same held_in held_out still = record {
  taken = [];
  given = [];
  flows_in = sym held_in;
  flows_out = held_out ∙ sym (joined_none (contents outs));
  did = λ window takes gives did.
      (none_on window (has_taken old.state) (has_taken new.state) takes (ap has_taken same) did.0, none_on window (has_given_number old.state) (has_given_number new.state) gives (ap has_given_number same) did.1);
  weighs = λ price. refl;
  cost = λ price.
      let work : relay_account.work new price ≡ relay_account.work old price = ap (λ (s : State). cond (is_holding s) (price + 1) 0) same in
      omega (arith, work, still);
  width_in = refl;
  width_out = refl;
  turned = tt;
}

pub waits_turn : (old new : Relay) (lane after out : PlainLane Item) → CameOut lane [] after → held after ≡ [] → old.state ≡ Taking → new.state ≡ Taking
    → IsTurn old new (lane ∷ []) (after ∷ []) (out ∷ []) (out ∷ []) Blocked
waits_turn old new lane after out flows empty here there =
    let same : new.state ≡ old.state = there ∙ sym here in
    let held_in : contents (after ∷ []) ≡ contents (lane ∷ []) = ap (λ (items : List Item). items ∷ []) (sym flows.first) in
    record {
      passes = none_passed old new (lane ∷ []) (after ∷ []) (out ∷ []) (out ∷ []) Blocked same held_in refl refl;
      says = (
        ap has_given_number here,
        ap has_given_number there,
        record { held_in = held_in; held_out = refl; took = ap (λ (s : State). has_taken s ∷ []) same; gave = ap (λ (s : State). has_given_number s ∷ []) same },
        inl (zero, (omega arith, λ d. empty), ap has_taken there),
      );
    }

pub full_turn : (old : Relay) (lane out after : PlainLane Item) → WentIn out [] after → length (held after) ≡ room_of after → has_given_number old.state ≡ false
    → IsTurn old old (lane ∷ []) (lane ∷ []) (out ∷ []) (after ∷ []) Blocked
full_turn old lane out after flows full going =
    let held_out : contents (after ∷ []) ≡ contents (out ∷ []) = ap (λ (items : List Item). items ∷ []) (flows.behind ∙ append-nil (held out)) in
    record {
      passes = none_passed old old (lane ∷ []) (lane ∷ []) (out ∷ []) (after ∷ []) Blocked refl refl held_out refl;
      says = (
        going,
        going,
        record { held_in = refl; held_out = held_out; took = refl; gave = refl },
        inr (zero, (omega arith, λ d. full), going),
      );
    }

pub over_turn : (old : Relay) (ins outs : Lanes) → old.state ≡ Over → IsTurn old old ins ins outs outs Done
over_turn old ins outs here = record {
  passes = none_passed old old ins ins outs outs Done refl refl refl refl;
  says = (ap has_given_number here, ap has_given_number here, record { held_in = refl; held_out = refl; took = refl; gave = refl });
}

-- ---- an item given

abbrev pub after_giving : Item → State
after_giving (Number number) = Taking
after_giving End = Over

module _ (old new : Relay) (lane out after : PlainLane Item) (item : Item) (flows : WentIn out (item ∷ []) after) (here : old.state ≡ state_of item) (there : new.state ≡ after_giving item) where
  gives_taken : (i : Item) → has_taken (after_giving i) ≡ has_taken (state_of i)
  gives_taken (Number number) = refl
  gives_taken End = refl

  gives_given : (i : Item) → has_given_number (after_giving i) ≡ is_closing i
  gives_given (Number number) = refl
  gives_given End = refl

  holds_none : (i : Item) → is_holding (after_giving i) ≡ false
  holds_none (Number number) = refl
  holds_none End = refl

  same_taken : has_taken new.state ≡ has_taken old.state
  same_taken = ap has_taken there ∙ gives_taken item ∙ sym (ap has_taken here)

  gave_none : has_given_number old.state ≡ false
  gave_none = ap has_given_number here ∙ given_none item

  work_before : (price : ℕ) → relay_account.work old price ≡ price + 1
  work_before price = ap (λ (s : State). cond (is_holding s) (price + 1) 0) here ∙ ap (λ (b : Bool). cond b (price + 1) 0) (holds_it item)

  work_now : (price : ℕ) → relay_account.work new price ≡ 0
  work_now price = ap (λ (s : State). cond (is_holding s) (price + 1) 0) there ∙ ap (λ (b : Bool). cond b (price + 1) 0) (holds_none item)

  pub gives_turn : IsTurn old new (lane ∷ []) (lane ∷ []) (out ∷ []) (after ∷ []) Moved
  gives_turn = record {
    passes = record {
      taken = [];
      given = (item ∷ []) ∷ [];
      flows_in = refl;
      flows_out = ap (λ (items : List Item). items ∷ []) flows.behind;
      did = λ window takes gives did. (
        none_on window (has_taken old.state) (has_taken new.state) takes same_taken did.0,
        one_on window (has_given_number old.state) (has_given_number new.state) gives item gave_none (ap has_given_number there ∙ gives_given item) did.1,
      );
      weighs = λ price. refl;
      cost = λ price. omega (arith, work_before price, work_now price);
      width_in = refl;
      width_out = refl;
      turned = tt;
    };
    says = gave_none;
  }

-- ---- the same of lists of one lane

one_by : (P : Lanes → Type 0) → ((lane : PlainLane Item) → P (lane ∷ [])) → (lanes : Lanes) → 1 ≡ length lanes → P lanes
one_by P each [] one = absurd (omega (arith, one))
one_by P each (lane ∷ []) one = each lane
one_by P each (lane ∷ other ∷ lanes) one = absurd (omega (arith, one))

pub full_passes : (old : Relay) (ins outs : Lanes) (spare after : PlainLane Item) → 1 ≡ length ins → 1 ≡ length outs
    → WentIn (slice_index_or outs 0 spare) [] after → length (held after) ≡ room_of after → has_given_number old.state ≡ false
    → Passes relay_account old old ins ins outs (slice_set outs 0 after) Blocked
full_passes old ins outs spare after one_in one_out flows full going =
    one_by (λ (i : Lanes). Passes relay_account old old i i outs (slice_set outs 0 after) Blocked)
    (λ lane. one_by (λ (o : Lanes). WentIn (slice_index_or o 0 spare) [] after → Passes relay_account old old (lane ∷ []) (lane ∷ []) o (slice_set o 0 after) Blocked)
    (λ out went. (full_turn old lane out after went full going).passes) outs one_out flows)
    ins one_in

pub gives_passes : (old new : Relay) (ins outs : Lanes) (spare after : PlainLane Item) (item : Item) → 1 ≡ length ins → 1 ≡ length outs
    → WentIn (slice_index_or outs 0 spare) (item ∷ []) after → old.state ≡ state_of item → new.state ≡ after_giving item
    → Passes relay_account old new ins ins outs (slice_set outs 0 after) Moved
gives_passes old new ins outs spare after item one_in one_out flows here there =
    one_by (λ (i : Lanes). Passes relay_account old new i i outs (slice_set outs 0 after) Moved)
    (λ lane. one_by (λ (o : Lanes). WentIn (slice_index_or o 0 spare) (item ∷ []) after → Passes relay_account old new (lane ∷ []) (lane ∷ []) o (slice_set o 0 after) Moved)
    (λ out went. (gives_turn old new lane out after item went here there).passes) outs one_out flows)
    ins one_in

pub taken_passes : (old new : Relay) (ins outs : Lanes) (spare after : PlainLane Item) (turn : Turn) (state : State) → 1 ≡ length ins → 1 ≡ length outs
    → TakesOne (slice_index_or ins 0 spare) after turn state → old.state ≡ Taking → new.state ≡ state
    → Passes relay_account old new ins (slice_set ins 0 after) outs outs turn
taken_passes old new ins outs spare after Moved state one_in one_out takes here there =
    one_by (λ (i : Lanes). TakesOne (slice_index_or i 0 spare) after Moved state → Passes relay_account old new i (slice_set i 0 after) outs outs Moved)
    (λ lane took. one_by (λ (o : Lanes). Passes relay_account old new (lane ∷ []) (after ∷ []) o o Moved)
    (λ out. (takes_turn old new lane after out took.0 took.1 here (there ∙ took.2)).passes) outs one_out)
    ins one_in takes
taken_passes old new ins outs spare after Blocked state one_in one_out takes here there =
    one_by (λ (i : Lanes). TakesOne (slice_index_or i 0 spare) after Blocked state → Passes relay_account old new i (slice_set i 0 after) outs outs Blocked)
    (λ lane took. one_by (λ (o : Lanes). Passes relay_account old new (lane ∷ []) (after ∷ []) o o Blocked)
    (λ out. (waits_turn old new lane after out took.0 took.1 here (there ∙ took.2)).passes) outs one_out)
    ins one_in takes
taken_passes old new ins outs spare after Done state one_in one_out takes here there = absurd takes
