-- What a lane holds, and what went into it and came out between two moments.
use Rattle.std.specs.Prelude.{◌≡◌, ℕ, List, ◌++◌}
use Rattle.cdc_lane.specs.declared.plain.PlainLane.{PlainLane}

-- the items of a lane, the first to come out first
abbrev pub held : {T : Type 0} → PlainLane T → List T
held lane = lane.items.items

-- how many items it can hold
abbrev pub room_of : {T : Type 0} → PlainLane T → ℕ
room_of lane = lane.room

-- these items went in, in order, and none came out
pub record WentIn {T : Type 0} (before : PlainLane T) (items : List T) (now : PlainLane T) : Type 0 where
  pub behind : held now ≡ held before ++ items
  pub room : room_of now ≡ room_of before

-- these items came out, in order, and none went in
pub record CameOut {T : Type 0} (before : PlainLane T) (items : List T) (now : PlainLane T) : Type 0 where
  pub first : held before ≡ items ++ held now
  pub room : room_of now ≡ room_of before
