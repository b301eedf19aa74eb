-- What waits for its commit, and what is handed on.
use Rattle.std.specs.Prelude.{◌≡◌, ℕ, ◌+◌, ◌≤◌, ◌<◌, ◌⊎◌, Bool, true, false, ⊤, List, [], ◌∷◌, ◌++◌, length}
use Rattle.std.specs.List.{AllByRecursion}
use Rattle.cdc_model.specs.Records.{OutputUnit}
use Rattle.cdc_item.specs.declared.dump_item.DumpItem.{DumpItem}
use Rattle.cdc_item.specs.Item.{units_among}
use Rattle.cdc_watched_stage.specs.declared.stage.WatchedStage.{WatchedStage}
use Rattle.cdc_watched_stage.specs.Getting.{HasGot}

-- the numbers of units go on by one each, from behind one count up to another
abbrev pub AreNumbered : ℕ → List OutputUnit → ℕ → Type 0
AreNumbered from [] to = from ≡ to
AreNumbered from (unit ∷ units) to = (unit.number ≡ from + 1) × AreNumbered (from + 1) units to

-- units are among others, in their order
abbrev pub IsPartOf : List OutputUnit → List OutputUnit → Type 0
IsPartOf units [] = units ≡ []
IsPartOf units (other ∷ others) = IsPartOf units others ⊎ ((rest : List OutputUnit) × (units ≡ other ∷ rest) × IsPartOf rest others)

-- the first unit, where there is one, has a number behind this count
abbrev pub StartsBehind : ℕ → List OutputUnit → Type 0
StartsBehind count [] = ⊤
StartsBehind count (unit ∷ units) = count < unit.number

-- of the units that waited, those with numbers up to a count were handed on to a watch, in order
pub record HandsUpTo {W : Type 0} (kept : W → List OutputUnit) (ended : W → Bool) (count : ℕ) (waits rest : List OutputUnit) (watch later : W) : Type 0 where
  pub handed : List OutputUnit
  pub split : waits ≡ handed ++ rest
  pub reached : AllByRecursion (λ (u : OutputUnit). u.number ≤ count) handed
  pub behind : StartsBehind count rest
  pub got : HasGot (kept watch) (ended watch) handed (kept later) (ended later)

-- while a stage hands on, just the units that are appended and not published wait, in order; they are at most 4,096
pub record IsWatching (stage : WatchedStage) : Type 0 where
  pub numbered : stage.hands ≡ true → AreNumbered stage.stage.dumper.published.count stage.waits.items stage.stage.dumper.appended.count
  pub none : stage.hands ≡ false → stage.waits.items ≡ []
  pub few : length stage.waits.items ≤ 4_096
  pub near : stage.stage.dumper.appended.count ≤ stage.stage.dumper.published.count + 4_096

-- over turns that took these items, a stage handed on to a watch what is published of what waited and of what was appended,
-- each unit once, in order
pub record HandsOn {W : Type 0} (kept : W → List OutputUnit) (ended : W → Bool) (old : WatchedStage) (items : List DumpItem) (new : WatchedStage) (watch later : W) : Type 0 where
  -- the units that were appended
  pub appended : List OutputUnit
  pub among : IsPartOf appended (units_among items)
  pub numbered : AreNumbered old.stage.dumper.appended.count appended new.stage.dumper.appended.count
  -- what is published doesn't go back
  pub published : old.stage.dumper.published.count ≤ new.stage.dumper.published.count
  -- the units that were handed on, and those that were left
  pub handed : List OutputUnit
  pub left : List OutputUnit
  pub split : old.waits.items ++ appended ≡ handed ++ left
  pub waits : new.hands ≡ true → new.waits.items ≡ left
  pub reached : AllByRecursion (λ (u : OutputUnit). u.number ≤ new.stage.dumper.published.count) handed
  -- one that had stopped hands nothing on; it stops only where a unit was to wait
  pub closed : old.hands ≡ false → (new.hands ≡ false) × (handed ≡ [])
  pub stops : old.hands ≡ true → new.hands ≡ false → appended ≡ [] → ⊥
  -- the watch got them, and was ended where it stopped
  pub heard : Bool
  pub got : HasGot (kept watch) (ended watch) handed (kept later) heard
  pub goes : new.hands ≡ old.hands → ended later ≡ heard
  pub ends : old.hands ≡ true → new.hands ≡ false → ended later ≡ true
