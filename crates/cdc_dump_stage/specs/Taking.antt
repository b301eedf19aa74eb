-- What an output's stage does with the items that it takes.
use Rattle.std.specs.Prelude.{◌≡◌, ◌≢◌, ℕ, ◌+◌, ◌^◌, ◌≤◌, ◌<◌, ◌⊎◌, Bool, true, false, List, [], ◌∷◌, Option, Some}
use Rattle.cdc_base.specs.declared.key.Key.{Key}
use Rattle.cdc_model.specs.Records.{OutputUnit}
use Rattle.cdc_records.specs.declared.front.Front.{Front}
use Rattle.cdc_records.specs.Front.{front_layout}
use Rattle.cdc_dumper.specs.State.{DumperState}
use Rattle.cdc_dumper.specs.Moves.{front_with}
use Rattle.cdc_item.specs.declared.dump_item.DumpItem.{DumpItem}
use Rattle.cdc_item.specs.declared.dump_item.DumpItem.TheVariants.{Unit as OneUnit, End}
use Rattle.cdc_dump_stage.specs.declared.dump_end.DumpEnd.{DumpEnd}
use Rattle.cdc_dump_stage.specs.declared.dump_end.DumpEnd.TheVariants.{Open, Whole, Disk, Differs, Key as OtherKey}

-- the stage takes units
abbrev pub takes_units : DumpEnd → Bool
takes_units Open = true
takes_units Whole = false
takes_units Disk = false
takes_units (Differs kept given) = false
takes_units (OtherKey kept given) = false

-- nothing failed: it takes units, or all were published
abbrev pub is_well : DumpEnd → Bool
is_well Open = true
is_well Whole = true
is_well Disk = false
is_well (Differs kept given) = false
is_well (OtherKey kept given) = false

-- the end with which the next window begins
abbrev pub end_again : DumpEnd → DumpEnd
end_again Open = Open
end_again Whole = Open
end_again Disk = Disk
end_again (Differs kept given) = Differs kept given
end_again (OtherKey kept given) = OtherKey kept given

-- a unit is the next one behind a Front
pub record IsNextUnit (g : Front) (unit : OutputUnit) : Type 0 where
  pub number : unit.number ≡ g.count + 1
  pub most : unit.number ≤ 2 ^ 62
  pub before : unit.before ≡ front_layout g

-- a transaction of this number has another key than the Front's last
pub record HasOtherKey (g : Front) (number : ℕ) (kept given : Key) : Type 0 where
  pub here : number ≡ g.count
  pub last : g.last ≡ Some kept
  pub other : kept ≢ given

-- behind a Front the output has this unit: it is no later one, and no other with the Front's number
pub record IsUnitThere (g : Front) (unit : OutputUnit) : Type 0 where
  pub no_later : unit.number ≤ g.count
  pub same : (kept : Key) → HasOtherKey g unit.number kept unit.key → ⊥

-- why a unit is refused behind a Front: one with the Front's number has another key, or a later one isn't the next one
abbrev pub IsRefusedFor : Front → OutputUnit → DumpEnd → Type 0
IsRefusedFor g unit Open = ⊥
IsRefusedFor g unit Whole = ⊥
IsRefusedFor g unit Disk = ⊥
IsRefusedFor g unit (Differs kept given) = (g.count < unit.number) × (IsNextUnit g unit → ⊥) × (kept ≡ front_layout g) × (given ≡ unit.before)
IsRefusedFor g unit (OtherKey kept given) = HasOtherKey g unit.number kept given × (given ≡ unit.key)

-- an open stage at a Front took a unit, and this is how it ended, at this Front: it went on behind the unit, passed over a
-- known one, failed where it was to write, or refused it
abbrev pub TakesUnit : Front → OutputUnit → DumpEnd → Front → Type 0
TakesUnit g unit Open later = (IsNextUnit g unit × (later ≡ front_with g unit)) ⊎ (IsUnitThere g unit × (later ≡ g))
TakesUnit g unit Whole later = ⊥
TakesUnit g unit Disk later = IsNextUnit g unit
TakesUnit g unit (Differs kept given) later = IsRefusedFor g unit (Differs kept given) × (later ≡ g)
TakesUnit g unit (OtherKey kept given) later = IsRefusedFor g unit (OtherKey kept given) × (later ≡ g)

-- an open stage took the window's End: it is whole, or the disk failed
abbrev pub TakesEnd : Front → DumpEnd → Front → Type 0
TakesEnd g Open later = ⊥
TakesEnd g Whole later = later ≡ g
TakesEnd g Disk later = later ≡ g
TakesEnd g (Differs kept given) later = ⊥
TakesEnd g (OtherKey kept given) later = ⊥

-- an open stage took an item
abbrev pub TakesItem : Front → DumpItem → DumpEnd → Front → Type 0
TakesItem g (OneUnit unit) later_end later = TakesUnit g unit later_end later
TakesItem g End later_end later = TakesEnd g later_end later

-- a stage took an item: one that isn't open does nothing
abbrev pub Leads : DumpEnd → Front → DumpItem → DumpEnd → Front → Type 0
Leads Open g item later_end later = TakesItem g item later_end later
Leads Whole g item later_end later = (later_end ≡ Whole) × (later ≡ g)
Leads Disk g item later_end later = (later_end ≡ Disk) × (later ≡ g)
Leads (Differs kept given) g item later_end later = (later_end ≡ Differs kept given) × (later ≡ g)
Leads (OtherKey kept given) g item later_end later = (later_end ≡ OtherKey kept given) × (later ≡ g)

-- an item moved the Front of what was appended: behind a unit that is the next one, or not at all
abbrev pub Appends : Front → DumpItem → Front → Type 0
Appends g (OneUnit unit) later = (later ≡ g) ⊎ (IsNextUnit g unit × (later ≡ front_with g unit))
Appends g End later = later ≡ g

-- what is published goes on, up to what was appended
pub record PublishesOn (old new : DumperState) : Type 0 where
  pub later : old.published.count ≤ new.published.count
  pub behind : new.published.count ≤ new.appended.count

-- a stage took items one after another, over as many windows as there are Ends
abbrev pub Went : DumpEnd → Front → List DumpItem → DumpEnd → Front → Type 0
Went dump_end g [] later_end later = ((later_end ≡ dump_end) ⊎ (later_end ≡ end_again dump_end)) × (later ≡ g)
Went dump_end g (item ∷ items) later_end later =
    (mid_end : DumpEnd) × (mid : Front) × Leads (end_again dump_end) g item mid_end mid × Went mid_end mid items later_end later

-- how a stage begins at a Front, where the pass goes on from so many transactions with this last key
abbrev pub StartsAs : Front → Option (ℕ × Key) → DumpEnd → Type 0
StartsAs f start Open = (count : ℕ) (given kept : Key) → start ≡ Some (count, given) → HasOtherKey f count kept given → ⊥
StartsAs f start Whole = ⊥
StartsAs f start Disk = ⊥
StartsAs f start (Differs kept given) = ⊥
StartsAs f start (OtherKey kept given) = (count : ℕ) × (start ≡ Some (count, given)) × HasOtherKey f count kept given
