-- How all doors are served: each with its shelf and its salt, and what that comes to.
use Rattle.std.specs.Prelude.{◌≡◌, ◌⊎◌, ℕ, ◌+◌, ◌-◌, ◌<◌, ◌≤◌, List, [], ◌∷◌, ◌++◌, length, map, slice_index, ⊤}
use Rattle.std.specs.List.{Contains}
use Rattle.cdc_outside.specs.Count.{Rose}
use Rattle.cdc_server.specs.declared.door_end.DoorEnd.{DoorEnd}
use Rattle.cdc_server.specs.declared.door_end.DoorEnd.TheVariants as door
use Rattle.cdc_server.specs.declared.serve_end.FirstEnd.{FirstEnd}
use Rattle.cdc_server.specs.declared.serve_end.ServeEnd.{ServeEnd}
use Rattle.cdc_server.specs.declared.serve_end.ServeEnd.TheVariants.{Done, Disk, Kept, Torn, Memory, Door, Salt}
use Rattle.cdc_server.specs.Ends.{cause_rank}

-- a door with its shelf and its salt, before and after it was served, and what that came to
pub record Post (D G Z : Type 0) : Type 0 where
  pub shelf : D
  pub shelf_now : D
  pub door : G
  pub door_now : G
  pub salt : Z
  pub salt_now : Z
  pub ending : DoorEnd

-- each of them under its number, from this one on
abbrev pub EachNumbered : {P : Type 0} → (ℕ → P → Type 0) → ℕ → List P → Type 0
EachNumbered R number [] = ⊤
EachNumbered R number (post ∷ posts) = R number post × EachNumbered R (number + 1) posts

-- of the ends of doors from this number on it is the first by the order of causes, and that of the least door
pub record IsFirstEnd (number : ℕ) (endings : List DoorEnd) (first : FirstEnd) : Type 0 where
  pub before : List DoorEnd
  pub behind : List DoorEnd
  pub all : endings ≡ before ++ first.ending ∷ behind
  pub door : first.door ≡ number + length before
  pub later_before : (ending : DoorEnd) → Contains before ending → cause_rank first.ending < cause_rank ending
  pub none_behind : (ending : DoorEnd) → Contains behind ending → cause_rank first.ending ≤ cause_rank ending

-- the first of two ends, of which the one before is that of the lesser door
abbrev pub IsFirstOfTwo : FirstEnd → FirstEnd → FirstEnd → Type 0
IsFirstOfTwo before behind first = ((first ≡ before) × (cause_rank before.ending ≤ cause_rank behind.ending)) ⊎ ((first ≡ behind) × (cause_rank behind.ending < cause_rank before.ending))

-- doors were served, each from its own shelf under its own salt and number, and this is the first of their ends
pub record ServesDoors
    {D G Z : Type 0}
    (serves : ℕ → D → D → G → G → Z → Z → DoorEnd → Type 0)
    (number : ℕ)
    (shelves shelves_now : List D)
    (doors doors_now : List G)
    (salts salts_now : List Z)
    (first : FirstEnd)
    : Type 0 where
  pub posts : List (Post D G Z)
  pub shelves_are : shelves ≡ map (λ (post : Post D G Z). post.shelf) posts
  pub shelves_now_are : shelves_now ≡ map (λ (post : Post D G Z). post.shelf_now) posts
  pub doors_are : doors ≡ map (λ (post : Post D G Z). post.door) posts
  pub doors_now_are : doors_now ≡ map (λ (post : Post D G Z). post.door_now) posts
  pub salts_are : salts ≡ map (λ (post : Post D G Z). post.salt) posts
  pub salts_now_are : salts_now ≡ map (λ (post : Post D G Z). post.salt_now) posts
  pub each : EachNumbered (λ (n : ℕ) (post : Post D G Z). serves n post.shelf post.shelf_now post.door post.door_now post.salt post.salt_now post.ending) number posts
  pub first_end : IsFirstEnd number (map (λ (post : Post D G Z). post.ending) posts) first

-- what the first end of doors says of their server
abbrev pub serve_end : ℕ → DoorEnd → ServeEnd
serve_end number door.Disk = Disk number
serve_end number (door.Kept fault) = Kept number fault
serve_end number door.Torn = Torn number
serve_end number door.Memory = Memory
serve_end number door.Door = Door number
serve_end number door.Salt = Salt number
serve_end number door.Done = Done

-- the count of this number, from 1, rose
pub record RoseAt (before now : List ℕ) (number : ℕ) : Type 0 where
  pub some : 1 ≤ number
  pub there : number ≤ length before
  pub rose : Rose (slice_index before (number - 1)) (slice_index now (number - 1))

-- what is so of the item of this number, from 1
pub record IsSoAt {A : Type 0} (is : A → Type 0) (items : List A) (number : ℕ) : Type 0 where
  pub before : List A
  pub item : A
  pub behind : List A
  pub all : items ≡ before ++ item ∷ behind
  pub place : number ≡ 1 + length before
  pub so : is item
