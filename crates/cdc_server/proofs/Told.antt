-- What the first end of doors says of the door that it came at.
use Rattle.std.proofs.Common.{◌≡◌, ℕ, ◌+◌, ◌-◌, ◌≤◌, List, [], ◌∷◌, ◌++◌, length, map, refl, sym, ◌∙◌, ap, subst, arith, length-append, suc}
use Rattle.std.specs.Prelude.{slice_index}
use Rattle.std.specs.List.{AllByRecursion, Contains}
use Rattle.std.proofs.lemmas.List.Elements.{Contains-append_right, Contains-append_left, Contains-push}
use Rattle.cdc_outside.specs.Count.{Rose}
use Rattle.cdc_dumper.specs.declared.fault.OpenFault.{OpenFault}
use Rattle.cdc_server.specs.declared.door_end.DoorEnd.{DoorEnd}
use Rattle.cdc_server.specs.declared.door_end.DoorEnd.TheVariants as door
use Rattle.cdc_server.specs.declared.serve_end.FirstEnd.{FirstEnd}
use Rattle.cdc_server.specs.declared.serve_end.ServeEnd.TheVariants.{Done, Disk, Kept, Torn, Door, Salt}
use Rattle.cdc_server.specs.Ends.{cause_rank}
use Rattle.cdc_server.proofs.Posts.{rank_from}
use Rattle.cdc_server.specs.Server.{Post, EachNumbered, ServesDoors, RoseAt, IsSoAt, serve_end}

-- ---- the one of a place

-- one of numbered things, by its place among their ends
record PlacedAt {P : Type 0} (R : ℕ → P → Type 0) (ending : P → DoorEnd) (number : ℕ) (posts : List P) (count : ℕ) (one : DoorEnd) : Type 0 where
  pub front : List P
  pub post : P
  pub back : List P
  pub all : posts ≡ front ++ post ∷ back
  pub place : length front ≡ count
  pub is : R (number + count) post
  pub same : ending post ≡ one

placed : {P : Type 0} (R : ℕ → P → Type 0) (ending : P → DoorEnd) (number : ℕ) (posts : List P) (before behind : List DoorEnd) (one : DoorEnd) → EachNumbered R number posts
    → map ending posts ≡ before ++ one ∷ behind → PlacedAt R ending number posts (length before) one
placed R ending number [] [] behind one each e = absurd (let h = e in cc)
placed R ending number [] (b ∷ before) behind one each e = absurd (let h = e in cc)
placed R ending number (post ∷ posts) [] behind one each e = record {
  front = [];
  post = post;
  back = posts;
  all = refl;
  place = refl;
  is = (let same : number ≡ number + 0 = omega arith in subst (λ (n : ℕ). R n post) same each.0);
  same = (let h = e in cc);
}
placed R ending number (post ∷ posts) (b ∷ before) behind one each e =
    let rest : map ending posts ≡ before ++ one ∷ behind = (let h = e in cc) in
    let later = placed R ending (number + 1) posts before behind one each.1 rest in
    record {
      front = post ∷ later.front;
      post = later.post;
      back = later.back;
      all = ap (λ l. post ∷ l) later.all;
      place = ap (λ n. suc n) later.place;
      is = (let same : number + 1 + length before ≡ number + length (b ∷ before) = omega arith in subst (λ (n : ℕ). R n later.post) same later.is);
      same = later.same;
    }

index_of : {A : Type 0} (f : A → ℕ) (front : List A) (x : A) (back : List A) → slice_index (map f (front ++ x ∷ back)) (length front) ≡ f x
index_of f [] x back = refl
index_of f (y ∷ front) x back = index_of f front x back

map_split : {A B : Type 0} (f : A → B) (front : List A) (x : A) (back : List A) → map f (front ++ x ∷ back) ≡ map f front ++ f x ∷ map f back
map_split f [] x back = refl
map_split f (y ∷ front) x back = ap (λ l. f y ∷ l) (map_split f front x back)

map_twice : {A B C : Type 0} (f : B → C) (g : A → B) (xs : List A) → map f (map g xs) ≡ map (λ (x : A). f (g x)) xs
map_twice f g [] = refl
map_twice f g (x ∷ xs) = ap (λ l. f (g x) ∷ l) (map_twice f g xs)

length_of_map : {A B : Type 0} (f : A → B) (xs : List A) → length (map f xs) ≡ length xs
length_of_map f [] = refl
length_of_map f (x ∷ xs) = ap (λ n. suc n) (length_of_map f xs)

-- a count of the post at a place rose
rose_at : {P : Type 0} (before now : P → ℕ) (posts front : List P) (post : P) (back : List P) (count : ℕ) → posts ≡ front ++ post ∷ back → length front ≡ count → Rose (before post) (now post)
    → RoseAt (map before posts) (map now posts) (1 + count)
rose_at {P} before now posts front post back count all place rose =
    let total = length_of_map before posts in
    let shape = ap (λ (l : List P). length l) all in
    let sum = length-append front (post ∷ back) in
    let is : (1 + count) - 1 ≡ length front = omega (arith, place) in
    let was : slice_index (map before posts) ((1 + count) - 1) ≡ before post = ap (λ i. slice_index (map before posts) i) is ∙ ap (λ l. slice_index (map before l) (length front)) all
    ∙ index_of before front post back in
    let has : slice_index (map now posts) ((1 + count) - 1) ≡ now post = ap (λ i. slice_index (map now posts) i) is ∙ ap (λ l. slice_index (map now l) (length front)) all
    ∙ index_of now front post back in
    record {
      some = omega arith;
      there = omega (arith, total, shape, sum, place);
      rose = subst (λ (b : ℕ). Rose b (slice_index (map now posts) ((1 + count) - 1))) (sym was) (subst (λ (n : ℕ). Rose (before post) n) (sym has) rose);
    }

-- what is so of the post at a place
so_at : {P A : Type 0} (what : P → A) (is : A → Type 0) (posts front : List P) (post : P) (back : List P) (count : ℕ) → posts ≡ front ++ post ∷ back → length front ≡ count → is (what post)
    → IsSoAt is (map what posts) (1 + count)
so_at what is posts front post back count all place so = record {
  before = map what front;
  item = what post;
  behind = map what back;
  all = ap (λ l. map what l) all ∙ map_split what front post back;
  place = (let size = length_of_map what front in omega (arith, size, place));
  so = so;
}

-- ---- which end a server's end says

disk_end : (number : ℕ) (ending : DoorEnd) (out : ℕ) → serve_end number ending ≡ Disk out → (ending ≡ door.Disk) × (number ≡ out)
disk_end number door.Disk out e = (refl, (let h = e in cc))
disk_end number (door.Kept fault) out e = absurd (let h = e in cc)
disk_end number door.Torn out e = absurd (let h = e in cc)
disk_end number door.Memory out e = absurd (let h = e in cc)
disk_end number door.Door out e = absurd (let h = e in cc)
disk_end number door.Salt out e = absurd (let h = e in cc)
disk_end number door.Done out e = absurd (let h = e in cc)

kept_end : (number : ℕ) (ending : DoorEnd) (out : ℕ) (fault : OpenFault) → serve_end number ending ≡ Kept out fault → (ending ≡ door.Kept fault) × (number ≡ out)
kept_end number (door.Kept other) out fault e = (ap (λ (f : OpenFault). door.Kept f) (let h = e in cc), (let h = e in cc))
kept_end number door.Disk out fault e = absurd (let h = e in cc)
kept_end number door.Torn out fault e = absurd (let h = e in cc)
kept_end number door.Memory out fault e = absurd (let h = e in cc)
kept_end number door.Door out fault e = absurd (let h = e in cc)
kept_end number door.Salt out fault e = absurd (let h = e in cc)
kept_end number door.Done out fault e = absurd (let h = e in cc)

torn_end : (number : ℕ) (ending : DoorEnd) (out : ℕ) → serve_end number ending ≡ Torn out → (ending ≡ door.Torn) × (number ≡ out)
torn_end number door.Torn out e = (refl, (let h = e in cc))
torn_end number door.Disk out e = absurd (let h = e in cc)
torn_end number (door.Kept fault) out e = absurd (let h = e in cc)
torn_end number door.Memory out e = absurd (let h = e in cc)
torn_end number door.Door out e = absurd (let h = e in cc)
torn_end number door.Salt out e = absurd (let h = e in cc)
torn_end number door.Done out e = absurd (let h = e in cc)

door_end : (number : ℕ) (ending : DoorEnd) (out : ℕ) → serve_end number ending ≡ Door out → (ending ≡ door.Door) × (number ≡ out)
door_end number door.Door out e = (refl, (let h = e in cc))
door_end number door.Disk out e = absurd (let h = e in cc)
door_end number (door.Kept fault) out e = absurd (let h = e in cc)
door_end number door.Torn out e = absurd (let h = e in cc)
door_end number door.Memory out e = absurd (let h = e in cc)
door_end number door.Salt out e = absurd (let h = e in cc)
door_end number door.Done out e = absurd (let h = e in cc)

salt_end : (number : ℕ) (ending : DoorEnd) (out : ℕ) → serve_end number ending ≡ Salt out → (ending ≡ door.Salt) × (number ≡ out)
salt_end number door.Salt out e = (refl, (let h = e in cc))
salt_end number door.Disk out e = absurd (let h = e in cc)
salt_end number (door.Kept fault) out e = absurd (let h = e in cc)
salt_end number door.Torn out e = absurd (let h = e in cc)
salt_end number door.Memory out e = absurd (let h = e in cc)
salt_end number door.Door out e = absurd (let h = e in cc)
salt_end number door.Done out e = absurd (let h = e in cc)

done_end : (number : ℕ) (ending : DoorEnd) → serve_end number ending ≡ Done → ending ≡ door.Done
done_end number door.Done e = refl
done_end number door.Disk e = absurd (let h = e in cc)
done_end number (door.Kept fault) e = absurd (let h = e in cc)
done_end number door.Torn e = absurd (let h = e in cc)
done_end number door.Memory e = absurd (let h = e in cc)
done_end number door.Door e = absurd (let h = e in cc)
done_end number door.Salt e = absurd (let h = e in cc)

last_rank : (ending : DoorEnd) → 6 ≤ cause_rank ending → ending ≡ door.Done
last_rank door.Done less = refl
last_rank door.Disk less = absurd (omega (arith, less))
last_rank (door.Kept fault) less = absurd (omega (arith, less))
last_rank door.Torn less = absurd (omega (arith, less))
last_rank door.Memory less = absurd (omega (arith, less))
last_rank door.Door less = absurd (omega (arith, less))
last_rank door.Salt less = absurd (omega (arith, less))

-- ---- all doors

-- how a post was served, by its number
abbrev Laid : {D G Z : Type 0} → (ℕ → D → D → G → G → Z → Z → DoorEnd → Type 0) → ℕ → Post D G Z → Type 0
Laid serves n post = serves n post.shelf post.shelf_now post.door post.door_now post.salt post.salt_now post.ending

all_shut : {D G Z : Type 0} (serves : ℕ → D → D → G → G → Z → Z → DoorEnd → Type 0) (is : G → Type 0) → ((n : ℕ) (post : Post D G Z) → Laid serves n post → post.ending ≡ door.Done → is post.door_now) → (number : ℕ) (posts : List (Post D G Z)) → EachNumbered (Laid serves) number posts
    → ((ending : DoorEnd) → Contains (map (λ (p : Post D G Z). p.ending) posts) ending → 6 ≤ cause_rank ending) → AllByRecursion is (map (λ (p : Post D G Z). p.door_now) posts)
all_shut {D} {G} {Z} serves is law number [] each last = tt
all_shut {D} {G} {Z} serves is law number (post ∷ posts) each last = (
  law number post each.0
      (last_rank post.ending (last post.ending (Contains-append_left (post.ending ∷ []) (map (λ (p : Post D G Z). p.ending) posts) post.ending (Contains-push [] post.ending)))),
  all_shut serves is law (number + 1) posts each.1
      (λ ending there. last ending (Contains-append_right (post.ending ∷ []) (map (λ (p : Post D G Z). p.ending) posts) ending there)),
)

module _ {D G Z : Type 0} (serves : ℕ → D → D → G → G → Z → Z → DoorEnd → Type 0) {shelves shelves_now : List D} {doors doors_now : List G} {salts salts_now : List Z} {first : FirstEnd} where
  came_at : (s : ServesDoors serves 1 shelves shelves_now doors doors_now salts salts_now first)
      → PlacedAt (Laid serves) (λ (post : Post D G Z). post.ending) 1 s.posts (length s.first_end.before) first.ending
  came_at s = placed (Laid serves) (λ (post : Post D G Z). post.ending) 1 s.posts s.first_end.before s.first_end.behind first.ending s.each s.first_end.all

  count_came : (was now : Post D G Z → ℕ) (cause : DoorEnd) → ((n : ℕ) (post : Post D G Z) → Laid serves n post → post.ending ≡ cause → Rose (was post) (now post))
      → (s : ServesDoors serves 1 shelves shelves_now doors doors_now salts salts_now first) → first.ending ≡ cause → RoseAt (map was s.posts) (map now s.posts) first.door
  count_came was now cause law s e =
      let at = came_at s in
      let rose = law (1 + length s.first_end.before) at.post at.is (at.same ∙ e) in
      subst (λ (n : ℕ). RoseAt (map was s.posts) (map now s.posts) n) (sym s.first_end.door) (rose_at was now s.posts at.front at.post at.back (length s.first_end.before) at.all at.place rose)

  pub disk_told : (faults : D → ℕ) → ((n : ℕ) (post : Post D G Z) → serves n post.shelf post.shelf_now post.door post.door_now post.salt post.salt_now post.ending → post.ending ≡ door.Disk → Rose (faults post.shelf) (faults post.shelf_now))
      → ServesDoors serves 1 shelves shelves_now doors doors_now salts salts_now first → (out : ℕ) → serve_end first.door first.ending ≡ Disk out → RoseAt (map faults shelves) (map faults shelves_now) out
  disk_told faults law s out e =
      let end = disk_end first.door first.ending out e in
      let came = count_came (λ (p : Post D G Z). faults p.shelf) (λ (p : Post D G Z). faults p.shelf_now) door.Disk law s end.0 in
      let was = ap (λ l. map faults l) s.shelves_are ∙ map_twice faults (λ (p : Post D G Z). p.shelf) s.posts in
      let now = ap (λ l. map faults l) s.shelves_now_are ∙ map_twice faults (λ (p : Post D G Z). p.shelf_now) s.posts in
      subst (λ (n : ℕ). RoseAt (map faults shelves) (map faults shelves_now) n) end.1
      (subst (λ (l : List ℕ). RoseAt l (map faults shelves_now) first.door) (sym was) (subst (λ (l : List ℕ). RoseAt (map (λ (p : Post D G Z). faults p.shelf) s.posts) l first.door) (sym now) came))

  pub door_told : (faults : G → ℕ) → ((n : ℕ) (post : Post D G Z) → serves n post.shelf post.shelf_now post.door post.door_now post.salt post.salt_now post.ending → post.ending ≡ door.Door → Rose (faults post.door) (faults post.door_now))
      → ServesDoors serves 1 shelves shelves_now doors doors_now salts salts_now first → (out : ℕ) → serve_end first.door first.ending ≡ Door out → RoseAt (map faults doors) (map faults doors_now) out
  door_told faults law s out e =
      let end = door_end first.door first.ending out e in
      let came = count_came (λ (p : Post D G Z). faults p.door) (λ (p : Post D G Z). faults p.door_now) door.Door law s end.0 in
      let was = ap (λ l. map faults l) s.doors_are ∙ map_twice faults (λ (p : Post D G Z). p.door) s.posts in
      let now = ap (λ l. map faults l) s.doors_now_are ∙ map_twice faults (λ (p : Post D G Z). p.door_now) s.posts in
      subst (λ (n : ℕ). RoseAt (map faults doors) (map faults doors_now) n) end.1
      (subst (λ (l : List ℕ). RoseAt l (map faults doors_now) first.door) (sym was) (subst (λ (l : List ℕ). RoseAt (map (λ (p : Post D G Z). faults p.door) s.posts) l first.door) (sym now) came))

  pub salt_told : (faults : Z → ℕ) → ((n : ℕ) (post : Post D G Z) → serves n post.shelf post.shelf_now post.door post.door_now post.salt post.salt_now post.ending → post.ending ≡ door.Salt → Rose (faults post.salt) (faults post.salt_now))
      → ServesDoors serves 1 shelves shelves_now doors doors_now salts salts_now first → (out : ℕ) → serve_end first.door first.ending ≡ Salt out → RoseAt (map faults salts) (map faults salts_now) out
  salt_told faults law s out e =
      let end = salt_end first.door first.ending out e in
      let came = count_came (λ (p : Post D G Z). faults p.salt) (λ (p : Post D G Z). faults p.salt_now) door.Salt law s end.0 in
      let was = ap (λ l. map faults l) s.salts_are ∙ map_twice faults (λ (p : Post D G Z). p.salt) s.posts in
      let now = ap (λ l. map faults l) s.salts_now_are ∙ map_twice faults (λ (p : Post D G Z). p.salt_now) s.posts in
      subst (λ (n : ℕ). RoseAt (map faults salts) (map faults salts_now) n) end.1
      (subst (λ (l : List ℕ). RoseAt l (map faults salts_now) first.door) (sym was) (subst (λ (l : List ℕ). RoseAt (map (λ (p : Post D G Z). faults p.salt) s.posts) l first.door) (sym now) came))

  shelf_came : {A : Type 0} (seen : D → A) (is : A → Type 0) (cause : DoorEnd)
      → ((n : ℕ) (post : Post D G Z) → Laid serves n post → post.ending ≡ cause → is (seen post.shelf))
      → ServesDoors serves 1 shelves shelves_now doors doors_now salts salts_now first → first.ending ≡ cause → IsSoAt is (map seen shelves) first.door
  shelf_came {A} seen is cause law s e =
      let at = came_at s in
      let so = law (1 + length s.first_end.before) at.post at.is (at.same ∙ e) in
      let was = ap (λ l. map seen l) s.shelves_are ∙ map_twice seen (λ (p : Post D G Z). p.shelf) s.posts in
      subst (λ (l : List A). IsSoAt is l first.door) (sym was)
      (subst (λ (n : ℕ). IsSoAt is (map (λ (p : Post D G Z). seen p.shelf) s.posts) n) (sym s.first_end.door)
      (so_at (λ (p : Post D G Z). seen p.shelf) is s.posts at.front at.post at.back (length s.first_end.before) at.all at.place so))

  pub kept_told : {A : Type 0} (seen : D → A) (is : A → Type 0) (fault : OpenFault)
      → ((n : ℕ) (post : Post D G Z) → serves n post.shelf post.shelf_now post.door post.door_now post.salt post.salt_now post.ending → post.ending ≡ door.Kept fault → is (seen post.shelf))
      → ServesDoors serves 1 shelves shelves_now doors doors_now salts salts_now first → (out : ℕ) → serve_end first.door first.ending ≡ Kept out fault → IsSoAt is (map seen shelves) out
  kept_told seen is fault law s out e =
      let end = kept_end first.door first.ending out fault e in
      subst (λ (n : ℕ). IsSoAt is (map seen shelves) n) end.1 (shelf_came seen is (door.Kept fault) law s end.0)

  pub torn_told : {A : Type 0} (seen : D → A) (is : A → Type 0)
      → ((n : ℕ) (post : Post D G Z) → serves n post.shelf post.shelf_now post.door post.door_now post.salt post.salt_now post.ending → post.ending ≡ door.Torn → is (seen post.shelf))
      → ServesDoors serves 1 shelves shelves_now doors doors_now salts salts_now first → (out : ℕ) → serve_end first.door first.ending ≡ Torn out → IsSoAt is (map seen shelves) out
  torn_told seen is law s out e =
      let end = torn_end first.door first.ending out e in
      subst (λ (n : ℕ). IsSoAt is (map seen shelves) n) end.1 (shelf_came seen is door.Torn law s end.0)

  pub done_told : (is : G → Type 0) → ((n : ℕ) (post : Post D G Z) → serves n post.shelf post.shelf_now post.door post.door_now post.salt post.salt_now post.ending → post.ending ≡ door.Done → is post.door_now)
      → ServesDoors serves 1 shelves shelves_now doors doors_now salts salts_now first → serve_end first.door first.ending ≡ Done → AllByRecursion is doors_now
  done_told is law s e =
      let end = done_end first.door first.ending e in
      subst (λ (l : List G). AllByRecursion is l) (sym s.doors_now_are)
      (all_shut serves is law 1 s.posts s.each
      (λ ending there. subst (λ (c : DoorEnd). cause_rank c ≤ cause_rank ending) end (rank_from 1 (map (λ (p : Post D G Z). p.ending) s.posts) first s.first_end ending there)))
