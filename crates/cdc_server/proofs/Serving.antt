-- How links and doors are served, put together.
use Rattle.std.proofs.Common.{◌≡◌, ℕ, ◌≤◌, List, [], ◌∷◌, ◌++◌, length, map, refl, sym, ◌∙◌, ap, subst, append_assoc, append-nil, arith, suc}
use Rattle.std.proofs.lemmas.Bool.Decides.{nat_tests}
use Rattle.std.proofs.lemmas.List.{map-append, flat_map_more}
use Rattle.std.specs.Prelude.{true, false, ◌==◌, Option, Some, IfSome}
use Rattle.cdc_outside.specs.Door.{IsFresh}
use Rattle.std.specs.List.{flat_map, Contains}
use Rattle.cdc_outside.specs.Count.{Rose}
use Rattle.cdc_base.specs.declared.user.User.{User}
use Rattle.cdc_outside.specs.Link.{Served}
use Rattle.cdc_session.specs.Shelf.{Shelf}
use Rattle.cdc_server.specs.declared.link_end.LinkEnd.{LinkEnd}
use Rattle.cdc_server.specs.Links.{DrawList, FollowsOpen, FollowsUser, FollowsLink, Drew, Visit, IsServed, AreServed, ServesLinks}
use Rattle.cdc_server.specs.Ends.{IsCaused}
use Rattle.cdc_dumper.specs.declared.fault.OpenFault.{OpenFault}

some_user : (user : User) (users : List User) → (length (user ∷ users) == 0) ≡ true → ⊥
some_user user users e = (let none : suc (length users) ≡ 0 = grind (arith, nat_tests, e) in omega arith)

no_user : (length {A = User} [] == 0) ≡ false → ⊥
no_user e = cc

-- a link without users
pub open_is : (users : List User) (door : ℕ) (shelf : Shelf) (input before now : List ℕ) (ending : LinkEnd) → (length users == 0) ≡ true → FollowsOpen shelf input before now ending
    → FollowsLink users door shelf [] input before now ending
open_is [] door shelf input before now ending e h = (refl, h)
open_is (user ∷ users) door shelf input before now ending e h = absurd (some_user user users e)

-- a link with users
pub user_is : (users : List User) (door : ℕ) (shelf : Shelf) (draws : DrawList) (input before now : List ℕ) (ending : LinkEnd) → (length users == 0) ≡ false → FollowsUser users door shelf draws input before now ending
    → FollowsLink users door shelf draws input before now ending
user_is [] door shelf draws input before now ending e h = absurd (no_user e)
user_is (user ∷ users) door shelf draws input before now ending e h = h

-- nothing was drawn
pub none_drawn : {S : Type 0} (drawn : S → DrawList → Type 0) (salt : S) → Drew drawn salt [] salt
none_drawn drawn salt answers h = subst (λ l. drawn salt l) (sym (append-nil answers)) h

-- draws behind others
pub drew_more : {S : Type 0} (drawn : S → DrawList → Type 0) (before mid now : S) (draws more : DrawList) → Drew drawn before draws mid → Drew drawn mid more now → Drew drawn before (draws ++ more) now
drew_more drawn before mid now draws more a b answers h = subst (λ l. drawn now l) (append_assoc answers draws more) (b (answers ++ draws) (a answers h))

-- one link more
served_more : (users : List User) (door : ℕ) (shelf : Shelf) (visits : List Visit) (entries : List Served) (visit : Visit) (entry : Served) → AreServed users door shelf visits entries
    → IsServed users door shelf visit entry → AreServed users door shelf (visits ++ visit ∷ []) (entries ++ entry ∷ [])
served_more users door shelf [] [] visit entry all one = (one, tt)
served_more users door shelf [] (other ∷ entries) visit entry all one = absurd all
served_more users door shelf (first ∷ visits) [] visit entry all one = absurd all
served_more users door shelf (first ∷ visits) (other ∷ entries) visit entry all one = (all.0, served_more users door shelf visits entries visit entry all.1 one)

-- what was drawn for links and one more
pub draws_more : (visits : List Visit) (visit : Visit) → flat_map (λ (v : Visit). v.draws) (visits ++ visit ∷ []) ≡ flat_map (λ (v : Visit). v.draws) visits ++ visit.draws
draws_more visits visit = sym (flat_map_more (λ (v : Visit). v.draws) [] visits visit)

-- a door that has given no link yet
pub links_start : (users : List User) (door : ℕ) (shelf : Shelf) (handed : List (List ℕ)) (served : List Served) → ServesLinks users door shelf [] handed served handed served
links_start users door shelf handed served = record { entries = []; each = tt; given = sym (append-nil handed); back = sym (append-nil served) }

-- one link more of a door
pub links_more : {users : List User} {door : ℕ} {shelf : Shelf} {visits : List Visit} {handed handed_now : List (List ℕ)} {served served_now : List Served} (visit : Visit) (entry : Served)
    (given : List (List ℕ)) (back : List Served) → ServesLinks users door shelf visits handed served handed_now served_now → IsServed users door shelf visit entry
    → given ≡ handed_now ++ entry.input ∷ [] → back ≡ served_now ++ entry ∷ [] → ServesLinks users door shelf (visits ++ visit ∷ []) handed served given back
links_more {users} {door} {shelf} {visits} {handed} {handed_now} {served} {served_now} visit entry given back s one g b = record {
  entries = s.entries ++ entry ∷ [];
  each = served_more users door shelf visits s.entries visit entry s.each one;
  given = g ∙ ap (λ (l : List (List ℕ)). l ++ entry.input ∷ []) s.given ∙ append_assoc handed (map (λ (e : Served). e.input) s.entries) (entry.input ∷ [])
      ∙ ap (λ (l : List (List ℕ)). handed ++ l) (sym (map-append (λ (e : Served). e.input) s.entries (entry ∷ [])));
  back = b ∙ ap (λ (l : List Served). l ++ entry ∷ []) s.back ∙ append_assoc served s.entries (entry ∷ []);
}

-- a door that gave no link
pub links_as : {users : List User} {door : ℕ} {shelf : Shelf} {visits : List Visit} {handed handed_now : List (List ℕ)} {served served_now : List Served} (given : List (List ℕ)) (back : List Served)
    → ServesLinks users door shelf visits handed served handed_now served_now → given ≡ handed_now → back ≡ served_now → ServesLinks users door shelf visits handed served given back
links_as {users} {door} {shelf} {visits} {handed} {handed_now} {served} {served_now} given back s g b = record { entries = s.entries; each = s.each; given = g ∙ s.given; back = b ∙ s.back }

-- what stood behind a link's end stands behind it later too
pub caused_later : {ending : LinkEnd} {disk disk_now : Type 0} {refused : OpenFault → Type 0} {torn salt salt_now : Type 0} → (disk → disk_now) → (salt → salt_now)
    → IsCaused ending disk refused torn salt → IsCaused ending disk_now refused torn salt_now
caused_later d z c = record { by_disk = λ e. d (c.by_disk e); by_output = c.by_output; by_file = c.by_file; by_salt = λ e. z (c.by_salt e) }

-- what a door says of the link that it gave
pub given_link : {L : Type 0} (input left written : L → List ℕ) (faults : L → ℕ) (before now : List (List ℕ)) (given : Option L) (link : L) → given ≡ Some link
    → IfSome given (λ l. IsFresh (input l) (left l) (written l) (faults l) × (now ≡ before ++ input l ∷ []))
    → IsFresh (input link) (left link) (written link) (faults link) × (now ≡ before ++ input link ∷ [])
given_link input left written faults before now given link is h = subst (λ o. IfSome o (λ l. IsFresh (input l) (left l) (written l) (faults l) × (now ≡ before ++ input l ∷ []))) is h

-- no link yet
pub no_visit : (visit : Visit) → Contains [] visit → ⊥
no_visit visit there = (let no = there.1 in omega (arith, no))

-- a count that rose has risen later too
pub rose_later : (before now later : ℕ) → Rose before now → now ≤ later → Rose before later
rose_later before now later rose more = omega (arith, rose, more)

-- a count that rose has risen since before too
pub rose_since : (before mid now : ℕ) → before ≤ mid → Rose mid now → Rose before now
rose_since before mid now less rose = omega (arith, less, rose)

-- a fresh link's, from its first byte on
pub link_from : {left input before : List ℕ} (users : List User) (door : ℕ) (shelf : Shelf) (draws : DrawList) (now : List ℕ) (ending : LinkEnd) → left ≡ input → before ≡ []
    → FollowsLink users door shelf draws left before now ending → FollowsLink users door shelf draws input [] now ending
link_from {left} {input} {before} users door shelf draws now ending e none h =
    subst (λ b. FollowsLink users door shelf draws input b now ending) none (subst (λ i. FollowsLink users door shelf draws i before now ending) e h)
