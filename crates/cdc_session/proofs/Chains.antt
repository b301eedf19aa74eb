-- The events of a published file, one after another.
use Rattle.std.proofs.Common.{◌≡◌, ℕ, zero, suc, ◌+◌, ◌-◌, ◌<◌, ◌≤◌, ◌⊎◌, inl, inr, List, [], ◌∷◌, ◌++◌, length, take, drop, map, refl, sym, ◌∙◌, ap, arith, lt-ltb, le-ltb, length-drop, length-take, append_assoc}
use Rattle.std.specs.Prelude.{Bool, true, false, ◌==◌, ◌||◌, ◌&&◌, nat_le, nat_lt}
use Rattle.std.specs.Str.{bytes_eq}
use Rattle.std.proofs.Math.Seq.{take-add}
use Rattle.std.proofs.lemmas.List.{drop-drop, drop-take, take-take, take_all, take_min, length-take-le, map-append}
use Rattle.std.proofs.lemmas.Bool.{leb-true}
use Rattle.std.proofs.Math.Bool.{and-false}
use Rattle.std.proofs.lemmas.Bool.Decides.{eqb_tells}
use Rattle.cdc_outside.specs.Disk.{Image}
use Rattle.cdc_outside.specs.declared.disk_file.DiskFile.TheVariants.{Log}
use Rattle.cdc_event.specs.Number.{number_of}
use Rattle.cdc_event.specs.Event.{magic}
use Rattle.cdc_records.specs.declared.front.Front.{Front}
use Rattle.cdc_records.specs.Published.{published_file}
use Rattle.cdc_index.specs.Chain.{told_length, begins_event, is_chain, chained_events, ends_at, is_whole_file, is_boundary_of}
use Rattle.cdc_index.proofs.ChainLemmas.{Steps, event_steps, no_event, misfits, too_short, chain_ends}
use Rattle.cdc_index.proofs.Windows.{short_front}
use Rattle.cdc_model.specs.Transaction.{numbers_from}
use Rattle.cdc_dumper.specs.Opening.{IsFound}
use Rattle.cdc_session.specs.Shelf.{HasTornFile, file_at, files_on}
use Rattle.cdc_session.specs.Dump.{as_payloads, events_from, first_event, without_place, file_part, whole_payloads, are_whole}
use Rattle.cdc_session.proofs.Names.{files_here}
use Rattle.cdc_session.proofs.Views.{inside}
use Rattle.cdc_session.proofs.Choices.{chosen, left_out, both}

-- what is left of a file's front
pub rest_is : (file : List ℕ) (limit place : ℕ) → place ≤ limit → drop place (take limit file) ≡ take (limit - place) (drop place file)
rest_is file limit place h =
    let more : limit ≡ place + (limit - place) = omega (arith, h) in
    ap (λ n. drop place (take n file)) more ∙ drop-take place (limit - place) file

-- how much it is
pub rest_size : (file : List ℕ) (limit place : ℕ) → limit ≤ length file → length (drop place (take limit file)) ≡ limit - place
rest_size file limit place within =
    let all = length-take-le limit file within in
    let less = length-drop place (take limit file) in
    omega (arith, all, less)

-- a place where no whole event stands is in no chain
pub short_rest : (file : List ℕ) (limit place : ℕ) → limit ≤ length file → place < limit → limit - place < 19 → is_chain (drop place (take limit file)) ≡ true → ⊥
short_rest file limit place within more few chain =
    let size = rest_size file limit place within in
    let rest : List ℕ = drop place (take limit file) in
    let stops = no_event rest (omega (arith, size, more)) (too_short rest (omega (arith, size, few))) in
    (let a = chain in cc)

pub misfit_rest : (file : List ℕ) (limit place size : ℕ) → limit ≤ length file → place < limit → size ≡ told_length (drop place (take limit file))
    → (19 ≤ size → size ≤ limit - place → ⊥) → is_chain (drop place (take limit file)) ≡ true → ⊥
misfit_rest file limit place size within more told h chain =
    let all = rest_size file limit place within in
    let rest : List ℕ = drop place (take limit file) in
    let stops = no_event rest (omega (arith, all, more)) (misfits rest size told (λ low high. h low (omega (arith, high, all)))) in
    (let a = chain in cc)

-- the length that a header tells
pub header_told : (file window : List ℕ) (at place limit : ℕ) → place + 19 ≤ limit → take 19 (drop at window) ≡ take 19 (drop place file)
    → number_of (take 4 (drop (at + 9) window)) ≡ told_length (drop place (take limit file))
header_told file window at place limit room same =
    let bytes : take 4 (drop (at + 9) window) ≡ take 4 (drop 9 (drop place (take limit file))) =
    ap (λ l. take 4 l) (sym (drop-drop 9 at window))
    ∙ sym (inside 9 4 19 (drop at window) (omega arith))
    ∙ ap (λ l. take 4 (drop 9 l)) same
    ∙ inside 9 4 19 (drop place file) (omega arith)
    ∙ sym (inside 9 4 (limit - place) (drop place file) (omega (arith, room)))
    ∙ ap (λ l. take 4 (drop 9 l)) (sym (rest_is file limit place (omega (arith, room)))) in
    ap number_of bytes

-- an event's bytes are those of the file
pub event_is : (file : List ℕ) (limit place size : ℕ) → place + size ≤ limit → take size (drop place file) ≡ take size (drop place (take limit file))
event_is file limit place size room =
    sym (ap (λ l. take size l) (rest_is file limit place (omega (arith, room))) ∙ take-take size (limit - place) (drop place file) (omega (arith, room)))

-- the event at a place, and those behind it
pub steps_here : (file : List ℕ) (limit place size : ℕ) → limit ≤ length file → size ≡ told_length (drop place (take limit file)) → 19 ≤ size → place + size ≤ limit
    → Steps (drop place (take limit file)) size
steps_here file limit place size within told least most =
    let all = rest_size file limit place within in
    event_steps (drop place (take limit file)) size told least (omega (arith, all, most))

pub payloads_here : (file : List ℕ) (limit place size : ℕ) → limit ≤ length file → size ≡ told_length (drop place (take limit file)) → 19 ≤ size → place + size ≤ limit
    → as_payloads (events_from place (take limit file)) ≡ (0 ∷ take size (drop place (take limit file))) ∷ as_payloads (events_from (place + size) (take limit file))
payloads_here file limit place size within told least most =
    let s = steps_here file limit place size within told least most in
    ap as_payloads s.events
    ∙ ap (λ l. (0 ∷ take size (drop place (take limit file))) ∷ as_payloads (chained_events l)) (drop-drop size place (take limit file))

pub chain_on : (file : List ℕ) (limit place size : ℕ) → limit ≤ length file → size ≡ told_length (drop place (take limit file)) → 19 ≤ size → place + size ≤ limit
    → is_chain (drop place (take limit file)) ≡ true → is_chain (drop (place + size) (take limit file)) ≡ true
chain_on file limit place size within told least most chain =
    let s = steps_here file limit place size within told least most in
    ap is_chain (sym (drop-drop size place (take limit file))) ∙ sym s.chain ∙ chain

-- no event is behind the end
pub none_left : (file : List ℕ) (limit place : ℕ) → limit ≤ length file → limit ≤ place → as_payloads (events_from place (take limit file)) ≡ []
none_left file limit place within over =
    let all = rest_size file limit place within in
    let ends = chain_ends (drop place (take limit file)) (omega (arith, all, over)) in
    ap as_payloads ends.1

-- the first event without its place: the header without it, and the rest
pub without_rest : (bytes : List ℕ) (size : ℕ) → 19 ≤ size → size ≤ length bytes → without_place (take size bytes) ≡ without_place (take 19 bytes) ++ take (size - 19) (drop 19 bytes)
without_rest bytes size least most =
    let front : take 13 (take size bytes) ≡ take 13 (take 19 bytes) = take-take 13 size bytes (omega (arith, least)) ∙ sym (take-take 13 19 bytes (omega arith)) in
    let more : size ≡ 17 + (2 + (size - 19)) = omega (arith, least) in
    let behind : drop 17 (take size bytes) ≡ drop 17 (take 19 bytes) ++ take (size - 19) (drop 19 bytes) =
    ap (λ n. drop 17 (take n bytes)) more
    ∙ drop-take 17 (2 + (size - 19)) bytes
    ∙ take-add 2 (size - 19) (drop 17 bytes)
    ∙ (λ i. sym (drop-take 17 2 bytes) i ++ take (size - 19) (drop-drop 2 17 bytes i)) in
    (λ i. front i ++ (0 ∷ 0 ∷ 0 ∷ 0 ∷ behind i))
    ∙ sym (append_assoc (take 13 (take 19 bytes)) (0 ∷ 0 ∷ 0 ∷ 0 ∷ drop 17 (take 19 bytes)) (take (size - 19) (drop 19 bytes)))

-- the payload of the first event
pub first_payload : (file lead : List ℕ) (limit size : ℕ) → limit ≤ length file → 19 ≤ size → 4 + size ≤ limit → lead ≡ 0 ∷ without_place (take 19 (drop 4 file))
    → lead ++ take (size - 19) (drop 23 file) ≡ 0 ∷ without_place (take size (drop 4 (take limit file)))
first_payload file lead limit size within least most lead_is =
    let less = length-drop 4 file in
    let event : without_place (take size (drop 4 file)) ≡ without_place (take 19 (drop 4 file)) ++ take (size - 19) (drop 19 (drop 4 file)) =
    without_rest (drop 4 file) size least (omega (arith, less, within, most)) in
    ap (λ l. l ++ take (size - 19) (drop 23 file)) lead_is
    ∙ ap (λ l. 0 ∷ (without_place (take 19 (drop 4 file)) ++ take (size - 19) l)) (sym (drop-drop 19 4 file))
    ∙ ap (λ l. 0 ∷ l) (sym event)
    ∙ ap (λ l. 0 ∷ without_place l) (event_is file limit 4 size most)

-- the first event alone
pub first_alone : (file : List ℕ) (limit size : ℕ) → limit ≤ length file → size ≡ told_length (drop 4 (take limit file)) → 19 ≤ size → 4 + size ≤ limit
    → as_payloads (map without_place (take 1 (events_from 4 (take limit file)))) ≡ (0 ∷ without_place (take size (drop 4 (take limit file)))) ∷ []
first_alone file limit size within told least most =
    let s = steps_here file limit 4 size within told least most in
    ap (λ events. as_payloads (map without_place (take 1 events))) s.events

-- ---- what is published of a file

-- so many bytes are there, and they are what is published
pub record IsPublished (f : Front) (image : Image) (number limit : ℕ) : Type 0 where
  pub within : limit ≤ length (image (Log number))
  pub same : take limit (image (Log number)) ≡ published_file f image number

pub published_is : (f : Front) (image : Image) (number limit : ℕ) → limit ≡ length (published_file f image number) → IsPublished f image number limit
published_is f image number limit e =
    let whole : List ℕ = image (Log number) in
    elim (both (number == f.file)) [
      | inl test ↦
          let part : published_file f image number ≡ take f.length whole = chosen (number == f.file) (take f.length whole) whole test in
          let size : limit ≡ length (take f.length whole) = e ∙ ap (λ l. length l) part in
          let short = length-take f.length whole in
          record { within = omega (arith, size, short); same = ap (λ n. take n whole) size ∙ take_its f.length whole ∙ sym part }
      | inr test ↦
          let all : published_file f image number ≡ whole = left_out (number == f.file) (take f.length whole) whole test in
          let size : limit ≡ length whole = e ∙ ap (λ l. length l) all in
          record { within = omega (arith, size); same = ap (λ n. take n whole) size ∙ take_all (length whole) whole (omega arith) ∙ sym all }
    ]
  where
    take_its : (n : ℕ) (xs : List ℕ) → take (length (take n xs)) xs ≡ take n xs
    take_its n xs = ap (λ k. take k xs) (length-take n xs) ∙ take_min n xs

-- ---- whole files and boundaries

passed : (a b : Bool) → (a && b) ≡ true → (a ≡ true) × (b ≡ true)
passed true b e = (refl, e)
passed false b e = absurd (let h = e in cc)

either : (a b : Bool) → (a || b) ≡ true → (a ≡ true) ⊎ (b ≡ true)
either true b e = inl refl
either false b e = inr e

le_or : (a b : ℕ) → (a ≤ b) ⊎ (b < a)
le_or a b = grind arith

-- a whole file has the magic, and a chain behind it
pub record IsWhole (bytes : List ℕ) : Type 0 where
  pub long : 4 ≤ length bytes
  pub chain : is_chain (drop 4 bytes) ≡ true

pub whole_is : (bytes : List ℕ) → is_whole_file bytes ≡ true → IsWhole bytes
whole_is bytes e =
    let tests = passed (bytes_eq (take 4 bytes) magic) (is_chain (drop 4 bytes)) e in
    record {
      long = elim (le_or 4 (length bytes)) [
        | inl long ↦ long
        | inr few ↦ absurd (let short = short_front bytes few in let test = tests.0 in cc)
      ];
      chain = tests.1;
    }

-- a boundary in a chain is an event's end, and what is behind it is a chain
pub record EndsEvent (bytes : List ℕ) (at place : ℕ) : Type 0 where
  pub more : ℕ
  pub at_is : at ≡ place + more
  pub within : more ≤ length bytes
  pub some : 0 < length bytes
  pub chain : is_chain (drop more bytes) ≡ true

ends_by : (most : ℕ) (bytes : List ℕ) (at place : ℕ) → length bytes ≤ most → is_chain bytes ≡ true → ends_at at place (chained_events bytes) ≡ true → EndsEvent bytes at place
ends_by most [] at place h chain e =
    let none = chain_ends [] refl in
    let other : false ≡ true = sym (ap (λ events. ends_at at place events) none.1) ∙ e in
    absurd (let o = other in cc)
ends_by zero (byte ∷ bytes) at place h chain e = absurd (omega (arith, h))
ends_by (suc most) (byte ∷ bytes) at place h chain e =
    let all : List ℕ = byte ∷ bytes in
    elim (both (begins_event all)) [
      | inr test ↦ absurd (let stops = no_event all (omega arith) test in let a = chain in cc)
      | inl test ↦
          let size : ℕ = told_length all in
          let tests = passed (nat_le 19 size) (nat_le size (length all)) test in
          let least : 19 ≤ size = leb-true 19 size tests.0 in
          let within : size ≤ length all = leb-true size (length all) tests.1 in
          let s = event_steps all size refl least within in
          let less = length-drop size all in
          let sized = s.sized in
          let rest_chain : is_chain (drop size all) ≡ true = sym s.chain ∙ chain in
          let now : ((place + length (take size all) == at) || ends_at at (place + length (take size all)) (chained_events (drop size all))) ≡ true =
          sym (ap (λ events. ends_at at place events) s.events) ∙ e in
          elim (either _ _ now) [
            | inl here ↦ record { more = size; at_is = (let same = eq-of (place + length (take size all)) at here in omega (arith, same, sized)); within = within; some = omega arith; chain = rest_chain }
            | inr later ↦
                let next = ends_by most (drop size all) at (place + length (take size all)) (omega (arith, less, h, least)) rest_chain later in
                let at_next = next.at_is in
                let room = next.within in
                record {
                  more = size + next.more;
                  at_is = omega (arith, at_next, sized);
                  within = omega (arith, room, less, within);
                  some = omega arith;
                  chain = ap is_chain (sym (drop-drop next.more size all)) ∙ next.chain;
                }
          ]
    ]
  where
    eq-of : (a b : ℕ) → (a == b) ≡ true → a ≡ b
    eq-of a b e = elim (eqb_tells a b) [
      | inl same ↦ same.1
      | inr other ↦ absurd (let o = other.0 in let h = e in cc)
    ]

-- what is behind a boundary of a whole file
pub record IsBehind (bytes : List ℕ) (at : ℕ) : Type 0 where
  pub within : at ≤ length bytes
  pub chain : is_chain (drop at bytes) ≡ true

pub boundary_is : (bytes : List ℕ) (at : ℕ) → is_whole_file bytes ≡ true → is_boundary_of bytes at ≡ true → IsBehind bytes at
boundary_is bytes at whole e =
    let w = whole_is bytes whole in
    elim (either _ _ e) [
      | inl first ↦
          let same : at ≡ 4 = is at 4 first in
          record { within = (let long = w.long in omega (arith, same, long)); chain = ap (λ n. is_chain (drop n bytes)) same ∙ w.chain }
      | inr later ↦
          let ends = ends_by (length (drop 4 bytes)) (drop 4 bytes) at 4 (omega arith) w.chain later in
          let at_is = ends.at_is in
          let room = ends.within in
          let less = length-drop 4 bytes in
          record {
            within = (let long = w.long in omega (arith, at_is, room, less, long));
            chain = ap (λ n. is_chain (drop n bytes)) at_is ∙ ap is_chain (sym (drop-drop ends.more 4 bytes)) ∙ ends.chain;
          }
    ]
  where
    is : (a b : ℕ) → (a == b) ≡ true → a ≡ b
    is a b e = elim (eqb_tells a b) [
      | inl same ↦ same.1
      | inr other ↦ absurd (let o = other.0 in let h = e in cc)
    ]

-- ---- parts of a file

-- at its beginning no event stands before the place
pub no_first : (at : ℕ) (bytes : List ℕ) → at ≤ 4 → first_event at bytes ≡ []
no_first at bytes h = left_out (nat_lt 4 at) (map without_place (take 1 (events_from 4 bytes))) [] (le-ltb 4 at h)

-- further on its first event does
pub some_first : (at : ℕ) (bytes : List ℕ) → 4 < at
    → as_payloads (first_event at bytes ++ events_from at bytes) ≡ as_payloads (map without_place (take 1 (events_from 4 bytes))) ++ as_payloads (events_from at bytes)
some_first at bytes h =
    ap (λ events. as_payloads (events ++ events_from at bytes)) (chosen (nat_lt 4 at) (map without_place (take 1 (events_from 4 bytes))) [] (lt-ltb 4 at h))
    ∙ map-append (λ event. 0 ∷ event) (map without_place (take 1 (events_from 4 bytes))) (events_from at bytes)

-- a zero and a header without its place, put together from its parts
pub lead_is : (p1 p2 p3 p4 header b d : List ℕ) → length p4 ≡ 20 → length header ≡ 19 → b ≡ take 13 header → d ≡ drop 17 header → take 1 p1 ≡ 0 ∷ []
    → take (1 + length b) p2 ≡ take 1 p1 ++ b → take 18 p3 ≡ take 14 p2 ++ (0 ∷ 0 ∷ 0 ∷ 0 ∷ []) → take (18 + length d) p4 ≡ take 18 p3 ++ d
    → p4 ≡ 0 ∷ without_place header
lead_is p1 p2 p3 p4 header b d twenty nineteen b_is d_is e1 e2 e3 e4 =
    let b_size : length b ≡ 13 = ap (λ l. length l) b_is ∙ length-take-le 13 header (omega (arith, nineteen)) in
    let less = length-drop 17 header in
    let d_size : length d ≡ 2 = ap (λ l. length l) d_is ∙ omega (arith, less, nineteen) in
    let front : take 14 p2 ≡ 0 ∷ b = ap (λ n. take (1 + n) p2) (sym b_size) ∙ e2 ∙ ap (λ l. l ++ b) e1 in
    let middle : take 18 p3 ≡ (0 ∷ b) ++ (0 ∷ 0 ∷ 0 ∷ 0 ∷ []) = e3 ∙ ap (λ l. l ++ (0 ∷ 0 ∷ 0 ∷ 0 ∷ [])) front in
    sym (take_all 20 p4 (omega (arith, twenty)))
    ∙ ap (λ n. take (18 + n) p4) (sym d_size) ∙ e4 ∙ ap (λ l. l ++ d) middle
    ∙ append_assoc (0 ∷ b) (0 ∷ 0 ∷ 0 ∷ 0 ∷ []) d
    ∙ (λ i. 0 ∷ (b_is i ++ (0 ∷ 0 ∷ 0 ∷ 0 ∷ d_is i)))

-- ---- whole files one after another

-- the file behind one, and those behind it
pub are_whole_here : (f : Front) (image : Image) (number : ℕ) (b : Bool) → number ≤ f.file → is_whole_file (published_file f image number) ≡ b
    → are_whole (files_on f image number) ≡ (b && are_whole (files_on f image (number + 1)))
are_whole_here f image number b h e = ap are_whole (files_here f image number h) ∙ ap (λ t. t && are_whole (files_on f image (number + 1))) e

-- behind a file those that aren't whole
pub torn_behind : (f : Front) (image : Image) (number : ℕ) → number ≤ f.file → are_whole (files_on f image (number + 1)) ≡ false → are_whole (files_on f image number) ≡ false
torn_behind f image number h e =
    are_whole_here f image number (is_whole_file (published_file f image number)) h refl
    ∙ ap (λ t. is_whole_file (published_file f image number) && t) e ∙ and-false (is_whole_file (published_file f image number))

-- of files that aren't all whole some isn't
torn_by : (f : Front) (image : Image) (number count : ℕ) → are_whole (map (file_at f image) (numbers_from number count)) ≡ false
    → (n : ℕ) × (number ≤ n) × (n < number + count) × (is_whole_file (published_file f image n) ≡ false)
torn_by f image number zero e = absurd (let h = e in cc)
torn_by f image number (suc count) e = elim (both (is_whole_file (published_file f image number))) [
  | inr torn ↦ (number, omega arith, omega arith, torn)
  | inl whole ↦
      let rest : are_whole (map (file_at f image) (numbers_from (number + 1) count)) ≡ false =
      ap (λ t. t && are_whole (map (file_at f image) (numbers_from (number + 1) count))) (sym whole) ∙ e in
      let found = torn_by f image (number + 1) count rest in
      (found.0, omega (arith, found.1), omega (arith, found.2), found.3)
]

pub has_torn : (f : Front) (image : Image) (number : ℕ) → IsFound image f → f.first ≤ number → number ≤ f.file → are_whole (files_on f image number) ≡ false → HasTornFile image
has_torn f image number found kept upto e =
    let torn = torn_by f image number (f.file + 1 - number) e in
    record { front = f; found = found; number = torn.0; kept = omega (arith, torn.1, kept); upto = omega (arith, torn.2, upto); torn = torn.3 }

-- the payloads of the file behind one come first
pub payloads_next : (f : Front) (image : Image) (file next : ℕ) → file < f.file → next ≡ file + 1
    → whole_payloads (files_on f image (file + 1)) ≡ as_payloads (file_part 4 (file_at f image next)) ++ whole_payloads (files_on f image (next + 1))
payloads_next f image file next h e =
    ap (λ n. whole_payloads (files_on f image n)) (sym e) ∙ ap whole_payloads (files_here f image next (omega (arith, h, e)))

pub whole_next : (f : Front) (image : Image) (file next : ℕ) (b : Bool) → file < f.file → next ≡ file + 1 → is_whole_file (published_file f image next) ≡ b
    → are_whole (files_on f image (file + 1)) ≡ (b && are_whole (files_on f image (next + 1)))
whole_next f image file next b h e w = ap (λ n. are_whole (files_on f image n)) (sym e) ∙ are_whole_here f image next b (omega (arith, h, e)) w
