-- Where no job moved, all have ended and all lanes are empty.
use Rattle.std.proofs.Common.{◌≡◌, inl, inr, ℕ, ◌+◌, ◌<◌, Bool, true, false, cond, List, [], ◌∷◌, ◌++◌, length, get_or, drop, refl, sym, ◌∙◌, ap, subst, arith}
use Rattle.std.specs.List.{AllZip, All, count_by}
use Rattle.std.proofs.lemmas.Bool.{cases_lt}
use Rattle.std.proofs.lemmas.List.{get_or-map, length-map, get_or_past}
use Rattle.std.proofs.lemmas.List.Sums.{sum_by-append, sum_by-cons}
use Rattle.cdc_lane.specs.Held.{held}
use Rattle.cdc_turns.specs.Account.{Sender, Passer, Taker}
use Rattle.cdc_turns.specs.Ends.{IsClosed, EndsAs}
use Rattle.cdc_turns.specs.Joined.{joined}
use Rattle.cdc_turns.specs.Flow.{Line, LanesFit, Flow, Ran, View, view_of, NodeRests, DumpRests, AwaitsNode, AwaitsOut, RestsAt}
use Rattle.cdc_turns.proofs.Lanewise.{joined_at, joined_empty}
use Rattle.cdc_turns.proofs.Pairwise.{zip_at, zip_long, zip_seen}

-- which Ends have come, by the flag
all_ends : {T : Type 0} (is_end : T → Bool) (window : ℕ) (flag : Bool) (items : List T) → flag ≡ true → EndsAs is_end window flag items → IsClosed is_end window items
all_ends is_end window true items is ends = ends
all_ends is_end window false items is ends = absurd cc

all_but_one : {T : Type 0} (is_end : T → Bool) (window : ℕ) (flag : Bool) (items : List T) → flag ≡ false → EndsAs is_end window flag items → count_by is_end items + 1 ≡ window
all_but_one is_end window true items is ends = absurd cc
all_but_one is_end window false items is ends = ends

count_behind : {T : Type 0} (is_end : T → Bool) (whole front back : List T) → whole ≡ front ++ back → count_by is_end whole ≡ count_by is_end front + count_by is_end back
count_behind is_end whole front back is = ap (λ l. count_by is_end l) is ∙ sum_by-append (λ x. cond (is_end x) 1 0) front back

nothing_behind : {T : Type 0} (front back : List T) → front ++ back ≡ [] → back ≡ []
nothing_behind [] back is = is
nothing_behind (x ∷ front) back is = absurd cc

-- what stands behind a front, where the whole ends with an End, has that End or is nothing
no_end_behind : {T : Type 0} (is_end : T → Bool) (front back before : List T) (last : T) → front ++ back ≡ before ++ last ∷ [] → is_end last ≡ true → count_by is_end back ≡ 0 → back ≡ []
no_end_behind is_end [] back before last is at_end none =
    let counted = count_behind is_end back before (last ∷ []) is in
    let tail = sum_by-cons (λ x. cond (is_end x) 1 0) last [] in
    let one : ◌≡◌ {A = ℕ} (cond (is_end last) 1 0) 1 = ap (λ (b : Bool). cond b 1 0) at_end in
    absurd (omega (arith, counted, tail, one, none))
no_end_behind is_end (x ∷ front) back [] last is at_end none = nothing_behind front back (ap (λ l. drop 1 l) is)
no_end_behind is_end (x ∷ front) back (y ∷ before) last is at_end none = no_end_behind is_end front back before last (ap (λ l. drop 1 l) is) at_end none

-- a window in which no job moves
pub record Standstill {T U : Type 0} (is_t : T → Bool) (is_u : U → Bool) (window : ℕ) (view : View T U) (sends takes : List (List T)) (gives gets : List (List U)) : Type 0 where
  pub of_nodes : AllZip (EndsAs is_t window) view.nodes sends
  pub of_took : AllZip (EndsAs is_t window) view.took takes
  pub of_gave : AllZip (EndsAs is_u window) view.gave gives
  pub of_dumps : AllZip (EndsAs is_u window) view.dumps gets
  pub ins_hold : sends ≡ joined takes view.ins
  pub outs_hold : gives ≡ joined gets view.outs
  pub long_nodes : length view.nodes ≡ length view.ins
  pub long_took : length view.took ≡ length view.ins
  pub long_gave : length view.gave ≡ length view.outs
  pub long_dumps : length view.dumps ≡ length view.outs
  pub took_all : view.over ≡ true → (k : ℕ) → k < length view.took → get_or view.took k true ≡ true
  pub gave_all : view.over ≡ true → (k : ℕ) → k < length view.gave → get_or view.gave k true ≡ true
  pub rests : (number : ℕ) → number < length view.nodes + 1 + length view.dumps → RestsAt view number

module _ {T U : Type 0} (is_t : T → Bool) (is_u : U → Bool) (window : ℕ) (view : View T U) (sends takes : List (List T)) (gives gets : List (List U)) (s : Standstill is_t is_u window view sends takes gives gets) where
  sent_at : (k : ℕ) → get_or sends k [] ≡ get_or takes k [] ++ get_or view.ins k []
  sent_at k = ap (λ l. get_or l k []) s.ins_hold ∙ joined_at takes view.ins k

  gave_at : (k : ℕ) → get_or gives k [] ≡ get_or gets k [] ++ get_or view.outs k []
  gave_at k = ap (λ l. get_or l k []) s.outs_hold ∙ joined_at gets view.outs k

  node_rests : (k : ℕ) → k < length view.nodes → NodeRests view k
  node_rests k within = (s.rests k (omega (arith, within))).node within

  dump_rests : (k : ℕ) → k < length view.dumps → DumpRests view k
  dump_rests k within = (s.rests (length view.nodes + 1 + k) (omega (arith, within))).dump k refl within

  no_node_awaited : AwaitsNode view → ⊥
  no_node_awaited w =
      let k = w.index in
      let long_n = s.long_nodes in
      let long_t = s.long_took in
      let within = w.within in
      let takes_open = all_but_one is_t window (get_or view.took k true) (get_or takes k []) w.open_still (zip_at (EndsAs is_t window) view.took takes k true [] s.of_took (omega (arith, within, long_t))) in
      let counted = count_behind is_t (get_or sends k []) (get_or takes k []) (get_or view.ins k []) (sent_at k) in
      let nothing : count_by is_t (get_or view.ins k []) ≡ 0 = ap (λ l. count_by is_t l) w.empty in
      elim (node_rests k (omega (arith, within, long_n))) [
        | inl ended ↦ let closed = (all_ends is_t window (get_or view.nodes k true) (get_or sends k []) ended (zip_at (EndsAs is_t window) view.nodes sends k true [] s.of_nodes (omega (arith, within, long_n)))).ends in omega (arith, takes_open, counted, nothing, closed)
        | inr some ↦ some.1 w.empty
      ]

  no_out_awaited : AwaitsOut view → ⊥
  no_out_awaited w =
      let k = w.index in
      let long_g = s.long_gave in
      let long_d = s.long_dumps in
      let within = w.within in
      let gives_open = all_but_one is_u window (get_or view.gave k true) (get_or gives k []) w.open_still (zip_at (EndsAs is_u window) view.gave gives k true [] s.of_gave (omega (arith, within, long_g))) in
      let counted = count_behind is_u (get_or gives k []) (get_or gets k []) (get_or view.outs k []) (gave_at k) in
      elim (dump_rests k (omega (arith, within, long_d))) [
        | inl ended ↦ let closed = (all_ends is_u window (get_or view.dumps k true) (get_or gets k []) ended (zip_at (EndsAs is_u window) view.dumps gets k true [] s.of_dumps (omega (arith, within, long_d)))).ends in omega (arith, gives_open, counted, closed)
        | inr none ↦ w.held_still none.1
      ]

  pub merge_over : view.over ≡ true
  merge_over =
      elim ((s.rests (length view.nodes) (omega arith)).merge refl) [
        | inl over ↦ over
        | inr waits ↦ elim waits [ inl node ↦ absurd (no_node_awaited node) | inr out ↦ absurd (no_out_awaited out) ]
      ]

  took_closed : (k : ℕ) → k < length view.took → IsClosed is_t window (get_or takes k [])
  took_closed k within = all_ends is_t window (get_or view.took k true) (get_or takes k []) (s.took_all merge_over k within) (zip_at (EndsAs is_t window) view.took takes k true [] s.of_took within)

  gave_closed : (k : ℕ) → k < length view.gave → IsClosed is_u window (get_or gives k [])
  gave_closed k within = all_ends is_u window (get_or view.gave k true) (get_or gives k []) (s.gave_all merge_over k within) (zip_at (EndsAs is_u window) view.gave gives k true [] s.of_gave within)

  pub node_over : (k : ℕ) → k < length view.nodes → get_or view.nodes k true ≡ true
  node_over k within =
      let long_n = s.long_nodes in
      let long_t = s.long_took in
      elim (node_rests k within) [
        | inl ended ↦ ended
        | inr some ↦
            let open_still = all_but_one is_t window (get_or view.nodes k true) (get_or sends k []) some.0 (zip_at (EndsAs is_t window) view.nodes sends k true [] s.of_nodes within) in
            let closed = (took_closed k (omega (arith, within, long_n, long_t))).ends in
            let counted = count_behind is_t (get_or sends k []) (get_or takes k []) (get_or view.ins k []) (sent_at k) in
            absurd (omega (arith, open_still, closed, counted))
      ]

  pub dump_over : (k : ℕ) → k < length view.dumps → get_or view.dumps k true ≡ true
  dump_over k within =
      let long_g = s.long_gave in
      let long_d = s.long_dumps in
      elim (dump_rests k within) [
        | inl ended ↦ ended
        | inr none ↦
            let open_still = all_but_one is_u window (get_or view.dumps k true) (get_or gets k []) none.0 (zip_at (EndsAs is_u window) view.dumps gets k true [] s.of_dumps within) in
            let closed = (gave_closed k (omega (arith, within, long_g, long_d))).ends in
            let counted = count_behind is_u (get_or gives k []) (get_or gets k []) (get_or view.outs k []) (gave_at k) in
            let nothing : count_by is_u (get_or view.outs k []) ≡ 0 = ap (λ l. count_by is_u l) none.1 in
            absurd (omega (arith, open_still, closed, counted, nothing))
      ]

  in_empty : (k : ℕ) → k < length view.ins → get_or view.ins k [] ≡ []
  in_empty k within =
      let long_n = s.long_nodes in
      let long_t = s.long_took in
      let sent = all_ends is_t window (get_or view.nodes k true) (get_or sends k []) (node_over k (omega (arith, within, long_n))) (zip_at (EndsAs is_t window) view.nodes sends k true [] s.of_nodes (omega (arith, within, long_n))) in
      let sent_ends = sent.ends in
      let taken_ends = (took_closed k (omega (arith, within, long_t))).ends in
      let counted = count_behind is_t (get_or sends k []) (get_or takes k []) (get_or view.ins k []) (sent_at k) in
      no_end_behind is_t (get_or takes k []) (get_or view.ins k []) sent.front sent.last (sym (sent_at k) ∙ sent.at_end) sent.is_last (omega (arith, sent_ends, taken_ends, counted))

  out_empty : (k : ℕ) → k < length view.outs → get_or view.outs k [] ≡ []
  out_empty k within =
      let long_g = s.long_gave in
      let long_d = s.long_dumps in
      let given = gave_closed k (omega (arith, within, long_g)) in
      let given_ends = given.ends in
      let got_ends = (all_ends is_u window (get_or view.dumps k true) (get_or gets k []) (dump_over k (omega (arith, within, long_d))) (zip_at (EndsAs is_u window) view.dumps gets k true [] s.of_dumps (omega (arith, within, long_d)))).ends in
      let counted = count_behind is_u (get_or gives k []) (get_or gets k []) (get_or view.outs k []) (gave_at k) in
      no_end_behind is_u (get_or gets k []) (get_or view.outs k []) given.front given.last (sym (gave_at k) ∙ given.at_end) given.is_last (omega (arith, given_ends, got_ends, counted))

  pub each_in_empty : (k : ℕ) → get_or view.ins k [] ≡ []
  each_in_empty k = elim (cases_lt k (length view.ins)) [ inl within ↦ in_empty k within | inr past ↦ get_or_past view.ins k [] past ]

  pub each_out_empty : (k : ℕ) → get_or view.outs k [] ≡ []
  each_out_empty k = elim (cases_lt k (length view.outs)) [ inl within ↦ out_empty k within | inr past ↦ get_or_past view.outs k [] past ]

  pub sent_is_taken : sends ≡ takes
  sent_is_taken =
      let long_t = s.long_took in
      let many = zip_long (EndsAs is_t window) view.took takes s.of_took in
      s.ins_hold ∙ joined_empty takes view.ins (omega (arith, long_t, many)) each_in_empty

  pub given_is_got : gives ≡ gets
  given_is_got =
      let long_d = s.long_dumps in
      let many = zip_long (EndsAs is_u window) view.dumps gets s.of_dumps in
      s.outs_hold ∙ joined_empty gets view.outs (omega (arith, long_d, many)) each_out_empty

-- a window that flows, and in which all rest, has run
pub all_ran : {N M D T U : Type 0} (a : Sender N T) (m : Passer M T U) (d : Taker D U) (is_t : T → Bool) (is_u : U → Bool)
    → ((job : N) (window : ℕ) (items : List T) → a.sent job window items → EndsAs is_t window (a.ended job) items)
    → ((job : M) (window : ℕ) (takes : List (List T)) (gives : List (List U)) → m.did job window takes gives → AllZip (EndsAs is_t window) (m.took job) takes)
    → ((job : M) (window : ℕ) (takes : List (List T)) (gives : List (List U)) → m.did job window takes gives → AllZip (EndsAs is_u window) (m.gave job) gives)
    → ((job : D) (window : ℕ) (items : List U) → d.got job window items → EndsAs is_u window (d.ended job) items)
    → ((job : M) → m.ended job ≡ true → All (λ taken. taken ≡ true) (m.took job))
    → ((job : M) → m.ended job ≡ true → All (λ given. given ≡ true) (m.gave job))
    → (window : ℕ) (line : Line N M D T U) → LanesFit m line
    → ((number : ℕ) → number < length line.nodes + 1 + length line.dumps → RestsAt (view_of a m d line) number)
    → (before : Flow a m d window line) → (ran : Ran a m d window line) × (ran.gives ≡ before.gets)
all_ran a m d is_t is_u closes_a closes_in closes_out closes_d took_all gave_all window line fits rests f =
    let view = view_of a m d line in
    let many_nodes = length-map line.nodes a.ended in
    let many_dumps = length-map line.dumps d.ended in
    let many_ins = length-map line.ins held in
    let many_outs = length-map line.outs held in
    let fits_nodes = fits.nodes in
    let fits_dumps = fits.dumps in
    let s : Standstill is_t is_u window view f.sends f.takes f.gives f.gets = record {
      of_nodes = zip_seen a.ended (λ n items. a.sent n window items) (EndsAs is_t window) (λ n items sent. closes_a n window items sent) line.nodes f.sends f.of_nodes;
      of_took = closes_in line.merge window f.takes f.gives f.of_merge;
      of_gave = closes_out line.merge window f.takes f.gives f.of_merge;
      of_dumps = zip_seen d.ended (λ n items. d.got n window items) (EndsAs is_u window) (λ n items got. closes_d n window items got) line.dumps f.gets f.of_dumps;
      ins_hold = f.ins_hold;
      outs_hold = f.outs_hold;
      long_nodes = many_nodes ∙ fits_nodes ∙ sym many_ins;
      long_took = fits.took ∙ sym many_ins;
      long_gave = fits.gave ∙ sym many_outs;
      long_dumps = many_dumps ∙ fits_dumps ∙ sym many_outs;
      took_all = λ over k within. took_all line.merge over k true within;
      gave_all = λ over k within. gave_all line.merge over k true within;
      rests = λ number within. rests number (omega (arith, within, many_nodes, many_dumps));
    } in (
      record {
        sends = f.sends;
        gives = f.gives;
        of_nodes = f.of_nodes;
        of_merge = subst (λ l. m.did line.merge window l f.gives) (sym (sent_is_taken is_t is_u window view f.sends f.takes f.gives f.gets s)) f.of_merge;
        of_dumps = subst (λ l. AllZip (λ n items. d.got n window items) line.dumps l) (sym (given_is_got is_t is_u window view f.sends f.takes f.gives f.gets s)) f.of_dumps;
        nodes_ended = λ k e within. sym (get_or-map a.ended line.nodes k e true within) ∙ node_over is_t is_u window view f.sends f.takes f.gives f.gets s k (omega (arith, within, many_nodes));
        merge_ended = merge_over is_t is_u window view f.sends f.takes f.gives f.gets s;
        dumps_ended = λ k e within. sym (get_or-map d.ended line.dumps k e true within) ∙ dump_over is_t is_u window view f.sends f.takes f.gives f.gets s k (omega (arith, within, many_dumps));
        ins_empty = λ k e within. sym (get_or-map held line.ins k e [] within) ∙ each_in_empty is_t is_u window view f.sends f.takes f.gives f.gets s k;
        outs_empty = λ k e within. sym (get_or-map held line.outs k e [] within) ∙ each_out_empty is_t is_u window view f.sends f.takes f.gives f.gets s k;
      },
      given_is_got is_t is_u window view f.sends f.takes f.gives f.gets s,
    )
