-- One turn of one job is a step of the whole, and steps come one after another.
use Rattle.std.proofs.Common.{◌≡◌, ◌≢◌, inl, inr, ℕ, zero, suc, ◌+◌, ◌*◌, ◌<◌, ◌≤◌, Bool, true, false, ◌||◌, List, [], ◌∷◌, ◌++◌, length, get_or, set, map, refl, sym, ◌∙◌, ap, subst, arith, length-append, mul-add}
use Rattle.std.specs.List.{sum_by}
use Rattle.std.proofs.lemmas.List.{map-set, get_or-map, length-set, length-map}
use Rattle.std.proofs.lemmas.List.Sums.{sum_by-set}
use Rattle.cdc_lane.specs.declared.plain.PlainLane.{PlainLane}
use Rattle.cdc_lane.specs.Held.{held, room_of}
use Rattle.cdc_turns.specs.declared.turn.Turn.{Turn}
use Rattle.cdc_turns.specs.declared.turn.Turn.TheVariants.{Moved, Blocked, Done}
use Rattle.cdc_turns.specs.Account.{Sender, Passer, Taker}
use Rattle.cdc_turns.specs.Joined.{joined, total, contents, nothing_for}
use Rattle.cdc_turns.specs.Turns.{is_move, one_if, Sends, NodeSays, TakesItems, DumpSays, Passes, MergeSays, RestsAs, WaitsFor}
use Rattle.cdc_turns.specs.Flow.{Line, line_with, Flow, FlowsOn, work_left, view_by, view_of, Steps, NodeRests, DumpRests, MergeRests, RestsAt}
use Rattle.cdc_turns.proofs.Lanewise.{joined_assoc, total_joined, joined_put, joined_move, joined_nothing, joined_one}
use Rattle.cdc_turns.proofs.Turnings.{turned_same, turned_one, turned_then}
use Rattle.cdc_turns.proofs.Pairwise.{zip_at, zip_long, zip_set, zip_same, zip_set_one, zip_then, map_set_same, map_set_at}

-- what a lane holds, seen among all
lane_held : {T : Type 0} (lanes : List (PlainLane T)) (k : ℕ) (lane : PlainLane T) → k < length lanes → lane ≡ get_or lanes k lane → get_or (contents lanes) k [] ≡ held lane
lane_held lanes k lane within is = get_or-map held lanes k lane [] within ∙ ap held (sym is)

-- an empty lane, and a full one, seen among all
empty_at : {T : Type 0} (lanes : List (PlainLane T)) (k : ℕ) → k < length lanes → ((x : PlainLane T) → held (get_or lanes k x) ≡ []) → get_or (contents lanes) k [] ≡ []
empty_at [] k within is = absurd (omega (arith, within))
empty_at (lane ∷ lanes) zero within is = is lane
empty_at (lane ∷ lanes) (suc k) within is = empty_at lanes k (omega (arith, within)) is

full_at : {T : Type 0} (lanes : List (PlainLane T)) (k : ℕ) → k < length lanes → ((x : PlainLane T) → length (held (get_or lanes k x)) ≡ room_of (get_or lanes k x)) → get_or (contents lanes) k [] ≢ []
full_at [] k within is = absurd (omega (arith, within))
full_at (lane ∷ lanes) zero within is = λ empty. let short : length (held lane) ≡ 0 = ap length empty in let full = is lane in let room = lane.some_room in absurd (omega (arith, short, full, room))
full_at (lane ∷ lanes) (suc k) within is = full_at lanes k (omega (arith, within)) is

-- how many items lanes hold after one was written
total_set : {T : Type 0} (lanes : List (PlainLane T)) (k : ℕ) (lane later : PlainLane T) → k < length lanes → lane ≡ get_or lanes k lane → total (contents (set lanes k later)) + length (held lane) ≡ total (contents lanes) + length (held later)
total_set lanes k lane later within is =
    let long = length-map lanes held in
    let written : total (contents (set lanes k later)) ≡ total (set (contents lanes) k (held later)) = ap total (map-set held lanes k later) in
    let summed = sum_by-set length (contents lanes) k (held later) [] (omega (arith, within, long)) in
    let before : length (get_or (contents lanes) k []) ≡ length (held lane) = ap length (lane_held lanes k lane within is) in
    omega (arith, written, summed, before)

module _ {N M D T U : Type 0} (a : Sender N T) (m : Passer M T U) (d : Taker D U) where
  view_parts : {nodes nodes' took took' gave gave' dumps dumps' : List Bool} {ins ins' : List (List T)} {outs outs' : List (List U)} {over over' : Bool} → nodes ≡ nodes' → ins ≡ ins' → took ≡ took' → gave ≡ gave' → over ≡ over' → outs ≡ outs' → dumps ≡ dumps' → view_by nodes ins took gave over outs dumps ≡ view_by nodes' ins' took' gave' over' outs' dumps'
  view_parts {nodes} {nodes'} {took} {took'} {gave} {gave'} {dumps} {dumps'} {ins} {ins'} {outs} {outs'} {over} {over'} p1 p2 p3 p4 p5 p6 p7 =
      ap (λ v. view_by v ins took gave over outs dumps) p1
      ∙ ap (λ v. view_by nodes' v took gave over outs dumps) p2
      ∙ ap (λ v. view_by nodes' ins' v gave over outs dumps) p3
      ∙ ap (λ v. view_by nodes' ins' took' v over outs dumps) p4
      ∙ ap (λ v. view_by nodes' ins' took' gave' v outs dumps) p5
      ∙ ap (λ v. view_by nodes' ins' took' gave' over' v dumps) p6
      ∙ ap (λ v. view_by nodes' ins' took' gave' over' outs' v) p7

  node_flow : (window : ℕ) (nodes : List N) (ins : List (PlainLane T)) (merge : M) (outs : List (PlainLane U)) (dumps : List D) (k : ℕ) (node new : N) (lane later : PlainLane T) (turn : Turn) → k < length nodes → k < length ins → node ≡ get_or nodes k node → lane ≡ get_or ins k lane → Sends a node new lane later turn → (before : Flow a m d window (line_with nodes ins merge outs dumps)) → FlowsOn a m d window (line_with nodes ins merge outs dumps) (line_with (set nodes k new) (set ins k later) merge outs dumps) (nothing_for dumps) before
  node_flow window nodes ins merge outs dumps k node new lane later turn of_node of_lane is lane_is s f =
      let had = get_or f.sends k [] in
      let sent_old : a.sent node window had = subst (λ (n : N). a.sent n window had) (sym is) (zip_at (λ n items. a.sent n window items) nodes f.sends k node [] f.of_nodes of_node) in
      let held_is = lane_held ins k lane of_lane lane_is in
      let put : set (contents ins) k (get_or (contents ins) k [] ++ s.items) ≡ contents (set ins k later) =
      ap (λ l. set (contents ins) k (l ++ s.items)) held_is ∙ ap (λ l. set (contents ins) k l) (sym s.flows.behind) ∙ sym (map-set held ins k later) in
      let long = length-map ins held in
      record {
        flow = record {
          sends = set f.sends k (had ++ s.items);
          takes = f.takes;
          gives = f.gives;
          gets = f.gets;
          of_nodes = zip_set (λ n items. a.sent n window items) nodes f.sends k new (had ++ s.items) f.of_nodes (s.did window had sent_old);
          of_merge = f.of_merge;
          of_dumps = f.of_dumps;
          ins_hold = ap (λ l. set l k (get_or l k [] ++ s.items)) f.ins_hold ∙ joined_put f.takes (contents ins) k s.items (omega (arith, of_lane, long)) ∙ ap (λ l. joined f.takes l) put;
          outs_hold = f.outs_hold;
        };
        gets = sym (joined_nothing f.gets dumps (zip_long (λ n items. d.got n window items) dumps f.gets f.of_dumps));
      }

  dump_flow : (window : ℕ) (nodes : List N) (ins : List (PlainLane T)) (merge : M) (outs : List (PlainLane U)) (dumps : List D) (k : ℕ) (dump new : D) (lane later : PlainLane U) (turn : Turn) → k < length dumps → k < length outs → dump ≡ get_or dumps k dump → lane ≡ get_or outs k lane → (s : TakesItems d dump new lane later turn) → (before : Flow a m d window (line_with nodes ins merge outs dumps)) → FlowsOn a m d window (line_with nodes ins merge outs dumps) (line_with nodes ins merge (set outs k later) (set dumps k new)) (set (nothing_for dumps) k s.items) before
  dump_flow window nodes ins merge outs dumps k dump new lane later turn of_dump of_lane is lane_is s f =
      let had = get_or f.gets k [] in
      let got_old : d.got dump window had = subst (λ (n : D). d.got n window had) (sym is) (zip_at (λ n items. d.got n window items) dumps f.gets k dump [] f.of_dumps of_dump) in
      let held_is = lane_held outs k lane of_lane lane_is in
      let long = length-map outs held in
      let many = zip_long (λ n items. d.got n window items) dumps f.gets f.of_dumps in
      record {
        flow = record {
          sends = f.sends;
          takes = f.takes;
          gives = f.gives;
          gets = set f.gets k (had ++ s.items);
          of_nodes = f.of_nodes;
          of_merge = f.of_merge;
          of_dumps = zip_set (λ n items. d.got n window items) dumps f.gets k new (had ++ s.items) f.of_dumps (s.did window had got_old);
          ins_hold = f.ins_hold;
          outs_hold = f.outs_hold ∙ joined_move f.gets (contents outs) k s.items (held later) (omega (arith, of_dump, many)) (omega (arith, of_lane, long)) (held_is ∙ s.flows.first) ∙ ap (λ l. joined (set f.gets k (had ++ s.items)) l) (sym (map-set held outs k later));
        };
        gets = joined_one f.gets dumps k s.items many;
      }

  merge_flow : (window : ℕ) (nodes : List N) (ins later_ins : List (PlainLane T)) (merge new : M) (outs later_outs : List (PlainLane U)) (dumps : List D) (turn : Turn) → Passes m merge new ins later_ins outs later_outs turn → (before : Flow a m d window (line_with nodes ins merge outs dumps)) → FlowsOn a m d window (line_with nodes ins merge outs dumps) (line_with nodes later_ins new later_outs dumps) (nothing_for dumps) before
  merge_flow window nodes ins later_ins merge new outs later_outs dumps turn p f =
      record {
        flow = record {
          sends = f.sends;
          takes = joined f.takes p.taken;
          gives = joined f.gives p.given;
          gets = f.gets;
          of_nodes = f.of_nodes;
          of_merge = p.did window f.takes f.gives f.of_merge;
          of_dumps = f.of_dumps;
          ins_hold = f.ins_hold ∙ ap (λ l. joined f.takes l) p.flows_in ∙ sym (joined_assoc f.takes p.taken (contents later_ins));
          outs_hold = ap (λ l. joined l p.given) f.outs_hold ∙ joined_assoc f.gets (contents outs) p.given ∙ ap (λ l. joined f.gets l) (sym p.flows_out);
        };
        gets = sym (joined_nothing f.gets dumps (zip_long (λ n items. d.got n window items) dumps f.gets f.of_dumps));
      }

  node_cost : (nodes : List N) (ins : List (PlainLane T)) (merge : M) (outs : List (PlainLane U)) (dumps : List D) (k : ℕ) (node new : N) (lane later : PlainLane T) (turn : Turn) → k < length nodes → k < length ins → node ≡ get_or nodes k node → lane ≡ get_or ins k lane → Sends a node new lane later turn → work_left a m d (line_with (set nodes k new) (set ins k later) merge outs dumps) + one_if (is_move turn) ≤ work_left a m d (line_with nodes ins merge outs dumps)
  node_cost nodes ins merge outs dumps k node new lane later turn of_node of_lane is lane_is s =
      let w = m.weight merge d.price in
      let summed = sum_by-set (λ n. a.work n w) nodes k new node of_node in
      let own : a.work node w ≡ a.work (get_or nodes k node) w = ap (λ n. a.work n w) is in
      let lanes = total_set ins k lane later of_lane lane_is in
      let longer : length (held later) ≡ length (held lane) + length s.items = ap length s.flows.behind ∙ length-append (held lane) s.items in
      let sum_is : total (contents (set ins k later)) ≡ total (contents ins) + length s.items = omega (arith, lanes, longer) in
      let times : w * total (contents (set ins k later)) ≡ w * total (contents ins) + w * length s.items = ap (λ t. w * t) sum_is ∙ mul-add w (total (contents ins)) (length s.items) in
      let cost = s.cost w in
      omega (arith, summed, own, times, cost)

  dump_cost : (nodes : List N) (ins : List (PlainLane T)) (merge : M) (outs : List (PlainLane U)) (dumps : List D) (k : ℕ) (dump new : D) (lane later : PlainLane U) (turn : Turn) → k < length dumps → k < length outs → dump ≡ get_or dumps k dump → lane ≡ get_or outs k lane → TakesItems d dump new lane later turn → work_left a m d (line_with nodes ins merge (set outs k later) (set dumps k new)) + one_if (is_move turn) ≤ work_left a m d (line_with nodes ins merge outs dumps)
  dump_cost nodes ins merge outs dumps k dump new lane later turn of_dump of_lane is lane_is s =
      let summed = sum_by-set d.work dumps k new dump of_dump in
      let own : d.work dump ≡ d.work (get_or dumps k dump) = ap d.work is in
      let lanes = total_set outs k lane later of_lane lane_is in
      let shorter : length (held lane) ≡ length s.items + length (held later) = ap length s.flows.first ∙ length-append s.items (held later) in
      let sum_is : total (contents outs) ≡ total (contents (set outs k later)) + length s.items = omega (arith, lanes, shorter) in
      let times : d.price * total (contents outs) ≡ d.price * total (contents (set outs k later)) + d.price * length s.items = ap (λ t. d.price * t) sum_is ∙ mul-add d.price (total (contents (set outs k later))) (length s.items) in
      let cost = s.cost in
      omega (arith, summed, own, times, cost)

  merge_cost : (nodes : List N) (ins later_ins : List (PlainLane T)) (merge new : M) (outs later_outs : List (PlainLane U)) (dumps : List D) (turn : Turn) → Passes m merge new ins later_ins outs later_outs turn → work_left a m d (line_with nodes later_ins new later_outs dumps) + one_if (is_move turn) ≤ work_left a m d (line_with nodes ins merge outs dumps)
  merge_cost nodes ins later_ins merge new outs later_outs dumps turn p =
      let w = m.weight merge d.price in
      let later_w = m.weight new d.price in
      let same : later_w ≡ w = p.weighs d.price in
      let of_nodes : sum_by (λ n. a.work n later_w) nodes ≡ sum_by (λ n. a.work n w) nodes = ap (λ v. sum_by (λ n. a.work n v) nodes) same in
      let of_ins : later_w * total (contents later_ins) ≡ w * total (contents later_ins) = ap (λ v. v * total (contents later_ins)) same in
      let times_in : w * total (contents ins) ≡ w * total p.taken + w * total (contents later_ins) = ap (λ t. w * t) (ap total p.flows_in ∙ total_joined p.taken (contents later_ins)) ∙ mul-add w (total p.taken) (total (contents later_ins)) in
      let times_out : d.price * total (contents later_outs) ≡ d.price * total (contents outs) + d.price * total p.given = ap (λ t. d.price * t) (ap total p.flows_out ∙ total_joined (contents outs) p.given) ∙ mul-add d.price (total (contents outs)) (total p.given) in
      let cost = p.cost d.price in
      omega (arith, of_nodes, of_ins, times_in, times_out, cost)

  node_still : (nodes : List N) (ins : List (PlainLane T)) (merge : M) (outs : List (PlainLane U)) (dumps : List D) (k : ℕ) (node new : N) (lane later : PlainLane T) → k < length nodes → k < length ins → node ≡ get_or nodes k node → lane ≡ get_or ins k lane → a.ended new ≡ a.ended node → held later ≡ held lane → view_of a m d (line_with (set nodes k new) (set ins k later) merge outs dumps) ≡ view_of a m d (line_with nodes ins merge outs dumps)
  node_still nodes ins merge outs dumps k node new lane later of_node of_lane is lane_is ended same =
      view_parts (map_set_same a.ended nodes k new node of_node (ended ∙ ap a.ended is)) (map_set_same held ins k later lane of_lane (same ∙ ap held lane_is)) refl refl refl refl refl

  dump_still : (nodes : List N) (ins : List (PlainLane T)) (merge : M) (outs : List (PlainLane U)) (dumps : List D) (k : ℕ) (dump new : D) (lane later : PlainLane U) → k < length dumps → k < length outs → dump ≡ get_or dumps k dump → lane ≡ get_or outs k lane → d.ended new ≡ d.ended dump → held later ≡ held lane → view_of a m d (line_with nodes ins merge (set outs k later) (set dumps k new)) ≡ view_of a m d (line_with nodes ins merge outs dumps)
  dump_still nodes ins merge outs dumps k dump new lane later of_dump of_lane is lane_is ended same =
      view_parts refl refl refl refl refl (map_set_same held outs k later lane of_lane (same ∙ ap held lane_is)) (map_set_same d.ended dumps k new dump of_dump (ended ∙ ap d.ended is))

  -- a node's turn, a merge turn, an out's turn
  pub node_steps : ((x : N) → a.turned x x) → ((x : M) → m.turned x x) → ((x : D) → d.turned x [] x) → (nodes : List N) (ins : List (PlainLane T)) (merge : M) (outs : List (PlainLane U)) (dumps : List D) (k : ℕ) (node new : N) (lane later : PlainLane T) (turn : Turn) → k < length nodes → k < length ins → node ≡ get_or nodes k node → lane ≡ get_or ins k lane → Sends a node new lane later turn → NodeSays a node new lane later turn → Steps a m d (line_with nodes ins merge outs dumps) (line_with (set nodes k new) (set ins k later) merge outs dumps) (is_move turn)
  node_steps start_a start_m start_d nodes ins merge outs dumps k node new lane later turn of_node of_lane is lane_is s says =
      record {
        fits = λ f. record { nodes = length-set nodes k new ∙ f.nodes ∙ sym (length-set ins k later); dumps = f.dumps; took = f.took ∙ sym (length-set ins k later); gave = f.gave };
        nodes = length-set nodes k new;
        dumps = refl;
        taken = nothing_for dumps;
        flow = λ window. node_flow window nodes ins merge outs dumps k node new lane later turn of_node of_lane is lane_is s;
        cost = node_cost nodes ins merge outs dumps k node new lane later turn of_node of_lane is lane_is s;
        still = still turn says;
        turned_nodes = zip_set_one a.turned start_a nodes k new node (subst (λ (n : N). a.turned n new) is s.turned);
        turned_merge = start_m merge;
        turned_dumps = turned_same d.turned start_d dumps;
      }
    where
      still : (t : Turn) → NodeSays a node new lane later t → is_move t ≡ false → view_of a m d (line_with (set nodes k new) (set ins k later) merge outs dumps) ≡ view_of a m d (line_with nodes ins merge outs dumps)
      still Moved said moved = absurd cc
      still Blocked said moved = node_still nodes ins merge outs dumps k node new lane later of_node of_lane is lane_is (said.1 ∙ sym said.0) said.2
      still Done said moved = node_still nodes ins merge outs dumps k node new lane later of_node of_lane is lane_is (said.1 ∙ sym said.0) said.2

  pub dump_steps : ((x : N) → a.turned x x) → ((x : M) → m.turned x x) → ((x : D) → d.turned x [] x) → (nodes : List N) (ins : List (PlainLane T)) (merge : M) (outs : List (PlainLane U)) (dumps : List D) (k : ℕ) (dump new : D) (lane later : PlainLane U) (turn : Turn) → k < length dumps → k < length outs → dump ≡ get_or dumps k dump → lane ≡ get_or outs k lane → TakesItems d dump new lane later turn → DumpSays d dump new lane later turn → Steps a m d (line_with nodes ins merge outs dumps) (line_with nodes ins merge (set outs k later) (set dumps k new)) (is_move turn)
  dump_steps start_a start_m start_d nodes ins merge outs dumps k dump new lane later turn of_dump of_lane is lane_is s says =
      record {
        fits = λ f. record { nodes = f.nodes; dumps = length-set dumps k new ∙ f.dumps ∙ sym (length-set outs k later); took = f.took; gave = f.gave ∙ sym (length-set outs k later) };
        nodes = refl;
        dumps = length-set dumps k new;
        taken = set (nothing_for dumps) k s.items;
        flow = λ window. dump_flow window nodes ins merge outs dumps k dump new lane later turn of_dump of_lane is lane_is s;
        cost = dump_cost nodes ins merge outs dumps k dump new lane later turn of_dump of_lane is lane_is s;
        still = still turn says;
        turned_nodes = zip_same a.turned start_a nodes;
        turned_merge = start_m merge;
        turned_dumps = turned_one d.turned start_d dumps k s.items new dump (subst (λ (n : D). d.turned n s.items new) is s.turned);
      }
    where
      still : (t : Turn) → DumpSays d dump new lane later t → is_move t ≡ false → view_of a m d (line_with nodes ins merge (set outs k later) (set dumps k new)) ≡ view_of a m d (line_with nodes ins merge outs dumps)
      still Moved said moved = absurd cc
      still Blocked said moved = dump_still nodes ins merge outs dumps k dump new lane later of_dump of_lane is lane_is (said.1 ∙ sym said.0) said.2
      still Done said moved = dump_still nodes ins merge outs dumps k dump new lane later of_dump of_lane is lane_is (said.1 ∙ sym said.0) said.2

  pub merge_steps : ((x : N) → a.turned x x) → ((x : D) → d.turned x [] x) → (nodes : List N) (ins later_ins : List (PlainLane T)) (merge new : M) (outs later_outs : List (PlainLane U)) (dumps : List D) (turn : Turn) → length later_ins ≡ length ins → length later_outs ≡ length outs → Passes m merge new ins later_ins outs later_outs turn → MergeSays m merge new ins later_ins outs later_outs turn → Steps a m d (line_with nodes ins merge outs dumps) (line_with nodes later_ins new later_outs dumps) (is_move turn)
  merge_steps start_a start_d nodes ins later_ins merge new outs later_outs dumps turn long_in long_out p says =
      record {
        fits = λ f. record { nodes = f.nodes ∙ sym long_in; dumps = f.dumps ∙ sym long_out; took = p.width_in ∙ f.took ∙ sym long_in; gave = p.width_out ∙ f.gave ∙ sym long_out };
        nodes = refl;
        dumps = refl;
        taken = nothing_for dumps;
        flow = λ window. merge_flow window nodes ins later_ins merge new outs later_outs dumps turn p;
        cost = merge_cost nodes ins later_ins merge new outs later_outs dumps turn p;
        still = still turn says;
        turned_nodes = zip_same a.turned start_a nodes;
        turned_merge = p.turned;
        turned_dumps = turned_same d.turned start_d dumps;
      }
    where
      seen : RestsAs m merge new ins later_ins outs later_outs → m.ended new ≡ m.ended merge → view_of a m d (line_with nodes later_ins new later_outs dumps) ≡ view_of a m d (line_with nodes ins merge outs dumps)
      seen r over = view_parts refl r.held_in r.took r.gave over r.held_out refl

      still : (t : Turn) → MergeSays m merge new ins later_ins outs later_outs t → is_move t ≡ false → view_of a m d (line_with nodes later_ins new later_outs dumps) ≡ view_of a m d (line_with nodes ins merge outs dumps)
      still Moved said moved = absurd cc
      still Blocked said moved = seen said.2 (said.1 ∙ sym said.0)
      still Done said moved = seen said.2 (said.1 ∙ sym said.0)

  pub steps_none : ((x : N) → a.turned x x) → ((x : M) → m.turned x x) → ((x : D) → d.turned x [] x) → (line : Line N M D T U) → Steps a m d line line false
  steps_none start_a start_m start_d line =
      record {
        fits = λ f. f;
        nodes = refl;
        dumps = refl;
        taken = nothing_for line.dumps;
        flow = λ window f. record { flow = f; gets = sym (joined_nothing f.gets line.dumps (zip_long (λ n items. d.got n window items) line.dumps f.gets f.of_dumps)) };
        cost = omega arith;
        still = λ _. refl;
        turned_nodes = zip_same a.turned start_a line.nodes;
        turned_merge = start_m line.merge;
        turned_dumps = turned_same d.turned start_d line.dumps;
      }

  -- one after another: something moved where it did in one of them
  pub steps_then : ((x y z : N) → a.turned x y → a.turned y z → a.turned x z) → ((x y z : M) → m.turned x y → m.turned y z → m.turned x z) → ((x y z : D) (p q : List U) → d.turned x p y → d.turned y q z → d.turned x (p ++ q) z) → (x y z : Line N M D T U) (p q moved : Bool) → moved ≡ (p || q) → Steps a m d x y p → Steps a m d y z q → Steps a m d x z moved
  steps_then adds_a adds_m adds_d x y z p q moved is s t =
      record {
        fits = λ f. t.fits (s.fits f);
        nodes = t.nodes ∙ s.nodes;
        dumps = t.dumps ∙ s.dumps;
        taken = joined s.taken t.taken;
        flow = λ window f.
            let first = s.flow window f in
            let second = t.flow window first.flow in
            record { flow = second.flow; gets = second.gets ∙ ap (λ l. joined l t.taken) first.gets ∙ joined_assoc f.gets s.taken t.taken };
        cost = subst (λ v. work_left a m d z + one_if v ≤ work_left a m d x) (sym is) (cost p q s.cost t.cost);
        still = λ none. still p q s.still t.still (sym is ∙ none);
        turned_nodes = zip_then a.turned adds_a x.nodes y.nodes z.nodes s.turned_nodes t.turned_nodes;
        turned_merge = adds_m x.merge y.merge z.merge s.turned_merge t.turned_merge;
        turned_dumps = turned_then d.turned adds_d x.dumps y.dumps z.dumps s.taken t.taken s.turned_dumps t.turned_dumps;
      }
    where
      cost : (p q : Bool) → work_left a m d y + one_if p ≤ work_left a m d x → work_left a m d z + one_if q ≤ work_left a m d y → work_left a m d z + one_if (p || q) ≤ work_left a m d x
      cost true q c e = omega (arith, c, e)
      cost false q c e = omega (arith, c, e)

      still : (p q : Bool) → (p ≡ false → view_of a m d y ≡ view_of a m d x) → (q ≡ false → view_of a m d z ≡ view_of a m d y) → (p || q) ≡ false → view_of a m d z ≡ view_of a m d x
      still true q e h none = absurd cc
      still false q e h none = h none ∙ e refl

  -- a job that doesn't move rests
  pub node_rests : (nodes : List N) (ins : List (PlainLane T)) (merge : M) (outs : List (PlainLane U)) (dumps : List D) (k : ℕ) (node new : N) (lane later : PlainLane T) (turn : Turn) → k < length nodes → k < length ins → NodeSays a node new lane later turn → is_move turn ≡ false → RestsAt (view_of a m d (line_with (set nodes k new) (set ins k later) merge outs dumps)) k
  node_rests nodes ins merge outs dumps k node new lane later turn of_node of_lane says none =
      let long = length-map (set nodes k new) a.ended in
      let same = length-set nodes k new in
      record {
        node = λ _. rests turn says none;
        merge = λ is. absurd (omega (arith, is, long, same, of_node));
        dump = λ index is within. absurd (omega (arith, is, long, same, of_node));
      }
    where
      flag : get_or (map a.ended (set nodes k new)) k true ≡ a.ended new
      flag = map_set_at a.ended nodes k new true of_node

      lane_is : get_or (contents (set ins k later)) k [] ≡ held later
      lane_is = map_set_at held ins k later [] of_lane

      rests : (t : Turn) → NodeSays a node new lane later t → is_move t ≡ false → NodeRests (view_of a m d (line_with (set nodes k new) (set ins k later) merge outs dumps)) k
      rests Moved said moved = absurd cc
      rests Blocked said moved = inr (flag ∙ said.1, λ empty. let short : length (held later) ≡ 0 = ap length (sym lane_is ∙ empty) in let room = later.some_room in absurd (omega (arith, short, room, said.3)))
      rests Done said moved = inl (flag ∙ said.1)

  pub dump_rests : (nodes : List N) (ins : List (PlainLane T)) (merge : M) (outs : List (PlainLane U)) (dumps : List D) (number k : ℕ) (dump new : D) (lane later : PlainLane U) (turn : Turn) → number ≡ length nodes + 1 + k → k < length dumps → k < length outs → DumpSays d dump new lane later turn → is_move turn ≡ false → RestsAt (view_of a m d (line_with nodes ins merge (set outs k later) (set dumps k new))) number
  dump_rests nodes ins merge outs dumps number k dump new lane later turn number_is of_dump of_lane says none =
      let long = length-map nodes a.ended in
      record {
        node = λ within. absurd (omega (arith, within, long, number_is));
        merge = λ is. absurd (omega (arith, is, long, number_is));
        dump = λ index is within. subst (λ (i : ℕ). DumpRests (view_of a m d (line_with nodes ins merge (set outs k later) (set dumps k new))) i) (let same : k ≡ index = omega (arith, is, long, number_is) in same) (rests turn says none);
      }
    where
      flag : get_or (map d.ended (set dumps k new)) k true ≡ d.ended new
      flag = map_set_at d.ended dumps k new true of_dump

      lane_is : get_or (contents (set outs k later)) k [] ≡ held later
      lane_is = map_set_at held outs k later [] of_lane

      rests : (t : Turn) → DumpSays d dump new lane later t → is_move t ≡ false → DumpRests (view_of a m d (line_with nodes ins merge (set outs k later) (set dumps k new))) k
      rests Moved said moved = absurd cc
      rests Blocked said moved = inr (flag ∙ said.1, lane_is ∙ said.3)
      rests Done said moved = inl (flag ∙ said.1)

  pub merge_rests : (nodes : List N) (ins later_ins : List (PlainLane T)) (merge new : M) (outs later_outs : List (PlainLane U)) (dumps : List D) (turn : Turn) (number : ℕ) → number ≡ length nodes → MergeSays m merge new ins later_ins outs later_outs turn → is_move turn ≡ false → RestsAt (view_of a m d (line_with nodes later_ins new later_outs dumps)) number
  merge_rests nodes ins later_ins merge new outs later_outs dumps turn number number_is says none =
      let long = length-map nodes a.ended in
      record {
        node = λ within. absurd (omega (arith, within, long, number_is));
        merge = λ _. rests turn says none;
        dump = λ index is within. absurd (omega (arith, is, long, number_is));
      }
    where
      waits : WaitsFor m new later_ins later_outs → MergeRests (view_of a m d (line_with nodes later_ins new later_outs dumps))
      waits (inl (k, empty, wants)) = inr (inl (record { index = k; within = let long = length-map later_ins held in omega (arith, empty.0, long); empty = empty_at later_ins k empty.0 empty.1; open_still = wants }))
      waits (inr (k, full, wants)) = inr (inr (record { index = k; within = let long = length-map later_outs held in omega (arith, full.0, long); held_still = full_at later_outs k full.0 full.1; open_still = wants }))

      rests : (t : Turn) → MergeSays m merge new ins later_ins outs later_outs t → is_move t ≡ false → MergeRests (view_of a m d (line_with nodes later_ins new later_outs dumps))
      rests Moved said moved = absurd cc
      rests Blocked said moved = waits said.3
      rests Done said moved = inl said.1
