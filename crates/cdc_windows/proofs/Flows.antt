-- Windows one after another: what flows runs, and what has run flows on.
use Rattle.std.proofs.Common.{◌≡◌, ℕ, suc, ◌+◌, List, [], ◌∷◌, ◌++◌, length, map, refl, sym, ◌∙◌, ap, subst, arith}
use Rattle.std.specs.List.{AllZip}
use Rattle.cdc_lane.specs.declared.plain.PlainLane.{PlainLane}
use Rattle.cdc_turns.specs.Account.{Sender, Passer, Taker}
use Rattle.cdc_turns.specs.Joined.{joined, nothing_for, AllTurned}
use Rattle.cdc_turns.specs.Flow.{Line, line_with, LanesFit, RanOn, NextFlow}
use Rattle.cdc_turns.proofs.Lanewise.{joined_nothing}
use Rattle.cdc_turns.proofs.Pairwise.{zip_long, zip_same, zip_then}
use Rattle.cdc_turns.proofs.Turnings.{turned_same, turned_then}
use Rattle.cdc_item.specs.declared.node_item.NodeItem.{NodeItem}
use Rattle.cdc_item.specs.declared.dump_item.DumpItem.{DumpItem}
use Rattle.cdc_windows.specs.Rereading.{Rereading}
use Rattle.cdc_windows.specs.Windows.{IsBegun, IsFlowing, HasRun, RunsOn, HaveEndedFrom, HaveRun}
use Rattle.cdc_windows.proofs.MorePairs.{zip_weaker, all_seen_same}

-- as many lists as jobs
pub turned_long : {J T : Type 0} (R : J → List T → J → Type 0) (xs ys : List J) (ps : List (List T)) → AllTurned R xs ps ys → (length ps ≡ length xs) × (length ys ≡ length xs)
turned_long R [] [] [] all = (refl, refl)
turned_long R [] (y ∷ ys) [] all = absurd all
turned_long R [] ys (p ∷ ps) all = absurd all
turned_long R (x ∷ xs) ys [] all = absurd all
turned_long R (x ∷ xs) [] (p ∷ ps) all = absurd all
turned_long R (x ∷ xs) (y ∷ ys) (p ∷ ps) all = let rest = turned_long R xs ys ps all.1 in (ap (λ n. suc n) rest.0, ap (λ n. suc n) rest.1)

-- nothing before is nothing more
pub nothing_joined : {A T : Type 0} (olds : List A) (lists : List (List T)) → length lists ≡ length olds → joined (nothing_for olds) lists ≡ lists
nothing_joined [] lists long = refl
nothing_joined (o ∷ olds) [] long = absurd (omega (arith, long))
nothing_joined (o ∷ olds) (l ∷ lists) long = ap (λ rest. l ∷ rest) (nothing_joined olds lists (omega (arith, long)))

module _ {N M D T U : Type 0} (a : Sender N T) (m : Passer M T U) (d : Taker D U) (r : Rereading N) where
  -- before the first window
  pub begins : ((x : N) → r.read_on x x) → ((x : M) → m.turned x x) → ((x : D) → d.turned x [] x) → (line : Line N M D T U) → IsBegun a m d line → (flows : IsFlowing a m d r line line) × (flows.flow.gets ≡ nothing_for line.dumps)
  begins node_stays merge_starts dump_starts line begun = (
    record {
      fits = begun.fits;
      window = 1;
      flow = begun.flow;
      nodes = zip_same r.read_on node_stays line.nodes;
      merge = merge_starts line.merge;
      dumps = subst (λ gets. AllTurned d.turned line.dumps gets line.dumps) (sym begun.gets) (turned_same d.turned dump_starts line.dumps);
    },
    begun.gets,
  )

  -- a window that flows runs to its end
  pub runs_on : ((x y : N) → a.turned x y → r.read_on x y) → ((x y z : N) → r.read_on x y → r.read_on y z → r.read_on x z) → ((x y z : M) → m.turned x y → m.turned y z → m.turned x z)
      → ((x y z : D) (p q : List U) → d.turned x p y → d.turned y q z → d.turned x (p ++ q) z)
      → (first old new : Line N M D T U) (flows : IsFlowing a m d r first old) → LanesFit m new → AllZip a.turned old.nodes new.nodes → m.turned old.merge new.merge
      → (taken : List (List U)) → AllTurned d.turned old.dumps taken new.dumps → RanOn a m d flows.window old new taken flows.flow → RunsOn a m d r first old new flows
  runs_on node_reads node_adds merge_adds dump_adds first old new flows fits nodes merge taken dumps ran = record {
    has_run = record {
      fits = fits;
      window = flows.window;
      ran = ran.ran;
      nodes = zip_then r.read_on node_adds first.nodes old.nodes new.nodes flows.nodes (zip_weaker a.turned r.read_on node_reads old.nodes new.nodes nodes);
      merge = merge_adds first.merge old.merge new.merge flows.merge merge;
      dumps = subst (λ gives. AllTurned d.turned first.dumps gives new.dumps) (sym ran.gives) (turned_then d.turned dump_adds first.dumps old.dumps new.dumps flows.flow.gets taken flows.dumps dumps);
    };
    taken = taken;
    gives = ran.gives;
    dumps = dumps;
  }

  -- what has run has run where the nodes have forgotten
  pub forgets : ((x y z : N) → r.read_on x y → r.read_on y z → r.read_on x z) → (first : Line N M D T U) (nodes later : List N) (ins : List (PlainLane T)) (merge : M) (outs : List (PlainLane U)) (dumps : List D)
      → HasRun a m d r first (line_with nodes ins merge outs dumps)
      → ((window : ℕ) (sends : List (List T)) → AllZip (λ node items. a.sent node window items) nodes sends → AllZip (λ node items. a.sent node window items) later sends)
      → map a.ended later ≡ map a.ended nodes → AllZip r.read_on nodes later
      → HasRun a m d r first (line_with later ins merge outs dumps)
  forgets node_adds first nodes later ins merge outs dumps had sent ended on = record {
    fits = record { nodes = sym (zip_long r.read_on nodes later on) ∙ had.fits.nodes; dumps = had.fits.dumps; took = had.fits.took; gave = had.fits.gave };
    window = had.window;
    ran = record {
      sends = had.ran.sends;
      gives = had.ran.gives;
      of_nodes = sent had.window had.ran.sends had.ran.of_nodes;
      of_merge = had.ran.of_merge;
      of_dumps = had.ran.of_dumps;
      nodes_ended = all_seen_same a.ended nodes later ended had.ran.nodes_ended;
      merge_ended = had.ran.merge_ended;
      dumps_ended = had.ran.dumps_ended;
      ins_empty = had.ran.ins_empty;
      outs_empty = had.ran.outs_empty;
    };
    nodes = zip_then r.read_on node_adds first.nodes nodes later had.nodes on;
    merge = had.merge;
    dumps = had.dumps;
  }

  -- what has run flows on in the next window
  pub flows_on : ((x y : N) → a.turned x y → r.read_on x y) → ((x y z : N) → r.read_on x y → r.read_on y z → r.read_on x z) → ((x y z : M) → m.turned x y → m.turned y z → m.turned x z)
      → ((x y z : D) (p q : List U) → d.turned x p y → d.turned y q z → d.turned x (p ++ q) z)
      → (first old new : Line N M D T U) (has_run : HasRun a m d r first old) → LanesFit m new → AllZip a.turned old.nodes new.nodes → m.turned old.merge new.merge
      → AllTurned d.turned old.dumps (nothing_for old.dumps) new.dumps → NextFlow a m d has_run.window old new has_run.ran → (flows : IsFlowing a m d r first new) × (flows.flow.gets ≡ has_run.ran.gives)
  flows_on node_reads node_adds merge_adds dump_adds first old new has_run fits nodes merge dumps next =
      let long = turned_long d.turned first.dumps old.dumps has_run.ran.gives has_run.dumps in
      let same : joined has_run.ran.gives (nothing_for old.dumps) ≡ has_run.ran.gives = joined_nothing has_run.ran.gives old.dumps (long.1 ∙ sym long.0) in (
        record {
          fits = fits;
          window = has_run.window + 1;
          flow = next.flow;
          nodes = zip_then r.read_on node_adds first.nodes old.nodes new.nodes has_run.nodes (zip_weaker a.turned r.read_on node_reads old.nodes new.nodes nodes);
          merge = merge_adds first.merge old.merge new.merge has_run.merge merge;
          dumps =
              subst (λ gets. AllTurned d.turned first.dumps gets new.dumps) (same ∙ sym next.gets)
              (turned_then d.turned dump_adds first.dumps old.dumps new.dumps has_run.ran.gives (nothing_for old.dumps) has_run.dumps dumps);
        },
        next.gets,
      )

module _ {N M D : Type 0} (a : Sender N NodeItem) (m : Passer M NodeItem DumpItem) (d : Taker D DumpItem) (r : Rereading N) where
  -- what jobs that have run to a window's end did
  pub ended_from : (first line : Line N M D NodeItem DumpItem) (has_run : HasRun a m d r first line)
      → HaveEndedFrom a m r first.nodes first.merge line.nodes line.merge has_run.window has_run.ran.sends has_run.ran.gives
  ended_from first line has_run = record {
    nodes_on = has_run.nodes;
    merge_on = has_run.merge;
    sent = has_run.ran.of_nodes;
    did = has_run.ran.of_merge;
    nodes_ended = has_run.ran.nodes_ended;
    merge_ended = has_run.ran.merge_ended;
  }

  -- so they have run
  pub have_run : (first line : Line N M D NodeItem DumpItem) → HasRun a m d r first line → HaveRun a m r first.nodes first.merge line.nodes line.merge
  have_run first line has_run = record { window = has_run.window; sends = has_run.ran.sends; gives = has_run.ran.gives; ended = ended_from first line has_run }
