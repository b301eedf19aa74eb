-- What ran in one window flows in the next.
use Rattle.std.proofs.Common.{◌≡◌, ℕ, zero, suc, ◌+◌, List, [], ◌∷◌, length, get_or, refl, sym, arith}
use Rattle.std.specs.List.{AllZip, All}
use Rattle.std.proofs.lemmas.List.{length-map}
use Rattle.cdc_lane.specs.declared.plain.PlainLane.{PlainLane}
use Rattle.cdc_lane.specs.Held.{held}
use Rattle.cdc_turns.specs.Account.{Sender, Passer, Taker}
use Rattle.cdc_turns.specs.Ends.{NextWindow, NextMerge}
use Rattle.cdc_turns.specs.Joined.{contents}
use Rattle.cdc_turns.specs.Flow.{line_with, LanesFit, Ran, NextFlow}
use Rattle.cdc_turns.proofs.Lanewise.{joined_empty}
use Rattle.cdc_turns.proofs.Pairwise.{zip_long, zip_over}

contents_empty : {T : Type 0} (lanes : List (PlainLane T)) → All (λ lane. held lane ≡ []) lanes → (k : ℕ) → get_or (contents lanes) k [] ≡ []
contents_empty [] all k = refl
contents_empty (lane ∷ lanes) all zero = all zero lane (omega arith)
contents_empty (lane ∷ lanes) all (suc k) = contents_empty lanes (λ j d within. all (suc j) d (omega (arith, within))) k

pub next_flow : {N M D T U : Type 0} (a : Sender N T) (m : Passer M T U) (d : Taker D U) (nodes later_nodes : List N) (merge later_merge : M) (dumps later_dumps : List D) (window : ℕ) (ins : List (PlainLane T)) (outs : List (PlainLane U))
    → AllZip (NextWindow a.sent) nodes later_nodes → NextMerge m merge later_merge → AllZip (NextWindow d.got) dumps later_dumps
    → LanesFit m (line_with nodes ins merge outs dumps) → (ran : Ran a m d window (line_with nodes ins merge outs dumps)) → NextFlow a m d window (line_with nodes ins merge outs dumps) (line_with later_nodes ins later_merge outs later_dumps) ran
next_flow a m d nodes later_nodes merge later_merge dumps later_dumps window ins outs next_nodes next_merge next_dumps fits ran =
    let many_sends = zip_long (λ n items. a.sent n window items) nodes ran.sends ran.of_nodes in
    let many_gives = zip_long (λ n items. d.got n window items) dumps ran.gives ran.of_dumps in
    let fits_nodes : length nodes ≡ length ins = fits.nodes in
    let fits_dumps : length dumps ≡ length outs = fits.dumps in
    let long_in = length-map ins held in
    let long_out = length-map outs held in
    record {
      flow = record {
        sends = ran.sends;
        takes = ran.sends;
        gives = ran.gives;
        gets = ran.gives;
        of_nodes = zip_over (NextWindow a.sent) (λ n items. a.sent n window items) (λ n items. a.sent n (window + 1) items) (λ x y items next sent. next window items sent) nodes later_nodes ran.sends next_nodes ran.of_nodes;
        of_merge = next_merge.next window ran.sends ran.gives ran.of_merge;
        of_dumps = zip_over (NextWindow d.got) (λ n items. d.got n window items) (λ n items. d.got n (window + 1) items) (λ x y items next got. next window items got) dumps later_dumps ran.gives next_dumps ran.of_dumps;
        ins_hold = sym (joined_empty ran.sends (contents ins) (omega (arith, many_sends, fits_nodes, long_in)) (contents_empty ins ran.ins_empty));
        outs_hold = sym (joined_empty ran.gives (contents outs) (omega (arith, many_gives, fits_dumps, long_out)) (contents_empty outs ran.outs_empty));
      };
      gets = refl;
    }
