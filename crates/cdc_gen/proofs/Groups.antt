-- The events of a branch's group, part by part.
use Rattle.std.proofs.Common.{◌≡◌, ℕ, List, ap, ◌∙◌}
use Rattle.cdc_base.specs.declared.xid.Xid.{Xid as BranchXid}
use Rattle.cdc_event.specs.declared.body.Body.TheVariants.{XaPrepare}
use Rattle.cdc_query.specs.declared.verb.Verb.TheVariants.{XaEnd}
use Rattle.cdc_gen.specs.Events.{unplaced, seconds_of, branch_xid, xa_body, start_events, finish_events, prepare_events}
use Rattle.cdc_gen.specs.Logs.{with_event, with_events}

pub finished : (k node : ℕ) (log mid new : List ℕ) (first second : BranchXid) → first ≡ branch_xid k node → second ≡ branch_xid k node →
    mid ≡ with_event node log (unplaced (seconds_of k) 2 (xa_body (XaEnd first))) →
    new ≡ with_event node mid (unplaced (seconds_of k) 38 (XaPrepare 0 second)) →
    new ≡ with_events node log (finish_events k node)
finished k node log mid new first second f s m n =
    n ∙ ap (λ front. with_event node front (unplaced (seconds_of k) 38 (XaPrepare 0 second))) m
    ∙ ap (λ (x : BranchXid). with_event node (with_event node log (unplaced (seconds_of k) 2 (xa_body (XaEnd x)))) (unplaced (seconds_of k) 38 (XaPrepare 0 second))) f
    ∙ ap (λ (x : BranchXid). with_event node (with_event node log (unplaced (seconds_of k) 2 (xa_body (XaEnd (branch_xid k node))))) (unplaced (seconds_of k) 38 (XaPrepare 0 x))) s

pub prepared : (k node : ℕ) (log mid new : List ℕ) → mid ≡ with_events node log (start_events k node) → new ≡ with_events node mid (finish_events k node) →
    new ≡ with_events node log (prepare_events k node)
prepared k node log mid new m n = n ∙ ap (λ front. with_events node front (finish_events k node)) m
