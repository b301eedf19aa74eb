use Rattle.std.proofs.Common.{List, ℕ, sym, subst}
use Rattle.cdc_session.specs.Packing.{Packed}
use Rattle.cdc_session.proofs.Sent.{no_end, none_packed}
use Rattle.cdc_session.proofs.dumping.pack_end.Goals as goal

pub returns-else-flags-eq-NO_WAITING-clause-told : goal.returns-else-flags-eq-NO_WAITING-clause-told
returns-else-flags-eq-NO_WAITING-clause-told g c told =
    let before : List ℕ = g.L.Link.written c.args.link.now in
    let held : List ℕ = c.args.out.now.held in
    let number : ℕ = c.args.out.now.sequence in
    subst (λ (p : List (List ℕ)). Packed before held number p before held number) (sym (no_end c.args.flags c.if-flags-eq-NO_WAITING.false)) (none_packed before held number)
