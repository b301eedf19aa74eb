use Rattle.std.proofs.Common.{◌≡◌, ◌≤◌, ◌+◌, List, [], length, Option, ap, sym, subst, ◌∙◌, arith}
use Rattle.std.specs.Vec.{with_items}
use Rattle.std.proofs.lemmas.List.{with_items_is}
use Rattle.cdc_base.specs.declared.key.Key.{Key}
use Rattle.cdc_base.specs.Key.{key_order}
use Rattle.cdc_model.specs.Transaction.{first_seconds}
use Rattle.cdc_model.specs.Feed.{NodeFeed}
use Rattle.cdc_model.specs.Records.{CommittedBranch}
use Rattle.cdc_merger.specs.Heads.{HasNoHead, HasHead, LeadsWith, head_count}
use Rattle.cdc_merger.specs.Rounds.{CanGather, TakesFew}
use Rattle.cdc_merger.specs.Merging.{Merging, IsRoundOf}
use Rattle.cdc_merger.proofs.Counting.{counts_none, counts_some}
use Rattle.cdc_merger.proofs.Growing.{merging, transaction_at, nodes_in_order, ready_first, merges_none, next_is, gathers_as}
use Rattle.cdc_merger.proofs.merger.Merger.next.Goals as goal

pub returns-in_default-clause-gives : goal.returns-in_default-clause-gives
returns-in_default-clause-gives g c = λ count last feeds gave m few.
    let empty : HasNoHead c.prepare.new.self.heads =
    subst (λ (list : List (Option Key)). HasNoHead list) (ap (λ (seen : Merging). seen.heads) c.self.view_is) c.in_default.ensures.none in
    let none = c.prepare.ensures.none empty in
    (merges_none c.args.self.now none.1 count last feeds gave m, none.0)

pub returns-in-Ok-clause-gives : goal.returns-in-Ok-clause-gives
returns-in-Ok-clause-gives g c = λ count last feeds gave m few.
    let items = c.self.inside.nodes.items in
    let merger : Merging = merging c.self.inside.count items c.self.inside.heads c.self.inside.round in
    let view : merger ≡ c.prepare.new.self = c.self.view_is in
    let some : HasHead c.prepare.new.self.heads =
    subst (λ (list : List (Option Key)). HasHead list) (ap (λ (seen : Merging). seen.heads) view) c.in-Some.ensures.has in
    let round : IsRoundOf merger count last feeds gave =
    subst (λ (seen : Merging). IsRoundOf seen count last feeds gave) (sym view) (c.prepare.ensures.merges count last feeds gave some m) in
    let leads : LeadsWith key_order c.self.inside.heads c.in-Some.field-0-0 c.key-key.result =
    subst (LeadsWith key_order c.self.inside.heads c.in-Some.field-0-0) (sym c.key-key.ensures.value) c.in-Some.ensures.some in
    let whole : length c.gather.new.nodes ≡ c.self.inside.nodes.len = omega (arith, c.gather.auto.nodes, c.deref_mut.ensures.len) in
    let left : (with_items c.self.inside.nodes c.gather.new.nodes).items ≡ c.gather.new.nodes = with_items_is c.self.inside.nodes c.gather.new.nodes whole in
    let long : length (with_items c.self.inside.nodes c.gather.new.nodes).items ≡ length items =
    ap (λ (list : List NodeFeed). length list) left ∙ c.gather.auto.nodes ∙ ap (λ (list : List NodeFeed). length list) c.deref_mut.ensures.value in
    next_is merger c.key-key.result c.in-Some.field-0-0 (with_items c.self.inside.nodes c.gather.new.nodes).items c.gather.new.heads c.gather.new.own c.one_more-self-inside.result
    c.first_seconds.result leads long (c.in-Ok.ensures.many ∙ c.self.invariant.many)
    (gathers_as c.self.inside.round c.key-key.result c.deref_mut.result.now items c.gather.new.nodes (with_items c.self.inside.nodes c.gather.new.nodes).items c.self.inside.heads
    c.gather.new.heads c.new-branches.result c.gather.new.own c.deref_mut.ensures.value left c.new-branches.ensures c.in-Ok.ensures.gathers)
    c.one_more-self-inside.ensures (c.first_seconds.ensures ∙ ap first_seconds c.as_slice.ensures) count last feeds gave round few

pub returns-in_default-clause-counts : goal.returns-in_default-clause-counts
returns-in_default-clause-counts g c = λ start count last feeds gave m counted.
    let empty : HasNoHead c.prepare.new.self.heads =
    subst (λ (list : List (Option Key)). HasNoHead list) (ap (λ (seen : Merging). seen.heads) c.self.view_is) c.in_default.ensures.none in
    counts_none c.args.self.now c.prepare.new.self start c.args.steps.now c.prepare.new.steps gave c.prepare.ensures.nodes.0 c.prepare.ensures.few empty counted

pub returns-in-Ok-clause-counts : goal.returns-in-Ok-clause-counts
returns-in-Ok-clause-counts g c = λ start count last feeds gave m counted.
    let items = c.self.inside.nodes.items in
    let merger : Merging = merging c.self.inside.count items c.self.inside.heads c.self.inside.round in
    let view : merger ≡ c.prepare.new.self = c.self.view_is in
    let some : HasHead c.prepare.new.self.heads =
    subst (λ (list : List (Option Key)). HasHead list) (ap (λ (seen : Merging). seen.heads) view) c.in-Some.ensures.has in
    let round : IsRoundOf merger count last feeds gave =
    subst (λ (seen : Merging). IsRoundOf seen count last feeds gave) (sym view) (c.prepare.ensures.merges count last feeds gave some m) in
    let leads : LeadsWith key_order c.self.inside.heads c.in-Some.field-0-0 c.key-key.result =
    subst (LeadsWith key_order c.self.inside.heads c.in-Some.field-0-0) (sym c.key-key.ensures.value) c.in-Some.ensures.some in
    let ready = ready_first c.self.inside.round c.key-key.result items c.self.inside.heads c.in-Some.field-0-0 (nodes_in_order merger count last feeds gave round.merges) round.entered leads in
    let here = subst (λ (all : List NodeFeed). CanGather c.self.inside.round c.key-key.result 0 all c.self.inside.heads) (sym c.deref_mut.ensures.value) ready in
    let took = c.in-Ok.ensures.few here in
    let whole : length c.gather.new.nodes ≡ c.self.inside.nodes.len = omega (arith, c.gather.auto.nodes, c.deref_mut.ensures.len) in
    let left : (with_items c.self.inside.nodes c.gather.new.nodes).items ≡ c.gather.new.nodes = with_items_is c.self.inside.nodes c.gather.new.nodes whole in
    let long : length (with_items c.self.inside.nodes c.gather.new.nodes).items ≡ length items =
    ap (λ (list : List NodeFeed). length list) left ∙ c.gather.auto.nodes ∙ ap (λ (list : List NodeFeed). length list) c.deref_mut.ensures.value in
    let same : length items ≡ length c.args.self.now.nodes =
    ap (λ (seen : Merging). length seen.nodes) view ∙ ap (λ (list : List NodeFeed). length list) c.prepare.ensures.nodes.0 in
    let few = subst (λ (seen : Merging). c.prepare.new.steps + head_count c.args.self.now.heads ≤ c.args.steps.now + head_count seen.heads) (sym view) c.prepare.ensures.few in
    let own = subst (λ (list : List CommittedBranch). TakesFew (length c.deref_mut.result.now) c.prepare.new.steps c.gather.new.steps c.self.inside.heads c.gather.new.heads list c.gather.new.own)
    c.new-branches.ensures took in
    let all = subst (λ (list : List NodeFeed). TakesFew (length list) c.prepare.new.steps c.gather.new.steps c.self.inside.heads c.gather.new.heads [] c.gather.new.own) c.deref_mut.ensures.value own in
    counts_some c.args.self.now merger
    (merging c.one_more-self-inside.result (with_items c.self.inside.nodes c.gather.new.nodes).items c.gather.new.heads c.self.inside.round) start c.args.steps.now c.prepare.new.steps
    c.gather.new.steps gave (transaction_at c.one_more-self-inside.result c.key-key.result c.first_seconds.result c.gather.new.own) same (long ∙ same) few all counted
