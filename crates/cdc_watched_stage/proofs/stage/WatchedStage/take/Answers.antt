-- What waits behind the item, and what was handed on.
use Rattle.std.proofs.Common.{◌≤◌, ◌<◌, [], ◌∷◌, ◌++◌, false, refl, subst}
use Rattle.cdc_records.specs.declared.front.Front.{Front}
use Rattle.cdc_item.specs.Item.{units_among}
use Rattle.cdc_watched_stage.specs.declared.stage.WatchedStage.{WatchedStage}
use Rattle.cdc_watched_stage.specs.Handing.{HandsUpTo}
use Rattle.cdc_watched_stage.proofs.Handed.{near_on, watching_none, watching_one, hands_none, hands_one, hands_stopped}
use Rattle.cdc_watched_stage.proofs.stage.WatchedStage.take.Goals as goal

pub returns-then-not-lets_wait-clause-watching : goal.returns-then-not-lets_wait-clause-watching
returns-then-not-lets_wait-clause-watching g c =
    let new : WatchedStage = record { stage = c.take.new.self; waits = c.hand_on.new.waits; hands = c.args.self.now.hands } in
    watching_none g.W.Watch.kept g.W.Watch.ended c.args.self.now new c.args.item c.args.watch.now c.hand_on.new.watch c.requires.watching refl c.take.ensures.appends
    (λ going. subst (λ (f : Front). c.take.new.self.dumper.appended.count ≤ f.count) c.appended-before.ensures (c.lets_wait.ensures.none c.if-not-lets_wait.true going))
    c.take.ensures.publishes (near_on c.args.self.now new c.args.item c.take.ensures.took.item c.requires.standing.few c.take.ensures.took.leads c.take.ensures.appends c.take.ensures.publishes.later c.requires.watching.near)
    (subst (λ (f : Front). HandsUpTo g.W.Watch.kept g.W.Watch.ended f.count c.args.self.now.waits.items c.hand_on.new.waits.items c.args.watch.now c.hand_on.new.watch) c.published-count.ensures
    c.hand_on.ensures)

pub returns-then-not-lets_wait-clause-hands : goal.returns-then-not-lets_wait-clause-hands
returns-then-not-lets_wait-clause-hands g c =
    let new : WatchedStage = record { stage = c.take.new.self; waits = c.hand_on.new.waits; hands = c.args.self.now.hands } in
    hands_none g.W.Watch.kept g.W.Watch.ended c.args.self.now new c.args.item c.args.watch.now c.hand_on.new.watch c.requires.watching refl c.take.ensures.appends
    (λ going. subst (λ (f : Front). c.take.new.self.dumper.appended.count ≤ f.count) c.appended-before.ensures (c.lets_wait.ensures.none c.if-not-lets_wait.true going))
    c.take.ensures.publishes
    (subst (λ (f : Front). HandsUpTo g.W.Watch.kept g.W.Watch.ended f.count c.args.self.now.waits.items c.hand_on.new.waits.items c.args.watch.now c.hand_on.new.watch) c.published-count.ensures
    c.hand_on.ensures)

pub returns-in-Ok-clause-watching : goal.returns-in-Ok-clause-watching
returns-in-Ok-clause-watching g c =
    let new : WatchedStage = record { stage = c.take.new.self; waits = c.hand_on-in-Ok.new.waits; hands = c.args.self.now.hands } in
    watching_one g.W.Watch.kept g.W.Watch.ended c.args.self.now new c.args.item c.args.watch.now c.hand_on-in-Ok.new.watch c.requires.watching (c.lets_wait.ensures.waits c.if-not-lets_wait.false).0 refl c.take.ensures.appends
    (subst (λ (f : Front). f.count < c.take.new.self.dumper.appended.count) c.appended-before.ensures (c.lets_wait.ensures.waits c.if-not-lets_wait.false).1)
    c.take.ensures.publishes (near_on c.args.self.now new c.args.item c.take.ensures.took.item c.requires.standing.few c.take.ensures.took.leads c.take.ensures.appends c.take.ensures.publishes.later c.requires.watching.near)
    (subst (λ (f : Front). HandsUpTo g.W.Watch.kept g.W.Watch.ended f.count (c.args.self.now.waits.items ++ units_among (c.args.item ∷ [])) c.hand_on-in-Ok.new.waits.items c.args.watch.now c.hand_on-in-Ok.new.watch) c.published-count.ensures
    (subst (λ l. HandsUpTo g.W.Watch.kept g.W.Watch.ended c.published-count.result.count l c.hand_on-in-Ok.new.waits.items c.args.watch.now c.hand_on-in-Ok.new.watch) c.in-Ok.ensures.kept c.hand_on-in-Ok.ensures))

pub returns-in-Ok-clause-hands : goal.returns-in-Ok-clause-hands
returns-in-Ok-clause-hands g c =
    let new : WatchedStage = record { stage = c.take.new.self; waits = c.hand_on-in-Ok.new.waits; hands = c.args.self.now.hands } in
    hands_one g.W.Watch.kept g.W.Watch.ended c.args.self.now new c.args.item c.args.watch.now c.hand_on-in-Ok.new.watch (c.lets_wait.ensures.waits c.if-not-lets_wait.false).0 refl c.take.ensures.appends
    (subst (λ (f : Front). f.count < c.take.new.self.dumper.appended.count) c.appended-before.ensures (c.lets_wait.ensures.waits c.if-not-lets_wait.false).1)
    c.take.ensures.publishes
    (subst (λ (f : Front). HandsUpTo g.W.Watch.kept g.W.Watch.ended f.count (c.args.self.now.waits.items ++ units_among (c.args.item ∷ [])) c.hand_on-in-Ok.new.waits.items c.args.watch.now c.hand_on-in-Ok.new.watch) c.published-count.ensures
    (subst (λ l. HandsUpTo g.W.Watch.kept g.W.Watch.ended c.published-count.result.count l c.hand_on-in-Ok.new.waits.items c.args.watch.now c.hand_on-in-Ok.new.watch) c.in-Ok.ensures.kept c.hand_on-in-Ok.ensures))

pub returns-in-Err-clause-hands : goal.returns-in-Err-clause-hands
returns-in-Err-clause-hands g c =
    let new : WatchedStage = record { stage = c.take.new.self; waits = c.give_up.new.waits; hands = false } in
    hands_stopped g.W.Watch.kept g.W.Watch.ended c.args.self.now new c.args.item c.hand_on-in-Err.new.waits.items c.args.watch.now c.hand_on-in-Err.new.watch c.give_up.new.watch (c.lets_wait.ensures.waits c.if-not-lets_wait.false).0 refl c.take.ensures.appends
    (subst (λ (f : Front). f.count < c.take.new.self.dumper.appended.count) c.appended-before.ensures (c.lets_wait.ensures.waits c.if-not-lets_wait.false).1)
    c.take.ensures.publishes.later c.in-Err.ensures.some
    (subst (λ (f : Front). HandsUpTo g.W.Watch.kept g.W.Watch.ended f.count c.args.self.now.waits.items c.hand_on-in-Err.new.waits.items c.args.watch.now c.hand_on-in-Err.new.watch) c.published-count.ensures
    (subst (λ l. HandsUpTo g.W.Watch.kept g.W.Watch.ended c.published-count.result.count l c.hand_on-in-Err.new.waits.items c.args.watch.now c.hand_on-in-Err.new.watch) c.in-Err.ensures.full c.hand_on-in-Err.ensures)) c.give_up.ensures.kept c.give_up.ensures.ended
