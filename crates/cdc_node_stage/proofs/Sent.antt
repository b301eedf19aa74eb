-- What a stage sent, with an item more.
use Rattle.std.proofs.Common.{◌≡◌, ℕ, ◌+◌, inl, inr, Bool, true, false, List, [], ◌∷◌, ◌++◌, append-nil, Option, Some, None, refl, sym, ap, subst, ◌∙◌, arith}
use Rattle.std.specs.Prelude.{IsTrue}
use Rattle.std.specs.List.{AllByRecursion, fold}
use Rattle.std.proofs.lemmas.List.{append_cancel_left}
use Rattle.cdc_base.specs.declared.key.Key.{Key}
use Rattle.cdc_model.specs.Records.{LogEntry, CommittedBranch}
use Rattle.cdc_model.specs.Branch.{is_settled}
use Rattle.cdc_model.specs.Feed.{NodeFeed, FeedGrows}
use Rattle.cdc_model.specs.NodeReading.{no_feed, feed_with, feed_told}
use Rattle.cdc_model.specs.Restart.{RestartPoint}
use Rattle.cdc_sorter.specs.Sorting.{SortReading}
use Rattle.cdc_reader.specs.declared.step.NodeEnd.TheVariants.{Open, Memory as NoMemory}
use Rattle.cdc_reader.specs.Asking.{IsFromOn}
use Rattle.cdc_reader.specs.LogFront.{IsTakenTo}
use Rattle.cdc_reader.specs.Standing.{ReaderState, AllGiven, IsReading}
use Rattle.cdc_turns.specs.Ends.{EndsAs}
use Rattle.cdc_turns.proofs.Counting.{stays_open, closes_now}
use Rattle.cdc_item.specs.declared.node_item.NodeItem.{NodeItem}
use Rattle.cdc_item.specs.declared.node_item.NodeItem.TheVariants.{Branch, Bound, End}
use Rattle.cdc_item.specs.Item.{closes_node_window}
use Rattle.cdc_node_stage.specs.Feeding.{fed_item, feed_sent, ComeInTime, waiting_item}
use Rattle.cdc_node_stage.specs.Sending.{NodeState, reading_of, IsWindowOver, IsWindowGiven, HasSent, IsNodeStanding}
use Rattle.cdc_node_stage.specs.Preparing.{sent_state, opened_again}

-- ---- feeds

fold_more : (feed : NodeFeed) (items : List NodeItem) (item : NodeItem) → fold fed_item feed (items ++ item ∷ []) ≡ fed_item (fold fed_item feed items) item
fold_more feed [] item = refl
fold_more feed (first ∷ items) item = fold_more (fed_item feed first) items item

pub feed_more : (items : List NodeItem) (item : NodeItem) → feed_sent (items ++ item ∷ []) ≡ fed_item (feed_sent items) item
feed_more items item = fold_more no_feed items item

pub in_time_more : (feed : NodeFeed) (items : List NodeItem) (item : NodeItem) → ComeInTime feed items → ComeInTime (fold fed_item feed items) (item ∷ []) → ComeInTime feed (items ++ item ∷ [])
in_time_more feed [] item before next = next
in_time_more feed (Branch branch ∷ items) item before next = (before.0, in_time_more (feed_with feed branch) items item before.1 next)
in_time_more feed (Bound bound ∷ items) item before next = (before.0, in_time_more (feed_told feed bound) items item before.1 next)
in_time_more feed (End ∷ items) item before next = in_time_more feed items item before next

-- an item by which a feed grows comes in time
pub grows_in_time : (feed : NodeFeed) (item : NodeItem) → FeedGrows feed (fed_item feed item) → ComeInTime feed (item ∷ [])
grows_in_time feed (Branch branch) grows =
    let is : branch ∷ [] ≡ grows.more = append_cancel_left feed.branches (branch ∷ []) grows.more grows.goes_on in
    let above = subst (AllByRecursion (λ (b : CommittedBranch). is_settled feed.bound b.key ≡ false)) (sym is) grows.above in
    (above.0, tt)
grows_in_time feed (Bound bound) grows = (grows.bounded, tt)
grows_in_time feed End grows = tt

-- ---- a stage with another reader

abbrev pub after : NodeState → ReaderState → Option NodeItem → ℕ → NodeState
after s reader pending room = record { reader = reader; from = s.from; pending = pending; window = s.window; room = room; ended = s.ended }

abbrev reading_at : Key → RestartPoint → ℕ → SortReading
reading_at last from node = record { last = last; from = from; node = node }

pub same_reading : (tells : Bool) (files : List (List ℕ)) (s : NodeState) (reader : ReaderState) (pending : Option NodeItem) (room : ℕ) (taken : List LogEntry) (feed : NodeFeed)
    → IsReading tells files reader (reading_of s) taken feed → reading_of (after s reader pending room) ≡ reading_of s
same_reading tells files s reader pending room taken feed reads =
    ap (λ (last : Key). reading_at last s.from reader.sorter.node) reads.feeding.sorted.last
    ∙ ap (λ (node : ℕ). reading_at s.reader.sorter.last s.from node) reads.feeding.sorted.node

-- what stands where the End waits
abbrev pub GivenThen : Bool → List (List ℕ) → NodeState → ReaderState → List LogEntry → NodeFeed → Type 0
GivenThen tells files s reader taken feed =
    ((reader.end ≡ NoMemory → ⊥) → AllGiven (reading_of s) taken feed)
    × (reader.end ≡ Open → IsTrue tells → IsTakenTo s.from files reader.log.follower reader.log.place taken)

pub built : (tells : Bool) (files : List (List ℕ)) (s : NodeState) (reader : ReaderState) (pending : Option NodeItem) (room window : ℕ) (items : List NodeItem) (taken : List LogEntry)
    → s.ended ≡ false → EndsAs closes_node_window window s.ended items → IsReading tells files reader (reading_of s) taken (feed_sent (items ++ waiting_item pending))
    → ComeInTime no_feed (items ++ waiting_item pending)
    → (pending ≡ Some End → GivenThen tells files s reader taken (feed_sent (items ++ waiting_item pending)))
    → HasSent tells files (after s reader pending room) window items
built tells files s reader pending room window items taken open_still ends reads in_time given =
    let same = same_reading tells files s reader pending room taken (feed_sent (items ++ waiting_item pending)) reads in record {
      taken = taken;
      reads = subst (λ (r : SortReading). IsReading tells files reader r taken (feed_sent (items ++ waiting_item pending))) (sym same) reads;
      in_time = in_time;
      ends = ends;
      closed = λ over. by over same;
      emptied = λ is. absurd (let h : true ≡ false = sym is ∙ open_still in cc);
    }
  where
    waits : pending ≡ Some End → reading_of (after s reader pending room) ≡ reading_of s → IsWindowGiven tells files (after s reader pending room) taken (feed_sent (items ++ waiting_item pending))
    waits is same =
        let stands = given is in record {
          given = λ not. subst (λ (r : SortReading). AllGiven r taken (feed_sent (items ++ waiting_item pending))) (sym same) (stands.0 not);
          all = stands.1;
        }

    by : IsWindowOver (after s reader pending room) → reading_of (after s reader pending room) ≡ reading_of s → IsWindowGiven tells files (after s reader pending room) taken (feed_sent (items ++ waiting_item pending))
    by (inl is) same = absurd (let h : true ≡ false = sym is ∙ open_still in cc)
    by (inr is) same = waits is same

pub still_stands : (tells : Bool) (files : List (List ℕ)) (s : NodeState) (reader : ReaderState) (pending : Option NodeItem) (room : ℕ) (taken : List LogEntry) (feed : NodeFeed)
    → IsReading tells files reader (reading_of s) taken feed → IsFromOn s.from.place reader.log.place → IsNodeStanding tells files (after s reader pending room)
still_stands tells files s reader pending room taken feed reads onward = record {
  taken = taken;
  feed = feed;
  reads = subst (λ (r : SortReading). IsReading tells files reader r taken feed) (sym (same_reading tells files s reader pending room taken feed reads)) reads;
  onward = onward;
}

-- where nothing waits
pub nothing_waits : (items : List NodeItem) (pending : Option NodeItem) → pending ≡ None → items ++ waiting_item pending ≡ items
nothing_waits items pending none = ap (λ (o : Option NodeItem). items ++ waiting_item o) none ∙ append-nil items

-- ---- an item is sent

end_is : (item : NodeItem) → closes_node_window item ≡ true → item ≡ End
end_is (Branch branch) is = absurd (let h : false ≡ true = is in cc)
end_is (Bound bound) is = absurd (let h : false ≡ true = is in cc)
end_is End is = refl

one_item_more : (window : ℕ) (before : List NodeItem) (item : NodeItem) → EndsAs closes_node_window window false before → EndsAs closes_node_window window (closes_node_window item) (before ++ item ∷ [])
one_item_more window before (Branch branch) ends = stays_open closes_node_window window before (Branch branch) refl ends
one_item_more window before (Bound bound) ends = stays_open closes_node_window window before (Bound bound) refl ends
one_item_more window before End ends = closes_now closes_node_window window before End refl ends

pub item_sent : (tells : Bool) (files : List (List ℕ)) (s : NodeState) (item : NodeItem) (window : ℕ) (before : List NodeItem) → s.pending ≡ Some item → s.ended ≡ false
    → HasSent tells files s window before → HasSent tells files (sent_state s item) window (before ++ item ∷ [])
item_sent tells files s item window before waits open_still sent =
    let all : before ++ waiting_item s.pending ≡ (before ++ item ∷ []) ++ waiting_item None =
    ap (λ (o : Option NodeItem). before ++ waiting_item o) waits ∙ sym (append-nil (before ++ item ∷ [])) in record {
      taken = sent.taken;
      reads = subst (λ (list : List NodeItem). IsReading tells files s.reader (reading_of s) sent.taken (feed_sent list)) all sent.reads;
      in_time = subst (ComeInTime no_feed) all sent.in_time;
      ends = one_item_more window before item (subst (λ (b : Bool). EndsAs closes_node_window window b before) open_still sent.ends);
      closed = λ over. by over all;
      emptied = λ is. refl;
    }
  where
    given : item ≡ End → before ++ waiting_item s.pending ≡ (before ++ item ∷ []) ++ waiting_item None
        → IsWindowGiven tells files (sent_state s item) sent.taken (feed_sent ((before ++ item ∷ []) ++ waiting_item None))
    given is all =
        let stands = sent.closed (inr (waits ∙ ap Some is)) in record {
          given = λ not. subst (λ (list : List NodeItem). AllGiven (reading_of s) sent.taken (feed_sent list)) all (stands.given not);
          all = stands.all;
        }

    by : IsWindowOver (sent_state s item) → before ++ waiting_item s.pending ≡ (before ++ item ∷ []) ++ waiting_item None
        → IsWindowGiven tells files (sent_state s item) sent.taken (feed_sent ((before ++ item ∷ []) ++ waiting_item None))
    by (inl closes) all = given (end_is item closes) all
    by (inr none) all = absurd (let h : None ≡ Some End = none in cc)

-- the next window of a stage that has ended
pub opens_next : (tells : Bool) (files : List (List ℕ)) (s : NodeState) (window : ℕ) (items : List NodeItem) → s.ended ≡ true → HasSent tells files s window items
    → HasSent tells files (opened_again s) (window + 1) items
opens_next tells files s window items over sent = record {
  taken = sent.taken;
  reads = sent.reads;
  in_time = sent.in_time;
  ends =
      let closed = subst (λ (b : Bool). EndsAs closes_node_window window b items) over sent.ends in
      let count = closed.ends in omega (arith, count);
  closed = λ waits. by waits;
  emptied = λ is. absurd (let h : false ≡ true = is in cc);
}
  where
    by : IsWindowOver (opened_again s) → IsWindowGiven tells files (opened_again s) sent.taken (feed_sent (items ++ waiting_item s.pending))
    by (inl is) = absurd (let h : false ≡ true = is in cc)
    by (inr is) = absurd (let h : None ≡ Some End = sym (sent.emptied over) ∙ is in cc)
