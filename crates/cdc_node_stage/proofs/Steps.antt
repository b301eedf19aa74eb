-- The steps of a turn: what comes next at hand, and what a read comes to.
use Rattle.std.proofs.Common.{◌≡◌, ℕ, ◌+◌, ◌≤◌, ◌<◌, ◌^◌, ◌⊎◌, inl, inr, Bool, true, false, not, List, ◌++◌, length, append-nil, Option, Some, None, refl, sym, ap, subst, ◌∙◌, arith, le_refl}
use Rattle.std.specs.Prelude.{IsTrue, IfNone, IfSome, is_none, ◌==◌}
use Rattle.cdc_base.specs.declared.place.Place.{Place}
use Rattle.cdc_model.specs.Records.{LogEntry}
use Rattle.cdc_model.specs.Feed.{NodeFeed}
use Rattle.cdc_model.specs.NodeReading.{no_feed}
use Rattle.cdc_sorter.specs.Sorting.{Sorting, SortReading}
use Rattle.cdc_reader.specs.declared.step.NodeEnd.{NodeEnd}
use Rattle.cdc_reader.specs.declared.step.NodeEnd.TheVariants.{Open, Whole, Read as ReadFailed, Memory as NoMemory, Fault as Faulty}
use Rattle.cdc_reader.specs.declared.step.Step.{Step}
use Rattle.cdc_reader.specs.declared.step.Step.TheVariants.{Branch as GivesBranch, Bound as TellsBound, Read as BytesRead, End as LastStep}
use Rattle.cdc_reader.specs.Asking.{IsFromOn, bytes_up_to, bytes_in}
use Rattle.cdc_reader.specs.Filling.{IsLogSized}
use Rattle.cdc_reader.specs.LogFront.{IsTakenTo}
use Rattle.cdc_reader.specs.Standing.{ReaderState, AllGiven, IsReading, IsGiving, is_going, feed_by, Comes, StepsTo, WantsBytes}
use Rattle.cdc_reader.proofs.Steps.{open_at}
use Rattle.cdc_turns.specs.Turns.{one_if}
use Rattle.cdc_item.specs.declared.node_item.NodeItem.{NodeItem}
use Rattle.cdc_item.specs.declared.node_item.NodeItem.TheVariants.{Branch, Bound, End}
use Rattle.cdc_node_stage.specs.Feeding.{feed_sent, ComeInTime, waiting_item}
use Rattle.cdc_node_stage.specs.Sending.{NodeState, reading_of, HasSent, IsNodeStanding}
use Rattle.cdc_node_stage.specs.Turning.{items_at_hand, moves_waiting, moves_left, KeepsReading, ReadsWithin}
use Rattle.cdc_node_stage.specs.Preparing.{HasSentAll, StandsAll, AllWasSent, item_of, count_in, step_read, Prepares}
use Rattle.cdc_node_stage.specs.NodeLaws.{keeps_itself, keeps_on}
use Rattle.cdc_node_stage.proofs.Costs.{low_at, at_most_one, falls, falls_none, over_zero, going_one, going_falls}
use Rattle.cdc_node_stage.proofs.Sent.{feed_more, in_time_more, grows_in_time, after, same_reading, built, still_stands, nothing_waits}

-- what waited is sent first
pub waited : (tells : Bool) (files : List (List ℕ)) (s : NodeState) (item : NodeItem) → IsNodeStanding tells files s → s.ended ≡ false
    → Prepares tells files (HasSent tells files s) s s (Some item)
waited tells files s item stands open_still = record {
  sends = λ window items sent. sent;
  stands = stands;
  going = open_still;
  cost = omega arith;
  done = λ is. absurd (let h : Some item ≡ None = is in cc);
  keeps = keeps_itself s;
  within = λ told. le_refl _;
}

-- ---- what comes next at hand

ended_step : (tells : Bool) (files : List (List ℕ)) (reader : ReaderState) (reading : SortReading) (taken : List LogEntry) (feed : NodeFeed) (step : Step)
    → item_of step ≡ End → ((count : ℕ) → step ≡ BytesRead count → ⊥) → Comes tells files reader reading taken feed step → reader.end ≡ Open → ⊥
ended_step tells files reader reading taken feed (GivesBranch branch) is no_read comes = absurd (let h : Branch branch ≡ End = is in cc)
ended_step tells files reader reading taken feed (TellsBound bound) is no_read comes = absurd (let h : Bound bound ≡ End = is in cc)
ended_step tells files reader reading taken feed (BytesRead count) is no_read comes = absurd (no_read count refl)
ended_step tells files reader reading taken feed LastStep is no_read comes = comes.0

module _ (tells : Bool) (files : List (List ℕ)) (s : NodeState) (reader : ReaderState) (none : s.pending ≡ None) (open_still : s.ended ≡ false) where
  -- what was sent, without what waits
  clean_reads : (window : ℕ) (items : List NodeItem) (sent : HasSent tells files s window items) → IsReading tells files s.reader (reading_of s) sent.taken (feed_sent items)
  clean_reads window items sent = subst (λ (list : List NodeItem). IsReading tells files s.reader (reading_of s) sent.taken (feed_sent list)) (nothing_waits items s.pending none) sent.reads

  clean_time : (window : ℕ) (items : List NodeItem) → HasSent tells files s window items → ComeInTime no_feed items
  clean_time window items sent = subst (ComeInTime no_feed) (nothing_waits items s.pending none) sent.in_time

  handed : (step : Step) (window : ℕ) (items : List NodeItem) (sent : HasSent tells files s window items) → ((count : ℕ) → step ≡ BytesRead count → ⊥)
      → StepsTo tells files reader (reading_of s) sent.taken (feed_sent items) step → HasSent tells files (after s reader (Some (item_of step)) s.room) window items
  handed (GivesBranch branch) window items sent no_read steps =
      built tells files s reader (Some (Branch branch)) s.room window items (sent.taken ++ steps.more) open_still sent.ends
      (subst (λ (feed : NodeFeed). IsReading tells files reader (reading_of s) (sent.taken ++ steps.more) feed) (sym (feed_more items (Branch branch))) steps.reads)
      (in_time_more no_feed items (Branch branch) (clean_time window items sent) (grows_in_time (feed_sent items) (Branch branch) steps.grows))
      (λ is. absurd (let h : Some (Branch branch) ≡ Some End = is in cc))
  handed (TellsBound bound) window items sent no_read steps =
      built tells files s reader (Some (Bound bound)) s.room window items (sent.taken ++ steps.more) open_still sent.ends
      (subst (λ (feed : NodeFeed). IsReading tells files reader (reading_of s) (sent.taken ++ steps.more) feed) (sym (feed_more items (Bound bound))) steps.reads)
      (in_time_more no_feed items (Bound bound) (clean_time window items sent) (grows_in_time (feed_sent items) (Bound bound) steps.grows))
      (λ is. absurd (let h : Some (Bound bound) ≡ Some End = is in cc))
  handed (BytesRead count) window items sent no_read steps = absurd (no_read count refl)
  handed LastStep window items sent no_read steps =
      built tells files s reader (Some End) s.room window items (sent.taken ++ steps.more) open_still sent.ends
      (subst (λ (feed : NodeFeed). IsReading tells files reader (reading_of s) (sent.taken ++ steps.more) feed) (sym (feed_more items End)) steps.reads)
      (in_time_more no_feed items End (clean_time window items sent) tt)
      (λ is. (
        λ not. subst (λ (feed : NodeFeed). AllGiven (reading_of s) (sent.taken ++ steps.more) feed) (sym (feed_more items End)) (steps.comes.1 not),
        λ going. absurd (steps.comes.0 going),
      ))

  module _ (place : reader.log.place ≡ s.reader.log.place) (over : (s.reader.end ≡ Open → ⊥) → reader.end ≡ s.reader.end)
      (cuts : reader.entries + length reader.log.follower.cutter.rest ≤ s.reader.entries + length s.reader.log.follower.cutter.rest)
      (known : (told : Bool) (held : List (List ℕ)) (reading : SortReading) (taken : List LogEntry) (feed : NodeFeed) → IsReading told held s.reader reading taken feed
      → reader.sorter.trail.known ≡ s.reader.sorter.trail.known) where
    keeps_reading : (pending : Option NodeItem) (taken : List LogEntry) (feed : NodeFeed) (stands : IsNodeStanding tells files s)
        → IsReading tells files reader (reading_of s) taken feed → KeepsReading s (after s reader pending s.room)
    keeps_reading pending taken feed stands reads = record {
      reading = same_reading tells files s reader pending s.room taken feed reads;
      window = refl;
      known = known tells files (reading_of s) stands.taken stands.feed stands.reads;
      over = over;
    }

    stands_there : IsFromOn s.from.place s.reader.log.place → IsFromOn s.from.place reader.log.place
    stands_there onward = subst (λ (p : Place). IsFromOn s.from.place p) (sym place) onward

    within_there : (pending : Option NodeItem) → ReadsWithin tells files s (after s reader pending s.room)
    within_there pending told = let same = ap (bytes_up_to files) place in omega (arith, same)

    -- what comes next is given
    pub prepares_step : (step : Step) (item : Option NodeItem) (was_going : Bool) → IsNodeStanding tells files s
        → ((reading : SortReading) (taken : List LogEntry) (feed : NodeFeed) → IsReading tells files s.reader reading taken feed → StepsTo tells files reader reading taken feed step)
        → ((count : ℕ) → step ≡ BytesRead count → ⊥) → ((bound : ℕ) → step ≡ TellsBound bound → bound ≡ s.reader.told → ⊥)
        → was_going ≡ is_going s.reader.end → IfNone item ((was_going ≡ true) × (item_of step ≡ End))
        → Prepares tells files (HasSent tells files s) s (after s reader (Some (item_of step)) s.room) item
    prepares_step step item was_going stands steps no_read fresh was none_is =
        let next = steps (reading_of s) stands.taken stands.feed stands.reads in record {
          sends = λ window items sent. handed step window items sent no_read (steps (reading_of s) sent.taken (feed_sent items) (clean_reads window items sent));
          stands =
              still_stands tells files s reader (Some (item_of step)) s.room (stands.taken ++ next.more) (feed_by step stands.feed) next.reads (stands_there stands.onward);
          going = open_still;
          cost = costs item none_is next (falls tells files s.reader reader (reading_of s) stands.taken stands.feed stands.reads next.more cuts step next.reads fresh next.comes);
          done = λ is. inr (ends_now item none_is next is);
          keeps = keeps_reading (Some (item_of step)) (stands.taken ++ next.more) (feed_by step stands.feed) stands next.reads;
          within = within_there (Some (item_of step));
        }
      where
        going_told : (end : NodeEnd) → is_going end ≡ true → end ≡ Open
        going_told Open is = refl
        going_told Whole is = absurd (let h : false ≡ true = is in cc)
        going_told ReadFailed is = absurd (let h : false ≡ true = is in cc)
        going_told NoMemory is = absurd (let h : false ≡ true = is in cc)
        going_told (Faulty place fault) is = absurd (let h : false ≡ true = is in cc)

        ends_now : (o : Option NodeItem) → IfNone o ((was_going ≡ true) × (item_of step ≡ End)) → StepsTo tells files reader (reading_of s) stands.taken stands.feed step → o ≡ None
            → (s.reader.end ≡ Open) × (reader.end ≡ Open → ⊥)
        ends_now (Some item) none_is next is = absurd (let h : Some item ≡ None = is in cc)
        ends_now None none_is next is = (
          going_told s.reader.end (sym was ∙ none_is.0),
          ended_step tells files reader (reading_of s) (stands.taken ++ next.more) stands.feed step none_is.1 no_read next.comes,
        )

        costs : (o : Option NodeItem) → IfNone o ((was_going ≡ true) × (item_of step ≡ End)) → StepsTo tells files reader (reading_of s) stands.taken stands.feed step
            → items_at_hand reader + moves_waiting (Some (item_of step)) ≤ items_at_hand s.reader
            → moves_left (after s reader (Some (item_of step)) s.room) + one_if (is_none o) ≤ moves_left s
        costs (Some item) none_is next less =
            let goes = going_falls s.reader.end reader.end over in
            let waits : moves_waiting s.pending ≡ 0 = ap moves_waiting none in
            omega (arith, less, goes, waits)
        costs None none_is next less =
            let ends = ends_now None none_is next refl in
            let went = going_one s.reader.end ends.0 in
            let gone = over_zero reader.end ends.1 in
            let waits : moves_waiting s.pending ≡ 0 = ap moves_waiting none in
            omega (arith, less, went, gone, waits)

    -- ---- bytes are wanted

    wanted : (window : ℕ) (items : List NodeItem) (sent : HasSent tells files s window items) → WantsBytes tells files reader (reading_of s) sent.taken (feed_sent items)
        → HasSentAll tells files (after s reader None s.room) window items
    wanted window items sent (to, all) =
        let same = same_reading tells files s reader None s.room (sent.taken ++ to.more) (feed_sent items) to.reads in record {
          taken = sent.taken ++ to.more;
          reads = subst (λ (r : SortReading). IsReading tells files reader r (sent.taken ++ to.more) (feed_sent items)) (sym same) to.reads;
          in_time = clean_time window items sent;
          ends = sent.ends;
          given = subst (λ (r : SortReading). AllGiven r (sent.taken ++ to.more) (feed_sent items)) (sym same) to.given;
          all = all;
        }

    pub stands_all : IsNodeStanding tells files s
        → ((reading : SortReading) (taken : List LogEntry) (feed : NodeFeed) → IsReading tells files s.reader reading taken feed → WantsBytes tells files reader reading taken feed)
        → StandsAll tells files (after s reader None s.room)
    stands_all stands wants =
        let next = wants (reading_of s) stands.taken stands.feed stands.reads in
        let same = same_reading tells files s reader None s.room (stands.taken ++ next.0.more) stands.feed next.0.reads in record {
          taken = stands.taken ++ next.0.more;
          feed = stands.feed;
          reads = subst (λ (r : SortReading). IsReading tells files reader r (stands.taken ++ next.0.more) stands.feed) (sym same) next.0.reads;
          onward = stands_there stands.onward;
          given = subst (λ (r : SortReading). AllGiven r (stands.taken ++ next.0.more) stands.feed) (sym same) next.0.given;
          all = next.1;
        }

    pub all_was_sent : ((reading : SortReading) (taken : List LogEntry) (feed : NodeFeed) → IsReading tells files s.reader reading taken feed → WantsBytes tells files reader reading taken feed)
        → AllWasSent tells files s
    all_was_sent wants window items sent = let next = wants (reading_of s) sent.taken (feed_sent items) (clean_reads window items sent) in (next.0.more, next.0.given)

    was_open : (end new : NodeEnd) → ((end ≡ Open → ⊥) → new ≡ end) → new ≡ Open → end ≡ Open
    was_open Open new stays is = refl
    was_open Whole new stays is = absurd (let h : Whole ≡ Open = sym (stays (λ e. let k : Whole ≡ Open = e in cc)) ∙ is in cc)
    was_open ReadFailed new stays is = absurd (let h : ReadFailed ≡ Open = sym (stays (λ e. let k : ReadFailed ≡ Open = e in cc)) ∙ is in cc)
    was_open NoMemory new stays is = absurd (let h : NoMemory ≡ Open = sym (stays (λ e. let k : NoMemory ≡ Open = e in cc)) ∙ is in cc)
    was_open (Faulty at fault) new stays is = absurd (let h : Faulty at fault ≡ Open = sym (stays (λ e. let k : Faulty at fault ≡ Open = e in cc)) ∙ is in cc)

    pub prepares_on : (new : NodeState) (item : Option NodeItem) → IsNodeStanding tells files s
        → ((reading : SortReading) (taken : List LogEntry) (feed : NodeFeed) → IsReading tells files s.reader reading taken feed → WantsBytes tells files reader reading taken feed)
        → Prepares tells files (HasSentAll tells files (after s reader None s.room)) (after s reader None s.room) new item
        → Prepares tells files (HasSent tells files s) s new item
    prepares_on new item stands wants p =
        let next = wants (reading_of s) stands.taken stands.feed stands.reads in record {
          sends = λ window items sent. p.sends window items (wanted window items sent (wants (reading_of s) sent.taken (feed_sent items) (clean_reads window items sent)));
          stands = p.stands;
          going = p.going;
          cost =
              let less = falls_none tells files s.reader reader (reading_of s) stands.taken stands.feed stands.reads next.0.more cuts next.0.reads in
              let goes = going_falls s.reader.end reader.end over in
              let waits : moves_waiting s.pending ≡ 0 = ap moves_waiting none in
              let further = p.cost in
              omega (arith, less, goes, waits, further);
          done = λ is. by (p.done is);
          keeps = keeps_on s (after s reader None s.room) new (keeps_reading None (stands.taken ++ next.0.more) stands.feed stands next.0.reads) p.keeps;
          within = λ told. let same = ap (bytes_up_to files) place in let further = p.within told in omega (arith, same, further);
        }
      where
        by : (new.room < s.room) ⊎ ((reader.end ≡ Open) × (new.reader.end ≡ Open → ⊥)) → (new.room < s.room) ⊎ ((s.reader.end ≡ Open) × (new.reader.end ≡ Open → ⊥))
        by (inl less) = inl less
        by (inr (was, now)) = inr (was_open s.reader.end reader.end over was, now)

-- ---- a read

-- what a read comes to, by its count
pub read_steps : (tells : Bool) (files : List (List ℕ)) (reader : ReaderState) (reading : SortReading) (taken : List LogEntry) (feed : NodeFeed) (step : Step) → (IsGiving step → ⊥)
    → StepsTo tells files reader reading taken feed step → StepsTo tells files reader reading taken feed (step_read (count_in step))
read_steps tells files reader reading taken feed (GivesBranch branch) quiet steps = absurd (quiet tt)
read_steps tells files reader reading taken feed (TellsBound bound) quiet steps = absurd (quiet tt)
read_steps tells files reader reading taken feed (BytesRead count) quiet steps = steps
read_steps tells files reader reading taken feed LastStep quiet steps = steps

pub read_bytes_in : (step : Step) → bytes_in (step_read (count_in step)) ≡ bytes_in step
read_bytes_in (GivesBranch branch) = refl
read_bytes_in (TellsBound bound) = refl
read_bytes_in (BytesRead count) = refl
read_bytes_in LastStep = refl

pub read_within : (most : ℕ) (step : Step) → ((count : ℕ) → step ≡ BytesRead count → count ≤ most) → IfSome (count_in step) (λ count. count ≤ most)
read_within most (GivesBranch branch) within = tt
read_within most (TellsBound bound) within = tt
read_within most (BytesRead count) within = within count refl
read_within most LastStep within = tt

module _ (tells : Bool) (files : List (List ℕ)) (s : NodeState) (open_still : s.ended ≡ false) (none : s.pending ≡ None) (goes_on : s.reader.end ≡ Open)
    (stands : StandsAll tells files s) where
  -- where the window's room is used up
  pub prepares_end : Prepares tells files (HasSentAll tells files s) s (after s s.reader (Some End) s.room) (Some End)
  prepares_end = record {
    sends = λ window items sent.
        built tells files s s.reader (Some End) s.room window items sent.taken open_still sent.ends
        (subst (λ (feed : NodeFeed). IsReading tells files s.reader (reading_of s) sent.taken feed) (sym (feed_more items End)) sent.reads)
        (in_time_more no_feed items End sent.in_time tt)
        (λ is. (
          λ not. subst (λ (feed : NodeFeed). AllGiven (reading_of s) sent.taken feed) (sym (feed_more items End)) sent.given,
          λ going told. sent.all told,
        ));
    stands = still_stands tells files s s.reader (Some End) s.room stands.taken stands.feed stands.reads stands.onward;
    going = open_still;
    cost = let waits : moves_waiting s.pending ≡ 0 = ap moves_waiting none in omega (arith, waits);
    done = λ is. absurd (let h : Some End ≡ None = is in cc);
    keeps = record { reading = refl; window = refl; known = refl; over = λ not. refl };
    within = λ told. le_refl _;
  }

  module _ (reader : ReaderState) (step : Step)
      (steps : (reading : SortReading) (taken : List LogEntry) (feed : NodeFeed) → IsReading tells files s.reader reading taken feed → s.reader.end ≡ Open → AllGiven reading taken feed
      → (IsTrue tells → IsTakenTo reading.from files s.reader.log.follower s.reader.log.place taken) → StepsTo tells files reader reading taken feed step)
      (onward : IsFromOn s.from.place reader.log.place) (sorter : reader.sorter ≡ s.reader.sorter)
      (bytes : IsTrue tells → IsLogSized files s.reader.log → bytes_up_to files reader.log.place ≤ bytes_up_to files s.reader.log.place + bytes_in step) where
    stands_on : (pending : Option NodeItem) (room : ℕ) → IsNodeStanding tells files (after s reader pending room)
    stands_on pending room =
        let next = steps (reading_of s) stands.taken stands.feed stands.reads goes_on stands.given stands.all in
        still_stands tells files s reader pending room (stands.taken ++ next.more) (feed_by step stands.feed) next.reads onward

    keeps_on_read : (pending : Option NodeItem) (room : ℕ) → KeepsReading s (after s reader pending room)
    keeps_on_read pending room =
        let next = steps (reading_of s) stands.taken stands.feed stands.reads goes_on stands.given stands.all in record {
          reading = same_reading tells files s reader pending room (stands.taken ++ next.more) (feed_by step stands.feed) next.reads;
          window = refl;
          known = ap (λ (k : Sorting). k.trail.known) sorter;
          over = λ not. absurd (not goes_on);
        }

    -- no more bytes are at hand than a place is counted
    few_at_hand : items_at_hand reader ≤ items_at_hand s.reader + 2 ^ 64 + 1
    few_at_hand =
        let fed = reader.log.fed in
        let counted = reader.log.counted in
        let waits : length reader.sorter.waiting ≡ length s.reader.sorter.waiting = ap (λ (k : Sorting). length k.waiting) sorter in
        let most = at_most_one (not (reader.told == low_at reader)) in
        omega (arith, fed, counted, waits, most)

    walks : (room : ℕ) (pending : Option NodeItem) → bytes_in step + room ≤ s.room → ReadsWithin tells files s (after s reader pending room)
    walks room pending less told =
        let further = bytes told (open_at tells files s.reader (reading_of s) stands.taken stands.feed stands.reads goes_on told).sized in
        omega (arith, further, less)

  -- bytes were read
  pub prepares_read : (reader : ReaderState) (count room : ℕ)
      → ((reading : SortReading) (taken : List LogEntry) (feed : NodeFeed) → IsReading tells files s.reader reading taken feed → s.reader.end ≡ Open → AllGiven reading taken feed
      → (IsTrue tells → IsTakenTo reading.from files s.reader.log.follower s.reader.log.place taken) → StepsTo tells files reader reading taken feed (BytesRead count))
      → IsFromOn s.from.place reader.log.place → reader.sorter ≡ s.reader.sorter
      → (IsTrue tells → IsLogSized files s.reader.log → bytes_up_to files reader.log.place ≤ bytes_up_to files s.reader.log.place + count)
      → count + room ≡ s.room → Prepares tells files (HasSentAll tells files s) s (after s reader None room) None
  prepares_read reader count room steps onward sorter bytes left =
      let next = steps (reading_of s) stands.taken stands.feed stands.reads goes_on stands.given stands.all in
      let some : 0 < count = next.comes.0 in record {
        sends = λ window items sent.
            let more = steps (reading_of s) sent.taken (feed_sent items) sent.reads goes_on sent.given sent.all in
            let nothing : items ≡ items ++ waiting_item None = sym (append-nil items) in
            built tells files s reader None room window items (sent.taken ++ more.more) open_still sent.ends
            (subst (λ (list : List NodeItem). IsReading tells files reader (reading_of s) (sent.taken ++ more.more) (feed_sent list)) nothing more.reads)
            (subst (ComeInTime no_feed) nothing sent.in_time)
            (λ is. absurd (let h : None ≡ Some End = is in cc));
        stands = stands_on reader (BytesRead count) steps onward sorter bytes None room;
        going = open_still;
        cost =
            let few = few_at_hand reader (BytesRead count) steps onward sorter bytes in
            let went = going_one s.reader.end goes_on in
            let most = at_most_one (is_going reader.end) in
            let waits : moves_waiting s.pending ≡ 0 = ap moves_waiting none in
            omega (arith, few, went, most, waits, left, some);
        done = λ is. inl (omega (arith, left, some));
        keeps = keeps_on_read reader (BytesRead count) steps onward sorter bytes None room;
        within = walks reader (BytesRead count) steps onward sorter bytes room None (omega (arith, left));
      }

  -- the reading ended
  pub prepares_over : (reader : ReaderState)
      → ((reading : SortReading) (taken : List LogEntry) (feed : NodeFeed) → IsReading tells files s.reader reading taken feed → s.reader.end ≡ Open → AllGiven reading taken feed
      → (IsTrue tells → IsTakenTo reading.from files s.reader.log.follower s.reader.log.place taken) → StepsTo tells files reader reading taken feed LastStep)
      → IsFromOn s.from.place reader.log.place → reader.sorter ≡ s.reader.sorter
      → (IsTrue tells → IsLogSized files s.reader.log → bytes_up_to files reader.log.place ≤ bytes_up_to files s.reader.log.place + 0)
      → Prepares tells files (HasSentAll tells files s) s (after s reader (Some End) s.room) None
  prepares_over reader steps onward sorter bytes =
      let next = steps (reading_of s) stands.taken stands.feed stands.reads goes_on stands.given stands.all in
      let over : reader.end ≡ Open → ⊥ = next.comes.0 in record {
        sends = λ window items sent.
            let more = steps (reading_of s) sent.taken (feed_sent items) sent.reads goes_on sent.given sent.all in
            built tells files s reader (Some End) s.room window items (sent.taken ++ more.more) open_still sent.ends
            (subst (λ (feed : NodeFeed). IsReading tells files reader (reading_of s) (sent.taken ++ more.more) feed) (sym (feed_more items End)) more.reads)
            (in_time_more no_feed items End sent.in_time tt)
            (λ is. (
              λ not. subst (λ (feed : NodeFeed). AllGiven (reading_of s) (sent.taken ++ more.more) feed) (sym (feed_more items End)) (more.comes.1 not),
              λ going. absurd (more.comes.0 going),
            ));
        stands = stands_on reader LastStep steps onward sorter bytes (Some End) s.room;
        going = open_still;
        cost =
            let few = few_at_hand reader LastStep steps onward sorter bytes in
            let went = going_one s.reader.end goes_on in
            let gone = over_zero reader.end over in
            let waits : moves_waiting s.pending ≡ 0 = ap moves_waiting none in
            omega (arith, few, went, gone, waits);
        done = λ is. inr (goes_on, over);
        keeps = keeps_on_read reader LastStep steps onward sorter bytes (Some End) s.room;
        within = walks reader LastStep steps onward sorter bytes s.room (Some End) (omega arith);
      }

-- the same of a stage in which nothing waited
pub prepares_bytes : (tells : Bool) (files : List (List ℕ)) (s : NodeState) (open_still : s.ended ≡ false) (none : s.pending ≡ None) (goes_on : s.reader.end ≡ Open)
    → StandsAll tells files s → (reader : ReaderState) (count room : ℕ)
    → ((reading : SortReading) (taken : List LogEntry) (feed : NodeFeed) → IsReading tells files s.reader reading taken feed → s.reader.end ≡ Open → AllGiven reading taken feed
    → (IsTrue tells → IsTakenTo reading.from files s.reader.log.follower s.reader.log.place taken) → StepsTo tells files reader reading taken feed (BytesRead count))
    → IsFromOn s.from.place reader.log.place → reader.sorter ≡ s.reader.sorter
    → (IsTrue tells → IsLogSized files s.reader.log → bytes_up_to files reader.log.place ≤ bytes_up_to files s.reader.log.place + count)
    → count + room ≡ s.room → Prepares tells files (HasSentAll tells files s) s (after s reader s.pending room) None
prepares_bytes tells files s open_still none goes_on stands reader count room steps onward sorter bytes left =
    subst (λ (o : Option NodeItem). Prepares tells files (HasSentAll tells files s) s (after s reader o room) None) (sym none)
    (prepares_read tells files s open_still none goes_on stands reader count room steps onward sorter bytes left)
