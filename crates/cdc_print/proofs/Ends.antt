-- How the readings of nodes ended, one by one, and which end comes of them.
use Rattle.std.proofs.Common.{◌≡◌, ◌<◌, ◌⊎◌, inl, inr, ℕ, zero, suc, ◌+◌, Bool, true, false, cond, ◌&&◌, ◌||◌, List, [], ◌∷◌, length, map, get_or, Option, Some, None, ap, sym, refl, subst, ◌∙◌, arith}
use Rattle.std.specs.List.{list_all}
use Rattle.cdc_base.specs.declared.place.Place.{Place}
use Rattle.cdc_model.specs.declared.fault.NodeFault.{NodeFault}
use Rattle.cdc_model.specs.Records.{LogEntry}
use Rattle.cdc_model.specs.Feed.{NodeFeed}
use Rattle.cdc_model.specs.ReadFrom.{StartReadsAll}
use Rattle.cdc_model.specs.Restart.{first_point}
use Rattle.cdc_reader.specs.declared.step.NodeEnd.{NodeEnd}
use Rattle.cdc_reader.specs.declared.step.NodeEnd.TheVariants.{Open, Whole, Read as ReadFailed, Memory as NoMemory, Fault as Faulty}
use Rattle.cdc_reader.specs.LogFront.{IsReadAs}
use Rattle.cdc_reader.specs.Standing.{ReadingStands}
use Rattle.cdc_print.specs.declared.end.PrintEnd.{PrintEnd}
use Rattle.cdc_print.specs.declared.end.PrintEnd.TheVariants.{Done, Read, Memory, TooLarge, Fault, Sink}
use Rattle.cdc_print.specs.declared.node.NodeReader.{NodeReader}
use Rattle.cdc_print.specs.Outcome.{IsFaultOf, HasEnded}
use Rattle.cdc_print.specs.Reading.{NodeReads, AreReading, ends_of, is_failed, is_lacking, failed_node, some_lacking, fault_end}

-- ---- one node

-- what was read says of the log's fault
pub read_as_fault : StartReadsAll → (files : List (List ℕ)) (taken : List LogEntry) (fault : Option (Place × NodeFault)) → IsReadAs first_point files taken fault → IsFaultOf files fault
read_as_fault law files taken fault reads entries ended are = (reads entries ended ((law 0 files entries ended).1 are)).1

pub node_ended : StartReadsAll → (told : Bool) (files : List (List ℕ)) (before now node : ℕ) (state : NodeReader) (feed : NodeFeed) → NodeReads told files before now node state feed
    → state.over ≡ true → HasEnded told files before now state.reader.end
node_ended law told files before now node state feed reads over = by state.reader.end refl
  where
    by : (end : NodeEnd) → state.reader.end ≡ end → HasEnded told files before now end
    by Open is = (reads.over over).ended is
    by Whole is = λ t. read_as_fault law files reads.taken None
        (subst (λ (e : NodeEnd). ReadingStands e first_point files state.reader.log reads.taken) is (reads.reads.stands t))
    by ReadFailed is = reads.failed is
    by NoMemory is = tt
    by (Faulty place fault) is = λ t. read_as_fault law files reads.taken (Some (place, fault))
        (subst (λ (e : NodeEnd). ReadingStands e first_point files state.reader.log reads.taken) is (reads.reads.stands t))

-- ---- all nodes

pub both_first : (a b : Bool) → (a && b) ≡ true → a ≡ true
both_first true b e = refl
both_first false b e = absurd (cc)

pub both_second : (a b : Bool) → (a && b) ≡ true → b ≡ true
both_second true b e = e
both_second false b e = absurd (cc)

-- the readings of all have ended, each with its cause
pub all_ended : {S : Type 0} → StartReadsAll → (told : Bool) (held : S → List (List ℕ)) (failed : S → ℕ) (node : ℕ) (befores : List ℕ) (sources : List S) (states : List NodeReader)
    (feeds : List NodeFeed) → AreReading told held failed node befores sources states feeds → list_all (λ (state : NodeReader). state.over) states ≡ true
    → (index : ℕ) → index < length sources
    → HasEnded told (get_or (map held sources) index []) (get_or befores index 0) (get_or (map failed sources) index 0) (get_or (ends_of states) index Open)
all_ended law told held failed node (before ∷ befores) (source ∷ sources) (state ∷ states) (feed ∷ feeds) are over zero h =
    node_ended law told (held source) before (failed source) node state feed are.0 (both_first state.over (list_all (λ (s : NodeReader). s.over) states) over)
all_ended law told held failed node (before ∷ befores) (source ∷ sources) (state ∷ states) (feed ∷ feeds) are over (suc index) h =
    all_ended law told held failed (node + 1) befores sources states feeds are.1 (both_second state.over (list_all (λ (s : NodeReader). s.over) states) over) index (omega (arith, h))
all_ended law told held failed node befores [] states feeds are over index h = absurd (omega (arith, h))
all_ended law told held failed node befores sources states feeds are over index h = absurd are

-- as many nodes have ends as there are sources
pub many_ends : {S : Type 0} (told : Bool) (held : S → List (List ℕ)) (failed : S → ℕ) (node : ℕ) (befores : List ℕ) (sources : List S) (states : List NodeReader)
    (feeds : List NodeFeed) → AreReading told held failed node befores sources states feeds → length (ends_of states) ≡ length sources
many_ends told held failed node [] [] [] [] are = refl
many_ends told held failed node (before ∷ befores) (source ∷ sources) (state ∷ states) (feed ∷ feeds) are =
    ap (λ (n : ℕ). suc n) (many_ends told held failed (node + 1) befores sources states feeds are.1)
many_ends told held failed node befores sources states feeds are = absurd are

-- ---- which end comes

-- a node's source failed, and no lesser node's did
pub record FailedFirst (ends : List NodeEnd) (index : ℕ) : Type 0 where
  pub within : index < length ends
  pub is : get_or ends index Open ≡ ReadFailed
  pub lesser : (other : ℕ) → other < index → get_or ends other Open ≡ ReadFailed → ⊥

failed_is : (end : NodeEnd) → is_failed end ≡ true → end ≡ ReadFailed
failed_is Open e = absurd (cc)
failed_is Whole e = absurd (cc)
failed_is ReadFailed e = refl
failed_is NoMemory e = absurd (cc)
failed_is (Faulty place fault) e = absurd (cc)

not_failed : (end : NodeEnd) → is_failed end ≡ false → end ≡ ReadFailed → ⊥
not_failed end never is = let e : true ≡ false = sym (ap is_failed is) ∙ never in cc

none_there : Open ≡ ReadFailed → ⊥
none_there e = cc

cond_none : {X : Type 0} (b : Bool) (x : X) (other : Option X) → cond b (Some x) other ≡ None → (b ≡ false) × (other ≡ None)
cond_none true x other e = absurd (cc)
cond_none false x other e = (refl, e)

cond_some : {X : Type 0} (b : Bool) (x found : X) (other : Option X) → cond b (Some x) other ≡ Some found → ((b ≡ true) × (x ≡ found)) ⊎ ((b ≡ false) × (other ≡ Some found))
cond_some true x found other e = inl (refl, let s : x ≡ found = cc in s)
cond_some false x found other e = inr (refl, e)

lesser_too : (end : NodeEnd) (ends : List NodeEnd) (index : ℕ) → is_failed end ≡ false → FailedFirst ends index
    → (other : ℕ) → other < suc index → get_or (end ∷ ends) other Open ≡ ReadFailed → ⊥
lesser_too end ends index e first zero h at = not_failed end e at
lesser_too end ends index e first (suc other) h at = first.lesser other (omega (arith, h)) at

-- where it is found
abbrev IsFoundFrom : ℕ → List NodeEnd → ℕ → Type 0
IsFoundFrom node ends found = (index : ℕ) × (found ≡ node + index) × FailedFirst ends index

found_here : (node : ℕ) (end : NodeEnd) (ends : List NodeEnd) (found : ℕ) → is_failed end ≡ true → node ≡ found → IsFoundFrom node (end ∷ ends) found
found_here node end ends found e same =
    (0, omega (arith, same), record { within = omega arith; is = failed_is end e; lesser = λ other h at. absurd (omega (arith, h)) })

found_there : (node : ℕ) (end : NodeEnd) (ends : List NodeEnd) (found : ℕ) → is_failed end ≡ false → IsFoundFrom (node + 1) ends found → IsFoundFrom node (end ∷ ends) found
found_there node end ends found e (index, at, first) =
    (suc index, omega (arith, at), record { within = omega (arith, first.within); is = first.is; lesser = lesser_too end ends index e first })

pub first_failed : (node : ℕ) (ends : List NodeEnd) (found : ℕ) → failed_node node ends ≡ Some found → IsFoundFrom node ends found
first_failed node [] found is = absurd (cc)
first_failed node (end ∷ ends) found is =
    elim (cond_some (is_failed end) node found (failed_node (node + 1) ends) is) [
      | inl here ↦ found_here node end ends found here.0 here.1
      | inr there ↦ found_there node end ends found there.0 (first_failed (node + 1) ends found there.1)
    ]

pub none_failed : (node : ℕ) (ends : List NodeEnd) → failed_node node ends ≡ None → (index : ℕ) → get_or ends index Open ≡ ReadFailed → ⊥
none_failed node [] none index is = none_there is
none_failed node (end ∷ ends) none zero is = not_failed end (cond_none (is_failed end) node (failed_node (node + 1) ends) none).0 is
none_failed node (end ∷ ends) none (suc index) is =
    none_failed (node + 1) ends (cond_none (is_failed end) node (failed_node (node + 1) ends) none).1 index is

-- ---- memory

none_lacks : Open ≡ NoMemory → ⊥
none_lacks e = cc

not_lacking : (end : NodeEnd) → is_lacking end ≡ false → end ≡ NoMemory → ⊥
not_lacking end never is = let e : true ≡ false = sym (ap is_lacking is) ∙ never in cc

neither : (a b : Bool) → (a || b) ≡ false → (a ≡ false) × (b ≡ false)
neither true b e = absurd (cc)
neither false b e = (refl, e)

pub none_lacking : (ends : List NodeEnd) → some_lacking ends ≡ false → (index : ℕ) → get_or ends index Open ≡ NoMemory → ⊥
none_lacking [] none index is = none_lacks is
none_lacking (end ∷ ends) none zero is = not_lacking end (neither (is_lacking end) (some_lacking ends) none).0 is
none_lacking (end ∷ ends) none (suc index) is = none_lacking ends (neither (is_lacking end) (some_lacking ends) none).1 index is

-- ---- faults

-- no end is a fault, up to some place
abbrev pub NoFaultBelow : List NodeEnd → ℕ → Type 0
NoFaultBelow ends index = (other : ℕ) (place : Place) (fault : NodeFault) → other < index → get_or ends other Open ≡ Faulty place fault → ⊥

-- what the end for the least fault says
pub record FaultFirst (node : ℕ) (ends : List NodeEnd) (found : ℕ) (place : Place) (fault : NodeFault) : Type 0 where
  pub index : ℕ
  pub at : found ≡ node + index
  pub within : index < length ends
  pub is : get_or ends index Open ≡ Faulty place fault
  pub lesser : NoFaultBelow ends index

abbrev pub SaysFault : ℕ → List NodeEnd → PrintEnd → Type 0
SaysFault node ends Done = NoFaultBelow ends (length ends)
SaysFault node ends (Fault found place fault) = FaultFirst node ends found place fault
SaysFault node ends (Read found) = ⊥
SaysFault node ends Memory = ⊥
SaysFault node ends (TooLarge number bytes) = ⊥
SaysFault node ends Sink = ⊥

-- an end that isn't a fault
abbrev IsNoFault : NodeEnd → Type 0
IsNoFault end = (place : Place) (fault : NodeFault) → end ≡ Faulty place fault → ⊥

none_below_too : (end : NodeEnd) (ends : List NodeEnd) (index : ℕ) → IsNoFault end → NoFaultBelow ends index → NoFaultBelow (end ∷ ends) (suc index)
none_below_too end ends index never none zero place fault h at = never place fault at
none_below_too end ends index never none (suc other) place fault h at = none other place fault (omega (arith, h)) at

says_behind : (node : ℕ) (end : NodeEnd) (ends : List NodeEnd) (found : PrintEnd) → IsNoFault end → SaysFault (node + 1) ends found → SaysFault node (end ∷ ends) found
says_behind node end ends Done never says = none_below_too end ends (length ends) never says
says_behind node end ends (Fault found place fault) never says = record {
  index = suc says.index;
  at = omega (arith, says.at);
  within = omega (arith, says.within);
  is = says.is;
  lesser = none_below_too end ends says.index never says.lesser;
}
says_behind node end ends (Read found) never says = absurd says
says_behind node end ends Memory never says = absurd says
says_behind node end ends (TooLarge number bytes) never says = absurd says
says_behind node end ends Sink never says = absurd says

pub says_fault : (node : ℕ) (ends : List NodeEnd) → SaysFault node ends (fault_end node ends)
says_fault node [] = λ other place fault h at. absurd (omega (arith, h))
says_fault node (Open ∷ ends) = says_behind node Open ends (fault_end (node + 1) ends) (λ place fault e. cc) (says_fault (node + 1) ends)
says_fault node (Whole ∷ ends) = says_behind node Whole ends (fault_end (node + 1) ends) (λ place fault e. cc) (says_fault (node + 1) ends)
says_fault node (ReadFailed ∷ ends) = says_behind node ReadFailed ends (fault_end (node + 1) ends) (λ place fault e. cc) (says_fault (node + 1) ends)
says_fault node (NoMemory ∷ ends) = says_behind node NoMemory ends (fault_end (node + 1) ends) (λ place fault e. cc) (says_fault (node + 1) ends)
says_fault node (Faulty place fault ∷ ends) = record {
  index = 0;
  at = omega arith;
  within = omega arith;
  is = refl;
  lesser = λ other p f h at. absurd (omega (arith, h));
}
