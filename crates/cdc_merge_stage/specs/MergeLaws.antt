-- The laws of a merge stage: Ends are counted, and turns come one after another.
use Rattle.std.specs.Prelude.{◌≡◌, ℕ, zero, suc, Bool, true, false, ◌&&◌, List, [], ◌∷◌, map, Option, Some, None, refl}
use Rattle.std.proofs.Common.{◌∙◌, ap, arith}
use Rattle.std.specs.List.{AllZip, All}
use Rattle.cdc_turns.specs.Ends.{EndsAs}
use Rattle.cdc_item.specs.declared.dump_item.DumpItem.{DumpItem}
use Rattle.cdc_item.specs.Item.{closes_dump_window}
use Rattle.cdc_merge_stage.specs.Merged.{MergeState, IsOut, IsSameMerge, has_given, has_ended, all_true, all_none}

out_ends : (window : ℕ) (closing : Bool) (slot : Option DumpItem) (items : List DumpItem) → IsOut window closing slot items → EndsAs closes_dump_window window (has_given closing slot) items
out_ends window false slot items is = is.0
out_ends window true None items is = is
out_ends window true (Some item) items is = is.0

-- on each lane to an output the Ends are counted
pub outs_end : (window : ℕ) (closing : Bool) (slots : List (Option DumpItem)) (gives : List (List DumpItem)) → AllZip (IsOut window closing) slots gives → AllZip (EndsAs closes_dump_window window) (map (has_given closing) slots) gives
outs_end window closing [] [] all = tt
outs_end window closing [] (items ∷ gives) all = absurd all
outs_end window closing (slot ∷ slots) [] all = absurd all
outs_end window closing (slot ∷ slots) (items ∷ gives) all = (out_ends window closing slot items all.0, outs_end window closing slots gives all.1)

each_flag : (flags : List Bool) → all_true flags ≡ true → All (λ flag. flag ≡ true) flags
each_flag [] all k d within = absurd (omega (arith, within))
each_flag (true ∷ flags) all zero d within = refl
each_flag (true ∷ flags) all (suc k) d within = each_flag flags all k d (omega (arith, within))
each_flag (false ∷ flags) all k d within = absurd cc

all_given : (slots : List (Option DumpItem)) → all_none slots ≡ true → all_true (map (has_given true) slots) ≡ true
all_given [] none = refl
all_given (None ∷ slots) none = all_given slots none
all_given (Some item ∷ slots) none = absurd cc

-- three that are all true
pub all_parts : (a b c : Bool) → (a && (b && c)) ≡ true → (a ≡ true) × (b ≡ true) × (c ≡ true)
all_parts true true true is = (refl, refl, refl)
all_parts true true false is = absurd cc
all_parts true false c is = absurd cc
all_parts false b c is = absurd cc

-- a stage that has ended has taken each End
pub took_all : (s : MergeState) → has_ended s ≡ true → All (λ taken. taken ≡ true) s.took
took_all s ended = each_flag s.took (all_parts (all_true s.took) s.closing (all_none s.slots) ended).0

-- and given each End
pub gave_all : (s : MergeState) → has_ended s ≡ true → All (λ given. given ≡ true) (map (has_given s.closing) s.slots)
gave_all s ended =
    let is = all_parts (all_true s.took) s.closing (all_none s.slots) ended in
    each_flag (map (has_given s.closing) s.slots) (ap (λ (c : Bool). all_true (map (has_given c) s.slots)) is.1 ∙ all_given s.slots is.2)

-- where nothing is done, all stays
pub same_itself : (s : MergeState) → IsSameMerge s s
same_itself s = record { start = refl; rules = refl; rotation = refl; nodes = refl; outs = refl }

-- what stays over two runs stays over both
pub same_then : (a b c : MergeState) → IsSameMerge a b → IsSameMerge b c → IsSameMerge a c
same_then a b c p q = record { start = q.start ∙ p.start; rules = q.rules ∙ p.rules; rotation = q.rotation ∙ p.rotation; nodes = q.nodes ∙ p.nodes; outs = q.outs ∙ p.outs }
