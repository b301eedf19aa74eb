-- The numbers of a drill are in their bounds, and its words are no other command.
use Rattle.std.proofs.Common.{◌≡◌, ℕ, ◌≤◌, nat_le, Bool, true, false, List, [], ◌∷◌, Option, Some, None, option_map, option_and_then, refl, subst, arith}
use Rattle.std.proofs.lemmas.Bool.Decides.{nat_tests}
use Rattle.std.specs.Prelude.{⊤}
use Rattle.cdc_config.specs.declared.command.Command.{Command}
use Rattle.cdc_config.specs.declared.command.Command.TheVariants as command
use Rattle.cdc_config.specs.declared.verb.Verb.{Verb}
use Rattle.cdc_config.specs.declared.verb.Verb.TheVariants as verb
use Rattle.cdc_config.specs.Number.{number_from}
use Rattle.cdc_config.specs.Options.{pace_from}
use Rattle.cdc_config.specs.Verb.{verb_spelled}
use Rattle.cdc_drill.specs.declared.drill_end.DrillEnd.{DrillEnd}
use Rattle.cdc_drill.specs.declared.drill_end.DrillEnd.TheVariants as drill
use Rattle.cdc_top.specs.Order.{answer_of, findings_of_drill, drill_answer}
use Rattle.cdc_top.specs.Words.{IsDrillCommand}
use Rattle.cdc_top.proofs.Facts.{one_command}
use Rattle.cdc_config.specs.Words.{path_from, files_from, config_from, run_from, server_from, target_from, if_drill, drill_numbers, drill_from, alone, command_by, command_from}

-- numbers of a drill
abbrev pub DrillFits : ℕ → ℕ → Type 0
DrillFits nodes count = (1 ≤ nodes) × (nodes ≤ 256) × (count ≤ 100000)

-- a command's numbers are in their bounds, where it is a drill
abbrev CommandFits : Command → Type 0
CommandFits (command.Drill seed nodes count order threads) = DrillFits nodes count
CommandFits _ = ⊤

abbrev Fits : Option Command → Type 0
Fits None = ⊤
Fits (Some found) = CommandFits found

-- of something that may be found its numbers of a drill
abbrev NumbersFit : {A : Type 0} → Option A → (A → ℕ) → (A → ℕ) → Type 0
NumbersFit None nodes count = ⊤
NumbersFit (Some a) nodes count = DrillFits (nodes a) (count a)

fits_map : {A : Type 0} (found : Option A) (make : A → Command) → ((a : A) → CommandFits (make a)) → Fits (option_map make found)
fits_map None make each = tt
fits_map (Some a) make each = each a

fits_then : {A : Type 0} (found : Option A) (next : A → Option Command) → ((a : A) → Fits (next a)) → Fits (option_and_then next found)
fits_then None next each = tt
fits_then (Some a) next each = each a

numbers_then : {A B : Type 0} (nodes count : B → ℕ) (found : Option A) (next : A → Option B) → ((a : A) → NumbersFit (next a) nodes count) → NumbersFit (option_and_then next found) nodes count
numbers_then nodes count None next each = tt
numbers_then nodes count (Some a) next each = each a

if_drill_fits : (seed nodes count : ℕ) → NumbersFit (if_drill seed nodes count) (λ d. d.nodes) (λ d. d.count)
if_drill_fits seed nodes count = by (nat_le 1 nodes) (nat_le nodes 256) (nat_le count 100000) refl refl refl
  where
    by : (a b c : Bool) → nat_le 1 nodes ≡ a → nat_le nodes 256 ≡ b → nat_le count 100000 ≡ c → NumbersFit (if_drill seed nodes count) (λ d. d.nodes) (λ d. d.count)
    by true true true p q r =
        let least : 1 ≤ nodes = grind (arith, nat_tests, p) in
        let most : nodes ≤ 256 = grind (arith, nat_tests, q) in
        let few : count ≤ 100000 = grind (arith, nat_tests, r) in
        rw (p, q, r) (least, most, few)
    by false b c p q r = rw p tt
    by true false c p q r = rw (p, q) tt
    by true true false p q r = rw (p, q, r) tt

numbers_fit : (seed nodes count : List ℕ) → NumbersFit (drill_numbers seed nodes count) (λ d. d.nodes) (λ d. d.count)
numbers_fit seed nodes count =
    numbers_then (λ d. d.nodes) (λ d. d.count) (number_from seed) (λ s. option_and_then (λ n. option_and_then (λ c. if_drill s n c) (number_from count)) (number_from nodes))
    (λ s. numbers_then (λ d. d.nodes) (λ d. d.count) (number_from nodes) (λ n. option_and_then (λ c. if_drill s n c) (number_from count))
    (λ n. numbers_then (λ d. d.nodes) (λ d. d.count) (number_from count) (λ c. if_drill s n c) (λ c. if_drill_fits s n c)))

-- of what is found with such numbers a drill is made
then_fits : {A : Type 0} (nodes count : A → ℕ) (found : Option A) (next : A → Option Command) → ((a : A) → DrillFits (nodes a) (count a) → Fits (next a)) → NumbersFit found nodes count → Fits (option_and_then next found)
then_fits nodes count None next each fit = tt
then_fits nodes count (Some a) next each fit = each a fit

drill_fits : (words : List (List ℕ)) → Fits (drill_from words)
drill_fits [] = tt
drill_fits (seed ∷ []) = tt
drill_fits (seed ∷ nodes ∷ []) = tt
drill_fits (seed ∷ nodes ∷ count ∷ options) =
    then_fits (λ d. d.nodes) (λ d. d.count) (drill_numbers seed nodes count) (λ drill. option_map (λ pace. command.Drill drill.seed drill.nodes drill.count pace.order pace.threads) (pace_from options))
    (λ drill fit. fits_map (pace_from options) (λ pace. command.Drill drill.seed drill.nodes drill.count pace.order pace.threads) (λ pace. fit)) (numbers_fit seed nodes count)

run_fits : (words : List (List ℕ)) → Fits (run_from words)
run_fits [] = tt
run_fits (config ∷ options) =
    fits_then (pace_from options) (λ pace. option_map (λ path. command.Run path pace.order pace.threads) (path_from config)) (λ pace. fits_map (path_from config) (λ path. command.Run path pace.order pace.threads) (λ path. tt))

alone_fits : (found : Command) → CommandFits found → (words : List (List ℕ)) → Fits (alone found words)
alone_fits found fit [] = fit
alone_fits found fit (word ∷ rest) = tt

by_fits : (v : Verb) (words : List (List ℕ)) → Fits (command_by v words)
by_fits verb.Print words = fits_map (files_from words) command.Print (λ a. tt)
by_fits verb.Run words = run_fits words
by_fits verb.List words = fits_map (config_from words) command.List (λ a. tt)
by_fits verb.Serve words = fits_map (server_from words) (λ s. command.Serve s.config s.connections) (λ a. tt)
by_fits verb.Follow words = fits_map (server_from words) (λ s. command.Follow s.config s.connections) (λ a. tt)
by_fits verb.Split words = fits_map (config_from words) command.Split (λ a. tt)
by_fits verb.Purge words = fits_map (target_from words) (λ t. command.Purge t.config t.out t.number) (λ a. tt)
by_fits verb.Seek words = fits_map (target_from words) (λ t. command.Seek t.config t.out t.number) (λ a. tt)
by_fits verb.Drill words = drill_fits words
by_fits verb.Help words = alone_fits command.Help tt words
by_fits verb.Version words = alone_fits command.Version tt words

command_fits : (words : List (List ℕ)) → Fits (command_from words)
command_fits [] = tt
command_fits (word ∷ words) = fits_then (verb_spelled word) (λ v. command_by v words) (λ v. by_fits v words)

-- so it is of words that are a drill
pub drill_in_bounds : (words : List (List ℕ)) (seed nodes count : ℕ) (order : Option ℕ) (threads : Bool) → command_from words ≡ Some (command.Drill seed nodes count order threads) → DrillFits nodes count
drill_in_bounds words seed nodes count order threads is = subst Fits is (command_fits words)

-- words that are a drill are no other drill
pub same_drill : (words : List (List ℕ)) (seed nodes count s n k : ℕ) (order : Option ℕ) (threads : Bool) → command_from words ≡ Some (command.Drill s n k order threads) → IsDrillCommand words seed nodes count
    → (P : ℕ → ℕ → ℕ → Type 0) → P s n k → P seed nodes count
same_drill words seed nodes count s n k order threads here is P p =
    let e = one_command words (command.Drill s n k order threads) (command.Drill seed nodes count is.0 false) here is.1 in
    let seeds : s ≡ seed = cc in
    let many : n ≡ nodes = cc in
    let counts : k ≡ count = cc in
    subst (λ x. P x nodes count) seeds (subst (λ y. P s y count) many (subst (λ z. P s n z) counts p))

-- the answer to what a drill's end tells
pub drill_answered : (end : DrillEnd) → answer_of (findings_of_drill end) ≡ drill_answer end
drill_answered drill.Done = refl
drill_answered (drill.TooLarge number bytes) = refl
drill_answered (drill.Node node place fault) = refl
drill_answered drill.Memory = refl
drill_answered drill.Sink = refl
