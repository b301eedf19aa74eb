-- Small facts about commands and logs.
use Rattle.std.proofs.Common.{◌≡◌, ℕ, zero, suc, ◌-◌, ◌<◌, get_or, inl, inr, true, false, List, [], ◌∷◌, length, Option, Some, None, arith, sym, ap, ◌∙◌}
use Rattle.cdc_base.specs.declared.place.Place.{Place}
use Rattle.cdc_config.specs.declared.command.Command.{Command}
use Rattle.cdc_config.specs.Words.{command_from}
use Rattle.cdc_model.specs.declared.fault.NodeFault.{NodeFault}
use Rattle.cdc_model.specs.declared.node_log.NodeLog.{NodeLog}
use Rattle.cdc_model.specs.Growth.{IsReadWhole}
use Rattle.cdc_print.specs.Outcome.{IsFaultOf, AreClean, AreNodeLogs, IsLeastFault}
use Rattle.cdc_config.specs.declared.command.Command.TheVariants as command
use Rattle.cdc_top.specs.Words.{is_command_built, is_command, IsList, IsPrint, IsRunCommand}
use Rattle.cdc_top.specs.Call.{IsText}

-- no test has two answers
pub apart : true ≡ false → ⊥
apart e = absurd (cc)

-- words that are `print` are a command of this call
pub print_is_command : (words : List (List ℕ)) → IsPrint words → is_command words ≡ true
print_is_command words p = ap is_command_built p.1

-- words that are `list` are one too
pub list_is_command : (words : List (List ℕ)) → IsList words → is_command words ≡ true
list_is_command words l = ap is_command_built l.1

-- so they aren't none
pub is_some_command : (found : Option Command) → is_command_built found ≡ true → found ≡ None → ⊥
is_some_command found given none = apart (sym given ∙ ap is_command_built none)

-- words that are a command are no other
pub one_command : (words : List (List ℕ)) (found other : Command) → command_from words ≡ Some found → command_from words ≡ Some other → found ≡ other
one_command words found other e f = let both : Some found ≡ Some other = sym e ∙ f in cc

-- words that are another command, or none, are no `run`
pub other_than_run : (words : List (List ℕ)) (found : Command) → IsRunCommand words → command_from words ≡ Some found
    → ((config : List ℕ) (order : Option ℕ) → found ≡ command.Run config order false → ⊥) → ⊥
other_than_run words found run is other = other run.0 run.1 (one_command words found (command.Run run.0 run.1 false) is run.2)

pub run_is_some : (words : List (List ℕ)) → IsRunCommand words → command_from words ≡ None → ⊥
run_is_some words run none = absurd (let both : Some (command.Run run.0 run.1 false) ≡ None = sym run.2 ∙ none in cc)

-- no words are both `list` and `print`
pub no_list_print : (words : List (List ℕ)) → IsList words → IsPrint words → ⊥
no_list_print words l p = absurd (let e = one_command words (command.List l.0) (command.Print p.0) l.1 p.1 in cc)

-- words that ask for a text are no `list`
pub no_list_text : (words : List (List ℕ)) → IsText words → IsList words → ⊥
no_list_text words (inl h) l = absurd (let e = one_command words command.Help (command.List l.0) h l.1 in cc)
no_list_text words (inr v) l = absurd (let e = one_command words command.Version (command.List l.0) v l.1 in cc)

-- a log of each node
pub log_at : (nodes : List (List (List ℕ))) (logs : List NodeLog) (place : ℕ) → AreNodeLogs nodes logs → place < length nodes → (log : NodeLog) × IsReadWhole (get_or nodes place []) log
log_at [] logs place all within = absurd (omega (arith, within))
log_at (files ∷ nodes) [] place all within = absurd all
log_at (files ∷ nodes) (log ∷ logs) zero all within = (log, all.0)
log_at (files ∷ nodes) (log ∷ logs) (suc place) all within = log_at nodes logs place all.1 (omega (arith, within))

-- a log without a fault has none
clean_at : (nodes : List (List (List ℕ))) (place : ℕ) → AreClean nodes → place < length nodes → IsFaultOf (get_or nodes place []) None
clean_at [] place all within = absurd (omega (arith, within))
clean_at (files ∷ nodes) zero all within = all.0
clean_at (files ∷ nodes) (suc place) all within = clean_at nodes place all.1 (omega (arith, within))

-- nothing is both something and none
not_both : {A : Type 0} (value : A) (found : Option A) → found ≡ Some value → found ≡ None → ⊥
not_both value found some none = let both : Some value ≡ None = sym some ∙ none in absurd (cc)

-- where no log has a fault there is no least node with one
pub clean_has_none : (nodes : List (List (List ℕ))) (logs : List NodeLog) (node : ℕ) (place : Place) (fault : NodeFault) → AreNodeLogs nodes logs → AreClean nodes
    → IsLeastFault nodes node place fault → ⊥
clean_has_none nodes logs node place fault read clean least =
    let within : node - 1 < length nodes = omega (arith, least.first, least.last) in
    let log = log_at nodes logs (node - 1) read within in
    let none = clean_at nodes (node - 1) clean within log.0.entries log.1.fault log.1.read in
    let some = least.has log.0.entries log.1.fault log.1.read in
    not_both {A = Place × NodeFault} (place, fault) _ some none
