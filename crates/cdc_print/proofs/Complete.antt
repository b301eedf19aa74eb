-- The laws of what a print comes to.
use Rattle.std.proofs.Common.{◌≡◌, ◌≤◌, ◌<◌, inl, inr, ℕ, zero, suc, List, [], ◌∷◌, ◌++◌, length, ◌-◌, slice_index_or, Option, Some, None, MatchOption, ap, sym, refl, subst, ◌∙◌, arith}
use Rattle.cdc_base.specs.declared.place.Place.{Place}
use Rattle.cdc_base.specs.Key.{first_key}
use Rattle.cdc_model.specs.declared.fault.NodeFault.{NodeFault}
use Rattle.cdc_model.specs.declared.node_log.NodeLog.{NodeLog}
use Rattle.cdc_model.specs.Records.{LogEntry, Transaction, Start}
use Rattle.cdc_model.specs.Start.{beginning}
use Rattle.cdc_model.specs.Entries.{EachLogHasEntries, OneEntryList}
use Rattle.cdc_model.specs.OneFile.{HasAll, EndsBefore, OneFileEnds}
use Rattle.cdc_model.specs.Transaction.{ordered_transactions}
use Rattle.cdc_model.specs.Output.{file_head, last_place, first_beyond, one_file}
use Rattle.cdc_print.specs.declared.end.PrintEnd.TheVariants.{Done, Read, Memory, TooLarge, Fault, Sink}
use Rattle.cdc_print.specs.Outcome.{IsFaultOf, AreClean, AreNodeLogs, PrintIsComplete, whole_file, FileHasAll, NodesHaveLogs, OneListOfLogs}
use Rattle.cdc_print.proofs.OneMore.{is_open}

-- ---- where nothing fails, all is done

-- a clean node has no fault
clean_has_none : (nodes : List (List (List ℕ))) (logs : List NodeLog) (index : ℕ) (fault : Place × NodeFault) → AreNodeLogs nodes logs → AreClean nodes → index < length nodes
    → IsFaultOf (slice_index_or nodes index []) (Some fault) → ⊥
clean_has_none [] logs index fault whole clean h has = omega (arith, h)
clean_has_none (files ∷ nodes) [] index fault whole clean h has = absurd whole
clean_has_none (files ∷ nodes) (log ∷ logs) zero fault whole clean h has =
    let e : Some fault ≡ None = sym (has log.entries whole.0.fault whole.0.read) ∙ clean.0 log.entries whole.0.fault whole.0.read in cc
clean_has_none (files ∷ nodes) (log ∷ logs) (suc index) fault whole clean h has = clean_has_none nodes logs index fault whole.1 clean.1 (omega (arith, h)) has

pub print_is_complete : PrintIsComplete
print_is_complete told shown run logs Done ended t whole clean room none = inl refl
print_is_complete told shown run logs (Read node) ended t whole clean room none = absurd (none.sources node ended.0.rose)
print_is_complete told shown run logs Memory ended t whole clean room none = inr refl
print_is_complete told shown run logs (TooLarge number bytes) ended t whole clean room none =
    absurd (let beyond = (ended t).0 logs whole in let e : Some beyond.0 ≡ None = sym beyond.1 ∙ room in cc)
print_is_complete told shown run logs (Fault node place fault) ended t whole clean room none =
    let least = (ended t).0 in
    absurd (clean_has_none run.nodes logs (node - 1) (place, fault) whole clean (omega (arith, least.first, least.last)) least.has)
print_is_complete told shown run logs Sink ended t whole clean room none = absurd (none.sink ended.0)

-- ---- the whole file

whole_by : (txns : List Transaction) → OneFileEnds → length file_head ≤ last_place → first_beyond (length file_head) txns ≡ None → one_file txns ≡ whole_file txns
whole_by [] law head none = refl
whole_by (txn ∷ txns) law head none =
    let ends : MatchOption None (HasAll (length file_head) (txn ∷ txns)) (EndsBefore (length file_head) (txn ∷ txns))
    = subst (λ (o : Option Transaction). MatchOption o (HasAll (length file_head) (txn ∷ txns)) (EndsBefore (length file_head) (txn ∷ txns))) none
    (law (length file_head) (txn ∷ txns) head) in
    ap (λ (bytes : List ℕ). file_head ++ bytes) ends.prints

pub file_has_all : OneFileEnds → length file_head ≡ 123 → FileHasAll
file_has_all law head logs none =
    let txns = ordered_transactions 0 first_key logs in
    let o = is_open txns none in
    ap one_file o.all ∙ whole_by txns law (omega (arith, head)) o.within

-- ---- logs

pub nodes_have_logs : EachLogHasEntries → NodesHaveLogs
nodes_have_logs law [] bytes = ([], tt)
nodes_have_logs law (files ∷ nodes) bytes =
    let own = law files bytes.0 in
    let rest = nodes_have_logs law nodes bytes.1 in
    (record { start = beginning; entries = own.0 } ∷ rest.0, (record { begins = refl; fault = own.1; read = own.2 }, rest.1))

abbrev made : Start → List LogEntry → NodeLog
made start entries = record { start = start; entries = entries }

same_log : (log other : NodeLog) → log.start ≡ other.start → log.entries ≡ other.entries → log ≡ other
same_log log other starts entries = ap (λ (s : Start). made s log.entries) starts ∙ ap (λ (list : List LogEntry). made other.start list) entries

pub one_list_of_logs : OneEntryList → OneListOfLogs
one_list_of_logs law [] [] [] are also = refl
one_list_of_logs law [] [] (other ∷ others) are also = absurd also
one_list_of_logs law [] (log ∷ logs) others are also = absurd are
one_list_of_logs law (files ∷ nodes) [] others are also = absurd are
one_list_of_logs law (files ∷ nodes) (log ∷ logs) [] are also = absurd also
one_list_of_logs law (files ∷ nodes) (log ∷ logs) (other ∷ others) are also =
    let same : log ≡ other = same_log log other (are.0.begins ∙ sym also.0.begins) (law files log.entries other.entries are.0.fault also.0.fault are.0.read also.0.read).0 in
    ap (λ (first : NodeLog). first ∷ logs) same ∙ ap (λ (list : List NodeLog). other ∷ list) (one_list_of_logs law nodes logs others are.1 also.1)
