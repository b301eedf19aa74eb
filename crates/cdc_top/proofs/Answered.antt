-- From what a call met with to the promises of its status.
use Rattle.std.proofs.Common.{◌≡◌, ℕ, ◌⊎◌, Bool, true, false, IsTrue, List, Option, Some, None, inl, inr, arith, refl, sym, ◌∙◌, ⊎_elim}
use Rattle.cdc_base.specs.declared.place.Place.{Place}
use Rattle.cdc_config.specs.declared.command.ConfigKey.{ConfigKey}
use Rattle.cdc_config.specs.Plan.{refused_key}
use Rattle.cdc_config.specs.Words.{command_from}
use Rattle.cdc_dumper.specs.declared.fault.OpenFault.TheVariants.{DiskFault, BadCell, BadFront}
use Rattle.cdc_opening.specs.declared.outcome.Outcome.{Outcome}
use Rattle.cdc_outside.specs.Count.{Rose}
use Rattle.cdc_model.specs.declared.fault.NodeFault.{NodeFault}
use Rattle.cdc_model.specs.declared.node_log.NodeLog.{NodeLog}
use Rattle.cdc_model.specs.Records.{Transaction}
use Rattle.cdc_model.specs.Output.{beyond_the_file}
use Rattle.cdc_print.specs.Outcome.{AreNodeLogs, AreClean, IsLeastFault, NothingBeyond, IsBeyond, IsLeastFailed, WereAllRead}
use Rattle.cdc_recovery.specs.Laws.{ImageHasOneFront}
use Rattle.cdc_top.specs.declared.answer.Answer.{Answer}
use Rattle.cdc_top.specs.declared.answer.Answer.TheVariants.{Done, Usage, Config, Node, ReadConfig, Read, Disk, TooLarge, Unopened, TaskDisk, TaskCell, TaskNodes, TaskRotation, Behind, Differs, OtherKey, Memory, Sink}
use Rattle.cdc_top.specs.declared.findings.Findings.{Findings}
use Rattle.cdc_top.specs.declared.findings.UnopenedOut.{UnopenedOut}
use Rattle.cdc_top.specs.declared.findings.Oversized.{Oversized}
use Rattle.cdc_top.specs.declared.findings.Faulty.{Faulty}
use Rattle.cdc_top.specs.Answers.{status_of}
use Rattle.cdc_top.specs.Order.{answer_of}
use Rattle.cdc_top.specs.Words.{is_command, IsList, IsPrint}
use Rattle.cdc_top.specs.Call.{TopCall, HadBytesAndMemory, AreFindings, WroteFor, IsText, IsCleanPrint, CanBeListed, IsLeastUnopened, HasFailed, IsAnswered}
use Rattle.cdc_top.proofs.Facts.{apart, print_is_command, list_is_command, is_some_command, no_list_print, no_list_text, clean_has_none}
use Rattle.cdc_top.proofs.ListFindings.{only_its_disk, other_key}
use Rattle.cdc_top.proofs.TextFindings.{no_print, text_command}

-- all logs were read
abbrev HasReadAll : Bool → TopCall → Type 0
HasReadAll told call = IsPrint call.words → WereAllRead told call.run

-- `print` met with no fault, and its file has room for all
abbrev IsFree : Bool → TopCall → Type 0
IsFree told call = IsPrint call.words → IsTrue told → NothingBeyond call.run.nodes × AreClean call.run.nodes

-- `list` found a configuration and outs as they should be
abbrev HasListed : TopCall → Type 0
HasListed call = IsList call.words → CanBeListed call.config call.outs

-- what an answer says of a call
abbrev Says : Bool → TopCall → Answer → Type 0
Says told call Done = (is_command call.words ≡ true) × IsFree told call × HasReadAll told call × HasListed call
Says told call Usage = is_command call.words ≡ false
Says told call (Config key) = IsList call.words × (IsTrue call.config.told → refused_key call.config.text ≡ Some key)
Says told call (Node node place fault) =
    IsPrint call.words × (IsTrue told → NothingBeyond call.run.nodes × IsLeastFault call.run.nodes node place fault) × HasReadAll told call
Says told call ReadConfig = IsList call.words × Rose call.config.failed_before call.config.failed_now
Says told call (Read node) = IsPrint call.words × IsLeastFailed told call.run node
Says told call (Disk out) = IsList call.words × HasFailed call.config call.outs out
Says told call (TooLarge number bytes) = IsPrint call.words × (IsTrue told → IsBeyond call.run.nodes number bytes) × HasReadAll told call
Says told call (Unopened out fault) = IsList call.words × IsLeastUnopened call.config call.outs out fault
Says told call TaskDisk = ⊥
Says told call TaskCell = ⊥
Says told call (TaskNodes kept given) = ⊥
Says told call (TaskRotation kept given) = ⊥
Says told call (Behind node kept given) = ⊥
Says told call (Differs out kept given) = ⊥
Says told call (OtherKey out kept given) = ⊥
Says told call Memory = command_from call.words ≡ None → ⊥
Says told call Sink = (is_command call.words ≡ true) × IsFree told call × Rose call.run.faults_before call.run.faults_now × HasReadAll told call × HasListed call

abbrev found_of : Bool → Bool → Option ConfigKey → Option Outcome → Option UnopenedOut → Option ℕ → Option ℕ → Bool → Option Oversized → Option Faulty → Bool → Findings
found_of usage config_unread config_refused passed unopened failed unread wanting oversized faulty sink = record {
  usage = usage;
  config_unread = config_unread;
  config_refused = config_refused;
  passed = passed;
  unopened = unopened;
  failed = failed;
  unread = unread;
  wanting = wanting;
  oversized = oversized;
  faulty = faulty;
  sink = sink;
}

-- nothing was met with before the sink
abbrev free_found : Bool → Findings
free_found sink = found_of false false None None None None None false None None sink

free : (told : Bool) (call : TopCall) (sink : Bool) → AreFindings told call (free_found sink) → IsFree told call
free told call sink a = λ p t.
    let read : HadBytesAndMemory (free_found sink) = record { sources = refl; memory = refl } in
    ((a.print p).oversized t read, (a.print p).faulty t read refl)

listed : (told : Bool) (call : TopCall) (sink : Bool) → AreFindings told call (free_found sink) → HasListed call
listed told call sink a = λ l. (a.list l).all (record { read = refl; accepted = refl; opened = refl; lasted = refl; memory = refl })

-- the answer to what was met with says so
said_by : (told : Bool) (call : TopCall) (usage config_unread : Bool) (config_refused : Option ConfigKey) (passed : Option Outcome) (unopened : Option UnopenedOut) (failed unread : Option ℕ) (wanting : Bool) (oversized : Option Oversized)
    (faulty : Option Faulty) (sink : Bool) → AreFindings told call (found_of usage config_unread config_refused passed unopened failed unread wanting oversized faulty sink)
    → Says told call (answer_of (found_of usage config_unread config_refused passed unopened failed unread wanting oversized faulty sink))
said_by told call true config_unread config_refused passed unopened failed unread wanting oversized faulty sink a = a.usage refl
said_by told call false true config_refused passed unopened failed unread wanting oversized faulty sink a =
    ⊎_elim (λ l. (l, (a.list l).unread refl)) (λ bare. absurd (apart bare.read)) a.no_list
said_by told call false false (Some key) passed unopened failed unread wanting oversized faulty sink a =
    ⊎_elim (λ l. (l, (a.list l).refused)) (λ bare. absurd (let e = bare.accepted in cc)) a.no_list
said_by told call false false None (Some outcome) unopened failed unread wanting oversized faulty sink a = absurd (let e = a.no_pass in cc)
said_by told call false false None None (Some shelf) failed unread wanting oversized faulty sink a =
    ⊎_elim (λ l. (l, (a.list l).unopened)) (λ bare. absurd (let e = bare.opened in cc)) a.no_list
said_by told call false false None None None (Some out) unread wanting oversized faulty sink a =
    ⊎_elim (λ l. (l, (a.list l).failed)) (λ bare. absurd (let e = bare.lasted in cc)) a.no_list
said_by told call false false None None None None (Some node) wanting oversized faulty sink a =
    ⊎_elim (λ p. (p, (a.print p).unread)) (λ bare. absurd (let e = bare.unread in cc)) a.other
said_by told call false false None None None None None true oversized faulty sink a = λ none. apart (sym (a.words none))
said_by told call false false None None None None None false (Some txn) faulty sink a =
    ⊎_elim (λ p. (p, λ t. (a.print p).oversized t (record { sources = refl; memory = refl }), λ q. (a.print p).read (record { sources = refl; memory = refl }))) (λ bare. absurd (let e = bare.oversized in cc)) a.other
said_by told call false false None None None None None false None (Some log) sink a =
    ⊎_elim
    (λ p. (p, λ t. ((a.print p).oversized t (record { sources = refl; memory = refl }), (a.print p).faulty t (record { sources = refl; memory = refl }) refl), λ q. (a.print p).read (record { sources = refl; memory = refl })))
    (λ bare. absurd (let e = bare.faulty in cc)) a.other
said_by told call false false None None None None None false None None true a =
    (a.command refl refl, free told call true a, a.sink refl, λ p. (a.print p).read (record { sources = refl; memory = refl }), listed told call true a)
said_by told call false false None None None None None false None None false a =
    (a.command refl refl, free told call false a, λ p. (a.print p).read (record { sources = refl; memory = refl }), listed told call false a)

said : (told : Bool) (call : TopCall) (found : Findings) → AreFindings told call found → Says told call (answer_of found)
said told call found a =
    said_by told call found.usage found.config_unread found.config_refused found.passed found.unopened found.failed found.unread found.wanting found.oversized found.faulty found.sink a

-- no room for all, and room for all
no_room : (nodes : List (List (List ℕ))) (logs : List NodeLog) (txn : Transaction) → AreNodeLogs nodes logs → NothingBeyond nodes → beyond_the_file logs ≡ Some txn → ⊥
no_room nodes logs txn read nothing beyond = let both : Some txn ≡ None = sym beyond ∙ nothing logs read in absurd (cc)

beyond_none : (nodes : List (List (List ℕ))) (logs : List NodeLog) (number bytes : ℕ) → AreNodeLogs nodes logs → IsBeyond nodes number bytes → beyond_the_file logs ≡ None → ⊥
beyond_none nodes logs number bytes read beyond none =
    let is = beyond logs read in
    let both : Some is.0 ≡ None = sym is.1 ∙ none in
    absurd (cc)

clean_print : (told : Bool) (call : TopCall) → IsCleanPrint told call ⊎ IsText call.words → is_command call.words ≡ true
clean_print told call (inl clean) = print_is_command call.words clean.print
clean_print told call (inr text) = text_command call.words text

no_fault : (told : Bool) (call : TopCall) (node : ℕ) (place : Place) (fault : NodeFault) → IsPrint call.words
    → (IsTrue told → NothingBeyond call.run.nodes × IsLeastFault call.run.nodes node place fault) → IsCleanPrint told call ⊎ IsText call.words → ⊥
no_fault told call node place fault p says (inl clean) =
    clean_has_none call.run.nodes clean.logs node place fault clean.read clean.clean (says clean.tells).1
no_fault told call node place fault p says (inr text) = no_print call.words text p

no_large : (told : Bool) (call : TopCall) (number bytes : ℕ) → IsPrint call.words
    → (IsTrue told → IsBeyond call.run.nodes number bytes) → IsCleanPrint told call ⊎ IsText call.words → ⊥
no_large told call number bytes p says (inl clean) = beyond_none call.run.nodes clean.logs number bytes clean.read (says clean.tells) clean.room
no_large told call number bytes p says (inr text) = no_print call.words text p

no_list_clean : (told : Bool) (call : TopCall) → IsList call.words → IsCleanPrint told call ⊎ IsText call.words → ⊥
no_list_clean told call l (inl clean) = no_list_print call.words l clean.print
no_list_clean told call l (inr text) = no_list_text call.words text l

pub answered_by : ImageHasOneFront → (told shown : Bool) (call : TopCall) (answer : Answer) → Says told call answer → (IsTrue shown → WroteFor told call answer) → IsAnswered told shown call (status_of answer)
answered_by law told shown call Done a w = record {
  statuses = inl refl;
  usage = λ e. absurd (omega (arith, e));
  only_usage = λ none. absurd (is_some_command (command_from call.words) a.0 none);
  not_built = λ none. absurd (apart (sym a.0 ∙ none));
  done = λ s e. w s;
  nothing = λ s e. absurd (⊎_elim (λ p. omega (arith, p)) (⊎_elim (λ p. omega (arith, p)) (⊎_elim (λ p. omega (arith, p)) (⊎_elim (λ p. omega (arith, p)) (λ p. omega (arith, p))))) e);
  settled = λ t s e. absurd (⊎_elim (λ p. omega (arith, p)) (λ p. omega (arith, p)) e);
  front = λ s e. absurd (omega (arith, e));
  of_print = λ e. absurd (⊎_elim (λ p. omega (arith, p)) (λ p. omega (arith, p)) e);
  of_list = λ e. absurd (⊎_elim (λ p. omega (arith, p)) (λ p. omega (arith, p)) e);
  read = λ e. absurd (omega (arith, e));
  disk = λ e. absurd (omega (arith, e));
  kept = λ e. absurd (omega (arith, e));
  large = λ t e. absurd (omega (arith, e));
  fault = λ t e. absurd (omega (arith, e));
  all_read = λ p e. a.2 p;
  accepted = λ l e. (a.3 l).accepted;
  opened = λ l e. (a.3 l).opened;
  sink = λ e. absurd (omega (arith, e));
  large_told = λ t p logs read txn beyond. absurd (no_room call.run.nodes logs txn read (a.1 p t).0 beyond);
  fault_told = λ t p logs read n at wrong least. absurd (clean_has_none call.run.nodes logs n at wrong read (a.1 p t).1 least);
  complete = λ clean none. inl refl;
  complete_list = λ clean none. inl refl;
}
answered_by law told shown call Usage a w = record {
  statuses = inr (inl refl);
  usage = λ e. inl a;
  only_usage = λ none. refl;
  not_built = λ none. inl refl;
  done = λ s e. absurd (omega (arith, e));
  nothing = λ s e. w s;
  settled = λ t s e. absurd (⊎_elim (λ p. omega (arith, p)) (λ p. omega (arith, p)) e);
  front = λ s e. absurd (omega (arith, e));
  of_print = λ e. absurd (⊎_elim (λ p. omega (arith, p)) (λ p. omega (arith, p)) e);
  of_list = λ e. absurd (⊎_elim (λ p. omega (arith, p)) (λ p. omega (arith, p)) e);
  read = λ e. absurd (omega (arith, e));
  disk = λ e. absurd (omega (arith, e));
  kept = λ e. absurd (omega (arith, e));
  large = λ t e. absurd (omega (arith, e));
  fault = λ t e. absurd (omega (arith, e));
  all_read = λ p e. absurd (⊎_elim (λ p. omega (arith, p)) (⊎_elim (λ p. omega (arith, p)) (⊎_elim (λ p. omega (arith, p)) (λ p. omega (arith, p)))) e);
  accepted = λ l e. absurd (⊎_elim (λ p. omega (arith, p)) (⊎_elim (λ p. omega (arith, p)) (⊎_elim (λ p. omega (arith, p)) (λ p. omega (arith, p)))) e);
  opened = λ l e. absurd (⊎_elim (λ p. omega (arith, p)) (λ p. omega (arith, p)) e);
  sink = λ e. absurd (omega (arith, e));
  large_told = λ t p logs read txn beyond. absurd (apart (sym (print_is_command call.words p) ∙ a));
  fault_told = λ t p logs read n at wrong least. absurd (apart (sym (print_is_command call.words p) ∙ a));
  complete = λ clean none. absurd (apart (sym (clean_print told call clean) ∙ a));
  complete_list = λ clean none. absurd (apart (sym (list_is_command call.words clean.list) ∙ a));
}
answered_by law told shown call (Config key) a w = record {
  statuses = inr (inl refl);
  usage = λ e. inr (record { list = a.0; key = λ t. (key, a.1 t) });
  only_usage = λ none. refl;
  not_built = λ none. inl refl;
  done = λ s e. absurd (omega (arith, e));
  nothing = λ s e. w s;
  settled = λ t s e. absurd (⊎_elim (λ p. omega (arith, p)) (λ p. omega (arith, p)) e);
  front = λ s e. absurd (omega (arith, e));
  of_print = λ e. absurd (⊎_elim (λ p. omega (arith, p)) (λ p. omega (arith, p)) e);
  of_list = λ e. absurd (⊎_elim (λ p. omega (arith, p)) (λ p. omega (arith, p)) e);
  read = λ e. absurd (omega (arith, e));
  disk = λ e. absurd (omega (arith, e));
  kept = λ e. absurd (omega (arith, e));
  large = λ t e. absurd (omega (arith, e));
  fault = λ t e. absurd (omega (arith, e));
  all_read = λ p e. absurd (⊎_elim (λ p. omega (arith, p)) (⊎_elim (λ p. omega (arith, p)) (⊎_elim (λ p. omega (arith, p)) (λ p. omega (arith, p)))) e);
  accepted = λ l e. absurd (⊎_elim (λ p. omega (arith, p)) (⊎_elim (λ p. omega (arith, p)) (⊎_elim (λ p. omega (arith, p)) (λ p. omega (arith, p)))) e);
  opened = λ l e. absurd (⊎_elim (λ p. omega (arith, p)) (λ p. omega (arith, p)) e);
  sink = λ e. absurd (omega (arith, e));
  large_told = λ t p logs read txn beyond. absurd (no_list_print call.words a.0 p);
  fault_told = λ t p logs read n at wrong least. absurd (no_list_print call.words a.0 p);
  complete = λ clean none. absurd (no_list_clean told call a.0 clean);
  complete_list = λ clean none. absurd (other_key key (a.1 clean.config_told) clean.accepted);
}
answered_by law told shown call (Node node place fault) a w = record {
  statuses = inr (inr (inl refl));
  usage = λ e. absurd (omega (arith, e));
  only_usage = λ none. absurd (is_some_command (command_from call.words) (print_is_command call.words a.0) none);
  not_built = λ none. absurd (apart (sym (print_is_command call.words a.0) ∙ none));
  done = λ s e. absurd (omega (arith, e));
  nothing = λ s e. absurd (⊎_elim (λ p. omega (arith, p)) (⊎_elim (λ p. omega (arith, p)) (⊎_elim (λ p. omega (arith, p)) (⊎_elim (λ p. omega (arith, p)) (λ p. omega (arith, p))))) e);
  settled = λ t s e. w s t;
  front = λ s e. absurd (omega (arith, e));
  of_print = λ e. a.0;
  of_list = λ e. absurd (⊎_elim (λ p. omega (arith, p)) (λ p. omega (arith, p)) e);
  read = λ e. absurd (omega (arith, e));
  disk = λ e. absurd (omega (arith, e));
  kept = λ e. absurd (omega (arith, e));
  large = λ t e. absurd (omega (arith, e));
  fault = λ t e. (node, place, fault, (a.1 t).1, (a.1 t).0);
  all_read = λ p e. a.2 p;
  accepted = λ l e. absurd (⊎_elim (λ p. omega (arith, p)) (⊎_elim (λ p. omega (arith, p)) (⊎_elim (λ p. omega (arith, p)) (λ p. omega (arith, p)))) e);
  opened = λ l e. absurd (⊎_elim (λ p. omega (arith, p)) (λ p. omega (arith, p)) e);
  sink = λ e. absurd (omega (arith, e));
  large_told = λ t p logs read txn beyond. absurd (no_room call.run.nodes logs txn read (a.1 t).0 beyond);
  fault_told = λ t p logs read n at wrong least. inl refl;
  complete = λ clean none. absurd (no_fault told call node place fault a.0 a.1 clean);
  complete_list = λ clean none. absurd (no_list_print call.words clean.list a.0);
}
answered_by law told shown call ReadConfig a w = record {
  statuses = inr (inr (inr (inl refl)));
  usage = λ e. absurd (omega (arith, e));
  only_usage = λ none. absurd (is_some_command (command_from call.words) (list_is_command call.words a.0) none);
  not_built = λ none. absurd (apart (sym (list_is_command call.words a.0) ∙ none));
  done = λ s e. absurd (omega (arith, e));
  nothing = λ s e. w s;
  settled = λ t s e. absurd (⊎_elim (λ p. omega (arith, p)) (λ p. omega (arith, p)) e);
  front = λ s e. absurd (omega (arith, e));
  of_print = λ e. absurd (⊎_elim (λ p. omega (arith, p)) (λ p. omega (arith, p)) e);
  of_list = λ e. absurd (⊎_elim (λ p. omega (arith, p)) (λ p. omega (arith, p)) e);
  read = λ e. inr (a.0, a.1);
  disk = λ e. absurd (omega (arith, e));
  kept = λ e. absurd (omega (arith, e));
  large = λ t e. absurd (omega (arith, e));
  fault = λ t e. absurd (omega (arith, e));
  all_read = λ p e. absurd (⊎_elim (λ p. omega (arith, p)) (⊎_elim (λ p. omega (arith, p)) (⊎_elim (λ p. omega (arith, p)) (λ p. omega (arith, p)))) e);
  accepted = λ l e. absurd (⊎_elim (λ p. omega (arith, p)) (⊎_elim (λ p. omega (arith, p)) (⊎_elim (λ p. omega (arith, p)) (λ p. omega (arith, p)))) e);
  opened = λ l e. absurd (⊎_elim (λ p. omega (arith, p)) (λ p. omega (arith, p)) e);
  sink = λ e. absurd (omega (arith, e));
  large_told = λ t p logs read txn beyond. absurd (no_list_print call.words a.0 p);
  fault_told = λ t p logs read n at wrong least. absurd (no_list_print call.words a.0 p);
  complete = λ clean none. absurd (no_list_clean told call a.0 clean);
  complete_list = λ clean none. absurd (none.config a.1);
}
answered_by law told shown call (Read node) a w = record {
  statuses = inr (inr (inr (inl refl)));
  usage = λ e. absurd (omega (arith, e));
  only_usage = λ none. absurd (is_some_command (command_from call.words) (print_is_command call.words a.0) none);
  not_built = λ none. absurd (apart (sym (print_is_command call.words a.0) ∙ none));
  done = λ s e. absurd (omega (arith, e));
  nothing = λ s e. w s;
  settled = λ t s e. absurd (⊎_elim (λ p. omega (arith, p)) (λ p. omega (arith, p)) e);
  front = λ s e. absurd (omega (arith, e));
  of_print = λ e. absurd (⊎_elim (λ p. omega (arith, p)) (λ p. omega (arith, p)) e);
  of_list = λ e. absurd (⊎_elim (λ p. omega (arith, p)) (λ p. omega (arith, p)) e);
  read = λ e. inl (a.0, (node, a.1));
  disk = λ e. absurd (omega (arith, e));
  kept = λ e. absurd (omega (arith, e));
  large = λ t e. absurd (omega (arith, e));
  fault = λ t e. absurd (omega (arith, e));
  all_read = λ p e. absurd (⊎_elim (λ p. omega (arith, p)) (⊎_elim (λ p. omega (arith, p)) (⊎_elim (λ p. omega (arith, p)) (λ p. omega (arith, p)))) e);
  accepted = λ l e. absurd (⊎_elim (λ p. omega (arith, p)) (⊎_elim (λ p. omega (arith, p)) (⊎_elim (λ p. omega (arith, p)) (λ p. omega (arith, p)))) e);
  opened = λ l e. absurd (⊎_elim (λ p. omega (arith, p)) (λ p. omega (arith, p)) e);
  sink = λ e. absurd (omega (arith, e));
  large_told = λ t p logs read txn beyond. inl refl;
  fault_told = λ t p logs read n at wrong least. inr (inl refl);
  complete = λ clean none. absurd (none.sources node a.1.rose);
  complete_list = λ clean none. absurd (no_list_print call.words clean.list a.0);
}
answered_by law told shown call (Disk out) a w = record {
  statuses = inr (inr (inr (inr (inl refl))));
  usage = λ e. absurd (omega (arith, e));
  only_usage = λ none. absurd (is_some_command (command_from call.words) (list_is_command call.words a.0) none);
  not_built = λ none. absurd (apart (sym (list_is_command call.words a.0) ∙ none));
  done = λ s e. absurd (omega (arith, e));
  nothing = λ s e. w s;
  settled = λ t s e. absurd (⊎_elim (λ p. omega (arith, p)) (λ p. omega (arith, p)) e);
  front = λ s e. absurd (omega (arith, e));
  of_print = λ e. absurd (⊎_elim (λ p. omega (arith, p)) (λ p. omega (arith, p)) e);
  of_list = λ e. a.0;
  read = λ e. absurd (omega (arith, e));
  disk = λ e. (out, a.1.rose);
  kept = λ e. absurd (omega (arith, e));
  large = λ t e. absurd (omega (arith, e));
  fault = λ t e. absurd (omega (arith, e));
  all_read = λ p e. absurd (⊎_elim (λ p. omega (arith, p)) (⊎_elim (λ p. omega (arith, p)) (⊎_elim (λ p. omega (arith, p)) (λ p. omega (arith, p)))) e);
  accepted = λ l e. a.1.accepted;
  opened = λ l e. absurd (⊎_elim (λ p. omega (arith, p)) (λ p. omega (arith, p)) e);
  sink = λ e. absurd (omega (arith, e));
  large_told = λ t p logs read txn beyond. absurd (no_list_print call.words a.0 p);
  fault_told = λ t p logs read n at wrong least. absurd (no_list_print call.words a.0 p);
  complete = λ clean none. absurd (no_list_clean told call a.0 clean);
  complete_list = λ clean none. absurd (none.devices.outs out a.1.rose);
}
answered_by law told shown call (TooLarge number bytes) a w = record {
  statuses = inr (inr (inr (inr (inr (inl refl)))));
  usage = λ e. absurd (omega (arith, e));
  only_usage = λ none. absurd (is_some_command (command_from call.words) (print_is_command call.words a.0) none);
  not_built = λ none. absurd (apart (sym (print_is_command call.words a.0) ∙ none));
  done = λ s e. absurd (omega (arith, e));
  nothing = λ s e. absurd (⊎_elim (λ p. omega (arith, p)) (⊎_elim (λ p. omega (arith, p)) (⊎_elim (λ p. omega (arith, p)) (⊎_elim (λ p. omega (arith, p)) (λ p. omega (arith, p))))) e);
  settled = λ t s e. w s t;
  front = λ s e. absurd (omega (arith, e));
  of_print = λ e. a.0;
  of_list = λ e. absurd (⊎_elim (λ p. omega (arith, p)) (λ p. omega (arith, p)) e);
  read = λ e. absurd (omega (arith, e));
  disk = λ e. absurd (omega (arith, e));
  kept = λ e. absurd (omega (arith, e));
  large = λ t e. (number, bytes, a.1 t);
  fault = λ t e. absurd (omega (arith, e));
  all_read = λ p e. a.2 p;
  accepted = λ l e. absurd (⊎_elim (λ p. omega (arith, p)) (⊎_elim (λ p. omega (arith, p)) (⊎_elim (λ p. omega (arith, p)) (λ p. omega (arith, p)))) e);
  opened = λ l e. absurd (⊎_elim (λ p. omega (arith, p)) (λ p. omega (arith, p)) e);
  sink = λ e. absurd (omega (arith, e));
  large_told = λ t p logs read txn beyond. inr (inl refl);
  fault_told = λ t p logs read n at wrong least. inr (inr (inl refl));
  complete = λ clean none. absurd (no_large told call number bytes a.0 a.1 clean);
  complete_list = λ clean none. absurd (no_list_print call.words clean.list a.0);
}
answered_by law told shown call (Unopened out DiskFault) a w = record {
  statuses = inr (inr (inr (inr (inl refl))));
  usage = λ e. absurd (omega (arith, e));
  only_usage = λ none. absurd (is_some_command (command_from call.words) (list_is_command call.words a.0) none);
  not_built = λ none. absurd (apart (sym (list_is_command call.words a.0) ∙ none));
  done = λ s e. absurd (omega (arith, e));
  nothing = λ s e. w s;
  settled = λ t s e. absurd (⊎_elim (λ p. omega (arith, p)) (λ p. omega (arith, p)) e);
  front = λ s e. absurd (omega (arith, e));
  of_print = λ e. absurd (⊎_elim (λ p. omega (arith, p)) (λ p. omega (arith, p)) e);
  of_list = λ e. a.0;
  read = λ e. absurd (omega (arith, e));
  disk = λ e. (out, a.1.least.failed refl);
  kept = λ e. absurd (omega (arith, e));
  large = λ t e. absurd (omega (arith, e));
  fault = λ t e. absurd (omega (arith, e));
  all_read = λ p e. absurd (⊎_elim (λ p. omega (arith, p)) (⊎_elim (λ p. omega (arith, p)) (⊎_elim (λ p. omega (arith, p)) (λ p. omega (arith, p)))) e);
  accepted = λ l e. a.1.accepted;
  opened = λ l e. absurd (⊎_elim (λ p. omega (arith, p)) (λ p. omega (arith, p)) e);
  sink = λ e. absurd (omega (arith, e));
  large_told = λ t p logs read txn beyond. absurd (no_list_print call.words a.0 p);
  fault_told = λ t p logs read n at wrong least. absurd (no_list_print call.words a.0 p);
  complete = λ clean none. absurd (no_list_clean told call a.0 clean);
  complete_list = λ clean none. absurd (none.devices.outs out (a.1.least.failed refl));
}
answered_by law told shown call (Unopened out (BadCell slot)) a w = record {
  statuses = inr (inr (inr (inr (inr (inr (inl refl))))));
  usage = λ e. absurd (omega (arith, e));
  only_usage = λ none. absurd (is_some_command (command_from call.words) (list_is_command call.words a.0) none);
  not_built = λ none. absurd (apart (sym (list_is_command call.words a.0) ∙ none));
  done = λ s e. absurd (omega (arith, e));
  nothing = λ s e. w s;
  settled = λ t s e. absurd (⊎_elim (λ p. omega (arith, p)) (λ p. omega (arith, p)) e);
  front = λ s e. absurd (omega (arith, e));
  of_print = λ e. absurd (⊎_elim (λ p. omega (arith, p)) (λ p. omega (arith, p)) e);
  of_list = λ e. a.0;
  read = λ e. absurd (omega (arith, e));
  disk = λ e. absurd (omega (arith, e));
  kept = λ e. (out, (BadCell slot), a.1, λ is. absurd (let f = is in cc));
  large = λ t e. absurd (omega (arith, e));
  fault = λ t e. absurd (omega (arith, e));
  all_read = λ p e. absurd (⊎_elim (λ p. omega (arith, p)) (⊎_elim (λ p. omega (arith, p)) (⊎_elim (λ p. omega (arith, p)) (λ p. omega (arith, p)))) e);
  accepted = λ l e. a.1.accepted;
  opened = λ l e. absurd (⊎_elim (λ p. omega (arith, p)) (λ p. omega (arith, p)) e);
  sink = λ e. absurd (omega (arith, e));
  large_told = λ t p logs read txn beyond. absurd (no_list_print call.words a.0 p);
  fault_told = λ t p logs read n at wrong least. absurd (no_list_print call.words a.0 p);
  complete = λ clean none. absurd (no_list_clean told call a.0 clean);
  complete_list = λ clean none. absurd (none.devices.outs out (a.1.least.failed (only_its_disk law call out (BadCell slot) clean a.1)));
}
answered_by law told shown call (Unopened out (BadFront kept found)) a w = record {
  statuses = inr (inr (inr (inr (inr (inr (inl refl))))));
  usage = λ e. absurd (omega (arith, e));
  only_usage = λ none. absurd (is_some_command (command_from call.words) (list_is_command call.words a.0) none);
  not_built = λ none. absurd (apart (sym (list_is_command call.words a.0) ∙ none));
  done = λ s e. absurd (omega (arith, e));
  nothing = λ s e. w s;
  settled = λ t s e. absurd (⊎_elim (λ p. omega (arith, p)) (λ p. omega (arith, p)) e);
  front = λ s e. absurd (omega (arith, e));
  of_print = λ e. absurd (⊎_elim (λ p. omega (arith, p)) (λ p. omega (arith, p)) e);
  of_list = λ e. a.0;
  read = λ e. absurd (omega (arith, e));
  disk = λ e. absurd (omega (arith, e));
  kept = λ e. (out, (BadFront kept found), a.1, λ is. absurd (let f = is in cc));
  large = λ t e. absurd (omega (arith, e));
  fault = λ t e. absurd (omega (arith, e));
  all_read = λ p e. absurd (⊎_elim (λ p. omega (arith, p)) (⊎_elim (λ p. omega (arith, p)) (⊎_elim (λ p. omega (arith, p)) (λ p. omega (arith, p)))) e);
  accepted = λ l e. a.1.accepted;
  opened = λ l e. absurd (⊎_elim (λ p. omega (arith, p)) (λ p. omega (arith, p)) e);
  sink = λ e. absurd (omega (arith, e));
  large_told = λ t p logs read txn beyond. absurd (no_list_print call.words a.0 p);
  fault_told = λ t p logs read n at wrong least. absurd (no_list_print call.words a.0 p);
  complete = λ clean none. absurd (no_list_clean told call a.0 clean);
  complete_list = λ clean none. absurd (none.devices.outs out (a.1.least.failed (only_its_disk law call out (BadFront kept found) clean a.1)));
}
answered_by law told shown call TaskDisk a w = absurd a
answered_by law told shown call TaskCell a w = absurd a
answered_by law told shown call (TaskNodes kept given) a w = absurd a
answered_by law told shown call (TaskRotation kept given) a w = absurd a
answered_by law told shown call (Behind node kept given) a w = absurd a
answered_by law told shown call (Differs out kept given) a w = absurd a
answered_by law told shown call (OtherKey out kept given) a w = absurd a
answered_by law told shown call Memory a w = record {
  statuses = inr (inr (inr (inr (inr (inr (inr (inl refl)))))));
  usage = λ e. absurd (omega (arith, e));
  only_usage = λ none. absurd (a none);
  not_built = λ none. inr refl;
  done = λ s e. absurd (omega (arith, e));
  nothing = λ s e. w s;
  settled = λ t s e. absurd (⊎_elim (λ p. omega (arith, p)) (λ p. omega (arith, p)) e);
  front = λ s e. absurd (omega (arith, e));
  of_print = λ e. absurd (⊎_elim (λ p. omega (arith, p)) (λ p. omega (arith, p)) e);
  of_list = λ e. absurd (⊎_elim (λ p. omega (arith, p)) (λ p. omega (arith, p)) e);
  read = λ e. absurd (omega (arith, e));
  disk = λ e. absurd (omega (arith, e));
  kept = λ e. absurd (omega (arith, e));
  large = λ t e. absurd (omega (arith, e));
  fault = λ t e. absurd (omega (arith, e));
  all_read = λ p e. absurd (⊎_elim (λ p. omega (arith, p)) (⊎_elim (λ p. omega (arith, p)) (⊎_elim (λ p. omega (arith, p)) (λ p. omega (arith, p)))) e);
  accepted = λ l e. absurd (⊎_elim (λ p. omega (arith, p)) (⊎_elim (λ p. omega (arith, p)) (⊎_elim (λ p. omega (arith, p)) (λ p. omega (arith, p)))) e);
  opened = λ l e. absurd (⊎_elim (λ p. omega (arith, p)) (λ p. omega (arith, p)) e);
  sink = λ e. absurd (omega (arith, e));
  large_told = λ t p logs read txn beyond. inr (inr refl);
  fault_told = λ t p logs read n at wrong least. inr (inr (inr refl));
  complete = λ clean none. inr refl;
  complete_list = λ clean none. inr refl;
}
answered_by law told shown call Sink a w = record {
  statuses = inr (inr (inr (inr (inr (inr (inr (inr refl)))))));
  usage = λ e. absurd (omega (arith, e));
  only_usage = λ none. absurd (is_some_command (command_from call.words) a.0 none);
  not_built = λ none. absurd (apart (sym a.0 ∙ none));
  done = λ s e. absurd (omega (arith, e));
  nothing = λ s e. absurd (⊎_elim (λ p. omega (arith, p)) (⊎_elim (λ p. omega (arith, p)) (⊎_elim (λ p. omega (arith, p)) (⊎_elim (λ p. omega (arith, p)) (λ p. omega (arith, p))))) e);
  settled = λ t s e. absurd (⊎_elim (λ p. omega (arith, p)) (λ p. omega (arith, p)) e);
  front = λ s e. w s;
  of_print = λ e. absurd (⊎_elim (λ p. omega (arith, p)) (λ p. omega (arith, p)) e);
  of_list = λ e. absurd (⊎_elim (λ p. omega (arith, p)) (λ p. omega (arith, p)) e);
  read = λ e. absurd (omega (arith, e));
  disk = λ e. absurd (omega (arith, e));
  kept = λ e. absurd (omega (arith, e));
  large = λ t e. absurd (omega (arith, e));
  fault = λ t e. absurd (omega (arith, e));
  all_read = λ p e. a.3 p;
  accepted = λ l e. (a.4 l).accepted;
  opened = λ l e. (a.4 l).opened;
  sink = λ e. a.2;
  large_told = λ t p logs read txn beyond. absurd (no_room call.run.nodes logs txn read (a.1 p t).0 beyond);
  fault_told = λ t p logs read n at wrong least. absurd (clean_has_none call.run.nodes logs n at wrong read (a.1 p t).1 least);
  complete = λ clean none. absurd (none.sink a.2);
  complete_list = λ clean none. absurd (none.devices.sink a.2);
}

-- the promises of the status of what was met with
pub answered : ImageHasOneFront → (told shown : Bool) (call : TopCall) (found : Findings) → AreFindings told call found → (IsTrue shown → WroteFor told call (answer_of found))
    → IsAnswered told shown call (status_of (answer_of found))
answered law told shown call found a w = answered_by law told shown call (answer_of found) (said told call found a) w
