-- What a call answers, and why.
use Rattle.std.specs.Prelude.{◌≡◌, ℕ, ◌⊎◌, ◌++◌, Bool, true, false, IsTrue, List, map, Some, None, IfSome, MatchOption}
use Rattle.cdc_base.specs.declared.place.Place.{Place}
use Rattle.cdc_outside.specs.Count.{Rose}
use Rattle.cdc_outside.specs.Disk.{Image}
use Rattle.cdc_outside.specs.Sink.{WritesTo}
use Rattle.cdc_outside.specs.Source.{file_of}
use Rattle.cdc_dumper.specs.declared.fault.OpenFault.{OpenFault}
use Rattle.cdc_dumper.specs.declared.fault.OpenFault.TheVariants.{DiskFault}
use Rattle.cdc_list.specs.Listing.{ListRun, OutRose, AreOpenable, IsUnopened, IsListing, NoneFailedListing}
use Rattle.cdc_config.specs.declared.command.ConfigKey.{ConfigKey}
use Rattle.cdc_config.specs.Plan.{refused_key}
use Rattle.cdc_config.specs.declared.command.Command.{Command}
use Rattle.cdc_config.specs.declared.command.Command.TheVariants as command
use Rattle.cdc_config.specs.Words.{command_from}
use Rattle.cdc_model.specs.declared.fault.NodeFault.{NodeFault}
use Rattle.cdc_model.specs.declared.node_log.NodeLog.{NodeLog}
use Rattle.cdc_model.specs.Records.{Transaction}
use Rattle.cdc_model.specs.Output.{beyond_the_file}
use Rattle.cdc_print.specs.Outcome.{PrintRun, AreNodeLogs, AreClean, IsLeastFault, NothingBeyond, IsBeyond, GaveFile, GaveFront, GaveNothing, GaveOrFailed, IsLeastFailed, WereAllRead, NoneFailedIn}
use Rattle.cdc_top.specs.declared.answer.Answer.{Answer}
use Rattle.cdc_top.specs.declared.answer.Answer.TheVariants.{Done, Usage, Config, Node, ReadConfig, Read, Disk, TooLarge, Unopened, TaskDisk, TaskCell, TaskNodes, TaskRotation, Behind, Differs, OtherKey, Memory, Sink}
use Rattle.cdc_top.specs.declared.findings.Findings.{Findings}
use Rattle.cdc_top.specs.Words.{is_command, IsList, IsPrint, help_text, version_text}

-- a configuration as a call sees it: whether its source tells what it holds, its text, and the source's count of faults before and now
pub record ConfigRun : Type 0 where
  pub told : Bool
  pub text : List ℕ
  pub failed_before : ℕ
  pub failed_now : ℕ

-- the outs as a call sees them: whether their disks tell what they have, what they show, and their counts of faults before and now
pub record OutsRun : Type 0 where
  pub told : Bool
  pub images : List Image
  pub failed_before : List ℕ
  pub failed_now : List ℕ

-- a call as it is seen from outside: its words, its sources and its sink, its configuration and its outs, before and now
pub record TopCall : Type 0 where
  pub words : List (List ℕ)
  pub run : PrintRun
  pub config : ConfigRun
  pub outs : OutsRun

-- a configuration by its source
abbrev pub config_seen : {C : Type 0} → Bool → (C → List (List ℕ)) → (C → ℕ) → C → C → ConfigRun
config_seen told held failed config config_now =
    record { told = told; text = file_of (held config) 1; failed_before = failed config; failed_now = failed config_now }

-- the outs by their disks
abbrev pub outs_seen : {D : Type 0} → Bool → (D → Image) → (D → ℕ) → List D → List D → OutsRun
outs_seen told shows failed outs outs_now =
    record { told = told; images = map shows outs; failed_before = map failed outs; failed_now = map failed outs_now }

-- a call by its words and its devices
abbrev pub call_seen : List (List ℕ) → PrintRun → ConfigRun → OutsRun → TopCall
call_seen words run config outs = record { words = words; run = run; config = config; outs = outs }

-- what a listing sees of a call
abbrev pub listing_of : TopCall → ListRun
listing_of call = record {
  images = call.outs.images;
  failed_before = call.outs.failed_before;
  failed_now = call.outs.failed_now;
  out_before = call.run.out_before;
  out_now = call.run.out_now;
  faults_before = call.run.faults_before;
  faults_now = call.run.faults_now;
}

-- ---- what was written

-- exactly this text was written
abbrev pub WroteText : TopCall → List ℕ → Type 0
WroteText call text = call.run.out_now ≡ call.run.out_before ++ text

-- exactly what a command asks for was written: `print` the one file of all logs, which it knows where the sources tell what they hold;
-- `list` the lines of all outs, where the disks tell what they have; `--help` and `--version` their texts
abbrev pub WroteAllOf : Bool → TopCall → Command → Type 0
WroteAllOf told call (command.Print files) = IsTrue told → GaveFile call.run
WroteAllOf told call (command.List config) = IsTrue call.outs.told → (text : List ℕ) × IsListing call.outs.images text × WroteText call text
WroteAllOf told call command.Help = WroteText call help_text
WroteAllOf told call command.Version = WroteText call version_text
WroteAllOf told call _ = ⊥

-- a front of what a command asks for was written
abbrev pub WroteFrontOf : Bool → TopCall → Command → Type 0
WroteFrontOf told call (command.Print files) = IsTrue told → GaveFront call.run
WroteFrontOf told call (command.List config) = IsTrue call.outs.told → (text : List ℕ) × IsListing call.outs.images text × WritesTo call.run.out_before text call.run.out_now
WroteFrontOf told call command.Help = WritesTo call.run.out_before help_text call.run.out_now
WroteFrontOf told call command.Version = WritesTo call.run.out_before version_text call.run.out_now
WroteFrontOf told call _ = ⊥

-- exactly what the words ask for was written
abbrev pub WroteAll : Bool → TopCall → Type 0
WroteAll told call = (found : Command) × (command_from call.words ≡ Some found) × WroteAllOf told call found

-- a front of what the words ask for was written
abbrev pub WroteFront : Bool → TopCall → Type 0
WroteFront told call = (found : Command) × (command_from call.words ≡ Some found) × WroteFrontOf told call found

-- what was written, by the answer
abbrev pub WroteFor : Bool → TopCall → Answer → Type 0
WroteFor told call Done = WroteAll told call
WroteFor told call Usage = GaveNothing call.run
WroteFor told call (Config key) = GaveNothing call.run
WroteFor told call (Node node place fault) = IsTrue told → GaveOrFailed call.run
WroteFor told call ReadConfig = GaveNothing call.run
WroteFor told call (Read node) = GaveNothing call.run
WroteFor told call (Disk out) = GaveNothing call.run
WroteFor told call (Unopened out fault) = GaveNothing call.run
WroteFor told call (TooLarge number bytes) = IsTrue told → GaveOrFailed call.run
WroteFor told call TaskDisk = GaveNothing call.run
WroteFor told call TaskCell = GaveNothing call.run
WroteFor told call (TaskNodes kept given) = GaveNothing call.run
WroteFor told call (TaskRotation kept given) = GaveNothing call.run
WroteFor told call (Behind node kept given) = GaveNothing call.run
WroteFor told call (Differs out kept given) = GaveNothing call.run
WroteFor told call (OtherKey out kept given) = GaveNothing call.run
WroteFor told call Memory = GaveNothing call.run
WroteFor told call Sink = WroteFront told call

-- ---- what was met with

-- no source failed, and there was memory
pub record HadBytesAndMemory (found : Findings) : Type 0 where
  pub sources : found.unread ≡ None
  pub memory : found.wanting ≡ false

-- what `print` met with, where the sources tell what they hold: each thing for its cause, and none of it missed, but where an earlier one
-- came; all logs were read before anything behind want of memory was met with
pub record ArePrintFindings (told : Bool) (run : PrintRun) (found : Findings) : Type 0 where
  pub unread : IfSome found.unread (IsLeastFailed told run)
  pub read : HadBytesAndMemory found → WereAllRead told run
  pub oversized : IsTrue told → HadBytesAndMemory found → MatchOption found.oversized (NothingBeyond run.nodes) (λ txn. IsBeyond run.nodes txn.number txn.bytes)
  pub faulty : IsTrue told → HadBytesAndMemory found → found.oversized ≡ None
      → MatchOption found.faulty (AreClean run.nodes) (λ log. IsLeastFault run.nodes log.node log.place log.fault)

-- nothing that only `print` can meet with
pub record AreTextFindings (found : Findings) : Type 0 where
  pub unread : found.unread ≡ None
  pub oversized : found.oversized ≡ None
  pub faulty : found.faulty ≡ None

-- a configuration was accepted, as far as it is told
abbrev pub IsAccepted : ConfigRun → Type 0
IsAccepted config = IsTrue config.told → refused_key config.text ≡ None

-- all outs can be opened, as far as they are told
abbrev pub AreOpened : OutsRun → Type 0
AreOpened outs = IsTrue outs.told → AreOpenable outs.images

-- the configuration was read and accepted, each out could be opened and was read, and there was memory
pub record HadAllToList (found : Findings) : Type 0 where
  pub read : found.config_unread ≡ false
  pub accepted : found.config_refused ≡ None
  pub opened : found.unopened ≡ None
  pub lasted : found.failed ≡ None
  pub memory : found.wanting ≡ false

-- this out is the least one that can't be opened, and the configuration was accepted
pub record IsLeastUnopened (config : ConfigRun) (outs : OutsRun) (out : ℕ) (fault : OpenFault) : Type 0 where
  pub least : IsUnopened outs.told outs.images outs.failed_before outs.failed_now out fault
  pub accepted : IsAccepted config

-- the count of this out's disk rose when all were opened, and the configuration was accepted
pub record HasFailed (config : ConfigRun) (outs : OutsRun) (out : ℕ) : Type 0 where
  pub rose : OutRose outs.failed_before outs.failed_now out
  pub opened : AreOpened outs
  pub accepted : IsAccepted config

-- all outs can be opened, and the configuration was accepted
pub record CanBeListed (config : ConfigRun) (outs : OutsRun) : Type 0 where
  pub opened : AreOpened outs
  pub accepted : IsAccepted config

-- what `list` met with: each thing for its cause, and none of it missed, but where an earlier one came or there was no memory
pub record AreListFindings (config : ConfigRun) (outs : OutsRun) (found : Findings) : Type 0 where
  pub unread : found.config_unread ≡ true → Rose config.failed_before config.failed_now
  pub refused : IfSome found.config_refused (λ key. IsTrue config.told → refused_key config.text ≡ Some key)
  pub unopened : IfSome found.unopened (λ shelf. IsLeastUnopened config outs shelf.out shelf.fault)
  pub failed : IfSome found.failed (HasFailed config outs)
  pub all : HadAllToList found → CanBeListed config outs

-- nothing that only `list` can meet with
pub record AreOtherFindings (found : Findings) : Type 0 where
  pub read : found.config_unread ≡ false
  pub accepted : found.config_refused ≡ None
  pub opened : found.unopened ≡ None
  pub lasted : found.failed ≡ None

-- what a call met with whose words are neither `run` nor `drill`: its words are no command of it; with `print` and with `list` what these met with; else no more
-- than want of memory or a sink that failed
pub record AreFindings (told : Bool) (call : TopCall) (found : Findings) : Type 0 where
  pub usage : found.usage ≡ true → is_command call.words ≡ false
  pub command : found.usage ≡ false → found.wanting ≡ false → is_command call.words ≡ true
  pub words : command_from call.words ≡ None → found.usage ≡ true
  pub print : IsPrint call.words → ArePrintFindings told call.run found
  pub other : IsPrint call.words ⊎ AreTextFindings found
  pub list : IsList call.words → AreListFindings call.config call.outs found
  pub no_list : IsList call.words ⊎ AreOtherFindings found
  pub no_pass : found.passed ≡ None
  pub sink : found.sink ≡ true → Rose call.run.faults_before call.run.faults_now

-- ---- the promises, status by status

-- the words ask for a text
abbrev pub IsText : List (List ℕ) → Type 0
IsText words = (command_from words ≡ Some command.Help) ⊎ (command_from words ≡ Some command.Version)

-- the words are `print` over logs that have no fault and whose one file has room for all; sources tell them
pub record IsCleanPrint (told : Bool) (call : TopCall) : Type 0 where
  pub print : IsPrint call.words
  pub tells : IsTrue told
  pub logs : List NodeLog
  pub read : AreNodeLogs call.run.nodes logs
  pub clean : AreClean call.run.nodes
  pub room : beyond_the_file logs ≡ None

-- the configuration of `list` is refused for a key
pub record IsConfigRefused (call : TopCall) : Type 0 where
  pub list : IsList call.words
  pub key : IsTrue call.config.told → (key : ConfigKey) × (refused_key call.config.text ≡ Some key)

-- the words are `list` over a configuration that is accepted and outs that can be opened; sources and disks tell them
pub record IsOpenList (call : TopCall) : Type 0 where
  pub list : IsList call.words
  pub config_told : IsTrue call.config.told
  pub accepted : refused_key call.config.text ≡ None
  pub outs_told : IsTrue call.outs.told
  pub openable : AreOpenable call.outs.images

-- no device of `list` failed
pub record NoneFailedInList (call : TopCall) : Type 0 where
  pub config : Rose call.config.failed_before call.config.failed_now → ⊥
  pub devices : NoneFailedListing (listing_of call)

-- the promises of a call, status by status
pub record IsAnswered (told shown : Bool) (call : TopCall) (status : ℕ) : Type 0 where
  pub statuses : (status ≡ 0) ⊎ (status ≡ 2) ⊎ (status ≡ 3) ⊎ (status ≡ 4) ⊎ (status ≡ 5) ⊎ (status ≡ 6) ⊎ (status ≡ 7) ⊎ (status ≡ 8) ⊎ (status ≡ 9)
  pub usage : status ≡ 2 → (is_command call.words ≡ false) ⊎ IsConfigRefused call
  pub only_usage : command_from call.words ≡ None → status ≡ 2
  pub not_built : is_command call.words ≡ false → (status ≡ 2) ⊎ (status ≡ 8)
  pub done : IsTrue shown → status ≡ 0 → WroteAll told call
  pub nothing : IsTrue shown → (status ≡ 2) ⊎ (status ≡ 4) ⊎ (status ≡ 5) ⊎ (status ≡ 7) ⊎ (status ≡ 8) → GaveNothing call.run
  pub settled : IsTrue told → IsTrue shown → (status ≡ 3) ⊎ (status ≡ 6) → GaveOrFailed call.run
  pub front : IsTrue shown → status ≡ 9 → WroteFront told call
  pub of_print : (status ≡ 3) ⊎ (status ≡ 6) → IsPrint call.words
  pub of_list : (status ≡ 5) ⊎ (status ≡ 7) → IsList call.words
  pub read : status ≡ 4
      → (IsPrint call.words × ((node : ℕ) × IsLeastFailed told call.run node)) ⊎ (IsList call.words × Rose call.config.failed_before call.config.failed_now)
  pub disk : status ≡ 5 → (out : ℕ) × OutRose call.outs.failed_before call.outs.failed_now out
  pub kept : status ≡ 7 → (out : ℕ) × (fault : OpenFault) × IsLeastUnopened call.config call.outs out fault × (fault ≡ DiskFault → ⊥)
  pub large : IsTrue told → status ≡ 6 → (number bytes : ℕ) × IsBeyond call.run.nodes number bytes
  pub fault : IsTrue told → status ≡ 3 → (node : ℕ) × (place : Place) × (fault : NodeFault) × IsLeastFault call.run.nodes node place fault × NothingBeyond call.run.nodes
  pub all_read : IsPrint call.words → (status ≡ 0) ⊎ (status ≡ 3) ⊎ (status ≡ 6) ⊎ (status ≡ 9) → WereAllRead told call.run
  pub accepted : IsList call.words → (status ≡ 0) ⊎ (status ≡ 5) ⊎ (status ≡ 7) ⊎ (status ≡ 9) → IsAccepted call.config
  pub opened : IsList call.words → (status ≡ 0) ⊎ (status ≡ 9) → AreOpened call.outs
  pub sink : status ≡ 9 → Rose call.run.faults_before call.run.faults_now
  pub large_told : IsTrue told → IsPrint call.words → (logs : List NodeLog) → AreNodeLogs call.run.nodes logs → (txn : Transaction) → beyond_the_file logs ≡ Some txn
      → (status ≡ 4) ⊎ (status ≡ 6) ⊎ (status ≡ 8)
  pub fault_told : IsTrue told → IsPrint call.words → (logs : List NodeLog) → AreNodeLogs call.run.nodes logs → (node : ℕ) → (place : Place) → (fault : NodeFault)
      → IsLeastFault call.run.nodes node place fault → (status ≡ 3) ⊎ (status ≡ 4) ⊎ (status ≡ 6) ⊎ (status ≡ 8)
  pub complete : IsCleanPrint told call ⊎ IsText call.words → NoneFailedIn call.run → (status ≡ 0) ⊎ (status ≡ 8)
  pub complete_list : IsOpenList call → NoneFailedInList call → (status ≡ 0) ⊎ (status ≡ 8)
