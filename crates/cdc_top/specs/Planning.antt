-- Reading the plan of a call.
use Rattle.std.specs.Prelude.{◌≡◌, ℕ, List, IsTrue, Some, None, Result, Ok, Err}
use Rattle.cdc_config.specs.declared.command.Refusal.{Refusal}
use Rattle.cdc_config.specs.declared.command.Refusal.TheVariants as refusal
use Rattle.cdc_config.specs.Plan.{refused_key}
use Rattle.cdc_outside.specs.Count.{Rose}
use Rattle.cdc_top.specs.declared.config.ConfigStop.{ConfigStop}
use Rattle.cdc_top.specs.declared.config.ConfigStop.TheVariants as stop
use Rattle.cdc_top.specs.Call.{ConfigRun, IsAccepted}

-- why there is no plan, of why a text is refused
abbrev pub StopsFor : Refusal → ConfigStop → Type 0
StopsFor (refusal.Config key) why = why ≡ stop.Refused key
StopsFor refusal.Memory why = why ≡ stop.Memory
StopsFor refusal.Usage why = ⊥

-- a text gives a plan, or is refused for a key; want of memory says nothing
abbrev pub IsPlanOrStop : {A : Type 0} → Result A ConfigStop → List ℕ → Type 0
IsPlanOrStop (Ok plan) text = refused_key text ≡ None
IsPlanOrStop (Err (stop.Refused key)) text = refused_key text ≡ Some key
IsPlanOrStop (Err stop.Unread) text = ⊥
IsPlanOrStop (Err stop.Memory) text = Unit {0}

-- why there is no plan: the source's count rose, or the configuration is refused for this key
abbrev pub IsNoPlan : ConfigRun → ConfigStop → Type 0
IsNoPlan config stop.Unread = Rose config.failed_before config.failed_now
IsNoPlan config (stop.Refused key) = IsTrue config.told → refused_key config.text ≡ Some key
IsNoPlan config stop.Memory = Unit {0}

-- a configuration gives a plan, or there is none
abbrev pub IsPlanRead : {A : Type 0} → Result A ConfigStop → ConfigRun → Type 0
IsPlanRead (Ok plan) config = IsAccepted config
IsPlanRead (Err why) config = IsNoPlan config why
