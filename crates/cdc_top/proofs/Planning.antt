-- From a text's refusal to a call's.
use Rattle.std.proofs.Common.{◌≡◌, ℕ, IsTrue, List, Some, None, sym, refl, subst}
use Rattle.std.specs.Prelude.{Result, Ok, Err}
use Rattle.cdc_config.specs.declared.command.ConfigKey.{ConfigKey}
use Rattle.cdc_config.specs.declared.command.Refusal.{Refusal}
use Rattle.cdc_config.specs.declared.command.Refusal.TheVariants as refusal
use Rattle.cdc_config.specs.Plan.{refused_key}
use Rattle.cdc_top.specs.declared.config.ConfigStop.{ConfigStop}
use Rattle.cdc_top.specs.declared.config.ConfigStop.TheVariants as stop
use Rattle.cdc_top.specs.Call.{ConfigRun}
use Rattle.cdc_top.specs.Planning.{StopsFor, IsPlanOrStop, IsPlanRead}

-- a text that is refused
pub refused_in : (A : Type 0) (why : Refusal) (end : ConfigStop) (text : List ℕ) → StopsFor why end → ((key : ConfigKey) → why ≡ refusal.Config key → refused_key text ≡ Some key)
    → IsPlanOrStop {A = A} (Err end) text
refused_in A (refusal.Config key) end text stops refused = subst (λ (e : ConfigStop). IsPlanOrStop {A = A} (Err e) text) (sym stops) (refused key refl)
refused_in A refusal.Memory end text stops refused = subst (λ (e : ConfigStop). IsPlanOrStop {A = A} (Err e) text) (sym stops) tt
refused_in A refusal.Usage end text stops refused = absurd stops

-- a text that was read of a configuration
pub read_of : {A : Type 0} (result : Result A ConfigStop) (config : ConfigRun) (text : List ℕ) → (IsTrue config.told → text ≡ config.text) → IsPlanOrStop result text
    → IsPlanRead result config
read_of (Ok plan) config text same is = λ t. subst (λ (x : List ℕ). refused_key x ≡ None) (same t) is
read_of (Err stop.Unread) config text same is = absurd is
read_of (Err (stop.Refused key)) config text same is = λ t. subst (λ (x : List ℕ). refused_key x ≡ Some key) (same t) is
read_of (Err stop.Memory) config text same is = tt
