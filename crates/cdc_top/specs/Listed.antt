-- A call of `list`: what it met with, and why.
use Rattle.std.specs.Prelude.{◌≡◌, ◌⊎◌, Bool}
use Rattle.cdc_list.specs.declared.list_end.ListEnd.{ListEnd}
use Rattle.cdc_list.specs.Listing.{ListRun, IsListEnd}
use Rattle.cdc_top.specs.declared.config.ConfigStop.{ConfigStop}
use Rattle.cdc_top.specs.declared.findings.Findings.{Findings}
use Rattle.cdc_top.specs.Call.{ConfigRun, IsAccepted}
use Rattle.cdc_top.specs.Order.{findings_of_config, findings_of_listing}
use Rattle.cdc_top.specs.Planning.{IsNoPlan}

-- there was no plan, and nothing was written
pub record HadNoPlan (config : ConfigRun) (run : ListRun) (found : Findings) : Type 0 where
  pub why : ConfigStop
  pub found_is : found ≡ findings_of_config why
  pub is : IsNoPlan config why
  pub nothing : run.out_now ≡ run.out_before

-- the configuration was accepted, and the listing ended so
pub record HadListing (told shown : Bool) (config : ConfigRun) (run : ListRun) (found : Findings) : Type 0 where
  pub end : ListEnd
  pub found_is : found ≡ findings_of_listing end
  pub accepted : IsAccepted config
  pub ended : IsListEnd told shown run end

-- what `list` came to
abbrev pub IsListCall : Bool → Bool → ConfigRun → ListRun → Findings → Type 0
IsListCall told shown config run found = HadNoPlan config run found ⊎ HadListing told shown config run found
