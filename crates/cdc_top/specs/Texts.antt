-- Writing a text.
use Rattle.std.specs.Prelude.{◌≡◌, ℕ, ◌⊎◌, ◌++◌, Bool, IsTrue, List}
use Rattle.cdc_outside.specs.Count.{Rose}
use Rattle.cdc_outside.specs.Sink.{WritesTo}
use Rattle.cdc_top.specs.declared.findings.Findings.{Findings}
use Rattle.cdc_top.specs.Order.{nothing_met, sink_met}

-- what writing a text met with: nothing, and all of it was written; or the sink failed behind a front of it
abbrev pub IsTextWritten : Bool → List ℕ → List ℕ → List ℕ → ℕ → ℕ → Findings → Type 0
IsTextWritten shown before text now faults_before faults_now found =
    ((found ≡ nothing_met) × (IsTrue shown → now ≡ before ++ text))
    ⊎ ((found ≡ sink_met) × Rose faults_before faults_now × (IsTrue shown → WritesTo before text now))
