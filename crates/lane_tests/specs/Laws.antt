-- What a relay that has ended has done.
use Rattle.std.proofs.Common.{◌≡◌, zero, suc, Bool, true, [], ◌∷◌, refl, arith}
use Rattle.std.specs.List.{All}
use Rattle.lane_tests.specs.declared.relay.State.{State}
use Rattle.lane_tests.specs.declared.relay.State.TheVariants.{Taking, Holding, Ending, Over}
use Rattle.lane_tests.specs.declared.relay.Relay.{Relay}
use Rattle.lane_tests.specs.Jobs.{has_taken, has_given_number, relay_account}

one_true : (b : Bool) → b ≡ true → All (λ (t : Bool). t ≡ true) (b ∷ [])
one_true b e zero d h = e
one_true b e (suc k) d h = absurd (omega (arith, h))

taken_first : (state : State) → has_given_number state ≡ true → has_taken state ≡ true
taken_first Taking e = absurd (cc)
taken_first (Holding number) e = absurd (cc)
taken_first Ending e = absurd (cc)
taken_first Over e = refl

-- where it has ended it has taken the End
pub relay_took_all : (job : Relay) → relay_account.ended job ≡ true → All (λ (t : Bool). t ≡ true) (relay_account.took job)
relay_took_all job e = one_true (has_taken job.state) (taken_first job.state e)

-- and given it
pub relay_gave_all : (job : Relay) → relay_account.ended job ≡ true → All (λ (t : Bool). t ≡ true) (relay_account.gave job)
relay_gave_all job e = one_true (has_given_number job.state) e
