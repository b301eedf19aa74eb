-- The steps are counted in the ledger of a new blank.
use Rattle.cdc_pass.proofs.pass.run_from.Given as goal

abbrev pub ghosts-run_stages : goal.ghosts-run_stages
ghosts-run_stages g a = record { name = a.blank.name; parts = a.blank.parts }
