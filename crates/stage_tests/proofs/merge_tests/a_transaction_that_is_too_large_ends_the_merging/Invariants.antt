use Rattle.stage_tests.proofs.merge_tests.a_transaction_that_is_too_large_ends_the_merging.Given as goal

abbrev pub ghosts-merged : goal.ghosts-merged
ghosts-merged g a = record { name = a.blank.name; parts = a.blank.parts }
