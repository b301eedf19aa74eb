use Rattle.stage_tests.proofs.merge_tests.each_output_gets_the_units_in_order.Given as goal

abbrev pub ghosts-merged : goal.ghosts-merged
ghosts-merged g a = record { name = a.blank.name; parts = a.blank.parts }
