use Rattle.cdc_bench.proofs.flow.do_flow.Given as goal

abbrev pub ghosts-merge_rounds : goal.ghosts-merge_rounds
ghosts-merge_rounds a = record { name = a.blank.name; parts = a.blank.parts }
