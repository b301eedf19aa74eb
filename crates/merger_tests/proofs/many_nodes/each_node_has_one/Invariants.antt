use Rattle.merger_tests.proofs.many_nodes.each_node_has_one.Given as goal

abbrev pub ghosts-merged : goal.ghosts-merged
ghosts-merged g a = record { name = a.blank.name; parts = a.blank.parts }
