use Rattle.merger_tests.proofs.orders.every_order_gives_the_same.Given as goal

abbrev pub ghosts-order : goal.ghosts-order
ghosts-order g a = record { name = a.blank.name; parts = a.blank.parts }
