use Rattle.sorter_tests.proofs.beside.every_order_gives_what_the_plain_program_does.Given as goal

abbrev pub ghosts-order : goal.ghosts-order
ghosts-order g a = record { name = a.blank.name; parts = a.blank.parts }
