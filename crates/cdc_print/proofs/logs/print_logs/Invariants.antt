use Rattle.cdc_print.proofs.logs.print_logs.Given as goal

abbrev pub ghosts-print_with : goal.ghosts-print_with
ghosts-print_with g a = record { name = a.blank.name; parts = a.blank.parts }
