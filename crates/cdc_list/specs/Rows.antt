-- Listings that were worked out by hand.
use Rattle.std.specs.Prelude.{◌≡◌, false, List, [], ◌∷◌, codes, None}
use Rattle.cdc_records.specs.declared.front.Front.{Front}
use Rattle.cdc_records.specs.Front.{no_front}
use Rattle.cdc_list.specs.Lines.{ListedOut, listing_text}

-- the Front of three transactions in two files, of which the second has 241 bytes
abbrev pub front_of_two_files : Front
front_of_two_files = record { count = 3; file = 2; length = 241; closed = false; first = 1; passed = 0; last = None }

-- the same when the first file was dropped, with the one transaction that is left
abbrev pub front_behind_one_file : Front
front_behind_one_file = record { count = 3; file = 2; length = 241; closed = false; first = 2; passed = 2; last = None }

-- an out of two files, an out without any, and one whose first file was dropped
abbrev pub worked_outs : List ListedOut
worked_outs =
    record { front = front_of_two_files; lengths = 399 ∷ 241 ∷ [] } ∷ record { front = no_front; lengths = [] }
    ∷ record { front = front_behind_one_file; lengths = 241 ∷ [] } ∷ []

-- law: their lines are these
abbrev pub WorkedOutsAreListed : Type 0
WorkedOutsAreListed =
    listing_text worked_outs ≡ codes "1 binlog.000001 399\n1 binlog.000002 241\nout 1 binlog.000002 241 3\nout 2 - 0 0\n3 binlog.000002 241\nout 3 binlog.000002 241 3\n"
