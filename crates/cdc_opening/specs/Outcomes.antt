-- The order of answers.
use Rattle.std.specs.Prelude.{◌≡◌, ℕ, ◌<◌, ◌⊎◌}
use Rattle.cdc_opening.specs.declared.outcome.Outcome.{Outcome}
use Rattle.cdc_opening.specs.declared.outcome.Outcome.TheVariants.{Done, Disk, TaskDisk, Read, Memory, TooLarge, Node, Open, Task, Behind, Differs, Key}

-- the place of an answer among all: 4 to 6 are of the opening, the others are told of a pass that was opened
abbrev pub place_of_outcome : Outcome → ℕ
place_of_outcome Done = 14
place_of_outcome (Disk out) = 7
place_of_outcome TaskDisk = 8
place_of_outcome (Read node) = 9
place_of_outcome Memory = 10
place_of_outcome (TooLarge number bytes) = 12
place_of_outcome (Node node place fault) = 13
place_of_outcome (Open out fault) = 4
place_of_outcome (Task fault) = 5
place_of_outcome (Behind node kept given) = 6
place_of_outcome (Differs out kept given) = 11
place_of_outcome (Key out kept given) = 11

-- the node or output that it names, counted from 1, or 0
abbrev pub number_of_outcome : Outcome → ℕ
number_of_outcome Done = 0
number_of_outcome (Disk out) = out
number_of_outcome TaskDisk = 0
number_of_outcome (Read node) = node
number_of_outcome Memory = 0
number_of_outcome (TooLarge number bytes) = 0
number_of_outcome (Node node place fault) = node
number_of_outcome (Open out fault) = out
number_of_outcome (Task fault) = 0
number_of_outcome (Behind node kept given) = node
number_of_outcome (Differs out kept given) = out
number_of_outcome (Key out kept given) = out

-- one is answered before another where both hold
abbrev pub ComesBefore : Outcome → Outcome → Type 0
ComesBefore a b = (place_of_outcome a < place_of_outcome b) ⊎ ((place_of_outcome a ≡ place_of_outcome b) × (number_of_outcome a < number_of_outcome b))
