-- What a request asks for.
use Rattle.std.specs.Prelude.{ℕ, ◌==◌, ◌&&◌, List, [], ◌∷◌, length, take, drop, nat_le, if◌then◌else◌}
use Rattle.cdc_event.specs.Number.{number_of}
use Rattle.cdc_packet.specs.declared.command.Command.{Command}
use Rattle.cdc_packet.specs.declared.command.Command.TheVariants.{Dump, Quit, Ping, Register, Unknown}

-- a dump: the position, the flags, the server's id, and the file's name to the end
abbrev pub dump_command : List ℕ → Command
dump_command fields = Dump (number_of (take 4 fields)) (number_of (take 2 (drop 4 fields))) (number_of (take 4 (drop 6 fields))) (drop 10 fields)

-- the command of a code, and what stands behind it
abbrev pub coded_command : ℕ → List ℕ → Command
coded_command code fields =
    if code == 18 && nat_le 10 (length fields) then dump_command fields
    else if code == 1 && length fields == 0 then Quit
    else if code == 14 && length fields == 0 then Ping
    else if code == 21 then Register
    else Unknown

-- the command of a request's payload
abbrev pub command_in : List ℕ → Command
command_in [] = Unknown
command_in (code ∷ fields) = coded_command code fields
