-- The end of a session by what brought it.
use Rattle.std.specs.Prelude.{ℕ, ◌%◌, ◌==◌, List, [], ◌∷◌, if◌then◌else◌}
use Rattle.cdc_packet.specs.declared.packet_end.PacketEnd.{PacketEnd}
use Rattle.cdc_packet.specs.declared.packet_end.PacketEnd.TheVariants as packet
use Rattle.cdc_dumper.specs.declared.fault.OpenFault.{OpenFault}
use Rattle.cdc_dumper.specs.declared.fault.OpenFault.TheVariants as open_fault
use Rattle.cdc_session.specs.declared.dump_stop.DumpStop.{DumpStop}
use Rattle.cdc_session.specs.declared.dump_stop.DumpStop.TheVariants as stop
use Rattle.cdc_session.specs.declared.session_end.SessionEnd.{SessionEnd}
use Rattle.cdc_session.specs.declared.session_end.SessionEnd.TheVariants.{Closed, BadPacket, LinkFault, DiskFault, Kept, Torn, Memory}
use Rattle.cdc_session.specs.Reply.{no_more_payload}

-- by what broke a dump off
abbrev pub session_end_by : DumpStop → SessionEnd
session_end_by stop.LinkFault = LinkFault
session_end_by stop.DiskFault = DiskFault
session_end_by stop.Torn = Torn
session_end_by stop.Memory = Memory

-- by why the output is refused
abbrev pub refused_by : OpenFault → SessionEnd
refused_by open_fault.DiskFault = DiskFault
refused_by (open_fault.BadCell slot) = Kept (open_fault.BadCell slot)
refused_by (open_fault.BadFront kept found) = Kept (open_fault.BadFront kept found)

-- by why no request was read
abbrev pub end_of_packet : PacketEnd → SessionEnd
end_of_packet packet.Closed = Closed
end_of_packet packet.Torn = BadPacket
end_of_packet packet.TooLong = BadPacket
end_of_packet packet.LinkFault = LinkFault
end_of_packet packet.Memory = Memory

-- what ends a dump of these flags
abbrev pub end_payloads : ℕ → List (List ℕ)
end_payloads flags = if flags % 2 == 1 then no_more_payload ∷ [] else []
