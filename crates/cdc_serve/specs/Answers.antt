-- Statuses of a server's call, and its lines on the error stream.
use Rattle.std.specs.Prelude.{ℕ, List, [], ◌++◌, codes, decimal}
use Rattle.cdc_config.specs.KeyWords.{key_word}
use Rattle.cdc_dumper.specs.declared.fault.OpenFault.{OpenFault}
use Rattle.cdc_dumper.specs.declared.fault.OpenFault.TheVariants as fault
use Rattle.cdc_serve.specs.declared.answer.ServeAnswer.{ServeAnswer}
use Rattle.cdc_serve.specs.declared.answer.ServeAnswer.TheVariants as answer
use Rattle.cdc_server.specs.declared.serve_end.ServeEnd.{ServeEnd}
use Rattle.cdc_server.specs.declared.serve_end.ServeEnd.TheVariants.{Done, Disk, Kept, Torn, Memory, Door, Salt}

-- the status of an output that is refused; a disk's fault is a fault of the disk
abbrev pub refused_status : OpenFault → ℕ
refused_status fault.DiskFault = 5
refused_status (fault.BadCell slot) = 7
refused_status (fault.BadFront kept found) = 7

-- the status of what doors came to
abbrev pub end_status : ServeEnd → ℕ
end_status Done = 0
end_status (Disk out) = 5
end_status (Kept out refusal) = refused_status refusal
end_status (Torn out) = 7
end_status Memory = 8
end_status (Door number) = 9
end_status (Salt number) = 9

-- the exit status of an answer
abbrev pub serve_status : ServeAnswer → ℕ
serve_status answer.Usage = 2
serve_status answer.ReadConfig = 4
serve_status (answer.Config key) = 2
serve_status answer.Memory = 8
serve_status (answer.Served end) = end_status end

-- the line of an output that is refused
abbrev pub refused_line : ℕ → OpenFault → List ℕ
refused_line out fault.DiskFault = codes "cdc: disk out " ++ decimal out ++ codes "\n"
refused_line out (fault.BadCell slot) = codes "cdc: kept out " ++ decimal out ++ codes " bad cell\n"
refused_line out (fault.BadFront kept found) =
    codes "cdc: kept out " ++ decimal out ++ codes " bad front " ++ decimal kept ++ codes " " ++ decimal found ++ codes "\n"

-- the line of what doors came to; none where all is done
abbrev pub end_line : ServeEnd → List ℕ
end_line Done = []
end_line (Disk out) = codes "cdc: disk out " ++ decimal out ++ codes "\n"
end_line (Kept out refusal) = refused_line out refusal
end_line (Torn out) = codes "cdc: kept out " ++ decimal out ++ codes " torn\n"
end_line Memory = codes "cdc: memory\n"
end_line (Door number) = codes "cdc: door " ++ decimal number ++ codes "\n"
end_line (Salt number) = codes "cdc: salt " ++ decimal number ++ codes "\n"

-- the line of an answer; each ends with a line feed
abbrev pub serve_line : ServeAnswer → List ℕ
serve_line answer.Usage = codes "cdc: usage\n"
serve_line answer.ReadConfig = codes "cdc: read config\n"
serve_line (answer.Config key) = codes "cdc: config " ++ key_word key ++ codes "\n"
serve_line answer.Memory = codes "cdc: memory\n"
serve_line (answer.Served end) = end_line end
