use Rattle.std.proofs.Common.{ℕ, ◌+◌, [], subst}
use Rattle.cdc_reader.specs.Fed.{Follows}
use Rattle.cdc_reader.proofs.Reading.{read_next_file}
use Rattle.cdc_reader.proofs.log.LogReader.next_file.Goals as goal

pub returns-clause-taken : goal.returns-clause-taken
returns-clause-taken c = λ point files taken there ends all.
    read_next_file c.file_is_read_in_one_way.ensures point files c.args.self.now.follower c.next_file.new.self c.args.self.now.place taken there ends
    (λ checksum.
    subst (λ (n : ℕ). Follows c.next_file.new.self (n + 1) 0 checksum [] []) c.args.self.now.in_file
    (c.next_file.ensures.follows all.read.follows.progress all.read.follows.standing checksum)) all
