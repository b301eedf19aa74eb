use Rattle.std.proofs.Common.{subst}
use Rattle.cdc_event.specs.Reading.{Gives}
use Rattle.cdc_event.proofs.Whole.{Premises, read_so}
use Rattle.cdc_event.proofs.Faults.{gives_event, gives_known, gives_fault, fault_given, fault_to, fault_from}
use Rattle.cdc_event.proofs.reading.read_owned_body.Goals as goal

pub returns-clause-event : goal.returns-clause-event
returns-clause-event c =
    let p : Premises c.args.checksum c.args.header.now c.args.body = record { good = c.requires.length; whole = c.requires.whole; fits = c.read_moved.ensures.header; bytes_are = record { below = c.read_moved.ensures.bytes } } in
    gives_event c.read_moved.result c.args.checksum c.args.header.now c.args.body p c.read_moved.ensures.exact

pub returns-clause-only : goal.returns-clause-only
returns-clause-only c = λ event known e.
    let p : Premises c.args.checksum c.args.header.now c.args.body = record { good = c.requires.length; whole = c.requires.whole; fits = c.read_moved.ensures.header; bytes_are = record { below = c.read_moved.ensures.bytes } } in
    subst (Gives c.read_moved.result) (read_so c.args.checksum c.args.header.now c.args.body event p known e) c.read_moved.ensures.exact

pub returns-clause-fault : goal.returns-clause-fault
returns-clause-fault c = λ fault. (
  λ e. fault_to c.args.checksum c.args.header.now c.args.body fault (gives_fault c.read_moved.result _ fault c.read_moved.ensures.exact e),
  λ f. fault_given c.read_moved.result _ fault c.read_moved.ensures.exact (fault_from c.args.checksum c.args.header.now c.args.body fault (record { below = c.read_moved.ensures.bytes }) f),
)

pub returns-clause-known : goal.returns-clause-known
returns-clause-known c =
    let p : Premises c.args.checksum c.args.header.now c.args.body = record { good = c.requires.length; whole = c.requires.whole; fits = c.read_moved.ensures.header; bytes_are = record { below = c.read_moved.ensures.bytes } } in
    gives_known c.read_moved.result c.args.checksum c.args.header.now c.args.body p c.read_moved.ensures.exact
