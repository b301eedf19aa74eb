use Rattle.std.proofs.Common.{◌≡◌, ℕ, ◌+◌, List, take, refl, ap, ◌∙◌, arith}
use Rattle.std.specs.Prelude.{Err}
use Rattle.cdc_session.specs.declared.dump_stop.DumpStop.TheVariants.{Torn}
use Rattle.cdc_cell.proofs.Alone.{alone_yet, alone_both}
use Rattle.cdc_session.specs.Dump.{as_payloads, events_from}
use Rattle.cdc_session.proofs.Chains.{payloads_here, chain_on, none_left}
use Rattle.cdc_session.proofs.Sent.{streaming_starts, streaming_more, streaming_done, streaming_breaks}
use Rattle.cdc_session.proofs.events.pack_events.Goals as goal

pub loop-place-init : goal.loop-place-init
loop-place-init g c = record {
  within = c.requires;
  alone = λ told.
      alone_yet g.D.Disk.seen g.D.Disk.synced g.D.Disk.pending g.D.Disk.may_leave g.D.Disk.moment g.D.Disk.left_since (λ disk image left. g.met.D.Disk.only_now disk image told left) c.args.disk.now;
  reads = λ told image same reads. reads;
  chain = λ told image same reads chain. chain;
  so_far = λ told tells image same reads.
      streaming_starts (g.L.Link.written c.args.link.now) c.args.out.now.held c.args.out.now.sequence (as_payloads (events_from c.args.at (take c.args.source.limit (image c.args.source.file))));
  disk_later = omega arith;
  link_later = omega arith;
  input = refl;
  left = refl;
}

pub returns-in-Err-clause-told : goal.returns-in-Err-clause-told
returns-in-Err-clause-told g c told tells image same reads =
    let inv = c.loop-place.invariant in
    streaming_breaks (inv.so_far told tells image same reads) (c.in-Err.ensures.told told tells image ((inv.alone told).same ∙ same) (inv.reads told image same reads))

pub returns-in-Err-clause-whole : goal.returns-in-Err-clause-whole
returns-in-Err-clause-whole g c told image same reads chain e =
    let inv = c.loop-place.invariant in
    c.in-Err.ensures.whole told image ((inv.alone told).same ∙ same) (inv.reads told image same reads) c.loop-place-test.true (inv.chain told image same reads chain) (let stop : c.in-Err.stop ≡ Torn = (let h = e in cc) in ap Err stop)

pub returns-clause-told : goal.returns-clause-told
returns-clause-told g c told tells image same reads =
    let inv = c.loop-place.invariant in
    streaming_done (inv.so_far told tells image same reads) (none_left (image c.args.source.file) c.args.source.limit c.loop-place.place reads.within c.loop-place-test.false)

pub loop-place-preserved : goal.loop-place-preserved
loop-place-preserved g c =
    let inv = c.loop-place.invariant in
    let place : ℕ = c.loop-place.place in
    let size : ℕ = c.in-Ok.size in
    let limit : ℕ = c.args.source.limit in
    let within = c.in-Ok.ensures.within in
    record {
      within = within.1;
      alone = λ told.
          alone_both g.D.Disk.seen g.D.Disk.synced g.D.Disk.pending g.D.Disk.may_leave g.D.Disk.moment g.D.Disk.left_since c.args.disk.now c.loop-place.disk c.pack_next.new.disk
          (inv.alone told) (c.in-Ok.ensures.alone told);
      reads = λ told image same reads. c.in-Ok.ensures.reads told image ((inv.alone told).same ∙ same) (inv.reads told image same reads);
      chain = λ told image same reads chain.
          chain_on (image c.args.source.file) limit place size reads.within (c.in-Ok.ensures.sized told image ((inv.alone told).same ∙ same) (inv.reads told image same reads))
          within.0 within.1 (inv.chain told image same reads chain);
      so_far = λ told tells image same reads.
          let file : List ℕ = image c.args.source.file in
          let here = inv.reads told image same reads in
          streaming_more (g.L.Link.written c.pack_next.new.link) c.pack_next.new.out.held c.pack_next.new.out.sequence (as_payloads (events_from (place + size) (take limit file)))
          (inv.so_far told tells image same reads)
          (payloads_here file limit place size reads.within (c.in-Ok.ensures.sized told image ((inv.alone told).same ∙ same) here) within.0 within.1)
          (c.in-Ok.ensures.told told tells image ((inv.alone told).same ∙ same) here);
      disk_later = omega (arith, inv.disk_later, c.in-Ok.ensures.disk_later);
      link_later = omega (arith, inv.link_later, c.in-Ok.ensures.link_later);
      input = c.in-Ok.ensures.input ∙ inv.input;
      left = c.in-Ok.ensures.left ∙ inv.left;
    }
