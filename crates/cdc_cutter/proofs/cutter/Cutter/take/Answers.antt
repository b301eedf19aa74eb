use Rattle.std.proofs.Common.{rules, ◌≡◌, ◌++◌, sym, ◌∙◌, arith, subst}
use Rattle.cdc_event.specs.Event.{magic}
use Rattle.cdc_cutter.specs.Pending.{pending_bytes}
use Rattle.cdc_cutter.specs.Cutting.{IsAtStart, PassesMagic}
use Rattle.cdc_cutter.proofs.Holding.{passed_count}
use Rattle.cdc_cutter.proofs.cutter.Cutter.take.Goals as goal

pub invariant_of-self-in-First : goal.invariant_of-self-in-First
invariant_of-self-in-First c =
    let rest = pending_bytes c.pass_magic-self-inside.new.bytes in
    let passed : pending_bytes c.feed.new.self ≡ magic ++ rest = subst (PassesMagic (pending_bytes c.feed.new.self) rest) c.in-First.is c.pass_magic-self-inside.ensures in
    record {
      setting = omega arith;
      counted = passed_count (pending_bytes c.self.inside.pending) c.args.piece.now rest c.self.inside.place.at (search rules) (sym c.in_ok-feed.ensures.ok ∙ passed);
      start = subst (λ s. IsAtStart s 4 rest) (sym c.in-First.is) tt;
    }
