-- Equality and order of the names of XA branches.
use Rattle.std.specs.Prelude.{◌==◌, ◌&&◌, Bool, nat_eq}
use Rattle.std.specs.Ordering.{nat_cmp, on, then_cmp}
use Rattle.std.specs.Cmp.Lexicographic.{pointwise, slice_cmp}
use Rattle.std.specs.declared.cmp.Ordering.{Ordering}
use Rattle.cdc_base.specs.declared.xid.Xid.{Xid}

-- both name one branch: equal in all parts
abbrev pub same_xid : Xid → Xid → Bool
same_xid x y = pointwise nat_eq x.gtrid y.gtrid && (pointwise nat_eq x.bqual y.bqual && x.format == y.format)

-- the order of branches' names: by global id, qualifier, format
abbrev pub xid_order : Xid → Xid → Ordering
xid_order = then_cmp (on (λ (x : Xid). x.gtrid) (slice_cmp nat_cmp)) (then_cmp (on (λ (x : Xid). x.bqual) (slice_cmp nat_cmp)) (on (λ (x : Xid). x.format) nat_cmp))
