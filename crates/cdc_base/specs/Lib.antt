pub mod Bytes
pub mod Gtrid
pub mod Key
pub mod Xid
-- what other crates cite
pub use Rattle.cdc_base.specs.Bytes.{AreBytes}
pub use Rattle.cdc_base.specs.Key.{key_order, first_key}
pub use Rattle.cdc_base.specs.Xid.{same_xid, xid_order}
