-- Events as they are read in place, and what they are views of.
use Rattle.std.specs.Prelude.{Result, Ok, Err}
use Rattle.cdc_event.specs.declared.body.Body.{Body}
use Rattle.cdc_event.specs.declared.body.Body.TheVariants.{Format, Query, Rotate, RowsQuery, TableMap, Rows, XaPrepare, Timestamp, Skipped}
use Rattle.cdc_event.specs.declared.body.Body.TheVariants.{Xid as XidEvent}
use Rattle.cdc_event.specs.declared.event.Event.{Event}
use Rattle.cdc_event.specs.declared.fault.EventFault.{EventFault}
use Rattle.cdc_event.specs.declared.view.EventView.{EventView}
use Rattle.cdc_event.specs.declared.view.BodyView.{BodyView}
use Rattle.cdc_event.specs.declared.view.BodyView.TheVariants.{Format as SeenFormat, Query as SeenQuery, Rotate as SeenRotate, Xid as SeenXid, RowsQuery as SeenRowsQuery, TableMap as SeenTableMap, Rows as SeenRows, XaPrepare as SeenPrepare, Timestamp as SeenTimestamp, Skipped as SeenSkipped}

-- the body that is seen
abbrev pub body_viewed : BodyView → Body
body_viewed (SeenFormat text created lengths checksum tail) = Format text.now created lengths.now checksum tail
body_viewed (SeenQuery thread seconds error status db text) = Query thread seconds error status.now db.now text.now
body_viewed (SeenRotate position name) = Rotate position name.now
body_viewed (SeenXid number) = XidEvent number
body_viewed (SeenRowsQuery size text) = RowsQuery size text.now
body_viewed (SeenTableMap table flags db name rest) = TableMap table flags db.now name.now rest.now
body_viewed (SeenRows bytes) = Rows bytes.now
body_viewed (SeenPrepare one_phase format gtrid bqual) = XaPrepare one_phase record { gtrid = gtrid.now; bqual = bqual.now; format = format }
body_viewed (SeenTimestamp class value) = Timestamp class value
body_viewed (SeenSkipped bytes) = Skipped bytes.now

-- the event that is seen
abbrev pub event_viewed : EventView → Event
event_viewed view = record { header = view.header; body = body_viewed view.body }

-- the event that is seen, or the fault
abbrev pub result_viewed : Result EventView EventFault → Result Event EventFault
result_viewed (Ok view) = Ok (event_viewed view)
result_viewed (Err fault) = Err fault
