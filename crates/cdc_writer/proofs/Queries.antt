-- The events of fixed form: BEGIN, statements and XID.
use Rattle.std.proofs.Common.{ℕ, ◌+◌, ◌<◌, ◌≤◌, ◌^◌, List, [], length, codes, refl, arith, lit≤}
use Rattle.cdc_event.specs.declared.body.Body.TheVariants.{Query, Xid}
use Rattle.cdc_event.specs.Event.{FitsBody}
use Rattle.cdc_model.specs.Print.{row_length, statement_event, xid_event}
use Rattle.cdc_writer.specs.Events.{IsPrintable}
use Rattle.cdc_writer.specs.Statements.{IsShort}
use Rattle.cdc_writer.proofs.Bodies.{query_size, xid_size}

query_fits : (db text : List ℕ) → length db ≤ 64 → FitsBody (Query 0 0 0 [] db text)
unfolding FitsBody
query_fits db text short = (omega arith, omega arith, omega arith, omega arith, omega arith)

xid_fits : (number : ℕ) → number < 2 ^ 64 → FitsBody (Xid number)
unfolding FitsBody
xid_fits number h = h

pub query_printable : (at : ℕ) (db text : List ℕ) → IsShort (db, text) → at + row_length (statement_event (db, text)) < 2 ^ 32 → IsPrintable at (statement_event (db, text))
query_printable at db text short room = record {
  fits = query_fits db text short.database;
  kind = refl;
  most = omega (arith, query_size db text, short.most);
  room = room;
}

pub xid_printable : (at number : ℕ) → number < 2 ^ 64 → at + row_length (xid_event number) < 2 ^ 32 → IsPrintable at (xid_event number)
xid_printable at number fits room = record {
  fits = xid_fits number fits;
  kind = refl;
  most = omega (arith, xid_size number);
  room = room;
}

-- the event BEGIN is short
pub begin_short : IsShort ([], codes "BEGIN")
begin_short = record { database = lit≤ tt; most = lit≤ tt }
