-- Recoverable outputs and tasks of small logs, worked out by hand.
use Rattle.std.proofs.Common.{◌≡◌, ℕ, ◌+◌, suc, ◌<◌, ◌==◌, false, if◌then◌else◌, List, [], ◌∷◌, ◌++◌, length, map, refl, arith, lit≤}
use Rattle.std.specs.Prelude.{None, Some, replicate}
use Rattle.std.proofs.lemmas.Bool.{ne_eqb}
use Rattle.cdc_base.specs.declared.key.Key.{Key}
use Rattle.cdc_base.specs.declared.xid.Xid.{Xid}
use Rattle.cdc_base.specs.declared.key.Key.TheVariants.{Shared}
use Rattle.cdc_outside.specs.declared.disk_file.DiskFile.TheVariants.{SlotA, SlotB, Log}
use Rattle.cdc_outside.specs.Disk.{Image}
use Rattle.cdc_event.specs.Number.{low_first}
use Rattle.cdc_event.specs.Event.{header_bytes, body_bytes}
use Rattle.hex.specs.Hex.{encode_with}
use Rattle.cdc_cell.specs.Slot.{number_at}
use Rattle.cdc_model.specs.declared.entry.EntryKind.{EntryKind}
use Rattle.cdc_model.specs.declared.entry.EntryKind.TheVariants.{Prepare, Commit, Beat}
use Rattle.cdc_model.specs.declared.node_log.NodeLog.{NodeLog}
use Rattle.cdc_model.specs.Records.{LogEntry, Transaction}
use Rattle.cdc_model.specs.Start.{beginning}
use Rattle.cdc_model.specs.Print.{digits, mark_text, statement_in}
use Rattle.cdc_model.specs.Output.{post_headers, file_head, file_name, rotate_event, no_output, layout_in}
use Rattle.cdc_model.specs.Transaction.{key_at}
use Rattle.cdc_records.specs.declared.front.Front.{Front}
use Rattle.cdc_records.specs.declared.checkpoint.Checkpoint.{Checkpoint}
use Rattle.cdc_records.specs.Front.{no_front, front_bytes, HasFront}
use Rattle.cdc_records.specs.Checkpoint.{point_bytes, FitsHeld, FitsPoint, IsPoint, HasPoint}
use Rattle.cdc_recovery.specs.Outputs.{OutputPlan, planned_transactions, files_taken, passed_below, KeepsOut}
use Rattle.cdc_recovery.specs.Checkpoints.{IsSoundCheckpoint, IsLastCheckpoint, KeepsPoint, KeepsTask, stored}

-- ---- the logs

abbrev id : ℕ → Xid
id number = record { gtrid = 103 ∷ (48 + number) ∷ []; bqual = []; format = 1 }

abbrev prepare : ℕ → EntryKind
prepare number = Prepare (id number) []

abbrev commit : ℕ → ℕ → EntryKind
commit number timestamp = Commit (id number) timestamp 5

-- an entry of file 1 whose last event stands between two bytes
abbrev stands : ℕ → ℕ → EntryKind → LogEntry
stands from to kind = record {
  kind = kind;
  at = record { file = 1; at = from };
  end = record { file = 1; at = to };
  checksum = 0;
}

-- a head of 123 bytes, a prepare of 142, a beat of 28, a prepare, and a commit of 84
abbrev first_pass : List LogEntry
first_pass = stands 231 265 (prepare 1) ∷ stands 265 293 (Beat 10) ∷ stands 401 435 (prepare 2) ∷ stands 463 519 (commit 1 10) ∷ []

abbrev second_pass : List LogEntry
second_pass = first_pass ++ stands 547 603 (commit 2 20) ∷ []

abbrev logs : List LogEntry → List NodeLog
logs entries = record { start = beginning; entries = entries } ∷ []

abbrev plan : OutputPlan
plan = record { rules = []; rotation = 536870912 }

abbrev settled : List LogEntry → List Transaction
settled entries = planned_transactions plan (logs entries)

-- ---- transactions in files that are no longer kept

-- with a rotation size of 256 the first two of three transactions stand in file 1
abbrev small : OutputPlan
small = record { rules = []; rotation = 256 }

abbrev three : List LogEntry
three = map (stands 0 0) (prepare 1 ∷ commit 1 10 ∷ prepare 2 ∷ commit 2 20 ∷ prepare 3 ∷ commit 3 30 ∷ [])

taken : files_taken small (layout_in no_output) (planned_transactions small (logs three)) ≡ 1 ∷ 1 ∷ 2 ∷ []
unfolding low_first header_bytes body_bytes encode_with digits mark_text statement_in post_headers file_head file_name rotate_event
taken = refl

passed : map (λ first. passed_below small first (planned_transactions small (logs three))) (1 ∷ 2 ∷ 3 ∷ []) ≡ 0 ∷ 2 ∷ 3 ∷ []
unfolding low_first header_bytes body_bytes encode_with digits mark_text statement_in post_headers file_head file_name rotate_event
passed = refl

-- ---- an output of one transaction

-- its file, byte by byte
abbrev first_file : List ℕ
first_file = 254 ∷ 98 ∷ 105 ∷ 110 ∷ 0 ∷ 0 ∷ 0 ∷ 0 ∷ 15 ∷ 1 ∷ 0 ∷ 0 ∷ 0 ∷ 119 ∷ 0 ∷ 0 ∷ 0 ∷ 123 ∷ 0 ∷ 0 ∷ 0 ∷ 0 ∷ 0 ∷ 4 ∷ 0 ∷ 53 ∷ 46 ∷ 55 ∷ 46 ∷ 48 ∷ 45 ∷ 99 ∷ 100 ∷ 99 ∷ 0 ∷ 0 ∷ 0 ∷ 0 ∷ 0 ∷ 0 ∷ 0 ∷ 0 ∷ 0 ∷ 0 ∷ 0 ∷ 0 ∷ 0 ∷ 0 ∷ 0 ∷ 0 ∷ 0 ∷ 0 ∷ 0 ∷ 0 ∷ 0 ∷ 0 ∷ 0 ∷ 0 ∷ 0 ∷ 0 ∷ 0 ∷ 0 ∷ 0 ∷ 0 ∷ 0 ∷ 0 ∷ 0 ∷ 0 ∷ 0 ∷ 0 ∷ 0 ∷ 0 ∷ 0 ∷ 0 ∷ 0 ∷ 0 ∷ 0 ∷ 0 ∷ 0 ∷ 19 ∷ 56 ∷ 13 ∷ 0 ∷ 8 ∷ 0 ∷ 18 ∷ 0 ∷ 4 ∷ 4 ∷ 4 ∷ 4 ∷ 18 ∷ 0 ∷ 0 ∷ 95 ∷ 0 ∷ 4 ∷ 26 ∷ 8 ∷ 0 ∷ 0 ∷ 0 ∷ 8 ∷ 8 ∷ 8 ∷ 2 ∷ 0 ∷ 0 ∷ 0 ∷ 10 ∷ 10 ∷ 10 ∷ 42 ∷ 42 ∷ 0 ∷ 18 ∷ 52 ∷ 0 ∷ 0 ∷ 0 ∷ 0 ∷ 0 ∷ 0 ∷ 5 ∷ 0 ∷ 0 ∷ 0 ∷ 2 ∷ 1 ∷ 0 ∷ 0 ∷ 0 ∷ 38 ∷ 0 ∷ 0 ∷ 0 ∷ 161 ∷ 0 ∷ 0 ∷ 0 ∷ 0 ∷ 0 ∷ 0 ∷ 0 ∷ 0 ∷ 0 ∷ 0 ∷ 0 ∷ 0 ∷ 0 ∷ 0 ∷ 0 ∷ 0 ∷ 0 ∷ 0 ∷ 0 ∷ 66 ∷ 69 ∷ 71 ∷ 73 ∷ 78 ∷ 5 ∷ 0 ∷ 0 ∷ 0 ∷ 29 ∷ 1 ∷ 0 ∷ 0 ∷ 0 ∷ 53 ∷ 0 ∷ 0 ∷ 0 ∷ 214 ∷ 0 ∷ 0 ∷ 0 ∷ 0 ∷ 0 ∷ 33 ∷ 67 ∷ 84 ∷ 83 ∷ 58 ∷ 58 ∷ 48 ∷ 48 ∷ 48 ∷ 48 ∷ 48 ∷ 48 ∷ 48 ∷ 48 ∷ 48 ∷ 48 ∷ 48 ∷ 48 ∷ 48 ∷ 48 ∷ 48 ∷ 48 ∷ 48 ∷ 49 ∷ 48 ∷ 58 ∷ 58 ∷ 48 ∷ 58 ∷ 58 ∷ 54 ∷ 55 ∷ 51 ∷ 49 ∷ 5 ∷ 0 ∷ 0 ∷ 0 ∷ 16 ∷ 1 ∷ 0 ∷ 0 ∷ 0 ∷ 27 ∷ 0 ∷ 0 ∷ 0 ∷ 241 ∷ 0 ∷ 0 ∷ 0 ∷ 0 ∷ 0 ∷ 1 ∷ 0 ∷ 0 ∷ 0 ∷ 0 ∷ 0 ∷ 0 ∷ 0 ∷ []

-- the Front of it
abbrev one_published : Front
one_published = record { count = 1; file = 1; length = 241; closed = false; first = 1; passed = 0; last = Some (Shared 10 (103 ∷ 49 ∷ [])) }

-- what keeps it: a gate, the number 1, the length 54, and the record
abbrev slot_with : ℕ → List ℕ
slot_with gate = gate ∷ (1 ∷ replicate 7 0 ++ (54 ∷ replicate 7 0 ++ front_bytes one_published))

-- the file of the first transaction, and its record behind a gate
abbrev image_with : ℕ → Image
image_with gate SlotA = slot_with gate
image_with gate SlotB = []
image_with gate (Log number) = if number == 1 then first_file else []

only_file_1 : (gate file : ℕ) → 1 < file → image_with gate (Log file) ≡ []
only_file_1 gate file above =
    let other : (file == 1) ≡ false = ne_eqb file 1 (λ e. omega arith) in
    rw other

-- before its gate is opened nothing is published, though file 1 has all bytes
before_the_gate : KeepsOut plan (settled first_pass) 0 (image_with 0)
unfolding low_first number_at
before_the_gate = record {
  front = no_front;
  is_front = record { cell = refl; kept = refl };
  counted = refl;
  is_kept = record {
    within = omega arith;
    layout = refl;
    files = refl;
    passed = refl;
    last = λ key e. absurd cc;
    behind = λ file above. only_file_1 0 file above;
  };
}

-- behind it one transaction is
has_one : HasFront (image_with 1) one_published
unfolding low_first number_at
has_one = record {
  cell = refl;
  kept = record {
    sound = record {
      some = lit≤ tt;
      most = lit≤ tt;
      file = lit≤ tt;
      within = lit≤ tt;
      kept = lit≤ tt;
      upto = lit≤ tt;
      below = lit≤ tt;
      headed = lit≤ tt;
      fits = lit≤ tt;
      version = (lit≤ tt, lit≤ tt);
    };
    number = refl;
    payload = refl;
  };
}

last_key : (key : Key) → one_published.last ≡ Some key → key ≡ Shared 10 (103 ∷ 49 ∷ [])
last_key key e = cc

behind_the_gate : KeepsOut plan (settled first_pass) 1 (image_with 1)
unfolding low_first header_bytes body_bytes encode_with digits mark_text statement_in post_headers file_head file_name rotate_event
behind_the_gate = record {
  front = one_published;
  is_front = has_one;
  counted = refl;
  is_kept = record {
    within = lit≤ tt;
    layout = refl;
    files = refl;
    passed = refl;
    last = λ key e. last_key key e;
    behind = λ file above. only_file_1 1 file (omega arith);
  };
}

-- ---- the task behind each pass

-- the node goes on with entry 3 behind the beat, and holds `g1` open
abbrev after_one : Checkpoint
after_one = record {
  count = 1;
  layout = record { file = 1; length = 241; closed = false };
  last = Shared 10 (103 ∷ 49 ∷ []);
  rotation = Some 536870912;
  nodes = record { entry = 3; place = record { file = 1; at = 293 }; mark = 10; checksum = 0; held = (id 1, 0) ∷ [] } ∷ [];
}

abbrev after_two : Checkpoint
after_two = record {
  count = 2;
  layout = record { file = 1; length = 359; closed = false };
  last = Shared 20 (103 ∷ 50 ∷ []);
  rotation = Some 536870912;
  nodes = record { entry = 6; place = record { file = 1; at = 603 }; mark = 20; checksum = 0; held = [] } ∷ [];
}

-- entry 3 is the Prepare that waits, and what began before it is published
sound_one : IsSoundCheckpoint plan (logs first_pass) after_one
unfolding low_first header_bytes body_bytes encode_with digits mark_text statement_in post_headers file_head file_name rotate_event
sound_one = record {
  within = lit≤ tt;
  last = refl;
  layout = refl;
  points = (
    record {
      sound = record { first = lit≤ tt; most = lit≤ tt; ended = ((λ from. lit≤ tt), tt); below = ((λ from before. refl), tt) };
      parts = refl;
    },
    tt,
  );
}

-- it is the latest: what waits isn't left out
last_one : IsLastCheckpoint plan (logs first_pass) after_one
unfolding low_first header_bytes body_bytes encode_with digits mark_text statement_in post_headers file_head file_name rotate_event
last_one = record {
  sound = sound_one;
  all = refl;
  latest = (record { sound = sound_one.points.0; latest = λ number is. is.ended.0 (lit≤ tt) }, tt);
}

-- it stays sound where the log goes on, and the latest is then the log's end
sound_on : IsSoundCheckpoint plan (logs second_pass) after_one
unfolding low_first header_bytes body_bytes encode_with digits mark_text statement_in post_headers file_head file_name rotate_event
sound_on = record {
  within = lit≤ tt;
  last = refl;
  layout = refl;
  points = (
    record {
      sound = record { first = lit≤ tt; most = lit≤ tt; ended = tt; below = ((λ from before. refl), ((λ from before. absurd (omega (arith, before))), tt)) };
      parts = refl;
    },
    tt,
  );
}

sound_two : IsSoundCheckpoint plan (logs second_pass) after_two
unfolding low_first header_bytes body_bytes encode_with digits mark_text statement_in post_headers file_head file_name rotate_event
sound_two = record {
  within = lit≤ tt;
  last = refl;
  layout = refl;
  points = (
    record {
      sound = record { first = lit≤ tt; most = lit≤ tt; ended = tt; below = ((λ from before. refl), ((λ from before. refl), tt)) };
      parts = refl;
    },
    tt,
  );
}

last_two : IsLastCheckpoint plan (logs second_pass) after_two
unfolding low_first header_bytes body_bytes encode_with digits mark_text statement_in post_headers file_head file_name rotate_event
last_two = record {
  sound = sound_two;
  all = refl;
  latest = (record { sound = sound_two.points.0; latest = λ number is. is.most }, tt);
}

-- ---- the task's image

abbrev task_image : Image
task_image SlotA = 1 ∷ (4 ∷ replicate 7 0 ++ (101 ∷ replicate 7 0 ++ point_bytes after_one))
task_image SlotB = []
task_image (Log number) = []

g1_fits : FitsHeld (id 1, 0)
g1_fits = record { id = lit≤ tt; qualifier = lit≤ tt; format = lit≤ tt; floor = lit≤ tt }

one_fits : FitsPoint after_one
one_fits = record {
  count = lit≤ tt;
  file = lit≤ tt;
  size = lit≤ tt;
  key = (lit≤ tt, lit≤ tt);
  rotation = lit≤ tt;
  nodes = record {
    each = (
      record {
        entry = lit≤ tt;
        file = lit≤ tt;
        at = lit≤ tt;
        mark = lit≤ tt;
        setting = lit≤ tt;
        held = record { each = (g1_fits, tt); few = lit≤ tt };
      },
      tt,
    );
    few = lit≤ tt;
  };
}

one_is : IsPoint after_one
one_is = record {
  some = lit≤ tt;
  most = lit≤ tt;
  cuts = (record { numbered = lit≤ tt; placed = lit≤ tt; in_order = (tt, tt); from_start = λ e. absurd (omega (arith, e)) }, tt);
  timestamp = lit≤ tt;
  within = lit≤ tt;
  left_open = λ is. lit≤ tt;
  size = lit≤ tt;
  begins = λ e. absurd (omega (arith, e));
  number = lit≤ tt;
}

has_point : HasPoint task_image (Some after_one)
unfolding low_first number_at
has_point = record { cell = refl; kept = record { fits = one_fits; is = one_is; number = refl; payload = refl } }

keeps_one : KeepsPoint plan (logs first_pass) (Some after_one) task_image
keeps_one = record { has = has_point; recoverable = record { sound = sound_one; rotation = λ named e. cc } }

-- its record isn't that of the start, where nothing was, and every output has the one transaction that it counts
task_kept : KeepsTask plan (logs first_pass) (λ start. start ≡ (λ file. [])) 1 task_image
task_kept = record { point = Some after_one; keeps = keeps_one; covered = stored after_one refl (lit≤ tt) }
