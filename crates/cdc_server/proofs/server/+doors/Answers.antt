use Rattle.std.proofs.Common.{◌≡◌, length, arith, slice_index_or}
use Rattle.cdc_server.specs.Doors.{IsDoorServed}
use Rattle.cdc_server.proofs.Posts.{one_item, front_item, one_set, front_set, one_post, more_posts}
use Rattle.cdc_server.proofs.server.+doors.Goals as goal

pub serve_from-returns-then-doors-lt2 : goal.serve_from-returns-then-doors-lt2
serve_from-returns-then-doors-lt2 g t c =
    let shelf_one : length c.args.shelves.now ≡ 1 = omega (arith, c.requires.some, c.requires.shelves, c.if-doors-lt2.true) in
    let door_one : length c.args.doors.now ≡ 1 = omega (arith, c.requires.some, c.if-doors-lt2.true) in
    let salt_one : length c.args.salts.now ≡ 1 = omega (arith, c.requires.some, c.requires.salts, c.if-doors-lt2.true) in
    let now = c.serve_door-ending.new in
    record {
      served = one_post
          (IsDoorServed g.D.Disk.tells g.D.Disk.seen g.D.Disk.synced g.D.Disk.pending g.D.Disk.may_leave g.D.Disk.moment g.D.Disk.left_since g.D.Disk.faults g.G.Door.tells g.G.Door.shut g.G.Door.handed g.G.Door.served g.G.Door.faults g.Z.Salt.tells g.Z.Salt.drawn g.Z.Salt.faults c.args.users.now)
          c.args.number (slice_index_or c.args.shelves.now 0 c.index-shelves-0.result) now.shelf (slice_index_or c.args.doors.now 0 c.index-doors-0.result) now.door
          (slice_index_or c.args.salts.now 0 c.index-salts-0.result) now.salt c.serve_door-ending.result (one_item c.args.shelves.now c.index-shelves-0.result shelf_one)
          (one_item c.args.doors.now c.index-doors-0.result door_one) (one_item c.args.salts.now c.index-salts-0.result salt_one) (one_set c.args.shelves.now now.shelf shelf_one)
          (one_set c.args.doors.now now.door door_one) (one_set c.args.salts.now now.salt salt_one) c.serve_door-ending.ensures.served;
    }

pub serve_from-returns : goal.serve_from-returns
serve_from-returns g t c =
    let shelf_len = c.split_at_mut-shelf.ensures.front_len in
    let door_len = c.split_at_mut-door.ensures.front_len in
    let salt_len = c.split_at_mut-salt.ensures.front_len in
    let now = c.serve_beside-ending.new in
    record {
      served = more_posts
          (IsDoorServed g.D.Disk.tells g.D.Disk.seen g.D.Disk.synced g.D.Disk.pending g.D.Disk.may_leave g.D.Disk.moment g.D.Disk.left_since g.D.Disk.faults g.G.Door.tells g.G.Door.shut g.G.Door.handed g.G.Door.served g.G.Door.faults g.Z.Salt.tells g.Z.Salt.drawn g.Z.Salt.faults c.args.users.now)
          c.args.number (slice_index_or c.split_at_mut-shelf.result.0.now 0 c.index-shelf-0.result) now.shelf (slice_index_or c.split_at_mut-door.result.0.now 0 c.index-door-0.result) now.door
          (slice_index_or c.split_at_mut-salt.result.0.now 0 c.index-salt-0.result) now.salt c.serve_beside-ending.result.1 c.serve_beside-ending.result.0 c.first_end.result c.first_end.ensures
          c.serve_beside-ending.ensures.own c.serve_beside-ending.ensures.more
          (front_item c.args.shelves.now c.split_at_mut-shelf.result.0.now c.split_at_mut-shelf.result.1.now c.index-shelf-0.result c.split_at_mut-shelf.ensures.value shelf_len)
          (front_set c.split_at_mut-shelf.result.0.now now.more_shelves now.shelf shelf_len)
          (front_item c.args.doors.now c.split_at_mut-door.result.0.now c.split_at_mut-door.result.1.now c.index-door-0.result c.split_at_mut-door.ensures.value door_len)
          (front_set c.split_at_mut-door.result.0.now now.more_doors now.door door_len)
          (front_item c.args.salts.now c.split_at_mut-salt.result.0.now c.split_at_mut-salt.result.1.now c.index-salt-0.result c.split_at_mut-salt.ensures.value salt_len)
          (front_set c.split_at_mut-salt.result.0.now now.more_salts now.salt salt_len);
    }
