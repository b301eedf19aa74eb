use Rattle.std.proofs.Common.{◌+◌, arith}
use Rattle.cdc_writer.proofs.Runs.{run_size}
use Rattle.cdc_writer.proofs.run.room_for.Goals as goal

pub returns : goal.returns
returns c rules txn is =
    omega (
      arith,
      c.head_room.ensures.size,
      c.closing_room.ensures.size (c.args.spot.now.at + c.args.printed),
      run_size rules txn c.args.spot.now c.args.printed is,
    )
