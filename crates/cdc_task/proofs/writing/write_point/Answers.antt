use Rattle.cdc_task.proofs.writing.write_point.Goals as goal

pub returns-clause-fits : goal.returns-clause-fits
returns-clause-fits c =
    let front = c.in_ok-push_front.ensures in
    record {
      count = front.count;
      file = front.layout.file;
      size = front.layout.size;
      key = front.key;
      rotation = front.rotation;
      nodes = c.in_ok-push_cut_list.ensures.fits;
    }
