use Rattle.cdc_group.proofs.source.push_row.Goals as goal

-- a row's bytes are at hand
pub returns-in-Bytes-clause-ok : goal.returns-in-Bytes-clause-ok
returns-in-Bytes-clause-ok c = λ body tells is. c.push_bytes.ensures.ok body record { row = is; spelled = rw c.in-Bytes.is at tells }
