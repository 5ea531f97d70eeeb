use Rattle.next.proofs.plain.Goals as goal

pub returns : goal.returns
returns c = rw c.no_row-row.ensures
