use Rattle.choose.proofs.row_wins.Goals as goal

pub returns : goal.returns
returns c =
    let text = c.text-new in
    rw (← text.ensures, ← c.text-old.ensures) c.wins.ensures
