use Rattle.state.proofs.format_at.Goals as goal

pub returns : goal.returns
returns c = rw (c.format_of.ensures, c.session_at-s.ensures)
