use Rattle.options.proofs.excludes.Goals as goal

pub returns-in-Given : goal.returns-in-Given
returns-in-Given c = rw c.in-Given.is c.has.ensures
