use Rattle.model.specs.Step.{on_open}
use Rattle.serve.proofs.on_yield.Goals as goal

pub returns : goal.returns
unfolding on_open
returns c = λ n t e. c.answers.ensures t e
