use Rattle.rules.proofs.is_valid.Goals as goal

pub returns-in-Members : goal.returns-in-Members
returns-in-Members c = rw c.in-Members.is c.valid_topic.ensures

pub returns-in-Owner : goal.returns-in-Owner
returns-in-Owner c = rw c.in-Owner.is c.valid_procedure.ensures
