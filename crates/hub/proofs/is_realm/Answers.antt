use Rattle.hub.proofs.is_realm.Goals as goal

pub returns : goal.returns
returns c = c.same_bytes.ensures
