use Rattle.image.specs.Image.{holders_of}
use Rattle.image.proofs.load_holders.Goals as goal

pub returns-in-Members : goal.returns-in-Members
unfolding holders_of
returns-in-Members c = rw c.in-Members.is c.load_members.ensures

pub returns-in-Owner : goal.returns-in-Owner
unfolding holders_of
returns-in-Owner c = rw c.in-Owner.is c.load_owner.ensures
