use Rattle.image.specs.Image.{holders_no}
use Rattle.keep.proofs.holders_number.Goals as goal

pub returns-in-Members : goal.returns-in-Members
unfolding holders_no
returns-in-Members c = rw c.in-Members.is c.members_number.ensures

pub returns-in-Owner : goal.returns-in-Owner
unfolding holders_no
returns-in-Owner c = rw c.in-Owner.is c.owner_number.ensures
