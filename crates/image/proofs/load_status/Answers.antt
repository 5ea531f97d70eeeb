use borrow.Author.Tests.{ne_eqb}
use Rattle.image.proofs.load_status.Goals as goal

pub returns-in-1 : goal.returns-in-1
returns-in-1 c = rw c.in-1.is

pub returns-in-2 : goal.returns-in-2
returns-in-2 c = rw c.in-2.is

pub returns-in-4 : goal.returns-in-4
returns-in-4 c = rw c.in-4.is

pub returns-in-5 : goal.returns-in-5
returns-in-5 c = rw c.in-5.is

pub returns-in_default : goal.returns-in_default
returns-in_default c =
    let b = c.args.b in
    let r = c.in_default.in_default-own.rest in
    rw (ne_eqb b 1 r.0.0.0.1, ne_eqb b 2 r.0.0.1, ne_eqb b 4 r.0.1, ne_eqb b 5 r.1)
