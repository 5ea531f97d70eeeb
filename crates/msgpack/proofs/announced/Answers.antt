use Rattle.msgpack.proofs.Heads.{form-whole, form-map, form-array, form-str, form-below, form-listed}
use mathlib.Core.Path.{refl, ◌∙◌}
use native.Mathlib.Omega.{arith}
use Rattle.msgpack.proofs.announced.Goals as goal

pub returns-in-0-to-127 : goal.returns-in-0-to-127
returns-in-0-to-127 c = record { means = c.at_once.ensures ∙ form-whole c.args.b _ (omega arith) refl }

pub returns-in-128-to-143 : goal.returns-in-128-to-143
returns-in-128-to-143 c = record { means = c.at_once-in-128-to-143.ensures ∙ form-map c.args.b _ (omega arith) (omega arith) refl }

pub returns-in-144-to-159 : goal.returns-in-144-to-159
returns-in-144-to-159 c = record { means = c.at_once-in-144-to-159.ensures ∙ form-array c.args.b _ (omega arith) (omega arith) refl }

pub returns-in-160-to-191 : goal.returns-in-160-to-191
returns-in-160-to-191 c = record { means = c.at_once-in-160-to-191.ensures ∙ form-str c.args.b _ (omega arith) (omega arith) refl }

pub returns-in-192-to-223 : goal.returns-in-192-to-223
returns-in-192-to-223 c = record { means = c.listed.ensures ∙ form-listed c.args.b _ (omega arith) (omega arith) (omega (arith, c.size.ensures)) }

pub returns-in_default : goal.returns-in_default
returns-in_default c = record { means = c.at_once-in_default.ensures ∙ form-below c.args.b _ (omega arith) refl }
