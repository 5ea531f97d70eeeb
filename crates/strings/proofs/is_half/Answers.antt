use mathlib.Core.Path.{sym}
use Rattle.strings.proofs.Laws.{half-below, half-from}
use Rattle.strings.proofs.is_half.Goals as goal

pub returns-then-n-lt55296 : goal.returns-then-n-lt55296
returns-then-n-lt55296 c = sym (half-below _ c.if-n-lt55296.true)

pub returns : goal.returns
returns c = sym (half-from _ c.if-n-lt55296.false)
