use Rattle.std.specs.Prelude.{None}
use mathlib.Core.Path.{◌∙◌}
use native.Mathlib.Omega.{arith}
use Rattle.msgpack.proofs.Laws.{head_done, head-str, head-opaque, flat-none}
use Rattle.msgpack.proofs.flat.Goals as goal

pub returns-in-5 : goal.returns-in-5
returns-in-5 c =
    let args = c.args in record {
      means = c.skip_text.ensures.means ∙ head-str (λ n e. None) (λ n e. None) args.s.now args.h c.in-5.is;
      within = c.skip_text.ensures.within;
    }

pub returns-in-6 : goal.returns-in-6
returns-in-6 c =
    let args = c.args in record {
      means = c.skip_bytes.ensures.means ∙ head-opaque (λ n e. None) (λ n e. None) args.s.now args.h c.in-6.is;
      within = c.skip_bytes.ensures.within;
    }

pub returns-in-0-to-4 : goal.returns-in-0-to-4
returns-in-0-to-4 c =
    let args = c.args in record {
      means = head_done (λ n e. None) (λ n e. None) args.s.now args.h (omega arith);
      within = omega (arith, c.requires);
    }

pub returns-in_default : goal.returns-in_default
returns-in_default c =
    let args = c.args in record {
      means = flat-none args.s.now args.h (omega arith) (λ e. omega arith) (λ e. omega arith);
      within = tt;
    }
