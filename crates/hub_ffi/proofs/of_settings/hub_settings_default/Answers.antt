use lib.ListN.{length}
use Rattle.settings.specs.Settings.{default_settings}
use Rattle.settings.specs.Lent.{lent}
use Rattle.settings_file.specs.File.{given}
use Rattle.settings_file.proofs.Claims.{given-none}
use Rattle.settings_io.proofs.Short.{short}
use Rattle.hub_ffi.proofs.Settled.{answer-short, settles}
use Rattle.hub_ffi.proofs.of_settings.hub_settings_default.Goals as goal

pub told-requires : goal.told-requires
told-requires c =
    let t = given (length c.args.out.now) (lent default_settings) in
    rw c.default.ensures.answer (answer-short t.outcome t.bytes (short.usual (length c.args.out.now)))

pub returns : goal.returns
returns c =
    let t = given (length c.args.out.now) (lent default_settings) in record {
      answer = settles t.outcome t.bytes _ (given-none (length c.args.out.now) (lent default_settings)) (rw c.default.ensures.answer at c.told.ensures);
      bytes = c.default.ensures.bytes;
    }
