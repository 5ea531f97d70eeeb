use lib.ListN.{length}
use Rattle.settings_file.specs.declared.Version.TheVariants.{Second}
use Rattle.settings_file.specs.File.{writes}
use Rattle.settings_file.proofs.Claims.{claims}
use Rattle.settings_io.proofs.Short.{short}
use Rattle.hub_ffi.proofs.Settled.{answer-short, settles}
use Rattle.hub_ffi.proofs.of_settings.hub_settings_write.Goals as goal

pub told-requires : goal.told-requires
told-requires c =
    let t = writes Second c.args.settings.now (length c.args.out.now) in
    rw c.write.ensures.answer (answer-short t.outcome t.bytes (short.write Second c.args.settings.now (length c.args.out.now)))

pub returns : goal.returns
returns c =
    let t = writes Second c.args.settings.now (length c.args.out.now) in record {
      answer = settles t.outcome t.bytes _ (claims.refused_write Second c.args.settings.now (length c.args.out.now)) (rw c.write.ensures.answer at c.told.ensures);
      bytes = c.write.ensures.bytes;
    }
