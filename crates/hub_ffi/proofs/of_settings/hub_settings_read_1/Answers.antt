use lib.ListN.{length}
use Rattle.settings_file.specs.declared.Version.TheVariants.{First}
use Rattle.settings_file.specs.File.{reads}
use Rattle.settings_file.proofs.Claims.{claims}
use Rattle.settings_io.proofs.Short.{short}
use Rattle.hub_ffi.proofs.Settled.{answer-short, settles}
use Rattle.hub_ffi.proofs.of_settings.hub_settings_read_1.Goals as goal

pub told-requires : goal.told-requires
told-requires c =
    let t = reads First c.args.file.now (length c.args.out.now) in
    rw c.read.ensures.answer (answer-short t.outcome t.bytes (short.read First c.args.file.now (length c.args.out.now)))

pub returns : goal.returns
returns c =
    let t = reads First c.args.file.now (length c.args.out.now) in record {
      answer = settles t.outcome t.bytes _ (claims.refused_read First c.args.file.now (length c.args.out.now)) (rw c.read.ensures.answer at c.told.ensures);
      bytes = c.read.ensures.bytes;
    }
