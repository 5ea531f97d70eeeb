use native.Mathlib.Omega.{arith}
use Rattle.buffer.proofs.Wrote.{told, wrote_then}
use Rattle.settings_file.specs.declared.Version.TheVariants.{First}
use Rattle.settings_io.specs.Written.{page_bytes}
use Rattle.settings_io.proofs.Laws.{exact, page-length}
use Rattle.settings_io.proofs.put_first_page.Goals as goal

pub returns : goal.returns
unfolding page_bytes
returns c =
    let args = c.args in
    exact (omega (arith, page-length First args.realm args.rules))
    (wrote_then (omega arith)
    (wrote_then (omega arith) (told _ _ _ c.put_byte-o.ensures) (told _ _ _ c.put_byte-p.ensures))
    (wrote_then (omega arith) (told _ _ _ c.put_entry-q.ensures) (told _ _ _ c.put_entry.ensures)))
