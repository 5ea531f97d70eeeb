-- The contents page of a settings file by the lengths of its bodies, and the body that one version has alone.
use Rattle.std.specs.Prelude.{ℕ, ◌+◌, ◌≤◌, List, [], ◌∷◌, ◌++◌, length}
use Rattle.seq.specs.BigEndian.{digits}
use Rattle.contents.specs.Contents.{page_end}
use Rattle.settings.specs.Settings.{Settings, default_settings}
use Rattle.settings.specs.Lent.{lent}
use Rattle.settings_file.specs.declared.Version.{Version}
use Rattle.settings_file.specs.declared.Version.TheVariants.{First, Second}
use Rattle.settings_file.specs.File.{given, reads, writes}

-- the entry of a section
unfoldable pub entry_bytes : ℕ → ℕ → ℕ → List ℕ
entry_bytes kind place len = kind ∷ (digits 4 place ++ digits 4 len)

-- the page of a realm's body of r bytes, a permissions' of p and, in version 2, a wait's of 4
unfoldable pub page_bytes : Version → ℕ → ℕ → List ℕ
page_bytes First r p = 1 ∷ 2 ∷ (entry_bytes 0 (page_end 2) r ++ entry_bytes 1 (page_end 2 + r) p)
page_bytes Second r p =
    2 ∷ 3 ∷ (entry_bytes 0 (page_end 3) r ++ (entry_bytes 1 (page_end 3 + r) p ++ entry_bytes 2 (page_end 3 + r + p) 4))

-- the wait's body, in version 2
unfoldable pub wait_body : Version → Settings → List ℕ
wait_body First x = []
wait_body Second x = digits 4 x.wait

-- the longest file: a page of three sections, a realm of 128 bytes, 32 rules with prefixes of 128 bytes, a wait
abbrev pub most_file : ℕ
most_file = 4386

-- no call on settings writes more than that (proofs/Short.antt)
pub record Short : Type 0 where
  pub read : (v : Version) (s : List ℕ) (room : ℕ) → length (reads v s room).bytes ≤ most_file
  pub write : (v : Version) (s : List ℕ) (room : ℕ) → length (writes v s room).bytes ≤ most_file
  pub usual : (room : ℕ) → length (given room (lent default_settings)).bytes ≤ most_file
