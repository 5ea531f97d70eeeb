-- The lent settings: the bytes of settings, and the settings of such bytes. Numbers are big-endian; the wait takes 4 bytes, everything else 1.
--
--   from  part    bytes     each
--      0  realm   129       length, text padded with zeros to 128
--    129  rules   32 x 132  slot, action, verdict, prefix length, prefix padded with zeros to 128; an unused one is all zero
--   4353  wait    4
--   4357  the end
use Rattle.std.specs.Prelude.{ℕ, ◌+◌, ◌*◌, ◌-◌, Bool, ◌&&◌, List, ◌∷◌, ◌++◌, map, eqb, leb, length, take, drop, replicate}
use Rattle.seq.specs.Lists.{every, joined, first_part}
use Rattle.seq.specs.Bytes.{is_zero, byte_at, part}
use Rattle.seq.specs.BigEndian.{number, digits, cut}
use Rattle.uri.specs.Uri.{longest}
use Rattle.settings.specs.Settings.{Rule, Settings, most_rules, keeps_rules}

-- ---- sizes in bytes, and where the parts after the realm start
abbrev pub rule_size : ℕ
rule_size = 132

abbrev pub rules_at : ℕ
rules_at = 129

abbrev pub wait_at : ℕ
wait_at = 4353

abbrev pub settings_size : ℕ
settings_size = 4357

-- ---- texts
-- the text behind its length
unfoldable pub text_in : List ℕ → List ℕ
text_in b = take (byte_at b 0) (drop 1 b)

-- a text that has room, with zeros only behind it
unfoldable pub padded : List ℕ → Bool
padded b = leb (byte_at b 0) longest && every is_zero (drop (byte_at b 0) (drop 1 b))

-- a text's bytes
unfoldable pub text_bytes : List ℕ → List ℕ
text_bytes t = length t ∷ (t ++ replicate (longest - length t) 0)

-- ---- rules
-- the rule whose bytes stand first
unfoldable pub rule_of : List ℕ → Rule
rule_of b = record { slot = byte_at b 0; action = byte_at b 1; verdict = byte_at b 2; prefix = text_in (drop 3 b) }

unfoldable pub rule_bytes : Rule → List ℕ
rule_bytes r = r.slot ∷ r.action ∷ r.verdict ∷ text_bytes r.prefix

-- an unused row's prefix has no byte
unfoldable pub unused : List ℕ → Bool
unused b = eqb (byte_at b 3) 0

-- the rows, and the used ones, which come first
unfoldable pub rows : List ℕ → List (List ℕ)
rows s = cut rule_size most_rules (drop rules_at s)

unfoldable pub used_rows : List ℕ → List (List ℕ)
used_rows s = first_part unused (rows s)

-- a used row's prefix has room, with zeros only behind it
unfoldable pub row_formed : List ℕ → Bool
row_formed b = padded (drop 3 b)

-- ---- the settings
-- the settings of 4,357 bytes
unfoldable pub settings_of : List ℕ → Settings
settings_of s = record { realm = text_in s; rules = map rule_of (used_rows s); wait = number 4 (drop wait_at s) }

-- the bytes are as many as settings have, texts have room and zeros behind them, and every byte of the rows behind the used ones is zero
unfoldable pub formed : List ℕ → Bool
formed s =
    eqb (length s) settings_size
    && (padded (take rules_at s)
    && (every row_formed (used_rows s) && every is_zero (part (rules_at + length (used_rows s) * rule_size) wait_at s)))

-- lent settings that keep every rule (PROTOCOL, "Settings rules")
unfoldable pub lawful : List ℕ → Bool
lawful s = formed s && keeps_rules (settings_of s)

-- the bytes of settings
unfoldable pub lent : Settings → List ℕ
lent x =
    text_bytes x.realm
    ++ (joined rule_bytes x.rules
    ++ (replicate ((most_rules - length x.rules) * rule_size) 0 ++ digits 4 x.wait))
