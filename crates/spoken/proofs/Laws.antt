-- What the proofs of writing use of a format: the parts that specs/Parts.antt writes are those of specs/Shapes.antt of incoming. JsonLaws.antt and
-- PackLaws.antt prove it of both formats.
use Prim.Native.Nat.{ℕ, suc, ◌+◌, ◌*◌, ◌≤◌}
use mathlib.Core.List.{List, []}
use mathlib.Core.Path.{◌≡◌}
use lib.ListN.{length}
use Rattle.seq.specs.declared.Format.{Format}
use Rattle.seq.specs.declared.Format.TheVariants.{Json, MsgPack}
use Rattle.seq.specs.Lists.{All, Pairs, In, joined}
use Rattle.lex.specs.Grammar.{Is, ◌·◌, Ws}
use Rattle.json_text.specs.Grammar as Texts
use Rattle.msgpack.specs.Grammar as Packs
use Rattle.values.specs.Value.{Scalar, Member, GoodText, GoodScalar, GoodMember, Differ}
use Rattle.values.specs.Write.{write_scalar}
use Rattle.incoming.specs.Shapes.{IdText, Says, Dict, IsList, Options, Has}
use Rattle.spoken.specs.Heard.{member_of}
use Rattle.spoken.specs.Parts.{number, string, list, dict, InRange, Formed}

-- a value in which `depth` lists and dicts may be opened
abbrev pub Value : Format → ℕ → List ℕ → Type 0
Value Json depth t = Texts.Value depth t
Value MsgPack depth t = Packs.Value depth t

-- what may be an element of a message
abbrev pub Part : Format → List ℕ → Type 0
Part f t = Value f 7 t × Formed f t

-- what may be in such an element
abbrev pub Inner : Format → List ℕ → Type 0
Inner f t = Value f 6 t × Formed f t

-- the members of a dict: few, each with a key that is a text, and no two keys alike
pub record Fit (f : Format) (ms : List (Member (List ℕ))) : Type 0 where
  pub few : length ms ≤ 15
  pub each : All (GoodMember (Inner f)) ms
  pub apart : Pairs Differ ms

-- none of them has this key
abbrev pub Without : List ℕ → List (Member (List ℕ)) → Type 0
Without key ms = All (λ m. ¬ (key ≡ m.key)) ms

-- a list of these elements
abbrev pub Lists : Format → List (List ℕ) → List ℕ → Type 0
Lists Json es t = (Ws · Texts.Array es · Ws) t
Lists MsgPack es t = (Packs.ArrayHead (length es) · Is (joined (λ (e : List ℕ). e) es)) t

pub record Laws (f : Format) : Type 0 where
  -- ---- values that are no list and no dict
  pub scalar : (d : ℕ) (v : Scalar) → GoodScalar v → Value f d (write_scalar f v)
  pub scalar-formed : (v : Scalar) → GoodScalar v → Formed f (write_scalar f v)
  pub number_short : (n : ℕ) → InRange n → length (number f n) ≤ 16
  pub number : (n : ℕ) → InRange n → IdText f n (number f n)
  pub string : (t : List ℕ) → GoodText t → Says f t (string f t)
  -- ---- lists
  pub listed : (es : List (List ℕ)) → length es ≤ 15 → Lists f es (list f es)
  pub list-value : (d : ℕ) (es : List (List ℕ)) → length es ≤ 15 → All (Value f d) es → Value f (suc d) (list f es)
  pub list-formed : (es : List (List ℕ)) → All (Formed f) es → Formed f (list f es)
  pub list-some : (es : List (List ℕ)) → 1 ≤ length (list f es)
  pub list-short : (es : List (List ℕ)) → All (λ e. length e ≤ 16) es → length (list f es) ≤ 5 + 17 * length es
  pub list-part : (t : List ℕ) → IsList f t → Value f 7 t
  -- ---- dicts
  pub options : (ms : List (Member (List ℕ))) → Fit f ms → Options f (dict f ms)
  pub has : (ms : List (Member (List ℕ))) → Fit f ms → (m : Member (List ℕ)) → In m ms → Has f m.key m.value (dict f ms)
  pub absent : (ms : List (Member (List ℕ))) → Fit f ms → (key : List ℕ) → Without key ms → (limit : ℕ) → length (dict f ms) ≤ limit
      → member_of f limit key (dict f ms) ≡ []
  pub dict-formed : (ms : List (Member (List ℕ))) → Fit f ms → Formed f (dict f ms)
  pub dict-part : (t : List ℕ) → Dict f t → Value f 7 t
