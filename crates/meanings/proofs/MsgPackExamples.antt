-- What some MessagePack texts mean, each by the table itself; and texts that mean nothing. Assumes nothing.
use Prim.Native.Nat.{ℕ, zero, suc, ◌+◌, ◌<◌}
use mathlib.Core.List.{List, [], ◌∷◌, ◌++◌, append-nil}
use mathlib.Core.Bool.{true, false}
use mathlib.Core.Logic.{inl, inr}
use mathlib.Core.Path.{◌≡◌, refl, sym, ap, ◌∙◌}
use native.Mathlib.Omega.{arith}
use lib.Dec.{lit<, lit≤}
use Rattle.seq.specs.Bytes.{chars, byte_at}
use Rattle.seq.specs.Lists.{All}
use Rattle.seq.specs.declared.Format.TheVariants.{MsgPack}
use Rattle.utf8.specs.Utf8.{continues, step, lead}
use Rattle.utf8.proofs.Table.{utf8-table}
use Rattle.lex.specs.Grammar.{◌·◌}
use Rattle.msgpack.specs.Head.{head_at, head_of, form_of, forms, number, signed_head, half}
use Rattle.msgpack.specs.MsgPack.{text, bytes}
use Rattle.msgpack.specs.Grammar.{Code, Number}
use Rattle.values.specs.Value.{Value}
use Rattle.values.specs.Value.Scalar.{Null, Flag, Whole, Below, Text}
use Rattle.values.specs.Value.Layer.{Plain, Items, Members}
use Rattle.values.specs.Read.Read.{Gives, Not}
use Rattle.values.specs.Stands.{member, text_at, pack_text_at, pack_scalar_at, items, pack_member_at, pack_layer_at, stands}
use Rattle.values.proofs.Given.{gives-not, same_place}
use Rattle.meanings.specs.MsgPack.{IsBelow, IsText, Means}
use Rattle.meanings.proofs.MsgPack.{value-is}

-- ---- integers
-- 5 in one byte, as uint 8 and as int 16
pub five : Means 0 (Whole 5) (5 ∷ []) × Means 0 (Whole 5) (0xcc ∷ 5 ∷ []) × Means 0 (Whole 5) (0xd1 ∷ 0 ∷ 5 ∷ [])
five = (
  inl (lit≤ tt, refl),
  inr (inl (0xcc ∷ [], 5 ∷ [], refl, refl, (0, 5, refl, ([], 5 ∷ [], refl, (refl, refl), refl)))),
  inr (inr (inr (inr (inr (inr (inl (
    lit< tt,
    (0xd1 ∷ [], 0 ∷ 5 ∷ [], refl, refl, (0, 5, refl, (0 ∷ [], 5 ∷ [], refl, (0, 0, refl, ([], 0 ∷ [], refl, (refl, refl), refl)), refl))),
  ))))))),
)

-- -1 as int 8, -32 in one byte, -33 and -128 as int 8
pub minus : Means 0 (Below 0) (0xd0 ∷ 0xff ∷ []) × Means 0 (Below 31) (0xe0 ∷ [])
    × Means 0 (Below 32) (0xd0 ∷ 0xdf ∷ []) × Means 0 (Below 127) (0xd0 ∷ 0x80 ∷ [])
minus = (
  inr (inl (0xff, lit< tt, refl, (0xd0 ∷ [], 0xff ∷ [], refl, refl, (0, 0xff, refl, ([], 0xff ∷ [], refl, (refl, refl), refl))))),
  inl (0xe0, lit≤ tt, refl, refl),
  inr (inl (0xdf, lit< tt, refl, (0xd0 ∷ [], 0xdf ∷ [], refl, refl, (0, 0xdf, refl, ([], 0xdf ∷ [], refl, (refl, refl), refl))))),
  inr (inl (0x80, lit< tt, refl, (0xd0 ∷ [], 0x80 ∷ [], refl, refl, (0, 0x80, refl, ([], 0x80 ∷ [], refl, (refl, refl), refl))))),
)

-- ---- texts, arrays and maps
-- "a" as fixstr and as str 8
a-text : IsText (chars "a") (0xa1 ∷ 97 ∷ []) × IsText (chars "a") (0xd9 ∷ 1 ∷ 97 ∷ [])
unfolding continues step lead
a-text = (
  ((utf8-table (chars "a")).0 refl, (0xa1 ∷ [], 97 ∷ [], refl, inl (lit≤ tt, refl), refl)),
  (
    (utf8-table (chars "a")).0 refl,
    (0xd9 ∷ 1 ∷ [], 97 ∷ [], refl, inr (inl (0xd9 ∷ [], 1 ∷ [], refl, refl, (0, 1, refl, ([], 1 ∷ [], refl, (refl, refl), refl)))), refl),
  ),
)

pub texts : Means 0 (Text (chars "a")) (0xa1 ∷ 97 ∷ []) × Means 0 (Text (chars "a")) (0xd9 ∷ 1 ∷ 97 ∷ [])
texts = a-text

-- [nil, true], and the map of "a" to 5 and of "a" to false: whether keys are alike is not asked here
pub array-of-two : Means 1 (Items (Null ∷ Flag true ∷ [])) (0x92 ∷ 0xc0 ∷ 0xc3 ∷ [])
array-of-two = (0x92 ∷ [], 0xc0 ∷ 0xc3 ∷ [], refl, inl (lit≤ tt, refl), (0xc0 ∷ [], 0xc3 ∷ [], refl, refl, (0xc3 ∷ [], [], refl, refl, refl)))

pub map-of-two : Means 1 (Members (member (chars "a") (Whole 5) ∷ member (chars "a") (Flag false) ∷ []))
    (0x82 ∷ 0xa1 ∷ 97 ∷ 5 ∷ 0xd9 ∷ 1 ∷ 97 ∷ 0xc2 ∷ [])
map-of-two = (
  0x82 ∷ [],
  0xa1 ∷ 97 ∷ 5 ∷ 0xd9 ∷ 1 ∷ 97 ∷ 0xc2 ∷ [],
  refl,
  inl (lit≤ tt, refl),
  (
    0xa1 ∷ 97 ∷ 5 ∷ [],
    0xd9 ∷ 1 ∷ 97 ∷ 0xc2 ∷ [],
    refl,
    (0xa1 ∷ 97 ∷ [], 5 ∷ [], refl, a-text.0, five.0),
    (
      0xd9 ∷ 1 ∷ 97 ∷ 0xc2 ∷ [],
      [],
      refl,
      (0xd9 ∷ 1 ∷ 97 ∷ [], 0xc2 ∷ [], refl, a-text.1, refl),
      refl,
    ),
  ),
)

-- ---- nothing
-- no value's text, to whatever depth
abbrev Nothing : List ℕ → Type 0
Nothing t = (depth : ℕ) (v : Value depth) → ¬ Means depth v t

abbrev Unread : ℕ → List ℕ → Type 0
Unread depth t = stands MsgPack depth t 0 ≡ Not

nothing : (ts : List (List ℕ)) → ((depth : ℕ) → All (Unread depth) ts) → All Nothing ts
nothing [] f = tt
nothing (t ∷ ts) f =
    (λ depth v g. gives-not (value-is t depth 0 t [] (sym (append-nil t)) v g) (f depth).0, nothing ts (λ depth. (f depth).1))

-- float 64 and float 32; bin; fixext 1 and ext 8; hex C1; a str that is no UTF-8; an int 8 that is cut; a map's key that is nil
abbrev others : List (List ℕ)
others =
    (0xcb ∷ 0x3f ∷ 0xf0 ∷ 0 ∷ 0 ∷ 0 ∷ 0 ∷ 0 ∷ 0 ∷ []) ∷ (0xca ∷ 0x3f ∷ 0x80 ∷ 0 ∷ 0 ∷ []) ∷ (0xc4 ∷ 1 ∷ 97 ∷ [])
    ∷ (0xd4 ∷ 0 ∷ 97 ∷ []) ∷ (0xc7 ∷ 1 ∷ 0 ∷ 97 ∷ []) ∷ (0xc1 ∷ []) ∷ (0xa1 ∷ 0xff ∷ []) ∷ (0xd0 ∷ []) ∷ (0x81 ∷ 0xc0 ∷ 5 ∷ []) ∷ []

unread : (depth : ℕ) → All (Unread depth) others
unfolding stands pack_layer_at pack_member_at pack_scalar_at pack_text_at text_at text bytes items
    head_at head_of form_of forms number signed_head half continues step lead
unread zero = (refl, (refl, (refl, (refl, (refl, (refl, (refl, (refl, (refl, tt)))))))))
unread (suc depth) = (refl, (refl, (refl, (refl, (refl, (refl, (refl, (refl, (refl, tt)))))))))

pub others-nothing : All Nothing others
others-nothing = nothing others unread

-- bytes behind a value
five-read : (depth : ℕ) → (v : Value depth) × (stands MsgPack depth (5 ∷ 5 ∷ []) 0 ≡ Gives v 1)
unfolding stands pack_layer_at pack_scalar_at head_at head_of form_of number
five-read zero = (Whole 5, refl)
five-read (suc depth) = (Plain (Whole 5), refl)

pub two-fives : Nothing (5 ∷ 5 ∷ [])
two-fives depth v g =
    let n : 0 + 2 ≡ 1 = same_place (value-is (5 ∷ 5 ∷ []) depth 0 (5 ∷ 5 ∷ []) [] refl v g) (five-read depth).1 in
    omega arith

-- an array where none may be opened, and where one may
pub array-depth : ((v : Value 0) → ¬ Means 0 v (0x90 ∷ [])) × Means 1 (Items []) (0x90 ∷ [])
unfolding stands pack_scalar_at pack_text_at head_at head_of form_of number
array-depth = (
  λ v g. gives-not (value-is (0x90 ∷ []) 0 0 (0x90 ∷ []) [] refl v g) refl,
  (0x90 ∷ [], [], refl, inl (lit≤ tt, refl), refl),
)

-- ---- why `means` asks that each byte is below 256: the reader takes a number past it for a byte of -1, the table has no such byte
not_first : (b w m : ℕ) → b < 256 → ¬ (Code b · Number w m) (300 ∷ [])
not_first b w m l (a, u, e, ea, g) =
    let q : 300 ≡ b = ap (λ (x : List ℕ). byte_at x 0) (e ∙ ap (λ (x : List ℕ). x ++ u) ea) in
    omega arith

no_minus : ¬ IsBelow 0 (300 ∷ [])
no_minus (inl (b, l, e, g)) = let q : 300 ≡ b = ap (λ (x : List ℕ). byte_at x 0) g in omega arith
no_minus (inr (inl (m, l, e, g))) = not_first 0xd0 1 m (lit< tt) g
no_minus (inr (inr (inl (m, l, e, g)))) = not_first 0xd1 2 m (lit< tt) g
no_minus (inr (inr (inr (inl (m, l, e, g))))) = not_first 0xd2 4 m (lit< tt) g
no_minus (inr (inr (inr (inr (m, l, e, g))))) = not_first 0xd3 8 m (lit< tt) g

pub no_byte : (stands MsgPack 0 (300 ∷ []) 0 ≡ Gives (Below 0) 1) × ¬ Means 0 (Below 0) (300 ∷ [])
unfolding stands pack_scalar_at head_at head_of form_of number
no_byte = (refl, no_minus)
