use Prim.Native.Nat.{ℕ, ◌+◌, ◌≤◌, ◌<◌}
use mathlib.Core.Bool.{Bool, false, ◌&&◌}
use mathlib.Core.List.{List}
use mathlib.Core.Path.{◌≡◌, refl, sym, ap, ◌∙◌}
use native.Mathlib.Omega.{arith}
use borrow.Author.Tests.{lt-ltb, le-ltb}
use lib.Dec.{ltb}
use lib.ListN.{length, drop, get_or}
use Rattle.seq.proofs.Lists.{every-fail, every-pass, every-end}
use Rattle.seq.proofs.Logic.{and-false, and-true}
use Rattle.utf8.specs.Utf8.{is_ascii}
use Rattle.utf8.proofs.is_ascii.Goals as goal

-- the test of `is_ascii`
abbrev low : ℕ → Bool
low b = ltb b 0x80

-- a turn of the loop: what is known of the bytes before a place goes on by the byte there
ascii_hit : (s : List ℕ) (i : ℕ) (so_far ascii : Bool) → i < length s → 0x80 ≤ get_or s i 0 → ascii ≡ false
    → is_ascii s ≡ (so_far && is_ascii (drop i s)) → is_ascii s ≡ (ascii && is_ascii (drop (i + 1) s))
ascii_hit s i so_far ascii h k a e = e ∙ and-false so_far _ (every-fail low s i 0 h (le-ltb _ 0x80 k)) ∙ ap (λ b. b && is_ascii (drop (i + 1) s)) (sym a)

ascii_pass : (s : List ℕ) (i : ℕ) (so_far ascii : Bool) → i < length s → get_or s i 0 < 0x80 → ascii ≡ so_far
    → is_ascii s ≡ (so_far && is_ascii (drop i s)) → is_ascii s ≡ (ascii && is_ascii (drop (i + 1) s))
ascii_pass s i so_far ascii h k a e = e ∙ ap (λ b. so_far && b) (every-pass low s i 0 h (lt-ltb _ 0x80 k)) ∙ ap (λ b. b && is_ascii (drop (i + 1) s)) (sym a)

pub loop-b-init : goal.loop-b-init
loop-b-init c = refl

-- the test's two ways are left to `grind`, so that an edit of the test is refused for what it says
pub loop-b-preserved : goal.loop-b-preserved
loop-b-preserved c = grind (arith, ascii_hit, ascii_pass)

pub returns : goal.returns
returns c =
    let loop = c.loop-b in
    sym (loop.invariant ∙ and-true loop.ascii _ (every-end low c.args.s.now loop.b-index (omega arith)))
