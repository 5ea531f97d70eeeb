-- The checksum, a byte further and at the end. Assumes nothing.
use Prim.Native.Nat.{ℕ, ◌+◌, ◌*◌, ◌%◌, ◌≤◌, ◌<◌}
use mathlib.Core.Path.{◌≡◌}
use mathlib.Core.List.{List}
use native.Mathlib.Numerals.{add-one}
use lib.ListN.{length, drop, get_or, drop_of_length-le}
use lib.Seq.{drop-cons}
use Rattle.edges.specs.Told.{adler_from}

pub adler-more : (s : List ℕ) (a b i : ℕ) → i < length s
    → adler_from a b (drop i s) ≡ adler_from ((a + get_or s i 0) % 65521) ((b + (a + get_or s i 0) % 65521) % 65521) (drop (i + 1) s)
unfolding adler_from
adler-more s a b i h = rw (add-one, drop-cons s i 0 h)

pub adler-end : (s : List ℕ) (a b i : ℕ) → length s ≤ i → adler_from a b (drop i s) ≡ b * 65536 + a
unfolding adler_from
adler-end s a b i h = rw (drop_of_length-le s h)
