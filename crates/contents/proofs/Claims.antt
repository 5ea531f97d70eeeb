-- What specs/Claims.antt claims holds. Assumes nothing.
use Prim.Native.Nat.{ℕ, ◌<◌}
use mathlib.Core.List.{List}
use mathlib.Core.Path.{◌≡◌}
use native.Mathlib.Omega.{arith}
use lib.ListN.{length, get_or}
use Rattle.contents.specs.Contents.{page_end, sections, no_section, packed}
use Rattle.contents.specs.Claims.{Back, Claims}
use Rattle.contents.proofs.Tests.{shared, overlap, cut, kinds}
use Rattle.contents.proofs.Written.{Fits, version-back, count-back, section-back, next-back, last-back, kind-back, whole_back, apart-back, kinds-back, body_back, packed-bytes}

first-place : (v : ℕ) (bs : List (List ℕ)) → Fits bs → 0 < length bs → (get_or (sections (packed v bs)) 0 no_section).place ≡ page_end (length bs)
first-place v bs fits h = rw (section-back v bs fits 0 h) (omega arith)

pub back : (v : ℕ) (bs : List (List ℕ)) → Fits bs → Back v bs
back v bs fits =
    record {
      version = version-back v bs;
      count = count-back v bs;
      first = first-place v bs fits;
      next = next-back v bs fits;
      last = last-back v bs fits;
      kinds = kind-back v bs fits;
      wholly = whole_back v bs fits;
      apart = apart-back v bs fits;
      right = kinds-back v bs fits;
      bodies = body_back v bs fits;
    }

pub claims : Claims
claims = record { shared = shared; overlap = overlap; cut = cut; kinds = kinds; back = back; bytes = packed-bytes }
