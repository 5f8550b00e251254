-- Little-endian numbers of w bytes each, in lists of bytes, in both directions.
use Rattle.std.specs.Prelude.{ℕ, zero, suc, ◌+◌, ◌*◌, ◌/◌, ◌%◌, List, [], ◌∷◌, ◌++◌, get_or, drop}

-- The number of the first w bytes, the lowest first.
unfoldable pub number : ℕ → List ℕ → ℕ
number zero bs = 0
number (suc w) bs = get_or bs 0 0 + 256 * number w (drop 1 bs)

-- The lowest w bytes of a number, the lowest first.
unfoldable pub bytes_of : ℕ → ℕ → List ℕ
bytes_of zero x = []
bytes_of (suc w) x = x % 256 ∷ bytes_of w (x / 256)

-- The first n numbers of w bytes each.
unfoldable pub numbers : ℕ → ℕ → List ℕ → List ℕ
numbers w zero bs = []
numbers w (suc n) bs = number w bs ∷ numbers w n (drop w bs)

-- A list of numbers as bytes, w for each.
unfoldable pub encoded : ℕ → List ℕ → List ℕ
encoded w [] = []
encoded w (x ∷ xs) = bytes_of w x ++ encoded w xs
