-- Numbers below n, as ports and entries are counted: a test of all, a test of any, and the lowest that passes.
use Rattle.std.specs.Prelude.{ℕ, zero, suc, Bool, true, false, cond, ◌&&◌, ◌||◌}

unfoldable pub all_below : (ℕ → Bool) → ℕ → Bool
all_below f zero = true
all_below f (suc n) = all_below f n && f n

unfoldable pub any_below : (ℕ → Bool) → ℕ → Bool
any_below f zero = false
any_below f (suc n) = any_below f n || f n

pub data Lowest : Type 0 where
  none : Lowest
  number : ℕ → Lowest

unfoldable pub or_else : Lowest → Lowest → Lowest
or_else none l = l
or_else (number k) l = number k

-- The lowest number below n that passes the test.
unfoldable pub lowest : (ℕ → Bool) → ℕ → Lowest
lowest f zero = none
lowest f (suc n) = or_else (lowest f n) (cond (f n) (number n) none)

-- What the function gives at it, or x where there is none.
unfoldable pub at_or : (ℕ → ℕ) → ℕ → Lowest → ℕ
at_or f x none = x
at_or f x (number k) = f k
