-- A relation of every two numbers below n that goes both ways needs a look at each two only once. Assumes nothing.
use Prim.Native.Nat.{ℕ, ◌<◌}
use mathlib.Core.Logic.{◌≢◌}
use native.Mathlib.Omega.{arith}
use lib.Dec.{ltb}
use borrow.Author.Tests.{ltb-true, ltb-false, not-true}
use Rattle.words.proofs.Bools.{by_bool}

pub by_pairs : (R : ℕ → ℕ → Type 0) → ((p q : ℕ) → R p q → R q p) → (n : ℕ) → ((p q : ℕ) → p < n → q < p → R p q)
    → (p q : ℕ) → p < n → q < n → q ≢ p → R p q
by_pairs R flip n f p q hp hq d =
    by_bool (ltb q p) (λ l. f p q hp (ltb-true q p l)) (λ l. let k = ltb-false q p (not-true (ltb q p) l) in flip q p (f q p hq (omega arith)))
