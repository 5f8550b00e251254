-- Kinds and their numbers. Assumes nothing.
use Prim.Native.Nat.{ℕ, zero, suc, ◌≤◌}
use mathlib.Core.Path.{◌≡◌, refl, sym, ap, ◌∙◌}
use mathlib.Core.Bool.{true, false}
use lib.Dec.{leb}
use native.Mathlib.Omega.{arith}
use borrow.Author.Tests.{ne_eqb, le-leb}
use Rattle.std.specs.Prelude.{Some, None}
use Rattle.std.proofs.lemmas.Option.{none-some, same_Some}
use Rattle.model.specs.declared.order.Kind.{Kind}
use Rattle.model.specs.Order.{kinds, kind_number, kind_at}

-- Every kind is below `kinds`.
pub known : (k : Kind) → leb kinds (kind_number k) ≡ false
known Kind.Read = refl
known Kind.Write = refl
known Kind.Swap = refl
known Kind.Flush = refl
known Kind.DeviceRead = refl
known Kind.DeviceWrite = refl

-- A number that is a kind's, and one that is none.
no_kind : (n : ℕ) → 6 ≤ n → kind_at n ≡ None
unfolding kind_at
no_kind n h =
    rw (
      ne_eqb n 0 (λ e. omega arith),
      ne_eqb n 1 (λ e. omega arith),
      ne_eqb n 2 (λ e. omega arith),
      ne_eqb n 3 (λ e. omega arith),
      ne_eqb n 4 (λ e. omega arith),
      ne_eqb n 5 (λ e. omega arith),
    )
    refl

pub some_at : (n : ℕ) (k : Kind) → kind_at n ≡ Some k → n ≡ kind_number k
unfolding kind_at
some_at zero k e = ap kind_number (same_Some _ _ e)
some_at (suc zero) k e = ap kind_number (same_Some _ _ e)
some_at (suc (suc zero)) k e = ap kind_number (same_Some _ _ e)
some_at (suc (suc (suc zero))) k e = ap kind_number (same_Some _ _ e)
some_at (suc (suc (suc (suc zero)))) k e = ap kind_number (same_Some _ _ e)
some_at (suc (suc (suc (suc (suc zero))))) k e = ap kind_number (same_Some _ _ e)
some_at (suc (suc (suc (suc (suc (suc n)))))) k e = absurd (none-some _ (sym (no_kind (suc (suc (suc (suc (suc (suc n)))))) (omega arith)) ∙ e))

pub none_at : (n : ℕ) → kind_at n ≡ None → leb kinds n ≡ true
unfolding kind_at
none_at zero e = absurd (none-some _ (sym e))
none_at (suc zero) e = absurd (none-some _ (sym e))
none_at (suc (suc zero)) e = absurd (none-some _ (sym e))
none_at (suc (suc (suc zero))) e = absurd (none-some _ (sym e))
none_at (suc (suc (suc (suc zero)))) e = absurd (none-some _ (sym e))
none_at (suc (suc (suc (suc (suc zero))))) e = absurd (none-some _ (sym e))
none_at (suc (suc (suc (suc (suc (suc n)))))) e = le-leb _ _ (omega arith)
