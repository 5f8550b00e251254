-- What becomes of the bytes, and a byte there and back. Assumes nothing.
use Prim.Native.Nat.{ℕ, zero, suc, ◌<◌}
use mathlib.Core.Path.{◌≡◌, refl, sym, ap, ◌∙◌}
use mathlib.Core.Bool.{false, false≢true}
use native.Mathlib.Omega.{arith}
use borrow.Author.Tests.{ne_eqb}
use Rattle.std.specs.Prelude.{Option, Some, None, Ok, Err}
use Rattle.refusals.specs.declared.Refusal.TheVariants.{State as NoState}
use Rattle.protocol.specs.declared.state.State.{State}
use Rattle.protocol.specs.State.{code, state_of, is_state}
use Rattle.protocol.proofs.States.{byte_cases}
use Rattle.letters.specs.declared.Way.{Way}
use Rattle.letters.specs.declared.Way.TheVariants.{ToNew, ToOld}
use Rattle.letters.specs.Letters.{letter_of, to_new, to_old, converted, is_in_through, byte_from}
use Rattle.letters.specs.Claims.{EveryByte, Becomes, other_way, ByteReturns}

-- A number is one of the five bytes, or above them.
pub old_cases : (P : ℕ → Type 0) → P 0 → P 1 → P 2 → P 3 → P 4 → ((b : ℕ) → 4 < b → P b) → (b : ℕ) → P b
old_cases P p0 p1 p2 p3 p4 f zero = p0
old_cases P p0 p1 p2 p3 p4 f (suc zero) = p1
old_cases P p0 p1 p2 p3 p4 f (suc (suc zero)) = p2
old_cases P p0 p1 p2 p3 p4 f (suc (suc (suc zero))) = p3
old_cases P p0 p1 p2 p3 p4 f (suc (suc (suc (suc zero)))) = p4
old_cases P p0 p1 p2 p3 p4 f (suc (suc (suc (suc (suc b))))) = f (suc (suc (suc (suc (suc b))))) (omega arith)

-- A byte above 4 has no letter.
pub no_letter : (b : ℕ) → 4 < b → letter_of b ≡ None
unfolding letter_of
no_letter b h =
    rw (
      ne_eqb b 0 (λ e. omega (arith, e)),
      ne_eqb b 1 (λ e. omega (arith, e)),
      ne_eqb b 2 (λ e. omega (arith, e)),
      ne_eqb b 3 (λ e. omega (arith, e)),
      ne_eqb b 4 (λ e. omega (arith, e)),
    )

-- What a byte becomes, becomes that byte again.
abbrev Returns : Way → ℕ → Type 0
Returns way b = Becomes (converted way b) → converted (other_way way) (byte_from (converted way b)) ≡ Ok b

new_returns : (b : ℕ) → Returns ToNew b
unfolding converted letter_of code state_of
new_returns =
    old_cases (Returns ToNew) (λ _. refl) (λ _. refl) (λ _. refl) (λ _. refl) (λ _. refl)
    (λ b h k. absurd (false≢true (sym k.0 ∙ rw (no_letter b h) refl)))

old_returns : (b : ℕ) → Returns ToOld b
unfolding converted letter_of code state_of
old_returns =
    byte_cases (Returns ToOld) (λ _. refl) (λ k. absurd (false≢true (sym k.1))) (λ k. absurd (false≢true (sym k.1))) (λ _. refl) (λ _. refl)
    (λ _. refl) (λ _. refl)
    (λ b n0 n1 n2 n9 n10 n11 n12 k.
    absurd (false≢true (sym k.0 ∙ rw (ne_eqb b 0 n0, ne_eqb b 1 n1, ne_eqb b 2 n2, ne_eqb b 9 n9, ne_eqb b 10 n10, ne_eqb b 11 n11, ne_eqb b 12 n12) refl)))

pub returns_byte : ByteReturns
returns_byte ToNew = new_returns
returns_byte ToOld = old_returns

-- No old byte is in write through.
pub old_not_through : (b : ℕ) → is_in_through (converted ToNew b) ≡ false
unfolding converted letter_of
old_not_through =
    old_cases (λ b. is_in_through (converted ToNew b) ≡ false) refl refl refl refl refl (λ b h. rw (no_letter b h) refl)

-- A byte that is no state becomes none.
no_old_byte : (x : Option State) → is_state x ≡ false → to_old x ≡ Err NoState
no_old_byte (Some s) h = absurd (false≢true (sym h))
no_old_byte None h = refl

pub every_byte : EveryByte
unfolding converted letter_of state_of code
every_byte = record {
  letters = refl;
  above_4 = λ b h. ap to_new (no_letter b h);
  states = refl;
  in_through = refl;
  no_state_lem = λ b. no_old_byte (state_of b);
}
