-- A merge, byte by byte. Assumes nothing.
use Prim.Native.Nat.{ℕ, zero, suc, ◌+◌, ◌*◌, ◌/◌, ◌%◌, ◌^◌, ◌<◌, ◌≤◌}
use mathlib.Core.Bool.{Bool, true, false, cond}
use mathlib.Core.Path.{◌≡◌, refl, ap, ◌∙◌}
use native.Mathlib.Omega.{arith}
use lib.Dec.{eqb}
use lib.Pow.{pow-add}
use native.Mathlib.Nat.{div-one, zero-add, mul-one, mul-le-mul_right, mul-suc, add_comm}
use Rattle.words.specs.declared.word.Merge.{Merge}
use Rattle.words.specs.Word.{byte_of, bit_of, merge_low, merge, merged}

low : (mask w x : ℕ) → merge_low 1 mask w x ≡ cond (eqb (mask % 2) 1) (x % 256) (w % 256)
unfolding merge_low
low mask w x = zero-add _ ∙ mul-one _ ∙ rw (div-one mask, div-one x, div-one w)

pub merge_is : (mask w x : ℕ) {b0 b1 b2 b3 b4 b5 b6 b7 : ℕ} →
    b0 ≡ cond (eqb (mask % 2) 1) (x % 256) (w % 256) →
    b1 ≡ cond (eqb (mask / 2 % 2) 1) (x / 256 % 256) (w / 256 % 256) →
    b2 ≡ cond (eqb (mask / 4 % 2) 1) (x / 65536 % 256) (w / 65536 % 256) →
    b3 ≡ cond (eqb (mask / 8 % 2) 1) (x / 16777216 % 256) (w / 16777216 % 256) →
    b4 ≡ cond (eqb (mask / 16 % 2) 1) (x / 4294967296 % 256) (w / 4294967296 % 256) →
    b5 ≡ cond (eqb (mask / 32 % 2) 1) (x / 1099511627776 % 256) (w / 1099511627776 % 256) →
    b6 ≡ cond (eqb (mask / 64 % 2) 1) (x / 281474976710656 % 256) (w / 281474976710656 % 256) →
    b7 ≡ cond (eqb (mask / 128 % 2) 1) (x / 72057594037927936 % 256) (w / 72057594037927936 % 256) →
    b0 + b1 * 256 + b2 * 65536 + b3 * 16777216 + b4 * 4294967296 + b5 * 1099511627776 + b6 * 281474976710656 + b7 * 72057594037927936 ≡ merge mask w x
unfolding merge merge_low
merge_is mask w x e0 e1 e2 e3 e4 e5 e6 e7 = rw (e0, e1, e2, e3, e4, e5, e6, e7, ← low mask w x)

-- A number by its bytes.
digits : (x a1 a2 a3 a4 a5 a6 a7 b0 b1 b2 b3 b4 b5 b6 b7 : ℕ) → x ≡ b0 + a1 * 256 → a1 ≡ b1 + a2 * 256 → a2 ≡ b2 + a3 * 256
    → a3 ≡ b3 + a4 * 256 → a4 ≡ b4 + a5 * 256
    → a5 ≡ b5 + a6 * 256 → a6 ≡ b6 + a7 * 256 → a7 ≡ b7
    → x ≡ b0 + b1 * 256 + b2 * 65536 + b3 * 16777216 + b4 * 4294967296 + b5 * 1099511627776 + b6 * 281474976710656 + b7 * 72057594037927936
digits x a1 a2 a3 a4 a5 a6 a7 b0 b1 b2 b3 b4 b5 b6 b7 e0 e1 e2 e3 e4 e5 e6 e7 = omega arith

-- Under the full mask the operand is the word.
pub merge-full : (mask w x : ℕ) → mask ≡ 255 → x < 2 ^ 64 → x ≡ merge mask w x
merge-full mask w x e h =
    rw e (digits x (x / 256) (x / 65536) (x / 16777216) (x / 4294967296) (x / 1099511627776) (x / 281474976710656) (x / 72057594037927936) (x % 256)
    (x / 256 % 256) (x / 65536 % 256)
    (x / 16777216 % 256) (x / 4294967296 % 256) (x / 1099511627776 % 256) (x / 281474976710656 % 256) (x / 72057594037927936 % 256)
    (omega arith) (omega arith) (omega arith) (omega arith) (omega arith) (omega arith) (omega arith) (omega arith)
    ∙ merge_is 255 w x refl refl refl refl refl refl refl refl)

-- The word of a merge that also says whether the word changed.
pub word_merged : (mask w x : ℕ) {g : Merge} → g ≡ merged mask w x → g.word ≡ merge mask w x
word_merged mask w x e = ap (λ (g : Merge). g.word) e

-- What a merge gives is below 2^64, whatever is merged.
byte_fits : (b : Bool) (x w : ℕ) → cond b (x % 256) (w % 256) < 256
byte_fits true x w = omega arith
byte_fits false x w = omega arith

low_fits : (k mask w x : ℕ) → merge_low k mask w x < 2 ^ (8 * k)
unfolding merge_low
low_fits zero mask w x = omega arith
low_fits (suc k) mask w x =
    let c = cond (eqb (bit_of mask k) 1) (byte_of x k) (byte_of w k) in
    let small : c < 256 = byte_fits (eqb (bit_of mask k) 1) (x / 2 ^ (8 * k)) (w / 2 ^ (8 * k)) in
    let most : c * 2 ^ (8 * k) ≤ 255 * 2 ^ (8 * k) = mul-le-mul_right (2 ^ (8 * k)) (omega arith) in
    let next : 2 ^ (8 * suc k) ≡ 2 ^ 8 * 2 ^ (8 * k) = ap (λ (n : ℕ). 2 ^ n) (mul-suc 8 k ∙ add_comm (8 * k) 8) ∙ pow-add 2 8 (8 * k) in
    rw next (omega (arith, low_fits k mask w x))

pub merge-fits : (mask w x : ℕ) → merge mask w x < 2 ^ 64
unfolding merge
merge-fits mask w x = low_fits 8 mask w x
