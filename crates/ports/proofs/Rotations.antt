-- Two masks in one number of 64 bits, rotated right by one bit at every port and back at the end. Assumes nothing.
use Prim.Native.Nat.{ℕ, suc, ◌+◌, ◌*◌, ◌-◌, ◌/◌, ◌%◌, ◌^◌, ◌<◌, ◌≤◌}
use mathlib.Core.Path.{◌≡◌, sym, ap, ◌∙◌, subst}
use native.Mathlib.Omega.{arith}
use native.Mathlib.Nat.{add_comm, pow-suc, add-mul, mul_assoc, mul-le-mul_right, mul-lt-mul_of_pos_right, mod-lt, div-add-mod'}
use lib.Arith.{digits_lt, digits_div, digits_mod}
use lib.Pow.{pow_pos, pow-add, pow_mono, shr_lt}
use Rattle.ports.proofs.Masks.{lowest_digit, other_digits}

-- The masks h and m of p ports, in lanes 16 bits apart, rotated right by p bits.
abbrev pub rotated_by : ℕ → ℕ → ℕ → ℕ
rotated_by p h m = h * 2 ^ (64 - p) + m * 2 ^ (16 - p)

-- A mask with one bit more, moved up.
moved_up : (h a p k : ℕ) {n : ℕ} → p + k ≡ n → (h + a * 2 ^ p) * 2 ^ k ≡ h * 2 ^ k + a * 2 ^ n
moved_up h a p k e =
    add-mul h (a * 2 ^ p) (2 ^ k)
    ∙ ap (λ (x : ℕ). h * 2 ^ k + x) (mul_assoc a (2 ^ p) (2 ^ k) ∙ ap (λ (x : ℕ). a * x) (sym (pow-add 2 p k) ∙ ap (λ (x : ℕ). 2 ^ x) e))

below_up : (h b p k : ℕ) {n : ℕ} → p + k ≡ n → h ≤ b * 2 ^ p → h * 2 ^ k ≤ b * 2 ^ n
below_up h b p k {n} e l =
    omega (arith, mul-le-mul_right (2 ^ k) l, moved_up 0 b p k e)

-- It leaves room above for what the next port says.
pub rotated_room : (p h m : ℕ) → p ≤ 8 → h < 2 ^ p → m < 2 * 2 ^ p → rotated_by p h m < 2 ^ 64 - 2 ^ 55
rotated_room p h m few hh hm =
    omega (
      arith,
      below_up (h + 1) 1 p (64 - p) {n = 64} (omega arith) (omega arith),
      add-mul h 1 (2 ^ (64 - p)),
      pow_mono {i = 56} {j = 64 - p} (omega arith),
      below_up m 2 p (16 - p) {n = 16} (omega arith) (omega arith),
    )

-- One port more says a and c, and all is rotated by one bit.
pub rotated_once : (p h m a c : ℕ) → p < 8 → a ≤ 1 → {n : ℕ} → n ≡ rotated_by p h m + (a + c * 65536)
    → n / 2 + n % 2 * 2 ^ 63 ≡ rotated_by (p + 1) (h + a * 2 ^ p) (m + c * 2 ^ p)
rotated_once p h m a c few ha {n} en =
    let e = 2 ^ (63 - p) in
    let d = 2 ^ (15 - p) in
    let up : 64 - p ≡ suc (63 - p) = omega arith in
    let low : 16 - p ≡ suc (15 - p) = omega arith in
    let rest = h * e + m * d + c * 2 ^ 15 in
    let halves : n ≡ a + 2 * rest = omega (
      arith,
      en,
      ap (λ (x : ℕ). h * 2 ^ x) up,
      ap (λ (x : ℕ). m * 2 ^ x) low,
      ap (λ (x : ℕ). h * x) (pow-suc 2 (63 - p)),
      ap (λ (x : ℕ). m * x) (pow-suc 2 (15 - p)),
    ) in
    let above : (h + a * 2 ^ p) * 2 ^ (64 - (p + 1)) ≡ h * e + a * 2 ^ 63 = ap (λ (x : ℕ). (h + a * 2 ^ p) * 2 ^ x) (omega arith)
    ∙ moved_up h a p (63 - p) {n = 63} (omega arith) in
    let below : (m + c * 2 ^ p) * 2 ^ (16 - (p + 1)) ≡ m * d + c * 2 ^ 15 = ap (λ (x : ℕ). (m + c * 2 ^ p) * 2 ^ x) (omega arith)
    ∙ moved_up m c p (15 - p) {n = 15} (omega arith) in
    rw (halves, other_digits a rest ha, lowest_digit a rest ha, above, below) (gathered (h * e) (m * d) (c * 2 ^ 15) (a * 2 ^ 63))
  where
    gathered : (w x y z : ℕ) → w + x + y + z ≡ w + z + (x + y)
    gathered w x y z = omega arith

-- All n ports have said theirs: rotated back, the masks are where they belong.
pub rotated_back : (n h m : ℕ) → n ≤ 8 → m < 512 → {x : ℕ} → x ≡ rotated_by n h m → x % 2 ^ (64 - n) * 2 ^ n + x / 2 ^ (64 - n) ≡ m * 65536 + h
rotated_back n h m few hm {x} ex =
    let fits : m * 2 ^ (16 - n) < 2 ^ (64 - n) = omega (
      arith,
      below_up m 512 0 (16 - n) {n = 16 - n} (omega arith) (omega arith),
      pow_mono {i = 16 - n} {j = 16} (omega arith),
      pow_mono {i = 56} {j = 64 - n} (omega arith),
    ) in
    let above : x / 2 ^ (64 - n) ≡ h = ap (λ (y : ℕ). y / 2 ^ (64 - n)) ex ∙ digits_div h fits in
    let below : x % 2 ^ (64 - n) ≡ m * 2 ^ (16 - n) = ap (λ (y : ℕ). y % 2 ^ (64 - n)) ex ∙ digits_mod h fits in
    ap (λ (y : ℕ). y * 2 ^ n + x / 2 ^ (64 - n)) below
    ∙ ap (λ (y : ℕ). m * 2 ^ (16 - n) * 2 ^ n + y) above
    ∙ ap (λ (y : ℕ). y + h) (mul_assoc m (2 ^ (16 - n)) (2 ^ n) ∙ ap (λ (y : ℕ). m * y) (sym (pow-add 2 (16 - n) n) ∙ ap (λ (y : ℕ). 2 ^ y) {x = 16 - n + n} {y = 16} (omega arith)))

-- A number of 64 bits, rotated right by one bit and left by n, is one of 64 bits.
pub right_fits : (x : ℕ) → x < 2 ^ 64 → x / 2 + x % 2 * 2 ^ 63 < 2 ^ 64
right_fits x h =
    let half : x / 2 < 2 ^ 63 = omega arith in
    rw (add_comm (x / 2) (x % 2 * 2 ^ 63)) (digits_lt {m = 2} {c = 2 ^ 63} (mod-lt x (omega arith)) half)

module _ (x n : ℕ) (h : x < 2 ^ 64) (most : n < 64) where
  whole : 2 ^ (64 - n) * 2 ^ n ≡ 2 ^ 64
  whole = sym (pow-add 2 (64 - n) n) ∙ ap (λ (y : ℕ). 2 ^ y) {x = 64 - n + n} {y = 64} (omega arith)

  pub left_is : x * 2 ^ n % 2 ^ 64 ≡ x % 2 ^ (64 - n) * 2 ^ n
  left_is =
      let c = 2 ^ (64 - n) in
      let split : x * 2 ^ n ≡ x / c * 2 ^ 64 + x % c * 2 ^ n = ap (λ (y : ℕ). y * 2 ^ n) (sym (div-add-mod' x c))
      ∙ add-mul (x / c * c) (x % c) (2 ^ n) ∙ ap (λ (y : ℕ). y + x % c * 2 ^ n) (mul_assoc (x / c) c (2 ^ n) ∙ ap (λ (y : ℕ). x / c * y) whole) in
      let below : x % c * 2 ^ n < 2 ^ 64 = subst (λ (y : ℕ). x % c * 2 ^ n < y) whole (mul-lt-mul_of_pos_right (mod-lt x (pow_pos (64 - n))) (pow_pos n)) in
      ap (λ (y : ℕ). y % 2 ^ 64) split ∙ digits_mod (x / c) below

  pub left_fits : x % 2 ^ (64 - n) * 2 ^ n + x / 2 ^ (64 - n) < 2 ^ 64
  left_fits =
      let top : x / 2 ^ (64 - n) < 2 ^ n = shr_lt n (64 - n) (subst (λ (y : ℕ). x < 2 ^ y) {x = 64} {y = n + (64 - n)} (omega arith) h) in
      subst (λ (y : ℕ). x % 2 ^ (64 - n) * 2 ^ n + x / 2 ^ (64 - n) < y) whole (digits_lt (mod-lt x (pow_pos (64 - n))) top)
