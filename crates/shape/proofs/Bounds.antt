-- What a shape within its limits bounds, the limit of tags at an index, and the index as the bits below the sets. Assumes nothing.
use Prim.Native.Nat.{ℕ, zero, suc, ◌+◌, ◌*◌, ◌-◌, ◌/◌, ◌%◌, ◌^◌, ◌<◌, ◌≤◌}
use mathlib.Core.Path.{◌≡◌, refl, sym, ◌∙◌, subst}
use mathlib.Core.Bool.{Bool, true, false, ◌&&◌, ◌||◌}
use mathlib.Core.Logic.{◌↔◌}
use native.Mathlib.Omega.{arith}
use native.Mathlib.Nat.{mul-le-mul, div-le_self, div-lt_iff_lt-mul}
use native.Mathlib.Decide.{dec_lt}
use lib.Dec.{eqb, leb, ltb}
use lib.Bits.{bit_and, and_mask}
use lib.Count.{count_trailing_zeros}
use borrow.Author.Tests.{eqb-true, leb-true, lt-ltb, le-ltb}
use Rattle.words.proofs.Bools.{Is, and_l, and_r}
use Rattle.shape.specs.declared.Shape.{Shape}
use Rattle.shape.specs.Shape.{within, is_sets, in_range, entries}

or_cases : {P : Type 0} (a b : Bool) → Is (a || b) → (Is a → P) → (Is b → P) → P
or_cases true b h f g = f refl
or_cases false b h f g = g h

-- What holds of each of the seven numbers of sets.
sets_cases : (P : ℕ → Type 0) → P 1 → P 2 → P 4 → P 8 → P 16 → P 32 → P 64 → (n : ℕ) → Is (is_sets n) → P n
sets_cases P p1 p2 p4 p8 p16 p32 p64 n h =
    or_cases (eqb n 1 || eqb n 2 || eqb n 4 || eqb n 8 || eqb n 16 || eqb n 32) (eqb n 64) h
    (λ a. or_cases (eqb n 1 || eqb n 2 || eqb n 4 || eqb n 8 || eqb n 16) (eqb n 32) a
    (λ b. or_cases (eqb n 1 || eqb n 2 || eqb n 4 || eqb n 8) (eqb n 16) b
    (λ c. or_cases (eqb n 1 || eqb n 2 || eqb n 4) (eqb n 8) c
    (λ d. or_cases (eqb n 1 || eqb n 2) (eqb n 4) d
    (λ e. or_cases (eqb n 1) (eqb n 2) e (at 1 p1) (at 2 p2)) (at 4 p4)) (at 8 p8)) (at 16 p16)) (at 32 p32)) (at 64 p64)
  where
    at : (k : ℕ) → P k → Is (eqb n k) → P n
    at k p g = subst P (sym (eqb-true n k g)) p

sets_le : (n : ℕ) → Is (is_sets n) → n ≤ 64
sets_le = sets_cases (λ n. n ≤ 64) (omega arith) (omega arith) (omega arith) (omega arith) (omega arith) (omega arith) (omega arith)

-- The sets as a power of two, at most the sixth.
abbrev pub PowerOfTwo : ℕ → Type 0
PowerOfTwo n = (2 ^ count_trailing_zeros 64 n ≡ n) × (count_trailing_zeros 64 n ≤ 6)

pub sets_shift : (n : ℕ) → Is (is_sets n) → PowerOfTwo n
unfolding count_trailing_zeros
sets_shift =
    sets_cases PowerOfTwo (refl, omega arith) (refl, omega arith) (refl, omega arith) (refl, omega arith) (refl, omega arith) (refl, omega arith)
    (refl, omega arith)

pub record Bounded (s : Shape) : Type 0 where
  pub ports : s.ports ≤ 8
  pub some_ports : 1 ≤ s.ports
  pub lines : s.lines ≤ 4096
  pub some_lines : 1 ≤ s.lines
  pub sets : Is (is_sets s.sets)
  pub sets-most : s.sets ≤ 64
  pub entries-most : entries s ≤ 512

pub bounded : (s : Shape) → in_range s ≡ true → Bounded s
unfolding in_range
bounded s h =
    let p = within 1 8 s.ports in
    let q = is_sets s.sets in
    let r = within 1 4096 s.lines in
    let sets : Is q = and_r p q (and_l (p && q) r h) in
    let most : s.sets ≤ 64 = sets_le s.sets sets in
    let few : Is p = and_l p q (and_l (p && q) r h) in
    let ports : s.ports ≤ 8 = leb-true _ _ (and_r (leb 1 s.ports) _ few) in
    record {
      ports = ports;
      some_ports = leb-true _ _ (and_l _ (leb s.ports 8) few);
      lines = leb-true _ _ (and_r (leb 1 s.lines) _ (and_r (p && q) r h));
      some_lines = leb-true _ _ (and_l _ (leb s.lines 4096) (and_r (p && q) r h));
      sets = sets;
      sets-most = most;
      entries-most = mul-le-mul ports most;
    }

-- Tags and limits fit 32 bits.
pub tag_small : (s : Shape) (a : ℕ) → in_range s ≡ true → a < s.lines → a / s.sets < 4096
tag_small s a h l = omega (arith, (bounded s h).lines, div-le_self a s.sets)

pub limit_small : (s : Shape) (a : ℕ) → in_range s ≡ true → (s.lines + (s.sets - 1) - a % s.sets) / s.sets < 8192
limit_small s a h =
    omega (arith, (bounded s h).lines, (bounded s h).sets-most, div-le_self (s.lines + (s.sets - 1) - a % s.sets) s.sets)

-- A tag below the limit is one with a home line below lines.
limit_more : (t n i x : ℕ) → i < n → (x + (n - 1) - i < suc t * n) ↔ (x ≤ t * n + i)
limit_more t n i x h = ((λ k. up k), (λ k. down k))
  where
    up : x + (n - 1) - i < suc t * n → x ≤ t * n + i
    up k = let e : suc t * n ≡ t * n + n = omega arith in omega (arith, k, e, h)

    down : x ≤ t * n + i → x + (n - 1) - i < suc t * n
    down k = let e : suc t * n ≡ t * n + n = omega arith in omega (arith, k, e, h)

pub limit_is : (t n i x : ℕ) → i < n → ltb (t * n + i) x ≡ ltb t ((x + (n - 1) - i) / n)
limit_is t n i x h =
    let pos : zero < n = omega (arith, h) in
    elim (dec_lt (t * n + i) x) [
      | yes l ↦ lt-ltb _ _ l ∙ sym (lt-ltb t ((x + (n - 1) - i) / n) (below pos l))
      | no g ↦ le-ltb (t * n + i) x (omega (arith, g)) ∙ sym (le-ltb t ((x + (n - 1) - i) / n) (above pos (omega (arith, g))))
    ]
  where
    above : zero < n → x ≤ t * n + i → (x + (n - 1) - i) / n ≤ t
    above pos k = let d : (x + (n - 1) - i) / n < suc t = (div-lt_iff_lt-mul pos).1 ((limit_more t n i x h).1 k) in omega (arith, d)

    below : zero < n → t * n + i < x → t < (x + (n - 1) - i) / n
    below pos l = elim (dec_lt t ((x + (n - 1) - i) / n)) [
      | yes k ↦ k
      | no k ↦ (let d : (x + (n - 1) - i) / n < suc t = omega (arith, k) in
          let e : x ≤ t * n + i = (limit_more t n i x h).0 ((div-lt_iff_lt-mul pos).0 d) in absurd (omega (arith, e, l)))
    ]

-- The bits of a number below n, where n is 2 ^ k.
pub bits_below_lem : (a n k : ℕ) → 2 ^ k ≡ n → bit_and a (n - 1) ≡ a % n
bits_below_lem a n k e = subst (λ (m : ℕ). bit_and a (m - 1) ≡ a % m) e (and_mask a k)

-- There is a set.
no_sets : (n : ℕ) → Is (is_sets n) → zero < n
no_sets = sets_cases (λ n. zero < n) (omega arith) (omega arith) (omega arith) (omega arith) (omega arith) (omega arith) (omega arith)

pub some_sets : (s : Shape) → Is (in_range s) → zero < s.sets
unfolding in_range
some_sets s h = no_sets s.sets (and_r (within 1 8 s.ports) (is_sets s.sets) (and_l _ (within 1 4096 s.lines) h))
