-- Laws of masks of ports: bits, one port more, the empty mask, the lowest port in one, one without a port, one within another. Assumes nothing.
use Prim.Native.Nat.{ℕ, zero, suc, ◌+◌, ◌*◌, ◌-◌, ◌/◌, ◌%◌, ◌^◌, ◌<◌, ◌≤◌, min}
use mathlib.Core.Path.{◌≡◌, refl, sym, ap, ◌∙◌, subst}
use mathlib.Core.Bool.{Bool, true, false, ◌&&◌, not, false≢true}
use native.Mathlib.Omega.{arith}
use native.Mathlib.Nat.{pow-zero, pow-suc, zero-add, add-zero, div-one}
use native.Mathlib.Decide.{ℕ_discrete}
use lib.Dec.{eqb}
use lib.Pow.{shr-shr, shl_exact}
use lib.Bits.{bit_and, and_step}
use lib.Count.{count_trailing_zeros}
use borrow.Author.Tests.{eq-eqb, ne_eqb, not-true}
use Rattle.words.specs.Bools.{bit}
use Rattle.words.proofs.Bools.{Is, by_bool, not_both}
use Rattle.model.specs.Below.{any_below, none, number, or_else, lowest, at_or}
use Rattle.model.proofs.Below.{any_below_lem, below_none, lowest-cases}
use Rattle.shape.specs.declared.Shape.{Shape}
use Rattle.model.specs.Tables.{Model, holds}
use Rattle.ports.specs.Masks.{ports_from, in_mask, OfHolders}

-- The lowest digit, and the rest.
pub lowest_digit : (m x : ℕ) → m ≤ 1 → (m + 2 * x) % 2 ≡ m
lowest_digit m x h = omega arith

pub other_digits : (m x : ℕ) → m ≤ 1 → (m + 2 * x) / 2 ≡ x
other_digits m x h = omega arith

pub bit_le : (b : Bool) → bit b ≤ 1
bit_le true = omega arith
bit_le false = omega arith

low : (b : Bool) (x : ℕ) → (bit b + 2 * x) % 2 ≡ bit b
low b x = lowest_digit (bit b) x (bit_le b)

rest : (b : Bool) (x : ℕ) → (bit b + 2 * x) / 2 ≡ x
rest b x = other_digits (bit b) x (bit_le b)

pub bit_is : (b : Bool) → eqb (bit b) 1 ≡ b
bit_is true = refl
bit_is false = refl

pub mask_lt : (f : ℕ → Bool) (a n : ℕ) → ports_from f a n < 2 ^ n
unfolding ports_from
mask_lt f a zero = omega arith
mask_lt f a (suc n) = rw (pow-suc 2 n) (omega (arith, mask_lt f (suc a) n, bit_le (f a)))

pub mask_half : (f : ℕ → Bool) (a n : ℕ) → ports_from f a (suc n) / 2 ≡ ports_from f (suc a) n
unfolding ports_from
mask_half f a n = rest (f a) (ports_from f (suc a) n)

-- One port more, b, at the end.
pub mask_next : (f : ℕ → Bool) (a n : ℕ) {b : ℕ} → b ≡ a + n → ports_from f a (suc n) ≡ ports_from f a n + bit (f b) * 2 ^ n
unfolding ports_from
mask_next f a zero {b} e = let x : b ≡ a = omega arith in rw (pow-zero 2, x) (omega arith)
mask_next f a (suc n) {b} e = rw (mask_next f (suc a) n {b = b} (omega arith), pow-suc 2 n) (omega arith)

-- The mask without its j lowest ports, and bit i.
pub mask_drop : (f : ℕ → Bool) (a j n : ℕ) {m b : ℕ} → m ≡ j + n → b ≡ a + j → ports_from f a m / 2 ^ j ≡ ports_from f b n
mask_drop f a zero n {m} {b} em eb =
    let x : m ≡ n = omega arith in
    let y : a ≡ b = omega arith in
    rw (pow-zero 2, div-one (ports_from f a m), x, y)
mask_drop f a (suc j) n {m} {b} em eb =
    let x : m ≡ suc (j + n) = omega arith in
    ap (λ (k : ℕ). ports_from f a k / 2 ^ suc j) x ∙ ap (λ (k : ℕ). ports_from f a (suc (j + n)) / 2 ^ k) (one_more j)
    ∙ sym (shr-shr (ports_from f a (suc (j + n))) 1 j) ∙ ap (λ (k : ℕ). k / 2 ^ j) (mask_half f a (j + n)) ∙ mask_drop f (suc a) j n refl (omega arith)
  where
    one_more : (j : ℕ) → suc j ≡ 1 + j
    one_more j = omega arith

pub mask_bit : (f : ℕ → Bool) (n i : ℕ) → i < n → ports_from f 0 n / 2 ^ i % 2 ≡ bit (f i)
unfolding ports_from
mask_bit f n i h =
    let e : n ≡ i + suc (n - suc i) = omega arith in
    let d : ports_from f 0 n / 2 ^ i ≡ ports_from f i (suc (n - suc i)) = mask_drop f 0 i (suc (n - suc i)) e (sym (zero-add i)) in
    rw (d, low (f i) (ports_from f (suc i) (n - suc i)))

pub moved : (f : ℕ → Bool) {x y : ℕ} → x ≡ y → Is (f x) → Is (f y)
moved f e h = subst (λ (z : ℕ). Is (f z)) e h

-- An empty mask, and one that is not.
pub mask_none : (f : ℕ → Bool) (a n : ℕ) → ((q : ℕ) → q < n → Is (not (f (a + q)))) → ports_from f a n ≡ 0
unfolding ports_from
mask_none f a zero h = refl
mask_none f a (suc n) h =
    rw (
      not-true (f a) (moved (λ x. not (f x)) (omega arith) (h 0 (omega arith))),
      mask_none f (suc a) n
          (λ q l. moved (λ x. not (f x)) (omega arith) (h (suc q) (omega arith))),
    )

pub mask_some : (f : ℕ → Bool) (a n q : ℕ) → q < n → Is (f (a + q)) → 0 < ports_from f a n
unfolding ports_from
mask_some f a zero q l h = absurd (omega arith)
mask_some f a (suc n) zero l h = rw (moved f {y = a} (omega arith) h) (omega arith)
mask_some f a (suc n) (suc q) l h = omega (arith, mask_some f (suc a) n q (omega arith) (moved f (omega arith) h))

pub mask_any : (f : ℕ → Bool) (n : ℕ) → not (eqb (ports_from f 0 n) 0) ≡ any_below f n
mask_any f n =
    lowest-cases (λ _. not (eqb (ports_from f 0 n) 0) ≡ any_below f n) f n
    (λ p l h. rw (any_below_lem f n p l h, ne_eqb (ports_from f 0 n) 0 (λ e. absurd (omega (arith, mask_some f 0 n p l (moved f (omega arith) h))))))
    (λ u. rw (not-true (any_below f n) u, mask_none f 0 n (λ q l. moved (λ x. not (f x)) (omega arith) (below_none f n u q l))))

-- The lowest port in a mask that is not empty, for a count of d digits or more than the mask has.
pub record First (f : ℕ → Bool) (a n z : ℕ) : Type 0 where
  pub below : z < n
  pub passes : Is (f (a + z))
  pub lower : (r : ℕ) → r < z → Is (not (f (a + r)))

pub mask_first : (f : ℕ → Bool) (a n d : ℕ) → n ≤ d → 0 < ports_from f a n → First f a n (count_trailing_zeros d (ports_from f a n))
unfolding ports_from count_trailing_zeros
mask_first f a zero d l h = absurd (omega arith)
mask_first f a (suc n) zero l h = absurd (omega arith)
mask_first f a (suc n) (suc d) l h =
    by_bool (f a)
    (λ t. rw (low (f a) (ports_from f (suc a) n), t) (record { below = omega arith; passes = moved f (omega arith) t; lower = λ r k. absurd (omega arith) }))
    (λ t. let u = not-true (f a) t in
    let more : First f (suc a) n (count_trailing_zeros d (ports_from f (suc a) n)) = mask_first f (suc a) n d (omega arith) (omega (arith, rw u at h)) in
    rw (low (f a) (ports_from f (suc a) n), rest (f a) (ports_from f (suc a) n), u)
    (record {
      below = omega (arith, more.below);
      passes = moved f (omega arith) more.passes;
      lower = λ r k. below_first r k t more;
    }))
  where
    below_first : {f : ℕ → Bool} {a n z : ℕ} (r : ℕ) → r < suc z → Is (not (f a)) → First f (suc a) n z → Is (not (f (a + r)))
    below_first {f} zero k t more = moved (λ x. not (f x)) (omega arith) t
    below_first {f} (suc r) k t more = moved (λ x. not (f x)) (omega arith) (more.lower r (omega arith))

pub first_of : (f : ℕ → Bool) (a n : ℕ) {m : ℕ} → m ≡ ports_from f a n → n ≤ 64 → (m ≡ 0 → ⊥) → {z : ℕ} → z ≡ count_trailing_zeros 64 m → First f a n z
first_of f a n em few h ez = rw (ez, em) (mask_first f a n 64 few (omega (arith, h, em)))

-- It is the lowest of all.
pub lowest_is : (f : ℕ → Bool) (n q : ℕ) → q < n → Is (f q) → ((r : ℕ) → r < q → Is (not (f r))) → lowest f n ≡ number q
unfolding lowest or_else
lowest_is f zero q l h u = absurd (omega arith)
lowest_is f (suc n) q l h u =
    elim (ℕ_discrete q n) [
      | yes e ↦ rw (lowest_none f n (λ r k. u r (omega arith)), moved f e h, e)
      | no d ↦ rw (lowest_is f n q (omega arith) h u)
    ]
  where
    lowest_none : (f : ℕ → Bool) (n : ℕ) → ((r : ℕ) → r < n → Is (not (f r))) → lowest f n ≡ none
    lowest_none f n u = lowest-cases (λ x. x ≡ none) f n (λ p k h. absurd (not_both h (u p k))) (λ _. refl)

-- Equal tests have equal masks.
mask_ext : (f g : ℕ → Bool) (a n : ℕ) → ((q : ℕ) → q < n → f (a + q) ≡ g (a + q)) → ports_from f a n ≡ ports_from g a n
unfolding ports_from
mask_ext f g a zero h = refl
mask_ext f g a (suc n) h =
    let z : f a ≡ g a = subst (λ (x : ℕ). f x ≡ g x) (add-zero a) (h 0 (omega arith)) in
    rw (z, mask_ext f g (suc a) n (λ q l. subst (λ (x : ℕ). f x ≡ g x) (shifted a q) (h (suc q) (omega arith))))
  where
    shifted : (a q : ℕ) → a + suc q ≡ suc a + q
    shifted a q = omega arith

-- The mask without port i.
pub mask_without : (f : ℕ → Bool) (a n j i : ℕ) → i ≡ a + j → j < n
    → ports_from f a n ≡ ports_from (λ p. not (eqb p i) && f p) a n + bit (f i) * 2 ^ j
unfolding ports_from
mask_without f a zero j i e l = absurd (omega arith)
mask_without f a (suc n) zero i e l =
    let x : a ≡ i = omega arith in
    rw (mask_ext f (λ p. not (eqb p i) && f p) (suc a) n (λ q k. away q), eq-eqb a i x, x, pow-zero 2) (omega arith)
  where
    away : (q : ℕ) → f (suc a + q) ≡ (not (eqb (suc a + q) i) && f (suc a + q))
    away q = rw (ne_eqb (suc a + q) i (λ y. absurd (omega arith)))
mask_without f a (suc n) (suc j) i e l =
    let d = ne_eqb a i (λ y. absurd (omega arith)) in
    rw (mask_without f (suc a) n j i (omega arith) (omega arith), d, pow-suc 2 j) (omega arith)

-- Two masks, one within a third and one outside it: the third finds the first in their sum.
pub mask_within : (f g h : ℕ → Bool) → ((p : ℕ) → Is (f p) → Is (h p)) → ((p : ℕ) → Is (g p) → Is (not (h p))) → (a n : ℕ)
    → bit_and (ports_from f a n + ports_from g a n) (ports_from h a n) ≡ ports_from f a n
unfolding ports_from
mask_within f g h inside outside a zero = refl
mask_within f g h inside outside a (suc n) =
    let m : ℕ = bit (f a) + bit (g a) in
    let x : ℕ = ports_from f (suc a) n + ports_from g (suc a) n in
    let y : ℕ = ports_from h (suc a) n in
    let digit = digit_within (f a) (g a) (h a) (inside a) (outside a) in
    let whole : bit (f a) + 2 * ports_from f (suc a) n + (bit (g a) + 2 * ports_from g (suc a) n) ≡ m + 2 * x = omega arith in
    rw (
      whole,
      and_step (m + 2 * x) (bit (h a) + 2 * y),
      other_digits m x digit.0,
      lowest_digit m x digit.0,
      rest (h a) y,
      low (h a) y,
      digit.1,
      mask_within f g h inside outside (suc a) n,
    ) (omega arith)
  where
    digit_within : (b c d : Bool) → (Is b → Is d) → (Is c → Is (not d)) → (bit b + bit c ≤ 1) × (min (bit b + bit c) (bit d) ≡ bit b)
    digit_within true c false i o = absurd (false≢true (i refl))
    digit_within true true true i o = absurd (false≢true (o refl))
    digit_within true false true i o = (omega arith, refl)
    digit_within false true true i o = absurd (false≢true (o refl))
    digit_within false true false i o = (omega arith, refl)
    digit_within false false true i o = (omega arith, refl)
    digit_within false false false i o = (omega arith, refl)

-- A mask of the ports that pass a test has those, and no bit beside theirs.
pub in_mask_lem : (f : ℕ → Bool) (n : ℕ) {m : ℕ} → m ≡ ports_from f 0 n → (p : ℕ) → p < n → in_mask m p ≡ f p
unfolding in_mask
in_mask_lem f n em p h = rw (em, mask_bit f n p h) (bit_is (f p))

pub of_holders : (s : Shape) (t : Model) (a : ℕ) (f : ℕ → Bool) → ((p : ℕ) → Is (f p) → Is (holds s t a p)) → {m : ℕ}
    → m ≡ ports_from f 0 s.ports → OfHolders s t a m
of_holders s t a f hold {m} em = record {
  ports = em ∙ mask_ext f (in_mask m) 0 s.ports (λ q h. sym (subst (λ (x : ℕ). in_mask m x ≡ f x) (sym (zero-add q)) (in_mask_lem f s.ports em q h)));
  hold = λ p h x. hold p (sym (in_mask_lem f s.ports em p h) ∙ x);
}

-- What the lowest port in a mask gives, or x where the mask is empty.
module _ (f : ℕ → Bool) (n : ℕ) {m : ℕ} (em : m ≡ ports_from f 0 n) where
  pub found_none : (at : ℕ → ℕ) (x : ℕ) → m ≡ 0 → x ≡ at_or at x (lowest f n)
  unfolding at_or
  found_none at x z =
      lowest-cases (λ l. x ≡ at_or at x l) f n (λ p l h. absurd (omega (arith, em, mask_some f 0 n p l (moved f (omega arith) h)))) (λ _. refl)

  pub found_first : (at : ℕ → ℕ) (x : ℕ) → n ≤ 64 → (m ≡ 0 → ⊥) → {z : ℕ} → z ≡ count_trailing_zeros 64 m → at z ≡ at_or at x (lowest f n)
  unfolding at_or
  found_first at x few h {z} ez =
      let first = first_of f 0 n em few h ez in
      rw (lowest_is f n z first.below (moved f (omega arith) first.passes) (λ r k. moved (λ y. not (f y)) (omega arith) (first.lower r k)))

-- The mask without port i, as the code takes its bit away.
pub bit_away : (f : ℕ → Bool) (n i : ℕ) {m : ℕ} → m ≡ ports_from f 0 n → i < n → n ≤ 8
    → (m / 2 ^ i % 2 * 2 ^ i % 2 ^ 64 ≤ m) × (m - m / 2 ^ i % 2 * 2 ^ i % 2 ^ 64 ≡ ports_from (λ p. not (eqb p i) && f p) 0 n)
bit_away f n i {m} em l few =
    let b : m / 2 ^ i % 2 ≡ bit (f i) = rw em (mask_bit f n i l) in
    let s : m / 2 ^ i % 2 * 2 ^ i % 2 ^ 64 ≡ bit (f i) * 2 ^ i = rw b (shl_exact {a = bit (f i)} 1 i 64 (omega (arith, bit_le (f i))) (omega arith)) in
    let w = em ∙ mask_without f 0 n i i (sym (zero-add i)) l in
    (omega (arith, s, w), omega (arith, s, w))
