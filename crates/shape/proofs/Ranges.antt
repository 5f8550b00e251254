-- The two tests of a range: by differences, as the code makes them, and against plain facts. Assumes nothing.
use Prim.Native.Nat.{ℕ, ◌+◌, ◌-◌, ◌<◌, ◌≤◌}
use mathlib.Core.Path.{◌≡◌, sym, ◌∙◌}
use mathlib.Core.Logic.{◌≢◌}
use mathlib.Core.Bool.{true, false, ◌&&◌}
use native.Mathlib.Omega.{arith}
use native.Mathlib.Decide.{dec_lt}
use lib.Dec.{eqb, leb, ltb}
use borrow.Author.Tests.{lt-ltb, le-ltb, le-leb, lt-leb, ne_eqb, ltb-true, leb-true, eqb-true, eqb-false, not-true}
use Rattle.words.proofs.Bools.{Is, and_l, and_r, both, by_bool}
use Rattle.shape.specs.declared.range.Range.{Range}
use Rattle.shape.specs.Range.{inside, ends_by, IsIn, EndsBeyond}

-- A number below a sum, by the difference.
below_sum : (x n a : ℕ) → x ≤ a → ltb (a - x) n ≡ ltb a (x + n)
below_sum x n a h = elim (dec_lt (a - x) n) [
  | yes l ↦ lt-ltb _ _ l ∙ sym (lt-ltb a (x + n) (omega (arith, h, l)))
  | no g ↦ le-ltb (a - x) n (omega (arith, g)) ∙ sym (le-ltb a (x + n) (omega (arith, h, g)))
]

sum_within : (x n a : ℕ) → x ≤ a → leb n (a - x) ≡ leb (x + n) a
sum_within x n a h = elim (dec_lt (a - x) n) [
  | yes l ↦ lt-leb n (a - x) l ∙ sym (lt-leb (x + n) a (omega (arith, h, l)))
  | no g ↦ le-leb n (a - x) (omega (arith, g)) ∙ sym (le-leb (x + n) a (omega (arith, h, g)))
]

module _ (r : Range) (a : ℕ) where
  pub before_inside : a < r.first → false ≡ inside r a
  unfolding inside
  before_inside h = rw (lt-leb r.first a h)

  pub from_inside : r.first ≤ a → ltb (a - r.first) r.count ≡ inside r a
  unfolding inside
  from_inside h = rw (le-leb r.first a h) (below_sum r.first r.count a h)

  module _ (some : r.count ≢ 0) where
    pub starts_beyond : a < r.first → false ≡ ends_by r a
    unfolding ends_by
    starts_beyond h = rw (ne_eqb r.count 0 some, lt-leb (r.first + r.count) a (omega (arith, h)))

    pub ends_within : r.first ≤ a → leb r.count (a - r.first) ≡ ends_by r a
    unfolding ends_by
    ends_within h = rw (ne_eqb r.count 0 some) (sum_within r.first r.count a h)

  -- Against plain facts.
  inside_facts : Is (inside r a) → IsIn r a
  unfolding inside
  inside_facts h =
      let low = leb r.first a in
      let high = ltb a (r.first + r.count) in
      (leb-true _ _ (and_l low high h), ltb-true _ _ (and_r low high h))

  pub is_inside : IsIn r a → inside r a ≡ true
  unfolding inside
  is_inside h = both (le-leb _ _ h.0) (lt-ltb _ _ h.1)

  pub not_inside : (IsIn r a → ⊥) → inside r a ≡ false
  not_inside n = by_bool (inside r a) (λ h. absurd (n (inside_facts h))) (not-true (inside r a))

  pub empty_outside : Is (eqb r.count 0) → inside r a ≡ false
  empty_outside z = not_inside (λ h. omega (arith, eqb-true r.count 0 z, h.0, h.1))

  pub ends_beyond : EndsBeyond r a → ends_by r a ≡ false
  unfolding ends_by
  ends_beyond h = rw (ne_eqb r.count 0 (λ e. omega (arith, h.0, e)), lt-leb (r.first + r.count) a h.1)

  pub not_beyond : (EndsBeyond r a → ⊥) → ends_by r a ≡ true
  unfolding ends_by
  not_beyond n = by_bool (eqb r.count 0) (λ h. rw h) (λ h. elim (dec_lt a (r.first + r.count)) [
    | yes l ↦ absurd (n (some (eqb-false r.count 0 (not-true _ h)), l))
    | no g ↦ rw (not-true (eqb r.count 0) h, le-leb (r.first + r.count) a (omega (arith, g)))
  ])
    where
      some : r.count ≢ 0 → 0 < r.count
      some d = elim (dec_lt 0 r.count) [ yes l ↦ l | no g ↦ absurd (d (omega (arith, g))) ]

-- Two empty ranges.
pub both_empty : (r q : Range) (n : ℕ) → Is (eqb r.count 0 && eqb q.count 0) → true ≡ (ends_by r n && ends_by q n)
unfolding ends_by
both_empty r q n h =
    rw (and_l (eqb r.count 0) (eqb q.count 0) h, and_r (eqb r.count 0) (eqb q.count 0) h)

-- A line in a range that ends within lines is below lines.
pub inside_lines : (r : Range) (a n : ℕ) → IsIn r a → Is (ends_by r n) → a < n
unfolding ends_by
inside_lines r a n h =
    by_bool (eqb r.count 0) (λ z _. absurd (omega (arith, eqb-true r.count 0 z, h.0, h.1)))
    (λ z e. omega (arith, leb-true (r.first + r.count) n (rw (not-true (eqb r.count 0) z) at e), h.1))
