-- Entries put one after the other: all but one unchanged, or one put again at the end. Assumes nothing.
use Prim.Native.Nat.{ℕ, zero, suc, ◌<◌}
use mathlib.Core.Path.{◌≡◌, refl, ap, sym, ◌∙◌}
use mathlib.Core.Logic.{◌≢◌}
use mathlib.Core.List.{List}
use lib.ListN.{get_or, set}
use lib.Seq.{set-set, set_comm, set-get_or}
use native.Mathlib.Omega.{arith}
use native.Mathlib.Decide.{ℕ_discrete}
use Rattle.model.specs.Step.{put_below}

lt_apart : (p n : ℕ) → p < n → p ≢ n
lt_apart p n h e = omega arith

module _ (at : ℕ → ℕ) (inj : (p q : ℕ) → at p ≡ at q → p ≡ q) where
  pub put_ext : (f g : ℕ → ℕ) (n : ℕ) (l : List ℕ) → ((p : ℕ) → p < n → f p ≡ g p) → put_below at f n l ≡ put_below at g n l
  unfolding put_below
  put_ext f g zero l h = refl
  put_ext f g (suc n) l h = rw (put_ext f g n l (λ p q. h p (omega arith)), h n (omega arith))

  -- Each entry put as it is.
  pub put_id : (f : ℕ → ℕ) (n : ℕ) (l : List ℕ) → ((p : ℕ) → p < n → f p ≡ get_or l (at p) 0) → put_below at f n l ≡ l
  unfolding put_below
  put_id f zero l h = refl
  put_id f (suc n) l h = rw (put_id f n l (λ p q. h p (omega arith)), h n (omega arith)) (set-get_or l (at n) 0)

  -- Entry i put again at the end.
  put_last : (f g : ℕ → ℕ) (n : ℕ) (l : List ℕ) (i : ℕ) → i < n → ((p : ℕ) → p < n → p ≢ i → f p ≡ g p)
      → set (put_below at f n l) (at i) (g i) ≡ put_below at g n l
  unfolding put_below
  put_last f g zero l i h e = absurd (omega arith)
  put_last f g (suc n) l i h e =
      elim (ℕ_discrete n i) [
        | yes z ↦ rw (sym z) (set-set (put_below at f n l) (at n) (f n) (g n)
            ∙ ap (λ (x : List ℕ). set x (at n) (g n)) (put_ext f g n l (λ p q. e p (omega arith) (λ y. lt_apart p n q (y ∙ sym z)))))
        | no d ↦ set_comm (put_below at f n l) (at n) (at i) (f n) (g i) (λ y. d (inj n i y))
            ∙ ap (λ (x : List ℕ). set x (at n) (f n)) (put_last f g n l i (omega arith) (λ p q. e p (omega arith)))
            ∙ ap (set (put_below at g n l) (at n)) (e n (omega arith) d)
      ]

  -- The same for a value x that is what entry i is to have.
  module _ (g : ℕ → ℕ) (n : ℕ) (l : List ℕ) (i x : ℕ) (h : i < n) (ex : x ≡ g i) where
    pub own_last : (f : ℕ → ℕ) → ((p : ℕ) → p < n → p ≢ i → f p ≡ g p) → set (put_below at f n l) (at i) x ≡ put_below at g n l
    own_last f e = rw ex (put_last f g n l i h e)
