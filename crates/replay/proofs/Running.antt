-- The loop over the orders: what is left to run, from what is there now, is the whole run from the start. Assumes nothing.
use Prim.Native.Nat.{ℕ, zero, suc, ◌+◌, ◌*◌, ◌-◌, ◌<◌, ◌≤◌}
use mathlib.Core.Path.{◌≡◌, refl, ap, ◌∙◌}
use mathlib.Core.List.{List, [], ◌∷◌, ◌++◌}
use native.Mathlib.Omega.{arith}
use native.Mathlib.Nat.{zero-add}
use Rattle.std.proofs.lemmas.List.{append-nil}
use lib.ListN.{length, set, take, drop, length-set}
use lib.Seq.{sets, sets-eq, drop-length}
use Rattle.shape.specs.declared.Shape.{Shape}
use Rattle.model.specs.declared.answer.Answer.{Answer}
use Rattle.model.specs.Order.{Order}
use Rattle.model.specs.Tables.{Model}
use Rattle.model.specs.Step.{Result, result, step}
use Rattle.decode.specs.Order.{order}
use Rattle.model.specs.Marks.{model_run}
use Rattle.replay.specs.Trace.{order_at, orders_of, five, fives, answers_to}
use Rattle.replay.specs.Shaped.{Shaped}

-- As many orders ys are said, and five numbers to an order.
pub orders_length : (ws xs : List ℕ) (k n : ℕ) → length (orders_of ws xs k n) ≡ n
unfolding orders_of
orders_length ws xs k zero = refl
orders_length ws xs k (suc n) = ap suc (orders_length ws xs (k + 1) n)

pub answers_length : (s : Shape) (os : List Order) (t : Model) → length (answers_to s os t) ≡ 5 * length os
unfolding answers_to
answers_length s [] t = refl
answers_length s (o ∷ os) t = let e = answers_length s os (step s o t).after in omega (arith, e)

-- The numbers of a list of answers: how many there are, those of its front and of what is behind it, and one answer stored.
pub fives_length : (ys : List Answer) → length (fives ys) ≡ 5 * length ys
unfolding fives
fives_length [] = refl
fives_length (a ∷ ys) = let e = fives_length ys in omega (arith, e)

five_times : (k : ℕ) → 5 * suc k ≡ suc (suc (suc (suc (suc (5 * k)))))
five_times k = omega arith

pub fives_behind : (ys bs : List Answer) (k : ℕ) → fives (ys ++ drop k bs) ≡ fives ys ++ drop (5 * k) (fives bs)
unfolding fives
fives_behind [] bs zero = refl
fives_behind [] [] (suc k) = rw (five_times k)
fives_behind [] (b ∷ bs) (suc k) = rw (five_times k) (fives_behind [] bs k)
fives_behind (a ∷ ys) bs k = ap (λ (l : List ℕ). five a ++ l) (fives_behind ys bs k)

fives_set : (ys : List Answer) (k : ℕ) (r : Answer) → fives (set ys k r) ≡ sets (fives ys) (5 * k) (five r)
unfolding fives
fives_set [] k r = refl
fives_set (a ∷ ys) zero r = refl
fives_set (a ∷ ys) (suc k) r = rw (five_times k) (ap (λ (l : List ℕ). five a ++ l) (fives_set ys k r))

-- The loop's invariant, after k of n orders, from model t.
pub record Running (s : Shape) (ws xs : List ℕ) (n : ℕ) (t : Model) (ys₀ : List Answer) (m : Shaped) (ys : List Answer) (k : ℕ) : Type 0 where
  pub below : k ≤ n
  pub shape : m.shape ≡ s
  pub same : length ys ≡ n
  pub after : model_run s (orders_of ws xs k (n - k)) m.model ≡ model_run s (orders_of ws xs 0 n) t
  pub answers : sets (fives ys) (5 * k) (answers_to s (orders_of ws xs k (n - k)) m.model)
      ≡ sets (fives ys₀) 0 (answers_to s (orders_of ws xs 0 n) t)

module _ (ws xs : List ℕ) where
  pub running_none : (m : Shaped) (ys : List Answer) → Running m.shape ws xs (length ys) m.model ys m ys 0
  running_none m ys =
      let e : length ys - 0 ≡ length ys = omega arith in
      record { below = omega arith; shape = refl; same = refl; after = rw e; answers = rw e }

  module _ {s : Shape} {n : ℕ} {t : Model} {ys₀ : List Answer} {m : Shaped} {ys : List Answer} {k : ℕ}
      (v : Running s ws xs n t ys₀ m ys k) where
    pub running_more : k < n → {w x : ℕ} → order w x ≡ order_at ws xs k
        → {r : Answer} {m' : Shaped} → m'.shape ≡ m.shape → result r m'.model ≡ step m.shape (order w x) m.model
        → {ys' : List Answer} → ys' ≡ set ys k r → Running s ws xs n t ys₀ m' ys' (k + 1)
    unfolding orders_of model_run answers_to
    running_more h eo {r} {m'} es er eb =
        let e : n - k ≡ suc (n - (k + 1)) = omega arith in
        let f : 5 * (k + 1) ≡ suc (suc (suc (suc (suc (5 * k))))) = omega arith in
        let y : result r m'.model ≡ step s (order_at ws xs k) m.model = er ∙ rw (eo, v.shape) in
        let left = orders_of ws xs (k + 1) (n - (k + 1)) in
        record {
          below = omega arith;
          shape = es ∙ v.shape;
          same = ap length eb ∙ length-set ys k r ∙ v.same;
          after = ap (λ (z : Result). model_run s left z.after) y ∙ (rw e at v.after);
          answers =
              rw (eb, fives_set ys k r, f)
              (ap (λ (z : Result). sets (fives ys) (5 * k) (five z.answer ++ answers_to s left z.after)) y ∙ (rw e at v.answers));
        }

    pub running_done : n ≤ k → length ys₀ ≡ n
        → (m.model ≡ model_run s (orders_of ws xs 0 n) t) × (fives ys ≡ answers_to s (orders_of ws xs 0 n) t)
    unfolding orders_of model_run answers_to
    running_done h l =
        let e : n - k ≡ 0 = omega arith in
        let all = answers_to s (orders_of ws xs 0 n) t in
        let c : length all ≡ length (fives ys₀) =
        omega (arith, answers_length s (orders_of ws xs 0 n) t, orders_length ws xs 0 n, fives_length ys₀, l) in
        let g : 0 + length all ≤ length (fives ys₀) = omega (arith, c) in
        ((rw e at v.after), (rw e at v.answers) ∙ sets-eq all (fives ys₀) 0 g ∙ whole all c)
      where
        whole : (all : List ℕ) → length all ≡ length (fives ys₀) → take 0 (fives ys₀) ++ all ++ drop (0 + length all) (fives ys₀) ≡ all
        whole all c = rw (zero-add (length all), c, drop-length (fives ys₀)) (append-nil all)
