-- The bytes of a host against the model that they hold. Assumes nothing.
use Prim.Native.Nat.{ℕ, zero, suc, ◌+◌, ◌*◌}
use mathlib.Core.Path.{◌≡◌, refl, sym, ap, ◌∙◌}
use mathlib.Core.Logic.{◌≢◌}
use mathlib.Core.Bool.{Bool, true, false}
use mathlib.Core.List.{List, [], ◌∷◌}
use native.Mathlib.Omega.{arith}
use native.Mathlib.Nat.{mul-zero, mul-suc, add_comm}
use lib.Dec.{eqb}
use lib.ListN.{get_or, set, length, replicate, replicate-append-replicate}
use mir.Syntax.{w8}
use mir.Val.{Fits}
use borrow.Author.Tests.{eq-eqb, ne_eqb, eqb-true}
use Rattle.endian.specs.Little.{bytes_of, encoded}
use Rattle.endian.proofs.Little.{same_bytes}
use Rattle.lengths.proofs.Lengths.{accepted-fits, out_fits}
use Rattle.answers.specs.Answers.{answer_bytes}
use Rattle.shape.specs.declared.Shape.{Shape}
use Rattle.model.specs.declared.answer.Answer.{Answer}
use Rattle.shape.specs.Shape.{entries}
use Rattle.model.specs.Order.{Order}
use Rattle.model.specs.Tables.{lent_refusal}
use Rattle.model.specs.Step.{result, refused, step}
use Rattle.model.specs.Fresh.{fresh, zeroed}
use Rattle.model.specs.Audit.{audit}
use Rattle.words.specs.Bools.{bit}
use Rattle.ports.specs.Bytes.{Bytes, bytes, model_in, Fitting}
use Rattle.ports.proofs.Bytes.{lent, refitted}
use Rattle.host.specs.Host.{in_bytes, host_refusal, hosted, refusal_put, verdict_put, host_step, host_fresh, host_audit}
use Rattle.host.specs.ReadBack.{AreBytes, OfBytes}

-- Slices of u8 hold bytes.
abbrev OfU8 : List ℕ → Type 0
OfU8 l = (k : ℕ) → Fits w8 (get_or l k 0)

pub of_bytes : {m g h d : List ℕ} → OfU8 m → OfU8 g → OfU8 h → OfU8 d → OfBytes (bytes m g h d)
of_bytes m g h d =
    record { memory = λ k. omega (arith, m k); tags = λ k. omega (arith, g k); states = λ k. omega (arith, h k); words = λ k. omega (arith, d k) }

pub fitting : (s : Shape) (b : Bytes) (out : Bool) → host_refusal s b out ≡ 0 → Fitting s b
fitting s b out e =
    let f = accepted-fits s (length b.memory) (length b.tags) (length b.states) (length b.words) out e in
    record {
      range = f.range;
      ends = f.ends;
      memory_fits = f.memory_fits;
      filled = record { tags_fit = f.tags_fit; states_fit = f.states_fit; words_fit = f.words_fit };
    }

-- Fitting bytes, read as a model and put in bytes again, are the same.
pub same_lent : {s : Shape} {b : Bytes} → Fitting s b → AreBytes b.memory → AreBytes b.tags → AreBytes b.words → in_bytes (model_in s b) ≡ b
unfolding in_bytes model_in
same_lent {s} {b} f m g d =
    rw (
      same_bytes 8 s.lines b.memory m f.memory_fits,
      same_bytes 4 (entries s) b.tags g f.filled.tags_fit,
      same_bytes 8 (entries s)
          b.words d f.filled.words_fit,
    )

-- A call of step: accepted, or refused, with the answer written where its slice has 40 bytes.
module _ (s : Shape) (o : Order) (b : Bytes) (out : List ℕ) {n : ℕ} (en : n ≡ host_refusal s b (eqb (length out) 40)) where
  pub step-accepted : n ≡ 0 → {x : Answer} {b' : Bytes} {out' : List ℕ} → result x (model_in s b') ≡ step s o (model_in s b)
      → length b'.memory ≡ length b.memory → length b'.tags ≡ length b.tags → length b'.states ≡ length b.states
      → length b'.words ≡ length b.words
      → AreBytes b'.memory → AreBytes b'.tags → AreBytes b'.words → out' ≡ answer_bytes x
      → hosted x.refusal b' out' ≡ host_step s o b out
  unfolding host_step
  step-accepted z {b' = b'} e em eg eh ed m g d ea =
      let f = refitted b' (fitting s b (eqb (length out) 40) (sym en ∙ z)) em eg eh ed in
      rw (← en, eq-eqb n 0 z, ← e, same_lent f m g d, ea)

  pub step-refused : n ≢ 0 → {out' : List ℕ} → out' ≡ refusal_put n out → hosted n b out' ≡ host_step s o b out
  unfolding host_step
  step-refused h f = rw (← en, ne_eqb n 0 h, f)

-- Zeros in bytes.
zero_bytes_lem : (w : ℕ) → bytes_of w 0 ≡ replicate w 0
unfolding bytes_of
zero_bytes_lem zero = refl
zero_bytes_lem (suc w) = ap (λ (l : List ℕ). 0 ∷ l) (zero_bytes_lem w)

encoded-zeros : (w n : ℕ) → encoded w (replicate n 0) ≡ replicate (w * n) 0
unfolding encoded
encoded-zeros w zero = rw (mul-zero w)
encoded-zeros w (suc n) =
    let e : w * suc n ≡ w + w * n = mul-suc w n ∙ add_comm (w * n) w in
    rw (zero_bytes_lem w, encoded-zeros w n, replicate-append-replicate {A = ℕ} w (w * n) 0, e)

-- A call of fresh.
module _ (s : Shape) (b : Bytes) {n : ℕ} (en : n ≡ host_refusal s b true) where
  pub fresh-accepted : n ≡ 0 → AreBytes b.memory → {g h d : List ℕ} → g ≡ replicate (length b.tags) 0
      → h ≡ replicate (length b.states) 0 → d ≡ replicate (length b.words) 0
      → hosted n (bytes b.memory g h d) [] ≡ host_fresh s b
  unfolding host_fresh fresh zeroed model_in in_bytes
  fresh-accepted z m eg eh ed =
      let f = fitting s b true (sym en ∙ z) in
      rw (
        ← en,
        eq-eqb n 0 z,
        eq-eqb (lent_refusal s (model_in s b)) 0 (lent f),
        eg,
        eh,
        ed,
        f.filled.tags_fit,
        f.filled.states_fit,
        f.filled.words_fit,
        encoded-zeros 4 (entries s),
        encoded-zeros 8 (entries s),
        same_bytes 8 s.lines b.memory m f.memory_fits,
      )

  pub fresh-refused : n ≢ 0 → hosted n b [] ≡ host_fresh s b
  unfolding host_fresh
  fresh-refused h = rw (← en, ne_eqb n 0 h)

-- A call of the audit: accepted, refused with the verdict written, refused with a slice of another length.
module _ (s : Shape) (b : Bytes) (out : List ℕ) {n : ℕ} (en : n ≡ host_refusal s b (eqb (length out) 1)) where
  only : (l : List ℕ) (v : ℕ) → length l ≡ 1 → set l 0 v ≡ v ∷ []
  only [] v e = absurd (omega arith)
  only (x ∷ []) v e = refl
  only (x ∷ y ∷ l) v e = absurd (omega arith)

  pub audit-fits : n ≡ 0 → Fitting s b
  audit-fits z = fitting s b (eqb (length out) 1) (sym en ∙ z)

  pub audit-accepted : n ≡ 0 → {p : Bool} {v : ℕ} → p ≡ audit s (model_in s b) → v ≡ bit p → hosted 0 b (set out 0 v) ≡ host_audit s b out
  unfolding host_audit verdict_put
  audit-accepted z {p} {v} ep ev =
      let o = out_fits s _ _ _ _ (eqb (length out) 1) en z in
      rw (← en, eq-eqb n 0 z, o, only out v (eqb-true _ _ o), ev, ep, z)

  pub audit-refused : n ≢ 0 → eqb (length out) 1 ≡ true → hosted n b (set out 0 0) ≡ host_audit s b out
  unfolding host_audit verdict_put
  audit-refused h o = rw (← en, ne_eqb n 0 h, o, only out 0 (eqb-true _ _ o))

  pub audit_left : n ≢ 0 → eqb (length out) 1 ≡ false → hosted n b out ≡ host_audit s b out
  unfolding host_audit verdict_put
  audit_left h o = rw (← en, o)
