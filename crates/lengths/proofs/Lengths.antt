-- Laws of the lengths of what is lent, and of refusals 2, 3 and 12. Assumes nothing.
use Prim.Native.Nat.{ℕ}
use mathlib.Core.Path.{◌≡◌, refl, sym, ◌∙◌}
use mathlib.Core.Logic.{◌≢◌}
use mathlib.Core.Bool.{Bool, true, false, cond, ◌&&◌, false≢true}
use lib.Dec.{eqb}
use borrow.Author.Tests.{eqb-true}
use Rattle.words.proofs.Bools.{Is, and_l, and_r}
use Rattle.shape.specs.declared.Shape.{Shape}
use Rattle.shape.specs.declared.Sizes.{Sizes}
use Rattle.shape.specs.Range.{ends_by}
use Rattle.shape.specs.Shape.{without_ranges, in_range, memory_bytes, tags_bytes, states_bytes, data_bytes, sizes_of, ranges_end, fit_refusal}
use Rattle.shape.proofs.Refusals.{accepted_all, not_nine}
use Rattle.lengths.specs.Lengths.{tables_fit, bytes_fit, refusal_by}

-- Lengths held against those that the shape gives.
module _ (s : Shape) (memory tags states words : ℕ) {n : Sizes} (e : n ≡ sizes_of s) where
  pub tables-held : (eqb tags n.tags && eqb states n.states && eqb words n.«data») ≡ tables_fit s tags states words
  unfolding tables_fit
  tables-held = rw e

  pub bytes-held : {t : Bool} → t ≡ tables_fit s tags states words → (eqb memory n.memory && t) ≡ bytes_fit s memory tags states words
  unfolding bytes_fit
  bytes-held f = rw (e, f)

-- Tables that fit, length by length.
pub tables_fitting : (s : Shape) (tags states words : ℕ) → Is (tables_fit s tags states words)
    → (tags ≡ tags_bytes s) × (states ≡ states_bytes s) × (words ≡ data_bytes s)
unfolding tables_fit
tables_fitting s tags states words f =
    let g = eqb tags (tags_bytes s) in
    let h = eqb states (states_bytes s) in
    let d = eqb words (data_bytes s) in
    let gh = and_l (g && h) d f in (eqb-true _ _ (and_l g h gh), eqb-true _ _ (and_r g h gh), eqb-true _ _ (and_r (g && h) d f))

-- All that refusal 0 says of what is lent.
pub record Fits (s : Shape) (memory tags states words : ℕ) (out : Bool) : Type 0 where
  pub range : Is (in_range s)
  pub ends : Is (ranges_end s)
  pub memory_fits : memory ≡ memory_bytes s
  pub tags_fit : tags ≡ tags_bytes s
  pub states_fit : states ≡ states_bytes s
  pub words_fit : words ≡ data_bytes s
  pub out_fits : Is out

module _ (s : Shape) (memory tags states words : ℕ) (out : Bool) where
  pub accepted-fits : refusal_by s memory tags states words out ≡ 0 → Fits s memory tags states words out
  unfolding bytes_fit refusal_by
  accepted-fits e =
      let a = accepted_all s (bytes_fit s memory tags states words && out) e in
      let m = eqb memory (memory_bytes s) in
      let g = tables_fit s tags states words in
      let z : Is (m && g) = and_l (m && g) out a.1 in
      let t = tables_fitting s tags states words (and_r m g z) in
      record {
        range = a.0;
        ends = a.2;
        memory_fits = eqb-true _ _ (and_l m g z);
        tags_fit = t.0;
        states_fit = t.1;
        words_fit = t.2;
        out_fits = and_r (m && g) out a.1;
      }

pub out_fits : (s : Shape) (memory tags states words : ℕ) (out : Bool) {n : ℕ} → n ≡ refusal_by s memory tags states words out → n ≡ 0 → Is out
out_fits s memory tags states words out e z = (accepted-fits s memory tags states words out (sym e ∙ z)).out_fits

-- None of these refusals is 9.
pub never_nine : (s : Shape) (memory tags states words : ℕ) (out : Bool) → refusal_by s memory tags states words out ≢ 9
unfolding refusal_by
never_nine s memory tags states words out = not_nine s (bytes_fit s memory tags states words && out)

-- Without room for what is written to, there is a refusal.
pub some_refusal : (s : Shape) (memory tags states words : ℕ) → refusal_by s memory tags states words false ≢ 0
some_refusal s memory tags states words e = false≢true (accepted-fits s memory tags states words false e).out_fits

-- Ranges that end within lines refuse nothing.
module _ (s : Shape) (memory tags states words : ℕ) (out : Bool) where
  abbrev unranged_refusal : ℕ
  unranged_refusal = cond (in_range s) (cond (bytes_fit s memory tags states words && out) 0 3) 2

  refusal_with : ranges_end s ≡ true → refusal_by s memory tags states words out ≡ unranged_refusal
  unfolding refusal_by fit_refusal
  refusal_with e = rw e

  refusal_without : refusal_by (without_ranges s) memory tags states words out ≡ unranged_refusal
  unfolding refusal_by fit_refusal ranges_end ends_by in_range bytes_fit tables_fit
  refusal_without = refl

  pub refused_apart : ranges_end s ≡ true → refusal_by s memory tags states words out ≡ refusal_by (without_ranges s) memory tags states words out
  refused_apart e = refusal_with e ∙ sym refusal_without
