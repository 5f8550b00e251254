-- Tables that fresh, the step and the audit accept: refusals 2, 3 and 12 against plain facts. Assumes nothing.
use mathlib.Core.Path.{◌≡◌}
use mathlib.Core.Bool.{Bool, ◌&&◌}
use lib.ListN.{length}
use lib.Dec.{eqb}
use borrow.Author.Tests.{eq-eqb, eqb-true}
use Rattle.words.proofs.Bools.{Is, and_l, and_r, both}
use Rattle.shape.specs.declared.Shape.{Shape}
use Rattle.shape.specs.Shape.{in_range, fits, ranges_end, fit_refusal, refusal_of, entries}
use Rattle.shape.proofs.Refusals.{accepted_all}
use Rattle.model.specs.Tables.{Model, lent_refusal}
use Rattle.model.proofs.Entries.{Sized}

-- The shape is within its limits, memory and tables have its lengths, and no range ends beyond lines.
pub record Lent (s : Shape) (t : Model) : Type 0 where
  pub range : Is (in_range s)
  pub sizes : Sized s t
  pub ends : Is (ranges_end s)

-- No order changes a length.
pub relent : {s : Shape} {t t' : Model} → Lent s t → Sized s t' → Lent s t'
relent l z = record { range = l.range; sizes = z; ends = l.ends }

abbrev lengths_fit : Shape → Model → Bool
lengths_fit s t = fits s (length t.memory) (length t.tags) (length t.states) (length t.words)

sized_facts : (s : Shape) (t : Model) → Is (lengths_fit s t) → Sized s t
unfolding fits
sized_facts s t h =
    let m = eqb (length t.memory) s.lines in
    let a = eqb (length t.tags) (entries s) in
    let b = eqb (length t.states) (entries s) in
    let c = eqb (length t.words) (entries s) in
    record {
      memory = eqb-true _ _ (and_l m a (and_l (m && a) b (and_l (m && a && b) c h)));
      tags = eqb-true _ _ (and_r m a (and_l (m && a) b (and_l (m && a && b) c h)));
      states = eqb-true _ _ (and_r (m && a) b (and_l (m && a && b) c h));
      words = eqb-true _ _ (and_r (m && a && b) c h);
    }

facts_sized : (s : Shape) (t : Model) → Sized s t → Is (lengths_fit s t)
unfolding fits
facts_sized s t z = both (both (both (eq-eqb _ _ z.memory) (eq-eqb _ _ z.tags)) (eq-eqb _ _ z.states)) (eq-eqb _ _ z.words)

pub lent_facts : (s : Shape) (t : Model) → lent_refusal s t ≡ 0 → Lent s t
unfolding lent_refusal refusal_of
lent_facts s t z = let a = accepted_all s (lengths_fit s t) z in record { range = a.0; sizes = sized_facts s t a.1; ends = a.2 }

pub facts_lent : (s : Shape) (t : Model) → Lent s t → lent_refusal s t ≡ 0
unfolding lent_refusal refusal_of fit_refusal
facts_lent s t l = rw (l.range, facts_sized s t l.sizes, l.ends)
