-- The word that is supplied, from the owners' mask. Assumes nothing.
use Prim.Native.Nat.{ℕ, ◌<◌}
use mathlib.Core.Path.{◌≡◌, ap, ◌∙◌}
use mathlib.Core.List.{List}
use native.Mathlib.Omega.{arith}
use lib.ListN.{get_or}
use lib.Count.{count_trailing_zeros}
use Rattle.endian.specs.Little.{numbers}
use Rattle.shape.specs.Shape.{entries, entry_number}
use Rattle.model.specs.Tables.{seen, word_at, memory_at, owns}
use Rattle.model.specs.Step.{word_supplied}
use Rattle.ports.specs.declared.line.Line.{Line}
use Rattle.ports.specs.Bytes.{Bytes, model_in, tables_in, Filled, Fitting}
use Rattle.ports.specs.Entry.{word_in}
use Rattle.ports.specs.Line.{Placed}
use Rattle.ports.specs.Masks.{ports_from}
use Rattle.ports.proofs.Bytes.{memory_word}
use Rattle.ports.proofs.Masks.{first_of, found_none, found_first}
use Rattle.ports.proofs.Places.{few, number_is, word_read}

-- The word of a port's entry for the line.
pub entry_word : {l : Line} → Placed l → {g h d : List ℕ} → Filled l.shape g h d → (p : ℕ)
    → {k : ℕ} → (k ≡ entry_number l.shape p l.place.index) × (k < entries l.shape)
    → {x : ℕ} → x ≡ word_in d k → x ≡ word_at l.shape (tables_in l.shape g h d) l.number p
unfolding word_at tables_in
entry_word {l} v {d = d} f p n e = word_read f n.1 e ∙ ap (λ (k : ℕ). get_or (numbers 8 (entries l.shape) d) k 0) (n.0 ∙ number_is v p)

module _ {l : Line} (v : Placed l) (b : Bytes) (fits : Fitting l.shape b) {owners : ℕ}
    (mask : owners ≡ ports_from (owns l.shape (tables_in l.shape b.tags b.states b.words) l.number) 0 l.shape.ports) where
  -- There is no owner.
  pub supplied_memory : owners ≡ 0 → {w : ℕ} → w ≡ word_in b.memory l.number → w ≡ word_supplied l.shape (model_in l.shape b) l.number
  unfolding word_supplied seen word_at tables_in model_in
  supplied_memory z e = memory_word fits v.below e ∙ found_none _ _ mask _ _ z

  module _ (some : owners ≡ 0 → ⊥) {p : ℕ} (lowest : p ≡ count_trailing_zeros 64 owners) where
    -- The lowest owner is one of the ports.
    pub owner_below : p < l.shape.ports
    owner_below = (first_of _ 0 _ mask (omega (arith, few v)) some lowest).below

    pub supplied_owner : {k : ℕ} → (k ≡ entry_number l.shape p l.place.index) × (k < entries l.shape) → {w : ℕ} → w ≡ word_in b.words k
        → w ≡ word_supplied l.shape (model_in l.shape b) l.number
    unfolding word_supplied seen word_at tables_in model_in
    supplied_owner n e = entry_word v fits.filled p n e ∙ found_first _ _ mask _ (memory_at (model_in l.shape b) l.number) (omega (arith, few v)) some lowest
