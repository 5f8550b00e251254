-- What is read of a shape's entries in bytes, and the audit of what they hold. Assumes nothing.
use Prim.Native.Nat.{ℕ, ◌<◌}
use mathlib.Core.Path.{◌≡◌, ap, sym, ◌∙◌}
use mathlib.Core.Bool.{Bool, true}
use mathlib.Core.List.{List}
use lib.ListN.{get_or, length}
use Rattle.protocol.specs.State.{state_of}
use Rattle.endian.specs.Little.{numbers}
use Rattle.endian.proofs.Little.{get-numbers}
use Rattle.shape.specs.declared.Shape.{Shape}
use Rattle.shape.specs.Shape.{in_range, ranges_end, memory_bytes, tags_bytes, states_bytes, data_bytes, entries, entry_number}
use Rattle.model.specs.Tables.{Model}
use Rattle.model.specs.Audit.{audit}
use Rattle.ports.specs.Bytes.{Bytes, bytes, model_in, tables_in, Fitting}
use Rattle.ports.specs.Entry.{tag_in, word_in}
use Rattle.ports.proofs.Bytes.{lent}
use Rattle.audit.specs.declared.Held.{Held}
use Rattle.audit.specs.Entries.{class_of, held_at, held_by, pair_passes, owns_at, columns_pass}
use Rattle.audit.proofs.Columns.{columns_audit}

-- What a test says of an entry by its number, it says of a port's entry at an index.
module _ (s : Shape) (q x : ℕ) {k : ℕ} (n : k ≡ entry_number s q x) {b : Bool} where
  pub pair_at : (t : Model) (e : Held) → b ≡ pair_passes e (held_at t k) → b ≡ pair_passes e (held_by s t x q)
  pair_at t e c = c ∙ ap (λ (k : ℕ). pair_passes e (held_at t k)) n

  pub owns_at_lem : (g h : List ℕ) (tag : ℕ) → b ≡ owns_at g h tag k → b ≡ owns_at g h tag (entry_number s q x)
  owns_at_lem g h tag c = c ∙ ap (owns_at g h tag) n

-- An entry read, and a tag by itself.
pub held_is : (s : Shape) (g h d : List ℕ) {k : ℕ} → k < entries s → {t n w : ℕ} → t ≡ tag_in g k
    → n ≡ class_of (state_of (get_or h k 0)) → w ≡ word_in d k
    → ◌≡◌ {A = Held} (record { tag = t; class = n; word = w }) (held_at (tables_in s g h d) k)
unfolding held_at tables_in
held_is s g h d {k} q et en ew = rw (et, en, ew, get-numbers 4 (entries s) k g q, get-numbers 8 (entries s) k d q)

pub tag_is : (n : ℕ) (g : List ℕ) {k : ℕ} → k < n → {t : ℕ} → t ≡ tag_in g k → get_or (numbers 4 n g) k 0 ≡ t
tag_is n g {k} q e = get-numbers 4 n k g q ∙ sym e

-- What is lent fits, by the facts about it.
pub fitting : {s : Shape} {m g h d : List ℕ} → in_range s ≡ true → ranges_end s ≡ true → length m ≡ memory_bytes s → length g ≡ tags_bytes s
    → length h ≡ states_bytes s → length d ≡ data_bytes s → Fitting s (bytes m g h d)
fitting r e m g h d = record { range = r; ends = e; memory_fits = m; filled = record { tags_fit = g; states_fit = h; words_fit = d } }

-- Every entry passes exactly where the audit says yes.
pub columns_say : (s : Shape) (b : Bytes) → Fitting s b → columns_pass s (model_in s b) ≡ audit s (model_in s b)
columns_say s b f = columns_audit s (model_in s b) (lent f)
