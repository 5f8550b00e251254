-- Where a line's entries lie, and an entry read or put in bytes. Assumes nothing.
use Prim.Native.Nat.{ℕ, zero, ◌+◌, ◌*◌, ◌-◌, ◌/◌, ◌%◌, ◌^◌, ◌<◌, ◌≤◌}
use mathlib.Core.Path.{◌≡◌, refl, sym, ap, ◌∙◌}
use mathlib.Core.Bool.{true}
use mathlib.Core.List.{List}
use native.Mathlib.Omega.{arith}
use native.Mathlib.Nat.{mod-lt, div-add-mod', mul-le-mul, add-mul}
use borrow.Author.Tests.{ltb-true, lt-ltb}
use lib.ListN.{get_or, set}
use lib.Seq.{sets}
use Rattle.endian.specs.Little.{numbers, bytes_of}
use Rattle.endian.proofs.Little.{get-numbers, set-numbers}
use Rattle.shape.specs.declared.Shape.{Shape}
use Rattle.shape.specs.declared.Place.{Place}
use Rattle.shape.specs.Shape.{in_range, entries, entry_number, index_of, tag_of, entry_of, tag_limit, place_of}
use Rattle.shape.proofs.Bounds.{bounded, limit_is, some_sets}
use Rattle.model.proofs.Entries.{entry_lt}
use Rattle.ports.specs.declared.line.Line.{Line}
use Rattle.ports.specs.declared.entry.Entry.{Entry}
use Rattle.ports.specs.Bytes.{tables_in, Filled}
use Rattle.ports.specs.Entry.{tag_in, word_in, Room, entry_at, put_at}
use Rattle.ports.specs.Line.{line_of, Placed}
use Rattle.ports.proofs.Bytes.{model_eq}

module _ {l : Line} (v : Placed l) where
  pub some : zero < l.shape.sets
  some = some_sets l.shape v.range

  pub few : l.shape.ports ≤ 8
  few = (bounded l.shape v.range).ports

  pub ports_some : 1 ≤ l.shape.ports
  ports_some = (bounded l.shape v.range).some_ports

  pub index_is : l.place.index ≡ index_of l.shape l.number
  unfolding place_of
  index_is = ap (λ (x : Place). x.index) v.place

  pub tag_is : l.place.tag ≡ tag_of l.shape l.number
  unfolding place_of
  tag_is = ap (λ (x : Place). x.tag) v.place

  pub limit_at : l.place.limit ≡ tag_limit l.shape l.number
  unfolding place_of
  limit_at = ap (λ (x : Place). x.limit) v.place

  pub index_below : l.place.index < l.shape.sets
  index_below = rw index_is (mod-lt l.number some)

  pub sets_small : (l.shape.sets ≤ 64) × (l.place.index < l.shape.sets)
  sets_small = ((bounded l.shape v.range).sets-most, index_below)

  -- The line's own tag is below the limit.
  pub tag_below : l.place.tag < l.place.limit
  tag_below =
      let a = l.number in
      let s = l.shape in
      rw (tag_is, limit_at) (ltb-true _ _ (sym (limit_is (a / s.sets) s.sets (a % s.sets) s.lines (mod-lt a some)) ∙ rw
      (div-add-mod' a s.sets) (lt-ltb a s.lines v.below)))

  module _ (p : ℕ) where
    pub number_is : entry_number l.shape p l.place.index ≡ entry_of l.shape l.number p
    number_is = ap (entry_number l.shape p) index_is

    pub there : p < l.shape.ports → entry_number l.shape p l.place.index < entries l.shape
    there q = rw number_is (entry_lt l.shape some l.number p q)

    small : p < l.shape.ports → entry_number l.shape p l.place.index < 512
    small q = omega (arith, there q, (bounded l.shape v.range).entries-most)

-- The number that runs beside a loop over the ports: at port p it is that of the port's entry for the line, and the port's part of the tables
-- starts the index before it, at p * sets.
pub record Running (l : Line) (p k : ℕ) : Type 0 where
  pub number : k ≡ entry_of l.shape l.number p
  pub part : k - l.place.index ≡ p * l.shape.sets

module _ {l : Line} (v : Placed l) where
  running : (p : ℕ) {k : ℕ} → k ≡ entry_number l.shape p l.place.index → Running l p k
  running p e = record { number = e ∙ number_is v p; part = omega (arith, e) }

  at_entry : {p k : ℕ} → Running l p k → k ≡ entry_number l.shape p l.place.index
  at_entry {p} u = u.number ∙ sym (number_is v p)

  -- The entry is there, and its number fits.
  pub running_there : {p k : ℕ} → Running l p k → p < l.shape.ports → k < entries l.shape
  running_there {p} u q = rw (at_entry u) (there v p q)

  pub running_fits : {p k : ℕ} → Running l p k → p < l.shape.ports → k + l.shape.sets < 1024
  running_fits {p} u q = omega (arith, at_entry u, small v p q, (sets_small v).0)

  -- From the index on, n ports on and one port on: sets more for each.
  pub running_first : Running l 0 l.place.index
  running_first = running 0 (omega arith)

  pub running_on : (n : ℕ) {p k : ℕ} → Running l p k → {x : ℕ} → x ≡ n * l.shape.sets + k → Running l (p + n) x
  running_on n {p} u e = running (p + n) (omega (arith, e, at_entry u, add-mul p n l.shape.sets))

  pub running_next : {p k : ℕ} → Running l p k → Running l (p + 1) (k + l.shape.sets)
  running_next u = running_on 1 u (omega arith)

pub placed : (s : Shape) (a : ℕ) → in_range s ≡ true → a < s.lines → {l : Line} → l ≡ line_of s a → Placed l
unfolding line_of
placed s a r h e = rw e (record { range = r; below = h; place = refl })

-- A home line fits: a tag of 32 bits, at most 64 sets.
pub home_fits : (x n i : ℕ) → x < 2 ^ 32 → n ≤ 64 → i < n → x * n + i < 2 ^ 40
home_fits x n i h g q = let m : x * n ≤ 2 ^ 32 * 64 = mul-le-mul {n₂ = 2 ^ 32} (omega arith) g in omega arith

module _ {s : Shape} {g h d : List ℕ} (f : Filled s g h d) {k : ℕ} (q : k < entries s) where
  pub room : Room g h d k
  room = record { in_tags = omega (arith, f.tags_fit); in_states = omega (arith, f.states_fit); in_words = omega (arith, f.words_fit) }

  pub tag_read : {t : ℕ} → t ≡ tag_in g k → t ≡ get_or (numbers 4 (entries s) g) k 0
  tag_read e = e ∙ sym (get-numbers 4 (entries s) k g q)

  pub word_read : {x : ℕ} → x ≡ word_in d k → x ≡ get_or (numbers 8 (entries s) d) k 0
  word_read e = e ∙ sym (get-numbers 8 (entries s) k d q)

  -- An entry read, and an entry put.
  pub entry_is : {t b w : ℕ} → t ≡ tag_in g k → b ≡ get_or h k 0 → w ≡ word_in d k
      → ◌≡◌ {A = Entry} (record { tag = t; byte = b; word = w }) (entry_at (tables_in s g h d) k)
  unfolding entry_at tables_in
  entry_is et eb ew = rw (et, eb, ew, get-numbers 4 (entries s) k g q, get-numbers 8 (entries s) k d q)

  pub entry_put : (e : Entry) → e.tag < 2 ^ 32 → e.word < 2 ^ 64 → {g' h' d' : List ℕ}
      → g' ≡ sets g (4 * k) (bytes_of 4 e.tag) → h' ≡ set h k e.byte → d' ≡ sets d (8 * k) (bytes_of 8 e.word)
      → tables_in s g' h' d' ≡ put_at (tables_in s g h d) k e
  unfolding put_at tables_in
  entry_put e bt bw eg eh ed =
      rw (eg, eh, ed)
      (model_eq refl (set-numbers 4 (entries s) k e.tag g q (omega arith) (omega (arith, f.tags_fit))) refl
      (set-numbers 8 (entries s) k e.word d q (omega arith) (omega (arith, f.words_fit))))
