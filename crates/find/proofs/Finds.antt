-- Finding and the view, one law for each return; and what finding names is there. Assumes nothing.
use Prim.Native.Nat.{ℕ, ◌+◌, ◌-◌, ◌<◌, ◌≤◌}
use mathlib.Core.Path.{◌≡◌, refl, ap, sym, subst, ◌∙◌}
use mathlib.Core.Bool.{Bool, true, false}
use mathlib.Core.List.{List, [], ◌∷◌}
use lib.ListN.{get_or, length, take, drop}
use lib.Seq.{drop-cons}
use lib.Dec.{eqb, leb}
use native.Mathlib.Omega.{arith}
use borrow.Author.Tests.{ne_eqb, le-leb, lt-leb, eqb-true, leb-false, not-true}
use Rattle.words.proofs.Bools.{by_cond}
use Rattle.refusals.specs.declared.Refusal.{Refusal}
use Rattle.refusals.specs.Numbers.{number}
use Rattle.refusals.proofs.Numbers.{some_number}
use Rattle.shape.specs.declared.Shape.{Shape}
use Rattle.shape.specs.declared.Place.{Place}
use Rattle.shape.specs.Shape.{refusal_of, entry_number, place_of}
use Rattle.model.specs.Below.{lowest}
use Rattle.model.specs.Tables.{Model, model, lent_refusal, sound, seen, word_at, memory_at, holds, column_sound}
use Rattle.model.specs.Find.{Found, Refused, Holder, Memory}
use Rattle.model.specs.Find.{holder_or, find, words_of, view}
use Rattle.model.proofs.Below.{lowest-cases}
use Rattle.model.proofs.Lent.{Lent, lent_facts}
use Rattle.find.proofs.Links.{number_is}

-- The refusal of what is lent.
abbrev pub misfit : Shape → Model → ℕ
misfit s t = refusal_of s (length t.memory) (length t.tags) (length t.states) (length t.words)

module _ (s : Shape) (t : Model) (a : ℕ) where
  refusal_is : misfit s t ≡ lent_refusal s t
  unfolding lent_refusal
  refusal_is = refl

  pub find_misfit : (r : Refusal) → number r ≡ misfit s t → Refused (number r) ≡ find s t a
  unfolding find
  find_misfit r e = rw (← refusal_is, ← e, ne_eqb (number r) 0 (some_number r))

  module _ (e : 0 ≡ misfit s t) where
    none : eqb (lent_refusal s t) 0 ≡ true
    none = rw (← refusal_is, ← e)

    pub find_far : s.lines ≤ a → Refused 6 ≡ find s t a
    unfolding find
    find_far h = rw (none, le-leb _ _ h)

    module _ (h : a < s.lines) {v : Bool} (ev : v ≡ column_sound s (model [] t.tags t.states []) a) where
      column : v ≡ column_sound s t a
      unfolding column_sound sound
      column = ev

      pub find_unsound : v ≡ false → Refused 8 ≡ find s t a
      unfolding find
      find_unsound u = rw (none, lt-leb _ _ h, ← column, u)

      pub find_first : {d : Found} → v ≡ true → d ≡ holder_or (lowest (holds s (model [] t.tags t.states []) a) s.ports)
          → d ≡ find s t a
      unfolding find seen
      find_first u q = rw (none, lt-leb _ _ h, ← column, u) q

-- What finding names is there.
pub record There (s : Shape) (t : Model) (a p : ℕ) : Type 0 where
  pub lent : Lent s t
  pub line : a < s.lines
  pub port : p < s.ports

abbrev Named : Shape → Model → ℕ → Found → Type 0
Named s t a (Refused n) = Unit {0}
Named s t a (Holder p) = There s t a p
Named s t a Memory = Lent s t × a < s.lines

module _ (s : Shape) (t : Model) (a : ℕ) where
  named : Named s t a (find s t a)
  unfolding find
  named =
      by_cond (Named s t a) (eqb (lent_refusal s t) 0) _ _
      (λ z. by_cond (Named s t a) (leb s.lines a) _ _ (λ _. tt)
      (λ h. by_cond (Named s t a) (column_sound s t a) _ _
      (λ _. lowest-cases (λ l. Named s t a (holder_or l)) (holds s t a) s.ports
      (λ p q _. record { lent = lent_facts s t (eqb-true _ _ z); line = leb-false _ _ (not-true _ h); port = q })
      (λ _. (lent_facts s t (eqb-true _ _ z), leb-false _ _ (not-true _ h))))
      (λ _. tt)))
      (λ _. tt)

  pub port_there : (p : ℕ) → Holder p ≡ find s t a → There s t a p
  port_there p f = subst (Named s t a) (sym f) named

  pub memory_there : Memory ≡ find s t a → Lent s t × a < s.lines
  memory_there f = subst (Named s t a) (sym f) named

  pub view_none : (n : ℕ) → Refused n ≡ find s t a → [] ≡ view s t a
  unfolding view
  view_none n f = ap (words_of s t a) f

  pub view_port : (p : ℕ) {x : Place} {k : ℕ} {l : List ℕ} → Holder p ≡ find s t a → x ≡ place_of s a → k ≡ entry_number s p x.index
      → l ≡ get_or t.words k 0 ∷ [] → l ≡ view s t a
  unfolding view word_at
  view_port p f ex n el = el ∙ ap (λ (k : ℕ). get_or t.words k 0 ∷ []) (number_is s a p ex n) ∙ ap (words_of s t a) f

  pub view_memory : {l : List ℕ} → Memory ≡ find s t a → l ≡ memory_at t a ∷ [] → l ≡ view s t a
  unfolding view
  view_memory f el = el ∙ ap (words_of s t a) f

pub in_memory : (s : Shape) (t : Model) (a : ℕ) → Lent s t × a < s.lines → a < length t.memory
in_memory s t a h = omega (arith, h.0.sizes.memory, h.1)

pub one_is : (l : List ℕ) (k : ℕ) → k < length l → take (k + 1 - k) (drop k l) ≡ get_or l k 0 ∷ []
one_is l k h = let e : k + 1 - k ≡ 1 = omega arith in rw (e, drop-cons l k 0 h)
