-- A decision as the code makes it is `decided`. Assumes nothing.
use Prim.Native.Nat.{ℕ, ◌+◌, ◌*◌, ◌<◌}
use mathlib.Core.Path.{◌≡◌, ap, sym, ◌∙◌}
use mathlib.Core.Bool.{Bool, cond, ◌&&◌, not}
use mathlib.Core.List.{List}
use lib.ListN.{get_or}
use lib.Dec.{eqb}
use borrow.Author.Tests.{not-true}
use Rattle.std.specs.Prelude.{Option}
use Rattle.std.specs.Bool.{then_some}
use Rattle.decision.specs.declared.Store.{Store}
use Rattle.words.specs.declared.access.Access.{Access}
use Rattle.words.specs.declared.access.Effect.{Effect}
use Rattle.words.specs.Bools.{bit}
use Rattle.words.specs.Access.{effect_at}
use Rattle.words.proofs.Bools.{by_bool}
use Rattle.protocol.specs.declared.state.Mode.{Mode}
use Rattle.protocol.specs.declared.state.State.TheVariants.{I}
use Rattle.protocol.specs.declared.state.State.{State}
use Rattle.protocol.specs.declared.rules.Rule.{Rule}
use Rattle.protocol.specs.State.{code, state_of, or_invalid, owner}
use Rattle.protocol.specs.Rules.{rule}
use Rattle.protocol.proofs.States.{not_valid}
use Rattle.shape.specs.declared.Shape.{Shape}
use Rattle.model.specs.declared.answer.Answer.{Answer}
use Rattle.shape.specs.Shape.{entry_number, entry_of}
use Rattle.model.specs.Tables.{Model, state_at, home_at, seen, word_at, holds, dirty}
use Rattle.model.specs.Step.{accepted, word_supplied, shared, word_found, fetches, evicts_owner, access_rule}
use Rattle.model.specs.Step.{accessed}
use Rattle.model.proofs.Entries.{seen_tag, seen_here, home_is}
use Rattle.ports.specs.declared.line.Line.{Line}
use Rattle.ports.specs.declared.entry.Entry.{Entry}
use Rattle.ports.specs.Bytes.{bytes, model_in, tables_in}
use Rattle.ports.specs.Entry.{entry_at}
use Rattle.ports.specs.Line.{Placed}
use Rattle.ports.specs.Masks.{ports_from}
use Rattle.ports.proofs.Masks.{mask_any}
use Rattle.ports.proofs.Places.{some, index_is, tag_is, number_is}
use Rattle.decision.specs.declared.Decision.{Decision}
use Rattle.decision.specs.Decision.{other, decided}

-- The state that a port sees: its own entry's on a hit, and I on a miss.
hit_state : (s : Shape) (t : Model) (i a : ℕ)
    → cond (holds s t a i) (or_invalid (state_of (get_or t.states (entry_of s a i) 0))) I ≡ seen s t a i
hit_state s t i a =
    by_bool (holds s t a i) (λ v. rw v (sym (seen_here s t a i (seen_tag s t a i v))))
    (λ v. rw (not-true (holds s t a i) v) (sym (not_valid (seen s t a i) v)))

-- Another port holds the line exactly where the mask of the other holders isn't 0.
shared_any : (s : Shape) (t : Model) (i a : ℕ) → not (eqb (ports_from (other s t i a) 0 s.ports) 0) ≡ shared s t i a
unfolding shared
shared_any s t i a = mask_any (other s t i a) s.ports

module _ {l : Line} (v : Placed l) (g h d : List ℕ) (i : ℕ) (port : i < l.shape.ports) where
  abbrev s : Shape
  s = l.shape

  abbrev a : ℕ
  a = l.number

  abbrev t' : Model
  t' = tables_in l.shape g h d

  module _ {k : ℕ} (ek : k ≡ entry_number s i l.place.index) {e : Entry} (ee : e ≡ entry_at t' k) where
    entry_own : e ≡ entry_at t' (entry_of s a i)
    entry_own = ee ∙ ap (entry_at t') (ek ∙ number_is v i)

    home_own : {home : ℕ} → home ≡ e.tag * s.sets + l.place.index → home ≡ home_at s t' (entry_of s a i)
    unfolding entry_at
    home_own eh = eh ∙ rw (entry_own, index_is v) (sym (home_is s (some v) t' a i))

    module _ {o : Bool} (eo : o ≡ owner (or_invalid (state_of e.byte))) where
      owner_own : o ≡ owner (state_at t' (entry_of s a i))
      unfolding entry_at
      owner_own = eo ∙ rw entry_own

      -- The decision, from what the code has found out: on whether it is a hit, the others' mask and whether the line is dirty; the word
      -- found, its effect, the own state and the rule; and the victim.
      pub decide_done : (m₀ : List ℕ) (acc : Access) (m : Mode) → {hit : Bool} → hit ≡ holds s t' a i → {others : ℕ}
          → others ≡ ports_from (other s t' i a) 0 s.ports → {dirt : Bool} → dirt ≡ dirty s t' a
          → {w : ℕ} → w ≡ cond hit e.word (word_supplied s (model_in s (bytes m₀ g h d)) a)
          → {k : Effect} → k ≡ effect_at acc w
          → {x : State} → x ≡ cond hit (or_invalid (state_of e.byte)) I
          → {r : Rule} → r ≡ rule k.outcome m (not (eqb others 0)) dirt x
          → {home : ℕ} → home ≡ e.tag * s.sets + l.place.index
          → {n : Answer} → n ≡ accepted k.value (bit k.swapped) (bit (not hit && not dirt)) (bit (not hit && o) + bit r.stores)
          → {x₁ x₂ : Option Store} → x₁ ≡ then_some (not hit && o) (record { line = home; word = e.word })
          → x₂ ≡ then_some r.stores (record { line = a; word = k.word })
          → {own : ℕ} → own ≡ code r.own
          → ◌≡◌ {A = Decision} (record {
            entry = record { tag = l.place.tag; byte = own; word = k.word };
            others = others;
            bus = r.bus;
            victim = record { line = home; word = e.word };
            evicted = x₁;
            stored = x₂;
            answer = n;
          }) (decided s (model_in s (bytes m₀ g h d)) i a acc m)
      unfolding entry_at decided accessed word_found fetches evicts_owner shared dirty access_rule word_at seen tables_in model_in
      decide_done m₀ acc m hh {others} ho hd {w} hw {k} hk {x} hx {r} hr {home} hm hn h₁ h₂ {own} hb =
          let es : not (eqb others 0) ≡ shared s t' i a = rw ho (shared_any s t' i a) in
          let ex : x ≡ seen s t' a i = rw (hx, hh, entry_own) (hit_state s t' i a) in
          rw (h₁, h₂, hn, hb, hr, hk, hw, es, ho, hd, ex, hh, owner_own, home_own hm, tag_is v, entry_own)
