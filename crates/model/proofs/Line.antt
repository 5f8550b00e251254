-- One line, seen by n ports in the states st with the words wd: what the audit says of it, and that the rules keep it. Assumes nothing.
use Prim.Native.Nat.{ℕ, ◌<◌}
use mathlib.Core.Path.{◌≡◌, refl, sym, ◌∙◌}
use mathlib.Core.Logic.{◌≢◌}
use mathlib.Core.Bool.{Bool, cond, ◌&&◌, ◌||◌, not, false≢true}
use native.Mathlib.Decide.{ℕ_discrete}
use lib.Dec.{eqb}
use borrow.Author.Tests.{ne_eqb}
use Rattle.protocol.specs.declared.state.Mode.{Mode}
use Rattle.protocol.specs.declared.state.State.{State}
use Rattle.protocol.specs.declared.state.State.TheVariants.{I}
use Rattle.words.specs.declared.access.Outcome.{Outcome}
use Rattle.protocol.specs.declared.rules.Rule.{Rule}
use Rattle.protocol.specs.State.{valid, owner, is_through}
use Rattle.words.specs.Access.{writes}
use Rattle.protocol.specs.Rules.{rule, snooped, updates}
use Rattle.words.proofs.Bools.{Is, mp, imp, and_l, and_r, both, contra, by_bool, by_cond}
use Rattle.words.proofs.Effects.{alters}
use Rattle.protocol.proofs.States.{owner-valid}
use Rattle.model.specs.Below.{any_below, lowest, at_or}
use Rattle.model.proofs.Below.{any_below_lem, below_none, lowest-cases, lowest_gives}
use Rattle.protocol.proofs.Kept.{compatible, known, pairs_kept, informed_kept, clean_kept, ownerless_kept, snooped_together, snooped-valid}
use Rattle.protocol.proofs.Kept.{snooped_i, compatible_i, compatible_sym}

abbrev pub Unowned : ℕ → (ℕ → State) → Type 0
Unowned n st = (p : ℕ) → p < n → Is (not (owner (st p)))

-- The line is good at the word w: holders have w, any two are compatible, and with no owner memory has w too.
pub record Good (n : ℕ) (st : ℕ → State) (wd : ℕ → ℕ) (mem w : ℕ) : Type 0 where
  pub words : (p : ℕ) → p < n → Is (valid (st p)) → wd p ≡ w
  pub pairs : (p q : ℕ) → p < n → q < n → p ≢ q → Is (compatible (st p) (st q))
  pub clean : Unowned n st → mem ≡ w

-- Another port than i holds the line; some port owns it.
abbrev pub shared_by : (ℕ → State) → ℕ → ℕ → Bool
shared_by st i n = any_below (λ p. not (eqb p i) && valid (st p)) n

abbrev pub owned_by : (ℕ → State) → ℕ → Bool
owned_by st n = any_below (λ p. owner (st p)) n

-- The line after rule r by port i gave it the word w. Another port's word is told only where the port still holds the line.
pub record After (n i : ℕ) (r : Rule) (w : ℕ) (st : ℕ → State) (wd : ℕ → ℕ) (mem : ℕ) (st' : ℕ → State) (wd' : ℕ → ℕ)
    (mem' : ℕ) : Type 0 where
  pub own : st' i ≡ r.own
  pub others : (q : ℕ) → q < n → q ≢ i → st' q ≡ snooped r.bus (st q)
  pub word : wd' i ≡ w
  pub words : (q : ℕ) → q < n → q ≢ i → Is (valid (st' q)) → wd' q ≡ cond (updates r.bus) w (wd q)
  pub stored : Is r.stores → mem' ≡ w
  pub unstored : Is (not r.stores) → mem' ≡ mem

-- The lowest owner's word, or memory's where there is none, is the line's.
pub word_supplied_lem : (n : ℕ) (st : ℕ → State) (wd : ℕ → ℕ) (mem w : ℕ) → Good n st wd mem w → at_or wd mem (lowest (λ p. owner (st p)) n) ≡ w
word_supplied_lem n st wd mem w good =
    lowest_gives (λ p. owner (st p)) wd mem w n (λ p h o. good.words p h (owner-valid (st p) o)) (λ u. good.clean (below_none (λ p. owner (st p)) n u))

module _ (n i : ℕ) (st : ℕ → State) (wd : ℕ → ℕ) (mem w : ℕ) (inside : i < n) (good : Good n st wd mem w) where
  -- A port finds the line's word.
  pub word_found_lem : cond (valid (st i)) (wd i) (at_or wd mem (lowest (λ p. owner (st p)) n)) ≡ w
  word_found_lem = by_cond (λ x. x ≡ w) (valid (st i)) _ _ (good.words i inside) (λ _. word_supplied_lem n st wd mem w good)

  module _ (k : Outcome) (m : Mode) where
    abbrev the_rule : Rule
    the_rule = rule k m (shared_by st i n) (owned_by st n) (st i)

    knowing : (t : State) → Is (compatible (st i) t) → (Is (valid t) → Is (shared_by st i n)) → (Is (owner t) → Is (owned_by st n))
        → Is (known (shared_by st i n) (owned_by st n) (st i) t)
    knowing t c v o = both (both (both c (imp v)) (imp o)) (imp (any_below_lem (λ p. owner (st p)) n i inside))

    knows : (q : ℕ) → q < n → q ≢ i → Is (known (shared_by st i n) (owned_by st n) (st i) (st q))
    knows q h d =
        knowing (st q) (good.pairs i q inside h (λ e. d (sym e)))
        (λ v. any_below_lem (λ p. not (eqb p i) && valid (st p)) n q h (rw (ne_eqb q i d) v))
        (any_below_lem (λ p. owner (st p)) n q h)

    knows_none : Is (known (shared_by st i n) (owned_by st n) (st i) I)
    knows_none = knowing I (compatible_i (st i)) (λ x. absurd (false≢true x)) (λ x. absurd (false≢true x))

    module _ (w' : ℕ) (st' : ℕ → State) (wd' : ℕ → ℕ) (mem' : ℕ) (after : After n i the_rule w' st wd mem st' wd' mem') where
      own_pair : (q : ℕ) → q < n → q ≢ i → Is (compatible (st' i) (st' q))
      own_pair q h d = rw (after.own, after.others q h d) (mp (pairs_kept k m (shared_by st i n) (owned_by st n) (st i) (st q)) (knows q h d))

      other_pair : (p q : ℕ) → p < n → q < n → p ≢ q → p ≢ i → q ≢ i → Is (compatible (st' p) (st' q))
      other_pair p q hp hq d dp dq =
          rw (after.others p hp dp, after.others q hq dq) (mp (snooped_together the_rule.bus (st p) (st q)) (good.pairs p q hp hq d))

      pairs_after : (p q : ℕ) → p < n → q < n → p ≢ q → Is (compatible (st' p) (st' q))
      pairs_after p q hp hq d =
          elim (ℕ_discrete p i) [
            | yes e ↦ rw e (own_pair q hq (λ f. d (e ∙ sym f)))
            | no dp ↦ elim (ℕ_discrete q i) [
              | yes f ↦ rw f (mp (compatible_sym (st' i) (st' p)) (own_pair p hp dp))
              | no dq ↦ other_pair p q hp hq d dp dq
            ]
          ]

      -- Another holder's word: the new one if it was handed on, and else the word was not altered.
      other_word_lem : (Is (not (alters k)) → w' ≡ w) → (q : ℕ) → q < n → q ≢ i → Is (valid (st' q)) → wd' q ≡ w'
      other_word_lem same q h d v =
          let now : Is (valid (snooped the_rule.bus (st q))) = rw (after.others q h d) at v in
          after.words q h d v ∙
          by_cond (λ x. x ≡ w') (updates the_rule.bus) w' (wd q) (λ _. refl)
          (λ g. good.words q h (mp (snooped-valid the_rule.bus (st q)) now) ∙ sym (same (contra (alters k)
          (λ x. mp (mp (informed_kept k m (shared_by st i n) (owned_by st n) (st i) (st q)) (knows q h d)) (both x now)) g)))

      words_after : (Is (not (alters k)) → w' ≡ w) → (p : ℕ) → p < n → Is (valid (st' p)) → wd' p ≡ w'
      words_after same p h v = elim (ℕ_discrete p i) [ yes e ↦ rw e after.word | no d ↦ other_word_lem same p h d v ]

      -- Nothing stored, and no owner left.
      was_clean : (t : State) → Is (known (shared_by st i n) (owned_by st n) (st i) t) → Is (not the_rule.stores) → Is (not (owner the_rule.own))
          → Is (not (owner (snooped the_rule.bus t))) → Is (not (alters k) && not (owner (st i)) && not (owner t))
      was_clean t kn x y z = mp (mp (clean_kept k m (shared_by st i n) (owned_by st n) (st i) t) kn) (both (both x y) z)

      clean_after : (Is (not (alters k)) → w' ≡ w) → Unowned n st' → mem' ≡ w'
      clean_after same u =
          by_bool the_rule.stores after.stored
          (λ x.
          let y : Is (not (owner the_rule.own)) = rw after.own at (u i inside) in
          let alone = was_clean I knows_none x y (rw (snooped_i the_rule.bus) refl) in
          after.unstored x ∙ good.clean (λ p h.
          elim (ℕ_discrete p i) [
            | yes e ↦ rw e (and_r (not (alters k)) (not (owner (st i))) (and_l _ _ alone))
            | no d ↦ and_r (not (alters k) && not (owner (st i))) _ (was_clean (st p) (knows p h d) x y (rw (after.others p h d) at (u p h)))
          ])
          ∙ sym (same (and_l (not (alters k)) (not (owner (st i))) (and_l _ _ alone))))

      pub access_good : (Is (not (alters k)) → w' ≡ w) → Good n st' wd' mem' w'
      access_good same = record { words = words_after same; pairs = pairs_after; clean = clean_after same }

      pub access_ownerless : Is (is_through m || not (writes k) && not (owned_by st n)) → Unowned n st'
      access_ownerless clear p h =
          elim (ℕ_discrete p i) [
            | yes e ↦ rw (e, after.own) (and_l _ _ (mp (mp (ownerless_kept k m (shared_by st i n) (owned_by st n) (st i) I) knows_none) clear))
            | no d ↦ rw (after.others p h d) (and_r (not (owner the_rule.own)) _
                (mp (mp (ownerless_kept k m (shared_by st i n) (owned_by st n) (st i) (st p)) (knows p h d)) clear))
          ]

-- A line that nobody holds.
pub free_good : (n : ℕ) (st : ℕ → State) (wd : ℕ → ℕ) (mem w : ℕ) → ((p : ℕ) → p < n → st p ≡ I) → mem ≡ w → Good n st wd mem w
free_good n st wd mem w none e = record {
  words = λ p h v. absurd (false≢true (rw (none p h) at v));
  pairs = λ p q hp hq d. rw (none p hp) refl;
  clean = λ _. e;
}

-- The line after the ports that `gone` names gave it up: memory got the word if one of them owned it.
module _ (n : ℕ) (gone : ℕ → Bool) (st : ℕ → State) (wd : ℕ → ℕ) (mem w : ℕ) (good : Good n st wd mem w)
    (st' : ℕ → State) (wd' : ℕ → ℕ) (mem' : ℕ)
    (given : (p : ℕ) → p < n → Is (gone p) → st' p ≡ I)
    (kept : (q : ℕ) → q < n → Is (not (gone q)) → st' q ≡ st q)
    (kept_word : (q : ℕ) → q < n → Is (not (gone q)) → Is (valid (st q)) → wd' q ≡ wd q)
    (stored : (p : ℕ) → p < n → Is (gone p) → Is (owner (st p)) → mem' ≡ w)
    (unstored : ((p : ℕ) → p < n → Is (gone p) → Is (not (owner (st p)))) → mem' ≡ mem) where
  gone_words : (p : ℕ) → p < n → Is (valid (st' p)) → wd' p ≡ w
  gone_words p h v =
      by_bool (gone p) (λ g. absurd (false≢true (rw (given p h g) at v)))
      (λ k. let was : Is (valid (st p)) = rw (kept p h k) at v in kept_word p h k was ∙ good.words p h was)

  gone_pairs : (p q : ℕ) → p < n → q < n → p ≢ q → Is (compatible (st' p) (st' q))
  gone_pairs p q hp hq d =
      by_bool (gone p) (λ g. rw (given p hp g) refl)
      (λ kp. by_bool (gone q) (λ g. rw (given q hq g) (compatible_i (st' p))) (λ kq. rw (kept p hp kp, kept q hq kq) (good.pairs p q hp hq d)))

  -- No owner among those that gave it up: as before, or one, whose word memory got.
  gone_clean : Unowned n st' → mem' ≡ w
  gone_clean u =
      lowest-cases (λ _. mem' ≡ w) (λ p. gone p && owner (st p)) n (λ p h x. stored p h (and_l (gone p) _ x) (and_r (gone p) _ x))
      (λ none.
      let clean : (p : ℕ) → p < n → Is (gone p) → Is (not (owner (st p))) =
      λ p h g. rw g at (below_none (λ p. gone p && owner (st p)) n none p h) in
      unstored clean ∙ good.clean (λ p h. by_bool (gone p) (clean p h) (λ k. rw (kept p h k) at (u p h))))

  pub gone_good : Good n st' wd' mem' w
  gone_good = record { words = gone_words; pairs = gone_pairs; clean = gone_clean }
