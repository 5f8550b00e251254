-- What the two rule tables keep, state by state: each fact is one test that is computed over all its cases, but for what rewrites do, which is an
-- equation by cases. Assumes nothing.
use mathlib.Core.Path.{◌≡◌, refl}
use mathlib.Core.Bool.{Bool, false, ◌&&◌, ◌||◌, not}
use Rattle.protocol.specs.declared.state.Mode.{Mode}
use Rattle.protocol.specs.declared.state.Mode.TheVariants.{Through, Back}
use Rattle.protocol.specs.declared.state.State.{State}
use Rattle.protocol.specs.declared.state.State.TheVariants.{I, S, E, O, M}
use Rattle.words.specs.declared.access.Outcome.{Outcome}
use Rattle.protocol.specs.declared.rules.Bus.{Bus}
use Rattle.protocol.specs.declared.rules.Bus.TheVariants.{Quiet, Share, Update, Invalidate, ShareOwned}
use Rattle.protocol.specs.declared.rules.Rule.{Rule}
use Rattle.words.specs.Bools.{implies}
use Rattle.protocol.specs.State.{valid, owner, exclusive, is_o, mode_of, same_mode, is_through}
use Rattle.words.specs.Access.{writes}
use Rattle.protocol.specs.Rules.{rule, flush_rule, snooped, updates, RewritesSay}
use Rattle.words.proofs.Bools.{Is}
use Rattle.words.proofs.Effects.{alters}
use Rattle.protocol.proofs.Finite.{for_bools, for_modes, for_outcomes, for_states, at_bool, at_mode, at_outcome, at_state, at_bus}

-- Two ports may hold one line in these states: equal modes, neither E nor M, and one O at most. A port in I goes with any.
abbrev pub compatible : State → State → Bool
compatible x y = implies (valid x && valid y) (same_mode (mode_of x) (mode_of y) && not (exclusive x) && not (exclusive y) && not (is_o x && is_o y))

-- What is known of a port that sees the line in state s and another that sees it in t: the two are compatible, and the line is shared
-- or dirty if t says so, and dirty if s says so.
abbrev pub known : Bool → Bool → State → State → Bool
known shared dirty s t = compatible s t && implies (valid t) shared && implies (owner t) dirty && implies (owner s) dirty

-- A test of a rule, of the states before, and of the other's state u after.
abbrev pub Test : Type 0
Test = Outcome → Mode → Bool → Rule → State → State → State → Bool

abbrev pub tested : Test → Outcome → Mode → Bool → Bool → State → State → Bool
tested q k m shared dirty s t =
    implies (known shared dirty s t) (q k m dirty (rule k m shared dirty s) s t (snooped (rule k m shared dirty s).bus t))

unfoldable pub everywhere : Test → Bool
everywhere q = for_outcomes (λ k. for_modes (λ m. for_bools (λ shared. for_bools (λ dirty. for_states (λ s. for_states (λ t. tested q k m shared dirty s t))))))

abbrev pub Kept : Test → Type 0
Kept q = (k : Outcome) (m : Mode) (shared dirty : Bool) (s t : State) → Is (tested q k m shared dirty s t)

pub kept : (q : Test) → Is (everywhere q) → Kept q
unfolding everywhere
kept q h k m shared dirty s t =
    at_state (λ t. tested q k m shared dirty s t)
    (at_state (λ s. for_states (λ t. tested q k m shared dirty s t))
    (at_bool (λ dirty. for_states (λ s. for_states (λ t. tested q k m shared dirty s t)))
    (at_bool (λ shared. for_bools (λ dirty. for_states (λ s. for_states (λ t. tested q k m shared dirty s t))))
    (at_mode (λ m. for_bools (λ shared. for_bools (λ dirty. for_states (λ s. for_states (λ t. tested q k m shared dirty s t)))))
    (at_outcome (λ k. for_modes (λ m. for_bools (λ shared. for_bools (λ dirty. for_states (λ s. for_states (λ t. tested q k m shared dirty s t))))))
    h k) m) shared) dirty) s) t

-- The two are compatible afterwards.
abbrev pub paired : Test
paired k m dirty r s t u = compatible r.own u

pub pairs_kept : Kept paired
unfolding rule snooped everywhere
pairs_kept = kept paired refl

-- A holder that stays through a write that alters the word gets the new one.
abbrev pub informed : Test
informed k m dirty r s t u = implies (alters k && valid u) (updates r.bus)

pub informed_kept : Kept informed
unfolding rule snooped updates everywhere
informed_kept = kept informed refl

-- Where nothing is stored and no owner is left, the word was not altered and there was no owner.
abbrev pub clean : Test
clean k m dirty r s t u =
    implies (not r.stores && not (owner r.own) && not (owner u)) (not (alters k) && not (owner s) && not (owner t))

pub clean_kept : Kept clean
unfolding rule snooped everywhere
clean_kept = kept clean refl

-- After an access in write through, and after a read of a line that has no owner, there is no owner.
abbrev pub ownerless : Test
ownerless k m dirty r s t u = implies (is_through m || not (writes k) && not dirty) (not (owner r.own) && not (owner u))

pub ownerless_kept : Kept ownerless
unfolding rule snooped everywhere
ownerless_kept = kept ownerless refl

-- What a rewrite does, compared with a write.
pub rewrites_say : RewritesSay
unfolding rule
rewrites_say I m shared dirty = refl
rewrites_say (S n) m shared dirty = refl
rewrites_say (E n) Through shared dirty = refl
rewrites_say (E n) Back shared dirty = refl
rewrites_say O m shared dirty = refl
rewrites_say M m shared dirty = refl

-- Two that are compatible are so after the same command.
abbrev together : Bus → State → State → Bool
together b s t = implies (compatible s t) (compatible (snooped b s) (snooped b t))

pub snooped_together : (b : Bus) (s t : State) → Is (implies (compatible s t) (compatible (snooped b s) (snooped b t)))
unfolding snooped
snooped_together b s t =
    at_state (λ t. together b s t) (at_state (λ s. for_states (λ t. together b s t))
    (at_bus (λ b. for_states (λ s. for_states (λ t. together b s t))) refl b) s) t

pub snooped_i : (b : Bus) → snooped b I ≡ I
unfolding snooped
snooped_i Quiet = refl
snooped_i (Share m) = refl
snooped_i (Update m) = refl
snooped_i Invalidate = refl
snooped_i ShareOwned = refl

-- Nobody becomes a holder by a command.
pub snooped-valid : (b : Bus) (t : State) → Is (implies (valid (snooped b t)) (valid t))
unfolding snooped
snooped-valid b t = at_state (λ t. implies (valid (snooped b t)) (valid t)) (at_bus (λ b. for_states (λ t. implies (valid (snooped b t)) (valid t))) refl b) t

pub compatible_i : (s : State) → Is (compatible s I)
compatible_i s = at_state (λ s. compatible s I) refl s

pub compatible_sym : (s t : State) → Is (implies (compatible s t) (compatible t s))
compatible_sym s t =
    at_state (λ t. implies (compatible s t) (compatible t s)) (at_state (λ s. for_states (λ t. implies (compatible s t) (compatible t s))) refl s) t

-- A flush gives the line up, says nothing to others, and stores an owner's word.
pub flush_own : (s : State) → (flush_rule s).own ≡ I
unfolding flush_rule
flush_own s = refl

pub flush_bus : (s : State) → (flush_rule s).bus ≡ Quiet
unfolding flush_rule
flush_bus s = refl

pub flush_stores : (s : State) → (flush_rule s).stores ≡ owner s
unfolding flush_rule
flush_stores s = refl

-- A quiet bus changes no holder and hands no word on.
pub quiet_same : (t : State) → snooped Quiet t ≡ t
unfolding snooped
quiet_same t = refl

pub quiet_keeps : updates Quiet ≡ false
unfolding updates
quiet_keeps = refl
