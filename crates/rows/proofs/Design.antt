-- The rows are the step: a design that takes the protocol from the rows does what each call does. Assumes nothing.
use Prim.Native.Nat.{ℕ, ◌+◌, ◌<◌}
use mathlib.Core.Path.{◌≡◌, refl, sym, ap, subst, ◌∙◌}
use mathlib.Core.Logic.{◌≢◌}
use mathlib.Core.Bool.{cond, ◌&&◌, not}
use mathlib.Core.List.{List}
use native.Mathlib.Omega.{arith}
use lib.ListN.{get_or, set}
use lib.Seq.{set-get_or}
use lib.Dec.{eqb}
use borrow.Author.Tests.{eqb-true, eqb-false, eq-eqb, ne_eqb, not-true}
use Rattle.std.specs.Prelude.{Option, Some, None}
use Rattle.protocol.specs.declared.state.State.{State}
use Rattle.words.specs.Bools.{bit}
use Rattle.words.specs.Word.{merge}
use Rattle.words.specs.declared.access.Access.{Access}
use Rattle.words.specs.declared.access.Outcome.TheVariants.{Reads}
use Rattle.words.specs.declared.access.Effect.{Effect}
use Rattle.words.specs.Access.{effect_at}
use Rattle.words.proofs.Bools.{Is, and_none, by_bool, by_cond}
use Rattle.protocol.specs.declared.state.Mode.{Mode}
use Rattle.protocol.specs.declared.rules.Rule.{Rule}
use Rattle.protocol.specs.declared.rules.Bus.TheVariants.{Invalidate}
use Rattle.protocol.specs.State.{code, state_of, is_state, or_invalid, owner, valid}
use Rattle.protocol.specs.Rules.{flush_rule, snooped, updates}
use Rattle.protocol.proofs.States.{not_valid, code-state_of}
use Rattle.shape.specs.declared.Shape.{Shape}
use Rattle.shape.specs.Shape.{entry_of}
use Rattle.shape.proofs.Bounds.{some_sets}
use Rattle.model.specs.declared.order.Call.{Call}
use Rattle.model.specs.declared.order.Call.TheVariants.{ByPort, Flush, DeviceRead, DeviceWrite}
use Rattle.model.specs.Order.{Asked}
use Rattle.model.specs.Order.{looks, There}
use Rattle.model.specs.Tables.{Model, lent_refusal, state_at, seen, word_at, holds, dirty, column_sound}
use Rattle.model.specs.Step.{Result, result, accepted, put_below, byte_answered, word_answered, shared, word_found, fetches, evicts_owner}
use Rattle.model.specs.Step.{byte_after, word_after, applied, access_rule, accessed, flushed, device_written, called, perform, step}
use Rattle.model.proofs.Entries.{entry_inj, seen_tag, seen_here}
use Rattle.model.proofs.Puts.{put_ext, put_id, own_last}
use Rattle.model.proofs.Lent.{Lent, lent_facts}
use Rattle.model.proofs.Decoded.{Sound, decode-sound}
use Rattle.rows.specs.Cases.{Case, device_write}
use Rattle.rows.specs.Cells.{source_of, reads_in, writes_in, row_of}
use Rattle.rows.specs.Orders.{sent, word_from, effect_here, access_case, cases_of, sum_over, heard_byte, heard_word}
use Rattle.rows.specs.Orders.{access_leaves, flush_leaves, write_leaves, designed}
use Rattle.rows.specs.Claims.{RowsAreStep}
use Rattle.rows.proofs.Cells.{says-bit, sent_own, sent_device, takes_says}
use Rattle.rows.proofs.Counts.{none_heard, access_sum, supplied_named, words_are_named}

-- A byte that is read as a state other than I is a state.
valid_state : (b : Option State) → Is (valid (or_invalid b)) → Is (is_state b)
valid_state (Some s) h = refl
valid_state None h = h

-- Models and results by their parts.
same_model : {m m' g g' h h' d d' : List ℕ} → m ≡ m' → g ≡ g' → h ≡ h' → d ≡ d'
    → ◌≡◌ {A = Model} (record { memory = m; tags = g; states = h; words = d }) (record { memory = m'; tags = g'; states = h'; words = d' })
same_model em eg eh ed = rw (em, eg, eh, ed)

same_result : {v s r r' w w' : ℕ} {t t' : Model} → r ≡ r' → w ≡ w' → t ≡ t' → result (accepted v s r w) t ≡ result (accepted v s r' w') t'
same_result er ew et = rw (er, ew, et)

module _ (s : Shape) (t : Model) (a : ℕ) where
  -- An access: it finds the word that the row names, and goes by the rule that the row has.
  module _ (i : ℕ) (m : Mode) (acc : Access) where
    abbrev eff : Effect
    eff = effect_here s t i a m acc

    here_found : eff ≡ effect_at acc (word_found s t i a)
    unfolding effect_here
    here_found = ap (effect_at acc) (sym (words_are_named s t i a Reads m))

    abbrev ruled : Rule
    ruled = access_rule s t i a m eff

    sent-ruled : sent (access_case s t i a m acc) ≡ ruled.bus
    unfolding access_rule
    sent-ruled = sent_own eff.outcome m (shared s t i a) (dirty s t a) (seen s t a i)

    byte_same : (p : ℕ) → cond (eqb p i) (row_of (access_case s t i a m acc)).next (heard_byte s t a (sent (access_case s t i a m acc)) p)
        ≡ byte_after s t i a ruled p
    unfolding byte_after byte_answered heard_byte row_of access_rule
    byte_same p = rw sent-ruled

    word_same : (p : ℕ) → cond (eqb p i) eff.word (heard_word s t a (sent (access_case s t i a m acc)) eff.word p)
        ≡ word_after s t i a ruled eff.word p
    unfolding word_after word_answered heard_word
    word_same p = rw (takes_says (sent (access_case s t i a m acc)) (seen s t a p), sent-ruled)

    leaves_same : Lent s t → access_leaves s t i a m acc ≡ applied s t i a ruled eff.word
    unfolding access_leaves applied evicts_owner row_of writes_in access_rule
    leaves_same lent =
        let inj = entry_inj s (some_sets s lent.range) a in
        same_model
        (rw (says-bit ruled.stores, says-bit (owner (state_at t (entry_of s a i)))))
        refl
        (put_ext (entry_of s a) inj _ _ s.ports t.states (λ p h. byte_same p))
        (put_ext (entry_of s a) inj _ _ s.ports t.words (λ p h. word_same p))

    reads_same : bit (fetches s t i a) ≡ sum_over (λ c. (row_of c).reads) (cases_of s t (ByPort acc m i) a)
    unfolding fetches row_of reads_in
    reads_same =
        sym (access_sum s t a (λ c. (row_of c).reads) (λ b u. refl) i m acc
        ∙ by_bool (holds s t a i) (λ h. rw h refl) (λ h. rw (not-true (holds s t a i) h) (omega arith)))

    writes_same : bit (evicts_owner s t i a) + bit ruled.stores ≡ sum_over (λ c. (row_of c).writes) (cases_of s t (ByPort acc m i) a)
    unfolding evicts_owner row_of writes_in access_rule
    writes_same =
        sym (access_sum s t a (λ c. (row_of c).writes) (λ b u. refl) i m acc
        ∙ by_bool (holds s t a i) (λ h. rw h (omega arith)) (λ h. rw (not-true (holds s t a i) h) (omega arith)))

    pub access_designed : Lent s t → accessed s t i a acc m ≡ designed s t (ByPort acc m i) a
    unfolding accessed designed
    access_designed lent = rw (sym here_found) (same_result reads_same writes_same (sym (leaves_same lent)))

  -- A flush. Where the port holds the line its entry alone changes: the other holders hear nothing, and their bytes are those of their states.
  module _ (i : ℕ) (there : i < s.ports) (lent : Lent s t) where
    abbrev inj : (p q : ℕ) → entry_of s a p ≡ entry_of s a q → p ≡ q
    inj = entry_inj s (some_sets s lent.range) a

    abbrev flushing : Rule
    flushing = flush_rule (seen s t a i)

    -- A holder's byte is the code of the state in which it is seen.
    held_byte : (p : ℕ) → Is (holds s t a p) → code (seen s t a p) ≡ get_or t.states (entry_of s a p) 0
    held_byte p h =
        let e = seen_here s t a p (seen_tag s t a p h) in
        let b = get_or t.states (entry_of s a p) 0 in
        ap code e ∙ code-state_of b (valid_state (state_of b) (subst (λ q. Is (valid q)) e h))

    abbrev byte_before : ℕ → ℕ
    byte_before p = get_or t.states (entry_of s a p) 0

    other_byte : (p : ℕ) → p ≢ i → byte_before p ≡ byte_after s t i a flushing p
    unfolding byte_after byte_answered flush_rule snooped
    other_byte p d =
        rw (ne_eqb p i d) (by_cond (λ z. byte_before p ≡ z) (holds s t a p) (code (seen s t a p)) (byte_before p) (λ h. sym (held_byte p h)) (λ _. refl))

    own_byte : code flushing.own ≡ byte_after s t i a flushing i
    unfolding byte_after
    own_byte = rw (eq-eqb i i refl)

    flush-bytes : put_below (entry_of s a) (byte_after s t i a flushing) s.ports t.states ≡ set t.states (entry_of s a i) (code flushing.own)
    flush-bytes =
        sym (ap (λ l. set l (entry_of s a i) (code flushing.own))
        (sym (put_id (entry_of s a) inj byte_before s.ports t.states (λ p h. refl)))
        ∙ own_last (entry_of s a) inj (byte_after s t i a flushing) s.ports t.states i (code flushing.own) there own_byte byte_before
        (λ p h d. other_byte p d))

    flush_words : put_below (entry_of s a) (word_after s t i a flushing (word_at s t a i)) s.ports t.words ≡ t.words
    unfolding word_after word_answered flush_rule updates word_at
    flush_words =
        put_id (entry_of s a) inj _ s.ports t.words (λ p h.
        by_cond (λ z. z ≡ get_or t.words (entry_of s a p) 0) (eqb p i) _ _ (λ e. rw (eqb-true p i e)) (λ _. rw (and_none (holds s t a p))))

    flush-leaves : Is (holds s t a i) → applied s t i a flushing (word_at s t a i) ≡ flush_leaves s t i a
    unfolding applied evicts_owner flush_leaves row_of writes_in
    flush-leaves h =
        rw h (same_model (rw (says-bit flushing.stores))
        (ap (set t.tags (entry_of s a i)) (sym (seen_tag s t a i h)) ∙ set-get_or t.tags (entry_of s a i) 0) flush-bytes flush_words)

    flush_away : Is (not (holds s t a i)) → flush_leaves s t i a ≡ t
    unfolding flush_leaves
    flush_away h = rw (not-true (holds s t a i) h)

    pub flush-designed : flushed s t i a ≡ designed s t (Flush i) a
    unfolding flushed flush_rule designed cases_of sum_over row_of reads_in writes_in
    flush-designed =
        by_bool (holds s t a i) (λ h. rw h (same_result refl (omega arith) (flush-leaves h)))
        (λ h. rw (not-true (holds s t a i) h) (same_result refl (rw (not_valid (seen s t a i) h) refl) (sym (flush_away h))))

  -- A device write.
  module _ (mask x : ℕ) (lent : Lent s t) where
    abbrev wrote : Case
    wrote = device_write (dirty s t a)

    write_byte : (p : ℕ) → byte_answered s t a (holds s t a) Invalidate p ≡ heard_byte s t a (sent wrote) p
    unfolding byte_answered heard_byte row_of
    write_byte p = rw (sent_device (dirty s t a)) refl

    write_word : (w p : ℕ) → heard_word s t a (sent wrote) w p ≡ word_at s t a p
    unfolding heard_word updates
    write_word w p = rw (takes_says (sent wrote) (seen s t a p), sent_device (dirty s t a), and_none (holds s t a p)) refl

    write-leaves : (device_written s t a mask x).after ≡ write_leaves s t a mask x
    unfolding device_written write_leaves row_of writes_in word_at
    write-leaves =
        let inj = entry_inj s (some_sets s lent.range) a in
        same_model (ap (λ w. set t.memory a (merge mask w x)) (supplied_named s t a 0)) refl
        (put_ext (entry_of s a) inj _ _ s.ports t.states (λ p h. write_byte p))
        (sym (put_id (entry_of s a) inj _ s.ports t.words (λ p h. write_word _ p)))

    pub write-designed : device_written s t a mask x ≡ designed s t (DeviceWrite mask x) a
    unfolding device_written designed cases_of sum_over row_of reads_in writes_in
    write-designed =
        same_result
        (omega (arith, none_heard (λ c. (row_of c).reads) (λ b u. refl) s t a (holds s t a) (sent wrote) s.ports))
        (omega (arith, none_heard (λ c. (row_of c).writes) (λ b u. refl) s t a (holds s t a) (sent wrote) s.ports)) write-leaves

pub call_designed : (s : Shape) (t : Model) (c : Call) (a : ℕ) → Lent s t → There s c a → called s t c a ≡ designed s t c a
unfolding called designed cases_of sum_over row_of reads_in writes_in source_of word_from
call_designed s t (ByPort acc m i) a lent there = access_designed s t a i m acc lent
call_designed s t (Flush i) a lent there = flush-designed s t a i there.0 lent
call_designed s t DeviceRead a lent there = refl
call_designed s t (DeviceWrite mask x) a lent there = write-designed s t a mask x lent

perform-designed : (s : Shape) (t : Model) (c : Call) (a : ℕ) → Lent s t → There s c a → (perform s t (Asked c a)).answer.refusal ≡ 0
    → perform s t (Asked c a) ≡ designed s t c a
unfolding perform
perform-designed s t c a lent there =
    by_cond (λ (r : Result). r.answer.refusal ≡ 0 → r ≡ designed s t c a) (looks c && not (column_sound s t a)) _ _
    (λ _ e. absurd (omega (arith, e))) (λ _ _. call_designed s t c a lent there)

pub rows_are_step : RowsAreStep
unfolding step
rows_are_step s t o c a d =
    by_cond (λ (r : Result). r.answer.refusal ≡ 0 → r ≡ designed s t c a) (eqb (lent_refusal s t) 0) _ _
    (λ ok. rw d (perform-designed s t c a (lent_facts s t (eqb-true _ _ ok)) (subst (Sound s) d (decode-sound s o))))
    (λ n z. absurd (eqb-false (lent_refusal s t) 0 (not-true _ n) z))
