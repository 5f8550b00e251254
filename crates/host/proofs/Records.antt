-- Any list of calls on one record: each total in it is its sum over the answers, and what the calls leave beside it. Assumes nothing.
use Prim.Native.Nat.{ℕ, ◌*◌, ◌^◌, ◌<◌}
use mathlib.Core.Path.{◌≡◌, refl, sym, ap, ◌∙◌}
use mathlib.Core.Bool.{true, false}
use mathlib.Core.List.{List, [], ◌∷◌}
use native.Mathlib.Omega.{arith}
use native.Mathlib.Decide.{ℕ_discrete}
use lib.Dec.{eqb, ltb}
use lib.ListN.{get_or, length}
use borrow.Author.Tests.{eq-eqb, ltb-true, ltb-false, not-true}
use Rattle.words.proofs.Bools.{and_all, by_bool}
use Rattle.endian.specs.Little.{number, numbers}
use Rattle.endian.proofs.Little.{length-numbers, numbers_back, length-encoded}
use Rattle.ports.specs.Bytes.{Bytes}
use Rattle.model.specs.declared.answer.Answer.{Answer}
use Rattle.model.specs.Order.{kind_of}
use Rattle.model.specs.Step.{refused}
use Rattle.counters.specs.Totals.{Totals, places, zeros, full, totals_after, Few, step_totals, record_length, totals_in, record_of}
use Rattle.counters.specs.Run.{answered}
use Rattle.counters.proofs.Places.{room_at}
use Rattle.counters.proofs.Sums.{Adds, adds_none, adds_answer, after_most, after_length, beyond, Grows, grows_none, grows_more, from_zeros}
use Rattle.host.specs.Host.{host_refusal, refusal_put, host_step}
use Rattle.host.specs.Totals.{record_refusal, record_refused, HostedTotals, host_step_totals}
use Rattle.host.specs.Totals.{HostCall, leaves, answer_to, AnswerShown, RecordBeside, answers_on, record_on, zero_record, RecordsAreSums}
use Rattle.host.proofs.Totals.{step_answer, step_counts, answer_not_nine, record_misfit, record_full, call_counted}

-- Totals with an answer counted, written and read again.
read_again : (n : Totals) (kind : ℕ) (a : Answer) → length n ≡ places → full n ≡ false → Few kind a
    → totals_in (record_of (totals_after n kind a)) ≡ totals_after n kind a
read_again n kind a l f few =
    let e : length (totals_after n kind a) ≡ places = after_length n kind a l few ∙ l in
    ap (λ (k : ℕ). numbers 8 k (record_of (totals_after n kind a))) (sym e) ∙ numbers_back 8 (totals_after n kind a) fits
  where
    fits : (k : ℕ) → get_or (totals_after n kind a) k 0 < 256 ^ 8
    fits k =
        by_bool (ltb k places)
        (λ b. omega (arith, after_most n kind a l few k, room_at n f k (ltb-true k places b)))
        (λ b. omega (arith, after_most n kind a l few k, beyond n k (rw l (ltb-false k places (not-true _ b)))))

module _ (c : HostCall) (bs : List ℕ) (h : length bs ≡ record_length) where
  abbrev kind : ℕ
  kind = kind_of c.order

  abbrev answer : Answer
  answer = step_answer c.shape c.order c.lent c.out

  -- No room: the record stays, and the answer is 9.
  full-leaves : full (totals_in bs) ≡ true → ((leaves c bs).totals ≡ bs) × (answer_to c bs ≡ refused 9)
  unfolding host_step_totals record_refusal record_refused answer_to
  full-leaves f = (rw (eq-eqb (length bs) record_length h, f), rw (eq-eqb (length bs) record_length h, f))

  -- Room: the answer is that without a record, and is counted.
  room_answers : full (totals_in bs) ≡ false → answer_to c bs ≡ answer
  unfolding record_refusal answer_to step_totals
  room_answers f = rw (eq-eqb (length bs) record_length h, f, and_all (eqb (length c.out) 40))

  room_leaves : full (totals_in bs) ≡ false → (leaves c bs).totals ≡ record_of (totals_after (totals_in bs) kind answer)
  room_leaves f =
      sym (ap (λ (x : HostedTotals). x.totals) (call_counted c.shape c.order c.lent c.out bs (eq-eqb (length bs) record_length h) f))

  call_adds : Adds (totals_in bs) (totals_in (leaves c bs).totals) (answered kind (answer_to c bs)) × (length (leaves c bs).totals ≡ record_length)
  call_adds =
      by_bool (full (totals_in bs))
      (λ f. let e = full-leaves f in (rw (e.0, e.1) (adds_none (totals_in bs) kind), rw e.0 h))
      (λ y. let f = not-true (full (totals_in bs)) y in
      let few = step_counts c.shape c.order c.lent c.out in
      let l = length-numbers 8 places bs in (
        rw (room_leaves f, room_answers f, read_again (totals_in bs) kind answer l f few)
            (adds_answer (totals_in bs) kind answer l few (answer_not_nine c.shape c.order c.lent c.out)),
        rw (room_leaves f) (length-encoded 8 (totals_after (totals_in bs) kind answer) ∙ ap (λ (k : ℕ). 8 * k) (after_length (totals_in bs) kind answer l few ∙ l)),
      ))

records_grow : (cs : List HostCall) (bs : List ℕ) → length bs ≡ record_length → Grows (totals_in bs) (totals_in (record_on cs bs)) (answers_on cs bs)
unfolding record_on answers_on
records_grow [] bs h = grows_none (totals_in bs)
records_grow (c ∷ cs) bs h = let u = call_adds c bs h in grows_more u.0 (records_grow cs (leaves c bs).totals u.1)

zero_totals : totals_in zero_record ≡ zeros
unfolding numbers number
zero_totals = refl

pub records_are_sums : RecordsAreSums
records_are_sums cs = from_zeros (rw zero_totals at (records_grow cs zero_record refl))

pub answer_shown : AnswerShown
unfolding host_step_totals answer_to refusal_put
answer_shown c bs =
    by_bool (eqb (record_refusal c.shape c.lent c.out bs) 0)
    (λ z. (rw z, λ _. rw z))
    (λ z. let y = not-true (eqb (record_refusal c.shape c.lent c.out bs) 0) z in (rw y, λ w. rw (y, eq-eqb (length c.out) 40 w)))

pub record_beside : RecordBeside
record_beside c bs = (same, other)
  where
    same : length bs ≡ record_length → full (totals_in bs) ≡ false → (leaves c bs).hosted ≡ host_step c.shape c.order c.lent c.out
    same h f =
        sym (ap (λ (x : HostedTotals). x.hosted) (call_counted c.shape c.order c.lent c.out bs (eq-eqb (length bs) record_length h) f))

    lent_of : HostedTotals → Bytes
    lent_of x = x.hosted.lent

    other : (length bs ≡ record_length → full (totals_in bs) ≡ true) → (leaves c bs).hosted.lent ≡ c.lent
    other g =
        elim (ℕ_discrete (length bs) record_length) [
          | yes h ↦ sym (ap lent_of (record_full c.shape c.order c.lent c.out bs h (g h) {out' = refusal_put 9 c.out} refl))
          | no d ↦ sym (ap lent_of (record_misfit c.shape c.order c.lent c.out bs d {n = host_refusal c.shape c.lent false} refl
              {out' = refusal_put (host_refusal c.shape c.lent false) c.out} refl))
        ]
