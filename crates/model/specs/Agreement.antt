-- The agreement of the model with the flat memory, as a statement: the one theorem over every list of orders. Its proof is `agreement` in
-- proofs/Theorem.antt.
use Rattle.std.specs.Prelude.{ℕ, ◌<◌, ◌≡◌, true, List, [], ◌∷◌, length}
use Rattle.shape.specs.declared.Shape.{Shape}
use Rattle.model.specs.declared.answer.Answer.{Answer}
use Rattle.model.specs.Order.{Order}
use Rattle.model.specs.Below.{lowest, at_or}
use Rattle.model.specs.Tables.{Model, lent_refusal, word_at, memory_at, holds, dirty}
use Rattle.model.specs.Step.{step}
use Rattle.model.specs.Fresh.{fresh}
use Rattle.model.specs.Audit.{audit}
use Rattle.model.specs.Flat.{Flat, FlatAnswer, word_in, mark_in, flat_step, flat_start}

-- The model's answer to an order is the flat memory's: refusal, value and swapped. A device read's value counts under mark 0 only. And
-- the refusal is below 8: no entry is found unsound.
pub record Agrees (x : Answer) (y : FlatAnswer) : Type 0 where
  pub refusal : x.refusal ≡ y.refusal
  pub value : y.compared ≡ true → x.value ≡ y.value
  pub swapped : x.swapped ≡ y.swapped
  pub below_8 : x.refusal < 8

-- Model t and flat memory f are fed a list of orders, each step getting what the step before left, also after a refusal. The audit
-- says yes before the first order and after each, and each answer agrees.
unfoldable pub AgreesOver : Shape → List Order → Model → Flat → Type 0
AgreesOver s [] t f = audit s t ≡ true
AgreesOver s (o ∷ os) t f =
    (audit s t ≡ true) × Agrees (step s o t).answer (flat_step s o f).answer × AgreesOver s os (step s o t).after (flat_step s o f).after

-- Whatever shape and tables are lent, if fresh does not refuse them, then every list of orders from there agrees.
abbrev pub Agreement : Type 0
Agreement = (s : Shape) (t : Model) → lent_refusal s t ≡ 0 → (os : List Order) → AgreesOver s os (fresh s t) (flat_start t.memory)

-- A line's word in the tables: the lowest-numbered holder's, else memory's.
unfoldable pub line_word : Shape → Model → ℕ → ℕ
line_word s t a = at_or (word_at s t a) (memory_at t a) (lowest (holds s t a) s.ports)

-- A flat memory that fits the tables: it has each line's word, and mark 1 at least where there is an owner.
pub record Fits (s : Shape) (t : Model) (f : Flat) : Type 0 where
  pub words_length : length f.words ≡ s.lines
  pub marks_length : length f.marks ≡ s.lines
  pub word : (a : ℕ) → a < s.lines → word_in f a ≡ line_word s t a
  pub mark : (a : ℕ) → a < s.lines → dirty s t a ≡ true → mark_in f a ≡ true

-- The same from any tables that pass the audit, with any flat memory that fits them.
abbrev pub AuditedAgreement : Type 0
AuditedAgreement = (s : Shape) (t : Model) (f : Flat) → audit s t ≡ true → Fits s t f → (os : List Order) → AgreesOver s os t f
