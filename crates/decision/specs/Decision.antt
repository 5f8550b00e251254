-- A decision: what an access comes to, from memory and the tables as they are.
use Rattle.std.specs.Prelude.{ℕ, Bool, ◌&&◌, not, eqb, List, set, Option, Some, None}
use Rattle.std.specs.Bool.{then_some}
use Rattle.words.specs.declared.access.Access.{Access}
use Rattle.words.specs.Access.{effect_at}
use Rattle.protocol.specs.declared.state.Mode.{Mode}
use Rattle.protocol.specs.State.{code}
use Rattle.shape.specs.declared.Shape.{Shape}
use Rattle.shape.specs.Shape.{tag_of}
use Rattle.model.specs.Tables.{Model, word_at, holds}
use Rattle.model.specs.Step.{word_found, victim, evicts_owner, access_rule, accessed}
use Rattle.ports.specs.Masks.{ports_from}
use Rattle.decision.specs.declared.Store.{Store}
use Rattle.decision.specs.declared.Decision.{Decision}

-- A port other than i holds line a.
abbrev pub other : Shape → Model → ℕ → ℕ → ℕ → Bool
other s t i a p = not (eqb p i) && holds s t a p

-- A word that is stored, if any.
abbrev pub store_of : Option Store → List ℕ → List ℕ
store_of None l = l
store_of (Some x) l = set l x.line x.word

-- What an access by port i of line a comes to: the own entry afterwards, the other holders and their command, the home line and the word of the
-- own entry as it was, which are stored where an owner is evicted, what is stored of the line, and the answer.
unfoldable pub decided : Shape → Model → ℕ → ℕ → Access → Mode → Decision
decided s t i a acc m =
    let e = effect_at acc (word_found s t i a) in
    let r = access_rule s t i a m e in
    let v : Store = record { line = victim s t i a; word = word_at s t a i } in
    record {
      entry = record { tag = tag_of s a; byte = code r.own; word = e.word };
      others = ports_from (other s t i a) 0 s.ports;
      bus = r.bus;
      victim = v;
      evicted = then_some (evicts_owner s t i a) v;
      stored = then_some r.stores (record { line = a; word = e.word });
      answer = (accessed s t i a acc m).answer;
    }
