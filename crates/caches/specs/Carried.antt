-- A decision carried out: what that rests on, and the model that it leaves.
use Rattle.std.specs.Prelude.{ℕ, ◌<◌, IfSome}
use Rattle.shape.specs.declared.Shape.{Shape}
use Rattle.shape.specs.Shape.{entry_of}
use Rattle.model.specs.Tables.{Model, model}
use Rattle.ports.specs.Entry.{put_at}
use Rattle.ports.specs.Masks.{in_mask, OfHolders}
use Rattle.bus.specs.Bus.{answered}
use Rattle.decision.specs.declared.Decision.{Decision}
use Rattle.decision.specs.Decision.{store_of}

-- What carrying it out rests on: the mask has holders alone, and what is stored has a line to go to.
pub record Founded (s : Shape) (t : Model) (a : ℕ) (d : Decision) : Type 0 where
  pub mask : OfHolders s t a d.others
  pub home : IfSome d.evicted (λ x. x.line < s.lines)
  pub line : IfSome d.stored (λ x. x.line < s.lines)

-- The model afterwards: the ports of the mask have answered, the own entry is put, and at most two words are stored, the evicted one first.
unfoldable pub carried : Shape → Model → ℕ → ℕ → Decision → Model
carried s t i a d =
    let u = put_at (answered s t a (in_mask d.others) d.bus d.entry.word s.ports) (entry_of s a i) d.entry in
    model (store_of d.stored (store_of d.evicted t.memory)) u.tags u.states u.words
