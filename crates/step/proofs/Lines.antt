-- A call that looks at its line: its refusal, and what else comes of it. Assumes nothing.
use Prim.Native.Nat.{ℕ, ◌<◌}
use mathlib.Core.Path.{◌≡◌, refl, ap}
use mathlib.Core.Bool.{true}
use Rattle.std.specs.Prelude.{Ok, Err}
use Rattle.refusals.specs.declared.Refusal.TheVariants.{Entry}
use Rattle.shape.specs.declared.Shape.{Shape}
use Rattle.model.specs.declared.order.Call.{Call}
use Rattle.model.specs.declared.answer.Answer.{Answer}
use Rattle.model.specs.Order.{Asked, looks}
use Rattle.model.specs.Tables.{column_sound}
use Rattle.model.specs.Step.{result, answer_of, called, perform}
use Rattle.ports.specs.declared.survey.Look.{Look}
use Rattle.ports.specs.declared.survey.Unsound.{Unsound}
use Rattle.ports.specs.Bytes.{Bytes, model_in, tables_in, Fitting}
use Rattle.ports.specs.Line.{line_of, Placed}
use Rattle.ports.specs.Masks.{masks_of, look_of}
use Rattle.ports.proofs.Places.{placed}
use Rattle.ports.proofs.Surveys.{let_through, held_back, sound_column}

module _ (s : Shape) (a : ℕ) (b : Bytes) (fits : Fitting s b) (there : a < s.lines) where
  -- The call is refused, and nothing changes.
  pub call_refused : {u : Unsound} → Err u ≡ look_of s (tables_in s b.tags b.states b.words) a
      → (c : Call) → looks c ≡ true → result (answer_of (Err Entry)) (model_in s b) ≡ perform s (model_in s b) (Asked c a)
  unfolding perform look_of
  call_refused e c look =
      let h = held_back (column_sound s (tables_in s b.tags b.states b.words) a) _ e in rw (look, ← sound_column s b a, h.0)

  module _ {k : Look} (e : Ok k ≡ look_of s (tables_in s b.tags b.states b.words) a) where
    sound_is : column_sound s (tables_in s b.tags b.states b.words) a ≡ true
    unfolding look_of
    sound_is = (let_through (column_sound s (tables_in s b.tags b.states b.words) a) _ e).0

    look_is : ◌≡◌ {A = Look} k (record { line = line_of s a; said = masks_of s (tables_in s b.tags b.states b.words) a })
    unfolding look_of
    look_is = (let_through (column_sound s (tables_in s b.tags b.states b.words) a) _ e).1

    -- What an order on the line asks.
    pub look_fits : Fitting k.line.shape b
    unfolding line_of
    look_fits = rw look_is fits

    pub look_placed : Placed k.line
    look_placed = placed s a fits.range there (ap (λ (k : Look). k.line) look_is)

    pub look_port : {i : ℕ} → i < s.ports → i < k.line.shape.ports
    unfolding line_of
    look_port h = rw look_is h

    pub look_said : k.said ≡ masks_of k.line.shape (tables_in k.line.shape b.tags b.states b.words) k.line.number
    unfolding line_of
    look_said = rw look_is refl

    pub look_sound : column_sound k.line.shape (tables_in k.line.shape b.tags b.states b.words) k.line.number ≡ true
    unfolding line_of
    look_sound = rw look_is sound_is

    -- The call is done.
    pub call_done : (c : Call) → looks c ≡ true → {r : Answer} (b' : Bytes)
        → result r (model_in k.line.shape b') ≡ called k.line.shape (model_in k.line.shape b) c k.line.number
        → result r (model_in s b') ≡ perform s (model_in s b) (Asked c a)
    unfolding perform line_of
    call_done c look b' p = rw (look, ← sound_column s b a, sound_is) (rw look_is at p)
