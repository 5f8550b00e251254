-- Reasoning by Bool tests: a test that says yes, and what follows for `&&`, `||`, `not` and `implies`. Assumes nothing.
use mathlib.Core.Bool.{Bool, true, false, cond, ◌&&◌, ◌||◌, not, false≢true}
use mathlib.Core.Path.{◌≡◌, refl, sym}
use Rattle.words.specs.Bools.{implies}

-- The test says yes.
abbrev pub Is : Bool → Type 0
Is b = b ≡ true

pub and_l : (a b : Bool) → Is (a && b) → Is a
and_l true b h = refl
and_l false b h = h

pub and_r : (a b : Bool) → Is (a && b) → Is b
and_r true b h = h
and_r false b h = absurd (false≢true h)

pub and_none : (b : Bool) → (b && false) ≡ false
and_none true = refl
and_none false = refl

pub and_all : (b : Bool) → (b && true) ≡ b
and_all true = refl
and_all false = refl

pub both : {a b : Bool} → Is a → Is b → Is (a && b)
both {a = true} h k = k
both {a = false} h k = h

pub or_l : {a : Bool} (b : Bool) → Is a → Is (a || b)
or_l {a = true} b h = h
or_l {a = false} b h = absurd (false≢true h)

pub or_r : (a : Bool) {b : Bool} → Is b → Is (a || b)
or_r true h = refl
or_r false h = h

pub neither : (a b : Bool) → (a || b) ≡ false → (a ≡ false) × (b ≡ false)
neither true b e = absurd (false≢true (sym e))
neither false b e = (refl, e)

pub mp : {a b : Bool} → Is (implies a b) → Is a → Is b
mp {a = true} h k = h
mp {a = false} h k = absurd (false≢true k)

pub imp : {a b : Bool} → (Is a → Is b) → Is (implies a b)
imp {a = true} f = f refl
imp {a = false} f = refl

pub contra : (a : Bool) {b : Bool} → (Is a → Is b) → Is (not b) → Is (not a)
contra true {b = true} f h = h
contra true {b = false} f h = f refl
contra false f h = refl

pub not_both : {a : Bool} → Is a → Is (not a) → ⊥
not_both {a = true} h k = false≢true k
not_both {a = false} h k = false≢true h

pub by_bool : {P : Type 0} (b : Bool) → (Is b → P) → (Is (not b) → P) → P
by_bool true f g = f refl
by_bool false f g = g refl

-- What holds of both branches holds of the choice between them.
pub by_cond : {A : Type 0} (P : A → Type 0) (b : Bool) (x y : A) → (Is b → P x) → (Is (not b) → P y) → P (cond b x y)
by_cond P true x y f g = f refl
by_cond P false x y f g = g refl

pub not_is : (b : Bool) → (Is b → ⊥) → Is (not b)
not_is true f = absurd (f refl)
not_is false f = refl
