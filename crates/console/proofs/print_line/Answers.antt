-- What was laid out came of the caller's function, which answered Ok. Assumes nothing.
use Rattle.std.proofs.Common.{rules, Result, Ok, Err, OnOk}
use Rattle.console.proofs.print_line.Goals as goal

on_ok : {T E B : Type 0} (P : B → B → Type 0) (r : Result T E) (x y : B) → P x y → OnOk r ((a : B) × (b : B) × P a b)
on_ok P (Ok t) x y p = (x, y, p)
on_ok P (Err e) x y p = tt

pub returns : goal.returns
returns g c = on_ok _ _ c.new-line.result c.put.new.arg2 (search rules)
