-- What an order word is taken apart into: a call whose port and line are there, or refusal 4 to 7. Assumes nothing.
use Prim.Native.Nat.{ℕ, ◌<◌}
use mathlib.Core.Bool.{◌&&◌, ◌||◌, not}
use native.Mathlib.Omega.{arith}
use lib.Dec.{eqb, leb}
use borrow.Author.Tests.{eqb-true, lt-ltb, leb-false, not-true}
use Rattle.protocol.specs.declared.state.Mode.{Mode}
use Rattle.words.proofs.Bools.{Is, by_cond}
use Rattle.shape.specs.declared.Shape.{Shape}
use Rattle.model.specs.declared.order.Call.{Call}
use Rattle.model.specs.Order.{Decoded, Asked, Refused}
use Rattle.model.specs.Order.{Order, kinds, has_port, checked, call_of, decode, PortThere, There}

abbrev pub Sound : Shape → Decoded → Type 0
Sound s (Asked c a) = There s c a
Sound s (Refused n) = n < 8

call_there : (s : Shape) (kind : ℕ) (m : Mode) (port mask compare x : ℕ) → (kind < 4 → port < s.ports)
    → PortThere s (call_of kind m port mask compare x)
unfolding call_of
call_there s kind m port mask compare x p =
    by_cond (PortThere s) (eqb kind 0) _ _ (λ k. p (omega (arith, eqb-true kind 0 k)))
    (λ _. by_cond (PortThere s) (eqb kind 1) _ _ (λ k. p (omega (arith, eqb-true kind 1 k)))
    (λ _. by_cond (PortThere s) (eqb kind 2) _ _ (λ k. p (omega (arith, eqb-true kind 2 k)))
    (λ _. by_cond (PortThere s) (eqb kind 3) _ _ (λ k. p (omega (arith, eqb-true kind 3 k)))
    (λ _. by_cond (PortThere s) (eqb kind 4) _ _ (λ _. tt) (λ _. tt)))))

port_there : (kind port n : ℕ) → Is (not (has_port kind && leb n port)) → kind < 4 → port < n
port_there kind port n h k = leb-false n port (not-true _ (rw (lt-ltb kind 4 k) at h))

checked-sound : (s : Shape) (kind port mask line : ℕ) (call : Call) → ((kind < 4 → port < s.ports) → PortThere s call)
    → Sound s (checked s kind port mask line call)
unfolding checked
checked-sound s kind port mask line call f =
    by_cond (Sound s) (leb kinds kind) _ _ (λ _. omega arith)
    (λ _. by_cond (Sound s) (has_port kind && leb s.ports port) _ _ (λ _. omega arith)
    (λ h. by_cond (Sound s) (leb s.lines line) _ _ (λ _. omega arith)
    (λ l. by_cond (Sound s) (eqb kind 2 && not (eqb mask 0x0F || eqb mask 0xF0)) _ _ (λ _. omega arith)
    (λ _. (f (port_there kind port s.ports h), leb-false s.lines line (not-true _ l))))))

pub decode-sound : (s : Shape) (o : Order) → Sound s (decode s o)
unfolding decode
decode-sound s o = checked-sound s _ _ _ _ _ (call_there s _ _ _ _ _ o.operand)
