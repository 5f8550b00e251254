-- That a refused call changes nothing, said of what a C host lends. The proof is in proofs/Refused.antt.
use Rattle.std.specs.Prelude.{ℕ, ◌≡◌, ◌≢◌, false, List}
use Rattle.ports.specs.Bytes.{Bytes}
use Rattle.shape.specs.declared.Shape.{Shape}
use Rattle.model.specs.Order.{Order, kind_of}
use Rattle.host.specs.Host.{refusal_put, verdict_put, host_step, host_fresh, host_audit}
use Rattle.host.specs.ReadBack.{OfBytes}
use Rattle.host.specs.Totals.{record_refused, host_step_totals}

-- Calls on bytes b. Where a call returns a refusal, main memory, tags, states and data are the bytes that they were. An answer of 40 bytes then has
-- the refusal's number and four zeros, a verdict of one byte says no, and either of another length is left alone. The refused order is counted in a
-- record that has its length, unless the refusal is 9. The audit changes no lent byte, refused or not.
pub record RefusedLeaves (s : Shape) (b : Bytes) : Type 0 where
  pub step : (o : Order) (out : List ℕ)
      → let h = host_step s o b out in
      h.refusal ≢ 0 → (h.lent ≡ b) × (h.out ≡ refusal_put h.refusal out)
  pub step-totals : (o : Order) (out totals : List ℕ)
      → let h = host_step_totals s o b out totals in
      let n = h.hosted.refusal in
      n ≢ 0 → (h.hosted.lent ≡ b) × (h.hosted.out ≡ refusal_put n out) × (h.totals ≡ record_refused n (kind_of o) totals)
  pub fresh : (host_fresh s b).refusal ≢ 0 → (host_fresh s b).lent ≡ b
  pub audit : (verdict : List ℕ)
      → let h = host_audit s b verdict in
      (h.lent ≡ b) × (h.refusal ≢ 0 → h.out ≡ verdict_put false verdict)

-- Whatever shape and bytes are lent, and whatever the refusal.
abbrev pub HostRefusedChangesNothing : Type 0
HostRefusedChangesNothing = (s : Shape) (b : Bytes) → OfBytes b → RefusedLeaves s b
