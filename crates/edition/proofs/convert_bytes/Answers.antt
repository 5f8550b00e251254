-- The loop writes the next byte, converted. Assumes nothing.
use Rattle.std.proofs.Common.{arith, ◌≡◌, ◌∙◌, ap, slice_index_or}
use Rattle.letters.specs.Letters.{converted, byte_from}
use Rattle.edition.proofs.Loops.{map_next, map_done}
use Rattle.edition.proofs.convert_bytes.Goals as goal

pub loop-k-preserved : goal.loop-k-preserved
loop-k-preserved c =
    let e : c.unwrap_or.result ≡ byte_from (converted c.args.way (slice_index_or c.args.table.now c.loop-k.k 0)) =
    c.unwrap_or.ensures ∙ ap byte_from c.convert_byte.ensures in
    rw (c.loop-k.invariant, e)
    (map_next (λ b. byte_from (converted c.args.way b)) c.loop-k.k c.args.table.now c.args.out.now (omega arith) (omega arith))

pub returns : goal.returns
returns c =
    c.loop-k.invariant ∙ map_done (λ b. byte_from (converted c.args.way b)) c.loop-k.k c.args.table.now c.args.out.now (omega arith) c.loop-k-test.false
