-- The call, by its case: where it looks at its line, the refusal, or the order. Assumes nothing.
use Rattle.std.proofs.Common.{refl, subst}
use Rattle.std.proofs.lemmas.Result.{err_from_is_err_and}
use Rattle.model.specs.declared.order.Call.TheVariants.{ByPort, Flush, DeviceWrite}
use Rattle.model.specs.Order.{PortThere}
use Rattle.model.specs.Step.{called, perform}
use Rattle.ports.specs.Bytes.{bytes}
use Rattle.ports.proofs.Bytes.{memory_word}
use Rattle.step.proofs.Lines.{call_refused, look_fits, look_placed, look_port, look_said, look_sound, call_done}
use Rattle.step.proofs.perform_call.Goals as goal

-- ByPort.
pub access_line-requires : goal.access_line-requires
access_line-requires c =
    let b = bytes c.args.memory.now c.args.tags.now c.args.states.now c.args.words.now in
    let e = c.in_ok-look-in-ByPort.ensures in
    record {
      fitting = look_fits _ _ b c.requires.fitting c.requires.there.1 e;
      placed = look_placed _ _ b c.requires.fitting c.requires.there.1 e;
      port = look_port _ _ b c.requires.fitting c.requires.there.1 e (subst (PortThere c.args.shape) c.in-ByPort.is c.requires.there.0);
      said = look_said _ _ b c.requires.fitting c.requires.there.1 e;
      sound = look_sound _ _ b c.requires.fitting c.requires.there.1 e;
    }

pub returns-in_err-look-in-ByPort : goal.returns-in_err-look-in-ByPort
returns-in_err-look-in-ByPort c =
    let p = err_from_is_err_and c.from_residual.result c.from_residual.ensures.1 in
    rw (p.1, p.2, c.in-ByPort.is)
    (call_refused _ _ (bytes c.args.memory.now c.args.tags.now c.args.states.now c.args.words.now) c.requires.fitting c.requires.there.1
    c.in_err-look-in-ByPort.ensures (ByPort _ _ _) refl)

pub returns-in_ok-look-in-ByPort : goal.returns-in_ok-look-in-ByPort
unfolding called
returns-in_ok-look-in-ByPort c =
    rw c.in-ByPort.is
    (call_done _ _ (bytes c.args.memory.now c.args.tags.now c.args.states.now c.args.words.now) c.requires.fitting c.requires.there.1
    c.in_ok-look-in-ByPort.ensures (ByPort _ _ _) refl _ c.access_line.ensures)

-- Flush.
pub flush_line-requires : goal.flush_line-requires
flush_line-requires c =
    let b = bytes c.args.memory.now c.args.tags.now c.args.states.now c.args.words.now in
    let e = c.in_ok-look-in-Flush.ensures in
    record {
      fitting = look_fits _ _ b c.requires.fitting c.requires.there.1 e;
      placed = look_placed _ _ b c.requires.fitting c.requires.there.1 e;
      port = look_port _ _ b c.requires.fitting c.requires.there.1 e (subst (PortThere c.args.shape) c.in-Flush.is c.requires.there.0);
      said = look_said _ _ b c.requires.fitting c.requires.there.1 e;
      sound = look_sound _ _ b c.requires.fitting c.requires.there.1 e;
    }

pub returns-in_err-look-in-Flush : goal.returns-in_err-look-in-Flush
returns-in_err-look-in-Flush c =
    let p = err_from_is_err_and c.from_residual-in_err-look-in-Flush.result c.from_residual-in_err-look-in-Flush.ensures.1 in
    rw (p.1, p.2, c.in-Flush.is)
    (call_refused _ _ (bytes c.args.memory.now c.args.tags.now c.args.states.now c.args.words.now) c.requires.fitting c.requires.there.1
    c.in_err-look-in-Flush.ensures (Flush _) refl)

pub returns-in_ok-look-in-Flush : goal.returns-in_ok-look-in-Flush
unfolding called
returns-in_ok-look-in-Flush c =
    rw c.in-Flush.is
    (call_done _ _ (bytes c.args.memory.now c.args.tags.now c.args.states.now c.args.words.now) c.requires.fitting c.requires.there.1
    c.in_ok-look-in-Flush.ensures (Flush _) refl _ c.flush_line.ensures)

-- DeviceWrite.
pub device_write-requires : goal.device_write-requires
device_write-requires c =
    let b = bytes c.args.memory.now c.args.tags.now c.args.states.now c.args.words.now in
    let e = c.in_ok-look-in-DeviceWrite.ensures in
    record {
      fitting = look_fits _ _ b c.requires.fitting c.requires.there.1 e;
      placed = look_placed _ _ b c.requires.fitting c.requires.there.1 e;
      said = look_said _ _ b c.requires.fitting c.requires.there.1 e;
      sound = look_sound _ _ b c.requires.fitting c.requires.there.1 e;
    }

pub returns-in_err-look-in-DeviceWrite : goal.returns-in_err-look-in-DeviceWrite
returns-in_err-look-in-DeviceWrite c =
    let p = err_from_is_err_and c.from_residual-in_err-look-in-DeviceWrite.result c.from_residual-in_err-look-in-DeviceWrite.ensures.1 in
    rw (p.1, p.2, c.in-DeviceWrite.is)
    (call_refused _ _ (bytes c.args.memory.now c.args.tags.now c.args.states.now c.args.words.now) c.requires.fitting c.requires.there.1
    c.in_err-look-in-DeviceWrite.ensures (DeviceWrite _ _) refl)

pub returns-in_ok-look-in-DeviceWrite : goal.returns-in_ok-look-in-DeviceWrite
unfolding called
returns-in_ok-look-in-DeviceWrite c =
    rw c.in-DeviceWrite.is
    (call_done _ _ (bytes c.args.memory.now c.args.tags.now c.args.states.now c.args.words.now) c.requires.fitting c.requires.there.1
    c.in_ok-look-in-DeviceWrite.ensures (DeviceWrite _ _) refl _ c.device_write.ensures)

-- A device read looks at no entry.
pub returns-in-DeviceRead : goal.returns-in-DeviceRead
unfolding perform called
returns-in-DeviceRead c = rw (c.in-DeviceRead.is, c.device_read.ensures, ← memory_word c.requires.fitting c.requires.there.1 refl)
