-- 21 bytes in their order; a state, a class and latches that are saved are one byte. Assumes nothing.
use Rattle.std.proofs.Common.{refl, ◌∷◌, ◌+◌, arith}
use mathlib.Core.Path.{ap₂}
use Rattle.cells.specs.Cells.{counts_of, port_of}
use Rattle.image.specs.Image.{port_bytes}
use Rattle.store.proofs.Saved.{state_small, class_small, latches_small, state_byte, latch_byte_lem, bytes}
use Rattle.store.proofs.port_bytes.Goals as goal

pub overflow_cast-result : goal.overflow_cast-result
overflow_cast-result c = omega (arith, state_small c.args.cells.now c.args.p c.requires.p_value)

pub overflow_cast-result-2 : goal.overflow_cast-result-2
overflow_cast-result-2 c = omega (arith, class_small c.args.cells.now c.args.p c.requires.p_value)

pub overflow_cast-result-3 : goal.overflow_cast-result-3
overflow_cast-result-3 c = omega (arith, latches_small c.args.cells.now c.args.p c.requires.p_value)

pub returns : goal.returns
unfolding port_bytes port_of counts_of
returns c =
    let l = c.args.cells.now in
    let p = c.args.p in
    let control = bytes _ _ (c.fits-cells (56 + c.args.p)) c.to_be_bytes-control.ensures in
    let demand = bytes _ _ (c.fits-cells (104 + c.args.p)) c.to_be_bytes-demand.ensures in
    let detection = bytes _ _ (c.fits-cells (248 + c.args.p)) c.to_be_bytes-detection.ensures in
    let backoff = bytes _ _ (c.fits-cells (296 + c.args.p)) c.to_be_bytes-backoff.ensures in
    let error_delay = bytes _ _ (c.fits-cells (344 + c.args.p)) c.to_be_bytes-error_delay.ensures in
    let power_on = bytes _ _ (c.fits-cells (392 + c.args.p)) c.to_be_bytes-power_on.ensures in
    let limiting = bytes _ _ (c.fits-cells (440 + c.args.p)) c.to_be_bytes-limiting.ensures in
    let overload = bytes _ _ (c.fits-cells (488 + c.args.p)) c.to_be_bytes-overload.ensures in
    let no_load = bytes _ _ (c.fits-cells (536 + c.args.p)) c.to_be_bytes-no_load.ensures in
    rw (control, demand, detection, backoff, error_delay, power_on, limiting, overload, no_load)
    (ap₂ ◌∷◌ (state_byte l p c.requires.p_value)
    (ap₂ ◌∷◌ refl (ap₂ ◌∷◌ refl (ap₂ ◌∷◌ refl (ap₂ ◌∷◌ refl (ap₂ ◌∷◌ refl (ap₂ ◌∷◌ (latch_byte_lem l p c.requires.p_value) refl)))))))
