-- The six bytes of the head, and then the 21 of each port, place by place. Assumes nothing.
use Rattle.std.proofs.Common.{◌≡◌, refl, sym, ◌∙◌, ap, ℕ, ◌+◌, ◌-◌, ◌*◌, List, length, get_or, arith}
use borrow.Rule.Slice.PartMut.{put_mid}
use Rattle.port.specs.declared.form.Port.{Port}
use Rattle.table.specs.Parts.{port_at}
use Rattle.table.specs.declared.form.Table.{Table}
use Rattle.cells.specs.Cells.{table_of}
use Rattle.cells.proofs.Laws.{table_at}
use Rattle.image.specs.Image.{head_bytes, port_bytes, byte_at, image_long, image_port}
use Rattle.image.proofs.Laws.{head_byte, port_byte}
use Rattle.store.proofs.Saved.{saved_port}
use Rattle.store.proofs.Written.{Written, written_none, written_part, written_at, written_all}
use Rattle.store.proofs.put.Goals as goal

head_long : (t : Table) → length (head_bytes t) ≡ 6
unfolding head_bytes
head_long t = refl

port_long : (p : Port) → length (port_bytes p) ≡ image_port
unfolding port_bytes
port_long p = refl

pub loop-p-init : goal.loop-p-init
loop-p-init c =
    let t = table_of c.args.cells.now in
    let ys = c.copy_from_slice.new.self in
    let e : ys ≡ head_bytes t = c.copy_from_slice.ensures.after ∙ c.head_bytes.ensures in
    written_part t c.args.room.now 0 6 ys (written_none t _ c.requires.room_len) (omega arith) (ap length e ∙ head_long t) (λ q h.
    let z : q ≡ 0 + q = omega arith in
    ap (λ (b : List ℕ). get_or b q 0) e ∙ sym (head_byte t q h) ∙ ap (byte_at t) z)

pub port_bytes-requires-clause-p_value : goal.port_bytes-requires-clause-p_value
port_bytes-requires-clause-p_value c = saved_port c.args.cells.now c.requires.cells_value c.loop-p.p c.loop-p-test.true

pub loop-p-preserved : goal.loop-p-preserved
loop-p-preserved c =
    let l = c.args.cells.now in
    let t = table_of l in
    let k = c.loop-p in
    let ys = c.copy_from_slice-in-loop-p.new.self in
    let e : ys ≡ port_bytes (port_at t k.p) = c.copy_from_slice-in-loop-p.ensures.after ∙ c.port_bytes.ensures ∙ ap port_bytes (sym (table_at l k.p c.loop-p-test.true)) in
    let w : Written t (6 + image_port * k.p + image_port) (put_mid (6 + image_port * k.p) image_port k.room ys) =
    written_part t k.room (6 + image_port * k.p) image_port ys k.invariant (omega (arith, c.loop-p-test.true)) (ap length e ∙ port_long (port_at t k.p))
    (λ q h. ap (λ (b : List ℕ). get_or b q 0) e ∙ sym (port_byte t k.p q h)) in
    let n : (6 + image_port * k.p + 21) - (6 + image_port * k.p) ≡ image_port = omega arith in
    rw n (written_at t _ (6 + image_port * k.p + image_port) (6 + image_port * (k.p + 1)) (omega arith) w)

pub returns : goal.returns
returns c =
    let l = c.loop-p in
    written_all _ l.room (written_at _ l.room (6 + image_port * l.p) image_long (omega arith) l.invariant)
