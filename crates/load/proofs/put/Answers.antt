-- The head, and then the ports, place by place. Assumes nothing.
use Rattle.std.proofs.Common.{◌≡◌, ◌∙◌, ap, replicate, arith}
use Rattle.sizes.specs.Sizes.{most_ports}
use Rattle.cells.specs.Cells.{cells_long}
use Rattle.image.proofs.Load.{reads_long, reads_port}
use Rattle.load.proofs.Restored.{put_none, put_more, put_all}
use Rattle.load.proofs.put.Goals as goal

pub word_at-requires : goal.word_at-requires
word_at-requires c = omega (arith, reads_long _ c.requires.bytes_value)

pub word_at-requires-2 : goal.word_at-requires-2
word_at-requires-2 c = omega (arith, reads_long _ c.requires.bytes_value)

pub loop-p-init : goal.loop-p-init
loop-p-init c =
    let clear : c.fill.new.self ≡ replicate cells_long 0 = c.fill.ensures.after (λ y e. e) ∙ ap (λ n. replicate n 0) c.requires.cells_len in
    simp (clear, c.word_at.ensures, c.word_at-2.ensures) (put_none c.args.bytes.now)

pub put_port-requires-clause-at_in_bounds : goal.put_port-requires-clause-at_in_bounds
put_port-requires-clause-at_in_bounds c = omega (arith, reads_long _ c.requires.bytes_value, c.loop-p-test.true)

pub put_port-requires-clause-at_value : goal.put_port-requires-clause-at_value
put_port-requires-clause-at_value c = reads_port _ c.requires.bytes_value c.loop-p.p c.loop-p-test.true

pub loop-p-preserved : goal.loop-p-preserved
loop-p-preserved c = c.put_port.ensures ∙ put_more c.args.bytes.now c.loop-p.p c.loop-p.cells c.loop-p.invariant c.loop-p-test.true

pub returns : goal.returns
returns c =
    let l = c.loop-p in
    let e : l.p ≡ most_ports = omega arith in
    put_all c.args.bytes.now l.cells (rw e at l.invariant)
