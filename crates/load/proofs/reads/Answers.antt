-- The length, the supply, and then port by port. Assumes nothing.
use Rattle.std.proofs.Common.{◌≡◌, refl, sym, ◌∙◌, ap, true, ◌&&◌, ℕ, Bool, ◌+◌, ◌*◌, arith}
use mathlib.Core.Path.{ap₂}
use borrow.Author.Tests.{eq-eqb}
use Rattle.sizes.specs.Sizes.{most_ports}
use Rattle.lists.specs.Every.{every}
use Rattle.lists.proofs.Every.{every_next, every_not}
use Rattle.image.specs.Image.{image_port}
use Rattle.image.specs.Load.{port_reads, reads}
use Rattle.load.proofs.reads.Goals as goal

pub loop-p-init : goal.loop-p-init
unfolding every
loop-p-init c = refl

pub returns-then-not-port_reads : goal.returns-then-not-port_reads
unfolding reads
returns-then-not-port_reads c =
    let f : ℕ → Bool = λ p. port_reads c.args.bytes.now (6 + image_port * p) in
    simp (
      eq-eqb _ _ c.if-bytes-ne-IMAGE.false,
      eq-eqb _ _ (sym c.word_at.ensures ∙ c.if-word_at-ne0.false),
      every_not most_ports f c.loop-p.p c.loop-p-test.true (sym c.port_reads.ensures ∙ c.if-not-port_reads.true),
    )

pub loop-p-preserved : goal.loop-p-preserved
loop-p-preserved c = every_next c.loop-p.p _ ∙ ap₂ ◌&&◌ c.loop-p.invariant (sym c.port_reads.ensures ∙ c.if-not-port_reads.false)

pub returns : goal.returns
unfolding reads
returns c =
    let f : ℕ → Bool = λ p. port_reads c.args.bytes.now (6 + image_port * p) in
    let p : c.loop-p.p ≡ most_ports = omega arith in
    let e : every most_ports f ≡ true = sym (ap (λ (k : ℕ). every k f) p) ∙ c.loop-p.invariant in
    simp (eq-eqb _ _ c.if-bytes-ne-IMAGE.false, eq-eqb _ _ (sym c.word_at.ensures ∙ c.if-word_at-ne0.false), e)
