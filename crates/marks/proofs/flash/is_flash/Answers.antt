-- What is not found of `flash::is_flash`: the byte 21 is Jmpf's, and no other byte is.
-- Assumes nothing.
use Rattle.std.proofs.Common.{◌≡◌, ◌-◌, get_or, arith}
use lib.ListN.{get_or-eq_default}
use borrow.Author.Tests.{eq-eqb, ne_eqb, le-leb, lt-leb}
use Rattle.targets.specs.At.{flash_here}
use Rattle.marks.proofs.Jmpf.{jmpf_is, jmpf_not}
use Rattle.marks.proofs.flash.is_flash.Goals as goal

pub returns-then-at-lt2 : goal.returns-then-at-lt2
unfolding flash_here
returns-then-at-lt2 c = rw (lt-leb 2 c.args.p c.if-at-lt2.true)

-- past the end a byte counts as 0, which is no Jmpf
pub returns-then-image-at : goal.returns-then-image-at
unfolding flash_here
returns-then-image-at c =
    let a = c.args in
    let z : get_or a.image.now a.p 0 ≡ 0 = get_or-eq_default a.image.now 0 c.if-image-at.true in
    rw (le-leb 2 a.p c.if-at-lt2.false, z, jmpf_not 0 (omega arith) (λ e. omega arith))

pub returns-then-image-at-ne33 : goal.returns-then-image-at-ne33
unfolding flash_here
returns-then-image-at-ne33 c =
    let a = c.args in
    rw (le-leb 2 a.p c.if-at-lt2.false, jmpf_not _ (c.type_inv.image a.p).fits c.if-image-at-ne33.true)

pub returns-then-image-at-2 : goal.returns-then-image-at-2
unfolding flash_here
returns-then-image-at-2 c =
    let a = c.args in
    rw (
      le-leb 2 a.p c.if-at-lt2.false,
      jmpf_is _ (c.type_inv.image a.p).fits c.if-image-at-ne33.false,
      ne_eqb (get_or a.image.now (a.p - 2) 0) 0xB8 c.if-image-at-2.true,
    )

pub returns : goal.returns
unfolding flash_here
returns c =
    let a = c.args in
    rw (
      le-leb 2 a.p c.if-at-lt2.false,
      jmpf_is _ (c.type_inv.image a.p).fits c.if-image-at-ne33.false,
      eq-eqb (get_or a.image.now (a.p - 2) 0) 0xB8 c.if-image-at-2.false,
    )
