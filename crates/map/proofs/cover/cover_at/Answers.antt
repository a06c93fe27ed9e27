-- What is not found of `cover::cover_at`: that the instruction fits.
-- Assumes nothing.
use mathlib.Core.Path.{sym, ◌∙◌}
use native.Mathlib.Omega.{arith}
use Rattle.targets.proofs.Within.{size_short}
use Rattle.map.proofs.Sounding.{at_most_four, fitting, fits_within}
use Rattle.map.proofs.cover.cover_at.Goals as goal

pub is_traced-requires : goal.is_traced-requires
is_traced-requires c = let a = c.args in at_most_four a.image.now a.marks.now a.p c.requires.4

pub cover-requires : goal.cover-requires
cover-requires c =
    let a = c.args in
    let t = sym c.is_traced.ensures ∙ c.if-not-is_traced.false in
    let h = fits_within a.image.now a.p (fitting a.image.now a.marks.now a.p c.requires.4 t) in
    let z = size_short a.image.now a.p (λ n. (c.type_inv.image n).fits) in
    let f = c.size_by.ensures in
    (omega (arith, z.0, f), omega (arith, z.1, f), omega (arith, f, h, c.requires.3), omega (arith, f, h, c.requires.2))
