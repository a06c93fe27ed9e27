-- The choice of arrivals, as the exported listing takes it. Document 01, 'The listing': `A` with arrivals if chosen.
-- Assumes nothing.
use Rattle.std.specs.Prelude.{ℕ, cond, eqb}
use Rattle.listing.specs.declared.tabbed.Arrivals.{Arrivals}
use Rattle.listing.specs.declared.tabbed.Arrivals.TheVariants.{Chosen, Declined}

-- 0 is declined, any other number is chosen
abbrev pub choice_of : ℕ → Arrivals
choice_of n = cond (eqb n 0) Declined Chosen
