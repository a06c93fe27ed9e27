-- What a tracer follows, where the exception can hold at some positions only: all targets elsewhere in any case, and nothing but targets.
-- Assumes nothing.
use Prim.Native.Nat.{ℕ}
use mathlib.Core.Bool.{Bool, true, false, cond}
use mathlib.Core.Path.{◌≡◌, refl}
use mathlib.Core.List.Memᴰ
use mathlib.Core.List.{List, [], Memᴰ as Among}
use Rattle.reach.specs.Tracer.{Tracer, targets}
use Rattle.reach.specs.ClaimsBetween.{Within}
use Rattle.reach.specs.ClaimsOrder.{Plain}
use Rattle.reach.proofs.Cases.{not_both}

-- `maybe p`: p can be under the exception
pub within_maybe : (G : Tracer) (maybe : ℕ → Bool) → ((m : List ℕ) (p : ℕ) → maybe p ≡ false → G.exempt m p ≡ false)
    → Within G (λ p. cond (maybe p) [] (G.ways p)) G.ways
unfolding targets
within_maybe G maybe never = record { at_least = λ m p q. sure m p q (maybe p) refl; at_most = λ m p q. known p q (G.exempt m p) }
  where
    sure : (m : List ℕ) (p q : ℕ) (b : Bool) → maybe p ≡ b → Among q (cond b [] (G.ways p)) → Among q (cond (G.exempt m p) [] (G.ways p))
    sure m p q true e i = absurd (Memᴰ.not-nil i)
    sure m p q false e i = rw (never m p e) i

    known : (p q : ℕ) (b : Bool) → Among q (cond b [] (G.ways p)) → Among q (G.ways p)
    known p q true i = absurd (Memᴰ.not-nil i)
    known p q false i = i

-- where it can hold anywhere nothing is sure
pub ways_within : (G : Tracer) → Within G (λ p. []) G.ways
ways_within G = within_maybe G (λ p. true) (λ m p e. absurd (not_both refl e))

-- where it holds nowhere all is
pub plain_within : (G : Tracer) → Plain G → Within G G.ways G.ways
plain_within G P = within_maybe G (λ p. false) (λ m p e. P m p)
