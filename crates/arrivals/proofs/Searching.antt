-- The search for the next arrival: up to the lowest position from which control goes on, no other arrives but by a name.
-- Assumes nothing.
use mathlib.Core.Path.{◌≡◌, refl, sym, ap, subst, ◌∙◌}
use mathlib.Core.Bool.{Bool, true, false, cond, ◌||◌}
use mathlib.Core.List.{List}
use Prim.Native.Nat.{ℕ, ◌<◌, ◌≤◌}
use native.Mathlib.Omega.{arith}
use lib.Dec.{eqb, ltb}
use Rattle.std.proofs.Common.{Option, Some, None}
use Rattle.std.specs.Option.{option_or}
use Rattle.std.specs.Bool.{then_some}
use lib.ListN.{length}
use borrow.Author.Tests.{ltb-true, ltb-false}
use Rattle.instruction.specs.declared.mode.Mode.{Mode}
use Rattle.targets.proofs.Within.{Small}
use Rattle.targets.specs.Ways.{name_of}
use Rattle.views.proofs.Ors.{or_first, or_second, or_rest}
use Rattle.arrivals.specs.Arrivals.{arrives, next_arrival}
use Rattle.arrivals.specs.Index.{lowest_of, names_held, falls_from, next_fall}
use Rattle.arrivals.specs.Search.{may_name, if_below}
use Rattle.arrivals.proofs.Falls.{arrives_either}
use Rattle.arrivals.proofs.HeldNames.{may_name_lem, by_its_name}
use Rattle.arrivals.proofs.Lowest.{Lowest, low_is, low_one, low_fewer, low_past, below_some, below_none, told_some}

some_cond : (b : Bool) (x : ℕ) → then_some b x ≡ cond b (Some x) None
some_cond true x = refl
some_cond false x = refl

-- arrivals at p are searched for before d
pub record Search (image : List ℕ) (p d : ℕ) : Type 0 where
  pub bytes : Small image
  pub fits : length image ≤ 65536
  pub inside : p < length image
  pub before : d ≤ length image

module _ {image : List ℕ} {p d : ℕ} (s : Search image p d) (mode : Mode) (m : List ℕ) where
  abbrev n : ℕ
  n = length image

  abbrev H : ℕ → Bool
  H = names_held mode image m p

  abbrev F : ℕ → Bool
  F = falls_from mode image m p

  short : d ≤ 65536
  short = let b = s.before in let g = s.fits in omega (arith, b, g)

  in_image : (q : ℕ) → q < d → q < n
  in_image q h = let b = s.before in omega (arith, h, b)

  -- ---- by a name: q is the lowest from k on that may name one

  module _ (k q : ℕ) (e : q ≡ lowest_of (may_name image m) d k) where
    low : Lowest (may_name image m) d k q
    low = subst (Lowest (may_name image m) d k) (sym e) (low_is d short (may_name image m) k)

    pub none_between : lowest_of H d q ≡ lowest_of H d k
    none_between =
        low_fewer d short (may_name image m) H (λ r h g. may_name_lem mode image m s.bytes s.fits p r s.inside (in_image r h) g) k q e

    pub not_before : q < d → k ≤ q
    not_before h = low.from h

    pub asks_name : q < d → (r : ℕ) → r ≡ name_of mode image q → eqb p r ≡ H q
    asks_name h r g = by_its_name mode image m s.bytes s.fits p q s.inside (in_image q h) (low.here h) r g

  -- none of them, so none
  pub none_named : (k : ℕ) → d ≤ lowest_of (may_name image m) d k → lowest_of H d k ≡ 65536
  none_named k h = sym (none_between k (lowest_of (may_name image m) d k) refl) ∙ low_past H d (lowest_of (may_name image m) d k) h

  -- ---- x is the lowest from k on that names p, f the lowest from which control goes on to it

  module _ (k f x : ℕ) (u : x ≡ lowest_of H d k) (e : f ≡ next_fall mode image m p k) where
    named : Lowest H d k x
    named = subst (Lowest H d k) (sym u) (low_is d short H k)

    falls : Lowest F n k f
    falls = subst (Lowest F n k) (sym e) (low_is n s.fits F k)

    either : (q : ℕ) → arrives mode image m p q ≡ (H q || F q)
    either q = arrives_either mode image m s.bytes s.fits p q s.inside

    neither : (q : ℕ) → H q ≡ false → F q ≡ false → arrives mode image m p q ≡ false
    neither q a b = either q ∙ or_rest (H q) (F q) a ∙ b

    lowest_is : (q : ℕ) → Lowest (arrives mode image m p) n k q → q ≡ next_arrival mode image m p k
    unfolding next_arrival lowest_of
    lowest_is q l = low_one n s.fits (arrives mode image m p) k q l

    pub named_first : d ≤ f → x < d → x ≡ next_arrival mode image m p k
    named_first g h =
        lowest_is x (record {
          none = λ r i j c. neither r (named.none r i j (omega (arith, j, h))) (falls.none r i (omega (arith, j, h, g)) c);
          from = λ c. named.from h;
          here = λ c. either x ∙ or_first (H x) (F x) (named.here h);
          past = λ c. absurd (omega (arith, in_image x h, c));
        })

    pub fall_first : (f < n → f ≤ d) × (n ≤ f → n ≤ d) → d ≤ x → f ≡ next_arrival mode image m p k
    fall_first g h =
        lowest_is f (record {
          none = λ r i j c. let z = inner g r j c in neither r (named.none r i (omega (arith, z, h)) z) (falls.none r i j c);
          from = falls.from;
          here = λ c. either f ∙ or_second (H f) (F f) (falls.here c);
          past = falls.past;
        })
      where
        inner : (f < n → f ≤ d) × (n ≤ f → n ≤ d) → (r : ℕ) → r < f → r < n → r < d
        inner g r j c = by (ltb f n) refl
          where
            by : (t : Bool) → ltb f n ≡ t → r < d
            by true i = let z = g.0 (ltb-true f n i) in omega (arith, j, z)
            by false i = let z = g.1 (ltb-false f n i) in omega (arith, c, z)

  -- the lower of the two, as the code tells it
  pub arrival_found : (k f : ℕ) (found : Option ℕ) → f ≡ next_fall mode image m p k → d ≤ f → (f < n → f ≤ d) × (n ≤ f → n ≤ d)
      → found ≡ if_below d (lowest_of H d k) → option_or found (then_some (ltb f n) f) ≡ if_below n (next_arrival mode image m p k)
  arrival_found k f None e g i u =
      let h = below_none d (lowest_of H d k) u in
      some_cond (ltb f n) f ∙ ap (if_below n) (fall_first k f (lowest_of H d k) refl e i h)
  arrival_found k f (Some x) e g i u =
      let h = below_some d (lowest_of H d k) x u in
      told_some n (next_arrival mode image m p k) x (sym (named_first k f x (sym h.0) e g h.1)) (in_image x h.1)
