-- The marks of a sheet: told up to a position, and 0 from there on.
-- Assumes nothing.
use mathlib.Core.Path.{◌≡◌, sym, ap, ◌∙◌}
use mathlib.Core.Bool.{true, false}
use mathlib.Core.List.{List, ◌∷◌, ◌++◌, map, map-append, append-nil}
use Prim.Native.Nat.{ℕ, suc, ◌-◌, ◌<◌, ◌≤◌}
use native.Mathlib.Omega.{arith}
use lib.ListN.{length, get_or, set, take, replicate, length-map}
use lib.Seq.{take-suc, length-take-le, append_snoc, set_at}
use Rattle.reach.specs.Mark.{untouched, traced, traced_mark}
use Rattle.read_back_laws.specs.ClaimsBack.{told}

module _ (n : ℕ) (m : List ℕ) where
  abbrev pub told_to : ℕ → List ℕ
  told_to p = map told (take p m) ++ replicate (n - p) 0

  pub told_start : replicate n 0 ≡ told_to 0
  told_start = let e : n ≡ n - 0 = omega arith in ap (λ (k : ℕ). replicate k 0) e

  pub told_end : told_to n ≡ map told (take n m)
  told_end = let e : n - n ≡ 0 = omega arith in rw (e, append-nil)

  module _ (long : n ≤ length m) (p : ℕ) (h : p < n) where
    seam : told_to p ≡ map told (take p m) ++ 0 ∷ replicate (n - suc p) 0
    seam = let e : n - p ≡ suc (n - suc p) = omega arith in ap (λ (k : ℕ). map told (take p m) ++ replicate k 0) e

    one_more_lem : (v : ℕ) → told (get_or m p 0) ≡ v → map told (take p m) ++ v ∷ replicate (n - suc p) 0 ≡ told_to (suc p)
    one_more_lem v e =
        sym
        (rw (take-suc m p 0 (omega arith), map-append, e) (append_snoc (map told (take p m)) v (replicate (n - suc p) 0)))

    pub told_untouched : traced_mark (get_or m p 0) ≡ false → told_to p ≡ told_to (suc p)
    told_untouched t = seam ∙ one_more_lem untouched (rw t)

    pub told_traced : traced_mark (get_or m p 0) ≡ true → set (told_to p) p traced ≡ told_to (suc p)
    told_traced t =
        ap (λ (l : List ℕ). set l p traced) seam
        ∙ set_at (map told (take p m)) 0 (replicate (n - suc p) 0) traced p (length-map (take p m) told ∙ length-take-le p m (omega arith))
        ∙ one_more_lem traced (rw t)
