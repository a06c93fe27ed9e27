-- What a result says whose error went through `map_err`.
-- Assumes nothing.
use Rattle.std.proofs.Common.{◌≡◌, ℕ, refl, subst, arith}
use Rattle.std.specs.Prelude.{Result, Ok, Err, MatchResult}
use Rattle.std.specs.Result.{IsErrAnd}
use Rattle.std.proofs.lemmas.Result.{err_from_is_err_and}

module _ {T E D : Type 0} (P : E → D → Type 0) where
  abbrev pub Mapped : Result T E → Result T D → Type 0
  Mapped s r = MatchResult s (λ x. r ≡ Ok x) (λ e. IsErrAnd r (P e))

  pub mapped_err : (s : Result T E) (r : Result T D) (d : D) → Mapped s r → r ≡ Err d → (e : E) × (s ≡ Err e) × P e d
  mapped_err (Ok x) r d h q = absurd (let z : ◌≡◌ {A = ℕ} 0 1 = cc in omega arith)
  mapped_err (Err e) r d h q =
      let p = err_from_is_err_and r h in
      let k : p.0 ≡ d = let u = p.1 in cc in
      (e, refl, subst (P e) k p.2)

  pub mapped_ok : (s : Result T E) (r : Result T D) (x : T) → Mapped s r → r ≡ Ok x → s ≡ Ok x
  mapped_ok (Ok y) r x h q = cc
  mapped_ok (Err e) r x h q = let p = err_from_is_err_and r h in let u = p.1 in absurd (let z : ◌≡◌ {A = ℕ} 0 1 = cc in omega arith)
