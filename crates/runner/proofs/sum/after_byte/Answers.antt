-- Eight turns take eight steps.
use Rattle.std.proofs.Common.{rules, ◌≡◌, ◌*◌, ◌%◌, ◌<◌, ℕ, List, [], ◌∷◌, ◌++◌, ap, sym, ◌∙◌, refl, fold, bit_xor, arith}
use Rattle.std.specs.List.{range_with_len}
use Rattle.std.proofs.iter.Yields.{nat_range_steps}
use Rattle.std.proofs.lemmas.Fn.{fold_over}
use Rattle.std.proofs.lemmas.Iterator.{YieldsList-from_range}
use Rattle.std.proofs.lemmas.List.Sums.{fold_push}
use Rattle.runner.specs.Sum.{sum_after_bit}
use Rattle.runner.proofs.sum.after_byte.Goals as goal

step : ℕ → ℕ → ℕ
step s k = sum_after_bit s

stepped : (m s b k : ℕ) (ys : List ℕ) → b ≡ sum_after_bit s → s ≡ fold step m ys → b ≡ fold step m (ys ++ k ∷ [])
unfolding step
stepped m s b k ys e j = e ∙ ap sum_after_bit j ∙ sym (fold_push step m ys k)

mixed : (sum x b : ℕ) → x ≡ b → b < 256 → bit_xor sum ((x * 16777216) % 4294967296) ≡ bit_xor sum (b * 16777216)
mixed sum x b e h = ap (bit_xor sum) (omega (arith, e, h))

pub returns : goal.returns
unfolding step
returns c =
    let from : ℕ = bit_xor c.args.sum ((c.from.result * 16777216) % 4294967296) in
    fold_over nat_range_steps (λ x. x) _ (λ ys a. a ≡ fold step from ys) _
    (λ ys a x b f' j k. (stepped from a b x ys (search rules) j, search rules))
    (record { start = 0; end = 8 }) (range_with_len 0 8) _ _
    (YieldsList-from_range 0 8 8 refl refl).runs
    refl
    c.fold.ensures.ran
    ∙ ap (λ m. fold step m (range_with_len 0 8)) (mixed c.args.sum c.from.result c.args.b (search rules) (search rules))
