-- The address that a field names is the one that it was resolved from, at every kind.
-- Assumes nothing.
use mathlib.Core.Path.{◌≡◌, refl, ap, sym, ◌∙◌}
use mathlib.Core.Bool.{Bool, true, false, cond}
use mathlib.Core.List.{List, ◌++◌}
use Prim.Native.Nat.{ℕ, suc, ◌+◌, ◌*◌, ◌-◌, ◌%◌, ◌<◌, ◌≤◌}
use native.Mathlib.Nat.{add-mod-mod}
use native.Mathlib.Omega.{arith}
use borrow.Author.Tests.{eqb-true, not-false, lt-ltb, ltb-true, ltb-false}
use lib.Dec.{ltb}
use lib.IntN.{ℤ, pos, negsuc, nat_abs, sub_ℕ, ◌+ℤ◌, ◌-ℤ◌, +ℤ_comm, -ℤ-+ℤ_cancel}
use Rattle.instruction.specs.Answer.{accepted, Refusal, judge}
use Rattle.instruction.specs.declared.kind.Kind.{Kind}
use Rattle.instruction.specs.declared.kind.Kind.TheVariants.{Absent, Immediate, Direct, Register, BitNumber, Page, Far, Short, Long}
use Rattle.instruction.proofs.FieldSign.{diff}
use Rattle.instruction.proofs.Sign.{natural}
use Rattle.instruction.specs.Code.{code_of}
use Rattle.instruction.specs.ResolveOperand.{no_address, top, wrapped, nearest, difference, operand_refusals, field_of}
use Rattle.instruction.proofs.Resolving.{address_is, wraps_is, wrapped_less}
use Rattle.instruction_laws.specs.PartsMade.{used}
use Rattle.instruction.proofs.Accepting.{passed}
use Rattle.instruction.specs.declared.mode.Mode.{Mode}
use Rattle.instruction.specs.declared.mode.Mode.TheVariants.{Unwrapped, Wrapping}
use Rattle.targets.specs.Targets.{in_mode, address_of}

-- a sum that wraps undoes a difference that wraps
around : (n base r : ℕ) → n ≤ 65535 → 1 ≤ base → (r + base % 65536) % 65536 ≡ n % 65536 → (base - 1 + (r + 1) % 65536) % 65536 ≡ n
around n base r h low e =
    let s : base - 1 + (r + 1) ≡ r + base = omega arith in
    let m : n % 65536 ≡ n = omega arith in
    add-mod-mod (base - 1) (r + 1) 65536 ∙ ap (λ (x : ℕ). x % 65536) s ∙ sym (add-mod-mod r base 65536) ∙ e ∙ m

module _ (base : ℕ) (z : ℤ) (inside : no_address z ≡ false) where
  -- Jmp, Call: an address on the base's page is that page with its low twelve bits
  page_back : top (nat_abs z) ≡ top base → pos (top base * 4096 + nat_abs z % 4096) ≡ z
  page_back e =
      let v = natural 65535 z inside in
      let h : nat_abs z ≤ 65535 = v.most in
      let n : top base * 4096 + nat_abs z % 4096 ≡ nat_abs z = rw (← e) (omega arith) in
      ap pos n ∙ sym v.is

  -- Brf, Callr
  long_back : 1 ≤ base → base ≤ 65536 → pos ((base - 1 + wrapped ((z -ℤ pos base) +ℤ pos 1)) % 65536) ≡ z
  long_back low high =
      let v = natural 65535 z inside in
      let c : code_of z ≡ nat_abs z = address_is z inside in
      let h : code_of z ≤ 65535 = rw c v.most in
      let r : ℕ = (code_of z + (65536 - base % 65536)) % 65536 in
      let f : (r + base % 65536) % 65536 ≡ code_of z % 65536 = omega arith in
      let g : (r + 1) % 65536 ≡ wrapped ((z -ℤ pos base) +ℤ pos 1) = wraps_is z base r inside high (omega arith) f in
      ap pos (rw (← g) (around (code_of z) base r h low f) ∙ c) ∙ sym v.is

-- the difference brought near to 0 and added again wraps to where it began
around_short : (n b w : ℕ) → n ≤ 65535 → b ≤ 65536 → w < 65536 → (w + b) % 65536 ≡ n → wrapped (pos b +ℤ cond (ltb w 32768) (pos w) (pos w -ℤ pos 65536)) ≡ n
around_short n b w hn hb hw e = by (ltb w 32768) refl
  where
    less : pos w -ℤ pos 65536 ≡ negsuc (65535 - w)
    less = rw (lt-ltb w 65536 hw) (ap negsuc (omega arith))

    down : (t : Bool) → ltb b (suc (65535 - w)) ≡ t → wrapped (cond t (negsuc (suc (65535 - w) - suc b)) (pos (b - suc (65535 - w)))) ≡ n
    down true f = let k = ltb-true b (suc (65535 - w)) f in omega arith
    down false f = let k = ltb-false b (suc (65535 - w)) f in omega arith

    by : (t : Bool) → ltb w 32768 ≡ t → wrapped (pos b +ℤ cond t (pos w) (pos w -ℤ pos 65536)) ≡ n
    by true f = omega arith
    by false f = rw less (down (ltb b (suc (65535 - w))) refl)

-- a difference modulo 65,536 and the base make the number again
apart_back : (n b : ℕ) → n ≤ 65535 → b ≤ 65536 → (wrapped (sub_ℕ n b) + b) % 65536 ≡ n
apart_back n b hn hb = by (ltb n b) refl
  where
    by : (t : Bool) → ltb n b ≡ t → (wrapped (cond t (negsuc (b - suc n)) (pos (n - b))) + b) % 65536 ≡ n
    by true f = let k : n < b = ltb-true n b f in omega arith
    by false f = let k : b ≤ n = ltb-false n b f in omega arith

short_back : (mode : Mode) (base : ℕ) (z : ℤ) → no_address z ≡ false → base ≤ 65536 → in_mode mode (pos base +ℤ difference mode z base) ≡ z
short_back Unwrapped base z inside high = +ℤ_comm (pos base) (z -ℤ pos base) ∙ -ℤ-+ℤ_cancel z (pos base)
short_back Wrapping base z inside high =
    let v = natural 65535 z inside in
    let n : ℕ = nat_abs z in
    let d : z -ℤ pos base ≡ sub_ℕ n base = ap (λ (y : ℤ). y -ℤ pos base) v.is ∙ diff n base in
    ap (λ (y : ℤ). pos (wrapped (pos base +ℤ nearest y))) d
    ∙ ap pos (around_short n base (wrapped (sub_ℕ n base)) v.most high (wrapped_less (sub_ℕ n base)) (apart_back n base v.most high)) ∙ sym v.is

-- where the refusals of an operand and those behind them let a call through, its field names the address, and those behind let it through
module _ (mode : Mode) {A : Type 0} (base n : ℕ) (z : ℤ) (rs : List Refusal) (a : A) {b : A} (low : 1 ≤ base) (high : base ≤ 65536) where
  pub address_back : (k : Kind) → judge (operand_refusals mode base n k z ++ rs) a ≡ accepted b
      → (address_of mode base k (used k (field_of mode base k z)) ≡ used k z) × (judge rs a ≡ accepted b)
  unfolding operand_refusals field_of address_of
  address_back Absent e = (refl, e)
  address_back Immediate e = (refl, (passed _ _ _ e).1)
  address_back Direct e = (refl, (passed _ _ _ e).1)
  address_back Register e = (refl, (passed _ _ _ e).1)
  address_back BitNumber e = (refl, (passed _ _ _ e).1)
  address_back Page e =
      let p = passed _ _ _ e in
      let q = passed _ _ _ p.1 in
      (page_back base z p.0 (eqb-true _ _ (not-false _ q.0)), q.1)
  address_back Far e = (refl, (passed _ _ _ e).1)
  address_back Short e = let p = passed _ _ _ e in (short_back mode base z p.0 high, (passed _ _ _ p.1).1)
  address_back Long e = let p = passed _ _ _ e in (long_back base z p.0 low high, p.1)
