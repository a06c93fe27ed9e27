-- The exception goes by what is traced, as the original has it: a Jmpf under it was arrived at from the Not1 before it, which has next for its
-- only target and is no Jmpf.
-- Assumes nothing.
use Prim.Native.Nat.{ℕ, ◌+◌, ◌-◌}
use native.Mathlib.Omega.{arith}
use mathlib.Core.Bool.{true, false}
use mathlib.Core.List.{List, Memᴰ as Among}
use mathlib.Core.Path.{◌≡◌, refl, sym, ap, subst, ◌∙◌}
use lib.Dec.{eqb, leb}
use lib.ListN.{get_or}
use borrow.Author.Tests.{eqb-true}
use Rattle.instruction.specs.Bytes.{Bytes}
use Rattle.instruction.specs.Flow.{flow_of, stops, jumps, branches}
use Rattle.instruction.specs.Forms.{forms, form_at, form_of, form_named, size_of}
use Rattle.instruction.specs.Pattern.{pattern, pattern_bytes, onto, bits_given, next_bracket}
use Rattle.instruction.specs.declared.flow.Flow.TheVariants.{Next, Jump}
use Rattle.instruction.specs.declared.mode.Mode.TheVariants.{Unwrapped}
use Rattle.instruction.proofs.Ands.{both, first_part, second_part, not_first, not_second}
use Rattle.reach.specs.ClaimsWorklist.{ByTraced}
use Rattle.reach.specs.Mark.{IsTraced}
use Rattle.reach.proofs.Mark.{traced_test}
use Rattle.marks.proofs.Jmpf.{two_before}
use Rattle.marks.specs.Tracer.{tracer_of, exempt_here}
use Rattle.targets.specs.At.{form_here, size_here, instr_here, place_of, flash_here, ways_here}
use Rattle.targets.specs.Targets.{address_in}
use Rattle.targets.proofs.Openings.{goes}

-- the first byte of Not1 of 0x10D, 0
not1_size : size_of (form_at (form_of 0xB8)) ≡ 2
unfolding forms form_at form_of pattern pattern_bytes onto bits_given next_bracket
not1_size = refl

not1_flow : Next ≡ flow_of (form_of 0xB8)
unfolding flow_of stops jumps branches forms form_at form_of pattern pattern_bytes onto bits_given next_bracket
not1_flow = refl

not1_no_jmpf : eqb (form_of 0xB8) (form_named "Jmpf") ≡ false
unfolding forms form_at form_of form_named pattern pattern_bytes onto bits_given next_bracket
not1_no_jmpf = refl

jmpf_flow : Jump ≡ flow_of (form_named "Jmpf")
unfolding flow_of stops jumps branches forms form_at form_named pattern pattern_bytes onto bits_given next_bracket
jmpf_flow = refl

module _ (image : List ℕ) (B : Bytes image) where
  module _ (p : ℕ) (e : flash_here image p ≡ true) where
    byte_before : get_or image (p - 2) 0 ≡ 0xB8
    unfolding flash_here
    byte_before =
        let r = second_part (leb 2 p) _ e in
        let s = second_part (eqb (form_here image p) (form_named "Jmpf")) _ r in
        eqb-true (get_or image (p - 2) 0) 0xB8 (first_part _ _ s)

    -- control goes from it to p
    leads : Among p (ways_here Unwrapped image (p - 2))
    leads =
        let f : Next ≡ flow_of (form_here image (p - 2)) = not1_flow ∙ ap (λ (x : ℕ). flow_of (form_of x)) (sym byte_before) in
        let s : size_here image (p - 2) ≡ 2 = ap (λ (x : ℕ). size_of (form_at (form_of x))) byte_before ∙ not1_size in
        let n : p ≡ p - 2 + size_here image (p - 2) = omega (arith, s, two_before image p e) in
        subst (Among p) (goes Unwrapped image (p - 2) B Next f) (Among.head n)

    unflashed_before : flash_here image (p - 2) ≡ false
    unfolding flash_here
    unflashed_before =
        not_second (leb 2 (p - 2)) _ (not_first _ _ (ap (λ (x : ℕ). eqb (form_of x) (form_named "Jmpf")) byte_before ∙ not1_no_jmpf))

  module _ (m : List ℕ) (p : ℕ) (e : exempt_here image m p ≡ true) where
    flashed : flash_here image p ≡ true
    unfolding exempt_here
    flashed = first_part (flash_here image p) _ e

    traced_before : IsTraced (get_or m (p - 2) 0)
    unfolding exempt_here
    traced_before = (traced_test _).0 (second_part (flash_here image p) _ e)

  pub by_traced : ByTraced (tracer_of Unwrapped image)
  unfolding exempt_here
  by_traced = record {
    still = λ m m' p h more e.
        both (flash_here image p) _ (flashed m p e) ((traced_test _).1 (more (p - 2) (omega arith) (traced_before m p e)));
    before = λ m p h e. (traced_before m p e, leads p (flashed m p e));
    never = λ m m' p e. not_first (flash_here image (p - 2)) _ (unflashed_before p (flashed m p e));
  }

  -- a Jmpf has a target
  pub jmpf_leads : (p : ℕ) → form_here image p ≡ form_named "Jmpf" → (t : ℕ) × Among t (ways_here Unwrapped image p)
  jmpf_leads p e =
      let f : Jump ≡ flow_of (form_here image p) = jmpf_flow ∙ ap flow_of (sym e) in
      let t = place_of (address_in Unwrapped (p + size_here image p) (instr_here image p)) in
      (t, subst (Among t) (goes Unwrapped image p B Jump f) (Among.head refl))
