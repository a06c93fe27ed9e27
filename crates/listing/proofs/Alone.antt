-- An operand shown by itself is shown as that of the whole instruction: one that names an address is the last operand of a jump, a branch or a
-- call, whose first target is that address. Antt computes it for each of the 70 forms.
-- Assumes nothing.
use mathlib.Core.Path.{◌≡◌, refl, sym, ap, ◌∙◌}
use mathlib.Core.Bool.{Bool, true, false, cond, ◌&&◌}
use mathlib.Core.List.{List, [], ◌∷◌, ◌++◌}
use Prim.Native.Nat.{ℕ, ◌<◌, ◌≤◌}
use native.Mathlib.Omega.{arith}
use borrow.Author.Tests.{ltb-true, ltb-false}
use lib.Dec.{T, ltb}
use lib.IntN.{ℤ, pos, nat_abs}
use Rattle.instruction.specs.Answer.{accepted}
use Rattle.instruction.specs.Encode.{form_in, fit_answer}
use Rattle.instruction.specs.Flow.{flow_of, stops, jumps, branches}
use Rattle.instruction.specs.Forms.{forms, form_at}
use Rattle.instruction.specs.Kinds.{kinds_of, kind_at, three_of, is_given}
use Rattle.instruction.specs.Parts.{parts_of}
use Rattle.instruction.specs.Range.{unfit}
use Rattle.instruction.specs.declared.flow.Flow.{Flow}
use Rattle.instruction.specs.declared.flow.Flow.TheVariants.{Stop, Next, Jump, Branch}
use Rattle.instruction.specs.declared.instr.Instr.{Instr}
use Rattle.instruction.specs.declared.kind.Kind.{Kind}
use Rattle.instruction.specs.declared.kind.Kind.TheVariants.{Absent, Immediate, Direct, Register, BitNumber, Page, Far, Short, Long}
use Rattle.instruction.specs.declared.mode.Mode.{Mode}
use Rattle.instruction.proofs.Every.{and_left, and_right, up_to, holds}
use Rattle.instruction.proofs.Known.{known}
use Rattle.instruction.proofs.Shapes.{size_range}
use Rattle.instruction.proofs.Sign.{never}
use Rattle.targets.specs.Asked.{operand_place}
use Rattle.targets.specs.At.{place_of}
use Rattle.targets.specs.Ways.{is_naming}
use Rattle.targets.specs.Targets.{in_mode, address_of, address_in, by_flow, next_of, targets_in, targets_answer}
use Rattle.targets.proofs.AskedAlone.{past_end, found}
use Rattle.targets.proofs.AskedPlace.{past_memory, names}
use Rattle.targets.proofs.InRange.{InRange, fits_all}
use Rattle.targets.proofs.LastOperand.{third, second, first}
use Rattle.listing.specs.Alone.{field_alone, operands_alone}
use Rattle.listing.specs.Line.{fields_text}
use Rattle.listing.specs.Operand.{target, shown, shown_field, first_of, operands_by}
use Rattle.listing.proofs.Showing.{is_operands}

-- an operand of this kind names an address
abbrev is_address : Kind → Bool
is_address Absent = false
is_address Immediate = false
is_address Direct = false
is_address Register = false
is_address BitNumber = false
is_address Page = true
is_address Far = true
is_address Short = true
is_address Long = true

is_given_lem : (k : Kind) → is_address k ≡ true → is_given k ≡ true
is_given_lem Absent e = e
is_given_lem Immediate e = refl
is_given_lem Direct e = refl
is_given_lem Register e = refl
is_given_lem BitNumber e = refl
is_given_lem Page e = refl
is_given_lem Far e = refl
is_given_lem Short e = refl
is_given_lem Long e = refl

-- only such an operand is shown by a target
same_field : (t u : ℕ) (k : Kind) (n : ℕ) → (is_address k ≡ true → t ≡ u) → shown_field t k n ≡ shown_field u k n
unfolding shown
same_field t u Absent n h = refl
same_field t u Immediate n h = refl
same_field t u Direct n h = refl
same_field t u Register n h = refl
same_field t u BitNumber n h = refl
same_field t u Page n h = ap (λ (x : ℕ). 9 ∷ target x) (h refl)
same_field t u Far n h = ap (λ (x : ℕ). 9 ∷ target x) (h refl)
same_field t u Short n h = ap (λ (x : ℕ). 9 ∷ target x) (h refl)
same_field t u Long n h = ap (λ (x : ℕ). 9 ∷ target x) (h refl)

-- ---- every form

abbrev missing : Kind → Bool
missing k = cond (is_given k) false true

-- an operand that names an address is the last of a form that goes there
abbrev last_there : ℕ → Bool
last_there f =
    let k : ℕ → Kind = kind_at (form_at f).shape in
    cond (is_address (k 0)) (missing (k 1) && (missing (k 2) && is_naming (flow_of f))) true
    && (cond (is_address (k 1)) (missing (k 2) && is_naming (flow_of f)) true
    && cond (is_address (k 2)) (is_naming (flow_of f)) true)

all : T (up_to last_there 70)
unfolding forms form_at kinds_of flow_of stops jumps branches
all = tt

when : (a b : Bool) → T (cond a b true) → a ≡ true → T b
when true b t e = t
when false b t e = absurd (never (sym e))

is_true : (b : Bool) → T b → b ≡ true
is_true true t = refl
is_true false t = absurd t

not_given : (k : Kind) → T (missing k) → is_given k ≡ false
not_given k t = by (is_given k) t
  where
    by : (b : Bool) → T (cond b false true) → b ≡ false
    by true s = absurd s
    by false s = refl

module _ (mode : Mode) (p : ℕ) (i : Instr) where
  abbrev next : ℕ
  next = next_of p i

  abbrev flow : Flow
  flow = flow_of (parts_of i).form

  abbrev k : ℕ → Kind
  k n = kind_at (form_in i).shape n

  -- this operand's address is the instruction's, which control goes to
  pub record There (j : Kind) (z : ℤ) : Type 0 where
    pub address : address_of mode next j z ≡ address_in mode next i
    pub goes : is_naming flow ≡ true

  abbrev each : T (last_there (parts_of i).form)
  each = holds last_there 70 all (parts_of i).form (known i).small

  abbrev later : T (cond (is_address (k 1)) (missing (k 2) && is_naming flow) true && cond (is_address (k 2)) (is_naming flow) true)
  later = and_right (cond (is_address (k 0)) (missing (k 1) && (missing (k 2) && is_naming flow)) true) _ each

  by_first : is_address (k 0) ≡ true → There (k 0) (parts_of i).a
  by_first e =
      let t : T (missing (k 1) && (missing (k 2) && is_naming flow)) =
      when (is_address (k 0)) _ (and_left (cond (is_address (k 0)) (missing (k 1) && (missing (k 2) && is_naming flow)) true) _ each) e in
      let u : T (missing (k 2) && is_naming flow) = and_right (missing (k 1)) _ t in
      record {
        address = first mode next i (not_given (k 2) (and_left (missing (k 2)) _ u)) (not_given (k 1) (and_left (missing (k 1)) _ t));
        goes = is_true (is_naming flow) (and_right (missing (k 2)) _ u);
      }

  by_second : is_address (k 1) ≡ true → There (k 1) (parts_of i).b
  by_second e =
      let u : T (missing (k 2) && is_naming flow) =
      when (is_address (k 1)) _ (and_left (cond (is_address (k 1)) (missing (k 2) && is_naming flow) true) _ later) e in
      record {
        address = second mode next i (not_given (k 2) (and_left (missing (k 2)) _ u)) (is_given_lem (k 1) e);
        goes = is_true (is_naming flow) (and_right (missing (k 2)) _ u);
      }

  by_third : is_address (k 2) ≡ true → There (k 2) (parts_of i).c
  by_third e =
      record {
        address = third mode next i (is_given_lem (k 2) e);
        goes = is_true (is_naming flow) (when (is_address (k 2)) _ (and_right (cond (is_address (k 1)) (missing (k 2) && is_naming flow) true) _ later) e);
      }

  -- the first target of a jump, a branch or a call is its address
  goes_there : (f : Flow) (t n : ℤ) → is_naming f ≡ true → first_of (accepted (by_flow f t n)) ≡ place_of t
  goes_there Stop t n e = absurd (never (sym e))
  goes_there Next t n e = absurd (never (sym e))
  goes_there Jump t n e = refl
  goes_there Branch t n e = refl

  module _ (fit : fit_answer i ≡ accepted tt) where
    -- where the instruction ends within memory, and where it does not
    first_target : (j : Kind) (z : ℤ) → unfit j z ≡ false → There j z → operand_place mode next j z ≡ first_of (targets_answer mode p i)
    unfolding targets_in
    first_target j z u there = by (ltb 65536 next) refl
      where
        some : next ≡ 0 → ⊥
        some e = omega (arith, (size_range (parts_of i).form (known i).small).0)

        by : (b : Bool) → ltb 65536 next ≡ b → operand_place mode next j z ≡ first_of (targets_answer mode p i)
        by true e =
            let h : 65536 < next = ltb-true 65536 next e in
            sym (past_memory mode next j z h) ∙ ap first_of (past_end mode p i h)
        by false e =
            let h : next ≤ 65536 = ltb-false 65536 next e in
            sym (names mode next j z some h u) ∙ ap place_of there.address
            ∙ sym (goes_there flow (address_in mode next i) (in_mode mode (pos next)) there.goes) ∙ ap first_of (found mode p i h (sym fit))

    pub operands_alone_lem : operands_alone mode next (parts_of i) ≡ fields_text (operands_by (first_of (targets_answer mode p i)) i)
    unfolding operands_alone
    operands_alone_lem =
        let r : InRange i = fits_all i fit in
        let t : ℕ = first_of (targets_answer mode p i) in
        let v = parts_of i in
        let a : field_alone mode next (k 0) v.a ≡ shown_field t (k 0) (nat_abs v.a) =
        same_field _ t (k 0) _ (λ e. first_target (k 0) v.a r.first (by_first e)) in
        let b : field_alone mode next (k 1) v.b ≡ shown_field t (k 1) (nat_abs v.b) =
        same_field _ t (k 1) _ (λ e. first_target (k 1) v.b r.second (by_second e)) in
        let c : field_alone mode next (k 2) v.c ≡ shown_field t (k 2) (nat_abs v.c) =
        same_field _ t (k 2) _ (λ e. first_target (k 2) v.c r.third (by_third e)) in
        join a b c ∙ is_operands t i v (three_of (form_in i).shape) refl refl (nat_abs v.a) (nat_abs v.b) (nat_abs v.c) refl refl refl
      where
        join : {x x' y y' z z' : List ℕ} → x ≡ x' → y ≡ y' → z ≡ z' → x ++ (y ++ (z ++ (10 ∷ []))) ≡ x' ++ (y' ++ (z' ++ (10 ∷ [])))
        join e f g = rw (e, f, g)
