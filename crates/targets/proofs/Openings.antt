-- What the first byte at a position says: where each answer is the answer, and what each says.
-- Assumes nothing.
use Rattle.std.proofs.Common.{◌≡◌, ℕ, ◌+◌, ◌-◌, ◌<◌, ◌≤◌, Bool, true, false, cond, ◌&&◌, ltb, leb, List, [], ◌∷◌, map, length, get_or, ℤ, pos, sym, refl, ap, ◌∙◌, arith, ltb-true, le-ltb, lt-ltb, le-leb, leb-true}
use borrow.Author.Tests.{lt-leb}
use Rattle.instruction.specs.declared.answer.CutOff.{CutOff}
use Rattle.instruction.specs.Decode.{cut_at}
use Rattle.instruction.proofs.Decoding.{cut_at_lem}
use Rattle.instruction.specs.Flow.{flow_of}
use Rattle.instruction.specs.Parts.{parts_of}
use Rattle.instruction.specs.declared.flow.Flow.{Flow}
use Rattle.instruction.specs.declared.flow.Flow.TheVariants.{Stop, Next, Jump, Branch}
use Rattle.targets.specs.At.{form_here, size_here, fits_here, instr_here, ways_here, name_here, named_by, place_of}
use Rattle.targets.specs.Opening.{opening_of}
use Rattle.targets.specs.Targets.{in_mode, by_flow, address_in, targets_in}
use Rattle.targets.specs.Ways.{is_whole, ways_of, is_naming, goes_on}
use Rattle.targets.specs.declared.opening.Opening.{Opening}
use Rattle.targets.specs.declared.not_whole.NotWhole.{NotWhole}
use Rattle.targets.specs.declared.not_whole.NotWhole.TheVariants.{Cut, Outside}
use Rattle.std.specs.Prelude.{Result, Ok, Err}
use Rattle.instruction.proofs.Ands.{both, first_part, second_part, not_first, not_second}
use Rattle.instruction.specs.declared.mode.Mode.{Mode}
use Rattle.targets.proofs.Within.{Small, form_is}

-- t where an instruction names it, then n where control goes on
abbrev asked : Bool → Bool → ℕ → ℕ → List ℕ
asked a b t n = cond a (cond b (t ∷ n ∷ []) (t ∷ [])) (cond b (n ∷ []) [])

-- what the two tests of a flow say
by_tests : (f : Flow) (t n : ℤ) → map place_of (by_flow f t n) ≡ asked (is_naming f) (goes_on f) (place_of t) (place_of n)
by_tests Stop t n = refl
by_tests Next t n = refl
by_tests Jump t n = refl
by_tests Branch t n = refl

named_by_test : (f : Flow) (t : ℕ) → named_by f t ≡ cond (is_naming f) t 65536
named_by_test Stop t = refl
named_by_test Next t = refl
named_by_test Jump t = refl
named_by_test Branch t = refl

-- a position inside an image of at most 65,536 bytes
abbrev in_memory : List ℕ → ℕ → Bool
in_memory image p = ltb p (length image) && leb (length image) 65536

module _ (image : List ℕ) (p : ℕ) where
  -- ---- where each answer is the answer

  pub past_limit : 65536 < length image → Err Outside ≡ opening_of image p
  unfolding opening_of
  past_limit h = rw (not_second (ltb p (length image)) (leb (length image) 65536) (lt-leb (length image) 65536 h))

  pub past_end : length image ≤ p → Err Outside ≡ opening_of image p
  unfolding opening_of
  past_end h = rw (le-ltb p (length image) h)

  module _ (small : length image ≤ 65536) (inside : p < length image) where
    there : in_memory image p ≡ true
    there = both _ _ (lt-ltb p (length image) inside) (le-leb (length image) 65536 small)

    pub is_cut : (n : ℕ) → n ≡ p + size_here image p → length image < n → (c : CutOff)
        → (c.position ≡ p) × (c.first ≡ get_or image p 0) × (c.missing ≡ n - length image) → Err (Cut c) ≡ opening_of image p
    unfolding opening_of fits_here
    is_cut n e h c q = rw (there, lt-leb (p + size_here image p) (length image) (rw (← e) h))
        (ap (λ (x : CutOff). Err (Cut x)) (cut_at_lem image p c q.0 q.1 (q.2 ∙ (let g : n - length image ≡ size_here image p - (length image - p) = omega arith in g))))

    pub is_whole_lem : (n : ℕ) → n ≡ p + size_here image p → n ≤ length image → (f : Flow) → f ≡ flow_of (form_here image p)
        → Ok (record { next = n; flow = f }) ≡ opening_of image p
    unfolding opening_of fits_here
    is_whole_lem n e h f g = rw (there, le-leb (p + size_here image p) (length image) (rw (← e) h), e, g)

  -- ---- what each says

  pub record IsWhole (o : Opening) : Type 0 where
    pub inside : p < length image
    pub small : length image ≤ 65536
    pub fits : fits_here image p ≡ true
    pub next : o.next ≡ p + size_here image p
    pub flow : o.flow ≡ flow_of (form_here image p)

  opens : (o : Result Opening NotWhole) → o ≡ opening_of image p → (b t : Bool) → in_memory image p ≡ b → fits_here image p ≡ t
      → o ≡ cond b (cond t (Ok (record { next = p + size_here image p; flow = flow_of (form_here image p) })) (Err (Cut (cut_at image p)))) (Err Outside)
  unfolding opening_of
  opens o e b t f g = e ∙ rw (f, g)

  pub whole_says : (o : Opening) → Ok o ≡ opening_of image p → IsWhole o
  whole_says o e = by (in_memory image p) (fits_here image p) refl refl
    where
      by : (b t : Bool) → in_memory image p ≡ b → fits_here image p ≡ t → IsWhole o
      by true true g h =
          let w = opens (Ok o) e true true g h in
          record {
            inside = ltb-true p (length image) (first_part (ltb p (length image)) _ g);
            small = leb-true (length image) 65536 (second_part (ltb p (length image)) _ g);
            fits = h;
            next = let q : o ≡ record { next = p + size_here image p; flow = flow_of (form_here image p) } = cc in ap (λ (x : Opening). x.next) q;
            flow = let q : o ≡ record { next = p + size_here image p; flow = flow_of (form_here image p) } = cc in ap (λ (x : Opening). x.flow) q;
          }
      by true false g h = let w = opens (Ok o) e true false g h in absurd (let z : ◌≡◌ {A = ℕ} 0 1 = cc in omega arith)
      by false t g h = let w = opens (Ok o) e false t g h in absurd (let z : ◌≡◌ {A = ℕ} 0 1 = cc in omega arith)

-- what each says of where control goes
module _ (mode : Mode) (image : List ℕ) (p : ℕ) where
  pub not_whole_says : (e : NotWhole) → Err e ≡ opening_of image p → (Err e ≡ ways_of mode image p) × (is_whole image p ≡ false)
  unfolding ways_of
  not_whole_says e q = by (in_memory image p) (fits_here image p) refl refl
    where
      by : (b t : Bool) → in_memory image p ≡ b → fits_here image p ≡ t → (Err e ≡ ways_of mode image p) × (is_whole image p ≡ false)
      by true true g h = let o = opens image p (Err e) q true true g h in absurd (let z : ◌≡◌ {A = ℕ} 0 1 = cc in omega arith)
      by true false g h =
          let o = opens image p (Err e) q true false g h in
          let d : e ≡ Cut (cut_at image p) = cc in
          (rw (g, h, d), not_second (in_memory image p) _ h)
      by false t g h =
          let o = opens image p (Err e) q false t g h in
          let d : e ≡ Outside = cc in
          (rw (g, d), not_first (in_memory image p) _ g)

  -- ---- where control goes

  module _ (bytes : Small image) (f : Flow) (e : f ≡ flow_of (form_here image p)) where
    flow_is : f ≡ flow_of (parts_of (instr_here image p)).form
    flow_is = e ∙ ap flow_of (sym (form_is image p bytes))

    pub goes : map place_of (by_flow f (address_in mode (p + size_here image p) (instr_here image p)) (in_mode mode (pos (p + size_here image p))))
        ≡ ways_here mode image p
    unfolding ways_here targets_in
    goes = rw (← flow_is)

    -- ---- by the two tests of the flow

    -- next as a target, and the address that the instruction names
    abbrev next_as : ℕ
    next_as = place_of (in_mode mode (pos (p + size_here image p)))

    abbrev named_as : ℕ
    named_as = place_of (address_in mode (p + size_here image p) (instr_here image p))

    pub goes_by : (a b : Bool) → is_naming f ≡ a → goes_on f ≡ b → (t n : ℕ) → t ≡ named_as → n ≡ next_as → asked a b t n ≡ ways_here mode image p
    goes_by a b g h t n x y = rw (x, y, ← g, ← h) (sym (by_tests f _ _)) ∙ goes

    pub names_by_flow : named_by f named_as ≡ name_here mode image p
    unfolding name_here
    names_by_flow = rw (← flow_is)

    pub names : (a : Bool) → is_naming f ≡ a → cond a named_as 65536 ≡ name_here mode image p
    names a g = rw (← g) (sym (named_by_test f named_as)) ∙ names_by_flow
