-- Where control goes from a position: what each answer says, and where each is the answer.
-- Assumes nothing.
use Rattle.std.proofs.Common.{◌≡◌, ℕ, ◌+◌, ◌<◌, ◌≤◌, Bool, true, false, cond, ltb, List, map, length, ℤ, pos, sym, refl, ap, ◌∙◌, arith, ltb-true, lt-ltb, le-leb}
use Rattle.instruction.specs.CutOff.{cut_values}
use Rattle.instruction.specs.declared.answer.CutOff.{CutOff}
use Rattle.instruction.specs.Decode.{cut_at}
use Rattle.instruction.specs.Flow.{flow_of}
use Rattle.instruction.specs.declared.flow.Flow.{Flow}
use Rattle.instruction.specs.declared.flow.Flow.TheVariants.{Stop, Next, Jump, Branch}
use Rattle.instruction.specs.declared.instr.Instr.{Instr}
use Rattle.instruction.specs.Parts.{parts_of}
use Rattle.instruction.specs.declared.mode.Mode.{Mode}
use Rattle.targets.specs.At.{size_here, fits_here, instr_here, ways_here, place_of}
use Rattle.targets.specs.Here.{here_of}
use Rattle.targets.specs.Targets.{in_mode, by_flow, address_in, targets_in}
use Rattle.targets.specs.Ways.{places_in, places_named, ways_of}
use Rattle.targets.specs.declared.not_whole.NotWhole.{NotWhole}
use Rattle.targets.specs.declared.not_whole.NotWhole.TheVariants.{Cut, Outside}
use Rattle.std.specs.Prelude.{Result, Ok, Err}
use Rattle.targets.specs.declared.place.Places.{Places}
use Rattle.targets.specs.declared.place.Places.TheVariants.{Nothing, First, Both}

-- these positions named are these
pub named_back : (ps : Places) → ps ≡ places_named (places_in ps)
named_back Nothing = refl
named_back (First a) = refl
named_back (Both a b) = refl

by_flow_lem : (f : Flow) (t n : ℤ) → places_in (places_named (map place_of (by_flow f t n))) ≡ map place_of (by_flow f t n)
by_flow_lem Stop t n = refl
by_flow_lem Next t n = refl
by_flow_lem Jump t n = refl
by_flow_lem Branch t n = refl

-- an instruction has at most two targets
pub two_at_most : (mode : Mode) (image : List ℕ) (p : ℕ) → places_in (places_named (ways_here mode image p)) ≡ ways_here mode image p
unfolding ways_here targets_in
two_at_most mode image p = by_flow_lem (flow_of (parts_of (instr_here image p)).form) (address_in mode (p + size_here image p) (instr_here image p))
    (in_mode mode (pos (p + size_here image p)))

places_few : (ps : Places) → length (places_in ps) ≤ 2
places_few Nothing = omega arith
places_few (First a) = omega arith
places_few (Both a b) = omega arith

pub ways_few : (mode : Mode) (image : List ℕ) (q : ℕ) → length (ways_here mode image q) ≤ 2
ways_few mode image q = omega (arith, ap length (two_at_most mode image q), places_few (places_named (ways_here mode image q)))

module _ (image : List ℕ) (p : ℕ) where
  module _ (inside : p < length image) where
    here_is : (h : Result Instr NotWhole) → h ≡ here_of image p → (t : Bool) → fits_here image p ≡ t → h ≡ cond t (Ok (instr_here image p)) (Err (Cut (cut_at image p)))
    unfolding here_of
    here_is h e t f = e ∙ rw (lt-ltb p (length image) inside, f)

    pub here_whole : (i : Instr) → Ok i ≡ here_of image p → (fits_here image p ≡ true) × (i ≡ instr_here image p)
    here_whole i e = by (fits_here image p) refl
      where
        by : (t : Bool) → fits_here image p ≡ t → (fits_here image p ≡ true) × (i ≡ instr_here image p)
        by true f = let g = here_is (Ok i) e true f in (f, cc)
        by false f = let g = here_is (Ok i) e false f in absurd (let z : ◌≡◌ {A = ℕ} 0 1 = cc in omega arith)

  -- an instruction, whole or cut off, stands inside
  stands_inside : (h : Result Instr NotWhole) → h ≡ here_of image p → (h ≡ Err Outside → ⊥) → p < length image
  unfolding here_of
  stands_inside h e k = by (ltb p (length image)) refl
    where
      by : (b : Bool) → ltb p (length image) ≡ b → p < length image
      by true f = ltb-true p (length image) f
      by false f = absurd (k (e ∙ rw f))

  pub whole_inside : (i : Instr) → Ok i ≡ here_of image p → p < length image
  whole_inside i e = stands_inside (Ok i) e (λ f. let z : ◌≡◌ {A = ℕ} 0 1 = cc in omega arith)

module _ (mode : Mode) (image : List ℕ) (p : ℕ) (inside : p < length image) (small : length image ≤ 65536) where
  ways_is : (w : Result Places NotWhole) → w ≡ ways_of mode image p → (t : Bool) → fits_here image p ≡ t
      → w ≡ cond t (Ok (places_named (ways_here mode image p))) (Err (Cut (cut_at image p)))
  unfolding ways_of
  ways_is w e t f = e ∙ rw (lt-ltb p (length image) inside, le-leb (length image) 65536 small, f)

  pub whole_goes : fits_here image p ≡ true → (ps : Places) → places_in ps ≡ ways_here mode image p → Ok ps ≡ ways_of mode image p
  whole_goes f ps e = ap Ok (named_back ps ∙ ap places_named e) ∙ sym (ways_is (ways_of mode image p) refl true f)

  pub goes_whole : (ps : Places) → Ok ps ≡ ways_of mode image p → (fits_here image p ≡ true) × (places_in ps ≡ ways_here mode image p)
  goes_whole ps e = by (fits_here image p) refl
    where
      by : (t : Bool) → fits_here image p ≡ t → (fits_here image p ≡ true) × (places_in ps ≡ ways_here mode image p)
      by true f =
          let g = ways_is (Ok ps) e true f in
          let h : ps ≡ places_named (ways_here mode image p) = cc in (f, ap places_in h ∙ two_at_most mode image p)
      by false f = let g = ways_is (Ok ps) e false f in absurd (let z : ◌≡◌ {A = ℕ} 0 1 = cc in omega arith)

  pub goes_cut : (c : CutOff) → Err (Cut c) ≡ ways_of mode image p → (fits_here image p ≡ false) × (cut_values c ≡ cut_values (cut_at image p))
  goes_cut c e = by (fits_here image p) refl
    where
      by : (t : Bool) → fits_here image p ≡ t → (fits_here image p ≡ false) × (cut_values c ≡ cut_values (cut_at image p))
      by true f = let g = ways_is (Err (Cut c)) e true f in absurd (let z : ◌≡◌ {A = ℕ} 0 1 = cc in omega arith)
      by false f =
          let g = ways_is (Err (Cut c)) e false f in
          let h : c ≡ cut_at image p = cc in (f, ap cut_values h)

  pub never_outside : Err Outside ≡ ways_of mode image p → ⊥
  never_outside e = by (fits_here image p) refl
    where
      by : (t : Bool) → fits_here image p ≡ t → ⊥
      by true f = let g = ways_is (Err Outside) e true f in let z : ◌≡◌ {A = ℕ} 0 1 = cc in omega arith
      by false f = let g = ways_is (Err Outside) e false f in let z : ◌≡◌ {A = ℕ} 0 1 = cc in omega arith
