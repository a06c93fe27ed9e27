-- The one answer of encode and the one content of its room, from the tests of the code.
-- Assumes nothing.
use Rattle.std.proofs.Common.{◌≡◌, ℕ, ◌<◌, ◌≤◌, Bool, true, false, leb, cond, List, [], ◌∷◌, ◌++◌, length, get_or, drop, ℤ, pos, sym, refl, ap, ◌∙◌, le-ltb, lt-ltb, leb-false, leb-true}
use Rattle.instruction.specs.Answer.{Answer, accepted, refused, after}
use Rattle.std.specs.Prelude.{Result, Ok, Err}
use Rattle.instruction.specs.declared.encode.EncodeError.{EncodeError}
use Rattle.instruction.specs.declared.encode.EncodeError.TheVariants.{NoRoom}
use Rattle.instruction.specs.Encode.{encoded_of, form_in, misfits, fit_answer, encode_answer, encode_room, instr_bytes}
use Rattle.instruction.specs.Range.{unfit}
use Rattle.instruction.specs.Forms.{form_at, bits, size_of}
use Rattle.instruction.specs.Kinds.{kind_at, three_of}
use Rattle.instruction.specs.ResolveOperand.{misfit_values}
use Rattle.instruction.specs.declared.answer.Misfit.{Misfit}
use Rattle.instruction.specs.declared.kind.Kinds.{Kinds}
use Rattle.instruction.specs.Parts.{parts_of}
use Rattle.instruction.specs.Code.{code_of}
use Rattle.instruction.specs.Layout.{blank, bytes_by, written_room}
use Rattle.instruction.specs.Pattern.{value}
use Rattle.instruction.specs.declared.instr.Instr.{Instr}
use Rattle.instruction.specs.declared.instr.Parts.{Parts}
use Rattle.instruction.specs.declared.kind.Shape.{Shape}
use Rattle.instruction.proofs.Known.{form_small}
use Rattle.instruction.proofs.Shapes.{sized}
use Rattle.instruction.proofs.Writing.{by_shape}
use Rattle.instruction.proofs.Judging.{pass, stop, done, first_of, past_all}

-- operand n of an instruction does not fit, or does
abbrev pub Unfit1 : Instr → Bool → Type 0
Unfit1 i t = unfit (kind_at (form_in i).shape 0) (parts_of i).a ≡ t

abbrev pub Unfit2 : Instr → Bool → Type 0
Unfit2 i t = unfit (kind_at (form_in i).shape 1) (parts_of i).b ≡ t

abbrev pub Unfit3 : Instr → Bool → Type 0
Unfit3 i t = unfit (kind_at (form_in i).shape 2) (parts_of i).c ≡ t

module _ (i : Instr) where
  pub fit1 : Unfit1 i true → refused 7 (pos 1 ∷ (parts_of i).a ∷ []) ≡ fit_answer i
  unfolding fit_answer
  fit1 a = sym (stop _ _ _ a)

  pub fit2 : Unfit1 i false → Unfit2 i true → refused 7 (pos 2 ∷ (parts_of i).b ∷ []) ≡ fit_answer i
  unfolding fit_answer
  fit2 a b = sym (pass _ _ _ a ∙ stop _ _ _ b)

  pub fit3 : Unfit1 i false → Unfit2 i false → Unfit3 i true → refused 7 (pos 3 ∷ (parts_of i).c ∷ []) ≡ fit_answer i
  unfolding fit_answer
  fit3 a b c = sym (pass _ _ _ a ∙ pass _ _ _ b ∙ stop _ _ _ c)

  pub fits : Unfit1 i false → Unfit2 i false → Unfit3 i false → accepted tt ≡ fit_answer i
  unfolding fit_answer
  fits a b c = sym (pass _ _ _ a ∙ pass _ _ _ b ∙ pass _ _ _ c ∙ done _)

-- the same of what the code was answered for its parts and its kinds, each operand read back from the machine
module _ (i : Instr) (v : Parts) (apart : v ≡ parts_of i) (k : Kinds) (kinds : k ≡ three_of (form_in i).shape) where
  pub seen1 : {z : ℤ} {t : Bool} → z ≡ v.a → unfit k.a z ≡ t → Unfit1 i t
  seen1 f e = let p : k.a ≡ kind_at (form_in i).shape 0 = ap (λ (k : Kinds). k.a) kinds in cc

  pub seen2 : {z : ℤ} {t : Bool} → z ≡ v.b → unfit k.b z ≡ t → Unfit2 i t
  seen2 f e = let p : k.b ≡ kind_at (form_in i).shape 1 = ap (λ (k : Kinds). k.b) kinds in cc

  pub seen3 : {z : ℤ} {t : Bool} → z ≡ v.c → unfit k.c z ≡ t → Unfit3 i t
  seen3 f e = let p : k.c ≡ kind_at (form_in i).shape 2 = ap (λ (k : Kinds). k.c) kinds in cc

  -- the first operand that does not fit, and what is told of it
  pub told1 : {z : ℤ} {m : Misfit} → z ≡ v.a → (unfit k.a z ≡ true) × (m ≡ record { operand = 1; value = z }) → refused 7 (misfit_values m) ≡ fit_answer i
  told1 f e = let p = fit1 i (seen1 f e.0) in let q = e.1 in cc

  module _ {x : ℤ} (fx : x ≡ v.a) (first : unfit k.a x ≡ false) where
    pub told2 : {z : ℤ} {m : Misfit} → z ≡ v.b → (unfit k.b z ≡ true) × (m ≡ record { operand = 2; value = z }) → refused 7 (misfit_values m) ≡ fit_answer i
    told2 f e = let p = fit2 i (seen1 fx first) (seen2 f e.0) in let q = e.1 in cc

    module _ {y : ℤ} (fy : y ≡ v.b) (second : unfit k.b y ≡ false) where
      pub told3 : {z : ℤ} {m : Misfit} → z ≡ v.c → (unfit k.c z ≡ true) × (m ≡ record { operand = 3; value = z }) → refused 7 (misfit_values m) ≡ fit_answer i
      told3 f e = let p = fit3 i (seen1 fx first) (seen2 fy second) (seen3 f e.0) in let q = e.1 in cc

      pub all_fit : {z : ℤ} → z ≡ v.c → unfit k.c z ≡ false → accepted tt ≡ fit_answer i
      all_fit f e = fits i (seen1 fx first) (seen2 fy second) (seen3 f e)

-- ---- encode

module _ (i : Instr) (room : List ℕ) where
  abbrev need : ℕ
  need = size_of (form_in i)

  -- what is left to say once the answer is known
  held : (r : Answer ℕ) → encode_answer i room ≡ r → (t : List ℕ) → after r (instr_bytes i ++ drop need room) room ≡ t
      → (r ≡ encode_answer i room) × (t ≡ encode_room i room)
  unfolding encode_room
  held r e t f = (sym e, rw e (sym f))

  -- a field that does not fit: encode answers what the check of the fields answered
  pub refuses : (n : ℕ) (vs : List ℤ) → refused n vs ≡ fit_answer i → (refused n vs ≡ encode_answer i room) × (room ≡ encode_room i room)
  unfolding fit_answer encode_answer
  refuses n vs e = held (refused n vs) (first_of _ tt need (misfits i) n vs (sym e)) room refl

  pub no_room_lem : accepted tt ≡ fit_answer i → length room < need → (refused 11 (pos need ∷ []) ≡ encode_answer i room) × (room ≡ encode_room i room)
  unfolding fit_answer encode_answer
  no_room_lem e h = held (refused 11 (pos need ∷ [])) (past_all _ tt need (misfits i) (sym e) ∙ stop _ _ _ (lt-ltb (length room) need h)) room refl

  pub writes : accepted tt ≡ fit_answer i → need ≤ length room → (t : List ℕ) → instr_bytes i ++ drop need room ≡ t
      → (accepted need ≡ encode_answer i room) × (t ≡ encode_room i room)
  unfolding fit_answer encode_answer
  writes e h t f =
      held (accepted need) (past_all _ tt need (misfits i) (sym e) ∙ pass _ _ _ (le-ltb (length room) need h) ∙ done _) t f

  -- the same of what the code wrote by the shape
  module _ (v : Parts) (apart : v ≡ parts_of i) (t : Shape) (shape : t ≡ (form_at v.form).shape) (u : ℕ)
      (fixed : u ≡ value (get_or (bits (form_at v.form)) 0 []) []) (fit : accepted tt ≡ fit_answer i) where
    abbrev room' : List ℕ
    room' = written_room u t v.a v.b v.c room

    needed : length (blank t) ≡ need
    needed = sized v.form t (form_small i apart) shape ∙ ap (λ (w : Parts). size_of (form_at w.form)) apart

    short : leb (length (blank t)) (length room) ≡ false → (s : List ℕ) → s ≡ room'
        → (refused 11 (pos (length (blank t)) ∷ []) ≡ encode_answer i room) × (s ≡ encode_room i room)
    unfolding written_room
    short h s e =
        let l : length room < need = rw (← needed) (leb-false (length (blank t)) (length room) h) in
        let o : s ≡ room = e ∙ rw h refl in
        rw (needed, o) (no_room_lem fit l)

    wrote : leb (length (blank t)) (length room) ≡ true → (s : List ℕ) → s ≡ room' → (accepted (length (blank t)) ≡ encode_answer i room) × (s ≡ encode_room i room)
    unfolding written_room instr_bytes
    wrote h s e =
        let l : need ≤ length room = rw (← needed) (leb-true (length (blank t)) (length room) h) in
        let ns : List ℕ = code_of v.a ∷ code_of v.b ∷ code_of v.c ∷ [] in
        let b : bytes_by u t ns ≡ instr_bytes i = by_shape v.form t (form_small i apart) shape u fixed ns ∙ rw apart refl in
        let o : instr_bytes i ++ drop need room ≡ s = sym (e ∙ rw (h, b, needed) refl) in
        rw needed (writes fit l s o)

    -- as the writing answers
    pub written : (r : Result ℕ EncodeError)
        → r ≡ cond (leb (length (blank t)) (length room)) (Ok (length (blank t))) (Err (NoRoom (length (blank t)))) → (s : List ℕ) → s ≡ room'
        → (encoded_of r ≡ encode_answer i room) × (s ≡ encode_room i room)
    written r e s f = by (leb (length (blank t)) (length room)) refl
      where
        by : (x : Bool) → leb (length (blank t)) (length room) ≡ x → (encoded_of r ≡ encode_answer i room) × (s ≡ encode_room i room)
        by true h = let p = wrote h s f in let g : r ≡ Ok (length (blank t)) = rw h at e in (rw g p.0, p.1)
        by false h = let p = short h s f in let g : r ≡ Err (NoRoom (length (blank t))) = rw h at e in (rw g p.0, p.1)
