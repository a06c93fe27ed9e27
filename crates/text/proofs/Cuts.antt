-- A text cut, piece by piece.
-- Assumes nothing.
use mathlib.Core.Path.{◌≡◌, refl, ap, ◌∙◌}
use mathlib.Core.Bool.{Bool, true, false, cond}
use mathlib.Core.List.{List, [], ◌∷◌}
use Prim.Native.Nat.{ℕ, suc, ◌+◌, ◌-◌, ◌≤◌, ◌<◌}
use native.Mathlib.Omega.{arith}
use lib.Dec.{eqb, ltb}
use lib.ListN.{length, take, drop, drop_of_length-le, length-drop}
use lib.Seq.{drop-drop}
use borrow.Author.Tests.{ltb-true, ltb-false}
use Rattle.std.specs.Prelude.{Option, Some, None}
use Rattle.std.specs.List.{position_or_len}
use Rattle.std.specs.Option.{unwrap_or}
use Rattle.std.proofs.lemmas.List.Recursion.{is_position_or_len}
use Rattle.text.specs.Cut.{before, cut, up_to, lines}

-- a turn over a piece brings the end nearer
pub nearer : (n at e k : ℕ) → e ≡ at + k → at < n → n - (e + 1) < n - at
nearer n at e k p h = omega arith

-- where the first piece of what is left ends
module _ (s : ℕ) (t : List ℕ) (i : ℕ) where
  pub first_end : length t ≤ i → up_to s (drop i t) ≡ []
  unfolding up_to
  first_end h = rw (drop_of_length-le t h)

-- a piece ends inside the text
up_to_most : (s : ℕ) (t : List ℕ) → length (up_to s t) ≤ length t
unfolding up_to
up_to_most s [] = omega arith
up_to_most s (b ∷ t) = by (up_to_most s t) (eqb b s)
  where
    by : length (up_to s t) ≤ length t → (x : Bool) → length (cond x [] (b ∷ up_to s t)) ≤ suc (length t)
    by h true = omega arith
    by h false = omega arith

-- the first piece goes up to the first byte s, or to the end
to_first : (s : ℕ) (t : List ℕ) → length (up_to s t) ≡ position_or_len (λ (b : ℕ). eqb b s) t
unfolding up_to
to_first s t = is_position_or_len (λ (u : List ℕ). length (up_to s u)) (λ (b : ℕ). eqb b s) refl step t
  where
    step : (b : ℕ) (u : List ℕ) → length (up_to s (b ∷ u)) ≡ cond (eqb b s) 0 (1 + length (up_to s u))
    step b u = by (eqb b s)
      where
        by : (x : Bool) → length (cond x [] (b ∷ up_to s u)) ≡ cond x 0 (1 + length (up_to s u))
        by true = refl
        by false = omega arith

-- where a search for byte s says that the first piece ends
pub found_at : (s : ℕ) (t : List ℕ) (o : Option ℕ) → o ≡ cond (ltb (position_or_len (λ (b : ℕ). eqb b s) t) (length t)) (Some (position_or_len (λ (b : ℕ). eqb b s) t)) None
    → unwrap_or o (length t) ≡ length (up_to s t)
found_at s t o e = rw (e, ← to_first s t) (by (ltb (length (up_to s t)) (length t)) refl)
  where
    by : (x : Bool) → ltb (length (up_to s t)) (length t) ≡ x → unwrap_or (cond x (Some (length (up_to s t))) None) (length t) ≡ length (up_to s t)
    by true f = refl
    by false f = let k = ltb-false (length (up_to s t)) (length t) f in let h = up_to_most s t in omega arith

pub end_inside : (s : ℕ) (t : List ℕ) (at : ℕ) → at ≤ length t → at + length (up_to s (drop at t)) ≤ length t
end_inside s t at h = omega (arith, up_to_most s (drop at t), length-drop at t)

module _ (s : ℕ) where
  pub take_first : (t : List ℕ) → take (length (up_to s t)) t ≡ up_to s t
  unfolding up_to
  take_first [] = refl
  take_first (b ∷ t) = go (take_first t) (eqb b s)
    where
      go : take (length (up_to s t)) t ≡ up_to s t → (x : Bool) → take (length (cond x [] (b ∷ up_to s t))) (b ∷ t) ≡ cond x [] (b ∷ up_to s t)
      go r true = refl
      go r false = ap (λ (l : List ℕ). b ∷ l) r

  -- a piece that a byte s ends, and then the pieces of the rest
  pub cut_more : (last : List (List ℕ)) (t : List ℕ) → length (up_to s t) < length t → cut s last t ≡ up_to s t ∷ cut s last (drop (suc (length (up_to s t))) t)
  unfolding cut up_to
  cut_more last [] h = absurd (omega arith)
  cut_more last (b ∷ t) h = go (cut_more last t) (eqb b s) h
    where
      go : (length (up_to s t) < length t → cut s last t ≡ up_to s t ∷ cut s last (drop (suc (length (up_to s t))) t))
          → (x : Bool) → length (cond x [] (b ∷ up_to s t)) < suc (length t)
          → cond x ([] ∷ cut s last t) (before b (cut s last t)) ≡ cond x [] (b ∷ up_to s t)
          ∷ cut s last (drop (suc (length (cond x [] (b ∷ up_to s t)))) (b ∷ t))
      go r true h = refl
      go r false h = ap (before b) (r (omega arith))

  -- the last piece, of a byte or more
  pub cut_last : (last : List (List ℕ)) → ((b : ℕ) → before b last ≡ (b ∷ []) ∷ []) → (t : List ℕ) → 0 < length t → length (up_to s t) ≡ length t
      → cut s last t ≡ up_to s t ∷ []
  unfolding cut up_to
  cut_last last f [] h e = absurd (omega arith)
  cut_last last f (b ∷ []) h e = go (eqb b s) e
    where
      go : (x : Bool) → length (cond x [] (b ∷ [])) ≡ 1 → cond x ([] ∷ last) (before b last) ≡ cond x [] (b ∷ []) ∷ []
      go true e = absurd (omega arith)
      go false e = f b
  cut_last last f (b ∷ a ∷ t) h e = go (cut_last last f (a ∷ t) (omega arith)) (eqb b s) e
    where
      go : (length (up_to s (a ∷ t)) ≡ length (a ∷ t) → cut s last (a ∷ t) ≡ up_to s (a ∷ t) ∷ [])
          → (x : Bool) → length (cond x [] (b ∷ up_to s (a ∷ t))) ≡ length (b ∷ a ∷ t)
          → cond x ([] ∷ cut s last (a ∷ t)) (before b (cut s last (a ∷ t))) ≡ cond x [] (b ∷ up_to s (a ∷ t)) ∷ []
      go r true e = absurd (omega arith)
      go r false e = ap (before b) (r (omega arith))

-- the last field, which may be empty
last_field : (s : ℕ) (t : List ℕ) → length (up_to s t) ≡ length t → cut s ([] ∷ []) t ≡ up_to s t ∷ []
unfolding cut up_to
last_field s [] e = refl
last_field s (b ∷ t) e = cut_last s ([] ∷ []) (λ (b : ℕ). refl) (b ∷ t) (omega arith) e

-- the piece at `at` of a text, which ends at e
module _ (s : ℕ) (t : List ℕ) (at e : ℕ) (p : e ≡ at + length (up_to s (drop at t))) where
  pub piece_inside : at ≤ length t → e ≤ length t
  piece_inside h = let k = end_inside s t at h in omega arith

  pub the_piece : take (e - at) (drop at t) ≡ up_to s (drop at t)
  the_piece = let q : e - at ≡ length (up_to s (drop at t)) = omega arith in rw q (take_first s (drop at t))

  the_rest : drop (suc (length (up_to s (drop at t)))) (drop at t) ≡ drop (e + 1) t
  the_rest =
      let q : e + 1 ≡ at + suc (length (up_to s (drop at t))) = omega arith in
      rw (q, ← drop-drop)

  pub piece_more : (last : List (List ℕ)) → e < length t → cut s last (drop at t) ≡ take (e - at) (drop at t) ∷ cut s last (drop (e + 1) t)
  piece_more last h =
      cut_more s last (drop at t) (simp length-drop (omega arith))
      ∙ rw (the_piece, the_rest)

  to_end : e ≡ length t → length (up_to s (drop at t)) ≡ length (drop at t)
  to_end g = simp length-drop (omega arith)

-- the piece at `at`, which byte s ends or the text, and then those of the rest
module _ (s : ℕ) (t : List ℕ) (at : ℕ) where
  pub piece_next : (e : ℕ) → e ≡ at + length (up_to s (drop at t)) → at < length t
      → cut s [] (drop at t) ≡ take (e - at) (drop at t) ∷ cut s [] (drop (e + 1) t)
  unfolding cut
  piece_next e p h = by (ltb e (length t)) refl
    where
      by : (x : Bool) → ltb e (length t) ≡ x → cut s [] (drop at t) ≡ take (e - at) (drop at t) ∷ cut s [] (drop (e + 1) t)
      by true f = piece_more s t at e p [] (ltb-true e (length t) f)
      by false f =
          let g = ltb-false e (length t) f in
          let k = piece_inside s t at e p (omega arith) in
          let k' : length t ≤ e + 1 = omega arith in
          cut_last s [] (λ (b : ℕ). refl) (drop at t) (simp length-drop (omega arith)) (to_end s t at e p (omega arith))
          ∙ rw (← the_piece s t at e p, drop_of_length-le t k')

  -- none is left
  pub pieces_end : length t ≤ at → cut s [] (drop at t) ≡ []
  unfolding cut
  pieces_end h = rw (drop_of_length-le t h)

-- the line at `at`, and then the lines of the rest
pub line_next : (t : List ℕ) (at e : ℕ) → e ≡ at + length (up_to 10 (drop at t)) → at < length t
    → lines (drop at t) ≡ take (e - at) (drop at t) ∷ lines (drop (e + 1) t)
line_next = piece_next 10

-- no line is left
pub lines_end : (t : List ℕ) (at : ℕ) → length t ≤ at → lines (drop at t) ≡ []
lines_end = pieces_end 10

-- the field at `at`: the last one, or others follow
pub field_last : (t : List ℕ) (at e : ℕ) → e ≡ at + length (up_to 9 (drop at t)) → e ≡ length t → cut 9 ([] ∷ []) (drop at t) ≡ take (e - at) (drop at t) ∷ []
field_last t at e p g = last_field 9 (drop at t) (to_end 9 t at e p g) ∙ rw (← the_piece 9 t at e p)

pub field_next : (t : List ℕ) (at e : ℕ) → e ≡ at + length (up_to 9 (drop at t)) → e < length t
    → cut 9 ([] ∷ []) (drop at t) ≡ take (e - at) (drop at t) ∷ cut 9 ([] ∷ []) (drop (e + 1) t)
field_next t at e p h = piece_more 9 t at e p ([] ∷ []) h
