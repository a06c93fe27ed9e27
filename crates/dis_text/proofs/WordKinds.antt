-- What a word is, test by test.
-- Assumes nothing.
use mathlib.Core.Path.{◌≡◌, refl, ap, ◌∙◌}
use mathlib.Core.Bool.{Bool, true, false, cond}
use mathlib.Core.List.{List}
use Prim.Native.Nat.{ℕ}
use Rattle.std.specs.Prelude.{Option, Some, None}
use Rattle.text.specs.Same.{same}
use Rattle.dis_text.specs.Word.{codes, number_from, is_number, number_in, word_of}
use Rattle.dis_text.specs.declared.word.Word.TheVariants.{Number, Wraps, NoArrivals, Pin}

module _ (w : List ℕ) where
  by_tests : (p q r t : Bool) → same w (codes "--wrapping") ≡ p → same w (codes "--no-arrivals") ≡ q → same w (codes "--pin") ≡ r → is_number w ≡ t
      → cond p (Some Wraps) (cond q (Some NoArrivals) (cond r (Some Pin) (cond t (Some (Number (number_from 0 w))) None))) ≡ word_of w
  unfolding word_of
  by_tests p q r t e f g h = rw (e, f, g, h) refl

  pub wraps : same w (codes "--wrapping") ≡ true → Some Wraps ≡ word_of w
  wraps e = by_tests true _ _ _ e refl refl refl

  module _ (e : same w (codes "--wrapping") ≡ false) where
    pub no_arrivals : same w (codes "--no-arrivals") ≡ true → Some NoArrivals ≡ word_of w
    no_arrivals f = by_tests false true _ _ e f refl refl

    module _ (f : same w (codes "--no-arrivals") ≡ false) where
      pub pin : same w (codes "--pin") ≡ true → Some Pin ≡ word_of w
      pin g = by_tests false false true _ e f g refl

      module _ (g : same w (codes "--pin") ≡ false) (n : Option ℕ) (h : n ≡ number_in w) where
        pub no_number : n ≡ None → None ≡ word_of w
        unfolding number_in
        no_number z = by (is_number w) refl
          where
            by : (t : Bool) → is_number w ≡ t → None ≡ word_of w
            by true k = let x : number_in w ≡ Some (number_from 0 w) = rw k refl in cc
            by false k = by_tests false false false false e f g k

        pub a_number : (m : ℕ) → n ≡ Some m → Some (Number m) ≡ word_of w
        unfolding number_in
        a_number m z = by (is_number w) refl
          where
            by : (t : Bool) → is_number w ≡ t → Some (Number m) ≡ word_of w
            by true k =
                let x : number_in w ≡ Some (number_from 0 w) = rw k refl in
                let y : m ≡ number_from 0 w = cc in
                ap (λ (a : ℕ). Some (Number a)) y ∙ by_tests false false false true e f g k
            by false k = let x : number_in w ≡ None = rw k refl in cc
