-- Packed maps joined: a word's bits are those of the mask, so where the masks are joined the words are.
-- Assumes nothing.
use Prim.Native.Nat.{ℕ, ◌+◌, ◌*◌, ◌<◌}
use native.Mathlib.Nat.{zero-add}
use mathlib.Core.Bool.{Bool, true, false, ◌&&◌, ◌||◌}
use mathlib.Core.List.{List}
use mathlib.Core.Path.{◌≡◌, refl, sym, ap, ap₂, subst, ◌∙◌}
use lib.Dec.{ltb}
use lib.ListN.{length, get_or, drop, get_or-append}
use Rattle.instruction.specs.Answer.{accepted}
use Rattle.views.specs.Mask.{masked, mask_of}
use Rattle.views_laws.proofs.ClaimsJoinViews.{masked_or}
use Rattle.trace_laws.proofs.ClaimsJoinImages.{image_joined}
use Rattle.map.specs.Bits.{one, digits}
use Rattle.map.specs.Build.{build_answer, build_words}
use Rattle.map.specs.Packed.{packed}
use Rattle.map.specs.Words.{words_for}
use Rattle.map.proofs.Digits.{one_digits, digits_moved}
use Rattle.map.proofs.Marking.{packed_mask, packed_length}
use Rattle.map.proofs.Packing.{inside, map_at}
use Rattle.map_laws.specs.ClaimsJoinMap.{or_of, MapJoined}
use Rattle.map_laws.proofs.Built.{built}

-- a word of a map that was built: the mask's bits
word_is : (image m ws : List ℕ) (k : ℕ) → build_answer image m ws ≡ accepted k → (j : ℕ) → j < words_for (length image)
    → get_or (build_words image m ws) j 0 ≡ digits (inside (length image) (masked image m)) 64 (64 * j)
word_is image m ws k a j h =
    ap (λ (l : List ℕ). get_or l j 0) (built image m ws k a).words
    ∙ get_or-append (packed (mask_of image m)) (drop (words_for (length image)) ws) 0 j (subst (λ (x : ℕ). j < x) (sym (packed_length image m)) h)
    ∙ ap (λ (l : List ℕ). get_or l j 0) (packed_mask image m) ∙ map_at (length image) (masked image m) j h

and_or : (a b c : Bool) → (a && (b || c)) ≡ ((a && b) || (a && c))
and_or true b c = refl
and_or false b c = refl

-- words whose bits are joined are joined
words_joined : (f f₁ f₂ : ℕ → Bool) → ((q : ℕ) → f q ≡ (f₁ q || f₂ q)) → (p : ℕ)
    → digits f 64 p ≡ or_of (digits f₁ 64 p) (digits f₂ 64 p)
words_joined f f₁ f₂ e p =
    digits_moved f (λ (i : ℕ). one (digits f₁ 64 p) i || one (digits f₂ 64 p) i) 64 p 0
    (λ i h. e (p + i) ∙ sym (ap₂ ◌||◌ (one_digits f₁ 64 p i h) (one_digits f₂ 64 p i h))
    ∙ ap (λ (x : ℕ). one (digits f₁ 64 p) x || one (digits f₂ 64 p) x) (sym (zero-add i)))

pub map_joined : MapJoined
unfolding inside
map_joined mode image e₁ e₂ pins m₁ m₂ m B C T₁ T₂ T ws₁ ws₂ ws k₁ k₂ k a₁ a₂ a j h =
    let o = masked_or image m₁ m₂ m (λ q l. (image_joined mode image e₁ e₂ pins m₁ m₂ m B C T₁ T₂ T q l).0) in
    word_is image m ws k a j h
    ∙ words_joined (inside (length image) (masked image m)) (inside (length image) (masked image m₁)) (inside (length image) (masked image m₂))
    (λ q. ap (λ (b : Bool). ltb q (length image) && b) (o q) ∙ and_or (ltb q (length image)) (masked image m₁ q) (masked image m₂ q)) (64 * j)
    ∙ sym (ap₂ or_of (word_is image m₁ ws₁ k₁ a₁ j h) (word_is image m₂ ws₂ k₂ a₂ j h))
