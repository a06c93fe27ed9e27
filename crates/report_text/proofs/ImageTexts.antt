-- The texts of a term's images, cut byte by byte, and that their lines are the images.
-- Assumes nothing.
use Prim.Native.Nat.{ℕ}
use mathlib.Core.Bool.{Bool, true, false, cond, ◌&&◌}
use mathlib.Core.List.{List, [], ◌∷◌, ◌++◌, map, append-nil, append_assoc}
use mathlib.Core.Path.{◌≡◌, refl, sym, ap, ap₂, ◌∙◌}
use lib.Dec.{eqb}
use lib.Seq.{append_snoc}
use borrow.Author.Tests.{eqb-true}
use Rattle.text.specs.Cut.{before, cut, lines}
use Rattle.report_text.specs.Images.{ended, images_after, images_of}

-- a text, if there is one
abbrev pub ended_text : List ℕ → List (List ℕ)
ended_text [] = []
ended_text (b ∷ h) = (b ∷ h) ∷ []

-- the texts of the images: h is what stands before, and the next byte begins a line if f says so
unfoldable pub texts : Bool → List ℕ → List ℕ → List (List ℕ)
texts f h [] = ended_text h
texts f h (b ∷ t) = cond (f && eqb b 10) (ended_text h ++ texts true [] t) (texts (eqb b 10) (h ++ b ∷ []) t)

-- no byte 10 among these
abbrev Plain : List ℕ → Type 0
Plain [] = Unit {0}
Plain (b ∷ p) = (eqb b 10 ≡ false) × Plain p

abbrev AllPlain : List (List ℕ) → Type 0
AllPlain [] = Unit {0}
AllPlain (l ∷ ls) = Plain l × AllPlain ls

-- each with its byte 10
abbrev joined : List (List ℕ) → List ℕ
joined [] = []
joined (l ∷ ls) = l ++ 10 ∷ joined ls

abbrev is_none : List ℕ → Bool
is_none [] = true
is_none (b ∷ p) = false

plain_snoc : (p : List ℕ) (c : ℕ) → Plain p → eqb c 10 ≡ false → Plain (p ++ c ∷ [])
plain_snoc [] c h e = (e, tt)
plain_snoc (b ∷ p) c h e = (h.0, plain_snoc p c h.1 e)

all_plain_snoc : (ls : List (List ℕ)) (p : List ℕ) → AllPlain ls → Plain p → AllPlain (ls ++ p ∷ [])
all_plain_snoc [] p h e = (e, tt)
all_plain_snoc (l ∷ ls) p h e = (h.0, all_plain_snoc ls p h.1 e)

joined_snoc : (ls : List (List ℕ)) (p : List ℕ) → joined (ls ++ p ∷ []) ≡ joined ls ++ (p ++ 10 ∷ [])
joined_snoc [] p = refl
joined_snoc (l ∷ ls) p = ap (λ (t : List ℕ). l ++ 10 ∷ t) (joined_snoc ls p) ∙ sym (append_assoc l (10 ∷ joined ls) (p ++ 10 ∷ []))

-- a line that ends, one that does not, and many
line_ended : (p t : List ℕ) → Plain p → lines (p ++ 10 ∷ t) ≡ p ∷ lines t
unfolding cut
line_ended [] t h = refl
line_ended (b ∷ p) t h = rw h.0 (ap (before b) (line_ended p t h.1))

line_open : (b : ℕ) (p : List ℕ) → Plain (b ∷ p) → lines (b ∷ p) ≡ (b ∷ p) ∷ []
unfolding cut
line_open b [] h = rw h.0 refl
line_open b (c ∷ p) h = rw h.0 (ap (before b) (line_open c p h.1))

lines_joined : (ls : List (List ℕ)) (p : List ℕ) → AllPlain ls → lines (joined ls ++ p) ≡ ls ++ lines p
lines_joined [] p h = refl
lines_joined (l ∷ ls) p h =
    ap lines (append_assoc l (10 ∷ joined ls) p) ∙ line_ended l (joined ls ++ p) h.0
    ∙ ap (λ (r : List (List ℕ)). l ∷ r) (lines_joined ls p h.1)

-- a text that is not empty
ended_some : (a : List ℕ) (b : ℕ) (t : List ℕ) → ended_text (a ++ b ∷ t) ≡ (a ++ b ∷ t) ∷ []
ended_some [] b t = refl
ended_some (c ∷ a) b t = refl

images_some : (ls : List (List ℕ)) (l : List ℕ) → ended (ls ++ l ∷ []) ≡ (ls ++ l ∷ []) ∷ []
images_some [] l = refl
images_some (k ∷ ls) l = refl

-- the image whose lines are these
lines_ended : (ls : List (List ℕ)) → AllPlain ls → map lines (ended_text (joined ls)) ≡ ended ls
unfolding cut
lines_ended [] h = refl
lines_ended (l ∷ ls) h =
    ap (map lines) (ended_some l 10 (joined ls))
    ∙ ap (λ (i : List (List ℕ)). i ∷ []) (ap lines (sym (append-nil (joined (l ∷ ls)))) ∙ lines_joined (l ∷ ls) [] h ∙ append-nil (l ∷ ls))

map_append : (a b : List (List ℕ)) → map lines (a ++ b) ≡ map lines a ++ map lines b
map_append [] b = refl
map_append (l ∷ a) b = ap (λ (r : List (List (List ℕ))). lines l ∷ r) (map_append a b)

-- whole lines and a line that has begun, or none
lines_open : (ls : List (List ℕ)) (b : ℕ) (p : List ℕ) → AllPlain ls → Plain (b ∷ p) → lines (joined ls ++ b ∷ p) ≡ ls ++ (b ∷ p) ∷ []
lines_open ls b p h k = lines_joined ls (b ∷ p) h ∙ ap (λ (r : List (List ℕ)). ls ++ r) (line_open b p k)

-- one more byte
texts_more : (f : Bool) (h : List ℕ) (c : ℕ) (t : List ℕ) → eqb c 10 ≡ false → texts f h (c ∷ t) ≡ texts false (h ++ c ∷ []) t
unfolding texts
texts_more true h c t e = rw e refl
texts_more false h c t e = rw e refl

texts_empty : (h : List ℕ) (c : ℕ) (t : List ℕ) → eqb c 10 ≡ true → texts true h (c ∷ t) ≡ ended_text h ++ texts true [] t
unfolding texts
texts_empty h c t e = rw e refl

texts_line : (h : List ℕ) (c : ℕ) (t : List ℕ) → eqb c 10 ≡ true → texts false h (c ∷ t) ≡ texts true (h ++ c ∷ []) t
unfolding texts
texts_line h c t e = rw e refl

texts_lines : (ls : List (List ℕ)) (p t : List ℕ) → AllPlain ls → Plain p → map lines (texts (is_none p) (joined ls ++ p) t) ≡ images_after ls (lines (p ++ t))
unfolding texts images_after cut
texts_lines ls [] [] h k = ap (λ (x : List ℕ). map lines (ended_text x)) (append-nil (joined ls)) ∙ lines_ended ls h
texts_lines ls (b ∷ p) [] h k =
    ap (map lines) (ended_some (joined ls) b p) ∙ ap (λ (i : List (List ℕ)). i ∷ []) (lines_open ls b p h k)
    ∙ sym (ap (images_after ls) (ap lines (append-nil (b ∷ p)) ∙ line_open b p k) ∙ images_some ls (b ∷ p))
texts_lines ls [] (c ∷ t) h k = by (eqb c 10) refl (texts_lines [] [] t tt tt) (λ e. texts_lines ls (c ∷ []) t h (e, tt))
  where
    by : (x : Bool) → eqb c 10 ≡ x → map lines (texts true [] t) ≡ images_after [] (lines t)
        → (eqb c 10 ≡ false → map lines (texts false (joined ls ++ c ∷ []) t) ≡ images_after ls (lines (c ∷ t)))
        → map lines (texts true (joined ls ++ []) (c ∷ t)) ≡ images_after ls (lines (c ∷ t))
    by true e i j =
        ap (map lines) (texts_empty (joined ls ++ []) c t e) ∙ map_append (ended_text (joined ls ++ [])) (texts true [] t)
        ∙ ap₂ (λ (x y : List (List (List ℕ))). x ++ y) (ap (λ (x : List ℕ). map lines (ended_text x)) (append-nil (joined ls)) ∙ lines_ended ls h) i
        ∙ sym (ap (images_after ls) (ap (λ (d : ℕ). lines (d ∷ t)) (eqb-true c 10 e)))
    by false e i j =
        ap (map lines) (texts_more true (joined ls ++ []) c t e)
        ∙ ap (λ (x : List ℕ). map lines (texts false (x ++ c ∷ []) t)) (append-nil (joined ls)) ∙ j e
texts_lines ls (b ∷ p) (c ∷ t) h k =
    by (eqb c 10) refl (texts_lines (ls ++ (b ∷ p) ∷ []) [] t (all_plain_snoc ls (b ∷ p) h k) tt)
    (λ e. texts_lines ls ((b ∷ p) ++ c ∷ []) t h (plain_snoc (b ∷ p) c k e))
  where
    by : (x : Bool) → eqb c 10 ≡ x
        → map lines (texts true (joined (ls ++ (b ∷ p) ∷ []) ++ []) t) ≡ images_after (ls ++ (b ∷ p) ∷ []) (lines t)
        → (eqb c 10 ≡ false → map lines (texts false (joined ls ++ ((b ∷ p) ++ c ∷ [])) t) ≡ images_after ls (lines ((b ∷ p) ++ c ∷ [] ++ t)))
        → map lines (texts false (joined ls ++ b ∷ p) (c ∷ t)) ≡ images_after ls (lines ((b ∷ p) ++ c ∷ t))
    by true e i j =
        let q = eqb-true c 10 e in
        ap (map lines) (texts_line (joined ls ++ b ∷ p) c t e)
        ∙ ap (λ (x : List ℕ). map lines (texts true x t))
        (append_assoc (joined ls) (b ∷ p) (c ∷ []) ∙ ap (λ (d : ℕ). joined ls ++ ((b ∷ p) ++ d ∷ [])) q ∙ sym (joined_snoc ls (b ∷ p)) ∙ sym
        (append-nil (joined (ls ++ (b ∷ p) ∷ []))))
        ∙ i
        ∙ sym (ap (images_after ls) (ap (λ (d : ℕ). lines ((b ∷ p) ++ d ∷ t)) q ∙ line_ended (b ∷ p) t k))
    by false e i j =
        ap (map lines) (texts_more false (joined ls ++ b ∷ p) c t e)
        ∙ ap (λ (x : List ℕ). map lines (texts false x t)) (append_assoc (joined ls) (b ∷ p) (c ∷ []))
        ∙ j e ∙ ap (λ (x : List ℕ). images_after ls (lines x)) (append_snoc (b ∷ p) c t)

pub texts_images : (text : List ℕ) → map lines (texts true [] text) ≡ images_of text
texts_images text = texts_lines [] [] text tt tt
