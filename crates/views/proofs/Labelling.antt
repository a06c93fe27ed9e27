-- Target marks in one pass upward: 1 at what the positions so far name.
-- Assumes nothing.
use mathlib.Core.Path.{◌≡◌, refl, sym, ap, ap₂, ◌∙◌}
use mathlib.Core.Bool.{Bool, true, false, cond, ◌||◌}
use mathlib.Core.List.{List, ◌++◌}
use Prim.Native.Nat.{ℕ, ◌+◌, ◌<◌, ◌≤◌}
use native.Mathlib.Omega.{arith}
use native.Mathlib.Nat.{zero-add, le_antisymm}
use lib.Dec.{ltb, eqb}
use lib.ListN.{length, get_or, set, take, drop, replicate, length-map, length-replicate, get_or-replicate, take-append-drop, get_or-append}
use lib.Seq.{get_or-set_same, get_or-set_other, get_or-take, ext_get_or, length-take-le, drop-set-lt, drop_at}
use borrow.Author.Tests.{le-ltb, ltb-true, ltb-false, eqb-true, eqb-false}
use Rattle.instruction.specs.declared.mode.Mode.{Mode}
use Rattle.reach.specs.Mark.{cleared, traced_mark}
use Rattle.marks.specs.Clear.{wiped}
use Rattle.marks.specs.Tracer.{exempt_here}
use Rattle.targets.specs.Ways.{name_of}
use Rattle.views.specs.Positions.{up_from, positions, some, bit}
use Rattle.views.proofs.Ors.{or_second, or_start}
use Rattle.views.proofs.Ups.{up_length, up_at, some_snoc}
use Rattle.views.specs.Labels.{named_from, names, labelled, labels_of, label_at}

-- what one position names: nothing where it is not traced or is an exception
module _ (mode : Mode) (image m : List ℕ) (p : ℕ) where
  pub named_untraced : traced_mark (get_or m p 0) ≡ false → 65536 ≡ named_from mode image m p
  named_untraced t = rw t

  pub named_traced : traced_mark (get_or m p 0) ≡ true → (x : Bool) → exempt_here image m p ≡ x → cond x 65536 (name_of mode image p) ≡ named_from mode image m p
  named_traced t x e = sym (ap₂ (λ (a b : Bool). cond a (cond b 65536 (name_of mode image p)) 65536) t e)

pub labels_length : (mode : Mode) (image m : List ℕ) → length (labels_of mode image m) ≡ length image
unfolding labels_of
labels_length mode image m =
    length-map (positions image) (λ (t : ℕ). bit (labelled mode image m t)) ∙ up_length (length image) 0

-- a room cleared: nothing is marked, and the rest stays
module _ (n : ℕ) (room base : List ℕ) (fits : n ≤ length room) (e : base ≡ wiped n room) where
  wide : base ≡ replicate n 0 ++ drop n room
  unfolding wiped cleared
  wide = e ∙ rw (le-ltb (length room) n fits)

  pub clear_at : (t : ℕ) → t < n → get_or base t 0 ≡ 0
  clear_at t h =
      ap (λ (u : List ℕ). get_or u t 0) wide ∙ get_or-append (replicate n 0) (drop n room) 0 t (omega (arith, length-replicate {A = ℕ} n 0))
      ∙ get_or-replicate n t 0 0 h

  pub clear_rest : drop n base ≡ drop n room
  clear_rest = ap (drop n) wide ∙ drop_at (replicate n 0) (drop n room) n (length-replicate {A = ℕ} n 0)

module _ (mode : Mode) (image m base : List ℕ) where
  abbrev n : ℕ
  n = length image

  -- what the positions below p name is marked, and the rest of the room stays
  pub record Labels (p : ℕ) (v : List ℕ) : Type 0 where
    pub long : length v ≡ length base
    pub marked : (t : ℕ) → t < n → get_or v t 0 ≡ bit (some (names mode image m t) (up_from p 0))
    pub rest : drop n v ≡ drop n base

  pub labels_start : ((t : ℕ) → t < n → get_or base t 0 ≡ 0) → Labels 0 base
  unfolding some up_from
  labels_start c = record { long = refl; marked = c; rest = refl }

  module _ (fits : n ≤ length base) where
    module _ (p : ℕ) (v : List ℕ) (L : Labels p v) where
      -- one more is named
      more : (t : ℕ) → t < n → get_or (label_at n (named_from mode image m p) v) t 0 ≡ bit (some (names mode image m t) (up_from p 0) || names mode image m t p)
      more t h = by (eqb (named_from mode image m p) t) refl (ltb (named_from mode image m p) n) refl
        where
          by : (a : Bool) → eqb (named_from mode image m p) t ≡ a → (b : Bool) → ltb (named_from mode image m p) n ≡ b
              → get_or (cond b (set v (named_from mode image m p) 1) v) t 0 ≡ bit (some (names mode image m t) (up_from p 0) || a)
          by true e true f =
              ap (λ (k : ℕ). get_or (set v k 1) t 0) (eqb-true (named_from mode image m p) t e)
              ∙ get_or-set_same v t 1 0 (omega (arith, L.long)) ∙ ap bit (sym (or_second (some (names mode image m t) (up_from p 0)) true refl))
          by true e false f =
              absurd (let g = ltb-false (named_from mode image m p) n f in let k = eqb-true (named_from mode image m p) t e in omega arith)
          by false e true f =
              get_or-set_other v (named_from mode image m p) t 1 0 (λ k. eqb-false (named_from mode image m p) t e (sym k)) ∙ L.marked t h
              ∙ ap bit (sym (or_start (some (names mode image m t) (up_from p 0)) false refl))
          by false e false f = L.marked t h ∙ ap bit (sym (or_start (some (names mode image m t) (up_from p 0)) false refl))

      kept : (b : Bool) → ltb (named_from mode image m p) n ≡ b → drop n (cond b (set v (named_from mode image m p) 1) v) ≡ drop n v
      kept true f = drop-set-lt n v (named_from mode image m p) 1 (ltb-true (named_from mode image m p) n f)
      kept false f = refl

      pub labels_next : (v' : List ℕ) → v' ≡ label_at n (named_from mode image m p) v → length v' ≡ length v → Labels (p + 1) v'
      labels_next v' f l =
          record {
            long = l ∙ L.long;
            marked =
                λ k h. ap (λ (u : List ℕ). get_or u k 0) f ∙ more k h
                ∙ ap bit (sym (some_snoc (names mode image m k) p 0
                ∙ ap (λ (q : ℕ). some (names mode image m k) (up_from p 0) || names mode image m k q) (zero-add p)));
            rest = ap (drop n) f ∙ kept (ltb (named_from mode image m p) n) refl ∙ L.rest;
          }

    pub labels_end : (p : ℕ) → p ≤ n → n ≤ p → (v : List ℕ) → Labels p v → v ≡ labels_of mode image m ++ drop n base
    unfolding labels_of labelled
    labels_end p h k v L =
        let s : length (take n v) ≡ n = length-take-le n v (omega (arith, L.long)) in
        sym (take-append-drop n v)
        ∙ ap (λ (u : List ℕ). u ++ drop n v) (ext_get_or 0 (take n v) (labels_of mode image m) (s ∙ sym (labels_length mode image m))
        (λ i q.
        let j : i < n = omega (arith, s) in
        get_or-take n v i 0 j ∙ L.marked i j ∙ ap (λ (e : ℕ). bit (some (names mode image m i) (up_from e 0))) (le_antisymm h k)
        ∙ sym (up_at (λ (t : ℕ). bit (labelled mode image m t)) n 0 i j ∙ ap (λ (t : ℕ). bit (labelled mode image m t)) (zero-add i))))
        ∙ ap (λ (u : List ℕ). labels_of mode image m ++ u) L.rest
