-- One position entered: its link, then the head of what it names.
-- Assumes nothing.
use mathlib.Core.Path.{◌≡◌, refl, sym, ap, subst, ◌∙◌}
use mathlib.Core.Bool.{Bool, true, false, cond}
use mathlib.Core.List.{List}
use Prim.Native.Nat.{ℕ, ◌+◌, ◌*◌, ◌<◌, ◌≤◌}
use native.Mathlib.Omega.{arith}
use lib.Dec.{eqb, ltb}
use lib.ListN.{length, get_or, set, length-set}
use lib.Seq.{get_or-set_same, get_or-set_other}
use borrow.Author.Tests.{lt-ltb, le-ltb, ltb-true, ltb-false, eqb-true, eqb-false}
use Rattle.instruction.specs.declared.mode.Mode.{Mode}
use Rattle.arrivals.specs.Index.{name_at, names_it, next_namer, link_of, cell_of}
use Rattle.arrivals.specs.Entered.{placed, linked, headed, Entered}
use Rattle.arrivals.proofs.Lowest.{low_here, low_later, low_no}
use Rattle.arrivals.proofs.Namers.{outside_not, by_name}

-- ---- one cell

module _ (at v : ℕ) (l : List ℕ) where
  placed_length : (b : Bool) → length (placed b at v l) ≡ length l
  placed_length true = length-set l at v
  placed_length false = refl

  placed_other : (b : Bool) (i : ℕ) → (b ≡ true → i ≡ at → ⊥) → get_or (placed b at v l) i 0 ≡ get_or l i 0
  placed_other true i n = get_or-set_other l at i v 0 (n refl)
  placed_other false i n = refl

  placed_same : (b : Bool) → b ≡ true → at < length l → get_or (placed b at v l) at 0 ≡ v
  placed_same b e h = rw e (get_or-set_same l at v 0 h)

-- none names a position outside
pub none_outside : (mode : Mode) (image m : List ℕ) (t k : ℕ) → length image ≤ t → next_namer mode image m t k ≡ 65536
none_outside mode image m t k h = low_no (names_it mode image m t) (length image) (λ q. outside_not mode image m t q h) k

module _ (mode : Mode) (image m : List ℕ) (fits : length image ≤ 65536) (q : ℕ) (h : q + 1 < length image) (l : List ℕ)
    (e : Entered mode image m (q + 1) l) where
  abbrev n : ℕ
  n = length image

  abbrev t : ℕ
  t = name_at mode image m q

  abbrev l₁ : List ℕ
  l₁ = linked n t (n + q) l

  long₁ : length l₁ ≡ 2 * n
  long₁ = placed_length (n + q) _ l (ltb t n) ∙ e.long

  -- ---- the link

  own : get_or l₁ (n + q) 0 ≡ cell_of (link_of mode image m q)
  own = by (ltb t n) refl
    where
      by : (b : Bool) → ltb t n ≡ b → get_or (placed b (n + q) (get_or l t 0) l) (n + q) 0 ≡ cell_of (link_of mode image m q)
      by true f = placed_same (n + q) (get_or l t 0) l true refl (omega (arith, e.long, h)) ∙ e.head t (ltb-true t n f)
      by false f =
          e.link q (omega (arith, h)) ∙ rw (lt-ltb q (q + 1) (omega arith)) (sym (ap cell_of (none_outside mode image m t (q + 1) (ltb-false t n f))))

  links : (r : ℕ) → r < n → get_or l₁ (n + r) 0 ≡ cond (ltb r q) 65535 (cell_of (link_of mode image m r))
  links r g = by (eqb r q) refl
    where
      other : (r ≡ q → ⊥) → get_or l₁ (n + r) 0 ≡ cond (ltb r (q + 1)) 65535 (cell_of (link_of mode image m r))
      other d = placed_other (n + q) _ l (ltb t n) (n + r) (λ b f. d (omega arith)) ∙ e.link r g

      near : (r ≡ q → ⊥) → (b : Bool) → ltb r q ≡ b → ltb r (q + 1) ≡ ltb r q
      near d true f = lt-ltb r (q + 1) (omega (arith, ltb-true r q f)) ∙ sym f
      near d false f = le-ltb r (q + 1) (omega (arith, ltb-false r q f)) ∙ sym f

      by : (b : Bool) → eqb r q ≡ b → get_or l₁ (n + r) 0 ≡ cond (ltb r q) 65535 (cell_of (link_of mode image m r))
      by true f =
          subst (λ (x : ℕ). get_or l₁ (n + x) 0 ≡ cond (ltb x q) 65535 (cell_of (link_of mode image m x))) (sym (eqb-true r q f))
          (own ∙ rw (le-ltb q q (omega arith)))
      by false f =
          let d : r ≡ q → ⊥ = eqb-false r q f in
          other d ∙ ap (λ (b : Bool). cond b 65535 (cell_of (link_of mode image m r))) (near d (ltb r q) refl)

  -- ---- the head

  abbrev l₂ : List ℕ
  l₂ = headed n t q l₁

  head₁ : (p : ℕ) → p < n → get_or l₁ p 0 ≡ cell_of (next_namer mode image m p (q + 1))
  head₁ p g = placed_other (n + q) _ l (ltb t n) p (λ b f. omega arith) ∙ e.head p g

  heads : (p : ℕ) → p < n → get_or l₂ p 0 ≡ cell_of (next_namer mode image m p q)
  heads p g = by (eqb p t) refl
    where
      there : (b : Bool) → eqb p t ≡ b → names_it mode image m p q ≡ b
      there b f = by_name mode image m p q g ∙ f

      by : (b : Bool) → eqb p t ≡ b → get_or l₂ p 0 ≡ cell_of (next_namer mode image m p q)
      by true f =
          let d : p ≡ t = eqb-true p t f in
          let x : next_namer mode image m p q ≡ q = low_here (names_it mode image m p) n q (omega (arith, h)) (there true f) in
          subst (λ (i : ℕ). get_or l₂ i 0 ≡ q) (sym d) (placed_same t q l₁ (ltb t n) (lt-ltb t n (omega (arith, d, g))) (omega (arith, d, g, long₁)))
          ∙ sym (ap cell_of x ∙ ap (λ (b : Bool). cond b q 65535) (lt-ltb q 65535 (omega (arith, h, fits))))
      by false f =
          placed_other t q l₁ (ltb t n) p (λ b d. eqb-false p t f d) ∙ head₁ p g
          ∙ ap cell_of (sym (low_later (names_it mode image m p) n q (omega (arith, h)) (there false f)))

  -- no head stands among the links
  kept : (i : ℕ) → n ≤ i → get_or l₂ i 0 ≡ get_or l₁ i 0
  kept i g = placed_other t q l₁ (ltb t n) i (λ b f. omega (arith, ltb-true t n b, f))

  pub entered : Entered mode image m q l₂
  entered = record {
    long = placed_length t q l₁ (ltb t n) ∙ long₁;
    head = heads;
    link = λ r g. kept (n + r) (omega arith) ∙ links r g;
  }
