-- Bytes held one after another, up to the first that ends an image.
-- Assumes nothing.
use Prim.Native.Nat.{ℕ, suc, ◌+◌, ◌≤◌, ◌<◌, min}
use native.Mathlib.Nat.{zero-add, add-zero}
use native.Mathlib.Omega.{arith}
use mathlib.Core.Bool.{Bool, true, false, ◌&&◌}
use mathlib.Core.List.{List, [], ◌∷◌, append-nil}
use mathlib.Core.Logic.{◌⊎◌, inl, inr}
use mathlib.Core.Path.{◌≡◌, refl, sym, ap, ap₂, ◌∙◌}
use lib.Dec.{eqb}
use lib.ListN.{length, get_or, take, drop, length-drop, drop_of_length-le}
use lib.Seq.{drop-cons, drop-drop}
use borrow.Author.Tests.{eq-eqb, ne_eqb}
use Rattle.instruction.proofs.Ands.{not_first, not_second}
use Rattle.instruction.proofs.Sign.{never}
use Rattle.report_text.specs.Term.{State, state, most, held_in, pushed_count, pushed_room, pushed, is_empty_line, completes, step_to, step_out}
use Rattle.report_text.specs.Term.{fed_to, fed_out, used_in, Gathering}
use Rattle.report_text.specs.Going.{going, Gone, Ended}
use Rattle.report_text.specs.declared.sums.Sums.{Sums}
use Rattle.report_text.specs.declared.term.Term.{Term}

pub gone_none : (s : State) (text : List ℕ) → Gone s text s 0
gone_none s text = record {
  inside = omega arith;
  used = sym (zero-add (used_in s text));
  to = λ n. ap (λ (k : ℕ). fed_to s (take k text)) (zero-add n);
  out = λ n. ap (λ (k : ℕ). fed_out s (take k text)) (zero-add n);
}

module _ {s : State} {text : List ℕ} {t : State} {at : ℕ} (g : Gone s text t at) (h : at < length text) where
  abbrev byte : ℕ
  byte = get_or text at 0

  abbrev rest : List ℕ
  rest = drop (suc at) text

  splits : drop at text ≡ byte ∷ rest
  splits = drop-cons text at 0 h

  more_is : (n : ℕ) → at + 1 + n ≡ at + suc n
  more_is n = omega arith

  rest_is : rest ≡ drop (at + 1) text
  rest_is = let z : suc at ≡ at + 1 = omega arith in ap (λ (k : ℕ). drop k text) z

  -- a byte at which nothing is printed
  module _ (u : State) (e : step_to t byte ≡ u) (c : completes t.term byte ≡ false) where
    used_more : used_in t (byte ∷ rest) ≡ suc (used_in u rest)
    unfolding used_in
    used_more = rw c (ap (λ (x : State). suc (used_in x rest)) e)

    out_more : (l : List ℕ) → fed_out t (byte ∷ l) ≡ fed_out u l
    unfolding fed_out
    out_more l = rw c (ap (λ (x : State). fed_out x l) e)

    to_more : (l : List ℕ) → fed_to t (byte ∷ l) ≡ fed_to u l
    unfolding fed_to
    to_more l = ap (λ (x : State). fed_to x l) e

    pub gone_more : Gone s text u (at + 1)
    gone_more = record {
      inside = omega arith;
      used =
          let z : at + suc (used_in u rest) ≡ at + 1 + used_in u rest = omega arith in
          g.used ∙ ap (λ (x : List ℕ). at + used_in t x) splits ∙ ap (λ (k : ℕ). at + k) used_more ∙ z
          ∙ ap (λ (x : List ℕ). at + 1 + used_in u x) rest_is;
      to = λ n.
          ap (λ (k : ℕ). fed_to s (take k text)) (more_is n) ∙ g.to (suc n) ∙ ap (λ (x : List ℕ). fed_to t (take (suc n) x)) splits
          ∙ to_more (take n rest) ∙ ap (λ (x : List ℕ). fed_to u (take n x)) rest_is;
      out = λ n.
          ap (λ (k : ℕ). fed_out s (take k text)) (more_is n) ∙ g.out (suc n) ∙ ap (λ (x : List ℕ). fed_out t (take (suc n) x)) splits
          ∙ out_more (take n rest) ∙ ap (λ (x : List ℕ). fed_out u (take n x)) rest_is;
    }

  -- the byte that ends an image
  used_ended : completes t.term byte ≡ true → used_in t (byte ∷ rest) ≡ 1
  unfolding used_in
  used_ended c = rw c refl

  pub gone_ended : byte ≡ 10 → completes t.term byte ≡ true → Ended s text t (at + 1)
  unfolding fed_to fed_out
  gone_ended q c = record {
    complete = ap (completes t.term) (sym q) ∙ c;
    used = g.used ∙ ap (λ (x : List ℕ). at + used_in t x) splits ∙ ap (λ (k : ℕ). at + k) (used_ended c);
    to = g.to 1 ∙ ap (λ (x : List ℕ). fed_to t (take 1 x)) splits ∙ ap (step_to t) q;
    out = g.out 1 ∙ ap (λ (x : List ℕ). fed_out t (take 1 x)) splits ∙ append-nil (step_out t byte) ∙ ap (step_out t) q;
  }

-- one part after another
on_is : (at k n : ℕ) → at + k + n ≡ at + (k + n)
on_is at k n = omega arith

module _ {s : State} {text : List ℕ} {t : State} {at : ℕ} (g : Gone s text t at) {u : State} {k : ℕ} where
  pub gone_on : Gone t (drop at text) u k → Gone s text u (at + k)
  gone_on h = record {
    inside = let l = length-drop at text in let i = h.inside in let j = g.inside in omega arith;
    used =
        let z : at + (k + used_in u (drop (at + k) text)) ≡ at + k + used_in u (drop (at + k) text) = omega arith in
        g.used ∙ ap (λ (n : ℕ). at + n) (h.used ∙ ap (λ (x : List ℕ). k + used_in u x) (drop-drop k at text)) ∙ z;
    to = λ n.
        ap (λ (j : ℕ). fed_to s (take j text)) (on_is at k n) ∙ g.to (k + n) ∙ h.to n ∙ ap (λ (x : List ℕ). fed_to u (take n x)) (drop-drop k at text);
    out = λ n.
        ap (λ (j : ℕ). fed_out s (take j text)) (on_is at k n) ∙ g.out (k + n) ∙ h.out n ∙ ap (λ (x : List ℕ). fed_out u (take n x)) (drop-drop k at text);
  }

  pub ended_on : Ended t (drop at text) u k → Ended s text u (at + k)
  ended_on h = record {
    complete = h.complete;
    used = g.used ∙ ap (λ (n : ℕ). at + n) h.used;
    to = g.to k ∙ h.to;
    out = g.out k ∙ h.out;
  }

-- the whole text
pub gone_whole : {s : State} {text : List ℕ} {t : State} {at : ℕ} → Gone s text t at → length text ≤ at
    → (used_in s text ≡ at) × (fed_to s (take at text) ≡ t) × (fed_out s (take at text) ≡ [])
unfolding used_in fed_to fed_out
gone_whole {s} {text} {t} {at} g h =
    let d : drop at text ≡ [] = drop_of_length-le text h in
    let z : at ≡ at + 0 = omega arith in (
      g.used ∙ ap (λ (x : List ℕ). at + used_in t x) d ∙ add-zero at,
      ap (λ (k : ℕ). fed_to s (take k text)) z ∙ g.to 0 ∙ ap (λ (x : List ℕ). fed_to t (take 0 x)) d,
      ap (λ (k : ℕ). fed_out s (take k text)) z ∙ g.out 0 ∙ ap (λ (x : List ℕ). fed_out t (take 0 x)) d,
    )

-- the three kinds of byte
module _ (s : Sums) (held : ℕ) (fresh : Bool) (room : List ℕ) (b : ℕ) where
  abbrev now : State
  now = going s held fresh room

  none : held ≡ 0 → eqb (held_in now.term) 0 ≡ true
  none e = eq-eqb (min held most) 0 (omega arith)

  some : (held ≡ 0 → ⊥) → eqb (held_in now.term) 0 ≡ false
  some e = ne_eqb (min held most) 0 (λ z. e (omega arith))

  pub byte_ends : fresh ≡ true → eqb b 10 ≡ true → (held ≡ 0 → ⊥) → completes now.term b ≡ true
  byte_ends e f g = rw (e, f, some g) refl

  pub byte_skipped : fresh ≡ true → eqb b 10 ≡ true → held ≡ 0 → (step_to now b ≡ now) × (completes now.term b ≡ false)
  unfolding step_to
  byte_skipped e f g = (rw (e, f, none g) refl, rw (e, f, none g) refl)

  pub byte_held : is_empty_line now.term b ≡ false → (step_to now b ≡ pushed now b) × (completes now.term b ≡ false)
  unfolding step_to
  byte_held e = (rw e refl, rw e refl)

pub not_both : (a b : Bool) → (a ≡ false) ⊎ (b ≡ false) → (a && b) ≡ false
not_both a b (inl e) = not_first a b e
not_both a b (inr e) = not_second a b e

-- what the code pushes
pub pushed_as : (s : Sums) (held : ℕ) (fresh : Bool) (room : List ℕ) (b n : ℕ) (r : List ℕ) → n ≡ pushed_count held → r ≡ pushed_room room held b
    → pushed (going s held fresh room) b ≡ going s n (eqb b 10) r
unfolding pushed
pushed_as s held fresh room b n r e f = ap₂ (λ (x : ℕ) (y : List ℕ). going s x (eqb b 10) y) (sym e) (sym f)

-- a record that is not over, written out
as_going : (t : Term) (room : List ℕ) → t.over ≡ false → going t.sums t.held t.fresh room ≡ state t room
as_going t room o = ap (λ (x : Bool). state (record { sums = t.sums; held = t.held; fresh = t.fresh; over = x }) room) (sym o)

module _ (t : Term) (text room : List ℕ) (o : t.over ≡ false) (held : ℕ) (fresh : Bool) (room' : List ℕ) (at : ℕ) where
  abbrev then : State
  then = going t.sums held fresh room'

  abbrev begin : State
  begin = going t.sums t.held t.fresh room

  abbrev same : begin ≡ state t room
  same = as_going t room o

  pub ends : Ended begin text then at → Gathering t text room room' (record { held = held; fresh = fresh; used = at; complete = true })
  ends g = record {
    used_is = sym g.used ∙ ap (λ (x : State). used_in x text) same;
    whole = λ f. absurd (never f);
    ended = λ f. (
      g.complete,
      ap (λ (x : State). fed_to x (take at text)) (sym same) ∙ g.to,
      ap (λ (x : State). fed_out x (take at text)) (sym same) ∙ g.out,
    );
  }

  pub whole : (used_in begin text ≡ at) × (fed_to begin (take at text) ≡ then) × (fed_out begin (take at text) ≡ [])
      → Gathering t text room room' (record { held = held; fresh = fresh; used = at; complete = false })
  whole g = record {
    used_is = sym g.0 ∙ ap (λ (x : State). used_in x text) same;
    whole = λ f. (
      ap (λ (x : State). fed_to x (take at text)) (sym same) ∙ g.1,
      ap (λ (x : State). fed_out x (take at text)) (sym same) ∙ g.2,
    );
    ended = λ f. absurd (never (sym f));
  }
