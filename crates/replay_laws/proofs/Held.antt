-- Bytes held as one number are those bytes again; the fields of a record that hold them are in no line's way.
-- Assumes nothing.
use Prim.Native.Nat.{ℕ, zero, suc, ◌+◌, ◌*◌, ◌/◌, ◌%◌, ◌<◌, ◌≤◌, min}
use native.Mathlib.Omega.{arith}
use mathlib.Core.Path.{◌≡◌, refl, sym, ap, ap₂, subst, ◌∙◌}
use mathlib.Core.Bool.{Bool}
use mathlib.Core.List.{List, [], ◌∷◌, ◌++◌}
use lib.ListN.{length, get_or, take, drop, take-append-drop}
use lib.Seq.{get_or-drop}
use Rattle.instruction.specs.Bytes.{Bytes}
use Rattle.instruction.specs.declared.mode.Mode.{Mode}
use Rattle.replay.specs.Log.{bytes_in, number_of, partial, refusing, going, keeping}
use Rattle.replay.specs.Take.{State, state, move_now, fault_at, taken_at, lines_of, feed_of}
use Rattle.replay.specs.declared.log.Log.{Log}

bytes_back : (x : List ℕ) → Bytes x → bytes_in (length x) (number_of x) ≡ x
unfolding bytes_in number_of
bytes_back [] B = refl
bytes_back (b ∷ x) B =
    let h : b < 256 = B 0 in
    let e : (number_of x * 256 + b) % 256 ≡ b = omega arith in
    let f : (number_of x * 256 + b) / 256 ≡ number_of x = omega arith in
    ap₂ (λ (c : ℕ) (l : List ℕ). c ∷ l) e (ap (bytes_in (length x)) f ∙ bytes_back x (λ i. B (suc i)))

-- a record that holds these bytes
abbrev pub holding : Log → List ℕ → Log
holding l x = record {
  lines = l.lines;
  interrupts = l.interrupts;
  free = l.free;
  last = l.last;
  refusal = 0;
  held = length x;
  part = number_of x;
}

pub held_back : (l : Log) (x : List ℕ) → Bytes x → length x < 7 → partial (holding l x) ≡ x
unfolding partial
held_back l x B h = ap (λ (k : ℕ). bytes_in k (number_of x)) (let e : min (length x) 6 ≡ length x = omega arith in e) ∙ bytes_back x B

lines_same : (mode : Mode) (image m : List ℕ) (isEntry : ℕ → Bool) (k : ℕ) (l : Log) (x c text : List ℕ)
    → lines_of mode image m isEntry k (state (holding l x) c) text ≡ lines_of mode image m isEntry k (state l c) text
unfolding lines_of taken_at fault_at move_now keeping refusing going
lines_same mode image m isEntry zero l x c text = refl
lines_same mode image m isEntry (suc k) l x c text = refl

pub feed_same : (mode : Mode) (image m : List ℕ) (isEntry : ℕ → Bool) (l : Log) (x c text : List ℕ)
    → feed_of mode image m isEntry (state (holding l x) c) text ≡ feed_of mode image m isEntry (state l c) text
unfolding feed_of
feed_same mode image m isEntry l x c text = lines_same mode image m isEntry (length text / 7) l x c text

-- ---- bytes of parts

in_bytes : (k n i : ℕ) → get_or (bytes_in k n) i 0 < 256
unfolding bytes_in
in_bytes zero n i = omega arith
in_bytes (suc k) n zero = omega arith
in_bytes (suc k) n (suc i) = in_bytes k (n / 256) i

pub partial_bytes : (l : Log) → Bytes (partial l)
unfolding partial
partial_bytes l i = in_bytes (min l.held 6) l.part i

pub bytes_append : (x y : List ℕ) → Bytes x → Bytes y → Bytes (x ++ y)
bytes_append [] y B C i = C i
bytes_append (b ∷ x) y B C zero = B 0
bytes_append (b ∷ x) y B C (suc i) = bytes_append x y (λ j. B (suc j)) C i

pub bytes_first : (x y : List ℕ) → Bytes (x ++ y) → Bytes x
bytes_first [] y B i = omega arith
bytes_first (b ∷ x) y B zero = B 0
bytes_first (b ∷ x) y B (suc i) = bytes_first x y (λ j. B (suc j)) i

pub bytes_last : (x y : List ℕ) → Bytes (x ++ y) → Bytes y
bytes_last [] y B = B
bytes_last (b ∷ x) y B = bytes_last x y (λ j. B (suc j))

pub bytes_drop : (n : ℕ) (x : List ℕ) → Bytes x → Bytes (drop n x)
bytes_drop n x B i = subst (λ (v : ℕ). v < 256) (sym (get_or-drop n x i 0)) (B (n + i))

pub bytes_take : (n : ℕ) (x : List ℕ) → Bytes x → Bytes (take n x)
bytes_take n x B = bytes_first (take n x) (drop n x) (subst Bytes (sym (take-append-drop n x)) B)
