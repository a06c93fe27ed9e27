-- The queue of a run: the waiting positions, each once. Assumes nothing.
use Prim.Native.Nat.{ℕ, ◌<◌}
use mathlib.Core.Path.{◌≡◌, sym, ◌∙◌}
use mathlib.Core.Logic.{inl}
use mathlib.Core.List.{List, Memᴰ as Among}
use lib.ListN.{get_or}
use Rattle.reach.specs.Mark.{waiting}
use Rattle.reach.specs.Note.{note, fresh}
use Rattle.reach.specs.Tracer.{Tracer}
use Rattle.reach.specs.Takes.{Base, Once}
use Rattle.reach.proofs.NoteAt.{Noticed, as_before, newly, noticed}
use Rattle.reach.proofs.Fresh.{fresh_open_among, among_open_fresh, fresh_once}

pub record Line (G : Tracer) (m queue : List ℕ) : Type 0 where
  pub inside : (q : ℕ) → Among q queue → q < G.size
  pub waits : (q : ℕ) → Among q queue → get_or m q 0 ≡ waiting
  pub all : (q : ℕ) → q < G.size → get_or m q 0 ≡ waiting → Among q queue
  pub once : Once queue

-- the queue at the start
pub line_start : (G : Tracer) (entries base : List ℕ) → Base G base → Line G (note G.size entries base) (fresh G.size entries base)
line_start G entries base B = record {
  inside = λ q i. (fresh_open_among n entries base q B.long i).1.inside;
  waits = λ q i. new q i (at q);
  all = λ q h w. back q h w (at q);
  once = fresh_once n entries base B.long;
}
  where
    n : ℕ
    n = G.size

    at : (q : ℕ) → Noticed n entries base q
    at q = noticed n entries base q B.long

    new : (q : ℕ) → Among q (fresh n entries base) → Noticed n entries base q → get_or (note n entries base) q 0 ≡ waiting
    new q i (as_before f e) = let r = fresh_open_among n entries base q B.long i in absurd (f r.0 r.1)
    new q i (newly j o e) = e

    back : (q : ℕ) → q < n → get_or (note n entries base) q 0 ≡ waiting → Noticed n entries base q → Among q (fresh n entries base)
    back q h w (as_before f e) = absurd (B.none_live q h (inl (sym e ∙ w)))
    back q h w (newly j o e) = among_open_fresh n entries base q j o
