-- Any order of taking up waiting positions ends in the same marks: demand 3, where both reachable sets are one. Assumes nothing.
use Prim.Native.Nat.{ℕ, ◌<◌, ◌≤◌}
use native.Mathlib.Omega.{arith}
use mathlib.Core.Bool.{true, false}
use mathlib.Core.Path.{◌≡◌, sym, subst, ◌∙◌}
use mathlib.Core.Logic.{◌⊎◌, inl, inr, ⊎_elim}
use lib.ListN.{get_or}
use lib.Seq.{ext_get_or}
use Rattle.reach.specs.Mark.{waiting, traced, IsTraced}
use Rattle.reach.specs.Reach.{Reach}
use Rattle.reach.specs.ClaimsOrder.{ClearedBase, AnyOrder, OneFinal, SameMarks}
use Rattle.reach.proofs.Cases.{eq_or_ne, lt_or_le, yes_or_no, Decided}
use Rattle.reach.proofs.Mark.{live_ne, waits_not}
use Rattle.reach.proofs.Cleared.{length_cleared, cleared_at}
use Rattle.reach.proofs.Sound.{Why, of_base, waits, done}
use Rattle.reach.proofs.Exempt.{mark_plain}
use Rattle.reach.proofs.Within.{plain_within}
use Rattle.reach.proofs.SoundStep.{reached_sound}
use Rattle.reach.proofs.Arrived.{arrived}
use Rattle.reach.proofs.Between.{ends_between}

pub cleared_base : ClearedBase
cleared_base G m l = record { long = omega (arith, length_cleared G.size m l); none_live = λ q h v. live_ne v (cleared_at G.size m q h) }

pub any_order : AnyOrder
any_order G P base entries m B T =
    let W = plain_within G P in
    let S = reached_sound G G.ways G.ways base entries W B T.takes in
    let e = ends_between G G.ways G.ways W base entries m B T in
    let b = e.0 in
    record {
      two = λ q h. (λ e. b.traced_only q h (inl e), λ w. is_two q h (b.traced_all q w.0 w.1) (S.why q));
      one = λ q h. (λ e. b.waiting_only q h e, λ w. b.waiting_all q w.0 w.1);
      others = λ q n. ⊎_elim (λ h. b.others q h n) (λ h. e.1.stay q h) (lt_or_le q G.size);
      long = e.1.long;
    }
  where
    is_two : (q : ℕ) → q < G.size → IsTraced (get_or m q 0) → Why G G.ways base entries m q → get_or m q 0 ≡ traced
    is_two q h t (of_base e) = absurd (B.none_live q h (inr (subst IsTraced e t)))
    is_two q h t (waits e r) = absurd (waits_not e t)
    is_two q h t (done a e r f) = e ∙ mark_plain G a q (P a q)

pub one_final : OneFinal
one_final G base entries m m' F F' = ext_get_or 0 m m' (F.long ∙ sym F'.long) (λ q _. at q (lt_or_le q G.size))
  where
    off : (q : ℕ) → (Reach G G.ways base entries q → ⊥) → get_or m q 0 ≡ get_or m' q 0
    off q n = F.others q n ∙ sym (F'.others q n)

    inside : (q : ℕ) → q < G.size → Decided (get_or m q 0 ≡ traced) → Decided (get_or m q 0 ≡ waiting) → (G.fits q ≡ true) ⊎ (G.fits q ≡ false)
        → get_or m q 0 ≡ get_or m' q 0
    inside q h (inl e) w f = e ∙ sym ((F'.two q h).1 ((F.two q h).0 e))
    inside q h (inr n2) (inl e) f = e ∙ sym ((F'.one q h).1 ((F.one q h).0 e))
    inside q h (inr n2) (inr n1) (inl f) = off q (λ r. n2 ((F.two q h).1 (r, f)))
    inside q h (inr n2) (inr n1) (inr f) = off q (λ r. n1 ((F.one q h).1 (r, f)))

    at : (q : ℕ) → (q < G.size) ⊎ (G.size ≤ q) → get_or m q 0 ≡ get_or m' q 0
    at q (inl h) = inside q h (eq_or_ne (get_or m q 0) traced) (eq_or_ne (get_or m q 0) waiting) (yes_or_no (G.fits q))
    at q (inr h) = off q (λ r. absurd (omega (arith, (arrived r).inside)))

pub same_marks : SameMarks
same_marks G P base entries m m' B T T' =
    one_final G base entries m m' (any_order G P base entries m B T) (any_order G P base entries m' B T')
