-- The line ends at the first line end, or where the list does.
use Rattle.std.proofs.Common.{rules, ◌≡◌, ℕ, ◌+◌, ◌-◌, ◌<◌, ◌≤◌, eqb, ltb, cond, List, [], ◌∷◌, length, take, drop, refl, sym, ap, ◌∙◌, ◌⊎◌, inl, inr, Bor, MatchOption, slice_range, drop_of_length-le, take_all, length-drop, Option, Some, None, unwrap_or, arith}
use lib.Seq.{drop-drop}
use Rattle.std.specs.List.{position_or_len}
use Rattle.std.proofs.lemmas.Iterator.{YieldsList-from_slice}
use Rattle.std.proofs.lemmas.Iterator.Search.{position_from_yields_List}
use Rattle.std.proofs.lemmas.List.Sums.{prefix_len-le-length}
use Rattle.runner.specs.Entries.{entry_of, after_entry}
use Rattle.runner.proofs.entries.EntriesIterator.next.Goals as goal

given : (list rest front left : List ℕ) (letter n : ℕ) → list ≡ letter ∷ rest → n ≡ position_or_len (λ b. eqb b 10) rest → front ≡ take n rest → left ≡ drop (n + 1) rest
    → (Some (letter, front) ≡ entry_of list) × (left ≡ after_entry list)
given list rest front left letter n e m f l =
    let g = f ∙ ap (λ k. take k rest) m in
    let d = l ∙ ap (λ k. drop (k + 1) rest) m in
    let whole = ap entry_of (sym e) in
    (ap (λ xs. Some (letter, xs)) g ∙ whole, d ∙ ap after_entry (sym e))

at_end : (r : Option ℕ) (p long n : ℕ) → p ≤ long → r ≡ cond (ltb p long) (Some p) None → n ≡ unwrap_or r long → n ≡ p
at_end r p long n h e m = grind arith

after_line : (r : Option (Bor (List ℕ))) (e u : Bor (List ℕ)) (xs : List ℕ)
    → MatchOption r ((length xs < 1) ⊎ (length xs < length xs)) (λ x. (1 ≤ length xs) × (length xs ≤ length xs) × (x.now ≡ slice_range xs 1 (length xs)) × (length x.now + 1 ≡ length xs))
    → u ≡ unwrap_or r e → e.now ≡ [] → u.now ≡ drop 1 xs
after_line None e u xs m h k =
    let short : length xs ≤ 1 = elim m [ inl a ↦ omega (arith, a) | inr a ↦ omega (arith, a) ] in
    ap (λ b. b.now) h ∙ k ∙ sym (drop_of_length-le xs short)
after_line (Some x) e u xs m h k = ap (λ b. b.now) h ∙ m.2 ∙ take_all (length xs - 1) (drop 1 xs) (omega (arith, length-drop 1 xs))

pub returns-clause-steps : goal.returns-clause-steps
returns-clause-steps c =
    let rest = c.in_ok-letter.list.now in
    let found = position_from_yields_List (λ b. eqb b 10) _ _ _ c.position.ensures.ran (YieldsList-from_slice rest cc) (λ x b q k. search rules) in
    let n : c.unwrap_or-end.result ≡ position_or_len (λ b. eqb b 10) rest = at_end c.position.result _ (length rest) _ (prefix_len-le-length _ rest) found c.unwrap_or-end.ensures in
    let back = c.split_at.ensures.back in
    let left : c.unwrap_or-self.result.now ≡ drop (c.unwrap_or-end.result + 1) rest =
    after_line c.get.result _ _ c.split_at.result.1.now c.get.ensures.lookup.0 c.unwrap_or-self.ensures refl ∙ ap (drop 1) back ∙ drop-drop 1 c.unwrap_or-end.result rest
    in
    given c.args.self.now.0.now rest c.split_at.result.0.now c.unwrap_or-self.result.now c.in_ok-letter.letter.now c.unwrap_or-end.result (search rules) n (search rules) left
