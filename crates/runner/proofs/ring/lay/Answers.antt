-- What is laid at the room's end leaves what is laid at its beginning.
use Rattle.std.proofs.Common.{◌≡◌, ℕ, ◌+◌, ◌-◌, ◌≤◌, List, [], ◌++◌, rules, arith, length, take, drop, ap, ◌∙◌, drop_of_length-le, length-append, length-drop, take_all, append_assoc, append-nil}
use Rattle.std.proofs.Math.Seq.{take-append-add}
use borrow.Rule.Slice.PartMut.{put_mid, post_of}
use Rattle.runner.proofs.ring.lay.Goals as goal

laid : (j a k : ℕ) (front ys last : List ℕ) → a ≡ length front + j → length (front ++ ys) ≤ a + k
    → put_mid a k (front ++ ys) last ≡ front ++ (take j ys ++ last)
laid j a k front ys last e h =
    let t : take a (front ++ ys) ≡ front ++ take j ys = ap (λ n. take n (front ++ ys)) e ∙ take-append-add front ys j in
    let d : post_of a k (front ++ ys) ≡ [] = drop_of_length-le (drop a (front ++ ys)) (omega (arith, length-drop a (front ++ ys))) in rw (t, d) (simp (append_assoc, append-nil))

pub returns-clause-laid : goal.returns-clause-laid
returns-clause-laid c ring =
    let a = c.args in
    let n = length a.room.now in
    let front = c.copy_from_slice.new.self in
    let five : length front ≡ 5 = search rules in
    let h : 10 ≤ n = ring.1 in
    let all : length (front ++ drop 5 a.room.now) ≡ n = length-append front (drop 5 a.room.now) ∙ omega (arith, length-drop 5 a.room.now) in
    let e = laid (n - 5 - 5) (n - 5) (length (front ++ drop 5 a.room.now) - (n - 5)) front (drop 5 a.room.now) c.copy_from_slice-2.new.self (omega arith) (omega arith) in
    let first : front ≡ drop 5 a.ten.now =
    c.copy_from_slice.ensures.after ∙ take_all (length a.ten.now - 5) (drop 5 a.ten.now) (omega (arith, length-drop 5 a.ten.now))
    in
    let middle = take (n - 5 - 5) (drop 5 a.room.now) in
    e ∙ ap (λ l. front ++ (middle ++ l)) c.copy_from_slice-2.ensures.after ∙ ap (λ f. f ++ (middle ++ take 5 a.ten.now)) first
