-- Target marks. Document 01, 'Views': 1 at positions inside the image named by a traced jump, branch or call (next is not named). The Jmpf
-- exception is judged on the final marks.
-- Assumes nothing.
use Rattle.std.specs.Prelude.{ℕ, Bool, cond, List, map, eqb, ltb, get_or, set}
use Rattle.instruction.specs.Answer.{Answer}
use Rattle.instruction.specs.declared.mode.Mode.{Mode}
use Rattle.views.specs.View.{view_answer, view_room}
use Rattle.targets.specs.Ways.{name_of}
use Rattle.reach.specs.Mark.{traced_mark}
use Rattle.marks.specs.Tracer.{exempt_here}
use Rattle.views.specs.Positions.{positions, some, bit}

-- what the position p names if it is traced and not under the exception; 65,536 is outside every image
abbrev pub named_from : Mode → List ℕ → List ℕ → ℕ → ℕ
named_from mode image m p = cond (traced_mark (get_or m p 0)) (cond (exempt_here image m p) 65536 (name_of mode image p)) 65536

-- t is named by the traced position p
abbrev pub names : Mode → List ℕ → List ℕ → ℕ → ℕ → Bool
names mode image m t p = eqb (named_from mode image m p) t

unfoldable pub labelled : Mode → List ℕ → List ℕ → ℕ → Bool
labelled mode image m t = some (names mode image m t) (positions image)

unfoldable pub labels_of : Mode → List ℕ → List ℕ → List ℕ
labels_of mode image m = map (λ (t : ℕ). bit (labelled mode image m t)) (positions image)

-- what the view answers, and what it leaves in the room
abbrev pub labels_answer : Mode → List ℕ → List ℕ → List ℕ → Answer ℕ
labels_answer mode image m room = view_answer image m (labels_of mode image m) room

abbrev pub labels_room : Mode → List ℕ → List ℕ → List ℕ → List ℕ
labels_room mode image m room = view_room image m (labels_of mode image m) room

-- of an inner function: 1 at t where it is inside
abbrev pub label_at : ℕ → ℕ → List ℕ → List ℕ
label_at n t room = cond (ltb t n) (set room t 1) room
