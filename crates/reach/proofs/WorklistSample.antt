-- Worklists computed: what is visited again, and a position that is followed at its first visit and no more at its second. Assumes nothing.
use mathlib.Core.Bool.{true}
use mathlib.Core.Path.{◌≡◌, refl}
use mathlib.Core.List.{[], ◌∷◌}
use lib.ListN.{get_or}
use lib.Dec.{eqb}
use Rattle.reach.specs.HowMany.{is_among}
use Rattle.reach.specs.Mark.{traced_mark}
use Rattle.reach.specs.Tracer.{Tracer}
use Rattle.reach.specs.ClaimsWorklist.{firsts}
use Rattle.reach.specs.Worklist.{targets_by, visited, uncontained, pushed, round, rounds, worklist}
use Rattle.reach.proofs.Sample.{flash_call}

-- 0 leads to 1 twice, as 80 00 does to its next, and 1 to 2 twice; 2 leads out of the image
abbrev twice : Tracer
twice = record { size = 3; fits = λ p. true; ways = λ p. get_or ((1 ∷ 1 ∷ []) ∷ (2 ∷ 2 ∷ []) ∷ (3 ∷ []) ∷ []) p []; exempt = λ m p. eqb 0 1 }

twice_visits : (worklist 5 twice (0 ∷ [])).visits ≡ 0 ∷ 1 ∷ 1 ∷ 2 ∷ 2 ∷ 2 ∷ 2 ∷ []
unfolding worklist rounds round pushed uncontained visited targets_by traced_mark is_among
twice_visits = refl

twice_firsts : firsts [] (0 ∷ 1 ∷ 1 ∷ 2 ∷ 2 ∷ 2 ∷ 2 ∷ []) ≡ 0 ∷ 1 ∷ 2 ∷ []
unfolding firsts is_among
twice_firsts = refl

-- entries 2, 0, 2: followed at its first visit, 2 leads to 0, and the jump stays
again_visits : (worklist 7 flash_call (2 ∷ 0 ∷ 2 ∷ [])).visits ≡ 2 ∷ 0 ∷ 2 ∷ 0 ∷ []
unfolding worklist rounds round pushed uncontained visited targets_by traced_mark is_among
again_visits = refl

again_jumps : (worklist 7 flash_call (2 ∷ 0 ∷ 2 ∷ [])).graph.jump_to 2 ≡ 0 ∷ []
unfolding worklist rounds round pushed uncontained visited targets_by traced_mark is_among
again_jumps = refl
