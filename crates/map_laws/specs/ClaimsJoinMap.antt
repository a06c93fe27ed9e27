-- Two students lay their packed maps over each other. Document 02, W9, for the words of W3. Proved in proofs/ClaimsJoinMap.antt.
-- Assumes nothing.
use Rattle.std.specs.Prelude.{ℕ, ◌<◌, ◌||◌, List, ◌++◌, ◌≡◌, length, get_or}
use Rattle.instruction.specs.Answer.{accepted}
use Rattle.instruction.specs.Bytes.{Bytes}
use Rattle.instruction.specs.declared.mode.Mode.{Mode}
use Rattle.trace_laws.specs.ClaimsImages.{Clean}
use Rattle.trace_laws.specs.ClaimsJoin.{TracedToEnd}
use Rattle.map.specs.Bits.{one, digits}
use Rattle.map.specs.Words.{words_for}
use Rattle.map.specs.Build.{build_answer, build_words}

-- the bitwise or of two words
abbrev pub or_of : ℕ → ℕ → ℕ
or_of v w = digits (λ (i : ℕ). one v i || one w i) 64 0

-- in each word needed, the map built for the joined lists is the bitwise or of the two maps, whatever words each was built over
abbrev pub MapJoined : Type 0
MapJoined =
    (mode : Mode) (image e₁ e₂ pins m₁ m₂ m : List ℕ) → Bytes image → Clean image
    → TracedToEnd mode image e₁ pins m₁ → TracedToEnd mode image e₂ pins m₂ → TracedToEnd mode image (e₁ ++ e₂) pins m
    → (ws₁ ws₂ ws : List ℕ) (k₁ k₂ k : ℕ)
    → build_answer image m₁ ws₁ ≡ accepted k₁ → build_answer image m₂ ws₂ ≡ accepted k₂ → build_answer image m ws ≡ accepted k
    → (j : ℕ) → j < words_for (length image)
    → get_or (build_words image m ws) j 0 ≡ or_of (get_or (build_words image m₁ ws₁) j 0) (get_or (build_words image m₂ ws₂) j 0)
