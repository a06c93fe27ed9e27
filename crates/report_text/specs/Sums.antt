-- The sums over the accepted images, the number accepted and the number refused. Document 02, W14: all exact in 64 bits.
-- Assumes nothing.
use Rattle.std.specs.Prelude.{ℕ, ◌+◌, Bool, true, ◌&&◌, List, [], ◌∷◌, leb}
use Rattle.instruction.specs.Answer.{Answer, accepted, refused}
use Rattle.report_text.specs.declared.figures.Figures.{Figures}
use Rattle.report_text.specs.declared.sums.Sums.{Sums}

-- the numbers in the order in which they are printed
abbrev pub figure_list : Figures → List ℕ
figure_list f = f.length ∷ f.steps ∷ f.code ∷ f.plain ∷ f.shared ∷ f.targets ∷ []

abbrev pub sum_list : Sums → List ℕ
sum_list s = s.length ∷ s.steps ∷ s.code ∷ s.plain ∷ s.shared ∷ s.targets ∷ s.accepted ∷ s.refused ∷ []

-- before the first image
abbrev pub no_sums : Sums
no_sums = record { length = 0; steps = 0; code = 0; plain = 0; shared = 0; targets = 0; accepted = 0; refused = 0 }

-- with one more image
abbrev pub adding : Sums → Answer Figures → Sums
adding s (accepted f) = record {
  length = s.length + f.length;
  steps = s.steps + f.steps;
  code = s.code + f.code;
  plain = s.plain + f.plain;
  shared = s.shared + f.shared;
  targets = s.targets + f.targets;
  accepted = s.accepted + 1;
  refused = s.refused;
}
adding s (refused n vs) = record {
  length = s.length;
  steps = s.steps;
  code = s.code;
  plain = s.plain;
  shared = s.shared;
  targets = s.targets;
  accepted = s.accepted;
  refused = s.refused + 1;
}

-- each of these fits in 64 bits
unfoldable pub all_fit : List ℕ → Bool
all_fit [] = true
all_fit (n ∷ ns) = leb n 18446744073709551615 && all_fit ns

abbrev pub fitting : Sums → Bool
fitting s = all_fit (sum_list s)
