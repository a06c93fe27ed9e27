-- Which bytes are code: of an image without B8 0D 21 all that may be reached is reached in any case.
-- Assumes nothing.
use mathlib.Core.Bool.{true}
use mathlib.Core.Path.{refl}
use Rattle.trace_laws.specs.ClaimsJoin.{by_run}
use Rattle.trace_laws.proofs.ClaimsBetweenImages.{clean_agree}
use Rattle.views_laws.specs.ClaimsCode.{CodeBytes}
use Rattle.views_laws.proofs.ClaimsBetweenViews.{agreed_code_bytes}

pub code_bytes_lem : CodeBytes
code_bytes_lem mode image marks order entries pins limit s B C a f =
    agreed_code_bytes mode image entries pins _ (clean_agree mode image entries pins true B C) (by_run marks order limit s a f refl)
