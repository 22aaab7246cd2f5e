-- Strict numbers, as request T-05 has them: "In strict mode, chosen per sheet, an operator token must be read to its end, and so must the second token of
-- `#tempo`, `#denom` and `#key`; later tokens are ignored as before. In plain mode nothing changes." Where a token is read, the definition of that reading
-- asks `read_to_its_end` in its place among the refusals: in `operators` for a number and for a feedback, in `directive` for a value. Assumes nothing.
use Rattle.std.specs.Prelude.{Bool, false, List, ℕ, zero, suc, ltb, length}
use Rattle.sheet.specs.Refusals.{Outcome, refuse◌on◌if◌}
use Rattle.strict.specs.declared.mode.Mode.{Mode}
use Rattle.strict.specs.declared.mode.Mode.TheVariants.{Plain, Strict}

-- the mode that a number stands for, where a caller has no enum: 0 is plain, and every other number is strict, so that a number that is none of the two lets no
-- text through that one of them would refuse
unfoldable pub mode_numbered : ℕ → Mode
mode_numbered zero = Plain
mode_numbered (suc n) = Strict

-- a token has a tail where its reader stopped before its end, and strict mode alone asks
unfoldable pub tailed : Mode → ℕ → ℕ → Bool
tailed Plain stop end = false
tailed Strict stop end = ltb stop end

-- "must be read to its end"; "32, a number or key with a tail": a token of a line, and the place in it at which its reader stopped
unfoldable pub read_to_its_end : Mode → ℕ → List ℕ → ℕ → Outcome (Unit {0})
unfolding tailed
read_to_its_end mode line token stop = refuse 32 on line if (tailed mode stop (length token))
