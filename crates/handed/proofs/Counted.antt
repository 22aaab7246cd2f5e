-- A length that one note may have, as a count where there is one. Assumes nothing.
use Rattle.std.proofs.Common.{◌≡◌, ℕ, Result, Ok, Err, refl}
use Rattle.std.specs.Option.{is_some, unwrap_or}
use Rattle.tone.specs.declared.time.Uncounted.{Uncounted}
use Rattle.sheet.specs.Lengths.{is_counted, samples_of}
use Rattle.handed.specs.Check.{counted_of}

pub counted_is : (l : Result ℕ Uncounted) → is_some (counted_of l) ≡ is_counted l
unfolding is_counted
counted_is (Ok n) = refl
counted_is (Err why) = refl

pub samples_are : (l : Result ℕ Uncounted) → unwrap_or (counted_of l) 0 ≡ samples_of l
unfolding samples_of
samples_are (Ok n) = refl
samples_are (Err why) = refl
