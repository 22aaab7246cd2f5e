-- What a caller is told says which case of the answer it was, so two answers of a writer to the same arguments are the same answer. Assumes nothing.
use Rattle.std.proofs.Common.{◌≡◌, ℕ, Result, Ok, Err, refl, ap, ◌∙◌, ◌≤◌, arith, le-leb}
use Rattle.wave.specs.declared.file.TooShort.{TooShort}
use Rattle.wave.specs.File.{Told, told, written, header_told}

pub told_same : (a b : Result ℕ TooShort) → told a ≡ told b → a ≡ b
unfolding told
told_same (Ok m) (Ok n) e = ap Ok (ap (λ (t : Told). t.count) e)
told_same (Ok m) (Err w) e = let z : ◌≡◌ {A = ℕ} 0 30 = ap (λ (t : Told). t.number) e in absurd (omega arith)
told_same (Err v) (Ok n) e = let z : ◌≡◌ {A = ℕ} 30 0 = ap (λ (t : Told). t.number) e in absurd (omega arith)
told_same (Err v) (Err w) e = refl

-- a buffer with room for a header is not too short for one
pub header_fits : {A : Type 0} (room : ℕ) (why : TooShort) → 44 ≤ room → told (Err why) ≡ header_told room → A
unfolding told header_told
header_fits room why h e =
    let there : header_told room ≡ written 44 = rw (le-leb _ _ h, header_told) in
    let z : ◌≡◌ {A = ℕ} 30 0 = ap (λ (t : Told). t.number) (e ∙ there) in
    absurd (omega arith)
