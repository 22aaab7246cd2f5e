-- How many bytes of a file are handed on from a place on: at its start the header's, where a sample begins those of the samples that exist and fit, else none.
-- What the RIFF size says makes no difference. Assumes nothing.
use mathlib.Core.Path.{◌≡◌, refl, sym, ap, ◌∙◌}
use mathlib.Core.Bool.{Bool, true, false}
use mathlib.Core.List.{List}
use Prim.Native.Nat.{ℕ, ◌+◌, ◌-◌, ◌*◌, ◌/◌, ◌%◌, ◌≤◌, ◌<◌, min}
use native.Mathlib.Omega.{arith}
use lib.Dec.{leb, eqb}
use lib.ListN.{length}
use borrow.Author.Tests.{le-leb, lt-leb, eq-eqb, ne_eqb, leb-true, leb-false}
use Rattle.wave.specs.File.{room_at}
use Rattle.sheet.specs.declared.sheet.Sheet.{Sheet}
use Rattle.sheet.specs.Parts.{length_of}
use Rattle.handed.specs.Check.{is_sheet}
use Rattle.handed.proofs.Passing.{passing}
use Rattle.windows.specs.Written.{written_of}
use Rattle.engine.specs.Files.{header_of}
use Rattle.engine.specs.Stream.{count_in, is_sample_at, samples_next, next_of}
use Rattle.windows.proofs.Answers.{written_28}
use Rattle.engine.proofs.Answers.{header_28, header_30, header_taken}
use Rattle.engine.proofs.Files.{written_count}

fits_two : (room samples i m : ℕ) → m ≡ min (room_at room 0) (samples - i) → 2 * m ≤ room
unfolding room_at
fits_two room samples i m e = omega arith

some : (room samples i m n : ℕ) → n ≡ 2 * m → m ≡ min ((room - 0) / 2) (samples - i) → 2 ≤ room → i < samples → 0 < n
some room samples i m n d e l k = omega arith

few : (room samples i m : ℕ) → m ≡ min room (samples - i) → samples ≤ 2000000000 → m ≤ 2000000000
few room samples i m e l = omega arith

module _ (rate : ℕ) (s : Sheet) (buffer : List ℕ) where
  abbrev samples : ℕ
  samples = length_of rate s

  -- ---- the header

  pub next_first : next_of rate s (length buffer) 0 ≡ count_in (header_of rate s (length buffer))
  unfolding next_of
  next_first = refl

  -- ---- samples

  module _ (at i : ℕ) (h : at ≡ 44 + 2 * i) where
    sample_at_law : is_sample_at at ≡ true
    unfolding is_sample_at
    sample_at_law = rw (le-leb 44 at (omega arith), eq-eqb ((at - 44) % 2) 0 (omega arith))

    next_behind : next_of rate s (length buffer) at ≡ samples_next rate s (length buffer) at
    unfolding next_of
    next_behind = rw (ne_eqb at 0 (λ (z : at ≡ 0). omega arith), next_of)

    pub next_samples : next_of rate s (length buffer) at ≡ 2 * count_in (written_of rate s i (length buffer) 0)
    unfolding samples_next
    next_samples =
        next_behind
        ∙ rw (sample_at_law, samples_next) (ap (λ (k : ℕ). 2 * count_in (written_of rate s k (length buffer) 0)) (let z : (at - 44) / 2 ≡ i = omega arith in z))

  -- ---- places inside the header or inside a sample

  next_between : (at : ℕ) → ¬ (at ≡ 0) → is_sample_at at ≡ false → 0 ≡ next_of rate s (length buffer) at
  unfolding next_of samples_next
  next_between at h e = sym (rw (ne_eqb at 0 h, next_of) (rw (e, samples_next)))

  pub next_in_header : (at : ℕ) → ¬ (at ≡ 0) → at < 44 → 0 ≡ next_of rate s (length buffer) at
  unfolding is_sample_at
  next_in_header at h l = next_between at h (rw (lt-leb 44 at l))

  pub next_in_sample : (at : ℕ) → 44 ≤ at → (at - 44) % 2 ≡ 1 → 0 ≡ next_of rate s (length buffer) at
  unfolding is_sample_at
  next_in_sample at l o =
      next_between at (λ (z : at ≡ 0). omega arith) (rw (le-leb 44 at l, ne_eqb ((at - 44) % 2) 0 (λ (z : (at - 44) % 2 ≡ 0). omega arith)))

  -- no window has more samples than a sheet may have
  pub count_most : (i : ℕ) → count_in (written_of rate s i (length buffer) 0) ≤ 2000000000
  unfolding count_in
  count_most i = go (is_sheet rate s) refl
    where
      go : (b : Bool) → is_sheet rate s ≡ b → count_in (written_of rate s i (length buffer) 0) ≤ 2000000000
      go true e = few (room_at (length buffer) 0) samples i _ (written_count rate s e i buffer 0) (passing rate s e).length
      go false e = let z : count_in (written_of rate s i (length buffer) 0) ≡ 0 = ap count_in (written_28 rate s buffer i 0 e) in omega arith

  -- ---- what is handed on fits the buffer

  header_room : count_in (header_of rate s (length buffer)) ≤ length buffer
  unfolding count_in
  header_room = go (is_sheet rate s) refl (leb 44 (length buffer)) refl
    where
      go : (b : Bool) → is_sheet rate s ≡ b → (d : Bool) → leb 44 (length buffer) ≡ d → count_in (header_of rate s (length buffer)) ≤ length buffer
      go true e true t =
          let l = leb-true 44 (length buffer) t in
          let z : count_in (header_of rate s (length buffer)) ≡ 44 = ap count_in (header_taken rate s buffer e l) in
          omega arith
      go true e false t =
          let z : count_in (header_of rate s (length buffer)) ≡ 0 = ap count_in (header_30 rate s buffer e (leb-false 44 (length buffer) t)) in
          omega arith
      go false e d t = let z : count_in (header_of rate s (length buffer)) ≡ 0 = ap count_in (header_28 rate s buffer e) in omega arith

  samples_room : (i : ℕ) → 2 * count_in (written_of rate s i (length buffer) 0) ≤ length buffer
  unfolding count_in room_at
  samples_room i = go (is_sheet rate s) refl
    where
      go : (b : Bool) → is_sheet rate s ≡ b → 2 * count_in (written_of rate s i (length buffer) 0) ≤ length buffer
      go true e = fits_two (length buffer) samples i _ (written_count rate s e i buffer 0)
      go false e = let z : count_in (written_of rate s i (length buffer) 0) ≡ 0 = ap count_in (written_28 rate s buffer i 0 e) in omega arith

  behind_room : (at : ℕ) → samples_next rate s (length buffer) at ≤ length buffer
  unfolding samples_next
  behind_room at = go (is_sample_at at) refl
    where
      go : (b : Bool) → is_sample_at at ≡ b → samples_next rate s (length buffer) at ≤ length buffer
      go true e = rw (e, samples_next) (samples_room ((at - 44) / 2))
      go false e = rw (e, samples_next) (omega arith)

  pub next_room : (at : ℕ) → next_of rate s (length buffer) at ≤ length buffer
  unfolding next_of
  next_room at = go (eqb at 0) refl
    where
      go : (b : Bool) → eqb at 0 ≡ b → next_of rate s (length buffer) at ≤ length buffer
      go true e = rw (e, next_of) header_room
      go false e = rw (e, next_of) (behind_room at)

  -- ---- no place is left where something is still to come

  pub next_header_there : is_sheet rate s ≡ true → 44 ≤ length buffer → next_of rate s (length buffer) 0 ≡ 44
  unfolding count_in
  next_header_there e l = next_first ∙ ap count_in (header_taken rate s buffer e l)

  pub next_there : (at i : ℕ) → at ≡ 44 + 2 * i → is_sheet rate s ≡ true → 2 ≤ length buffer → i < samples → 0 < next_of rate s (length buffer) at
  unfolding room_at
  next_there at i h e l m = some (length buffer) samples i _ _ (next_samples at i h) (written_count rate s e i buffer 0) l m
