-- A block of samples, mixed and then written as bytes, continues what is written: all of its samples exist, so mixing stores every one of them, whatever
-- stood in the block. Assumes nothing.
use mathlib.Core.Path.{◌≡◌, sym, ap, ap₂, ◌∙◌}
use mathlib.Core.Bool.{true}
use mathlib.Core.List.{List, ◌++◌, append-nil}
use Prim.Native.Nat.{ℕ, ◌+◌, ◌-◌, ◌*◌, ◌^◌, ◌≤◌, ◌<◌, min}
use native.Mathlib.Omega.{arith}
use lib.ListN.{length, take, drop, length-append, take-append-drop, drop_of_length-le}
use lib.Ieee.{Float}
use Rattle.form.specs.Sample.{bytes_of}
use Rattle.wave.specs.File.{put, samples_in}
use Rattle.wave.proofs.Writes.{samples_put}
use Rattle.sheet.specs.declared.sheet.Sheet.{Sheet}
use Rattle.sheet.specs.Parts.{length_of}
use Rattle.handed.specs.Check.{is_sheet}
use Rattle.evaluator.specs.Samples.{samples_from}
use Rattle.mixing.specs.Placing.{placed}
use Rattle.mixing.specs.Mixing.{mix_all}
use Rattle.evaluator.proofs.Samples.{samples_length}
use Rattle.evaluator.proofs.Rendered.{Fitting, mixed_is}
use Rattle.windows.proofs.Windows.{blocks_more, blocks_length}

-- so many samples are written: from `start` on, as bytes from place `at` on
pub record Wrote (rate : ℕ) (s : Sheet) (start at : ℕ) (before : List ℕ) (done : ℕ) (now : List ℕ) : Type 0 where
  pub bytes : now ≡ put before at (bytes_of (samples_from (placed rate s) start done))

module _ (rate : ℕ) (s : Sheet) (h : rate < 2 ^ 32) (e : is_sheet rate s ≡ true) (f : Fitting s) where
  -- where all samples of a block exist, mixing leaves exactly those
  block_samples : (from k : ℕ) (xs : List Float) → length xs ≡ k → from + k ≤ length_of rate s → mix_all 0 (placed rate s) from xs ≡ samples_from (placed rate s) from k
  block_samples from k xs l m =
      let ps = placed rate s in
      let all : min (length xs) (length_of rate s - from) ≡ k = omega arith in
      let z : length xs ≤ k = omega arith in
      mixed_is rate s h e f from xs
      ∙ ap (λ (n : ℕ). samples_from ps from n ++ drop n xs) all
      ∙ ap (λ (t : List Float). samples_from ps from k ++ t) (drop_of_length-le xs z)
      ∙ append-nil (samples_from ps from k)

  module _ (start at n : ℕ) (before : List ℕ) (inside : start + n ≤ length_of rate s) (room : at + 2 * n ≤ length before) where
    -- one block more
    pub wrote_more : (done k : ℕ) (now later : List ℕ) (xs part : List Float) → Wrote rate s start at before done now → length xs ≡ k → done + k ≤ n
        → part ≡ mix_all 0 (placed rate s) (start + done) xs → later ≡ samples_in now (at + 2 * done) part
        → Wrote rate s start at before (done + k) later
    wrote_more done k now later xs part w l m p q =
        let ps = placed rate s in
        let made : part ≡ samples_from ps (start + done) k = p ∙ block_samples (start + done) k xs l (omega arith) in
        let long : length part ≡ k = ap length made ∙ samples_length ps (start + done) k in
        let kept : length now ≡ length before = ap length w.bytes ∙ blocks_length ps before at start done (omega arith) in
        record {
          bytes = q
              ∙ samples_put now (at + 2 * done) part (omega (arith, long, kept))
              ∙ ap₂ (λ (b : List ℕ) (t : List Float). put b (at + 2 * done) (bytes_of t)) w.bytes made
              ∙ blocks_more ps before at start done k (omega arith);
        }

    -- the buffer keeps its length
    pub wrote_length : (done : ℕ) (now : List ℕ) → Wrote rate s start at before done now → done ≤ n → length now ≡ length before
    wrote_length done now w l = ap length w.bytes ∙ blocks_length (placed rate s) before at start done (omega arith)

-- a list whose front of n elements is replaced by as many keeps its length
pub front_kept : {A : Type 0} (n : ℕ) (xs front : List A) → length front ≡ length (take n xs) → length (front ++ drop n xs) ≡ length xs
front_kept n xs front h =
    length-append front (drop n xs)
    ∙ ap (λ (k : ℕ). k + length (drop n xs)) h
    ∙ sym (length-append (take n xs) (drop n xs))
    ∙ ap length (take-append-drop n xs)
