-- The pieces in which the file of a sheet that passes is handed on: each begins where the one before it ended, and none is empty before the file's end.
-- Assumes nothing.
use mathlib.Core.Path.{◌≡◌, refl, sym, ap, subst, ◌∙◌}
use mathlib.Core.Bool.{Bool, true, false}
use mathlib.Core.Logic.{◌⊎◌, inl, inr, ⊎_elim}
use mathlib.Core.List.{List, ◌++◌}
use Prim.Native.Nat.{ℕ, suc, ◌+◌, ◌-◌, ◌*◌, ◌/◌, ◌^◌, ◌≤◌, ◌<◌, min}
use native.Mathlib.Omega.{arith}
use lib.ListN.{length, take, drop, length-append, length-drop}
use lib.Seq.{take_at, take-add, take-length, length-take-le}
use Rattle.form.specs.declared.size.Size.{Size}
use Rattle.form.specs.Form.{header}
use Rattle.form.specs.Sample.{bytes_of}
use Rattle.wave.specs.File.{put, room_at}
use Rattle.form.proofs.Published.{header_length}
use Rattle.sheet.specs.declared.sheet.Sheet.{Sheet}
use Rattle.sheet.specs.Parts.{length_of}
use Rattle.handed.specs.Check.{is_sheet}
use Rattle.handed.proofs.Passing.{passing}
use Rattle.evaluator.specs.Samples.{samples_from}
use Rattle.mixing.specs.Placing.{placed}
use Rattle.engine.specs.Stream.{file_of, next_of, next_in}
use Rattle.windows.proofs.Windows.{sample_bytes_law}
use Rattle.engine.proofs.Files.{written_count}
use Rattle.engine.proofs.Counted.{next_samples, next_header_there}
use Rattle.engine.proofs.HandedOn.{file_passing}
use Rattle.system.specs.declared.output.Output.{Output}
use Rattle.system.specs.Moving.{Advanced}
use Rattle.cue.specs.Handing.{Takes, Next, Moved, Handed, none, more, written}
use Rattle.cue.specs.declared.handing.Handing.{Handing}

-- a place where a piece of a file of so many bytes begins: at its start, or where a sample does
pub record Begins (whole at : ℕ) : Type 0 where
  pub inside : at ≤ whole
  pub sample : (at ≡ 0) ⊎ ((i : ℕ) × (at ≡ 44 + 2 * i))

-- what is known of a piece of n bytes from there on
pub record Piece (whole at n : ℕ) : Type 0 where
  pub next : Begins whole (at + n)
  pub ended : n ≡ 0 → at ≡ whole

pub begins : (whole : ℕ) → Begins whole 0
begins whole = record { inside = omega arith; sample = inl refl }

-- ---- numbers

header_step : (whole samples at n : ℕ) → whole ≡ 44 + 2 * samples → at ≡ 0 → n ≡ 44 → Piece whole at n
header_step whole samples at n w z h =
    record {
      next = record { inside = omega arith; sample = inr (0, omega arith) };
      ended = λ (e : n ≡ 0). absurd (omega arith);
    }

sample_step : (whole samples at n i m : ℕ) → whole ≡ 44 + 2 * samples → at ≤ whole → at ≡ 44 + 2 * i → n ≡ 2 * m → m ≡ min ((65536 - 0) / 2) (samples - i) → Piece whole at n
sample_step whole samples at n i m w l h d e =
    record {
      next = record { inside = omega arith; sample = inr (i + m, omega arith) };
      ended = λ (z : n ≡ 0). omega arith;
    }

-- ---- a file

module _ (size : Size) (s : Sheet) (e : is_sheet 44100 s ≡ true) where
  pub file_length : length (file_of size 44100 s) ≡ 44 + 2 * length_of 44100 s
  file_length =
      ap length (file_passing size 44100 s e)
      ∙ length-append (header size 44100 (length_of 44100 s)) (bytes_of (samples_from (placed 44100 s) 0 (length_of 44100 s)))
      ∙ omega (arith, header_length size 44100 (length_of 44100 s), sample_bytes_law (placed 44100 s) 0 (length_of 44100 s))

  pub file_most_law : length (file_of size 44100 s) ≤ 4000000044
  file_most_law = omega (arith, file_length, (passing 44100 s e).length)

  module _ (buffer : List ℕ) (large : length buffer ≡ 65536) (at : ℕ) where
    pub piece_next : Begins (length (file_of size 44100 s)) at → Piece (length (file_of size 44100 s)) at (next_of 44100 s (length buffer) at)
    unfolding room_at
    piece_next b =
        ⊎_elim
        (λ (z : at ≡ 0).
        header_step (length (file_of size 44100 s)) (length_of 44100 s) at _ file_length z
        (ap (next_of 44100 s (length buffer)) z ∙ next_header_there 44100 s buffer e (omega arith)))
        (λ (w : (i : ℕ) × (at ≡ 44 + 2 * i)).
        sample_step (length (file_of size 44100 s)) (length_of 44100 s) at _ w.0 _ file_length b.inside w.1 (next_samples 44100 s buffer at w.0 w.1)
        (written_count 44100 s e w.0 buffer 0 ∙ ap (λ (n : ℕ). min ((n - 0) / 2) (length_of 44100 s - w.0)) large))
        b.sample

    -- the buffer's front is the piece
    pub piece_bytes : (n : ℕ) (later : List ℕ) → n ≡ next_of 44100 s (length buffer) at → later ≡ next_in size 44100 s buffer at → at + n ≤ length (file_of size 44100 s)
        → take n later ≡ take n (drop at (file_of size 44100 s))
    unfolding next_in put
    piece_bytes n later k l h =
        let f = drop at (file_of size 44100 s) in
        let long : n ≤ length f = omega (arith, length-drop at (file_of size 44100 s)) in
        ap (take n) l
        ∙ ap (λ (j : ℕ). take n (put buffer 0 (take j f))) (sym k)
        ∙ take_at (take n f) (drop (0 + length (take n f)) buffer) n (length-take-le n f long)

-- ---- the measure of what is left: nothing where the output takes no more

abbrev pub left : Bool → ℕ → ℕ
left true n = suc n
left false n = 0

pub left_less : (whole n reached : ℕ) (out later : Handing) → out.out.taking ≡ true → Moved out n later reached → 0 < n → out.out.at + n ≤ whole
    → left later.out.taking (whole - later.out.at) < left out.out.taking (whole - out.out.at)
left_less whole n reached out later t m l h = rw t (go later.out.taking refl)
  where
    go : (b : Bool) → later.out.taking ≡ b → left b (whole - later.out.at) < suc (whole - out.out.at)
    go true e = omega (arith, m.further e)
    go false e = omega arith

-- ---- what is handed on

-- an output that takes bytes, and what becomes of it
pub moved_on : (out : Handing) (n before after : ℕ) (r : Output) → Takes out before → Advanced out.out n r before after → Moved out n (record { out = r }) after
moved_on out n before after r t m =
    record { further = λ e. (m.further e).0; stays = λ e. (m.stays e).0; last = go r.taking refl }
  where
    go : (b : Bool) → r.taking ≡ b → after ≡ r.at
    go true e = (m.further e).1
    go false e = (m.stays e).1 ∙ t.last ∙ sym (m.stays e).0

-- the place of an output that took a piece, or did not
pub moved_begins : (whole n reached : ℕ) (out later : Handing) → Moved out n later reached → Begins whole out.out.at → Begins whole (out.out.at + n) → Begins whole later.out.at
moved_begins whole n reached out later m b d = go later.out.taking refl
  where
    go : (t : Bool) → later.out.taking ≡ t → Begins whole later.out.at
    go true e = subst (Begins whole) (sym (m.further e)) d
    go false e = subst (Begins whole) (sym (m.stays e)) b

-- a whole answer at once
pub whole_next : (answer part : List ℕ) (at : ℕ) → at ≡ 0 → part ≡ answer → length part < 2 ^ 64 → Next answer at part
whole_next answer part at z e l =
    record {
      piece = e ∙ sym (ap (λ (k : ℕ). take (length part) (drop k answer)) z ∙ ap (λ (p : List ℕ). take (length p) answer) e ∙ take-length answer);
      inside = omega (arith, ap length e);
      counted = omega arith;
    }

-- a piece of a file that is the answer
pub file_next : (answer file part : List ℕ) (at n : ℕ) → answer ≡ file → part ≡ take n (drop at file) → n ≡ length part → at + n ≤ length file → length file ≤ 4000000044
    → Next answer at part
file_next answer file part at n a e k h l =
    record {
      piece = e ∙ ap (λ (j : ℕ). take j (drop at file)) k ∙ ap (λ (f : List ℕ). take (length part) (drop at f)) (sym a);
      inside = omega (arith, ap length a);
      counted = omega arith;
    }

-- ---- what has been written

-- a piece that is handed on continues what was handed on before it
joined : (answer part : List ℕ) (at : ℕ) → Next answer at part → take at answer ++ part ≡ take (at + length part) answer
joined answer part at n = ap (λ (p : List ℕ). take at answer ++ p) n.piece ∙ sym (take-add at (length part) answer)

-- so that all pieces are the answer's front
pub written_front : (answer : List ℕ) {parts : List (List ℕ)} {at : ℕ} → Handed answer parts at → written parts ≡ take at answer
unfolding written
written_front answer none = refl
written_front answer (more {parts} {at} {part} h n) = ap (λ (w : List ℕ). w ++ part) (written_front answer h) ∙ joined answer part at n

-- and the answer itself where the place is its end
pub written_whole : (answer : List ℕ) {parts : List (List ℕ)} {at : ℕ} → Handed answer parts at → at ≡ length answer → written parts ≡ answer
written_whole answer h e = written_front answer h ∙ ap (λ (n : ℕ). take n answer) e ∙ take-length answer
