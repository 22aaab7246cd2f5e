-- `write_samples` lends the part from `at` on, and what `fill` leaves in the part is what it leaves in the whole. Assumes nothing.
use mathlib.Core.Path.{◌≡◌, sym, ap, ◌∙◌}
use Prim.Native.Nat.{ℕ, ◌-◌, ◌/◌, min}
use native.Mathlib.Omega.{arith}
use lib.ListN.{length, take}
use Rattle.form.specs.Sample.{bytes_of}
use Rattle.wave.specs.File.{put, count_in, samples_in}
use Rattle.wave.proofs.Writes.{put_none, put_lent}
use Rattle.wave.proofs.file.write_samples.Goals as goal

-- past the end there is no room
pub returns-then-at-buffer : goal.returns-then-at-buffer
unfolding count_in samples_in
returns-then-at-buffer c =
    let z : min (length c.args.samples.now) ((length c.args.buffer.now - c.args.at) / 2) ≡ 0 = omega arith in
    record { count = sym z; bytes = rw z (sym (put_none c.args.buffer.now c.args.at)) }

pub returns : goal.returns
unfolding count_in samples_in
returns c =
    let b = c.args.buffer.now in
    let xs = c.args.samples.now in record {
      count = c.fitting-n.ensures;
      bytes = rw c.fill.ensures
          (put_lent b c.args.at (bytes_of (take c.fitting-n.result xs))
          ∙ ap (λ (n : ℕ). put b c.args.at (bytes_of (take n xs))) c.fitting-n.ensures);
    }
