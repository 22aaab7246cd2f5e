-- How a line ends: with a refusal, or with a reading that goes on behind it. Every step of the walk over lines is one of these two laws. Assumes nothing.
use mathlib.Core.Path.{◌≡◌, refl, sym, ap, subst, ◌∙◌}
use mathlib.Core.List.{List, map}
use Prim.Native.Nat.{ℕ, zero, suc, ◌+◌, ◌≤◌}
use native.Mathlib.Omega.{arith}
use lib.ListN.{take, drop}
use lib.Ieee.{Float}
use Rattle.lines.specs.Lines.{lines_of}
use Rattle.tree.specs.Lines.{release_of}
use Rattle.lines.proofs.LinePlaces.{Lined, line_placed}
use Rattle.sheet.specs.Refusals.{Outcome, going, refused}
use Rattle.bank.specs.Bank.{lines_from}
use Rattle.parser.specs.declared.sofar.Sofar.{Sofar}
use Rattle.meaning.specs.Sheets.{Read}
use Rattle.parser.specs.Columns.{Tables, read_in, read_outcome, Fits, Tabled, Begins, Goes, refused_at, passed_to}

-- where the line stands
pub lined : (s : List ℕ) (r : Sofar) (end next : ℕ) → Begins s r end next → Lined s r.at end next
lined s r end next b = line_placed s r.at (record { end = end; next = next }) b.here b.inside

module _ (s places : List ℕ) (r : Sofar) (fs : List Float) (is ls : List ℕ) (t : Tables) where
  pub read_going : r.refusal ≡ 0 → read_outcome s places r fs is ls t ≡ going (read_in s places r fs is ls t)
  unfolding read_outcome
  read_going e = rw (e, read_outcome)

  pub read_refused : (n l : ℕ) → (n ≡ 0 → ⊥) → read_outcome s places (refused_at r n l) fs is ls t ≡ refused n l
  unfolding read_outcome
  read_refused zero l h = absurd (h refl)
  read_refused (suc n) l h = refl

module _ (s places : List ℕ) (r : Sofar) (fs : List Float) (is ls : List ℕ) (t : Tables) where
  -- a reading that has a refusal already
  pub goes_ended : (q : Sofar) (o : Outcome Read) (m : ℕ) → (q.refusal ≡ 0 → ⊥) → o ≡ refused q.refusal q.line → Goes o m s places r q fs is ls t
  goes_ended q o m h e =
      record {
        means = read_refused s places q fs is ls t q.refusal q.line h ∙ sym e;
        fits = λ z. absurd (h z);
        tabled = λ z. absurd (h z);
        lines = λ z. absurd (h z);
        line = λ z. absurd (h z);
        few = λ z. absurd (h z);
        onward = λ z. absurd (h z);
      }

  -- a refusal
  pub goes_refused : (o : Outcome Read) (m n l : ℕ) → (n ≡ 0 → ⊥) → o ≡ refused n l → Goes o m s places r (refused_at r n l) fs is ls t
  goes_refused o m n l h e = goes_ended (refused_at r n l) o m h e

  -- on behind one line
  pub goes_on : (q : Sofar) (end next : ℕ) (o : Outcome Read) → Begins s r end next → q.refusal ≡ 0 → q.at ≡ next → q.line ≡ r.line + 1
      → Fits places q fs is ls → Tabled q t → o ≡ going (read_in s places q fs is ls t) → Goes o 1 s places r q fs is ls t
  goes_on q end next o b z a l f g e =
      let n = lined s r end next b in
      record {
        means = read_going s places q fs is ls t z ∙ sym e;
        fits = λ y. f;
        tabled = λ y. g;
        lines = λ y. ap (λ (i : ℕ). lines_of (drop i s)) a ∙ sym (ap (drop 1) n.lines);
        line = λ y. l;
        few = λ y. omega arith;
        onward = λ y. (omega (arith, n.onward, a), omega (arith, n.inside, a));
      }

-- a reading by what it is equal to
pub goes_as : (o : Outcome Read) (n : ℕ) (s places : List ℕ) (r q p : Sofar) (fs : List Float) (is ls : List ℕ) (t : Tables) → q ≡ p
    → Goes o n s places r p fs is ls t → Goes o n s places r q fs is ls t
goes_as o n s places r q p fs is ls t e g = subst (λ (x : Sofar). Goes o n s places r x fs is ls t) (sym e) g

-- the parts are those from before, wherever the reading has come to
pub fits_passed : (places : List ℕ) (r : Sofar) (fs : List Float) (is ls : List ℕ) (macros instruments line at : ℕ) → Fits places r fs is ls
    → Fits places (passed_to r macros instruments line at) fs is ls
fits_passed places r fs is ls macros instruments line at w =
    record {
      few = w.few;
      start = w.start;
      octaves = w.octaves;
      counts = w.counts;
      depths = w.depths;
      all = w.all;
      notes = w.notes;
      envs_length = w.envs_length;
      counts_length = w.counts_length;
      depths_length = w.depths_length;
      places_length = w.places_length;
      floats_length = w.floats_length;
      bytes_length = w.bytes_length;
      loops_length = w.loops_length;
    }

-- and so are the tables
pub tabled_as : (r q : Sofar) (t : Tables) → q.macros ≡ r.macros → q.instruments ≡ r.instruments → Tabled r t → Tabled q t
tabled_as r q t m i g =
    record {
      macros_few = omega (arith, m, g.macros_few);
      instruments_few = omega (arith, i, g.instruments_few);
      macros_length = g.macros_length;
      bodies_length = g.bodies_length;
      names_length = g.names_length;
      sizes_length = g.sizes_length;
      numbers_length = g.numbers_length;
      shape_length = g.shape_length;
      releases_length = g.releases_length;
      releases = subst (λ (n : ℕ). take (n + 1) t.releases ≡ map release_of (lines_from t.sizes t.numbers t.shape 0 (n + 1))) (sym i) g.releases;
    }

-- the numbers of lines stay small
pub line_small : (s : List ℕ) (r : Sofar) (end next : ℕ) → Begins s r end next → r.line ≤ 2000000
line_small s r end next b = omega (arith, b.lines, b.small, b.inside)
