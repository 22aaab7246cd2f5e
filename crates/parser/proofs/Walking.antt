-- The walk over lines: what is left of a source gives the same end as all of it did from the start. Laws start, more, refused, end. Assumes nothing.
use mathlib.Core.Path.{◌≡◌, refl, sym, ap, ap₂, subst, ◌∙◌}
use mathlib.Core.List.{List, [], ◌∷◌}
use Prim.Native.Nat.{ℕ, zero, suc, ◌+◌, ◌≤◌, ◌<◌}
use native.Mathlib.Nat.{add-zero}
use native.Mathlib.Omega.{arith}
use lib.ListN.{length, drop, drop_of_length-le}
use lib.Ieee.{Float}
use Rattle.lines.specs.declared.lines.Line.{Line}
use Rattle.lines.specs.Lines.{lines_of, line_of, line_at}
use Rattle.lines.proofs.LinePlaces.{line_placed}
use Rattle.sheet.specs.Refusals.{Outcome, ◌>>=◌}
use Rattle.sheet.proofs.Outcomes.{then_going, then_refused}
use Rattle.strict.specs.declared.mode.Mode.{Mode}
use Rattle.parser.specs.declared.sofar.Sofar.{Sofar}
use Rattle.meaning.specs.Sheets.{Read, kind_of, taken_by, line_read, lines_read}
use Rattle.parser.specs.Columns.{Tables, place_column, read_in, read_outcome, Fits, Tabled, Begins, Goes}
use Rattle.parser.specs.Walks.{rest_read, Walking, BareAt, PartsRead}
use Rattle.parser.proofs.Going.{read_going, read_refused}

-- lines that are passed over
lines_skip : (mode : Mode) (rate k line : ℕ) (ls : List (List ℕ)) (r : Read) → lines_read mode rate k line ls r ≡ lines_read mode rate 0 (line + k) (drop k ls) r
unfolding lines_read
lines_skip mode rate zero line [] r = refl
lines_skip mode rate zero line (l ∷ ls) r = ap (λ (n : ℕ). lines_read mode rate 0 n (l ∷ ls) r) (sym (add-zero line))
lines_skip mode rate (suc k) line [] r = refl
lines_skip mode rate (suc k) line (l ∷ ls) r =
    lines_skip mode rate k (line + 1) ls r ∙ ap (λ (n : ℕ). lines_read mode rate 0 n (drop k ls) r) (let z : line + 1 + k ≡ line + suc k = omega arith in z)

module _ (mode : Mode) (rate : ℕ) (s places : List ℕ) (r : Sofar) (fs : List Float) (is ls : List ℕ) (t : Tables) where
  pub walking_start : r.refusal ≡ 0 → r.at ≡ 0 → r.line ≡ 1 → Fits places r fs is ls → Tabled r t
      → Walking mode rate s (lines_read mode rate 0 1 (lines_of s) (read_in s places r fs is ls t)) places r fs is ls t
  unfolding rest_read
  walking_start z a l f g =
      record {
        goes = z;
        inside = omega (arith, a);
        lines = omega (arith, l);
        fits = f;
        tabled = g;
        left = ap₂ (λ (n i : ℕ). lines_read mode rate 0 n (lines_of (drop i s)) (read_in s places r fs is ls t)) l a;
      }

  module _ (o : Outcome Read) (w : Walking mode rate s o places r fs is ls t) where
    -- the line at the walk's place
    pub walking_begins : (a : Line) → a ≡ line_at s r.at → r.at < length s → length s ≤ 32768 → Begins s r a.end a.next
    walking_begins a e h m = record { goes = w.goes; inside = h; here = e; small = m; lines = w.lines }

    -- no line is left
    pub walking_end : length s ≤ r.at → read_outcome s places r fs is ls t ≡ o
    unfolding lines_of lines_read rest_read
    walking_end h =
        read_going s places r fs is ls t w.goes
        ∙ ap (λ (x : List ℕ). lines_read mode rate 0 r.line (lines_of x) (read_in s places r fs is ls t)) (sym (drop_of_length-le s h))
        ∙ w.left

    -- a line is read
    module _ (end next : ℕ) (b : Begins s r end next) (places' : List ℕ) (q : Sofar) (fs' : List Float) (is' ls' : List ℕ) (t' : Tables)
        (g : Goes (line_read mode rate (kind_of (line_of (drop r.at s))) r.line (line_of (drop r.at s)) (lines_of (drop next s)) (read_in s places r fs is ls t)) (1 + taken_by (kind_of (line_of (drop r.at s))) (lines_of (drop next s))) s places' r q fs' is' ls' t') where
      abbrev text : List ℕ
      text = line_of (drop r.at s)

      abbrev below : List (List ℕ)
      below = lines_of (drop next s)

      abbrev taken : ℕ
      taken = taken_by (kind_of text) below

      here : lines_of (drop r.at s) ≡ text ∷ below
      here = (line_placed s r.at (record { end = end; next = next }) b.here b.inside).lines

      one_more : o ≡ (line_read mode rate (kind_of text) r.line text below (read_in s places r fs is ls t) >>= (λ x. lines_read mode rate taken (r.line + 1) below x))
      unfolding lines_read rest_read
      one_more = sym w.left ∙ ap (λ (x : List (List ℕ)). lines_read mode rate 0 r.line x (read_in s places r fs is ls t)) here

      pub walking_refused : (q.refusal ≡ 0 → ⊥) → read_outcome s places' q fs' is' ls' t' ≡ o
      walking_refused n =
          let e = read_refused s places' q fs' is' ls' t' q.refusal q.line n in
          e ∙ sym (one_more ∙ then_refused q.refusal q.line _ _ (sym g.means ∙ e))

      pub walking_more : q.refusal ≡ 0 → Walking mode rate s o places' q fs' is' ls' t'
      unfolding rest_read
      walking_more z =
          record {
            goes = z;
            inside = (g.onward z).1;
            lines = omega (arith, g.line z, g.few z, (g.onward z).0, w.lines);
            fits = g.fits z;
            tabled = g.tabled z;
            left = sym
                (one_more
                ∙ then_going (read_in s places' q fs' is' ls' t') _ _ (sym g.means ∙ read_going s places' q fs' is' ls' t' z)
                ∙ lines_skip mode rate taken (r.line + 1) below (read_in s places' q fs' is' ls' t')
                ∙ ap₂ (λ (n : ℕ) (x : List (List ℕ)). lines_read mode rate 0 n x (read_in s places' q fs' is' ls' t'))
                (let y : r.line + 1 + taken ≡ q.line = omega (arith, g.line z) in y)
                (sym
                (g.lines z
                ∙ ap (drop (1 + taken)) here
                ∙ ap (λ (n : ℕ). drop n (text ∷ below)) (let y : 1 + taken ≡ suc taken = omega arith in y))));
          }

-- ---- a run of parts' lines

module _ (mode : Mode) (rate : ℕ) (s : List ℕ) (r : Sofar) (fs : List Float) (is ls : List ℕ) (t : Tables) (o : Outcome Read) (w : Walking mode rate s o (place_column ls) r fs is ls t) (first : Sofar) where
  -- it ends at the source's end
  pub run_ends : first.at ≤ r.at → length s ≤ r.at → PartsRead mode rate s o first r fs is ls t
  run_ends m h =
      record {
        on = λ z. w;
        bare = λ z i. absurd (omega (arith, h, i));
        onward = λ z. m;
        ended = λ n. absurd (n w.goes);
      }

  -- or at a line that names no part
  pub run_stops : first.at ≤ r.at → (a : Line) → a ≡ line_at s r.at → BareAt s r.at a.end → PartsRead mode rate s o first r fs is ls t
  run_stops m a e h =
      record {
        on = λ z. w;
        bare = λ z i. subst (λ (x : Line). BareAt s r.at x.end) e h;
        onward = λ z. m;
        ended = λ n. absurd (n w.goes);
      }

  -- or with a refusal
  pub run_refuses : (end next : ℕ) → Begins s r end next → (q : Sofar) (fs' : List Float) (is' ls' : List ℕ) (t' : Tables)
      → Goes (line_read mode rate (kind_of (line_of (drop r.at s))) r.line (line_of (drop r.at s)) (lines_of (drop next s)) (read_in s (place_column ls) r fs is ls t)) (1 + taken_by (kind_of (line_of (drop r.at s))) (lines_of (drop next s))) s (place_column ls') r q fs' is' ls' t'
      → (q.refusal ≡ 0 → ⊥) → PartsRead mode rate s o first q fs' is' ls' t'
  run_refuses end next b q fs' is' ls' t' g n =
      record {
        on = λ z. absurd (n z);
        bare = λ z i. absurd (n z);
        onward = λ z. absurd (n z);
        ended = walking_refused mode rate s (place_column ls) r fs is ls t o w end next b (place_column ls') q fs' is' ls' t' g;
      }

-- the walk, told of what its own rest gives, in either mode
pub walking_own : (mode : Mode) (rate : ℕ) (s places : List ℕ) (r : Sofar) (fs : List Float) (is ls : List ℕ) (t : Tables) (o : Outcome Read) → Walking mode rate s o places r fs is ls t
    → (m : Mode) → Walking m rate s (rest_read m rate s places r fs is ls t) places r fs is ls t
walking_own mode rate s places r fs is ls t o w m =
    record { goes = w.goes; inside = w.inside; lines = w.lines; fits = w.fits; tabled = w.tabled; left = refl }

-- and of what the rest gave before the run
module _ (mode : Mode) (rate : ℕ) (s places : List ℕ) (r : Sofar) (fs : List Float) (is ls : List ℕ) (t : Tables) (o : Outcome Read) (w : Walking mode rate s o places r fs is ls t) (q : Sofar) (fs' : List Float) (is' ls' : List ℕ) (t' : Tables) (p : PartsRead mode rate s (rest_read mode rate s places r fs is ls t) r q fs' is' ls' t') where
  pub run_on : q.refusal ≡ 0 → Walking mode rate s o (place_column ls') q fs' is' ls' t'
  run_on z = subst (λ (x : Outcome Read). Walking mode rate s x (place_column ls') q fs' is' ls' t') w.left (p.on z)

  pub run_ended : (q.refusal ≡ 0 → ⊥) → read_outcome s (place_column ls') q fs' is' ls' t' ≡ o
  run_ended n = p.ended n ∙ w.left

-- the line is where `line_at` finds it
pub bare_as : (s : List ℕ) (at : ℕ) (a : Line) → a ≡ line_at s at → BareAt s at (line_at s at).end → BareAt s at a.end
bare_as s at a e h = subst (λ (x : Line). BareAt s at x.end) (sym e) h
