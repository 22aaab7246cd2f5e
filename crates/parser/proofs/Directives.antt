-- A directive's line: "A directive changes the starting environment and every existing part's." Assumes nothing.
use mathlib.Core.Path.{◌≡◌, refl, sym, ap, ap₂, ◌∙◌}
use mathlib.Core.List.{List, ◌∷◌}
use Prim.Native.Nat.{ℕ, zero, suc, ◌+◌, ◌<◌}
use native.Mathlib.Omega.{arith}
use lib.ListN.{drop, get_or}
use lib.Ieee.{Float}
use Rattle.lines.specs.Lines.{line_of}
use Rattle.lines.specs.Names.{between}
use Rattle.sheet.specs.Refusals.{going}
use Rattle.sheet.proofs.Outcomes.{then_going, then_refused}
use Rattle.environment.specs.declared.environment.Environment.{Environment}
use Rattle.environment.specs.Environment.{at_the_start}
use Rattle.directive.specs.declared.directive.Directive.{Directive}
use Rattle.directive.specs.Directives.{directive_of, directive_outcome, applied, applied_to}
use Rattle.directive.proofs.Parts.{applied_length, applied_at}
use Rattle.std.specs.Prelude.{Result, Ok, Err}
use Rattle.sheet.specs.declared.refusal.Refusal.{Refusal}
use Rattle.sheet.specs.Numbers.{number_of}
use Rattle.strict.specs.declared.mode.Mode.{Mode}
use Rattle.parser.specs.declared.sofar.Sofar.{Sofar}
use Rattle.meaning.specs.Parts.{NamedPart, every_part}
use Rattle.meaning.specs.Sheets.{Read, read_of, directive_read}
use Rattle.parser.specs.Columns.{part_at, parts_from, Tables, read_in, Fits, Tabled, Begins, Goes, refused_at, passed_to, with_envs}
use Rattle.parser.proofs.Numbers.{refusal_some, directive_going, directive_refused, applied_octave}
use Rattle.parser.proofs.Going.{lined, goes_refused, goes_on, tabled_as}

module _ (s places : List ℕ) (r : Sofar) (fs : List Float) (is ls : List ℕ) (f : Environment → Environment) (start : Environment) (es : List Environment) (line at : ℕ) where
  -- the reading behind the line
  abbrev behind : Sofar
  behind = passed_to (with_envs r start es) r.macros r.instruments line at

  -- every part has its environment changed
  pub parts_changed : (n k : ℕ) → ((j : ℕ) → j < k + n → get_or es j at_the_start ≡ f (get_or r.envs j at_the_start))
      → every_part f (parts_from s places r fs is ls k n) ≡ parts_from s places behind fs is ls k n
  unfolding every_part parts_from part_at
  parts_changed zero k h = refl
  parts_changed (suc n) k h =
      ap₂
      (λ (e : Environment) (ps : List NamedPart). record {
        name = (part_at s places r fs is ls k).name;
        part = record { env = e; notes = (part_at s places r fs is ls k).part.notes; loops = (part_at s places r fs is ls k).part.loops };
      }
      ∷ ps)
      (sym (h k (omega arith)))
      (parts_changed n (k + 1) (λ j l. h j (omega (arith, l))))

module _ (mode : Mode) (s places : List ℕ) (r : Sofar) (fs : List Float) (is ls : List ℕ) (t : Tables) (end next : ℕ) (b : Begins s r end next) (d : Result Directive Refusal) where
  module _ (said : (line : ℕ) → directive_outcome line d ≡ directive_of mode line (between s r.at end)) where
    abbrev before : Read
    before = read_in s places r fs is ls t

    abbrev text : List ℕ
    text = line_of (drop r.at s)

    says : directive_of mode r.line text ≡ directive_outcome r.line d
    says = ap (directive_of mode r.line) (sym (lined s r end next b).line) ∙ sym (said r.line)

    pub directive_refuses : (why : Refusal) → d ≡ Err why → Goes (directive_read mode r.line text before) 1 s places r (refused_at r (number_of why) r.line) fs is ls t
    unfolding directive_read
    directive_refuses why e =
        goes_refused s places r fs is ls t _ 1 (number_of why) r.line (refusal_some why)
        (then_refused (number_of why) r.line (directive_of mode r.line text) _ (says ∙ directive_refused d r.line why e))

    module _ (x : Directive) (e : d ≡ Ok x) where
      abbrev es : List Environment
      es = applied_to d r.parts r.envs

      abbrev after : Sofar
      after = passed_to (with_envs r (applied d r.start) es) r.macros r.instruments (r.line + 1) next

      each : Fits places r fs is ls → (j : ℕ) → j < r.parts → get_or es j at_the_start ≡ applied d (get_or r.envs j at_the_start)
      each w j h = applied_at d r.parts r.envs j at_the_start h (omega (arith, h, w.few, w.envs_length))

      pub directive_goes : Fits places r fs is ls → Tabled r t → Goes (directive_read mode r.line text before) 1 s places r after fs is ls t
      unfolding directive_read read_in
      directive_goes w g =
          goes_on s places r fs is ls t after end next _ b b.goes refl refl
          (record {
            few = w.few;
            start = omega (arith, applied_octave d r.start, w.start);
            octaves = λ k h. omega (arith, ap (λ (e : Environment). e.octave) (each w k h), applied_octave d (get_or r.envs k at_the_start), w.octaves k h);
            counts = w.counts;
            depths = w.depths;
            all = w.all;
            notes = w.notes;
            envs_length = applied_length d r.parts r.envs ∙ w.envs_length;
            counts_length = w.counts_length;
            depths_length = w.depths_length;
            places_length = w.places_length;
            floats_length = w.floats_length;
            bytes_length = w.bytes_length;
            loops_length = w.loops_length;
          })
          (tabled_as _ _ _ refl refl g)
          (then_going (applied d) (directive_of mode r.line text) _ (says ∙ directive_going d r.line x e)
          ∙ ap
          (λ (ps : List NamedPart). going (read_of (applied d r.start) ps before.macros before.names before.instruments before.steps))
          (parts_changed s places r fs is ls (applied d) (applied d r.start) es (r.line + 1) next r.parts 0 (λ j h. each w j (omega (arith, h)))))
