-- The ways out of a part's line as steps of the walk: a line without a name, one for which there is no room, and one that is played. Assumes nothing.
use mathlib.Core.Path.{◌≡◌, ap, subst, sym}
use mathlib.Core.Bool.{true, false}
use mathlib.Core.List.{List}
use Prim.Native.Nat.{ℕ, ◌+◌, ◌*◌, ◌-◌, ◌≤◌, ◌<◌}
use native.Mathlib.Omega.{arith}
use lib.ListN.{length, take, drop}
use lib.Ieee.{Float}
use Rattle.lines.specs.declared.names.NameAt.{NameAt}
use Rattle.lines.specs.Lines.{line_of}
use Rattle.lines.specs.Names.{between, names_in, place_among}
use Rattle.lines.specs.Tokens.{named_of, name_at}
use Rattle.part.specs.Body.{Book}
use Rattle.part.specs.Columns.{book_in}
use Rattle.meaning.specs.Sheets.{part_read}
use Rattle.parser.specs.declared.sofar.Sofar.{Sofar}
use Rattle.parser.specs.Columns.{macro_column, name_column, size_column, release_column, place_column, tables_in, read_in, Fits, Tabled, Begins, Goes, refused_at, passed_to}
use Rattle.parser.specs.PartSteps.{NamedAt}
use Rattle.parser.proofs.PartStates.{with_part, Passed, LinePassed}
use Rattle.parser.proofs.Going.{lined, line_small}
use Rattle.parser.proofs.PartLines.{StepCame, step_bare, step_full, step_known}
use Rattle.parser.proofs.PartReads.{part_passed}

module _ (rate : ℕ) (s bs : List ℕ) (xs : List Float) (ss : List ℕ) (r : Sofar) (fs : List Float) (is ls : List ℕ) (end next : ℕ) (b : Begins s r end next) (g : Fits (place_column ls) r fs is ls) (t : Tabled r (tables_in bs xs ss)) (p : NameAt) (e : p ≡ name_at (between s r.at end)) where
  abbrev l : List ℕ
  l = between s r.at end

  abbrev book : Book
  book = book_in rate s (take (2 * r.macros) (macro_column ss)) (take (2 * r.macros) bs) (take (2 * r.instruments) (name_column ss)) (take (r.instruments + 1) (release_column xs))

  abbrev pub Gone : List ℕ → Sofar → List Float → List ℕ → List ℕ → Type 0
  Gone places q fs' is' ls' =
      Goes (part_read rate r.line (named_of (line_of (drop r.at s))) (read_in s (place_column ls) r fs is ls (tables_in bs xs ss))) 1 s places r q fs' is' ls' (tables_in bs xs ss)

  gone : (places : List ℕ) (q : Sofar) (fs' : List Float) (is' ls' : List ℕ) → StepCame book s (place_column ls) r.at end r fs is ls p e (named_of l) places q fs' is' ls'
      → (u : Sofar) → Passed next q u → Gone places u fs' is' ls'
  gone = part_passed rate s (place_column ls) r fs is ls (macro_column ss) bs (name_column ss) (size_column ss) xs ss (release_column xs) end next b t

  pub way_bare : p.two ≡ false → (q : Sofar) → q ≡ passed_to r r.macros r.instruments (r.line + 1) next → Gone (place_column ls) q fs is ls
  way_bare two q f =
      gone (place_column ls) r fs is ls (step_bare book s (place_column ls) r.at end r fs is ls p e two b.goes g) q
      (record { on = λ z. f; ended = λ n. absurd (n b.goes) })

  module _ (two : p.two ≡ true) (k : ℕ) (found : k ≡ place_among (between l p.from p.end) (names_in s (take (2 * r.parts) (place_column ls)))) where
    pub way_full : 16 ≤ k → (q : Sofar) → q ≡ refused_at r 21 r.line → Gone (place_column ls) q fs is ls
    way_full h q f =
        gone (place_column ls) (refused_at r 21 r.line) fs is ls (step_full book s (place_column ls) r.at end r fs is ls p e two g k found h) q
        (record { on = λ z. absurd (never z); ended = λ n. (ap (λ (x : Sofar). x.refusal) f, ap (λ (x : Sofar). x.line) f) })
      where
        never : ◌≡◌ {A = ℕ} 21 0 → ⊥
        never z = omega (arith, z)

    module _ (room : k < 16) (ls' : List ℕ) (w : NamedAt k r.parts (r.at + p.from) (r.at + p.end) ls ls') (long : length ls' ≡ length ls) where
      pub way_asks : (k ≤ r.parts)
          × ((r.refusal ≡ 0)
          × ((r.line ≤ 2000000)
          × ((k < (with_part r k).parts) × (Fits (place_column ls') (with_part r k) fs is ls' × Tabled r (tables_in bs xs ss)))))
      way_asks =
          let known = step_known book s r.at end r fs is ls p e two g k found room (lined s r end next b).from ls' w long in
          (known.0, (b.goes, (line_small s r end next b, (known.1.0, (known.1.1.1.1.0, t)))))

      pub way_played : (q : Sofar) (gs : List Float) (js ns : List ℕ) → LinePassed book (take (length l - p.end) (drop p.end l)) k next r q fs is ls' gs js ns
          → Gone (place_column ns) q gs js ns
      way_played q gs js ns h =
          let known = step_known book s r.at end r fs is ls p e two g k found room (lined s r end next b).from ls' w long in
          subst (λ (places : List ℕ). Gone places q gs js ns) (sym h.places)
          (gone (place_column ls') h.left gs js ns (known.1.1.1.1.1 h.left gs js ns h.came) q h.passed)
