-- A fact that each kind of line keeps holds of every accepted sheet: one walk over the lines, for whatever fact. Assumes nothing.
use mathlib.Core.Path.{◌≡◌, subst}
use mathlib.Core.List.{List, [], ◌∷◌}
use mathlib.Core.Option.{Option}
use Prim.Native.Nat.{ℕ, zero, suc, ◌+◌}
use Rattle.lines.specs.Lines.{lines_of}
use Rattle.lines.specs.Tokens.{Named, named_of}
use Rattle.sheet.specs.Refusals.{going}
use Rattle.sheet.proofs.Holds.{Holds, holds_going, holds_of, holds_unless, holds_if, holds_then}
use Rattle.strict.specs.declared.mode.Mode.{Mode}
use Rattle.meaning.specs.Sheets.{Read, Kind, skipped, header_line, directive_line, macro_line, part_line, header_read, directive_read, macro_read, part_read, kind_of, taken_by, line_read, lines_read, nothing_read, ended, sheet_read}

-- what each kind of line owes
pub record KeptByLines (P : Read → Type 0) (mode : Mode) (rate : ℕ) : Type 0 where
  pub start : P nothing_read
  pub header : (line : ℕ) (name : List ℕ) (below : List (List ℕ)) (r : Read) → P r → Holds P (header_read mode line name below r)
  pub directive : (line : ℕ) (l : List ℕ) (r : Read) → P r → Holds P (directive_read mode line l r)
  pub macro : (line : ℕ) (l : List ℕ) (r : Read) → P r → Holds P (macro_read line l r)
  pub part : (line : ℕ) (n : Option Named) (r : Read) → P r → Holds P (part_read rate line n r)

module _ (P : Read → Type 0) (mode : Mode) (rate : ℕ) (kept : KeptByLines P mode rate) where
  line_holds : (k : Kind) (line : ℕ) (l : List ℕ) (below : List (List ℕ)) (r : Read) → P r → Holds P (line_read mode rate k line l below r)
  unfolding line_read
  line_holds skipped line l below r g = holds_going P _ g
  line_holds header_line line l below r g = kept.header line l below r g
  line_holds directive_line line l below r g = kept.directive line l r g
  line_holds macro_line line l below r g = kept.macro line l r g
  line_holds part_line line l below r g = kept.part line (named_of l) r g

  lines_hold : (k line : ℕ) (ls : List (List ℕ)) (r : Read) → P r → Holds P (lines_read mode rate k line ls r)
  unfolding lines_read
  lines_hold k line [] r g = holds_going P _ g
  lines_hold (suc k) line (l ∷ ls) r g = lines_hold k (line + 1) ls r g
  lines_hold zero line (l ∷ ls) r g =
      holds_then P _ _ _ (line_holds (kind_of l) line l ls r g) (λ q h. lines_hold (taken_by (kind_of l) ls) (line + 1) ls q h)

  sheet_holds : (source : List ℕ) → Holds P (sheet_read mode rate source)
  unfolding sheet_read ended
  sheet_holds source =
      holds_unless _ _ _ _ _
      (λ e. holds_unless _ _ _ _ _
      (λ f. holds_then P _ _ _ (lines_hold 0 1 (lines_of source) nothing_read kept.start)
      (λ r g. holds_if _ _ _ _ _ (holds_if _ _ _ _ _ (holds_unless _ _ _ _ _ (λ h. holds_going P _ g))))))

  -- so it holds of what an accepted sheet is read as
  pub of_accepted : (source : List ℕ) (r : Read) → sheet_read mode rate source ≡ going r → P r
  of_accepted source r e = holds_of P r (subst (Holds P) e (sheet_holds source))
