-- Which part a line names: one law for each way out of `part_of`. Assumes nothing.
use mathlib.Core.Path.{◌≡◌, sym, ap, ◌∙◌}
use mathlib.Core.Bool.{true, false}
use mathlib.Core.List.{List}
use Prim.Native.Nat.{ℕ, ◌+◌, ◌*◌}
use lib.ListN.{take}
use Rattle.lines.specs.declared.names.NameAt.{NameAt}
use Rattle.lines.specs.Names.{between, names_in, place_among}
use Rattle.lines.specs.Tokens.{name_at}
use Rattle.meaning.specs.Sheets.{kind_of, part_line}
use Rattle.parser.specs.Columns.{place_column}
use Rattle.parser.specs.PartSteps.{OfPart, PartNamed}
use Rattle.std.specs.Prelude.{None}

module _ (s : List ℕ) (at end n : ℕ) (ls : List ℕ) where
  abbrev l : List ℕ
  l = between s at end

  -- a line of another kind
  pub parted_other : (kind_of l ≡ part_line → ⊥) → PartNamed s at end n ls None
  parted_other h k = absurd (h k)

  module _ (a : NameAt) (e : a ≡ name_at l) where
    -- a part's line under two tokens
    pub parted_bare : a.two ≡ false → PartNamed s at end n ls None
    parted_bare t k = ap (λ (x : NameAt). x.two) (sym e) ∙ t

    -- a line with a name and a body
    pub parted_named : kind_of l ≡ part_line → a.two ≡ true → (k : ℕ) → k ≡ place_among (between l a.from a.end) (names_in s (take (2 * n) (place_column ls)))
        → OfPart s at end n (record { place = k; from = at + a.from; end = at + a.end }) ls
    parted_named kind t k found =
        record {
          kind = kind;
          two = ap (λ (x : NameAt). x.two) (sym e) ∙ t;
          place = found ∙ ap (λ (x : NameAt). place_among (between l x.from x.end) (names_in s (take (2 * n) (place_column ls)))) e;
          begins = ap (λ (x : NameAt). at + x.from) e;
          ends = ap (λ (x : NameAt). at + x.end) e;
        }
