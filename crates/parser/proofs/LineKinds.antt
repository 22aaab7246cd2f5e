-- The kinds of line, by the byte that a line begins with, and what each is as a step of the walk. Assumes nothing.
use mathlib.Core.Path.{◌≡◌, refl, sym, ap, subst, ◌∙◌}
use mathlib.Core.Bool.{Bool, true, false, true≢false}
use mathlib.Core.List.{List, [], ◌∷◌}
use Prim.Native.Char.{Char}
use Prim.Native.Nat.{ℕ, suc, ◌+◌, ◌-◌, ◌≤◌, ◌<◌}
use native.Mathlib.Omega.{arith}
use lib.ListN.{length, take, drop, get_or, length-take}
use lib.Seq.{drop-cons}
use lib.Ieee.{Float}
use Rattle.text.specs.Characters.{row_of}
use Rattle.lines.specs.Lines.{lines_of, line_of}
use Rattle.lines.specs.Tokens.{named_of}
use Rattle.lines.proofs.LinePlaces.{Lined}
use Rattle.text.proofs.Rows.{row_none}
use Rattle.operators.specs.OperatorLines.{operator_lines}
use Rattle.strict.specs.declared.mode.Mode.{Mode}
use Rattle.parser.specs.declared.sofar.Sofar.{Sofar}
use Rattle.meaning.specs.Sheets.{Read, Kind, skipped, header_line, directive_line, macro_line, part_line, header_read, directive_read, macro_read, part_read, kind_of, taken_by, line_read}
use Rattle.parser.specs.Columns.{Tables, read_in, Fits, Tabled, Begins, Goes, passed_to}
use Rattle.parser.proofs.Going.{goes_on, fits_passed, tabled_as}

-- ---- which kind

abbrev rows : List (Char × Kind)
rows = (";", skipped) ∷ ("@", header_line) ∷ ("#", directive_line) ∷ ("!", macro_line) ∷ []

module _ (l : List ℕ) where
  pub kind_empty : length l ≡ 0 → kind_of l ≡ skipped
  unfolding kind_of
  kind_empty h = go l h
    where
      go : (s : List ℕ) → length s ≡ 0 → kind_of s ≡ skipped
      go [] e = refl
      go (b ∷ s) e = absurd (omega (arith, e))

  module _ (n : length l ≡ 0 → ⊥) where
    -- a line's kind is that of its first byte
    kind_by : (b : ℕ) (k : Kind) → get_or l 0 0 ≡ b → ((t : List ℕ) → kind_of (b ∷ t) ≡ k) → kind_of l ≡ k
    kind_by b k e f = ap kind_of (drop-cons l 0 0 (omega (arith, n))) ∙ ap (λ (x : ℕ). kind_of (x ∷ drop 1 l)) e ∙ f (drop 1 l)

    pub kind_comment : get_or l 0 0 ≡ 59 → kind_of l ≡ skipped
    unfolding kind_of row_of
    kind_comment e = kind_by 59 skipped e (λ t. refl)

    pub kind_header : get_or l 0 0 ≡ 64 → kind_of l ≡ header_line
    unfolding kind_of row_of
    kind_header e = kind_by 64 header_line e (λ t. refl)

    pub kind_directive : get_or l 0 0 ≡ 35 → kind_of l ≡ directive_line
    unfolding kind_of row_of
    kind_directive e = kind_by 35 directive_line e (λ t. refl)

    pub kind_macro : get_or l 0 0 ≡ 33 → kind_of l ≡ macro_line
    unfolding kind_of row_of
    kind_macro e = kind_by 33 macro_line e (λ t. refl)

    pub kind_part : (get_or l 0 0 ≡ 59 → ⊥) → (get_or l 0 0 ≡ 64 → ⊥) → (get_or l 0 0 ≡ 35 → ⊥) → (get_or l 0 0 ≡ 33 → ⊥) → kind_of l ≡ part_line
    unfolding kind_of
    kind_part a b c d = kind_by (get_or l 0 0) part_line refl (λ t. row_none (get_or l 0 0) part_line rows (a, (b, (c, (d, tt)))))

-- the same of the line at a place of the source
module _ (s : List ℕ) (at end next : ℕ) (l : Lined s at end next) (k : Kind) where
  pub kind_none : end ≤ at → ((t : List ℕ) → length t ≡ 0 → kind_of t ≡ k) → kind_of (line_of (drop at s)) ≡ k
  kind_none h f = ap kind_of (sym l.line) ∙ f (take (end - at) (drop at s)) (omega (arith, length-take (end - at) (drop at s), h))

  pub kind_here : at < end → ((t : List ℕ) → (length t ≡ 0 → ⊥) → get_or t 0 0 ≡ get_or s at 0 → kind_of t ≡ k) → kind_of (line_of (drop at s)) ≡ k
  kind_here h f =
      ap kind_of (sym l.line ∙ first)
      ∙ f (get_or s at 0 ∷ take (end - at - 1) (drop (suc at) s)) (λ z. absurd (omega (arith, z))) refl
    where
      first : take (end - at) (drop at s) ≡ get_or s at 0 ∷ take (end - at - 1) (drop (suc at) s)
      first =
          ap (take (end - at)) (drop-cons s at 0 (omega (arith, h, l.within)))
          ∙ ap (λ (n : ℕ). take n (get_or s at 0 ∷ drop (suc at) s)) (let z : end - at ≡ suc (end - at - 1) = omega (arith, h) in z)

-- ---- whether it is a part's

-- 1 for a part's line
unfoldable partly : Kind → ℕ
partly skipped = 0
partly header_line = 0
partly directive_line = 0
partly macro_line = 0
partly part_line = 1

module _ (l : List ℕ) where
  abbrev pub Parts : Bool → Type 0
  Parts r = (r ≡ true → kind_of l ≡ part_line) × (r ≡ false → kind_of l ≡ part_line → ⊥)

  part_not : (k : Kind) → partly k ≡ 0 → kind_of l ≡ k → Parts false
  unfolding partly
  part_not k n e = (λ z. absurd (true≢false (sym z)), λ z f. absurd (one (ap partly (sym e ∙ f))))
    where
      one : partly k ≡ partly part_line → ⊥
      one y = omega (arith, n, y)

  pub not_skipped : kind_of l ≡ skipped → Parts false
  unfolding partly
  not_skipped = part_not skipped refl

  pub not_header : kind_of l ≡ header_line → Parts false
  unfolding partly
  not_header = part_not header_line refl

  pub not_directive : kind_of l ≡ directive_line → Parts false
  unfolding partly
  not_directive = part_not directive_line refl

  pub not_macro : kind_of l ≡ macro_line → Parts false
  unfolding partly
  not_macro = part_not macro_line refl

  pub is_part : kind_of l ≡ part_line → Parts true
  is_part e = (λ z. e, λ z. absurd (true≢false z))

-- ---- what each does

module _ (mode : Mode) (rate : ℕ) (s places : List ℕ) (r : Sofar) (fs : List Float) (is ls : List ℕ) (t : Tables) (next : ℕ) (places' : List ℕ) (q : Sofar) (fs' : List Float) (is' ls' : List ℕ) (t' : Tables) where
  abbrev text : List ℕ
  text = line_of (drop r.at s)

  abbrev below : List (List ℕ)
  below = lines_of (drop next s)

  abbrev before : Read
  before = read_in s places r fs is ls t

  abbrev Stepped : Kind → Type 0
  Stepped k = Goes (line_read mode rate k r.line text below before) (1 + taken_by k below) s places' r q fs' is' ls' t'

  by_kind : (k : Kind) → kind_of text ≡ k → Stepped k → Stepped (kind_of text)
  by_kind k e g = subst Stepped (sym e) g

  pub header_stepped : kind_of text ≡ header_line → Goes (header_read mode r.line text below before) (1 + length (operator_lines below)) s places' r q fs' is' ls' t' → Stepped (kind_of text)
  unfolding line_read taken_by
  header_stepped e g = by_kind header_line e g

  pub directive_stepped : kind_of text ≡ directive_line → Goes (directive_read mode r.line text before) 1 s places' r q fs' is' ls' t' → Stepped (kind_of text)
  unfolding line_read taken_by
  directive_stepped e g = by_kind directive_line e g

  pub macro_stepped : kind_of text ≡ macro_line → Goes (macro_read r.line text before) 1 s places' r q fs' is' ls' t' → Stepped (kind_of text)
  unfolding line_read taken_by
  macro_stepped e g = by_kind macro_line e g

  pub part_stepped : kind_of text ≡ part_line → Goes (part_read rate r.line (named_of text) before) 1 s places' r q fs' is' ls' t' → Stepped (kind_of text)
  unfolding line_read taken_by
  part_stepped e g = by_kind part_line e g

-- a line that is skipped
module _ (mode : Mode) (rate : ℕ) (s places : List ℕ) (r : Sofar) (fs : List Float) (is ls : List ℕ) (t : Tables) (end next : ℕ) (b : Begins s r end next) (w : Fits places r fs is ls) (g : Tabled r t) where
  abbrev after : Sofar
  after = passed_to r r.macros r.instruments (r.line + 1) next

  pub skipped_steps : (q : Sofar) → q ≡ after → kind_of (line_of (drop r.at s)) ≡ skipped → Stepped mode rate s places r fs is ls t next places q fs is ls t (kind_of (line_of (drop r.at s)))
  unfolding line_read taken_by read_in
  skipped_steps q e k =
      subst (λ (x : Sofar). Stepped mode rate s places r fs is ls t next places x fs is ls t (kind_of (line_of (drop r.at s)))) (sym e)
      (by_kind mode rate s places r fs is ls t next places after fs is ls t skipped k
      (goes_on s places r fs is ls t after end next _ b b.goes refl refl
      (fits_passed _ _ _ _ _ _ _ _ _ w)
      (tabled_as _ _ _ refl refl g)
      refl))
