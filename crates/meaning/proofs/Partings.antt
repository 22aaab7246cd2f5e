-- Where strict mode and plain mode part: each definition that asks for a token to be read to its end gives in strict mode what it gives in plain mode, or
-- refusal 32; and in plain mode what it gave without a mode. Assumes nothing.
use mathlib.Core.Path.{◌≡◌, refl, sym, ap, subst, ◌∙◌}
use mathlib.Core.Bool.{Bool, true, false, ◌||◌}
use mathlib.Core.Logic.{◌⊎◌, inl, inr}
use mathlib.Core.List.{List, [], ◌∷◌}
use mathlib.Core.Option.{Option, none, some}
use Prim.Native.Nat.{ℕ, zero, suc, ◌+◌}
use lib.Dec.{leb, ltb, eqb}
use lib.ListN.{length, take, drop}
use Rattle.text.specs.Characters.{same, row_named}
use Rattle.text.specs.Quoted.{bytes}
use Rattle.lines.specs.Lines.{lines_of}
use Rattle.lines.specs.Tokens.{tokens_of, first_token}
use Rattle.number.specs.Digits.{value_most, int_at, int_width}
use Rattle.number.specs.Decimal.{decimal_at, decimal_width}
use Rattle.tree.specs.Lines.{Line}
use Rattle.sheet.specs.Capacities.{source_most}
use Rattle.sheet.specs.Refusals.{Outcome, going, refused, ◌>>=◌, ◌>>◌, refuse◌on◌unless◌, refuse◌on◌if◌, refuse◌on◌without◌}
use Rattle.sheet.proofs.Outcomes.{then_refused}
use Rattle.strict.specs.declared.mode.Mode.TheVariants.{Plain, Strict}
use Rattle.strict.specs.Strict.{tailed, read_to_its_end}
use Rattle.operators.specs.OperatorLines.{operator_lines, indent_of, indented, readable, present, numbers_read, feedback_read, operator_read, operators_read}
use Rattle.directive.specs.Directives.{directives, change_of, directive_of}
use Rattle.directive.proofs.Rows.{by_name}
use Rattle.tables.specs.Tables.{header_of}
use Rattle.meaning.specs.Before as Before
use Rattle.meaning.specs.Sheets.{Read, nothing_read, Kind, skipped, header_line, directive_line, macro_line, part_line, kind_of, taken_by, header_read, directive_read, line_read, lines_read, all_below128, sheet_read}

-- ---- the same, or 32

-- what strict mode gives beside what plain mode gives
abbrev pub Beside : {A : Type 0} → Outcome A → Outcome A → Type 0
Beside strict plain = (strict ≡ plain) ⊎ ((line : ℕ) × (strict ≡ refused 32 line))

-- one reading behind another
beside_then : {A B : Type 0} (m n : Outcome A) (f g : A → Outcome B) → Beside m n → ((x : A) → Beside (f x) (g x)) → Beside (◌>>=◌ m f) (◌>>=◌ n g)
unfolding ◌>>=◌
beside_then {A} {B} m n f g (inl e) k = subst (λ (o : Outcome A). Beside (◌>>=◌ o f) (◌>>=◌ n g)) (sym e) (go n)
  where
    go : (o : Outcome A) → Beside (◌>>=◌ o f) (◌>>=◌ o g)
    go (going x) = k x
    go (refused a b) = inl refl
beside_then m n f g (inr p) k = inr (p.0, then_refused 32 p.0 m f p.1)

beside_after : {A B : Type 0} (m : Outcome A) (f g : A → Outcome B) → ((x : A) → Beside (f x) (g x)) → Beside (◌>>=◌ m f) (◌>>=◌ m g)
beside_after m f g k = beside_then m m f g (inl refl) k

-- behind a test that both make
beside_test : {A : Type 0} (m : Outcome (Unit {0})) (a b : Outcome A) → Beside a b → Beside (◌>>◌ m a) (◌>>◌ m b)
unfolding ◌>>◌
beside_test (going x) a b h = h
beside_test (refused n l) a b h = inl refl

-- behind a token that is to be read to its end: this alone parts the two
beside_token : {A : Type 0} (line : ℕ) (t : List ℕ) (stop : ℕ) (a b : Outcome A) → Beside a b
    → Beside (◌>>◌ (read_to_its_end Strict line t stop) a) (◌>>◌ (read_to_its_end Plain line t stop) b)
unfolding read_to_its_end tailed ◌>>◌ refuse◌on◌if◌
beside_token line t stop a b h = go (ltb stop (length t))
  where
    go : (x : Bool) → Beside (◌>>◌ (refuse◌on◌if◌ 32 line x) a) b
    go true = inr (line, refl)
    go false = h

-- ---- operator lines

module _ (line : ℕ) where
  numbers_beside : (ts : List (List ℕ)) → Beside (numbers_read Strict line ts) (numbers_read Plain line ts)
  unfolding numbers_read
  numbers_beside [] = inl refl
  numbers_beside (t ∷ ts) =
      beside_after (readable line (decimal_at t 0)) _ _
      (λ x. beside_token line t (decimal_width (decimal_at t 0)) _ _ (beside_then _ _ _ _ (numbers_beside ts) (λ xs. inl refl)))

  feedback_beside : (ts : List (List ℕ)) → Beside (feedback_read Strict line ts) (feedback_read Plain line ts)
  unfolding feedback_read
  feedback_beside [] = inl refl
  feedback_beside (t ∷ ts) =
      beside_after (present line (int_at value_most t 0)) _ _
      (λ v. beside_test _ _ _ (beside_token line t (int_width (int_at value_most t 0)) _ _ (inl refl)))

  operator_beside : (before : Option ℕ) (above : ℕ) (l : List ℕ) → Beside (operator_read Strict line before above l) (operator_read Plain line before above l)
  unfolding operator_read
  operator_beside before above l =
      beside_test (indented line before (indent_of l)) _ _
      (beside_test _ _ _
      (beside_then _ _ _ _ (numbers_beside (take 6 (tokens_of l)))
      (λ xs. beside_then _ _ _ _ (feedback_beside (drop 6 (tokens_of l))) (λ f. inl refl))))

operators_beside : (before : Option ℕ) (line above : ℕ) (ls : List (List ℕ)) → Beside (operators_read Strict before line above ls) (operators_read Plain before line above ls)
unfolding operators_read
operators_beside before line above [] = inl refl
operators_beside before line above (l ∷ ls) =
    beside_then _ _ _ _ (operator_beside line before above l)
    (λ o. beside_then _ _ _ _ (operators_beside (some o.indent) (line + 1) (above + 1) ls) (λ os. inl refl))

-- ---- directives

module _ (line : ℕ) (text : List ℕ) where
  tempo_beside : Beside (change_of Strict line (bytes "#tempo") text) (change_of Plain line (bytes "#tempo") text)
  unfolding change_of directives row_named same bytes
  tempo_beside = beside_after _ _ _ (λ v. beside_token line text _ _ _ (inl refl))

  denominator_beside : Beside (change_of Strict line (bytes "#denom") text) (change_of Plain line (bytes "#denom") text)
  unfolding change_of directives row_named same bytes
  denominator_beside = beside_after _ _ _ (λ v. beside_token line text _ _ _ (inl refl))

  key_beside : Beside (change_of Strict line (bytes "#key") text) (change_of Plain line (bytes "#key") text)
  unfolding change_of directives row_named same bytes
  key_beside = beside_after _ _ _ (λ k. beside_token line text _ _ _ (inl refl))

  change_beside : (name : List ℕ) → Beside (change_of Strict line name text) (change_of Plain line name text)
  change_beside name = by_name (λ x y. Beside x y) Strict Plain line text tempo_beside denominator_beside key_beside (inl refl) name

directive_beside : (line : ℕ) (l : List ℕ) → Beside (directive_of Strict line l) (directive_of Plain line l)
unfolding directive_of
directive_beside line l = beside_after _ _ _ (λ n. change_beside line (first_token n.body) n.name)

-- ---- lines

line_beside : (rate : ℕ) (k : Kind) (line : ℕ) (l : List ℕ) (below : List (List ℕ)) (r : Read) → Beside (line_read Strict rate k line l below r) (line_read Plain rate k line l below r)
unfolding line_read header_read directive_read
line_beside rate skipped line l below r = inl refl
line_beside rate header_line line l below r =
    beside_after _ _ _ (λ n. beside_then _ _ _ _ (operators_beside none (line + 1) 0 (operator_lines below)) (λ os. inl refl))
line_beside rate directive_line line l below r = beside_then _ _ _ _ (directive_beside line l) (λ f. inl refl)
line_beside rate macro_line line l below r = inl refl
line_beside rate part_line line l below r = inl refl

lines_beside : (rate k line : ℕ) (ls : List (List ℕ)) (r : Read) → Beside (lines_read Strict rate k line ls r) (lines_read Plain rate k line ls r)
unfolding lines_read
lines_beside rate k line [] r = inl refl
lines_beside rate (suc k) line (l ∷ ls) r = lines_beside rate k (line + 1) ls r
lines_beside rate zero line (l ∷ ls) r =
    beside_then _ _ _ _ (line_beside rate (kind_of l) line l ls r) (λ q. lines_beside rate (taken_by (kind_of l) ls) (line + 1) ls q)

pub sheet_beside : (rate : ℕ) (source : List ℕ) → Beside (sheet_read Strict rate source) (sheet_read Plain rate source)
unfolding sheet_read
sheet_beside rate source =
    beside_test _ _ _ (beside_test _ _ _ (beside_then _ _ _ _ (lines_beside rate 0 1 (lines_of source) nothing_read) (λ r. inl refl)))

-- ---- plain mode, and no mode

-- one reading behind another
then_as : {A B : Type 0} (m n : Outcome A) (f g : A → Outcome B) → m ≡ n → ((x : A) → f x ≡ g x) → ◌>>=◌ m f ≡ ◌>>=◌ n g
unfolding ◌>>=◌
then_as {A} m n f g e k = ap (λ (o : Outcome A). ◌>>=◌ o f) e ∙ go n
  where
    go : (o : Outcome A) → ◌>>=◌ o f ≡ ◌>>=◌ o g
    go (going x) = k x
    go (refused a b) = refl

module _ (line : ℕ) where
  numbers_before : (ts : List (List ℕ)) → numbers_read Plain line ts ≡ Before.numbers_read line ts
  unfolding numbers_read Before.numbers_read read_to_its_end tailed ◌>>◌ refuse◌on◌if◌
  numbers_before [] = refl
  numbers_before (t ∷ ts) =
      then_as (readable line (decimal_at t 0)) _ _ _ refl (λ x. then_as _ _ _ _ (numbers_before ts) (λ xs. refl))

  feedback_before : (ts : List (List ℕ)) → feedback_read Plain line ts ≡ Before.feedback_read line ts
  unfolding feedback_read Before.feedback_read read_to_its_end tailed ◌>>◌ refuse◌on◌if◌
  feedback_before [] = refl
  feedback_before (t ∷ ts) = refl

  operator_before : (before : Option ℕ) (above : ℕ) (l : List ℕ) → operator_read Plain line before above l ≡ Before.operator_read line before above l
  unfolding operator_read Before.operator_read
  operator_before before above l =
      ap (λ (o : Outcome Line). ◌>>◌ (indented line before (indent_of l)) (◌>>◌ (refuse◌on◌unless◌ 17 line (eqb (length (tokens_of l)) 6 || eqb (length (tokens_of l)) 7)) o))
      (then_as _ _ _ _ (numbers_before (take 6 (tokens_of l))) (λ xs. then_as _ _ _ _ (feedback_before (drop 6 (tokens_of l))) (λ f. refl)))

operators_before : (before : Option ℕ) (line above : ℕ) (ls : List (List ℕ)) → operators_read Plain before line above ls ≡ Before.operators_read before line above ls
unfolding operators_read Before.operators_read
operators_before before line above [] = refl
operators_before before line above (l ∷ ls) =
    then_as _ _ _ _ (operator_before line before above l)
    (λ o. then_as _ _ _ _ (operators_before (some o.indent) (line + 1) (above + 1) ls) (λ os. refl))

directive_before : (line : ℕ) (l : List ℕ) → directive_of Plain line l ≡ Before.directive_of line l
unfolding directive_of Before.directive_of change_of Before.change_of directives Before.directives read_to_its_end tailed ◌>>◌ refuse◌on◌if◌
directive_before line l = refl

line_before : (rate : ℕ) (k : Kind) (line : ℕ) (l : List ℕ) (below : List (List ℕ)) (r : Read) → line_read Plain rate k line l below r ≡ Before.line_read rate k line l below r
unfolding line_read Before.line_read header_read Before.header_read directive_read Before.directive_read
line_before rate skipped line l below r = refl
line_before rate header_line line l below r =
    then_as (header_of line l r.names) _ _ _ refl (λ n. then_as _ _ _ _ (operators_before none (line + 1) 0 (operator_lines below)) (λ os. refl))
line_before rate directive_line line l below r = then_as _ _ _ _ (directive_before line l) (λ f. refl)
line_before rate macro_line line l below r = refl
line_before rate part_line line l below r = refl

lines_before : (rate k line : ℕ) (ls : List (List ℕ)) (r : Read) → lines_read Plain rate k line ls r ≡ Before.lines_read rate k line ls r
unfolding lines_read Before.lines_read
lines_before rate k line [] r = refl
lines_before rate (suc k) line (l ∷ ls) r = lines_before rate k (line + 1) ls r
lines_before rate zero line (l ∷ ls) r =
    then_as _ _ _ _ (line_before rate (kind_of l) line l ls r) (λ q. lines_before rate (taken_by (kind_of l) ls) (line + 1) ls q)

pub sheet_before : (rate : ℕ) (source : List ℕ) → sheet_read Plain rate source ≡ Before.sheet_read rate source
unfolding sheet_read Before.sheet_read
sheet_before rate source =
    ap (λ (o : Outcome Read). ◌>>◌ (refuse◌on◌unless◌ 1 0 (leb (length source) source_most)) (◌>>◌ (refuse◌on◌unless◌ 2 0 (all_below128 source)) o))
    (then_as _ _ _ _ (lines_before rate 0 1 (lines_of source) nothing_read) (λ r. refl))
