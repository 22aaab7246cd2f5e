-- Operator lines that are accepted: there is one operator for each line, its feedback is within the capacity, and so an instrument's columns hold exactly
-- what was read. Assumes nothing.
use mathlib.Core.Path.{◌≡◌, refl, ap, ap₂, ◌∙◌}
use mathlib.Core.List.{List, [], ◌∷◌, map}
use mathlib.Core.Option.{Option, some}
use Prim.Native.Nat.{ℕ, suc, ◌+◌, ◌/◌, ◌≤◌, min}
use native.Mathlib.Omega.{arith}
use lib.ListN.{length, drop}
use lib.Ieee.{Float}
use borrow.Author.Tests.{leb-true}
use Rattle.lines.specs.Tokens.{tokens_of}
use Rattle.tree.specs.Lines.{Line}
use Rattle.sheet.specs.Capacities.{feedback_most}
use Rattle.sheet.proofs.Holds.{Holds, holds_going, holds_unless, holds_if, holds_then, holds_after}
use Rattle.strict.specs.declared.mode.Mode.{Mode}
use Rattle.operators.specs.OperatorLines.{indent_of, feedback_read, operator_of, operator_read, operators_read}
use Rattle.blocks.specs.Blocks.{lines_in}
use Rattle.operators.proofs.Indents.{holds_indented}
use Rattle.commands.specs.Commands.{clipped, lines_held}

-- ---- the feedback

feedback_few : (mode : Mode) (line : ℕ) (ts : List (List ℕ)) → Holds (λ (f : ℕ). f ≤ feedback_most) (feedback_read mode line ts)
unfolding feedback_read
feedback_few mode line [] = holds_going (λ (f : ℕ). f ≤ feedback_most) 0 (omega arith)
feedback_few mode line (t ∷ ts) = holds_after _ _ _ (λ v. holds_unless _ _ _ _ _ (λ e. holds_if _ _ _ _ _ (holds_going (λ (f : ℕ). f ≤ feedback_most) v (leb-true _ _ e))))

-- an operator that is read is not clipped
abbrev Whole : Line → Type 0
Whole o = clipped o ≡ o

operator_whole : (l : List ℕ) (xs : List Float) (f : ℕ) → f ≤ feedback_most → Whole (record { indent = indent_of l; op = operator_of xs f })
unfolding clipped operator_of
operator_whole l xs f h = rw (let z : min f 255 ≡ f = omega (arith, h) in z)

one_whole : (mode : Mode) (line : ℕ) (before : Option ℕ) (above : ℕ) (l : List ℕ) → Holds Whole (operator_read mode line before above l)
unfolding operator_read
one_whole mode line before above l =
    holds_indented Whole line before (indent_of l) _
    (λ e. holds_unless _ _ _ _ _
    (λ t. holds_after _ _ _
    (λ xs. holds_then (λ (f : ℕ). f ≤ feedback_most) Whole (feedback_read mode line (drop 6 (tokens_of l))) _ (feedback_few mode line (drop 6 (tokens_of l)))
    (λ f k. holds_unless _ _ _ _ _ (λ u. holds_going Whole _ (operator_whole l xs f k))))))

-- ---- all lines

-- the operators of these lines
pub record OfLines (ls : List (List ℕ)) (os : List Line) : Type 0 where
  pub whole : map clipped os ≡ os
  pub many : length os ≡ length ls

pub all_of_lines : (mode : Mode) (before : Option ℕ) (line above : ℕ) (ls : List (List ℕ)) → Holds (OfLines ls) (operators_read mode before line above ls)
unfolding operators_read
all_of_lines mode before line above [] = holds_going (OfLines []) [] (record { whole = refl; many = refl })
all_of_lines mode before line above (l ∷ ls) =
    holds_then Whole (OfLines (l ∷ ls)) (operator_read mode line before above l) _ (one_whole mode line before above l)
    (λ o w. holds_then (OfLines ls) (OfLines (l ∷ ls)) (operators_read mode (some o.indent) (line + 1) (above + 1) ls) _
    (all_of_lines mode (some o.indent) (line + 1) (above + 1) ls)
    (λ os k. holds_going (OfLines (l ∷ ls)) (o ∷ os) (record { whole = ap₂ (λ (x : Line) (xs : List Line). x ∷ xs) w k.whole; many = ap suc k.many })))

-- ---- the columns

-- columns of one instrument hold what was read
pub held_whole : (n : ℕ) (fs : List Float) (ss : List ℕ) → n ≤ 32 → length fs ≡ 192 → length ss ≡ 64 → map clipped (lines_in n fs ss) ≡ lines_in n fs ss
    → lines_held n fs ss ≡ lines_in n fs ss
unfolding lines_held
held_whole n fs ss h f s e =
    ap (λ (k : ℕ). map clipped (lines_in k fs ss))
    (ap₂ (λ (x y : ℕ). min (min n 32) (min (x / 6) (y / 2))) f s ∙ (let z : min (min n 32) 32 ≡ n = omega (arith, h) in z))
    ∙ e
