-- The operator lines below a header, as code keeps them: the six numbers of each operator in one column, its indent and its feedback in another. Assumes
-- nothing.
use Rattle.std.specs.Prelude.{Bool, true, false, ◌&&◌, List, [], ◌∷◌, ℕ, zero, suc, ◌+◌, ◌*◌, leb, take, drop, get_or, Float, Some, None}
use Rattle.std.proofs.Math.Option.{none}
use Rattle.std.specs.Float.{nan}
use Rattle.lines.specs.Lines.{lines_of}
use Rattle.tree.specs.Lines.{Line}
use Rattle.sheet.specs.Capacities.{operators_most}
use Rattle.sheet.specs.Numbers.{number_of}
use Rattle.sheet.specs.Refusals.{Outcome, going, refused}
use Rattle.strict.specs.declared.mode.Mode.{Mode}
use Rattle.blocks.specs.declared.block.Block.{Block}
use Rattle.operators.specs.OperatorLines.{operator_lines, operators_read}

-- the first n operator lines of two columns
unfoldable pub lines_in : ℕ → List Float → List ℕ → List Line
lines_in zero fs ss = []
lines_in (suc n) fs ss =
    record {
      indent = get_or ss 0 0;
      op =
          record {
            amplitude = get_or fs 0 nan;
            freqratio = get_or fs 1 nan;
            attack = get_or fs 2 nan;
            decay = get_or fs 3 nan;
            sustain = get_or fs 4 nan;
            release = get_or fs 5 nan;
            feedback = get_or ss 1 0;
          };
    }
    ∷ lines_in n (drop 6 fs) (drop 2 ss)

-- "Operators 32 per instrument": whether columns of these lengths have room for as many
unfoldable pub has_room : ℕ → ℕ → Bool
has_room numbers shape = leb (6 * operators_most) numbers && leb (2 * operators_most) shape

-- what comes of the operator lines of a text, the first of which has this number; 21 where the columns have no room for 32 operators
unfoldable pub block_read : Mode → ℕ → List ℕ → ℕ → ℕ → Outcome (List Line)
unfolding lines_of operator_lines operators_read has_room
block_read mode line below numbers shape =
    elim (has_room numbers shape)
    [ true ↦ operators_read mode none line 0 (operator_lines (lines_of below)) | false ↦ refused 21 line ]

-- what comes of the first n operator lines of a text, whatever comes of the next: the reader states "the final contents
-- of each slice lent to it, over all arguments, refusals too"
unfoldable pub first_read : Mode → ℕ → ℕ → List ℕ → Outcome (List Line)
unfolding lines_of operator_lines operators_read
first_read mode line n below = operators_read mode none line 0 (take n (operator_lines (lines_of below)))

-- what an answer and the columns tell: a refusal is given at the line behind those that were read
unfoldable pub block_outcome : ℕ → Block → List Float → List ℕ → Outcome (List Line)
unfolding lines_in
block_outcome line b fs ss =
    elim b.refusal [ None ↦ going (lines_in b.count fs ss) | Some why ↦ refused (number_of why) (line + b.count) ]
