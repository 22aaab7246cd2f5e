-- `refused_line` adds the line's five words one behind the other. Assumes nothing.
use Prim.Native.Nat.{◌≤◌}
use native.Mathlib.Omega.{arith}
use lib.ListN.{length}
use Rattle.text.specs.Quoted.{bytes}
use Rattle.refusal.proofs.Numerals.{few_of_64}
use Rattle.refusal.proofs.Starts.{line_made, line_none, line_written}
use Rattle.refusal.proofs.line.refused_line.Goals as goal

pub add_number-b-requires : goal.add_number-b-requires
add_number-b-requires c =
    omega (arith, few_of_64 c.args.number (omega arith))

pub add_word-c-requires : goal.add_word-c-requires
add_word-c-requires c =
    omega (arith, few_of_64 c.args.number (omega arith))

pub add_number-d-requires : goal.add_number-d-requires
add_number-d-requires c =
    omega (arith, few_of_64 c.args.number (omega arith), few_of_64 c.args.line (omega arith))

pub add_word-requires : goal.add_word-requires
add_word-requires c =
    omega (arith, few_of_64 c.args.number (omega arith), few_of_64 c.args.line (omega arith))

pub returns-then-text-lt-ROOM-clause-count : goal.returns-then-text-lt-ROOM-clause-count
returns-then-text-lt-ROOM-clause-count c =
    (line_none _ _ c.args.text.now (omega arith)).0

pub returns-then-text-lt-ROOM-clause-bytes : goal.returns-then-text-lt-ROOM-clause-bytes
returns-then-text-lt-ROOM-clause-bytes c =
    (line_none _ _ c.args.text.now (omega arith)).1

pub returns-clause-count : goal.returns-clause-count
unfolding bytes
returns-clause-count c =
    (let room : 50 ≤ length c.args.text.now = omega arith in
    let made =
    line_made c.args.number c.args.line c.add_word-a.ensures.end c.add_word-a.ensures.bytes c.add_number-b.ensures.end c.add_number-b.ensures.bytes
    c.add_word-c.ensures.end c.add_word-c.ensures.bytes c.add_number-d.ensures.end c.add_number-d.ensures.bytes c.add_word.ensures.end c.add_word.ensures.bytes in
    line_written c.args.number c.args.line c.args.text.now room made).0

pub returns-clause-bytes : goal.returns-clause-bytes
unfolding bytes
returns-clause-bytes c =
    (let room : 50 ≤ length c.args.text.now = omega arith in
    let made =
    line_made c.args.number c.args.line c.add_word-a.ensures.end c.add_word-a.ensures.bytes c.add_number-b.ensures.end c.add_number-b.ensures.bytes
    c.add_word-c.ensures.end c.add_word-c.ensures.bytes c.add_number-d.ensures.end c.add_number-d.ensures.bytes c.add_word.ensures.end c.add_word.ensures.bytes in
    line_written c.args.number c.args.line c.args.text.now room made).1
