-- `all_below_128` keeps the largest byte; it and the bytes that are left say what all of them do. Assumes nothing.
use Rattle.std.proofs.Common.{◌≡◌, ◌&&◌, ltb, drop}
use Rattle.meaning.specs.Sheets.{all_below128}
use Rattle.parser.proofs.reader.all_below_128.Given as goal

abbrev pub invariant-loop-b : goal.invariant-loop-b
invariant-loop-b l = ltb l.most 128 && all_below128 (drop l.b-index l.source) ≡ all_below128 l.source
