-- `all_below_128` keeps the largest byte; it and the bytes that are left say what all of them do. Assumes nothing.
use Rattle.std.proofs.Common.{◌&&◌, ◌+◌, ℕ, ltb, drop, refl, sym, ap, ◌∙◌, arith}
use Rattle.meaning.specs.Sheets.{all_below128}
use Rattle.parser.proofs.Bytes.{below_end, below_more}
use Rattle.parser.proofs.reader.all_below_128.Goals as goal

pub loop-b-init : goal.loop-b-init
loop-b-init c = refl

pub loop-b-preserved : goal.loop-b-preserved
loop-b-preserved c =
    let l = c.loop-b in
    let s = c.args.source.now in
    ap (λ (n : ℕ). ltb n 128 && all_below128 (drop (l.b-index + 1) s)) (c.max-most.ensures ∙ omega arith) ∙ below_more s l.b-index l.most c.loop-b-test.true ∙ l.invariant

pub returns : goal.returns
returns c =
    let l = c.loop-b in
    sym (below_end c.args.source.now l.b-index l.most c.loop-b-test.false) ∙ l.invariant
