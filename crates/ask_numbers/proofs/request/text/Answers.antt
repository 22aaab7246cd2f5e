-- `text` is `text_of`: a length that the request does not hold takes all that there is. Assumes nothing.
use Rattle.std.proofs.Common.{◌≡◌, ℕ, ◌+◌, ◌-◌, length, get_or, take, drop, sym, ap, ◌∙◌, arith, length-drop, take_all}
use Rattle.ask_numbers.specs.Request.{text_of}
use Rattle.ask_numbers.proofs.request.text.Goals as goal

pub returns-then-n-gt29 : goal.returns-then-n-gt29
unfolding text_of
returns-then-n-gt29 c =
    let s = c.args.s.now in
    take_all (length s - 3) (drop 3 s) (simp length-drop (omega arith)) ∙ sym (take_all (get_or s 1 0) (drop 3 s) (simp length-drop (omega arith)))

pub returns : goal.returns
unfolding text_of
returns c =
    let s = c.args.s.now in
    let e : 3 + get_or s 1 0 - 3 ≡ get_or s 1 0 = omega arith in
    ap (λ (k : ℕ). take k (drop 3 s)) e
