-- `answer_all` puts answer after answer: what is still to be put makes the rest of the block. `out` keeps its length, and the measure
-- is how many requests are left. Assumes nothing.
use Rattle.std.proofs.Common.{◌≡◌, ℕ, suc, ◌+◌, ◌-◌, ◌*◌, ◌/◌, List, take, drop, ap, ◌∙◌, arith, length-drop, length-take-le}
use Rattle.io.proofs.Counting.{prefix_len_of_le}
use Rattle.ask_numbers.specs.declared.answer.Answer.{Answer}
use Rattle.ask_numbers.specs.Answer.{answer_to}
use Rattle.ask_numbers.specs.Block.{put_at, request_at, answered}
use Rattle.ask_numbers.proofs.block.answer_all.Goals as goal

-- one request more
one_more : (requests out : List ℕ) (a : Answer) (i k m : ℕ) → k ≡ suc m → a ≡ answer_to (request_at requests i)
    → answered requests (put_at out (i * 16) a) (i + 1) m ≡ answered requests out i k
unfolding answered
one_more requests out a i k m e h = rw (e, h)

-- none left
all_done : (requests out : List ℕ) (i k : ℕ) → k ≡ 0 → out ≡ answered requests out i k
unfolding answered
all_done requests out i k e = rw e

pub loop-i-init : goal.loop-i-init
loop-i-init c =
    let e : c.min-n.result - 0 ≡ c.min-n.result = omega arith in
    rw e

pub to-a-requires : goal.to-a-requires
to-a-requires c =
    let i = c.loop-i.i in
    let s = c.args.requests.now in
    let e : i * 32 + 32 - i * 32 ≡ 32 = omega arith in
    (c.requires, rw e (length-take-le 32 (drop (i * 32) s) (simp length-drop (omega arith))))

pub loop-i-preserved : goal.loop-i-preserved
loop-i-preserved c =
    let s = c.args.requests.now in
    let n = c.min-n.result in
    let l = c.loop-i in
    let t = c.to-a in
    let p = c.put in
    let i = l.i in
    let e : i * 32 + 32 - i * 32 ≡ 32 = omega arith in
    let a : t.result ≡ answer_to (request_at s i) = t.ensures ∙ ap (λ (k : ℕ). answer_to (take k (drop (i * 32) s))) e in
    ap (λ (o : List ℕ). answered s o (i + 1) (n - (i + 1))) p.ensures
    ∙ one_more s l.out t.result i (n - i) (n - (i + 1)) (omega arith) a
    ∙ l.invariant

pub returns-clause-within : goal.returns-clause-within
returns-clause-within c = prefix_len_of_le (c.min-n.result * 16) c.loop-i.out (omega arith)

pub returns-clause-count : goal.returns-clause-count
returns-clause-count c = ap (λ (k : ℕ). k * 16) c.min-n.ensures

pub returns-clause-answers : goal.returns-clause-answers
returns-clause-answers c =
    let n = c.min-n.result in
    let l = c.loop-i in
    let e : n * 16 / 16 ≡ n = omega arith in
    all_done c.args.requests.now l.out l.i (n - l.i) (omega arith) ∙ rw e l.invariant
