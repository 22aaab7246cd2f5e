-- `add_number` adds the digits of the tenth part, which falls at each call, and then the last. Assumes nothing.
use mathlib.Core.Path.{◌≡◌, sym, ap, ◌∙◌}
use mathlib.Core.List.{List, [], ◌∷◌, ◌++◌, append_assoc}
use Prim.Native.Nat.{ℕ, ◌+◌, ◌/◌, ◌≤◌, ◌<◌}
use native.Mathlib.Omega.{arith}
use lib.ListN.{length, length-append}
use Rattle.refusal.specs.Line.{last_digit, numeral, starting_with, Adds}
use Rattle.refusal.proofs.Numerals.{numeral_one, numeral_more, length_one, length_more}
use Rattle.refusal.proofs.line.+add_number.Goals as goal

-- one digit alone
one_added : (n : ℕ) {text later : List ℕ} {at d r : ℕ} → n < 10 → d ≡ last_digit n → r ≡ at + 1 → Adds text at (d ∷ []) later
    → (r ≡ at + length (numeral n)) × Adds text at (numeral n) later
one_added n {at = at} h e f w = (
  f ∙ ap (λ (k : ℕ). at + k) (sym (length_one n h)),
  λ front behind t l. w front behind t l ∙ ap (λ (ds : List ℕ). starting_with (front ++ ds) behind) (ap (λ (d : ℕ). d ∷ []) e ∙ sym (numeral_one n h)),
)

-- the last digit behind those of the tenth part
more_added : (n : ℕ) {text between later : List ℕ} {at d q r : ℕ} → 10 ≤ n → d ≡ last_digit n
    → q ≡ at + length (numeral (n / 10)) → Adds text at (numeral (n / 10)) between → r ≡ q + 1 → Adds between q (d ∷ []) later
    → (r ≡ at + length (numeral n)) × Adds text at (numeral n) later
more_added n {at = at} h e f u g w = (
  omega (arith, f, g, length_more n h),
  λ front behind t l.
      w (front ++ numeral (n / 10)) behind (u front behind t l) (f ∙ ap (λ (k : ℕ). k + length (numeral (n / 10))) l ∙ sym (length-append front (numeral (n / 10))))
      ∙ ap (λ (ds : List ℕ). starting_with ds behind)
      (append_assoc front (numeral (n / 10)) _ ∙ ap (λ (ds : List ℕ). front ++ ds) (ap (λ (d : ℕ). numeral (n / 10) ++ (d ∷ [])) e ∙ sym (numeral_more n h))),
)

pub add_word-requires : goal.add_word-requires
add_word-requires t c = omega (arith, c.requires, length_one c.args.n c.if-n-lt10.true)

pub returns-then-n-lt10-clause-end : goal.returns-then-n-lt10-clause-end
returns-then-n-lt10-clause-end t c =
    (one_added c.args.n c.if-n-lt10.true c.digit.ensures c.add_word.ensures.end c.add_word.ensures.bytes).0

pub returns-then-n-lt10-clause-bytes : goal.returns-then-n-lt10-clause-bytes
returns-then-n-lt10-clause-bytes t c =
    (one_added c.args.n c.if-n-lt10.true c.digit.ensures c.add_word.ensures.end c.add_word.ensures.bytes).1

pub add_number-behind-requires : goal.add_number-behind-requires
add_number-behind-requires t c = omega (arith, c.requires, length_more c.args.n c.if-n-lt10.false)

pub add_word-requires-2 : goal.add_word-requires-2
add_word-requires-2 t c =
    omega (arith, c.requires, length_more c.args.n c.if-n-lt10.false, c.add_number-behind.ensures.end)

pub returns-clause-end : goal.returns-clause-end
returns-clause-end t c =
    let f = c.add_number-behind.ensures in
    let w = c.add_word-2.ensures in
    (more_added c.args.n c.if-n-lt10.false c.digit.ensures f.end f.bytes w.end w.bytes).0

pub returns-clause-bytes : goal.returns-clause-bytes
returns-clause-bytes t c =
    let f = c.add_number-behind.ensures in
    let w = c.add_word-2.ensures in
    (more_added c.args.n c.if-n-lt10.false c.digit.ensures f.end f.bytes w.end w.bytes).1
