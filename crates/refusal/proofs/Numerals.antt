-- A numeral digit by digit: one digit below ten, else the numeral of the tenth part and then the last digit. It is short, it begins with
-- no zero, and the reader of digit runs reads it back as its number. Assumes nothing.
use mathlib.Core.Path.{◌≡◌, refl, ap, sym, subst, ◌∙◌}
use mathlib.Core.Bool.{Bool, true, false}
use mathlib.Core.List.{List, [], ◌∷◌, ◌++◌, append_assoc}
use Prim.Native.Nat.{ℕ, zero, suc, ◌+◌, ◌-◌, ◌*◌, ◌/◌, ◌%◌, ◌^◌, ◌≤◌, ◌<◌}
use native.Mathlib.Nat.{lt_trans, pow-suc}
use native.Mathlib.Omega.{arith}
use lib.Dec.{ltb, lit<}
use lib.ListN.{length, get_or, length-append}
use borrow.Author.Tests.{lt-ltb, le-ltb, ltb-true, ltb-false, le-leb}
use Rattle.std.specs.Prelude.{Some}
use Rattle.text.specs.Parsed.{parsed}
use Rattle.text.specs.Quoted.{bytes}
use Rattle.text.proofs.Passes.{Passes, passed_front}
use Rattle.number.specs.Digits.{is_digit, value_from, int_of, int_at}
use Rattle.number.proofs.Runs.{value_append}
use Rattle.refusal.specs.Line.{last_digit, digits_in, numeral, refused_line}

-- ---- digit by digit

-- below ten, or not
small : (n : ℕ) {P : Type 0} → (n < 10 → P) → (10 ≤ n → P) → P
small n {P} below from = go (ltb n 10) refl
  where
    go : (b : Bool) → ltb n 10 ≡ b → P
    go true e = below (ltb-true n 10 e)
    go false e = from (ltb-false n 10 e)

one_digit : (k n : ℕ) → n < 10 → digits_in (suc k) n ≡ last_digit n ∷ []
unfolding digits_in
one_digit k n h = rw (lt-ltb n 10 h, digits_in)

more_digits : (k n : ℕ) → 10 ≤ n → digits_in (suc k) n ≡ digits_in k (n / 10) ++ (last_digit n ∷ [])
unfolding digits_in
more_digits k n h = rw (le-ltb n 10 h, digits_in)

-- how many digits are allowed says nothing where they are enough
enough : (j k n : ℕ) → n < j → n < k → digits_in j n ≡ digits_in k n
enough zero k n h g = absurd (omega arith)
enough (suc j) zero n h g = absurd (omega arith)
enough (suc j) (suc k) n h g =
    small n (λ l. one_digit j n l ∙ sym (one_digit k n l))
    (λ l. more_digits j n l
    ∙ ap (λ (ds : List ℕ). ds ++ (last_digit n ∷ [])) (enough j k (n / 10) (omega arith) (omega arith))
    ∙ sym (more_digits k n l))

pub numeral_one : (n : ℕ) → n < 10 → numeral n ≡ last_digit n ∷ []
unfolding numeral
numeral_one n h = one_digit n n h

pub numeral_more : (n : ℕ) → 10 ≤ n → numeral n ≡ numeral (n / 10) ++ (last_digit n ∷ [])
unfolding numeral
numeral_more n h =
    more_digits n n h
    ∙ ap (λ (ds : List ℕ). ds ++ (last_digit n ∷ [])) (enough n (suc (n / 10)) (n / 10) (omega arith) (omega arith))

-- ---- how many digits

pub length_one : (n : ℕ) → n < 10 → length (numeral n) ≡ 1
length_one n h = ap length (numeral_one n h)

pub length_more : (n : ℕ) → 10 ≤ n → length (numeral n) ≡ length (numeral (n / 10)) + 1
length_more n h = ap length (numeral_more n h) ∙ length-append (numeral (n / 10)) (last_digit n ∷ [])

tenth_below : (n p q : ℕ) → q ≡ p * 10 → n < q → n / 10 < p
tenth_below n p q e h = omega arith

many : (k n : ℕ) → ((j : ℕ) → n / 10 < 10 ^ suc j → length (numeral (n / 10)) ≤ suc j) → n < 10 ^ suc k → 10 ≤ n → length (numeral n) ≤ suc k
many zero n below h l = absurd (omega (arith, pow-suc 10 0))
many (suc k) n below h l = omega (arith, length_more n l, below k (tenth_below n (10 ^ suc k) (10 ^ suc (suc k)) (pow-suc 10 (suc k)) h))

few_below : (most k n : ℕ) → n < most → n < 10 ^ suc k → length (numeral n) ≤ suc k
few_below zero k n m h = absurd (omega arith)
few_below (suc most) k n m h =
    small n (λ l. omega (arith, length_one n l)) (λ l. many k n (λ j. few_below most j (n / 10) (omega arith)) h l)

-- a number below a power of ten has no more digits
pub few : (k n : ℕ) → n < 10 ^ suc k → length (numeral n) ≤ suc k
few k n h = few_below (suc n) k n (omega arith) h

-- no number of 64 bits has more than 20 digits
pub few_of_64 : (n : ℕ) → n < 2 ^ 64 → length (numeral n) ≤ 20
few_of_64 n h = few 19 n (lt_trans h (lit< tt))

-- ---- read back

last_is_digit : (n : ℕ) → is_digit (last_digit n) ≡ true
unfolding is_digit last_digit
last_is_digit n = rw (le-leb 48 (48 + n % 10) (omega arith), le-leb (48 + n % 10) 57 (omega arith))

-- one digit more behind digits
passes_more : (ds : List ℕ) (d : ℕ) → Passes is_digit ds → is_digit d ≡ true → Passes is_digit (ds ++ (d ∷ []))
passes_more [] d h e = (e, tt)
passes_more (b ∷ ds) d h e = (h.0, passes_more ds d h.1 e)

-- a numeral is digits, which make its number
record Back (n : ℕ) : Type 0 where
  digits : Passes is_digit (numeral n)
  value : value_from 0 (numeral n) ≡ n

back_one : (n : ℕ) → n < 10 → Back n
unfolding value_from last_digit
back_one n h =
    record {
      digits = subst (Passes is_digit) (sym (numeral_one n h)) (last_is_digit n, tt);
      value = ap (value_from 0) (numeral_one n h) ∙ (let z : 0 * 10 + (48 + n % 10 - 48) ≡ n = omega arith in z);
    }

back_more : (n : ℕ) → 10 ≤ n → Back (n / 10) → Back n
unfolding value_from last_digit
back_more n h b =
    record {
      digits = subst (Passes is_digit) (sym (numeral_more n h)) (passes_more (numeral (n / 10)) (last_digit n) b.digits (last_is_digit n));
      value =
          ap (value_from 0) (numeral_more n h)
          ∙ value_append 0 (numeral (n / 10)) (last_digit n ∷ [])
          ∙ ap (λ (v : ℕ). value_from v (last_digit n ∷ [])) b.value
          ∙ (let z : n / 10 * 10 + (48 + n % 10 - 48) ≡ n = omega arith in z);
    }

back : (most n : ℕ) → n < most → Back n
back zero n h = absurd (omega arith)
back (suc most) n h = small n (λ l. back_one n l) (λ l. back_more n l (back most (n / 10) (omega arith)))

run_read : (limit n : ℕ) (ds : List ℕ) → 0 < length ds → value_from 0 ds ≡ n → n ≤ limit → int_of limit 0 ds ≡ Some (parsed n (length ds))
unfolding int_of
run_read limit n [] l e h = absurd (omega arith)
run_read limit n (d ∷ ds) l e h = rw (le-leb (value_from 0 (d ∷ ds)) limit (omega (arith, e)), int_of)
    (ap (λ (v : ℕ). Some (parsed v (0 + suc (length ds)))) e
    ∙ ap (λ (k : ℕ). Some (parsed n k)) (let z : 0 + suc (length ds) ≡ suc (length ds) = omega arith in z))

some_digits : (n : ℕ) → 0 < length (numeral n)
some_digits n = small n (λ l. omega (arith, length_one n l)) (λ l. omega (arith, length_more n l))

-- the reader of digit runs reads a numeral back as its number, to its end
pub numeral_read : (limit n : ℕ) → n ≤ limit → int_at limit (numeral n) 0 ≡ Some (parsed n (length (numeral n)))
unfolding int_at
numeral_read limit n h =
    let b = back (suc n) n (omega arith) in
    ap (int_of limit 0) (passed_front is_digit (numeral n) b.digits) ∙ run_read limit n (numeral n) (some_digits n) b.value h

first_of : (ds : List ℕ) (d : ℕ) → 0 < length ds → get_or (ds ++ (d ∷ [])) 0 0 ≡ get_or ds 0 0
first_of [] d h = absurd (omega arith)
first_of (b ∷ ds) d h = refl

leads : (most n : ℕ) → n < most → 0 < n → 48 < get_or (numeral n) 0 0
unfolding last_digit
leads zero n m h = absurd (omega arith)
leads (suc most) n m h =
    small n
    (λ l. subst (λ (ds : List ℕ). 48 < get_or ds 0 0) (sym (numeral_one n l)) (let z : 48 < 48 + n % 10 = omega arith in z))
    (λ l. subst (λ (d : ℕ). 48 < d) (sym (ap (λ (ds : List ℕ). get_or ds 0 0) (numeral_more n l) ∙ first_of (numeral (n / 10)) (last_digit n) (some_digits (n / 10))))
    (leads most (n / 10) (omega arith) (omega arith)))

-- it has the fewest digits: the first of them is no zero, but in 0 itself
pub no_leading_zero : (n : ℕ) → 0 < n → 48 < get_or (numeral n) 0 0
no_leading_zero n h = leads (suc n) n (omega arith) h

-- ---- the line of a refusal

pub line_is : (number line : ℕ) {a b c d e : List ℕ} → a ≡ bytes "refused " → b ≡ a ++ numeral number → c ≡ b ++ bytes " " → d ≡ c ++ numeral line → e ≡ d ++ (10 ∷ [])
    → e ≡ refused_line number line
unfolding refused_line
line_is number line ea eb ec ed ee =
    ee
    ∙ ap (λ (t : List ℕ). t ++ (10 ∷ []))
    (ed ∙ ap (λ (t : List ℕ). t ++ numeral line) (ec ∙ ap (λ (t : List ℕ). t ++ bytes " ") (eb ∙ ap (λ (t : List ℕ). t ++ numeral number) ea)))
    ∙ simp append_assoc
