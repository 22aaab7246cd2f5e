-- A product cut into two limbs, c at its bit 31: the quotient by a power of two above that bit is the sum of what the limbs
-- give, once what the upper limb leaves over has been added to the lower. Numbers alone. Assumes nothing.
use Rattle.std.proofs.Common.{◌≡◌, ℕ, ◌+◌, ◌-◌, ◌*◌, ◌/◌, ◌%◌, ◌^◌, ◌<◌, sym, ap, ◌∙◌, mod-eq_of_lt, one-mul, div-add-mod', arith, pow_pos, shr-shr}
use native.Mathlib.Nat.{mul-add-div_right, add-mod}
use lib.Pow.{pow-lt}
use lib.Bits.{bit_and, and_mask}

-- 1 << j, which no word of 64 bits cuts
pub one_shifted : (j : ℕ) → j < 64 → 1 * 2 ^ j % 2 ^ 64 ≡ 2 ^ j
one_shifted j h = ap (λ (n : ℕ). n % 2 ^ 64) (one-mul (2 ^ j)) ∙ mod-eq_of_lt (pow-lt h)

-- the mask of the lowest j bits
masked : (h j : ℕ) → j < 64 → bit_and h (1 * 2 ^ j % 2 ^ 64 - 1) ≡ h % 2 ^ j
masked h j k = ap (λ (n : ℕ). bit_and h (n - 1)) (one_shifted j k) ∙ and_mask h j

-- c = (c / 2^31) 2^31 + c % 2^31, times m
spread : (m q r : ℕ) → m * (q * 2 ^ 31 + r) ≡ m * q * 2 ^ 31 + m * r
spread m q r = omega arith

-- the quotient by 2^(31 + j), with the lower limb's product cut to its whole part first
cut : (m c j : ℕ) → m * c / 2 ^ (31 + j) ≡ (m * (c / 2 ^ 31) + m * (c % 2 ^ 31) / 2 ^ 31) / 2 ^ j
cut m c j =
    sym (shr-shr (m * c) 31 j)
    ∙ ap (λ (n : ℕ). n / 2 ^ j)
    (ap (λ (n : ℕ). m * n / 2 ^ 31) (sym (div-add-mod' c (2 ^ 31)))
    ∙ ap (λ (n : ℕ). n / 2 ^ 31) (spread m (c / 2 ^ 31) (c % 2 ^ 31))
    ∙ mul-add-div_right (pow_pos 31) (m * (c / 2 ^ 31)) (m * (c % 2 ^ 31)))

-- what h leaves over goes to l
carried : (h l j : ℕ) → (h + l) / 2 ^ j ≡ h / 2 ^ j + (l + h % 2 ^ j) / 2 ^ j
carried h l j = ap (λ (n : ℕ). n / 2 ^ j) (omega (arith, div-add-mod' h (2 ^ j))) ∙ mul-add-div_right (pow_pos j) (h / 2 ^ j) (l + h % 2 ^ j)

-- the two limbs of m c, shifted down by j and added where 2^32 wraps
pub limbs : (m c j : ℕ) → j < 64
    → (m * (c / 2 ^ 31) / 2 ^ j % 2 ^ 32 + (m * (c % 2 ^ 31) / 2 ^ 31 + bit_and (m * (c / 2 ^ 31)) (1 * 2 ^ j % 2 ^ 64 - 1)) / 2 ^ j % 2 ^ 32) % 2 ^ 32
    ≡ m * c / 2 ^ (31 + j) % 2 ^ 32
limbs m c j k =
    let h = m * (c / 2 ^ 31) in
    let l = m * (c % 2 ^ 31) / 2 ^ 31 in
    ap (λ (n : ℕ). (h / 2 ^ j % 2 ^ 32 + (l + n) / 2 ^ j % 2 ^ 32) % 2 ^ 32) (masked h j k)
    ∙ sym (add-mod (h / 2 ^ j) ((l + h % 2 ^ j) / 2 ^ j) (2 ^ 32))
    ∙ ap (λ (n : ℕ). n % 2 ^ 32) (sym (carried h l j) ∙ sym (cut m c j))
