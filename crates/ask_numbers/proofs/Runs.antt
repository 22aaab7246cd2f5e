-- The checksum over a run of sines, a block of lanes after the other. Assumes nothing.
use Rattle.std.proofs.Common.{◌≡◌, ℕ, zero, suc, ◌+◌, ◌-◌, ◌%◌, ◌^◌, ◌<◌, min, List, map, length, get_or, sym, refl, ap, ◌∙◌, subst, ap₂, add-one, arith}
use lib.ListN.{length-map, get_or-map}
use lib.Ieee.{Float, nan, binary32, to_bits, of_bits}
use Rattle.sine.specs.Quarter.{quarter}
use Rattle.sine.specs.Turn.{turn_sine_by, turn_sine}
use Rattle.sine.specs.Lanes.{LanesOf}
use Rattle.sine.proofs.Sine.{sine_not_finite}
use Rattle.ask_numbers.specs.Answer.{mixed, sines_from}
use Rattle.ask_numbers.specs.Sines.{float_from, mixed_with}

pub mixed_none : (sum : ℕ) (values : List Float) → mixed_with sum values 0 ≡ sum
unfolding mixed_with
mixed_none sum values = refl

pub mixed_more : (sum : ℕ) (values : List Float) (j : ℕ) → mixed_with sum values (j + 1) ≡ mixed (mixed_with sum values j) (to_bits binary32 (get_or values j nan))
unfolding mixed_with
mixed_more sum values j = ap (mixed_with sum values) (add-one j)

-- each number is the sine of its pattern
abbrev Sines : ℕ → ℕ → List Float → Type 0
Sines p n values = (j : ℕ) → j < n → get_or values j nan ≡ turn_sine (of_bits binary32 ((p + j) % 2 ^ 32))

-- the sines of filled lanes are those of their patterns
sines_filled : (p n : ℕ) (before filled values : List Float) (table : List ℕ) → LanesOf nan (float_from p) n before filled → table ≡ quarter → values ≡ map (turn_sine_by table) filled → Sines p n values
unfolding float_from
sines_filled p n before filled values table r q e j l =
    ap (λ (vs : List Float). get_or vs j nan) e
    ∙ subst (λ (d : Float). get_or (map (turn_sine_by table) filled) j d ≡ turn_sine_by table (get_or filled j nan)) (sine_not_finite table nan tt) (get_or-map (turn_sine_by table) filled j nan)
    ∙ ap₂ turn_sine_by q (r.done j l)

-- a block, and then the patterns behind it
block : (n sum p left : ℕ) (values : List Float) → p < 2 ^ 32 → Sines p n values → sines_from (mixed_with sum values n) ((p + n) % 2 ^ 32) left ≡ sines_from sum p (n + left)
unfolding sines_from mixed_with
block zero sum p left values h s =
    let e : (p + 0) % 2 ^ 32 ≡ p = omega arith in
    let f : 0 + left ≡ left = omega arith in
    ap₂ (sines_from sum) e (sym f)
block (suc n) sum p left values h s =
    let q = (p + n) % 2 ^ 32 in
    let e : (p + suc n) % 2 ^ 32 ≡ (q + 1) % 2 ^ 32 = omega arith in
    let f : n + suc left ≡ suc n + left = omega arith in
    ap₂ (λ (w m : ℕ). sines_from (mixed (mixed_with sum values n) w) m left) (ap (to_bits binary32) (s n (omega arith))) e
    ∙ block n sum p (suc left) values h (λ j l. s j (omega arith))
    ∙ ap (sines_from sum p) f

-- there are as many sines as numbers
pub mapped_size : (table : List ℕ) (filled values : List Float) → values ≡ map (turn_sine_by table) filled → length values ≡ length filled
mapped_size table filled values e = ap length e ∙ length-map filled (turn_sine_by table)

-- a turn of the loop: as many of the lanes as there are patterns left
pub goes_on : {sum' p' : ℕ} (sum p left n : ℕ) (before filled values : List Float) (table : List ℕ) → p < 2 ^ 32 → table ≡ quarter → LanesOf nan (float_from p) 32 before filled
    → values ≡ map (turn_sine_by table) filled → n ≡ min left 32 → sum' ≡ mixed_with sum values n → p' ≡ (p + n) % 2 ^ 32 → sines_from sum' p' (left - n) ≡ sines_from sum p left
goes_on sum p left n before filled values table h q r e m es ep =
    let f : n + (left - n) ≡ left = omega arith in
    ap₂ (λ (s k : ℕ). sines_from s k (left - n)) es ep
    ∙ block n sum p (left - n) values h (λ j l. sines_filled p 32 before filled values table r q e j (omega arith))
    ∙ ap (sines_from sum p) f

-- where none is left the sum is the checksum
pub none_left : (sum p n : ℕ) → n ≡ 0 → sum ≡ sines_from sum p n
unfolding sines_from
none_left sum p n e = rw e
