-- Many values side by side, a lane for each, and what each step of the sine leaves in them. The contracts of
-- `each_lane`, of `all_lanes` and of private functions cite this. Assumes nothing.
use Rattle.std.specs.Prelude.{◌≡◌, ℕ, ◌^◌, ◌<◌, ◌≤◌, Bool, true, false, T, List, length, EachIndex, is_nan, nat_le, slice_index, slice_index_or, to_bits, Float}
use Rattle.std.specs.Float.{nan, binary32}
use Rattle.std.specs.Float.Ieee.{fits, round, unlike}
use Rattle.sine.specs.Turn.{quarter_of, turn_sine_by}
use Rattle.sine.specs.Phase.{field_of}

-- the first n lanes have what `gives` allows by what they had, and the others what they had; past its end a list has `none`
pub record LanesBy {A : Type 0} (gives : ℕ → A → A → Type 0) (none : A) (n : ℕ) (before after : List A) : Type 0 where
  pub done : (j : ℕ) → j < n → gives j (slice_index_or before j none) (slice_index_or after j none)
  pub kept : (j : ℕ) → n ≤ j → slice_index_or after j none ≡ slice_index_or before j none
  pub size : length after ≡ length before

-- the first n lanes have h's value of what they had, and the others what they had
abbrev pub LanesOf : {A : Type 0} → A → (ℕ → A → A) → ℕ → List A → List A → Type 0
LanesOf none h = LanesBy (λ j x y. y ≡ h j x) none

-- r says whether a test passes at each of the first n lanes, where `gives` allows its answers
pub record AllPass {A : Type 0} (gives : A → Bool → Type 0) (none : A) (n : ℕ) (xs : List A) (r : Bool) : Type 0 where
  pub passes : r ≡ true → (j : ℕ) → j < n → gives (slice_index_or xs j none) true
  pub fails : r ≡ false → (j : ℕ) × (j < n) × gives (slice_index_or xs j none) false

-- ---- what a lane becomes

-- the sine of what it had
unfoldable pub turn_sine_at : List ℕ → ℕ → Float → Float
unfolding turn_sine_by
turn_sine_at table j x = turn_sine_by table x

-- the bits of x, and 0 for NaN
unfoldable pub pattern_of : Float → ℕ
pattern_of x = elim (is_nan x) [ true ↦ 0 | false ↦ to_bits binary32 x ]

-- S / 2^24 with the sign of a pattern and of its position
unfoldable pub signed_of : ℕ → ℕ → ℕ → Float
unfolding quarter_of
signed_of s b p = round binary32 (unlike (nat_le (2 ^ 31) b) (nat_le 2 (quarter_of p))) s (2 ^ 24)

-- ---- what is known of lanes

-- there are patterns, and all have the field e, that of some number from 2^-32 to below 2^23
pub record CommonField (e : ℕ) (bits : List ℕ) : Type 0 where
  pub some : 0 < length bits
  pub least : 95 ≤ e
  pub most : e ≤ 149
  pub same : EachIndex bits (λ j. field_of (slice_index bits j) ≡ e)

-- at most 32 numbers have these patterns, and the patterns one field
pub record LanesAlike (e : ℕ) (values : List Float) (bits : List ℕ) : Type 0 where
  pub most : length values ≤ 32
  pub size : length bits ≡ length values
  pub fit : EachIndex values (λ j. T (fits binary32 (slice_index_or values j nan)))
  pub patterns : EachIndex values (λ j. slice_index bits j ≡ pattern_of (slice_index_or values j nan))
  pub field : CommonField e bits
