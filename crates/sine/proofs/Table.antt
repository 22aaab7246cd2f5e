-- The rules of document 01 over the quarter wave, each proved by one test that antt computes over the whole table:
-- "T[0] = 0, T[1024] = 2^24, it rises, second differences lie from −41 to 2, and T[i]² + T[1024−i]² is less than 2^25
-- from 2^48". They are over the natural numbers, so a bound on a difference stands as a bound on sums. Assumes nothing.
use Rattle.std.proofs.Common.{◌≡◌, ℕ, zero, suc, ◌+◌, ◌-◌, ◌*◌, ◌^◌, ◌<◌, ◌≤◌, Bool, true, ◌&&◌, T, ltb, leb, List, [], ◌∷◌, reverse, length, get_or, drop, refl, ap, ◌∙◌, le_of_suc-le-suc, not-suc-le-zero, add_comm, arith, ltb→lt, leb→le, get_or-drop}
use mathlib.Core.List.{reverse-cons}
use lib.Ieee.Fits.{and_l, and_r}
use lib.ListN.{length-reverse, get_or-append}
use lib.Seq.{get_or_at}
use Rattle.sine.specs.Quarter.{quarter}

-- T[i]
abbrev pub entry : ℕ → ℕ
entry i = get_or quarter i 0

-- what document 01 has of the whole table: its ends, that it rises, its second differences, and that two entries as far from
-- the ends as each other are the legs of a triangle under a hypotenuse of nearly 2^24
pub record QuarterWave : Type 0 where
  pub starts : entry 0 ≡ 0
  pub ends : entry 1024 ≡ 2 ^ 24
  pub rises : (i : ℕ) → i < 1024 → entry i < entry (i + 1)
  pub bends_least : (i : ℕ) → i < 1023 → 2 * entry (i + 1) ≤ entry i + entry (i + 2) + 41
  pub bends_most : (i : ℕ) → i < 1023 → entry i + entry (i + 2) ≤ 2 * entry (i + 1) + 2
  pub circle_least : (i : ℕ) → i ≤ 1024 → 2 ^ 48 < entry i * entry i + entry (1024 - i) * entry (1024 - i) + 2 ^ 25
  pub circle_most : (i : ℕ) → i ≤ 1024 → entry i * entry i + entry (1024 - i) * entry (1024 - i) < 2 ^ 48 + 2 ^ 25

-- ---- a test over lists that stand side by side

-- the test f passes at every place of three lists, up to the shortest one's end
abbrev beside : (ℕ → ℕ → ℕ → Bool) → List ℕ → List ℕ → List ℕ → Bool
beside f [] ys zs = true
beside f (x ∷ xs) [] zs = true
beside f (x ∷ xs) (y ∷ ys) [] = true
beside f (x ∷ xs) (y ∷ ys) (z ∷ zs) = f x y z && beside f xs ys zs

-- so it passes at each place k
at : (f : ℕ → ℕ → ℕ → Bool) (xs ys zs : List ℕ) → T (beside f xs ys zs) → (k : ℕ) → k < length xs → k < length ys → k < length zs
    → T (f (get_or xs k 0) (get_or ys k 0) (get_or zs k 0))
at f [] ys zs t k p q r = absurd (not-suc-le-zero p)
at f (x ∷ xs) [] zs t k p q r = absurd (not-suc-le-zero q)
at f (x ∷ xs) (y ∷ ys) [] t k p q r = absurd (not-suc-le-zero r)
at f (x ∷ xs) (y ∷ ys) (z ∷ zs) t zero p q r = and_l (f x y z) (beside f xs ys zs) t
at f (x ∷ xs) (y ∷ ys) (z ∷ zs) t (suc k) p q r =
    at f xs ys zs (and_r (f x y z) (beside f xs ys zs) t) k (le_of_suc-le-suc p) (le_of_suc-le-suc q) (le_of_suc-le-suc r)

-- ---- the table, its tails and its reverse

-- how long they are
long : length quarter ≡ 1025
unfolding quarter
long = refl

long_1 : length (drop 1 quarter) ≡ 1024
unfolding quarter
long_1 = refl

long_2 : length (drop 2 quarter) ≡ 1023
unfolding quarter
long_2 = refl

-- the tail after n entries starts at entry n
later : (n i : ℕ) → get_or (drop n quarter) i 0 ≡ entry (i + n)
later n i = get_or-drop n quarter i 0 ∙ ap entry (add_comm n i)

-- what stands at i in the reverse of a list stands i from its end
mirror : (xs : List ℕ) (i j : ℕ) → suc (i + j) ≡ length xs → get_or (reverse xs) i 0 ≡ get_or xs j 0
mirror [] i j h = absurd (omega arith)
mirror (x ∷ xs) i zero h = ap (λ (l : List ℕ). get_or l i 0) (reverse-cons x xs) ∙ get_or_at (reverse xs) x [] 0 i (omega (arith, length-reverse xs))
mirror (x ∷ xs) i (suc j) h =
    ap (λ (l : List ℕ). get_or l i 0) (reverse-cons x xs)
    ∙ get_or-append (reverse xs) (x ∷ []) 0 i (omega (arith, length-reverse xs))
    ∙ mirror xs i j (omega arith)

-- ---- the tests, on entries that stand side by side

-- an entry x is below the next one y
grows : ℕ → ℕ → ℕ → Bool
grows x y z = ltb x y

-- of three entries in a row the second difference is from -41 to 2
bends : ℕ → ℕ → ℕ → Bool
bends x y z = leb (2 * y) (x + z + 41) && leb (x + z) (2 * y + 2)

-- an entry x and its mirror y are near the circle
circles : ℕ → ℕ → ℕ → Bool
circles x y z = ltb (2 ^ 48) (x * x + y * y + 2 ^ 25) && ltb (x * x + y * y) (2 ^ 48 + 2 ^ 25)

-- an entry is at most 2^24
low : ℕ → ℕ → ℕ → Bool
low x y z = leb x (2 ^ 24)

-- what each test says
grows_says : (x y z : ℕ) → T (grows x y z) → x < y
unfolding grows
grows_says x y z t = ltb→lt x y t

bends_says : (x y z : ℕ) → T (bends x y z) → (2 * y ≤ x + z + 41) × (x + z ≤ 2 * y + 2)
unfolding bends
bends_says x y z t =
    let a = leb (2 * y) (x + z + 41) in
    let b = leb (x + z) (2 * y + 2) in
    (leb→le (2 * y) (x + z + 41) (and_l a b t), leb→le (x + z) (2 * y + 2) (and_r a b t))

circles_says : (x y z : ℕ) → T (circles x y z) → (2 ^ 48 < x * x + y * y + 2 ^ 25) × (x * x + y * y < 2 ^ 48 + 2 ^ 25)
unfolding circles
circles_says x y z t =
    let a = ltb (2 ^ 48) (x * x + y * y + 2 ^ 25) in
    let b = ltb (x * x + y * y) (2 ^ 48 + 2 ^ 25) in
    (ltb→lt (2 ^ 48) (x * x + y * y + 2 ^ 25) (and_l a b t), ltb→lt (x * x + y * y) (2 ^ 48 + 2 ^ 25) (and_r a b t))

-- ---- each test passes over the whole table, and so its rule holds

all_grow : T (beside grows quarter (drop 1 quarter) quarter)
unfolding quarter grows
all_grow = tt

all_bend : T (beside bends quarter (drop 1 quarter) (drop 2 quarter))
unfolding quarter bends
all_bend = tt

all_circle : T (beside circles quarter (reverse quarter) quarter)
unfolding quarter circles
all_circle = tt

all_low : T (beside low quarter quarter quarter)
unfolding quarter low
all_low = tt

module _ (i : ℕ) where
  grown : i < 1024 → T (grows (entry i) (entry (i + 1)) (entry i))
  grown h = rw (later 1 i) at (at grows quarter (drop 1 quarter) quarter all_grow i (omega (arith, long)) (omega (arith, long_1)) (omega (arith, long)))

  bent : i < 1023 → T (bends (entry i) (entry (i + 1)) (entry (i + 2)))
  bent h =
      rw (later 1 i, later 2 i) at
      (at bends quarter (drop 1 quarter) (drop 2 quarter) all_bend i (omega (arith, long)) (omega (arith, long_1)) (omega (arith, long_2)))

  circled : i ≤ 1024 → T (circles (entry i) (entry (1024 - i)) (entry i))
  circled h =
      rw (mirror quarter i (1024 - i) (omega (arith, long))) at
      (at circles quarter (reverse quarter) quarter all_circle i (omega (arith, long)) (omega (arith, long, length-reverse quarter)) (omega (arith, long)))

  -- no entry is above the last
  pub at_most : i ≤ 1024 → entry i ≤ 2 ^ 24
  unfolding low
  at_most h = leb→le _ _ (at low quarter quarter quarter all_low i (omega (arith, long)) (omega (arith, long)) (omega (arith, long)))

-- the table is a quarter wave
pub quarter_wave : QuarterWave
unfolding quarter
quarter_wave =
    record {
      starts = refl;
      ends = refl;
      rises = λ i h. grows_says _ _ _ (grown i h);
      bends_least = λ i h. (bends_says _ _ _ (bent i h)).0;
      bends_most = λ i h. (bends_says _ _ _ (bent i h)).1;
      circle_least = λ i h. (circles_says _ _ _ (circled i h)).0;
      circle_most = λ i h. (circles_says _ _ _ (circled i h)).1;
    }
