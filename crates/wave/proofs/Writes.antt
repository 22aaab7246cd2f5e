-- What writes leave in a buffer: a write right after another is one longer write, and a write at the start of a lent part is a write into the whole.
-- The loops and the writers cite these laws and look into no list. Assumes nothing.
use mathlib.Core.Path.{◌≡◌, refl, sym, ap, ap₂, ◌∙◌}
use mathlib.Core.List.{List, [], ◌∷◌, ◌++◌, append_assoc, append-nil}
use Prim.Native.Nat.{ℕ, ◌+◌, ◌-◌, ◌*◌, ◌/◌, ◌≤◌, ◌<◌, min}
use native.Mathlib.Numerals.{add-one}
use native.Mathlib.Nat.{le_of_eq, add-zero, zero-add, add_assoc}
use native.Mathlib.Omega.{arith}
use borrow.Author.Tests.{le-leb}
use lib.ListN.{length, take, drop, set, get_or, length-append, length-drop, take-append-drop, drop_of_length-le}
use lib.Seq.{sets, sets-eq, take-suc, take_all, take-length, length-take-le, take_at, drop-append-add, drop-drop}
use lib.Ieee.{Float}
use Rattle.form.specs.declared.size.Size.{Size}
use Rattle.form.specs.Form.{header}
use Rattle.form.specs.Sample.{sample_bytes, bytes_of}
use Rattle.wave.specs.File.{put, count_in, samples_in, header_in}
use Rattle.form.proofs.Published.{header_length, bytes_length}

-- ---- puts

-- nothing written changes nothing
pub put_none : (b : List ℕ) (at : ℕ) → put b at [] ≡ b
unfolding put
put_none b at = rw (add-zero at) (take-append-drop at b)

module _ (b : List ℕ) (at : ℕ) (s : List ℕ) (fits : at + length s ≤ length b) where
  -- what stands up to the end of a write that fits
  before : length (take at b ++ s) ≡ at + length s
  before = length-append (take at b) s ∙ ap (λ (n : ℕ). n + length s) (length-take-le at b (omega arith))

  -- cut there
  split : put b at s ≡ (take at b ++ s) ++ drop (at + length s) b
  unfolding put
  split = sym (append_assoc (take at b) s (drop (at + length s) b))

  -- a write that fits keeps the length
  pub put_length : length (put b at s) ≡ length b
  put_length =
      ap length split
      ∙ length-append (take at b ++ s) (drop (at + length s) b)
      ∙ omega (arith, before, length-drop (at + length s) b)

  -- the part up to there, and what lies after it
  front : (next : ℕ) → next ≡ at + length s → take next (put b at s) ≡ take at b ++ s
  front next e = ap (take next) split ∙ take_at (take at b ++ s) (drop (at + length s) b) next (before ∙ sym e)

  rest : (next n : ℕ) → next ≡ at + length s → drop (next + n) (put b at s) ≡ drop (at + length s + n) b
  rest next n e =
      ap₂ drop (ap (λ (k : ℕ). k + n) (e ∙ sym before)) split
      ∙ drop-append-add (take at b ++ s) (drop (at + length s) b) n
      ∙ drop-drop n (at + length s) b

  -- a write right after it continues it
  pub put_put : (t : List ℕ) (next : ℕ) → next ≡ at + length s → put (put b at s) next t ≡ put b at (s ++ t)
  unfolding put
  put_put t next e =
      ap₂ (λ (x y : List ℕ). x ++ (t ++ y)) (front next e)
      (rest next (length t) e ∙ ap (λ (k : ℕ). drop k b) (add_assoc at (length s) (length t) ∙ ap (λ (k : ℕ). at + k) (sym (length-append s t))))
      ∙ simp append_assoc

-- bytes stored in turn are a write
pub put_sets : (b : List ℕ) (at : ℕ) (s : List ℕ) → at + length s ≤ length b → sets b at s ≡ put b at s
unfolding put
put_sets b at s h = sets-eq s b at h ∙ append_assoc (take at b) s (drop (at + length s) b)

-- so a store right after a write from the start continues it
pub put_next : (b s : List ℕ) (i : ℕ) (t : List ℕ) → length s ≡ i → i + length t ≤ length b → sets (put b 0 s) i t ≡ put b 0 (s ++ t)
put_next b s i t e h =
    let fits : 0 + length s ≤ length b = omega arith in
    put_sets (put b 0 s) i t (omega (arith, put_length b 0 s fits)) ∙ put_put b 0 s fits t i (omega arith)

-- the part from `at` on is lent and comes back with a write at its start: that is a write into the whole
pub put_lent : (b : List ℕ) (at : ℕ) (s : List ℕ) → let n = length b - at in take at b ++ (put (take n (drop at b)) 0 s ++ drop n (drop at b)) ≡ put b at s
unfolding put
put_lent b at s =
    let n = length b - at in
    let all : length (drop at b) ≤ n = le_of_eq (length-drop at b) in
    rw (take_all n (drop at b) all, drop_of_length-le (drop at b) {i = n} all)
    (ap (λ (k : List ℕ). take at b ++ k) (append-nil (s ++ drop (0 + length s) (drop at b)))
    ∙ ap (λ (k : List ℕ). take at b ++ (s ++ k)) (drop-drop (0 + length s) at b ∙ ap (λ (k : ℕ). drop (at + k) b) (zero-add (length s))))

-- ---- the bytes of samples

-- samples one after the other have their bytes one after the other
pub bytes_append : (xs ys : List Float) → bytes_of (xs ++ ys) ≡ bytes_of xs ++ bytes_of ys
unfolding bytes_of
bytes_append [] ys = refl
bytes_append (x ∷ xs) ys = ap (λ (s : List ℕ). sample_bytes x ++ s) (bytes_append xs ys) ∙ sym (append_assoc (sample_bytes x) (bytes_of xs) (bytes_of ys))

-- how many bytes the first n samples have
pub bytes_taken : (xs : List Float) (n : ℕ) → n ≤ length xs → length (bytes_of (take n xs)) ≡ 2 * n
bytes_taken xs n h = bytes_length (take n xs) ∙ ap (λ (k : ℕ). 2 * k) (length-take-le n xs h)

-- one more sample
bytes_more : (xs : List Float) (i : ℕ) (d : Float) → i < length xs → bytes_of (take (i + 1) xs) ≡ bytes_of (take i xs) ++ sample_bytes (get_or xs i d)
unfolding bytes_of
bytes_more xs i d h =
    ap (λ (k : ℕ). bytes_of (take k xs)) (add-one i)
    ∙ ap bytes_of (take-suc xs i d h)
    ∙ bytes_append (take i xs) (get_or xs i d ∷ [])

-- a turn of the loop that writes samples: its two stores take the first i samples to the first i + 1
pub one_more : (b : List ℕ) (xs : List Float) (i : ℕ) (bs : List ℕ) (d : Float) → i < length xs → 2 * i + 2 ≤ length b
    → bs ≡ sample_bytes (get_or xs i d)
    → set (set (put b 0 (bytes_of (take i xs))) (2 * i) (get_or bs 0 0)) (2 * i + 1) (get_or bs 1 0) ≡ put b 0 (bytes_of (take (i + 1) xs))
unfolding sample_bytes
one_more b xs i bs d h g e =
    let s = bytes_of (take i xs) in
    let x = get_or xs i d in
    rw e (ap (λ (k : ℕ). set (set (put b 0 s) (2 * i) (get_or (sample_bytes x) 0 0)) k (get_or (sample_bytes x) 1 0)) (add-one (2 * i))
    ∙ put_next b s (2 * i) (sample_bytes x) (bytes_taken xs i (omega arith)) g
    ∙ ap (put b 0) (sym (bytes_more xs i d h)))

-- and of the loop that copies bytes
pub one_byte_more : (b s : List ℕ) (i d : ℕ) → i < length s → i < length b → set (put b 0 (take i s)) i (get_or s i d) ≡ put b 0 (take (i + 1) s)
one_byte_more b s i d h g =
    put_next b (take i s) i (get_or s i d ∷ []) (length-take-le i s (omega arith)) (omega arith)
    ∙ ap (put b 0) (sym (ap (λ (k : ℕ). take k s) (add-one i) ∙ take-suc s i d h))

-- ---- a header, and samples right after it

-- a buffer that has room takes the header
pub header_put : (size : Size) (rate n : ℕ) (b : List ℕ) → 44 ≤ length b → header_in size rate n b ≡ put b 0 (header size rate n)
unfolding header_in
header_put size rate n b h = rw (le-leb _ _ h, header_in)

-- where all samples fit, all are written
pub samples_put : (b : List ℕ) (at : ℕ) (xs : List Float) → at + 2 * length xs ≤ length b → samples_in b at xs ≡ put b at (bytes_of xs)
unfolding samples_in count_in
samples_put b at xs h =
    let e : min (length xs) ((length b - at) / 2) ≡ length xs = omega arith in
    rw (e, take-length xs)

-- and after the header they make the file
pub file_put : (size : Size) (rate : ℕ) (xs : List Float) (b : List ℕ) → 44 + 2 * length xs ≤ length b
    → samples_in (header_in size rate (length xs) b) 44 xs ≡ put b 0 (header size rate (length xs) ++ bytes_of xs)
file_put size rate xs b h =
    let s = header size rate (length xs) in
    let e : length s ≡ 44 = header_length size rate (length xs) in
    let fits : 0 + length s ≤ length b = omega arith in
    ap (λ (k : List ℕ). samples_in k 44 xs) (header_put size rate (length xs) b (omega arith))
    ∙ samples_put (put b 0 s) 44 xs (omega (arith, put_length b 0 s fits))
    ∙ put_put b 0 s fits (bytes_of xs) 44 (omega arith)
