-- Words put one behind the other at a buffer's start, and what the line of a refusal then is: its count, and its bytes in front. Assumes nothing.
use mathlib.Core.Path.{◌≡◌, refl, sym, ap, ap₂, ◌∙◌}
use mathlib.Core.List.{List, [], ◌∷◌, ◌++◌}
use Prim.Native.Nat.{ℕ, ◌+◌, ◌≤◌, ◌<◌}
use native.Mathlib.Omega.{arith}
use lib.ListN.{length, take, drop, length-append, length-drop}
use lib.Seq.{paste, take_at, take-length, drop-append-add, drop-drop}
use borrow.Author.Tests.{le-leb, lt-leb}
use Rattle.text.specs.Quoted.{bytes}
use Rattle.refusal.specs.Line.{numeral, refused_line, starting_with, Adds, line_count, line_in}
use Rattle.refusal.proofs.Numerals.{line_is}

-- a word that is copied behind the front makes the front longer
pub pasted : (front behind text word : List ℕ) (at : ℕ) → text ≡ starting_with front behind → at ≡ length front
    → paste text at word (length word) ≡ starting_with (front ++ word) behind
pasted front behind text word at e l =
    ap₂ (λ (x y : List ℕ). x ++ y)
    (ap₂ (λ (x y : List ℕ). x ++ y) (ap (take at) e ∙ take_at front (drop (length front) behind) at (sym l)) (take-length word))
    (ap₂ (λ (k : ℕ) (t : List ℕ). drop (k + length word) t) l e
    ∙ drop-append-add front (drop (length front) behind) (length word)
    ∙ drop-drop (length word) (length front) behind
    ∙ ap (λ (k : ℕ). drop k behind) (sym (length-append front word)))

-- the five words of the line, one behind the other
pub line_made : (number line : ℕ) {t0 t1 t2 t3 t4 t5 : List ℕ} {a b c d r : ℕ}
    → a ≡ 0 + 8 → Adds t0 0 (bytes "refused ") t1
    → b ≡ a + length (numeral number) → Adds t1 a (numeral number) t2
    → c ≡ b + 1 → Adds t2 b (bytes " ") t3
    → d ≡ c + length (numeral line) → Adds t3 c (numeral line) t4
    → r ≡ d + 1 → Adds t4 d (10 ∷ []) t5
    → (r ≡ length (refused_line number line)) × (t5 ≡ starting_with (refused_line number line) t0)
unfolding bytes
line_made number line {t0} ea wa eb wb ec wc ed wd er wr =
    let one = bytes "refused " in
    let two = one ++ numeral number in
    let three = two ++ bytes " " in
    let four = three ++ numeral line in
    let l2 : length two ≡ 8 + length (numeral number) = length-append one (numeral number) in
    let l3 : length three ≡ length two + 1 = length-append two (bytes " ") in
    let l4 : length four ≡ length three + length (numeral line) = length-append three (numeral line) in
    let l5 : length (four ++ (10 ∷ [])) ≡ length four + 1 = length-append four (10 ∷ []) in
    let e1 = wa [] t0 refl refl in
    let e2 = wb one t0 e1 (omega arith) in
    let e3 = wc two t0 e2 (omega arith) in
    let e4 = wd three t0 e3 (omega arith) in
    let e5 = wr four t0 e4 (omega arith) in
    let whole : four ++ (10 ∷ []) ≡ refused_line number line = line_is number line refl refl refl refl refl in
    (omega (arith, ap length whole), e5 ∙ ap (λ (l : List ℕ). starting_with l t0) whole)

-- without room nothing is written
pub line_none : (number line : ℕ) (text : List ℕ) → length text < 50 → (0 ≡ line_count number line (length text)) × (text ≡ line_in number line text)
unfolding line_count line_in
line_none number line text h = (rw (lt-leb 50 (length text) h, line_count), rw (lt-leb 50 (length text) h, line_in))

-- where there is room, it is
pub line_written : (number line : ℕ) {r : ℕ} (text : List ℕ) {later : List ℕ} → 50 ≤ length text
    → (r ≡ length (refused_line number line)) × (later ≡ starting_with (refused_line number line) text)
    → (r ≡ line_count number line (length text)) × (later ≡ line_in number line text)
unfolding line_count line_in
line_written number line text room e = (rw (le-leb 50 (length text) room, line_count) e.0, rw (le-leb 50 (length text) room, line_in) e.1)

-- and what a caller knows then
module _ (number line r : ℕ) (text later : List ℕ) (room : 50 ≤ length text) (er : r ≡ line_count number line (length text)) (el : later ≡ line_in number line text) where
  counted : r ≡ length (refused_line number line)
  unfolding line_count
  counted = er ∙ rw (le-leb 50 (length text) room, line_count)

  starts : later ≡ starting_with (refused_line number line) text
  unfolding line_in
  starts = el ∙ rw (le-leb 50 (length text) room, line_in)

  -- the bytes in front are the line
  pub line_taken : take r later ≡ refused_line number line
  line_taken = ap (take r) starts ∙ take_at (refused_line number line) (drop (length (refused_line number line)) text) r (sym counted)

  -- and all of it is there, since a lent buffer keeps its length
  pub line_within : length later ≡ length text → (r ≤ length later) × (r ≡ length (take r later))
  line_within k =
      let whole = ap length starts ∙ length-append (refused_line number line) (drop (length (refused_line number line)) text) in
      let rest = length-drop (length (refused_line number line)) text in
      (omega (arith, counted), counted ∙ ap length (sym line_taken))
