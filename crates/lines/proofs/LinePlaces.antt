-- Where the line at a place of a text stands: it is what the text has from there to its end, and the next line begins further on and within the text.
-- Code that walks a text line by line cites this. Assumes nothing.
use mathlib.Core.Path.{◌≡◌, refl, sym, ap, ◌∙◌}
use mathlib.Core.Bool.{Bool, true, false}
use mathlib.Core.List.{List, [], ◌∷◌}
use Prim.Native.Nat.{ℕ, ◌+◌, ◌-◌, ◌≤◌, ◌<◌}
use native.Mathlib.Omega.{arith}
use lib.Dec.{eqb}
use lib.ListN.{length, take, drop, length-take, length-drop}
use lib.Seq.{take-length, take-take, drop-drop}
use Rattle.lines.specs.declared.lines.Line.{Line}
use Rattle.text.specs.Fronts.{front, after}
use Rattle.lines.specs.Lines.{lines_of, is_not_lf, un_cr, line_before, line_of, width_before, line_width, line_at}
use Rattle.text.proofs.Fronts.{front_within, take_front, after_drop}
use Rattle.lines.proofs.LineCuts.{lines_cons, lines_below_law}

-- the bytes without their CR are a front of the bytes
un_cr_front : (l : List ℕ) → take (length (un_cr l)) l ≡ un_cr l
unfolding un_cr
un_cr_front [] = refl
un_cr_front (b ∷ []) = go (eqb b 13) refl
  where
    go : (x : Bool) → eqb b 13 ≡ x → take (length (un_cr (b ∷ []))) (b ∷ []) ≡ un_cr (b ∷ [])
    go true e = rw (e, un_cr)
    go false e = rw (e, un_cr)
un_cr_front (b ∷ c ∷ l) = ap (λ (s : List ℕ). b ∷ s) (un_cr_front (c ∷ l))

before_front : (l t : List ℕ) → take (length (line_before l t)) l ≡ line_before l t
unfolding line_before
before_front l [] = take-length l
before_front l (b ∷ t) = un_cr_front l

-- so is the first line of the text, which is no longer than the bytes before its LF
line_length : (s : List ℕ) → length (line_of s) ≤ length (front is_not_lf s)
unfolding line_of
line_length s =
    let l = front is_not_lf s in
    let e = ap length (before_front l (after is_not_lf s)) in
    omega (arith, length-take (length (line_before l (after is_not_lf s))) l)

line_front : (s : List ℕ) → take (length (line_of s)) s ≡ line_of s
unfolding line_of
line_front s =
    let l = front is_not_lf s in
    let n = length (line_of s) in
    sym (take-take n (length l) s (line_length s)) ∙ ap (take n) (take_front is_not_lf s) ∙ before_front l (after is_not_lf s)

-- with its LF it is not empty, and no longer than the text
width_within : (l t : List ℕ) (n : ℕ) → length l + length t ≡ n → 0 < n → (0 < width_before l t) × (width_before l t ≤ n)
unfolding width_before
width_within l [] n e h = (omega arith, omega arith)
width_within l (b ∷ t) n e h = (omega arith, omega arith)

line_width_law : (s : List ℕ) → 0 < length s → (0 < line_width s) × (line_width s ≤ length s)
unfolding line_width
line_width_law s h =
    let l = front is_not_lf s in
    let e : length l + length (after is_not_lf s) ≡ length s = omega (arith, front_within is_not_lf s, ap length (after_drop is_not_lf s), length-drop (length l) s) in
    width_within l (after is_not_lf s) (length s) e h

-- the line at place i of a text ends at one place, and the next line begins at another
pub record Lined (s : List ℕ) (i end next : ℕ) : Type 0 where
  pub from : i ≤ end
  pub within : end ≤ length s
  pub onward : i < next
  pub inside : next ≤ length s
  pub width : next ≡ i + line_width (drop i s)
  pub line : take (end - i) (drop i s) ≡ line_of (drop i s)
  pub lines : lines_of (drop i s) ≡ line_of (drop i s) ∷ lines_of (drop next s)

pub line_placed : (s : List ℕ) (i : ℕ) (a : Line) → a ≡ line_at s i → i < length s → Lined s i a.end a.next
unfolding line_at
line_placed s i a e h =
    let t = drop i s in
    let m = length-drop i s in
    let w = line_width_law t (omega arith) in
    let f = line_length t in
    let g = front_within is_not_lf t in
    let p : a.end ≡ i + length (line_of t) = ap (λ (x : Line). x.end) e in
    let q : a.next ≡ i + line_width t = ap (λ (x : Line). x.next) e in
    let k : a.end - i ≡ length (line_of t) = omega arith in
    record {
      from = omega arith;
      within = omega arith;
      onward = omega arith;
      inside = omega arith;
      width = q;
      line = ap (λ (n : ℕ). take n t) k ∙ line_front t;
      lines =
          lines_cons t (omega arith)
          ∙ ap (λ (r : List ℕ). line_of t ∷ lines_of r) (sym (lines_below_law t) ∙ drop-drop (line_width t) i s ∙ ap (λ (n : ℕ). drop n s) (sym q));
    }
