-- The lines of a text are its first line and the lines of what stands behind that line's LF: the definition by cutting, and the way in which code
-- finds a line, say the same. Assumes nothing.
use mathlib.Core.Path.{◌≡◌, refl, sym, ap, ap₂, ◌∙◌}
use mathlib.Core.Bool.{Bool, true, false, not, true≢false}
use mathlib.Core.List.{List, [], ◌∷◌, ◌++◌, append-nil}
use Prim.Native.Nat.{ℕ, zero, suc, ◌+◌, ◌-◌, ◌≤◌, ◌<◌}
use native.Mathlib.Nat.{not-suc-le-zero}
use native.Mathlib.Omega.{arith}
use lib.Dec.{eqb}
use lib.ListN.{length, drop, get_or, drop_of_length-le, get_or-append}
use lib.Seq.{drop-cons, drop-append_seam, drop-append-add, get_or-drop}
use borrow.Author.Tests.{eqb-true, eq-eqb, ne_eqb}
use Rattle.text.specs.Fronts.{front, after}
use Rattle.lines.specs.Lines.{without_cr, begun, cut_at_lf, lines_of, is_not_lf, un_cr, line_before, line_of, width_before, line_width, behind_lf, lines_below, line_at}
use Rattle.text.proofs.Fronts.{cons_true, cons_false, Stops, after_is, after_stops}

-- no byte of a text is an LF
pub data NoLf : List ℕ → Type 0 where
  none : NoLf []
  more : {b : ℕ} {s : List ℕ} → eqb b 10 ≡ false → NoLf s → NoLf (b ∷ s)

not_lf : (b : ℕ) → is_not_lf b ≡ true → eqb b 10 ≡ false
unfolding is_not_lf
not_lf b e = go (eqb b 10) e
  where
    go : (x : Bool) → not x ≡ true → x ≡ false
    go true q = absurd (true≢false (sym q))
    go false q = refl

is_lf : (b : ℕ) → is_not_lf b ≡ false → b ≡ 10
unfolding is_not_lf
is_lf b e = go (eqb b 10) refl e
  where
    go : (x : Bool) → eqb b 10 ≡ x → not x ≡ false → b ≡ 10
    go true p q = eqb-true b 10 p
    go false p q = absurd (true≢false q)

-- the test as code makes it
pub lf_fails : (b : ℕ) → b ≡ 10 → is_not_lf b ≡ false
unfolding is_not_lf
lf_fails b e = ap not (eq-eqb b 10 e)

pub other_passes : (b : ℕ) → (b ≡ 10 → ⊥) → is_not_lf b ≡ true
unfolding is_not_lf
other_passes b e = ap not (ne_eqb b 10 e)

-- the front up to an LF has none
front_no_lf_cons : (b : ℕ) (s : List ℕ) → NoLf (front is_not_lf s) → (x : Bool) → is_not_lf b ≡ x → NoLf (front is_not_lf (b ∷ s))
front_no_lf_cons b s n true e = rw (cons_true is_not_lf b s e) (more (not_lf b e) n)
front_no_lf_cons b s n false e = rw (cons_false is_not_lf b s e) none

front_no_lf : (s : List ℕ) → NoLf (front is_not_lf s)
unfolding front
front_no_lf [] = none
front_no_lf (b ∷ s) = front_no_lf_cons b s (front_no_lf s) (is_not_lf b) refl

-- ---- without the CR

-- an LF itself stays
keeps_lf : (t : List ℕ) → without_cr (10 ∷ t) ≡ 10 ∷ without_cr t
unfolding without_cr
keeps_lf [] = refl
keeps_lf (c ∷ t) = refl

-- the byte right before it goes if it is a CR
last_byte : (b : ℕ) (t : List ℕ) (x : Bool) → eqb b 13 ≡ x → without_cr (b ∷ 10 ∷ t) ≡ un_cr (b ∷ []) ++ (10 ∷ without_cr t)
unfolding without_cr un_cr
last_byte b t true e = rw (e, without_cr, un_cr) (keeps_lf t)
last_byte b t false e = rw (e, without_cr, un_cr) (ap (λ (l : List ℕ). b ∷ l) (keeps_lf t))

-- a byte before another that is no LF stays
inner_byte : (b c : ℕ) (s : List ℕ) → eqb c 10 ≡ false → (x : Bool) → eqb b 13 ≡ x → without_cr (b ∷ c ∷ s) ≡ b ∷ without_cr (c ∷ s)
unfolding without_cr
inner_byte b c s e true f = rw (f, without_cr, e, without_cr)
inner_byte b c s e false f = rw (f, without_cr)

-- an LF keeps what stands before it, but for one CR
without_cr_lf : (l t : List ℕ) → NoLf l → without_cr (l ++ (10 ∷ t)) ≡ un_cr l ++ (10 ∷ without_cr t)
unfolding un_cr
without_cr_lf [] t none = keeps_lf t
without_cr_lf (b ∷ []) t (more e none) = last_byte b t (eqb b 13) refl
without_cr_lf (b ∷ c ∷ l) t (more e (more f n)) =
    inner_byte b c (l ++ (10 ∷ t)) f (eqb b 13) refl ∙ ap (λ (s : List ℕ). b ∷ s) (without_cr_lf (c ∷ l) t (more f n))

-- without an LF nothing is dropped
without_cr_none : (l : List ℕ) → NoLf l → without_cr l ≡ l
unfolding without_cr
without_cr_none [] none = refl
without_cr_none (b ∷ []) (more e none) = refl
without_cr_none (b ∷ c ∷ l) (more e (more f n)) = inner_byte b c l f (eqb b 13) refl ∙ ap (λ (s : List ℕ). b ∷ s) (without_cr_none (c ∷ l) (more f n))

un_cr_last : (b : ℕ) → eqb b 10 ≡ false → (x : Bool) → eqb b 13 ≡ x → NoLf (un_cr (b ∷ []))
unfolding un_cr
un_cr_last b e true f = rw (f, un_cr) none
un_cr_last b e false f = rw (f, un_cr) (more e none)

un_cr_no_lf : (l : List ℕ) → NoLf l → NoLf (un_cr l)
unfolding un_cr
un_cr_no_lf [] none = none
un_cr_no_lf (b ∷ []) (more e none) = un_cr_last b e (eqb b 13) refl
un_cr_no_lf (b ∷ c ∷ l) (more e (more f n)) = more e (un_cr_no_lf (c ∷ l) (more f n))

-- ---- cut at the LF

cut_more : (b : ℕ) (s : List ℕ) → eqb b 10 ≡ false → cut_at_lf (b ∷ s) ≡ begun b (cut_at_lf s)
unfolding cut_at_lf
cut_more b s e = rw (e, cut_at_lf)

-- a line, and the lines behind its LF
cut_lf : (u w : List ℕ) → NoLf u → cut_at_lf (u ++ (10 ∷ w)) ≡ u ∷ cut_at_lf w
unfolding cut_at_lf begun
cut_lf [] w none = refl
cut_lf (b ∷ u) w (more e n) = cut_more b (u ++ (10 ∷ w)) e ∙ ap (begun b) (cut_lf u w n)

-- the last line, which has none
cut_last : (b : ℕ) (u : List ℕ) → NoLf (b ∷ u) → cut_at_lf (b ∷ u) ≡ (b ∷ u) ∷ []
unfolding cut_at_lf begun
cut_last b [] (more e none) = cut_more b [] e
cut_last b (c ∷ u) (more e (more f n)) = cut_more b (c ∷ u) e ∙ ap (begun b) (cut_last c u (more f n))

-- ---- the first line of a text

split_cons : (b : ℕ) (s : List ℕ) → front is_not_lf s ++ after is_not_lf s ≡ s → (x : Bool) → is_not_lf b ≡ x → front is_not_lf (b ∷ s) ++ after is_not_lf (b ∷ s) ≡ b ∷ s
unfolding front after
split_cons b s ih true e = rw (e, front, after) (ap (λ (l : List ℕ). b ∷ l) ih)
split_cons b s ih false e = rw (e, front, after)

split : (s : List ℕ) → front is_not_lf s ++ after is_not_lf s ≡ s
unfolding front after
split [] = refl
split (b ∷ s) = split_cons b s (split s) (is_not_lf b) refl

-- by the bytes before the LF, l, and what stands from it on, t
first_line_law : (l t : List ℕ) → NoLf l → Stops is_not_lf t → 0 < length (l ++ t) → lines_of (l ++ t) ≡ line_before l t ∷ lines_of (behind_lf t)
unfolding lines_of line_before behind_lf
first_line_law [] [] n h p = absurd (not-suc-le-zero p)
first_line_law (b ∷ l) [] n h p =
    ap lines_of (append-nil (b ∷ l)) ∙ ap cut_at_lf (without_cr_none (b ∷ l) n) ∙ cut_last b l n
first_line_law l (c ∷ t) n h p =
    ap (λ (x : ℕ). lines_of (l ++ (x ∷ t))) (is_lf c h) ∙ ap cut_at_lf (without_cr_lf l t n) ∙ cut_lf (un_cr l) (without_cr t) (un_cr_no_lf l n)

pub lines_cons : (s : List ℕ) → 0 < length s → lines_of s ≡ line_of s ∷ lines_of (lines_below s)
unfolding line_of lines_below
lines_cons s h =
    ap lines_of (sym (split s))
    ∙ first_line_law (front is_not_lf s) (after is_not_lf s) (front_no_lf s) (after_stops is_not_lf s) (rw (split s) h)

-- and what stands behind it begins where it ends with its LF
width_behind : (l t : List ℕ) → drop (width_before l t) (l ++ t) ≡ behind_lf t
unfolding width_before behind_lf
width_behind l [] = drop-append_seam l []
width_behind l (b ∷ t) = drop-append-add l (b ∷ t) 1

pub lines_below_law : (s : List ℕ) → drop (line_width s) s ≡ lines_below s
unfolding line_width lines_below
lines_below_law s =
    ap (drop (width_before (front is_not_lf s) (after is_not_lf s))) (sym (split s)) ∙ width_behind (front is_not_lf s) (after is_not_lf s)

-- ---- the last byte before the LF

-- of k bytes and one more the last is a CR: it is dropped
un_cr_drops : (l : List ℕ) (k : ℕ) → length l ≡ suc k → get_or l k 0 ≡ 13 → length (un_cr l) ≡ k
unfolding un_cr
un_cr_drops [] k h e = absurd (omega arith)
un_cr_drops (b ∷ []) zero h e = rw (eq-eqb b 13 e, un_cr)
un_cr_drops (b ∷ []) (suc k) h e = absurd (omega arith)
un_cr_drops (b ∷ c ∷ l) zero h e = absurd (omega arith)
un_cr_drops (b ∷ c ∷ l) (suc k) h e = ap suc (un_cr_drops (c ∷ l) k (omega arith) e)

-- it is another byte: it stays
un_cr_keeps : (l : List ℕ) (k : ℕ) → length l ≡ suc k → (get_or l k 0 ≡ 13 → ⊥) → length (un_cr l) ≡ suc k
unfolding un_cr
un_cr_keeps [] k h e = absurd (omega arith)
un_cr_keeps (b ∷ []) zero h e = rw (ne_eqb b 13 e, un_cr)
un_cr_keeps (b ∷ []) (suc k) h e = absurd (omega arith)
un_cr_keeps (b ∷ c ∷ l) zero h e = absurd (omega arith)
un_cr_keeps (b ∷ c ∷ l) (suc k) h e = ap suc (un_cr_keeps (c ∷ l) k (omega arith) e)

-- no bytes have no CR
un_cr_none : (l : List ℕ) → length l ≡ 0 → length (un_cr l) ≡ 0
unfolding un_cr
un_cr_none [] h = refl
un_cr_none (b ∷ l) h = absurd (omega arith)

-- ---- the line at a place, by where its LF stands

module _ (s : List ℕ) (i lf : ℕ) (n : lf ≡ i + length (front is_not_lf (drop i s))) where
  -- from the LF on
  rest : after is_not_lf (drop i s) ≡ drop lf s
  rest = after_is is_not_lf s i ∙ ap (λ (k : ℕ). drop k s) (sym n)

  -- a byte of the line
  byte_at : (k : ℕ) → k < length (front is_not_lf (drop i s)) → get_or (front is_not_lf (drop i s)) k 0 ≡ get_or s (i + k) 0
  byte_at k h =
      sym (get_or-append (front is_not_lf (drop i s)) (after is_not_lf (drop i s)) 0 k h)
      ∙ ap (λ (l : List ℕ). get_or l k 0) (split (drop i s))
      ∙ get_or-drop i s k 0

  -- there is none: the line goes to the text's end
  pub line_last : length s ≤ lf → record { end = lf; next = lf } ≡ line_at s i
  unfolding line_at
  line_last h =
      let e : after is_not_lf (drop i s) ≡ [] = rest ∙ drop_of_length-le s h in
      sym
      (ap₂ (λ (a b : ℕ). record { end = i + a; next = i + b }) (ap (λ (t : List ℕ). length (line_before (front is_not_lf (drop i s)) t)) e)
      (ap (width_before (front is_not_lf (drop i s))) e)
      ∙ ap₂ (λ (a b : ℕ). record { end = a; next = b }) (sym n) (sym n))

  -- there is one: the line ends where its bytes without the CR end
  pub line_ended : (end next : ℕ) → lf < length s → end ≡ i + length (un_cr (front is_not_lf (drop i s))) → next ≡ lf + 1
      → record { end = end; next = next } ≡ line_at s i
  unfolding line_at
  line_ended end next h q m =
      let e : after is_not_lf (drop i s) ≡ get_or s lf 0 ∷ drop (suc lf) s = rest ∙ drop-cons s lf 0 h in
      sym
      (ap₂ (λ (a b : ℕ). record { end = i + a; next = i + b }) (ap (λ (t : List ℕ). length (line_before (front is_not_lf (drop i s)) t)) e)
      (ap (width_before (front is_not_lf (drop i s))) e)
      ∙ ap₂ (λ (a b : ℕ). record { end = a; next = b }) (sym q) (let w : i + (length (front is_not_lf (drop i s)) + 1) ≡ next = omega arith in w))

  -- an empty line
  pub line_empty : lf < length s → lf ≡ i → record { end = lf; next = lf + 1 } ≡ line_at s i
  line_empty h z =
      let u = un_cr_none (front is_not_lf (drop i s)) (omega arith) in
      line_ended lf (lf + 1) h (omega arith) refl

  -- a CR before the LF
  pub line_cr : lf < length s → (lf ≡ i → ⊥) → get_or s (lf - 1) 0 ≡ 13 → record { end = lf - 1; next = lf + 1 } ≡ line_at s i
  line_cr h z e =
      let k = length (front is_not_lf (drop i s)) - 1 in
      let w : length (front is_not_lf (drop i s)) ≡ suc k = omega arith in
      let a : i + k ≡ lf - 1 = omega arith in
      let u = un_cr_drops (front is_not_lf (drop i s)) k w (byte_at k (omega arith) ∙ ap (λ (m : ℕ). get_or s m 0) a ∙ e) in
      line_ended (lf - 1) (lf + 1) h (omega arith) refl

  -- another byte before it
  pub line_plain : lf < length s → (lf ≡ i → ⊥) → (get_or s (lf - 1) 0 ≡ 13 → ⊥) → record { end = lf; next = lf + 1 } ≡ line_at s i
  line_plain h z e =
      let k = length (front is_not_lf (drop i s)) - 1 in
      let w : length (front is_not_lf (drop i s)) ≡ suc k = omega arith in
      let a : i + k ≡ lf - 1 = omega arith in
      let u =
      un_cr_keeps (front is_not_lf (drop i s)) k w
      (λ (q : get_or (front is_not_lf (drop i s)) k 0 ≡ 13). e (ap (λ (m : ℕ). get_or s m 0) (sym a) ∙ sym (byte_at k (omega arith)) ∙ q)) in
      line_ended lf (lf + 1) h (omega arith) refl
