-- Laws of windows: samples written block by block are samples written at once, and windows written one after the other give the bytes of one large
-- window. Assumes nothing.
use mathlib.Core.Path.{◌≡◌, refl, sym, ap, ap₂, ◌∙◌}
use mathlib.Core.Bool.{Bool, true, false}
use mathlib.Core.Logic.{◌⊎◌, inl, inr, ⊎_elim}
use mathlib.Core.List.{List, ◌++◌, append_assoc, append-nil}
use Prim.Native.Nat.{ℕ, ◌+◌, ◌-◌, ◌*◌, ◌/◌, ◌≤◌, ◌<◌, min}
use native.Mathlib.Nat.{zero-add}
use native.Mathlib.Omega.{arith}
use lib.Dec.{leb, ltb}
use lib.ListN.{length, drop, length-append, drop_of_length-le}
use lib.Seq.{drop-append-add, drop-append-le}
use borrow.Author.Tests.{leb-true, leb-false, ltb-true, ltb-false}
use Rattle.form.specs.Sample.{bytes_of}
use Rattle.wave.specs.File.{put, room_at}
use Rattle.form.proofs.Published.{bytes_length}
use Rattle.wave.proofs.Writes.{put_none, put_length, put_put, bytes_append}
use Rattle.sheet.specs.declared.sheet.Sheet.{Sheet}
use Rattle.sheet.specs.Parts.{length_of}
use Rattle.sheet.specs.Refusals.{going, refused}
use Rattle.handed.specs.Check.{is_sheet}
use Rattle.mixing.specs.Sounding.{Placed}
use Rattle.evaluator.specs.Samples.{samples_from}
use Rattle.mixing.specs.Placing.{placed}
use Rattle.evaluator.proofs.Samples.{samples_length, samples_append}
use Rattle.windows.specs.Written.{written_of, written_in}
use Rattle.windows.proofs.Answers.{written_28, written_29, written_past, written_short, written_room, written_none, written_refused, written_put}

-- how many bytes n samples have
pub sample_bytes_law : (ps : List Placed) (k n : ℕ) → length (bytes_of (samples_from ps k n)) ≡ 2 * n
sample_bytes_law ps k n = bytes_length (samples_from ps k n) ∙ ap (λ (m : ℕ). 2 * m) (samples_length ps k n)

-- ---- blocks

-- k samples more, right behind those that are written
pub blocks_more : (ps : List Placed) (b : List ℕ) (at start done k : ℕ) → at + 2 * (done + k) ≤ length b
    → put (put b at (bytes_of (samples_from ps start done))) (at + 2 * done) (bytes_of (samples_from ps (start + done) k))
    ≡ put b at (bytes_of (samples_from ps start (done + k)))
blocks_more ps b at start done k h =
    put_put b at (bytes_of (samples_from ps start done)) (omega (arith, sample_bytes_law ps start done)) (bytes_of (samples_from ps (start + done) k)) (at + 2 * done)
    (omega (arith, sample_bytes_law ps start done))
    ∙ ap (put b at) (sym (ap bytes_of (samples_append ps start done k) ∙ bytes_append (samples_from ps start done) (samples_from ps (start + done) k)))

-- the buffer keeps its length
pub blocks_length : (ps : List Placed) (b : List ℕ) (at start done : ℕ) → at + 2 * done ≤ length b → length (put b at (bytes_of (samples_from ps start done))) ≡ length b
blocks_length ps b at start done h = put_length b at (bytes_of (samples_from ps start done)) (omega (arith, sample_bytes_law ps start done))

-- none yet
pub blocks_none : (ps : List Placed) (b : List ℕ) (at start : ℕ) → put b at (bytes_of (samples_from ps start 0)) ≡ b
unfolding samples_from bytes_of
blocks_none ps b at start = put_none b at

-- ---- windows

module _ (rate : ℕ) (s : Sheet) (e : is_sheet rate s ≡ true) where
  -- the samples that exist and fit whole into a buffer from a place on
  abbrev pub fitting : ℕ → List ℕ → ℕ → ℕ
  fitting start buffer at = min (room_at (length buffer) at) (length_of rate s - start)

  -- a window is taken, or it is refused and none fits
  pub written_or : (start : ℕ) (buffer : List ℕ) (at : ℕ)
      → (written_of rate s start (length buffer) at ≡ going (fitting start buffer at))
      ⊎ ((n : ℕ) × (l : ℕ) × (written_of rate s start (length buffer) at ≡ refused n l) × (fitting start buffer at ≡ 0))
  unfolding room_at
  written_or start buffer at = late (leb start (length_of rate s)) refl
    where
      room : ℕ
      room = length buffer

      Answered : Type 0
      Answered =
          (written_of rate s start (length buffer) at ≡ going (fitting start buffer at))
          ⊎ ((n : ℕ) × (l : ℕ) × (written_of rate s start (length buffer) at ≡ refused n l) × (fitting start buffer at ≡ 0))

      short : start ≤ length_of rate s → at ≤ room → (b : Bool) → ltb (room - at) 2 ≡ b → (d : Bool) → ltb start (length_of rate s) ≡ d → Answered
      short l p true t true u =
          let f : room - at < 2 = ltb-true (room - at) 2 t in
          let m : start < length_of rate s = ltb-true start (length_of rate s) u in
          inr (30, 0, written_short rate s buffer start at e l p m f, omega arith)
      short l p true t false u = inl (written_none rate s buffer start at e l p (ltb-false start (length_of rate s) u))
      short l p false t d u = inl (written_room rate s buffer start at e l p (ltb-false (room - at) 2 t))

      past : start ≤ length_of rate s → (b : Bool) → leb at room ≡ b → Answered
      past l true t = short l (leb-true at room t) (ltb (room - at) 2) refl (ltb start (length_of rate s)) refl
      past l false t =
          let p : room < at = leb-false at room t in
          inr (30, 0, written_past rate s buffer start at e l p, omega arith)

      late : (b : Bool) → leb start (length_of rate s) ≡ b → Answered
      late true t = past (leb-true start (length_of rate s) t) (leb at room) refl
      late false t =
          let l : length_of rate s < start = leb-false start (length_of rate s) t in
          inr (29, 0, written_29 rate s buffer start at e l, omega arith)

  -- what a window leaves, refused or not
  pub written_is : (start : ℕ) (buffer : List ℕ) (at : ℕ) → written_in rate s start buffer at ≡ put buffer at (bytes_of (samples_from (placed rate s) start (fitting start buffer at)))
  written_is start buffer at =
      ⊎_elim (written_put rate s buffer start at (fitting start buffer at))
      (λ w. written_refused rate s buffer start at w.0 w.1 w.2
      ∙ sym (ap (λ (n : ℕ). put buffer at (bytes_of (samples_from (placed rate s) start n))) w.3 ∙ blocks_none (placed rate s) buffer at start))
      (written_or start buffer at)

-- ---- one after the other

-- a write that ends in the first of two buffers, and one that goes on into the second
front_put : (xs ys bs : List ℕ) → length bs ≤ length xs → put (xs ++ ys) 0 bs ≡ put xs 0 bs ++ ys
unfolding put
front_put xs ys bs h =
    ap (λ (l : List ℕ). bs ++ l) (ap (λ (n : ℕ). drop n (xs ++ ys)) (zero-add (length bs)) ∙ drop-append-le (length bs) xs ys h ∙ ap (λ (n : ℕ). drop n xs ++ ys) (sym (zero-add (length bs))))
    ∙ sym (append_assoc bs (drop (0 + length bs) xs) ys)

pub both_put : (xs ys bs cs : List ℕ) → length bs ≡ length xs → put (xs ++ ys) 0 (bs ++ cs) ≡ put xs 0 bs ++ put ys 0 cs
unfolding put
both_put xs ys bs cs h =
    let n : 0 + length (bs ++ cs) ≡ length xs + (0 + length cs) = omega (arith, length-append bs cs) in
    let z : length xs ≤ 0 + length bs = omega arith in
    ap (λ (k : ℕ). (bs ++ cs) ++ drop k (xs ++ ys)) n
    ∙ ap (λ (l : List ℕ). (bs ++ cs) ++ l) (drop-append-add xs ys (0 + length cs))
    ∙ append_assoc bs cs (drop (0 + length cs) ys)
    ∙ ap (λ (l : List ℕ). l ++ (cs ++ drop (0 + length cs) ys)) (sym (ap (λ (l : List ℕ). bs ++ l) (drop_of_length-le xs z) ∙ append-nil bs))

-- rooms in samples, where the first buffer has room for a samples
half_more : (x y a : ℕ) → x ≡ 2 * a → (x + y - 0) / 2 ≡ a + (y - 0) / 2
half_more x y a h = omega arith

half_all : (x a : ℕ) → x ≡ 2 * a → (x - 0) / 2 ≡ a
half_all x a h = omega arith

min_add : (a p r : ℕ) → min (a + p) (a + r) ≡ a + min p r
min_add a p r = omega arith

min_first : (a r : ℕ) → min a (a + r) ≡ a
min_first a r = omega arith

min_under : (p m : ℕ) → min p m ≤ p
min_under p m = omega arith

min_none : (p : ℕ) → min p 0 ≡ 0
min_none p = omega arith

rest_within : (end start a : ℕ) → start + a ≤ end → end - start ≡ a + (end - (start + a))
rest_within end start a l = omega arith

rest_beyond : (end start a : ℕ) → end < start + a → end - start ≤ a
rest_beyond end start a l = omega arith

none_beyond : (end start a : ℕ) → end < start + a → end - (start + a) ≡ 0
none_beyond end start a l = omega arith

few : (p a m : ℕ) → m ≤ a → min (a + p) m ≡ min a m
few p a m l = omega arith

module _ (rate : ℕ) (s : Sheet) (start a : ℕ) (xs ys : List ℕ) (h : length xs ≡ 2 * a) where
  -- how many samples the two have room for
  room_both : (length (xs ++ ys) - 0) / 2 ≡ a + (length ys - 0) / 2
  room_both = ap (λ (n : ℕ). (n - 0) / 2) (length-append xs ys) ∙ half_more (length xs) (length ys) a h

  cut_within : (e : is_sheet rate s ≡ true) → start + a ≤ length_of rate s → written_in rate s start (xs ++ ys) 0 ≡ written_in rate s start xs 0 ++ written_in rate s (start + a) ys 0
  unfolding room_at
  cut_within e l =
      let ps = placed rate s in
      let m = min ((length ys - 0) / 2) (length_of rate s - (start + a)) in
      let n : min ((length (xs ++ ys) - 0) / 2) (length_of rate s - start) ≡ a + m = ap₂ min room_both (rest_within (length_of rate s) start a l) ∙ min_add a ((length ys - 0) / 2) (length_of rate s - (start + a)) in
      let k : min ((length xs - 0) / 2) (length_of rate s - start) ≡ a = ap₂ min (half_all (length xs) a h) (rest_within (length_of rate s) start a l) ∙ min_first a (length_of rate s - (start + a)) in
      written_is rate s e start (xs ++ ys) 0
      ∙ ap (λ (i : ℕ). put (xs ++ ys) 0 (bytes_of (samples_from ps start i))) n
      ∙ ap (put (xs ++ ys) 0) (ap bytes_of (samples_append ps start a m) ∙ bytes_append (samples_from ps start a) (samples_from ps (start + a) m))
      ∙ both_put xs ys (bytes_of (samples_from ps start a)) (bytes_of (samples_from ps (start + a) m)) (sample_bytes_law ps start a ∙ sym h)
      ∙ sym
      (ap₂ (λ (x y : List ℕ). x ++ y) (written_is rate s e start xs 0 ∙ ap (λ (i : ℕ). put xs 0 (bytes_of (samples_from ps start i))) k)
      (written_is rate s e (start + a) ys 0))

  within : (m : ℕ) → m ≤ (length xs - 0) / 2 → length (bytes_of (samples_from (placed rate s) start m)) ≤ length xs
  within m l = omega (arith, sample_bytes_law (placed rate s) start m)

  cut_beyond : (e : is_sheet rate s ≡ true) → length_of rate s < start + a → written_in rate s start (xs ++ ys) 0 ≡ written_in rate s start xs 0 ++ written_in rate s (start + a) ys 0
  unfolding room_at
  cut_beyond e l =
      let ps = placed rate s in
      let m = min ((length xs - 0) / 2) (length_of rate s - start) in
      let n : min ((length (xs ++ ys) - 0) / 2) (length_of rate s - start) ≡ m =
      ap (λ (i : ℕ). min i (length_of rate s - start)) room_both
      ∙ few ((length ys - 0) / 2) a (length_of rate s - start) (rest_beyond (length_of rate s) start a l)
      ∙ ap (λ (i : ℕ). min i (length_of rate s - start)) (sym (half_all (length xs) a h)) in
      let k : min ((length ys - 0) / 2) (length_of rate s - (start + a)) ≡ 0 =
      ap (min ((length ys - 0) / 2)) (none_beyond (length_of rate s) start a l) ∙ min_none ((length ys - 0) / 2) in
      written_is rate s e start (xs ++ ys) 0
      ∙ ap (λ (i : ℕ). put (xs ++ ys) 0 (bytes_of (samples_from ps start i))) n
      ∙ front_put xs ys (bytes_of (samples_from ps start m)) (within m (min_under ((length xs - 0) / 2) (length_of rate s - start)))
      ∙ sym
      (ap₂ (λ (x y : List ℕ). x ++ y) (written_is rate s e start xs 0)
      (written_is rate s e (start + a) ys 0 ∙ ap (λ (i : ℕ). put ys 0 (bytes_of (samples_from ps (start + a) i))) k ∙ blocks_none ps ys 0 (start + a)))

  -- windows written one after the other give the bytes of one large window, refusals and all
  pub written_cut : written_in rate s start (xs ++ ys) 0 ≡ written_in rate s start xs 0 ++ written_in rate s (start + a) ys 0
  written_cut = go (is_sheet rate s) refl (leb (start + a) (length_of rate s)) refl
    where
      go : (b : Bool) → is_sheet rate s ≡ b → (d : Bool) → leb (start + a) (length_of rate s) ≡ d
          → written_in rate s start (xs ++ ys) 0 ≡ written_in rate s start xs 0 ++ written_in rate s (start + a) ys 0
      go true e true t = cut_within e (leb-true (start + a) (length_of rate s) t)
      go true e false t = cut_beyond e (leb-false (start + a) (length_of rate s) t)
      go false e d t =
          written_refused rate s (xs ++ ys) start 0 28 0 (written_28 rate s (xs ++ ys) start 0 e)
          ∙ sym
          (ap₂ (λ (x y : List ℕ). x ++ y) (written_refused rate s xs start 0 28 0 (written_28 rate s xs start 0 e))
          (written_refused rate s ys (start + a) 0 28 0 (written_28 rate s ys (start + a) 0 e)))
