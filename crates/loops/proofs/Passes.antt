-- Which notes a loop plays, as counts of the notes there are, and how many these are. Assumes nothing.
use mathlib.Core.Path.{◌≡◌, refl, sym, ap, ap₂, ◌∙◌}
use mathlib.Core.List.{List, [], ◌∷◌, ◌++◌, append-nil}
use mathlib.Core.Option.{Option, none, some}
use Prim.Native.Nat.{ℕ, ◌+◌, ◌-◌, ◌*◌, ◌≤◌, ◌<◌, min}
use native.Mathlib.Omega.{arith}
use lib.ListN.{length, take, drop, length-drop, drop_of_length-le}
use lib.Seq.{length-take-le, take_all, take-nil}
use Rattle.sheet.proofs.Basics.{take_least}
use Rattle.sheet.specs.declared.note.Note.{Note}
use Rattle.loops.specs.Loops.{Loop, body_of, last_pass, copies, bodies, played, played_count, last_count}
use Rattle.loops.proofs.LoopCounts.{played_count_law}

last_pass_law : (l : Loop) (ns : List Note) → last_pass l ns ≡ take (last_count l.from l.cut (length ns - l.from)) (drop l.from ns)
unfolding last_pass body_of last_count
last_pass_law l ns = go l.from l.cut
  where
    go : (start : ℕ) (c : Option ℕ) → last_pass (record { from = start; cut = c }) ns ≡ take (last_count start c (length ns - start)) (drop start ns)
    go start none = sym (take_all (length ns - start) (drop start ns) (omega (arith, length-drop start ns)))
    go start (some k) = sym (take_least (k - start) (drop start ns)) ∙ ap (λ (j : ℕ). take (min (k - start) j) (drop start ns)) (length-drop start ns)

bodies_are : (k : ℕ) (ns : List Note) → 0 < length ns → bodies k ns ≡ copies k ns
unfolding bodies
bodies_are k [] h = absurd (omega arith)
bodies_are k (n ∷ ns) h = refl

module _ (passes : ℕ) (l : Loop) (ns : List Note) where
  -- a loop with notes
  module _ (filled : l.from < length ns) (last : ℕ) (is_last : last ≡ last_count l.from l.cut (length ns - l.from)) where
    pub played_is : played passes l ns ≡ take l.from ns ++ (copies (passes - 1) (drop l.from ns) ++ take last (drop l.from ns))
    unfolding played body_of
    played_is =
        ap₂ (λ (ms qs : List Note). take l.from ns ++ (ms ++ qs))
        (bodies_are (passes - 1) (drop l.from ns) (omega (arith, length-drop l.from ns)))
        (last_pass_law l ns ∙ ap (λ (k : ℕ). take k (drop l.from ns)) (sym is_last))

    pub counted_is : last ≤ length ns - l.from → played_count passes l ns ≡ l.from + (passes - 1) * (length ns - l.from) + last
    unfolding played_count body_of
    counted_is h =
        let b = length-drop l.from ns in
        let f = length-take-le l.from ns (omega arith) in
        let p : length (last_pass l ns) ≡ last =
        ap length (last_pass_law l ns ∙ ap (λ (k : ℕ). take k (drop l.from ns)) (sym is_last)) ∙ length-take-le last (drop l.from ns) (omega arith) in
        let m : (passes - 1) * length (drop l.from ns) ≡ (passes - 1) * (length ns - l.from) = ap (λ (k : ℕ). (passes - 1) * k) b in
        omega arith

  -- a loop without notes
  module _ (empty : length ns ≤ l.from) where
    pub played_past : played passes l ns ≡ ns
    unfolding played body_of bodies
    played_past =
        let e : drop l.from ns ≡ [] = drop_of_length-le ns empty in
        let p : last_pass l ns ≡ [] =
        last_pass_law l ns ∙ ap (take (last_count l.from l.cut (length ns - l.from))) e ∙ take-nil (last_count l.from l.cut (length ns - l.from)) in
        ap₂ (λ (ms qs : List Note). take l.from ns ++ (ms ++ qs)) (ap (bodies (passes - 1)) e) p
        ∙ append-nil (take l.from ns)
        ∙ take_all l.from ns empty

    pub counted_past : played_count passes l ns ≡ length ns
    counted_past = played_count_law passes l ns ∙ ap length played_past
