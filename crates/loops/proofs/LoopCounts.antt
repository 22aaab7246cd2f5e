-- What a loop's closing is counted at, before any note is laid down, is how many notes it gives: so refusal 21 asks for the notes that are there "after
-- closing". Assumes nothing.
use mathlib.Core.Path.{◌≡◌, sym, ap, ◌∙◌}
use mathlib.Core.List.{List, [], ◌∷◌, ◌++◌}
use Prim.Native.Nat.{ℕ, ◌+◌, ◌-◌, ◌*◌}
use native.Mathlib.Nat.{mul-zero}
use lib.ListN.{length, take, length-append}
use Rattle.sheet.specs.declared.note.Note.{Note}
use Rattle.loops.specs.Loops.{Loop, body_of, last_pass, bodies, played, played_count}
use Rattle.loops.proofs.Repeats.{copies_length}

bodies_length : (n : ℕ) (ns : List Note) → length (bodies n ns) ≡ n * length ns
unfolding bodies
bodies_length n [] = sym (mul-zero n)
bodies_length n (x ∷ xs) = copies_length n (x ∷ xs)

pub played_count_law : (n : ℕ) (l : Loop) (ns : List Note) → played_count n l ns ≡ length (played n l ns)
unfolding played_count played
played_count_law n l ns =
    sym
    (length-append (take l.from ns) (bodies (n - 1) (body_of l ns) ++ last_pass l ns)
    ∙ ap (λ (k : ℕ). length (take l.from ns) + k)
    (length-append (bodies (n - 1) (body_of l ns)) (last_pass l ns) ∙ ap (λ (k : ℕ). k + length (last_pass l ns)) (bodies_length (n - 1) (body_of l ns))))
