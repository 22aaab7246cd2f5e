-- Loops, as document 01 has them: "`[` opens, `:` sets the cut at the notes so far (the last wins), `]n` gives n − 1 bodies, then the notes before the cut,
-- or all." A part's notes are one list, those in open loops last, so a loop is two places in that list. Assumes nothing.
use Rattle.std.specs.Prelude.{List, [], ◌∷◌, ◌++◌, ℕ, zero, suc, ◌+◌, ◌-◌, ◌*◌, min, length, take, drop}
use Rattle.std.proofs.Math.Option.{Option, none, some}
use Rattle.sheet.specs.declared.note.Note.{Note}

-- an open loop: how many notes its part had where it opens, and where it is cut
pub record Loop : Type 0 where
  pub from : ℕ
  pub cut : Option ℕ

-- the notes of a loop's body, of all notes of its part
unfoldable pub body_of : Loop → List Note → List Note
body_of l ns = drop l.from ns

-- "the notes before the cut, or all"
unfoldable pub last_pass : Loop → List Note → List Note
unfolding body_of
last_pass l ns = elim l.cut [ none ↦ body_of l ns | some k ↦ take (k - l.from) (body_of l ns) ]

-- n bodies one after the other
unfoldable pub copies : {A : Type 0} → ℕ → List A → List A
copies zero xs = []
copies (suc n) xs = xs ++ copies n xs

-- the same, and an empty body however often is empty: nothing counts to n, which may be 2^64 − 1
unfoldable pub bodies : ℕ → List Note → List Note
unfolding copies
bodies n [] = []
bodies n (x ∷ xs) = copies n (x ∷ xs)

-- "`]n` gives n − 1 bodies, then the notes before the cut, or all"
unfoldable pub played : ℕ → Loop → List Note → List Note
unfolding bodies body_of last_pass
played n l ns = take l.from ns ++ (bodies (n - 1) (body_of l ns) ++ last_pass l ns)

-- how many notes those are, before any of them is laid down
unfoldable pub played_count : ℕ → Loop → List Note → ℕ
unfolding body_of last_pass
played_count n l ns = length (take l.from ns) + ((n - 1) * length (body_of l ns) + length (last_pass l ns))

-- the open loops of a part, the innermost first: that one, and those around it
unfoldable pub innermost : List Loop → Option (Loop × List Loop)
innermost [] = none
innermost (l ∷ ls) = some (l, ls)

-- "loop count absent or 0" is none
unfoldable pub counted : Option ℕ → Option ℕ
counted none = none
counted (some zero) = none
counted (some (suc n)) = some (suc n)

-- ---- a loop as the code keeps it

-- a cut as it is kept: 0 for none, else its place and one
unfoldable pub cut_of : ℕ → Option ℕ
cut_of zero = none
cut_of (suc k) = some k

-- how many notes of a loop's m come in its last pass
unfoldable pub last_count : ℕ → Option ℕ → ℕ → ℕ
last_count start none m = m
last_count start (some k) m = min (k - start) m

-- a loop's count, 0 where there is none
unfoldable pub times_of : Option ℕ → ℕ
times_of none = 0
times_of (some n) = n
