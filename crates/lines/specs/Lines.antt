-- Lines, as document 01 has them: "Lines end at LF; one CR before it is dropped." The last line needs no LF, and a CR there is a byte as any
-- other. Assumes nothing.
use Rattle.std.specs.Prelude.{Bool, true, false, not, ◌&&◌, List, [], ◌∷◌, ℕ, zero, suc, ◌+◌, eqb, length, drop}
use Rattle.lines.specs.declared.lines.Line.{Line}
use Rattle.text.specs.Fronts.{front, after}

-- a text without the CR right before each LF
unfoldable pub without_cr : List ℕ → List ℕ
without_cr [] = []
without_cr (b ∷ []) = b ∷ []
without_cr (b ∷ c ∷ s) = elim (eqb b 13 && eqb c 10) [ true ↦ without_cr (c ∷ s) | false ↦ b ∷ without_cr (c ∷ s) ]

-- the first line with one more byte in front; where there is no line yet, that byte is one
unfoldable pub begun : ℕ → List (List ℕ) → List (List ℕ)
begun b [] = (b ∷ []) ∷ []
begun b (l ∷ ls) = (b ∷ l) ∷ ls

-- a text cut at each LF
unfoldable pub cut_at_lf : List ℕ → List (List ℕ)
unfolding begun
cut_at_lf [] = []
cut_at_lf (b ∷ s) = elim (eqb b 10) [ true ↦ [] ∷ cut_at_lf s | false ↦ begun b (cut_at_lf s) ]

-- the lines of a text, from the top
unfoldable pub lines_of : List ℕ → List (List ℕ)
unfolding without_cr cut_at_lf
lines_of s = cut_at_lf (without_cr s)

-- ---- the first line of a text, as code finds it

-- whether a byte does not end a line
unfoldable pub is_not_lf : ℕ → Bool
is_not_lf b = not (eqb b 10)

-- the bytes before an LF without the CR that they may end in
unfoldable pub un_cr : List ℕ → List ℕ
un_cr [] = []
un_cr (b ∷ []) = elim (eqb b 13) [ true ↦ [] | false ↦ b ∷ [] ]
un_cr (b ∷ c ∷ s) = b ∷ un_cr (c ∷ s)

-- the first line, where these bytes stand before its LF and these from it on
unfoldable pub line_before : List ℕ → List ℕ → List ℕ
unfolding un_cr
line_before l [] = l
line_before l (b ∷ s) = un_cr l

unfoldable pub line_of : List ℕ → List ℕ
unfolding front after is_not_lf line_before
line_of s = line_before (front is_not_lf s) (after is_not_lf s)

-- how many bytes it takes with its LF
unfoldable pub width_before : List ℕ → List ℕ → ℕ
width_before l [] = length l
width_before l (b ∷ s) = length l + 1

unfoldable pub line_width : List ℕ → ℕ
unfolding front after is_not_lf width_before
line_width s = width_before (front is_not_lf s) (after is_not_lf s)

-- what stands behind its LF
unfoldable pub behind_lf : List ℕ → List ℕ
behind_lf [] = []
behind_lf (b ∷ s) = s

unfoldable pub lines_below : List ℕ → List ℕ
unfolding after is_not_lf behind_lf
lines_below s = behind_lf (after is_not_lf s)

-- the place behind the n lines that begin at place i of a text
unfoldable pub behind_lines : ℕ → List ℕ → ℕ → ℕ
unfolding line_width
behind_lines zero s i = i
behind_lines (suc n) s i = behind_lines n s i + line_width (drop (behind_lines n s i) s)

-- where the line at place i of a text ends, and where the next one begins
unfoldable pub line_at : List ℕ → ℕ → Line
unfolding line_of line_width
line_at s i = record { end = i + length (line_of (drop i s)); next = i + line_width (drop i s) }
