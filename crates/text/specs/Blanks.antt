-- Blanks, as document 01 has them: "Blank is any of space, tab, LF, VT, FF, CR." What is no blank is ink. Assumes nothing.
use Rattle.std.specs.Prelude.{Bool, not, ◌&&◌, ◌||◌, ℕ, leb, eqb}

-- space is 32; tab, LF, VT, FF and CR are 9 to 13
unfoldable pub is_blank : ℕ → Bool
is_blank b = eqb b 32 || (leb 9 b && leb b 13)

-- what tokens and names are made of
unfoldable pub is_ink : ℕ → Bool
unfolding is_blank
is_ink b = not (is_blank b)
