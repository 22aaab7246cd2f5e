-- A loop's further passes in a column: the elements of its body are laid down again and again behind themselves. Assumes nothing.
use Rattle.std.specs.Prelude.{true, false, ◌&&◌, List, ◌++◌, ℕ, ◌+◌, max, leb, ltb, length, take, drop}
use Rattle.loops.specs.Loops.{copies}

-- the elements before `start`, then those from `start` to n again and again up to the place `end`, and what stands behind both places
unfoldable pub again : {A : Type 0} → ℕ → ℕ → ℕ → List A → List A
unfolding copies
again start n end xs = take (max n end) (take start xs ++ copies (end + 1) (drop start (take n xs))) ++ drop (max n end) xs

-- the same; where there is nothing from `start` to n, or the column is too short for either place, it stays as it is
unfoldable pub laid_again : {A : Type 0} → ℕ → ℕ → ℕ → List A → List A
unfolding again
laid_again start n end xs =
    elim (ltb start n && (leb n (length xs) && leb end (length xs))) [ true ↦ again start n end xs | false ↦ xs ]
