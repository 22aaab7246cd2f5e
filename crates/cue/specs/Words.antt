-- What the program is asked by the words that it is started with: `strict` has it read strictly, `old-size` has it write the old RIFF size, and each stands alone or
-- behind the other. Any other word, one that stands twice, and a third are not understood. Assumes nothing.
use Rattle.std.specs.Prelude.{Bool, true, false, ◌&&◌, ◌||◌, List, ℕ, leb, eqb, Option, Some, None}
use Rattle.text.specs.Characters.{same}
use Rattle.text.specs.Quoted.{bytes}
use Rattle.form.specs.declared.size.Size.{Size}
use Rattle.form.specs.declared.size.Size.TheVariants.{Published, Old}
use Rattle.strict.specs.declared.mode.Mode.{Mode}
use Rattle.strict.specs.declared.mode.Mode.TheVariants.{Plain, Strict}

-- by one word
unfoldable pub asked_by_one : List ℕ → Option (Mode × Size)
unfolding same bytes
asked_by_one word =
    elim (same word (bytes "strict")) [
      | true ↦ Some (Strict, Published)
      | false ↦ elim (same word (bytes "old-size")) [ true ↦ Some (Plain, Old) | false ↦ None ]
    ]

-- the two words, in this order
unfoldable pub are_both : List ℕ → List ℕ → Bool
unfolding same bytes
are_both first second = same first (bytes "strict") && same second (bytes "old-size")

-- by two words, in either order
unfoldable pub asked_by_two : List ℕ → List ℕ → Option (Mode × Size)
unfolding are_both
asked_by_two first second = elim (are_both first second || are_both second first) [ true ↦ Some (Strict, Old) | false ↦ None ]

-- by how many words there are, the program's own name among them, and the two behind the name, of which only so many count
unfoldable pub asked_by : ℕ → List ℕ → List ℕ → Option (Mode × Size)
unfolding asked_by_one asked_by_two
asked_by count first second =
    elim (leb count 1) [
      | true ↦ Some (Plain, Published)
      | false ↦
          elim (eqb count 2) [
            | true ↦ asked_by_one first
            | false ↦ elim (eqb count 3) [ true ↦ asked_by_two first second | false ↦ None ]
          ]
    ]
