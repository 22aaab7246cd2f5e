-- Directives, as document 01 has them: "A directive changes the starting environment and every existing part's." Here is how a directive's two tokens
-- say what is changed; `applied` carries the change out. Assumes nothing.
use Rattle.std.specs.Prelude.{Result, Ok, Err, List, [], ◌∷◌, map, ◌++◌, ℕ, take, drop}
use Prim.Native.String.{String}
use Rattle.text.specs.Characters.{row_named}
use Rattle.lines.specs.Tokens.{named_of, first_token}
use Rattle.number.specs.Digits.{value_most, int_at, int_width}
use Rattle.sheet.specs.declared.refusal.Refusal.{Refusal}
use Rattle.sheet.specs.Numbers.{number_of}
use Rattle.sheet.specs.Refusals.{Outcome, going, refused, ◌>>=◌, ◌>>◌, refuse◌on◌without◌}
use Rattle.strict.specs.declared.mode.Mode.{Mode}
use Rattle.strict.specs.Strict.{read_to_its_end}
use Rattle.environment.specs.declared.environment.Environment.{Environment}
use Rattle.directive.specs.declared.directive.Directive.{Directive}
use Rattle.directive.specs.declared.directive.Directive.TheVariants.{Tempo, Denominator, OfKey}
use Rattle.keys.specs.Keys.{key_at, key_width}
use Rattle.environment.specs.Bounds.{Bounds, denominators, tempos}
use Rattle.environment.specs.Environment.{with_tempo, with_denominator, with_key}
use Rattle.environment.specs.Ranges.{digit_run, ranged, key_outcome}

-- what each directive changes, by its value, which is what its second token begins with; in strict mode it is all of the token, or else 32 comes "after 8
-- or 9"
unfoldable pub directives : Mode → ℕ → List (String × (List ℕ → Outcome (Environment → Environment)))
unfolding ranged digit_run int_at key_outcome key_at read_to_its_end int_width key_width
directives mode line = (
  "#tempo",
  λ text. do
    v ← ranged line tempos (digit_run (int_at value_most text 0))
    read_to_its_end mode line text (int_width (int_at value_most text 0))
    going (with_tempo v),
)
    ∷ (
      "#denom",
      λ text. do
        v ← ranged line denominators (digit_run (int_at value_most text 0))
        read_to_its_end mode line text (int_width (int_at value_most text 0))
        going (with_denominator v),
    )
    ∷ (
      "#key",
      λ text. do
        k ← key_outcome line (key_at text 0)
        read_to_its_end mode line text (key_width (key_at text 0))
        going (with_key k),
    )
    ∷ []

-- the number within bounds that a token begins with, and in strict mode is
unfoldable pub number_read : Mode → ℕ → Bounds → List ℕ → Outcome ℕ
unfolding ranged digit_run int_at read_to_its_end int_width
number_read mode line b text = do
  v ← ranged line b (digit_run (int_at value_most text 0))
  read_to_its_end mode line text (int_width (int_at value_most text 0))
  going v

-- "6, then value"
unfoldable pub change_of : Mode → ℕ → List ℕ → List ℕ → Outcome (Environment → Environment)
unfolding row_named directives
change_of mode line name text = row_named name (λ text. refused 6 line) (directives mode line) text

-- "Directive: 7 for tokens, 6, then value.": what a line says that is to be changed
unfoldable pub directive_of : Mode → ℕ → List ℕ → Outcome (Environment → Environment)
unfolding named_of first_token change_of
directive_of mode line l = do
  n ← refuse 7 on line without (named_of l)
  change_of mode line n.name (first_token n.body)

-- ---- answers: what each case stands for, on a line

unfoldable pub directive_outcome : ℕ → Result Directive Refusal → Outcome (Environment → Environment)
directive_outcome line (Ok (Tempo v)) = going (with_tempo v)
directive_outcome line (Ok (Denominator v)) = going (with_denominator v)
directive_outcome line (Ok (OfKey k)) = going (with_key k)
directive_outcome line (Err why) = refused (number_of why) line

-- the change carried out; a refusal, of whatever kind, changes nothing
unfoldable pub applied : {E : Type 0} → Result Directive E → Environment → Environment
applied (Ok (Tempo v)) e = with_tempo v e
applied (Ok (Denominator v)) e = with_denominator v e
applied (Ok (OfKey k)) e = with_key k e
applied (Err why) e = e

-- the same on the first n environments: "A directive changes .. every existing part's"
unfoldable pub applied_to : {E : Type 0} → Result Directive E → ℕ → List Environment → List Environment
unfolding applied
applied_to d n es = map (applied d) (take n es) ++ drop n es
