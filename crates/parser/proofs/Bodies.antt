-- A body that is refused has a number for it, which is not 0; one that goes on has counted the same notes of other parts all along. Assumes nothing.
use mathlib.Core.Path.{◌≡◌, refl}
use mathlib.Core.Bool.{Bool, true, false, ◌||◌}
use mathlib.Core.List.{List, [], ◌∷◌}
use mathlib.Core.Option.{Option}
use Prim.Native.Nat.{ℕ, zero, suc, ◌<◌}
use native.Mathlib.Omega.{arith}
use lib.Ieee.{lt}
use Rattle.ieee.specs.Constants.{plus_zero, one}
use Rattle.sheet.specs.Capacities.{nesting_most}
use Rattle.sheet.specs.Refusals.{Outcome, going, ◌>>◌, refuse◌on◌if◌}
use Rattle.sheet.proofs.Holds.{Holds, holds_going, holds_refused, holds_unless, holds_then, holds_after}
use Rattle.sheet.proofs.Outcomes.{Numbered, numbered_going, numbered_refused, numbered_unless, numbered_then}
use Rattle.environment.specs.declared.environment.Environment.{Environment}
use Rattle.keys.specs.declared.key.Key.{Key}
use Rattle.environment.specs.Ranges.{Amount, amount, unreadable, too_long, readable, loudness}
use Rattle.settings.specs.Changes.{octave_read, value_read, tempo_read, amplitude_read, key_read}
use Rattle.items.specs.Items.{Item, note, up, down, opening, cut, closing, octave, value, tempo, amplitude, key, instrument, call, unknown, items_of}
use Rattle.parser.proofs.Numbers.{numbered_without, ranged_numbered, key_taken_numbered}
use Rattle.tables.specs.Named.{Macro}
use Rattle.part.specs.Body.{Book, Progress, one_step, noted, opened, cut_here, closed, changing, called, does, stepped, run, inside, body_read}

-- ---- a refusal's number

module _ (line : ℕ) where
  if_numbered : {A : Type 0} (n : ℕ) (t : Bool) (rest : Outcome A) → 0 < n → Numbered rest → Numbered (◌>>◌ (refuse◌on◌if◌ n line t) rest)
  unfolding Numbered ◌>>◌ refuse◌on◌if◌
  if_numbered n true rest h k = h
  if_numbered n false rest h k = k

  readable_numbered : (a : Amount) → Numbered (readable line a)
  unfolding readable
  readable_numbered (amount x) = numbered_going x
  readable_numbered unreadable = numbered_refused _ 7 line (omega arith)
  readable_numbered too_long = numbered_refused _ 19 line (omega arith)

  loudness_numbered : (a : Amount) → Numbered (loudness line a)
  unfolding loudness
  loudness_numbered a =
      numbered_then _ _ (readable_numbered a) (λ x. if_numbered 8 (lt x plus_zero || lt one x) (going x) (omega arith) (numbered_going x))

  module _ (e : Environment) where
    octave_numbered : (n : Option ℕ) → Numbered (octave_read line n e)
    unfolding octave_read
    octave_numbered n = numbered_then _ _ (ranged_numbered line _ n) (λ v. numbered_going _)

    value_numbered : (n : Option ℕ) → Numbered (value_read line n e)
    unfolding value_read
    value_numbered n = numbered_then _ _ (ranged_numbered line _ n) (λ v. numbered_going _)

    tempo_numbered : (n : Option ℕ) → Numbered (tempo_read line n e)
    unfolding tempo_read
    tempo_numbered n = numbered_then _ _ (ranged_numbered line _ n) (λ v. numbered_going _)

    amplitude_numbered : (a : Amount) → Numbered (amplitude_read line a e)
    unfolding amplitude_read
    amplitude_numbered a = numbered_then _ _ (loudness_numbered a) (λ x. numbered_going _)

    key_numbered : (k : Option Key) → Numbered (key_read line k e)
    unfolding key_read
    key_numbered k = numbered_then _ _ (key_taken_numbered line k) (λ x. numbered_going _)

  changing_numbered : (o : Outcome Environment) (p : Progress) → Numbered o → Numbered (changing o p)
  unfolding changing
  changing_numbered o p h = numbered_then _ _ h (λ e. numbered_going _)

module _ (book : Book) (line : ℕ) (inner : Macro → Progress → Outcome Progress) (calls : (m : Macro) (p : Progress) → Numbered (inner m p)) where
  does_numbered : (i : Item) (p : Progress) → Numbered (does book line inner i p)
  unfolding does noted opened cut_here closed called
  does_numbered (note letter a v dot) p =
      numbered_unless _ _ _ _ (omega arith)
      (numbered_unless _ _ _ _ (omega arith) (numbered_unless _ _ _ _ (omega arith) (numbered_going _)))
  does_numbered up p = numbered_going _
  does_numbered down p = numbered_going _
  does_numbered opening p = numbered_unless _ _ _ _ (omega arith) (numbered_going _)
  does_numbered cut p = numbered_then _ _ (numbered_without _ line _ (omega arith)) (λ x. numbered_going _)
  does_numbered (closing n) p =
      numbered_then _ _ (numbered_without _ line _ (omega arith))
      (λ x. numbered_then _ _ (numbered_without _ line _ (omega arith)) (λ k. numbered_unless _ _ _ _ (omega arith) (numbered_going _)))
  does_numbered (octave n) p = changing_numbered line _ p (octave_numbered line p.part.env n)
  does_numbered (value n) p = changing_numbered line _ p (value_numbered line p.part.env n)
  does_numbered (tempo n) p = changing_numbered line _ p (tempo_numbered line p.part.env n)
  does_numbered (amplitude a) p = changing_numbered line _ p (amplitude_numbered line p.part.env a)
  does_numbered (key k) p = changing_numbered line _ p (key_numbered line p.part.env k)
  does_numbered (instrument name) p = numbered_then _ _ (numbered_without _ line _ (omega arith)) (λ i. numbered_going _)
  does_numbered (call name) p = numbered_then _ _ (numbered_without _ line _ (omega arith)) (λ m. calls m p)
  does_numbered unknown p = numbered_refused _ 14 line (omega arith)

  run_numbered : (is : List Item) (p : Progress) → Numbered (run book line inner is p)
  unfolding run stepped
  run_numbered [] p = numbered_going p
  run_numbered (i ∷ is) p =
      numbered_then _ _ (numbered_unless _ _ _ _ (omega arith) (does_numbered i (one_step p))) (λ q. run_numbered is q)

inside_numbered : (book : Book) (left caller : ℕ) (m : Macro) (p : Progress) → Numbered (inside book left caller m p)
unfolding inside
inside_numbered book zero caller m p = numbered_refused _ 22 caller (omega arith)
inside_numbered book (suc left) caller m p =
    run_numbered book m.line (inside book left m.line) (inside_numbered book left m.line) (items_of m.body) p

pub body_numbered : (book : Book) (line : ℕ) (body : List ℕ) (p : Progress) → Numbered (body_read book line body p)
unfolding body_read
body_numbered book line body p = run_numbered book line (inside book nesting_most line) (inside_numbered book nesting_most line) (items_of body) p

-- ---- the notes of other parts

abbrev pub Others : ℕ → Progress → Type 0
Others n p = p.others ≡ n

module _ (n : ℕ) (book : Book) (line : ℕ) (inner : Macro → Progress → Outcome Progress)
    (calls : (m : Macro) (p : Progress) → Others n p → Holds (Others n) (inner m p)) where
  does_others : (i : Item) (p : Progress) → Others n p → Holds (Others n) (does book line inner i p)
  unfolding does noted opened cut_here closed changing called
  does_others (note letter a v dot) p g =
      holds_unless _ _ _ _ _ (λ e. holds_unless _ _ _ _ _ (λ f. holds_unless _ _ _ _ _ (λ h. holds_going (Others n) _ g)))
  does_others up p g = holds_going (Others n) _ g
  does_others down p g = holds_going (Others n) _ g
  does_others opening p g = holds_unless _ _ _ _ _ (λ e. holds_going (Others n) _ g)
  does_others cut p g = holds_after _ _ _ (λ x. holds_going (Others n) _ g)
  does_others (closing t) p g = holds_after _ _ _ (λ x. holds_after _ _ _ (λ k. holds_unless _ _ _ _ _ (λ e. holds_going (Others n) _ g)))
  does_others (octave v) p g = holds_after _ _ _ (λ e. holds_going (Others n) _ g)
  does_others (value v) p g = holds_after _ _ _ (λ e. holds_going (Others n) _ g)
  does_others (tempo v) p g = holds_after _ _ _ (λ e. holds_going (Others n) _ g)
  does_others (amplitude a) p g = holds_after _ _ _ (λ e. holds_going (Others n) _ g)
  does_others (key k) p g = holds_after _ _ _ (λ e. holds_going (Others n) _ g)
  does_others (instrument name) p g = holds_after _ _ _ (λ i. holds_going (Others n) _ g)
  does_others (call name) p g = holds_after _ _ _ (λ m. calls m p g)
  does_others unknown p g = holds_refused _ _ _

  stepped_others : (i : Item) (p : Progress) → Others n p → Holds (Others n) (stepped book line inner i p)
  unfolding stepped
  stepped_others i p g = holds_unless _ _ _ _ _ (λ e. does_others i (one_step p) g)

  run_others : (is : List Item) (p : Progress) → Others n p → Holds (Others n) (run book line inner is p)
  unfolding run
  run_others [] p g = holds_going (Others n) _ g
  run_others (i ∷ is) p g = holds_then _ _ (stepped book line inner i p) _ (stepped_others i p g) (λ q h. run_others is q h)

inside_others : (n : ℕ) (book : Book) (left caller : ℕ) (m : Macro) (p : Progress) → Others n p → Holds (Others n) (inside book left caller m p)
unfolding inside
inside_others n book zero caller m p g = holds_refused _ _ _
inside_others n book (suc left) caller m p g =
    run_others n book m.line (inside book left m.line) (inside_others n book left m.line) (items_of m.body) p g

pub body_others : (book : Book) (line : ℕ) (body : List ℕ) (p : Progress) → Holds (Others p.others) (body_read book line body p)
unfolding body_read
body_others book line body p =
    run_others p.others book line (inside book nesting_most line) (inside_others p.others book nesting_most line) (items_of body) p refl
