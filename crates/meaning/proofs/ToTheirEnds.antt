-- Where plain mode accepts, strict mode accepts the same exactly if every token that is read is read to its end: one
-- law for each form of a definition with refusals, and one line for each definition that asks it of a token.
-- `StrictNumbers.antt` has what follows for sheets. Assumes nothing.
use mathlib.Core.Path.{◌≡◌, refl, sym, ap, subst, ◌∙◌}
use mathlib.Core.Bool.{Bool, true, false, ◌||◌, true≢false}
use mathlib.Core.Logic.{◌⊎◌, inl, inr}
use mathlib.Core.List.{List, [], ◌∷◌, ◌++◌}
use mathlib.Core.Option.{Option, none, some}
use Prim.Native.Nat.{ℕ, zero, suc, ◌+◌, ◌≤◌, ◌<◌}
use Prim.Native.String.{String}
use native.Mathlib.Omega.{arith}
use lib.Dec.{eqb}
use lib.ListN.{length, take, drop, length-drop}
use borrow.Author.Tests.{eqb-true}
use Rattle.text.specs.Blanks.{is_blank, is_ink}
use Rattle.text.specs.Characters.{same, row_named}
use Rattle.text.specs.Fronts.{after}
use Rattle.text.specs.Quoted.{bytes}
use Rattle.lines.specs.Lines.{lines_of}
use Rattle.lines.specs.Tokens.{Named, tokens_of, first_token, after_token, named_of}
use Rattle.lines.proofs.Tokens.{tokens_some}
use Rattle.number.specs.Digits.{value_most, int_at}
use Rattle.number.specs.Decimal.{decimal_at}
use Rattle.number.proofs.WholeNumbers.{run_within, decimal_within}
use Rattle.keys.proofs.WholeKeys.{key_within}
use Rattle.sheet.specs.Refusals.{Outcome, going, refused, ◌>>=◌, ◌>>◌, refuse◌on◌unless◌, refuse◌on◌without◌}
use Rattle.sheet.proofs.Outcomes.{then_going}
use Rattle.strict.specs.declared.mode.Mode.{Mode}
use Rattle.strict.specs.declared.mode.Mode.TheVariants.{Plain, Strict}
use Rattle.strict.specs.Strict.{tailed, read_to_its_end}
use Rattle.strict.proofs.Tails.{tailed_plain, tailed_strict, strict_tailed, read_through, read_tail}
use Rattle.environment.specs.declared.environment.Environment.{Environment}
use Rattle.operators.specs.OperatorLines.{operator_lines, indent_of, indented, readable, present}
use Rattle.operators.specs.OperatorLines.{numbers_read, feedback_read, operator_read, operators_read}
use Rattle.directive.specs.Directives.{directives, change_of, directive_of, directive_outcome}
use Rattle.directive.proofs.Rows.{tempo_named, denominator_named, key_named, unnamed}
use Rattle.meaning.specs.ReadTokens.{Reader, decimal, digits, key, stop_at, Token, ReadToItsEnd, all_by}
use Rattle.meaning.specs.ReadTokens.{operator_tokens, instrument_tokens, directive_tokens, line_tokens}
use Rattle.meaning.specs.ReadTokens.{lines_tokens, tokens_read}
use Rattle.meaning.specs.Sheets.{Kind, skipped, header_line, directive_line, macro_line, part_line, kind_of, taken_by}
use Rattle.meaning.specs.Sheets.{Read, nothing_read, header_read, directive_read, line_read, lines_read, sheet_read}
use Rattle.meaning.proofs.Demand3.{Every}

-- ---- exactly where tokens are read to their ends

-- the tokens are read to their ends, and strict mode goes on with x; or they are not, and it does not go on
abbrev pub Decided : {A : Type 0} → List Token → A → Outcome A → Type 0
Decided {A} ts x strict =
    (Every ReadToItsEnd ts × (strict ≡ going x)) ⊎ ((Every ReadToItsEnd ts → ⊥) × ((y : A) → strict ≡ going y → ⊥))

-- that is so of whatever plain mode goes on with
abbrev pub Exactly : {A : Type 0} → List Token → Outcome A → Outcome A → Type 0
Exactly {A} ts strict plain = (x : A) → plain ≡ going x → Decided ts x strict

-- the same of a reading with a mode
abbrev Modes : {A : Type 0} → List Token → (Mode → Outcome A) → Type 0
Modes ts read = Exactly ts (read Strict) (read Plain)

stopped : {A : Type 0} (n l : ℕ) (x : A) → refused n l ≡ going x → ⊥
stopped n l x e = let z : ◌≡◌ {A = ℕ} 0 1 = cc in absurd (omega arith)

stopped_then : {A B : Type 0} (m : Outcome A) (f : A → Outcome B) → ((x : A) → m ≡ going x → ⊥)
    → (y : B) → ◌>>=◌ m f ≡ going y → ⊥
unfolding ◌>>=◌
stopped_then (going x) f h y e = h x refl
stopped_then (refused n l) f h y e = stopped n l y e

pub every_joined : {A : Type 0} (P : A → Type 0) (xs ys : List A) → Every P xs → Every P ys → Every P (xs ++ ys)
every_joined P [] ys p q = q
every_joined P (x ∷ xs) ys p q = (p.0, every_joined P xs ys p.1 q)

every_parted : {A : Type 0} (P : A → Type 0) (xs ys : List A) → Every P (xs ++ ys) → Every P xs × Every P ys
every_parted P [] ys p = (tt, p)
every_parted P (x ∷ xs) ys p = let q = every_parted P xs ys p.1 in ((p.0, q.0), q.1)

-- no token, and no mode
exact_none : {A : Type 0} (m : Outcome A) → Exactly [] m m
exact_none m x e = inl (tt, e)

-- behind a reading or a test that both make
exact_after : {A B : Type 0} (ts : List Token) (m : Outcome A) (f g : A → Outcome B)
    → ((x : A) → Exactly ts (f x) (g x)) → Exactly ts (◌>>=◌ m f) (◌>>=◌ m g)
unfolding ◌>>=◌
exact_after ts (going x) f g k y e = k x y e
exact_after ts (refused n l) f g k y e = absurd (stopped n l y e)

exact_test : {A : Type 0} (ts : List Token) (m : Outcome (Unit {0})) (a b : Outcome A) → Exactly ts a b
    → Exactly ts (◌>>◌ m a) (◌>>◌ m b)
unfolding ◌>>◌
exact_test ts (going x) a b h y e = h y e
exact_test ts (refused n l) a b h y e = absurd (stopped n l y e)

exact_unless : {A : Type 0} (ts : List Token) (n l : ℕ) (t : Bool) (a b : Outcome A) → (t ≡ true → Exactly ts a b)
    → Exactly ts (◌>>◌ (refuse◌on◌unless◌ n l t) a) (◌>>◌ (refuse◌on◌unless◌ n l t) b)
unfolding ◌>>◌ refuse◌on◌unless◌
exact_unless ts n l true a b h y e = h refl y e
exact_unless ts n l false a b h y e = absurd (stopped n l y e)

-- one reading behind another
exact_then : {A B : Type 0} (ts us : List Token) (m n : Outcome A) (f g : A → Outcome B) → Exactly ts m n
    → ((x : A) → Exactly us (f x) (g x)) → Exactly (ts ++ us) (◌>>=◌ m f) (◌>>=◌ n g)
unfolding ◌>>=◌
exact_then ts us m (refused a b) f g h k y e = absurd (stopped a b y e)
exact_then {A} {B} ts us m (going x) f g h k y e = first (h x refl)
  where
    second : Every ReadToItsEnd ts → m ≡ going x → Decided us y (f x) → Decided (ts ++ us) y (◌>>=◌ m f)
    second w s (inl q) = inl (every_joined ReadToItsEnd ts us w q.0, then_going x m f s ∙ q.1)
    second w s (inr q) =
        inr ((λ p. q.0 (every_parted ReadToItsEnd ts us p).1), (λ z r. q.1 z (sym (then_going x m f s) ∙ r)))

    first : Decided ts x m → Decided (ts ++ us) y (◌>>=◌ m f)
    first (inl p) = second p.0 p.1 (k x y e)
    first (inr p) = inr ((λ q. p.0 (every_parted ReadToItsEnd ts us q).0), (λ z r. stopped_then m f p.1 z r))

-- before a reading that both make
exact_last : {A B : Type 0} (ts : List Token) (m n : Outcome A) (f : A → Outcome B) → Exactly ts m n
    → Exactly ts (◌>>=◌ m f) (◌>>=◌ n f)
unfolding ◌>>=◌
exact_last ts m (refused a b) f h y e = absurd (stopped a b y e)
exact_last {A} {B} ts m (going x) f h y e = first (h x refl)
  where
    first : Decided ts x m → Decided ts y (◌>>=◌ m f)
    first (inl p) = inl (p.0, then_going x m f p.1 ∙ e)
    first (inr p) = inr (p.0, (λ z r. stopped_then m f p.1 z r))

-- ---- a token

-- no reader goes past a token's end
stop_within : (reader : Reader) (t : List ℕ) → stop_at reader t ≤ length t
unfolding stop_at
stop_within decimal t = decimal_within t
stop_within digits t = run_within value_most t
stop_within key t = key_within t

passing : {A : Type 0} (m : Outcome (Unit {0})) (a : Outcome A) → m ≡ going tt → ◌>>◌ m a ≡ a
unfolding ◌>>◌
passing m a e = ap (λ (o : Outcome (Unit {0})). ◌>>◌ o a) e

failing : {A : Type 0} (m : Outcome (Unit {0})) (a : Outcome A) (n l : ℕ) → m ≡ refused n l → ◌>>◌ m a ≡ refused n l
unfolding ◌>>◌
failing m a n l e = ap (λ (o : Outcome (Unit {0})). ◌>>◌ o a) e

-- this alone parts the two modes
module _ {A : Type 0} (reader : Reader) (t : List ℕ) (ts : List Token) (line : ℕ) (a b : Outcome A) where
  abbrev stop : ℕ
  stop = stop_at reader t

  abbrev strict : Outcome A
  strict = ◌>>◌ (read_to_its_end Strict line t stop) a

  whole : (y : A) → stop ≡ length t → strict ≡ a → Decided ts y a → Decided ((reader, t) ∷ ts) y strict
  whole y w s (inl p) = inl ((w, p.0), s ∙ p.1)
  whole y w s (inr p) = inr ((λ q. p.0 q.1), (λ z r. p.1 z (sym s ∙ r)))

  exact_token : Exactly ts a b → Exactly ((reader, t) ∷ ts) strict (◌>>◌ (read_to_its_end Plain line t stop) b)
  exact_token h y e = go (tailed Strict stop (length t)) refl
    where
      go : (x : Bool) → tailed Strict stop (length t) ≡ x → Decided ((reader, t) ∷ ts) y strict
      go false r =
          whole y (omega (arith, stop_within reader t, tailed_strict stop (length t) r))
          (passing _ a (read_through Strict line t stop r))
          (h y (sym (passing _ b (read_through Plain line t stop (tailed_plain stop (length t)))) ∙ e))
      go true r =
          inr (
            (λ q. true≢false (sym r ∙ strict_tailed stop (length t) (omega (arith, q.0)))),
            (λ z s. stopped 32 line z (sym (failing _ a 32 line (read_tail Strict line t stop r)) ∙ s)),
          )

-- ---- operator lines

module _ (line : ℕ) where
  numbers_exact : (ts : List (List ℕ)) → Modes (all_by decimal ts) (λ (mode : Mode). numbers_read mode line ts)
  unfolding numbers_read all_by stop_at
  numbers_exact [] = exact_none (going [])
  numbers_exact (t ∷ ts) =
      exact_after (all_by decimal (t ∷ ts)) (readable line (decimal_at t 0)) _ _
      (λ x. exact_token decimal t (all_by decimal ts) line _ _ (exact_last (all_by decimal ts) _ _ _ (numbers_exact ts)))

  -- a feedback and no more
  feedback_exact : (ts : List (List ℕ)) → length ts ≤ 1
      → Modes (all_by digits ts) (λ (mode : Mode). feedback_read mode line ts)
  unfolding feedback_read all_by stop_at
  feedback_exact [] h = exact_none (going 0)
  feedback_exact (t ∷ []) h =
      exact_after ((digits, t) ∷ []) (present line (int_at value_most t 0)) _ _
      (λ v. exact_test ((digits, t) ∷ []) _ _ _ (exact_token digits t [] line _ _ (exact_none (going v))))
  feedback_exact (t ∷ (u ∷ ts)) h = absurd (omega (arith, h))

  seven : (ts : List (List ℕ)) → eqb (length ts) 6 || eqb (length ts) 7 ≡ true → length (drop 6 ts) ≤ 1
  seven ts e = go (eqb (length ts) 6) (eqb (length ts) 7) refl refl e
    where
      go : (a b : Bool) → eqb (length ts) 6 ≡ a → eqb (length ts) 7 ≡ b → a || b ≡ true → length (drop 6 ts) ≤ 1
      go true b p q r = omega (arith, length-drop 6 ts, eqb-true (length ts) 6 p)
      go false true p q r = omega (arith, length-drop 6 ts, eqb-true (length ts) 7 q)
      go false false p q r = let o : ◌≡◌ {A = ℕ} 0 1 = cc in absurd (omega arith)

  operator_exact : (before : Option ℕ) (above : ℕ) (l : List ℕ)
      → Modes (operator_tokens (tokens_of l)) (λ (mode : Mode). operator_read mode line before above l)
  unfolding operator_read operator_tokens
  operator_exact before above l =
      let six = take 6 (tokens_of l) in
      let more = drop 6 (tokens_of l) in
      exact_test (operator_tokens (tokens_of l)) (indented line before (indent_of l)) _ _
      (exact_unless (operator_tokens (tokens_of l)) 17 line _ _ _
      (λ e. exact_then (all_by decimal six) (all_by digits more) _ _ _ _ (numbers_exact six)
      (λ xs. exact_last (all_by digits more) _ _ _ (feedback_exact more (seven (tokens_of l) e)))))

operators_exact : (before : Option ℕ) (line above : ℕ) (ls : List (List ℕ))
    → Modes (instrument_tokens ls) (λ (mode : Mode). operators_read mode before line above ls)
unfolding operators_read instrument_tokens
operators_exact before line above [] = exact_none (going [])
operators_exact before line above (l ∷ ls) =
    exact_then (operator_tokens (tokens_of l)) (instrument_tokens ls) _ _ _ _ (operator_exact line before above l)
    (λ o. exact_last (instrument_tokens ls) _ _ _ (operators_exact (some o.indent) (line + 1) (above + 1) ls))

-- ---- directives

module _ (line : ℕ) (value : List ℕ) where
  tempo_exact : Modes ((digits, value) ∷ []) (λ (mode : Mode). change_of mode line (bytes "#tempo") value)
  unfolding change_of directives row_named same bytes stop_at
  tempo_exact = exact_after ((digits, value) ∷ []) _ _ _ (λ v. exact_token digits value [] line _ _ (exact_none _))

  denominator_exact : Modes ((digits, value) ∷ []) (λ (mode : Mode). change_of mode line (bytes "#denom") value)
  unfolding change_of directives row_named same bytes stop_at
  denominator_exact =
      exact_after ((digits, value) ∷ []) _ _ _ (λ v. exact_token digits value [] line _ _ (exact_none _))

  key_exact : Modes ((key, value) ∷ []) (λ (mode : Mode). change_of mode line (bytes "#key") value)
  unfolding change_of directives row_named same bytes stop_at
  key_exact = exact_after ((key, value) ∷ []) _ _ _ (λ k. exact_token key value [] line _ _ (exact_none _))

  -- the row of a name, or none, in which case plain mode does not go on
  module _ (name : List ℕ) (later : List (List ℕ)) where
    abbrev row : Mode → Outcome (Environment → Environment)
    row mode = change_of mode line name value

    moved : (ts us : List Token) (x y : Outcome (Environment → Environment)) → us ≡ ts → x ≡ row Strict → y ≡ row Plain
        → Exactly us x y → Modes ts row
    moved ts us x y e f g h =
        subst (λ (ks : List Token). Modes ks row) e
        (subst (λ (o : Outcome (Environment → Environment)). Exactly us o (row Plain)) f
        (subst (λ (o : Outcome (Environment → Environment)). Exactly us x o) g h))

    abbrev tokens : List Token
    tokens = directive_tokens (name ∷ value ∷ later)

    abbrev Is : String → Bool → Type 0
    Is word t = same name (bytes word) ≡ t

    tempo_tokens : Is "#tempo" true → (digits, value) ∷ [] ≡ tokens
    unfolding directive_tokens row_named
    tempo_tokens e = rw (e, row_named)

    denominator_tokens : Is "#tempo" false → Is "#denom" true → (digits, value) ∷ [] ≡ tokens
    unfolding directive_tokens row_named
    denominator_tokens e f = rw (e, f, row_named)

    key_tokens : Is "#tempo" false → Is "#denom" false → Is "#key" true → (key, value) ∷ [] ≡ tokens
    unfolding directive_tokens row_named
    key_tokens e f g = rw (e, f, g, row_named)

    third : (t : Bool) → Is "#key" t → Is "#denom" false → Is "#tempo" false → Modes tokens row
    unfolding directive_outcome
    third true e f g y r =
        moved tokens _ _ _ (key_tokens g f e) (key_named Strict name value line g f e)
        (key_named Plain name value line g f e) key_exact y r
    third false e f g y r = absurd (stopped 6 line y (unnamed Plain name value line g f e ∙ r))

    second : (t : Bool) → Is "#denom" t → Is "#tempo" false → Modes tokens row
    second true f g =
        moved tokens _ _ _ (denominator_tokens g f) (denominator_named Strict name value line g f)
        (denominator_named Plain name value line g f) denominator_exact
    second false f g = third (same name (bytes "#key")) refl f g

    first : (t : Bool) → Is "#tempo" t → Modes tokens row
    first true g =
        moved tokens _ _ _ (tempo_tokens g) (tempo_named Strict name value line g) (tempo_named Plain name value line g)
        tempo_exact
    first false g = second (same name (bytes "#denom")) refl g

    change_exact : Modes tokens row
    change_exact = first (same name (bytes "#tempo")) refl

-- a line of two tokens or more begins with its name and the first token of its body
named_tokens : (l : List ℕ) (n : Named) → named_of l ≡ some n
    → (later : List (List ℕ)) × (tokens_of l ≡ n.name ∷ first_token n.body ∷ later)
unfolding named_of first_token after_token after
named_tokens l n e = go (after is_blank (after_token l)) refl e
  where
    -- there is a first token, as something follows it
    begins : (s : List ℕ) → 0 < length (after is_blank (after is_ink s)) → 0 < length s
    begins [] h = h
    begins (b ∷ s) h = omega arith

    go : (s : List ℕ) → after is_blank (after_token l) ≡ s
        → elim s as (λ _. Option Named) [
          | [] ↦ none
          | b ∷ r ↦ some (record { name = first_token l; body = after_token l })
        ] ≡ some n
        → (later : List (List ℕ)) × (tokens_of l ≡ n.name ∷ first_token n.body ∷ later)
    go [] p q = let z : ◌≡◌ {A = ℕ} 0 1 = cc in absurd (omega arith)
    go (b ∷ r) p q =
        let there : 0 < length (after is_blank (after_token l)) = omega (arith, ap length p) in
        let w : record { name = first_token l; body = after_token l } ≡ n = cc in
        let rest = tokens_of (after_token (after_token l)) in
        let two = ap (λ (ts : List (List ℕ)). first_token l ∷ ts) (tokens_some (after_token l) there) in
        let named = ap (λ (m : Named). m.name ∷ first_token m.body ∷ rest) w in
        (rest, tokens_some l (begins (after is_blank l) there) ∙ two ∙ named)

directive_exact : (line : ℕ) (l : List ℕ)
    → Modes (directive_tokens (tokens_of l)) (λ (mode : Mode). directive_of mode line l)
unfolding directive_of refuse◌on◌without◌ ◌>>=◌
directive_exact line l = go (named_of l) refl
  where
    go : (o : Option Named) → named_of l ≡ o
        → Modes (directive_tokens (tokens_of l))
        (λ (mode : Mode).
        ◌>>=◌ (refuse◌on◌without◌ 7 line o) (λ n. change_of mode line n.name (first_token n.body)))
    go none e y r = absurd (stopped 7 line y r)
    go (some n) e y r =
        let value = first_token n.body in
        let p = named_tokens l n e in
        subst (λ (ts : List (List ℕ)). Modes (directive_tokens ts) (λ (mode : Mode). change_of mode line n.name value))
        (sym p.1) (change_exact line value n.name p.0) y r

-- ---- lines

line_exact : (rate : ℕ) (k : Kind) (line : ℕ) (l : List ℕ) (below : List (List ℕ)) (r : Read)
    → Modes (line_tokens k l below) (λ (mode : Mode). line_read mode rate k line l below r)
unfolding line_read header_read directive_read line_tokens
line_exact rate skipped line l below r = exact_none _
line_exact rate header_line line l below r =
    let ls = operator_lines below in
    exact_after (instrument_tokens ls) _ _ _
    (λ n. exact_last (instrument_tokens ls) _ _ _ (operators_exact none (line + 1) 0 ls))
line_exact rate directive_line line l below r = exact_last (directive_tokens (tokens_of l)) _ _ _ (directive_exact line l)
line_exact rate macro_line line l below r = exact_none _
line_exact rate part_line line l below r = exact_none _

lines_exact : (rate k line : ℕ) (ls : List (List ℕ)) (r : Read)
    → Modes (lines_tokens k ls) (λ (mode : Mode). lines_read mode rate k line ls r)
unfolding lines_read lines_tokens
lines_exact rate k line [] r = exact_none (going r)
lines_exact rate (suc k) line (l ∷ ls) r = lines_exact rate k (line + 1) ls r
lines_exact rate zero line (l ∷ ls) r =
    exact_then (line_tokens (kind_of l) l ls) (lines_tokens (taken_by (kind_of l) ls) ls) _ _ _ _
    (line_exact rate (kind_of l) line l ls r)
    (λ q. lines_exact rate (taken_by (kind_of l) ls) (line + 1) ls q)

pub sheet_exact : (rate : ℕ) (source : List ℕ)
    → Exactly (tokens_read source) (sheet_read Strict rate source) (sheet_read Plain rate source)
unfolding sheet_read tokens_read
sheet_exact rate source =
    exact_test (tokens_read source) _ _ _
    (exact_test (tokens_read source) _ _ _
    (exact_last (lines_tokens 0 (lines_of source)) _ _ _ (lines_exact rate 0 1 (lines_of source) nothing_read)))
