-- A refusal's number tells which refusal it is, and what an answer says tells which answer it is: so two answers to the same arguments are the same.
-- Assumes nothing.
use Rattle.std.proofs.Common.{◌≡◌, ℕ, List, [], ◌∷◌, get_or, Result, Ok, Err, refl, sym, ap, ◌∙◌}
use Rattle.sheet.specs.declared.refusal.Refusal.{Refusal}
use Rattle.sheet.specs.declared.refusal.Refusal.TheVariants.{
  SourceTooLong,
  NotAscii,
  InstrumentTaken,
  MacroTaken,
  MacroIncomplete,
  UnknownDirective,
  NoNumber,
  OutOfRange,
  NoAccidental,
  NoOpenLoop,
  NoCount,
  UnknownInstrument,
  UnknownMacro,
  UnknownCharacter,
  FirstIndented,
  IndentedTooFar,
  OperatorTokens,
  Unreadable,
  TooManyDigits,
  FeedbackTooHigh,
  Full,
  NestedTooDeep,
  TooManySteps,
  NoteTooLong,
  NoPart,
  LoopOpen,
  SheetTooLong,
  NoSheet,
  StartPastEnd,
  BufferTooShort,
  Tail,
}
use Rattle.sheet.specs.Numbers.{number_of}
use Rattle.sheet.specs.Answers.{answered}
use Rattle.sheet.proofs.Outcomes.{going_same, refused_same, going_apart}

-- the refusals in the order of their numbers; at 0 and 31, which no refusal has, stands some other
abbrev in_order : List Refusal
in_order =
    SourceTooLong ∷
    SourceTooLong ∷
    NotAscii ∷
    InstrumentTaken ∷
    MacroTaken ∷
    MacroIncomplete ∷
    UnknownDirective ∷
    NoNumber ∷
    OutOfRange ∷
    NoAccidental ∷
    NoOpenLoop ∷
    NoCount ∷
    UnknownInstrument ∷
    UnknownMacro ∷
    UnknownCharacter ∷
    FirstIndented ∷
    IndentedTooFar ∷
    OperatorTokens ∷
    Unreadable ∷
    TooManyDigits ∷
    FeedbackTooHigh ∷
    Full ∷
    NestedTooDeep ∷
    TooManySteps ∷
    NoteTooLong ∷
    NoPart ∷
    LoopOpen ∷
    SheetTooLong ∷
    NoSheet ∷
    StartPastEnd ∷
    BufferTooShort ∷
    Tail ∷
    Tail ∷
    []

at_its_number : (why : Refusal) → get_or in_order (number_of why) SourceTooLong ≡ why
at_its_number SourceTooLong = refl
at_its_number NotAscii = refl
at_its_number InstrumentTaken = refl
at_its_number MacroTaken = refl
at_its_number MacroIncomplete = refl
at_its_number UnknownDirective = refl
at_its_number NoNumber = refl
at_its_number OutOfRange = refl
at_its_number NoAccidental = refl
at_its_number NoOpenLoop = refl
at_its_number NoCount = refl
at_its_number UnknownInstrument = refl
at_its_number UnknownMacro = refl
at_its_number UnknownCharacter = refl
at_its_number FirstIndented = refl
at_its_number IndentedTooFar = refl
at_its_number OperatorTokens = refl
at_its_number Unreadable = refl
at_its_number TooManyDigits = refl
at_its_number FeedbackTooHigh = refl
at_its_number Full = refl
at_its_number NestedTooDeep = refl
at_its_number TooManySteps = refl
at_its_number NoteTooLong = refl
at_its_number NoPart = refl
at_its_number LoopOpen = refl
at_its_number SheetTooLong = refl
at_its_number NoSheet = refl
at_its_number StartPastEnd = refl
at_its_number BufferTooShort = refl
at_its_number Tail = refl

pub number_same : (a b : Refusal) → number_of a ≡ number_of b → a ≡ b
number_same a b e = sym (at_its_number a) ∙ ap (λ (n : ℕ). get_or in_order n SourceTooLong) e ∙ at_its_number b

pub answered_same : (a b : Result ℕ Refusal) → answered a ≡ answered b → a ≡ b
answered_same (Ok m) (Ok n) e = ap Ok (going_same _ _ e)
answered_same (Ok m) (Err w) e = going_apart _ _ _ e
answered_same (Err v) (Ok n) e = going_apart _ _ _ (sym e)
answered_same (Err v) (Err w) e = ap Err (number_same v w (refused_same ℕ _ _ _ _ e).0)
