-- The refusals by name, each with its number in document 01. Assumes nothing.
use Rattle.std.specs.Prelude.{ℕ, Result, Ok, Err}
use Rattle.sheet.specs.declared.refusal.Refusal.{Refusal}
use Rattle.sheet.specs.declared.refusal.Refusal.TheVariants.{
  SourceTooLong,
  NotAscii,
  InstrumentTaken,
  MacroTaken,
  MacroIncomplete,
  UnknownDirective,
  NoNumber,
  OutOfRange,
  NoAccidental,
  NoOpenLoop,
  NoCount,
  UnknownInstrument,
  UnknownMacro,
  UnknownCharacter,
  FirstIndented,
  IndentedTooFar,
  OperatorTokens,
  Unreadable,
  TooManyDigits,
  FeedbackTooHigh,
  Full,
  NestedTooDeep,
  TooManySteps,
  NoteTooLong,
  NoPart,
  LoopOpen,
  SheetTooLong,
  NoSheet,
  StartPastEnd,
  BufferTooShort,
  Tail,
}
use Rattle.sheet.specs.Refusals.{Outcome, going, refused}

abbrev pub number_of : Refusal → ℕ
number_of SourceTooLong = 1
number_of NotAscii = 2
number_of InstrumentTaken = 3
number_of MacroTaken = 4
number_of MacroIncomplete = 5
number_of UnknownDirective = 6
number_of NoNumber = 7
number_of OutOfRange = 8
number_of NoAccidental = 9
number_of NoOpenLoop = 10
number_of NoCount = 11
number_of UnknownInstrument = 12
number_of UnknownMacro = 13
number_of UnknownCharacter = 14
number_of FirstIndented = 15
number_of IndentedTooFar = 16
number_of OperatorTokens = 17
number_of Unreadable = 18
number_of TooManyDigits = 19
number_of FeedbackTooHigh = 20
number_of Full = 21
number_of NestedTooDeep = 22
number_of TooManySteps = 23
number_of NoteTooLong = 24
number_of NoPart = 25
number_of LoopOpen = 26
number_of SheetTooLong = 27
number_of NoSheet = 28
number_of StartPastEnd = 29
number_of BufferTooShort = 30
number_of Tail = 32

-- what an answer that knows no line stands for on one: its value, or its refusal
abbrev pub outcome_on : {A : Type 0} → ℕ → Result A Refusal → Outcome A
outcome_on line (Ok x) = going x
outcome_on line (Err why) = refused (number_of why) line
