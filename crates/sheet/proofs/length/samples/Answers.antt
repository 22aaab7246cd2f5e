-- `samples` is the definition's four cases, and no number of samples is over the limit. Assumes nothing.
use Rattle.std.proofs.Common.{◌∙◌, sym, ap, arith}
use Rattle.tone.proofs.Lengths.{length_most}
use Rattle.sheet.specs.Lengths.{samples_of}
use Rattle.sheet.proofs.length.samples.Goals as goal

pub returns-in-Ok : goal.returns-in-Ok
unfolding samples_of
returns-in-Ok c =
    let e = sym c.sec_to_len.ensures ∙ c.in-Ok.is in
    (sym (ap samples_of e), length_most _ _ _ e)

pub returns-in-Err-NotANumber : goal.returns-in-Err-NotANumber
unfolding samples_of
returns-in-Err-NotANumber c = (sym (ap samples_of (sym c.sec_to_len.ensures ∙ c.in-Err-NotANumber.is)), omega arith)

pub returns-in-Err-Negative : goal.returns-in-Err-Negative
unfolding samples_of
returns-in-Err-Negative c = (sym (ap samples_of (sym c.sec_to_len.ensures ∙ c.in-Err-Negative.is)), omega arith)

pub returns-in-Err-TooMany : goal.returns-in-Err-TooMany
unfolding samples_of
returns-in-Err-TooMany c = (sym (ap samples_of (sym c.sec_to_len.ensures ∙ c.in-Err-TooMany.is)), omega arith)
