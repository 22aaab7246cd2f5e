-- `release_of` goes over the lines; the release of those to come, from the largest so far on, is that of all. Assumes nothing.
use Rattle.std.proofs.Common.{◌∙◌, arith}
use Rattle.commands.proofs.Laying.{release_start, release_more, release_end}
use Rattle.commands.proofs.layout.release_of.Goals as goal

pub loop-i-init : goal.loop-i-init
loop-i-init c = λ ss. release_start _ _ ss

pub loop-i-preserved : goal.loop-i-preserved
loop-i-preserved c =
    let l = c.loop-i in λ ss. release_more _ _ _ ss _ _ (omega arith) c.larger-most.ensures ∙ l.invariant ss

pub returns : goal.returns
returns c = λ ss. release_end _ _ _ ss _ (omega arith) ∙ c.loop-i.invariant ss
