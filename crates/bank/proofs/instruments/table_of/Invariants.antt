-- `table_of` puts the instruments into the table from the first on. Assumes nothing.
use Rattle.std.proofs.Common.{◌≡◌, [], take}
use Rattle.sheet.specs.Padding.{padded}
use Rattle.commands.specs.Commands.{instrument_of}
use Rattle.bank.proofs.Tables.{instruments_of_law}
use Rattle.bank.proofs.instruments.table_of.Given as goal

abbrev pub invariant-loop-k : goal.invariant-loop-k
invariant-loop-k l = l.table ≡ padded 32 (instrument_of []) (take l.k (instruments_of_law l.sizes l.numbers l.shape l.k-end))
