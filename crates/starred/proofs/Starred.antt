-- "The starred sheets are one table, proved by one statement of the definitions": computed on each, they give the answer beside it. Assumes nothing.
use mathlib.Core.Path.{◌≡◌, refl}
use mathlib.Core.List.{List, map}
use lib.Ieee.{round, add, sub, mul, div, lt, of_bits, of_int}
use Rattle.sheet.specs.Refusals.{◌>>=◌, ◌>>◌, refuse◌on◌unless◌, refuse◌on◌if◌, refuse◌on◌without◌}
use Rattle.starred.specs.Sheets.{Question, Told, told, table}

pub starred : map (λ (row : Question × Told). told row.0) table ≡ map (λ (row : Question × Told). row.1) table
unfolding table told ◌>>=◌ ◌>>◌ refuse◌on◌unless◌ refuse◌on◌if◌ refuse◌on◌without◌ round add sub mul div lt of_bits of_int
starred = refl
