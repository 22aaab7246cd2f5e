-- `default_instrument` reads the default instrument's line as any other. Assumes nothing.
use mathlib.Core.Path.{◌∙◌}
use Rattle.text.specs.Quoted.{bytes}
use Rattle.parser.proofs.Beginning.{default_columns}
use Rattle.parser.proofs.header.default_instrument.Goals as goal

pub returns-clause-lines : goal.returns-clause-lines
unfolding bytes
returns-clause-lines c =
    (default_columns _ c.args.numbers.now c.args.shape.now _ _ c.requires.0 c.requires.1 (c.kept.auto.numbers ∙ c.requires.0) (c.kept.auto.shape ∙ c.requires.1) c.kept.ensures).0

pub returns-clause-releases : goal.returns-clause-releases
unfolding bytes
returns-clause-releases c =
    (default_columns _ c.args.numbers.now c.args.shape.now _ _ c.requires.0 c.requires.1 (c.kept.auto.numbers ∙ c.requires.0) (c.kept.auto.shape ∙ c.requires.1) c.kept.ensures).1
