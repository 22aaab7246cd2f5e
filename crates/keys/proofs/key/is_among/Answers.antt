-- `is_among` asks std for the letter, and `any_among` says that this is the definition. Assumes nothing.
use mathlib.Core.Path.{◌∙◌}
use Rattle.keys.proofs.Letters.{any_among}
use Rattle.keys.proofs.key.is_among.Goals as goal

pub returns : goal.returns
returns c = c.contains.ensures.value ∙ any_among _ _
