-- `field` is the number of each name. Assumes nothing.
use Rattle.std.proofs.Common.{rules}
use Rattle.form.specs.Form.{size_field}
use Rattle.form.proofs.size.field.Goals as goal

pub returns-in-Published : goal.returns-in-Published
unfolding size_field
returns-in-Published c = search rules

pub returns-in-Old : goal.returns-in-Old
unfolding size_field
returns-in-Old c = search rules
