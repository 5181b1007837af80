use mathlib.Core.Path.{◌∙◌}
use Rattle.state_bytes.proofs.InPlace.{logical_tested}
use Rattle.state_bytes.proofs.logical_at.Goals as goal

pub returns : goal.returns
returns c = c.size_at.ensures ∙ logical_tested c.args.state.now c.args.file
