use mathlib.Core.Path.{◌∙◌}
use Rattle.state_bytes.proofs.InPlace.{floor_tested}
use Rattle.state_bytes.proofs.floor_at.Goals as goal

pub returns : goal.returns
returns c = c.size_at.ensures ∙ floor_tested c.args.state.now c.args.file
