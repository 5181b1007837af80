-- `writing::filled_page` meets its contract: the current bytes are laid over zeros.
use Rattle.device.specs.Writing.{blank_page}
use Rattle.writing.proofs.filled_page.Goals as goal

pub returns : goal.returns
unfolding blank_page
returns c = c.copy.ensures
