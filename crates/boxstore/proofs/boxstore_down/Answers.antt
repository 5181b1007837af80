-- `boxstore::boxstore_down` meets its contract.
use native.Mathlib.Omega.{arith}
use Rattle.boxstore.proofs.Replies.{down-shape, down-call}
use Rattle.boxstore.proofs.boxstore_down.Goals as goal

pub returns-then-state-ne-STATE_BYTES : goal.returns-then-state-ne-STATE_BYTES
returns-then-state-ne-STATE_BYTES c = down-shape c.args.state.now (λ e. omega arith)

pub returns : goal.returns
returns c = down-call c.args.state.now _ (omega arith) (rw c.down_state.ensures at c.encode.ensures)
