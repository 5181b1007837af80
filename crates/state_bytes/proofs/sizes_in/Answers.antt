-- `state_bytes::sizes_in` meets its contract: a number for each file.
use Prim.Native.Nat.{◌+◌, ◌*◌}
use borrow.Author.Rules.{rules}
use Rattle.media.specs.Geometry.{files}
use Rattle.state_bytes.specs.Encoding.{number_in, sizes_in}
use Rattle.state_bytes.proofs.Encoding.{from_fn_each}
use Rattle.state_bytes.proofs.sizes_in.Goals as goal

pub returns : goal.returns
unfolding sizes_in
returns c =
    let a = c.args in
    from_fn_each _ _ (λ f. number_in a.state.now (a.at + 4 * f)) (λ k y q w. search rules) c.from_fn.result files 0 c.from_fn.ensures.items
