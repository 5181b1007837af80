-- `session_line::put` meets its contract: the part of the output is the bytes.
use Rattle.std.proofs.Common.{arith, refl, ap, length, ◌∙◌}
use Rattle.memory.specs.Bytes.{overwrite}
use Rattle.memory.proofs.Bytes.{put_back}
use Rattle.session_line.proofs.put.Goals as goal

pub returns : goal.returns
returns c =
    let e = c.copy_from_slice.ensures.after in
    (put_back c.args.at _ c.args.output.now _ (omega (arith, ap length e)) (omega arith) c.requires ∙ ap (overwrite c.args.output.now c.args.at) e, refl)
