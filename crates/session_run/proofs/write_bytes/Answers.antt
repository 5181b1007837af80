-- `session_run::write_bytes` meets its contract: the bytes are of one value.
use Rattle.std.proofs.Common.{sym, arith}
use Rattle.memory.proofs.Bytes.{length_front}
use Rattle.session_run.specs.Steps.{write_buffer}
use Rattle.session_run.proofs.Steps.{take-write_buffer, length-write_buffer}
use Rattle.session_run.proofs.write_bytes.Goals as goal

pub slice_bounds-write-end : goal.slice_bounds-write-end
slice_bounds-write-end c =
    rw c.write_buffer-bytes.ensures (sym (length_front c.args.count (write_buffer c.args.byte) (omega (arith, length-write_buffer c.args.byte))))

pub returns : goal.returns
returns c =
    rw (c.write_buffer-bytes.ensures, take-write_buffer c.args.count c.args.byte (omega arith)) at
    c.write.ensures
