-- `memory::copy_array` meets its contract: an array is laid over the front.
use lib.ListN.{take}
use Rattle.memory.proofs.Bytes.{length_front, overwrite-front}
use Rattle.memory.proofs.copy_array.Goals as goal

pub returns-in-Some-first_chunk : goal.returns-in-Some-first_chunk
returns-in-Some-first_chunk g c =
    let a = c.args in
    rw c.in-Some-first_chunk.ensures.cases.same (overwrite-front a.dst.now (take g.row.N a.src.now) g.row.N (length_front g.row.N a.src.now c.if-src.true) c.if-dst.true)
