-- `trip_writer::put_window` meets its contract: what was copied into the part is said of the whole.
use mathlib.Core.Path.{ap, ◌∙◌}
use mathlib.Core.List.{List}
use Prim.Native.Nat.{ℕ, ◌-◌}
use native.Mathlib.Omega.{arith}
use lib.ListN.{length, take, drop, length-take}
use Rattle.memory.specs.Bytes.{part, overwrite}
use Rattle.memory.proofs.Bytes.{put_copy, rest-whole}
use Rattle.trip_list.specs.Scanner.{greatest_line}
use Rattle.trip_writer.proofs.put_window.Goals as goal

pub returns : goal.returns
returns c =
    let a = c.args in
    let xs = a.output.now in
    let n = length xs in
    let whole = ap (λ (t : List ℕ). overwrite (part xs a.end (n - a.end)) 0 (take greatest_line t)) (rest-whole a.first a.list.now) in
    put_copy a.end n xs _ (part a.list.now a.first greatest_line) (c.copy_array.ensures ∙ whole) (omega (arith, length-take greatest_line (drop a.first a.list.now))) (omega arith) (omega arith)
