-- The session of document 01, "The session program".
use Rattle.std.specs.Prelude.{◌≡◌}
use Rattle.media.specs.Geometry.{pages_per_file}
use Rattle.text.specs.Ascii.{ascii}
use Rattle.session_run.specs.Session.{output}

abbrev pub Example : Type 0
Example =
    output pages_per_file (ascii "M,0\nW,1,0,300,65\nR,1,254,4\nS,1,2\nM,1\nR,1,0,4\nT,8,0\n")
    ≡ ascii "answer,count,bytes\n0,0,\n0,300,\n0,4,41414141\n9,2,\n0,1,\n0,0,\n6,0,\n"
