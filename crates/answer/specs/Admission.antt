-- The order of refusals: a call names its tests in order, and is refused by the first that fails.
use Rattle.std.specs.Prelude.{Bool, cond, List, [], ◌∷◌, eqb}
use Rattle.answer.specs.Coded.{Coded}

-- what must hold, and the answer where it does not
pub record Test : Type 0 where
  pub holds : Bool
  pub refusal : Coded

abbrev pub test : Bool → Coded → Test
test b a = record { holds = b; refusal = a }

-- the refusal of the first test that fails, or the given answer where none does
abbrev pub first_refusal : List Test → Coded → Coded
first_refusal [] a = a
first_refusal (t ∷ ts) a = cond t.holds (first_refusal ts a) t.refusal

abbrev pub is_done : Coded → Bool
is_done a = eqb a.number 0

-- x where the answer is done, y where it is a refusal
abbrev pub if_done : {A : Type 0} → Coded → A → A → A
if_done a x y = cond (is_done a) x y
