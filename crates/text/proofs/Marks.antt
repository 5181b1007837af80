-- Laws of texts between marks.
use mathlib.Core.Path.{◌≡◌, refl, sym, ap, ◌∙◌}
use mathlib.Core.Bool.{Bool, true, false, not}
use mathlib.Core.List.{List, [], ◌∷◌, ◌++◌}
use Prim.Native.Nat.{ℕ}
use lib.Dec.{eqb}
use lib.ListN.{take, drop}
use borrow.Author.Tests.{eq-eqb, eqb-true}
use borrow.Table.Steps.{cases}
use Rattle.scan.specs.Scan.{every, first_index}
use Rattle.scan.proofs.Scan.{and_left, and_right}
use Rattle.text.specs.Marks.{is_mark, parts, rest_parts}

module _ (mark : ℕ) where
  -- the first text, and those after it
  pub parts-split : (xs : List ℕ) → parts mark xs ≡ take (first_index (is_mark mark) xs) xs ∷ rest_parts mark (drop (first_index (is_mark mark) xs) xs)
  parts-split [] = refl
  parts-split (c ∷ cs) = cases (eqb c mark) (λ h. rw h) (λ h. rw (h, parts-split cs))

  abbrev pub is_other : ℕ → Bool
  is_other c = not (is_mark mark c)

  other : (c : ℕ) → is_other c ≡ true → eqb c mark ≡ false
  other c e = go (eqb c mark) e
    where
      go : (b : Bool) → not b ≡ true → b ≡ false
      go true h = sym h
      go false h = refl

  -- a text without the mark, the mark, and what comes after
  pub parts-after : (xs ys : List ℕ) → every is_other xs ≡ true → parts mark (xs ++ (mark ∷ ys)) ≡ xs ∷ parts mark ys
  parts-after [] ys e = rw (eq-eqb mark mark refl)
  parts-after (x ∷ xs) ys e =
      rw (other x (and_left (is_other x) (every is_other xs) e), parts-after xs ys (and_right (is_other x) (every is_other xs) e))

  pub parts-alone : (xs : List ℕ) → every is_other xs ≡ true → parts mark xs ≡ xs ∷ []
  parts-alone [] e = refl
  parts-alone (x ∷ xs) e =
      rw (other x (and_left (is_other x) (every is_other xs) e), parts-alone xs (and_right (is_other x) (every is_other xs) e))

  -- texts with the mark between them
  abbrev pub between : List (List ℕ) → List ℕ
  between [] = []
  between (t ∷ []) = t
  between (t ∷ u ∷ us) = t ++ (mark ∷ between (u ∷ us))

  between_first : (c : ℕ) (t : List ℕ) (ts : List (List ℕ)) → between ((c ∷ t) ∷ ts) ≡ c ∷ between (t ∷ ts)
  between_first c t [] = refl
  between_first c t (u ∷ us) = refl

  -- put together, the parts are the whole
  pub parts_between : (xs : List ℕ) → between (parts mark xs) ≡ xs
  parts_between [] = refl
  parts_between (c ∷ cs) =
      let t = take (first_index (is_mark mark) cs) cs in
      let ts = rest_parts mark (drop (first_index (is_mark mark) cs) cs) in
      let q : between (t ∷ ts) ≡ cs = ap between (sym (parts-split cs)) ∙ parts_between cs in
      cases (eqb c mark)
      (λ h. rw (h, parts-split cs) (rw (eqb-true c mark h) (ap (λ (l : List ℕ). mark ∷ l) q)))
      (λ h. rw (h, parts-split cs) (between_first c t ts ∙ ap (λ (l : List ℕ). c ∷ l) q))
