-- Laws of the grammar: numbers, fields one by one, and the form of a letter.
use Rattle.std.proofs.Common.{◌≡◌, refl, sym, ap, subst, ◌∙◌, ◌≢◌, ℕ, zero, suc, ◌+◌, ◌-◌, ◌^◌, ◌<◌, ◌≤◌, ◌⊎◌, Bool, true, false, cond, List, [], ◌∷◌, ◌++◌, map, append-nil, append_assoc, Option, None, Some, MatchOption, arith, add-one, length, get_or, set, take, drop, eqb, leb, drop-cons}
use mathlib.Core.Logic.{⊎_elim}
use lib.ListN.{drop_of_length-le}
use lib.Seq.{take_all, take-suc-set}
use native.Mathlib.Nat.{not-suc-le-zero, le_of_suc-le-suc}
use borrow.Author.Tests.{ne_eqb, le-leb, lt-leb}
use borrow.Table.Steps.{cases}
use denote.Param.Members.{Mut}
use denote.Ref.{Bor}
use Rattle.std.specs.Bool.{then_some, MatchBool}
use Rattle.std.specs.Fn.{CalledAt}
use Rattle.std.specs.Option.{is_some}
use mathlib.Core.Bool.{not, false≢true}
use Rattle.std.specs.List.{slice_split, onto_first, All, IsFirstMatchOrLen}
use Rattle.std.specs.Slice.Iter.{split_rest, split_done, split_callee, split_steps}
use Rattle.std.specs.declared.slice.Split.{Split}
use Rattle.std.proofs.lemmas.Fn.{always_returns_same}
use Rattle.std.proofs.lemmas.Grind.{common_steps}
use Rattle.std.proofs.lemmas.List.Splits.{slice_split_none, slice_split_at}
use Rattle.memory.proofs.Bytes.{rest-whole}
use Rattle.memory.proofs.Cases.{split_eq}
use Rattle.scan.specs.Scan.{every}
use Rattle.scan.proofs.Scan.{and_left, and_right}
use Rattle.text.specs.Decimal.{is_digit, value_from, value}
use Rattle.text.specs.Marks.{comma, parts, fields, in_first}
use Rattle.text.proofs.Decimal.{too_short, too_long, no_digits, by_value, numeral}
use Rattle.text.proofs.Marks.{parts-split}
use Rattle.session_line.specs.Grammar.{is_number, Form, forms, numbers_fit, Command, command, malformed, by_forms, greatest_line, parse, F, M, W, T, S, R}
use Rattle.session_line.specs.Parser.{is_comma, number, numbers}

-- ---- numbers

-- i digits are read, and have value n
pub record DigitsTo (text : List ℕ) (i n : ℕ) : Type 0 where
  pub digits : every is_digit text ≡ every is_digit (drop i text)
  pub so_far : value_from n (drop i text) ≡ value text
  pub bound : n < 10 ^ i

module _ (limit : ℕ) (text : List ℕ) where
  pub number_is : (b : Bool) → is_number limit text ≡ b → then_some b (value text) ≡ number limit text
  unfolding number
  number_is b e = rw e

  -- a text of another length is none
  pub no_length : (length text ≡ 0) ⊎ (5 < length text) → None ≡ number limit text
  no_length =
      ⊎_elim
      (λ h. number_is false (too_short 5 limit text (omega (arith, h))))
      (λ h. number_is false (too_long 5 limit text (omega arith) h))

  module _ (some : 0 < length text) (few : length text ≤ 5) (i n : ℕ) (s : DigitsTo text i n) where
    -- a byte is no digit
    pub not_digit : i < length text → is_digit (get_or text i 0) ≡ false → None ≡ number limit text
    not_digit h e = number_is false (no_digits 5 limit text (omega arith) few (s.digits ∙ rw (drop-cons text i 0 h, e)))

    pub all_read : length text ≤ i → then_some (leb n limit) n ≡ number limit text
    all_read h =
        let end : drop i text ≡ [] = drop_of_length-le text h in
        let digits : every is_digit text ≡ true = rw end at s.digits in
        let read : n ≡ value text = rw end at s.so_far in
        rw read (number_is (leb (value text) limit) (by_value 5 limit text (omega arith) few digits))

-- ---- fields

parts-slice_split : (text : List ℕ) → parts comma text ≡ slice_split is_comma text
parts-slice_split [] = refl
parts-slice_split (c ∷ cs) = rw (parts-slice_split cs) (go c (slice_split is_comma cs))
  where
    go : (c : ℕ) (ts : List (List ℕ)) → cond (is_comma c) ([] ∷ ts) (in_first c ts) ≡ cond (is_comma c) ([] ∷ ts) (onto_first c ts)
    go c [] = refl
    go c (t ∷ ts) = refl

-- the fields that a split has left
abbrev pub left : {F : Type 0} → Split ℕ F → List (List ℕ)
left s = cond (split_done s) [] (fields (split_rest s))

first_part : (text x rest : List ℕ) (done : Bool) → MatchBool done (text ≡ x) ((y : ℕ) × (text ≡ x ++ (y ∷ rest))) → IsFirstMatchOrLen is_comma text (length x)
    → fields text ≡ x ∷ cond done [] (fields rest)
first_part text x rest true e h =
    parts-slice_split text ∙ ap (slice_split is_comma) e ∙ slice_split_none is_comma x (λ k d l. subst (λ ys. is_comma (get_or ys k d) ≡ false) e (h.0 k d (omega arith) l))
first_part text x rest false e h =
    let front : All (λ z. is_comma z ≡ false) x = λ k d l. let a = h.0 k d (omega arith) l in let b = e.1 in grind (arith, common_steps) in
    let hit : is_comma e.0 ≡ true = let b = e.1 in let a = h.1 (grind (arith, common_steps)) e.0 in grind (arith, common_steps) in
    parts-slice_split text ∙ ap (slice_split is_comma) e.1 ∙ slice_split_at is_comma x e.0 rest front hit ∙ ap (λ ts. x ∷ ts) (sym (parts-slice_split rest))

module _ {F : Type 0} (g : Mut F (Bor ℕ × Unit {0}) Bool) (s t : Split ℕ F) where
  pub next_field : (r : Option (Bor (List ℕ))) → split_steps g s r t
      → ((x : ℕ) (b : Bool) (q : F) → CalledAt g (split_callee s) x b q → (q ≡ split_callee s) × (b ≡ is_comma x))
      → MatchOption r (left s ≡ []) (λ x. left s ≡ x.now ∷ left t)
  next_field None k tests = rw k.0
  next_field (Some x) k tests =
      let finds = k.2 is_comma (always_returns_same g (λ a r. r ≡ is_comma a.0.now) (split_callee s) (λ a r q h. let m = tests a.0.now r q (record { shown = a.0; shows = refl; called = h }) in (m.1, m.0))) in
      rw k.0 (first_part (split_rest s) x.now (split_rest t) (split_done t) k.1 finds.1)

number_none : (limit : ℕ) (text : List ℕ) → number limit text ≡ None → is_number limit text ≡ false
unfolding number
number_none limit text e = cases (is_number limit text) (λ q. let r = rw q at e in cc) (λ q. q)

number_some : (limit : ℕ) (text : List ℕ) (v : ℕ) → number limit text ≡ Some v → (is_number limit text ≡ true) × (v ≡ value text)
unfolding number
number_some limit text v e = cases (is_number limit text) (λ q. let r = rw q at e in (q, cc)) (λ q. let r = rw q at e in cc)

-- i numbers are read, and these fields are left
pub record Parsing (limits : List ℕ) (ts : List (List ℕ)) (values : List ℕ) (i : ℕ) (left : List (List ℕ)) : Type 0 where
  pub fits : numbers_fit limits ts ≡ numbers_fit (drop i limits) left
  pub read : map value ts ≡ take i values ++ map value left

module _ (limits : List ℕ) (ts : List (List ℕ)) (values : List ℕ) where
  pub parsing_none : Parsing limits ts values 0 ts
  parsing_none = record { fits = refl; read = refl }

  unfit : numbers_fit limits ts ≡ false → None ≡ numbers limits ts
  unfolding numbers
  unfit e = rw e

  module _ (i : ℕ) (left : List (List ℕ)) (p : Parsing limits ts values i left) where
    module _ (h : i < length limits) where
      -- the fields end before the limits do
      pub parsing_short : left ≡ [] → None ≡ numbers limits ts
      parsing_short e = unfit (p.fits ∙ rw (drop-cons limits i 0 h, e))

      module _ (t : List ℕ) (more : List (List ℕ)) (e : left ≡ t ∷ more) where
        -- a field is no such number
        pub parsing_stop : number (get_or limits i 0) t ≡ None → None ≡ numbers limits ts
        parsing_stop n = unfit (p.fits ∙ rw (drop-cons limits i 0 h, e, number_none _ _ n))

        pub parsing_next : (v : ℕ) → number (get_or limits i 0) t ≡ Some v → i < length values → Parsing limits ts (set values i v) (i + 1) more
        parsing_next v n l =
            let s = number_some _ _ _ n in
            rw add-one (record {
              fits = p.fits ∙ rw (drop-cons limits i 0 h, e, s.0);
              read = p.read ∙ rw (e, take-suc-set values i v l, s.1) (sym (append_assoc (take i values) (value t ∷ []) _));
            })

    -- all limits have their number: they fit exactly where no field is left
    pub parsing_end : (more : List (List ℕ)) (r : Option (Bor (List ℕ))) (none : Bool) → MatchOption r (left ≡ []) (λ x. left ≡ x.now ∷ more) → is_some r ≡ not none
        → length limits ≤ i → length values ≡ length limits → then_some none values ≡ numbers limits ts
    unfolding numbers
    parsing_end more None true e n h l =
        rw (p.fits, drop_of_length-le limits h, e) (ap Some (sym (p.read ∙ rw (e, append-nil, take_all i values (omega arith)))))
    parsing_end more None false e n h l = absurd (false≢true n)
    parsing_end more (Some x) true e n h l = absurd (false≢true (sym n))
    parsing_end more (Some x) false e n h l = rw (p.fits, drop_of_length-le limits h, e)

-- the values of fields that fit
module _ (limits : List ℕ) (ts : List (List ℕ)) (values : List ℕ) (e : Some values ≡ numbers limits ts) where
  pub numbers-fit : (numbers_fit limits ts ≡ true) × (map value ts ≡ values)
  unfolding numbers
  numbers-fit = cases (numbers_fit limits ts) (λ q. let r = rw q at e in (q, cc)) (λ q. let r = rw q at e in cc)

  pub numbers-within : (k : ℕ) → k < length limits → get_or values k 0 ≤ get_or limits k 0
  numbers-within k h = rw numbers-fit.1 at (go limits ts numbers-fit.0 k h)
    where
      go : (limits : List ℕ) (ts : List (List ℕ)) → numbers_fit limits ts ≡ true → (k : ℕ) → k < length limits → get_or (map value ts) k 0 ≤ get_or limits k 0
      go [] ts e k h = absurd (not-suc-le-zero h)
      go (l ∷ ls) [] e k h = absurd (false≢true e)
      go (l ∷ ls) (t ∷ ts) e zero h = (numeral 5 l t (and_left (is_number l t) (numbers_fit ls ts) e)).small
      go (l ∷ ls) (t ∷ ts) e (suc k) h = go ls ts (and_right (is_number l t) (numbers_fit ls ts) e) k (le_of_suc-le-suc h)

  pub length-numbers : length values ≡ length limits
  length-numbers = sym (ap length numbers-fit.1) ∙ go limits ts numbers-fit.0
    where
      go : (limits : List ℕ) (ts : List (List ℕ)) → numbers_fit limits ts ≡ true → length (map value ts) ≡ length limits
      go [] [] e = refl
      go [] (t ∷ ts) e = absurd (false≢true e)
      go (l ∷ ls) [] e = absurd (false≢true e)
      go (l ∷ ls) (t ∷ ts) e = ap suc (go ls ts (and_right (is_number l t) (numbers_fit ls ts) e))

-- so many values, one by one
abbrev pub each : List ℕ → ℕ → ℕ → List ℕ
each values i zero = []
each values i (suc n) = get_or values i 0 ∷ each values (suc i) n

each_from : (values : List ℕ) (i n : ℕ) → i + n ≡ length values → each values i n ≡ drop i values
each_from values i zero h = sym (drop_of_length-le values (omega arith))
each_from values i (suc n) h = rw (each_from values (suc i) n (omega arith), drop-cons values i 0 (omega arith))

each_all : (values : List ℕ) (n : ℕ) → length values ≡ n → each values 0 n ≡ values
each_all values n h = each_from values 0 n (omega (arith, h))

-- ---- a line

-- the limits of the form with this letter; none where there is no such form
abbrev pub limits_in : List Form → ℕ → List ℕ
limits_in [] letter = []
limits_in (f ∷ more) letter = cond (eqb letter f.letter) f.limits (limits_in more letter)

unfoldable pub limits_of : ℕ → List ℕ
limits_of letter = limits_in forms letter

pub no_form : (letter : ℕ) → letter ≢ F → letter ≢ M → letter ≢ W → letter ≢ T → letter ≢ S → letter ≢ R → limits_of letter ≡ []
unfolding forms limits_of
no_form letter f m w t s r = rw (ne_eqb _ _ f, ne_eqb _ _ m, ne_eqb _ _ w, ne_eqb _ _ t, ne_eqb _ _ s, ne_eqb _ _ r)

-- the command of a letter whose form has these limits
by_limits : ℕ → List ℕ → List (List ℕ) → Command
by_limits letter [] ts = malformed
by_limits letter (limit ∷ limits) ts = cond (numbers_fit (limit ∷ limits) ts) (command letter (map value ts)) malformed

-- no two forms have one letter
by_letter : (letter : ℕ) (ts : List (List ℕ)) → by_forms forms ((letter ∷ []) ∷ ts) ≡ by_limits letter (limits_of letter) ts
unfolding forms limits_of by_limits
by_letter letter ts =
    split_eq letter F (λ q. rw q)
    (λ f. split_eq letter M (λ q. rw q)
    (λ m. split_eq letter W (λ q. rw q)
    (λ w. split_eq letter T (λ q. rw q)
    (λ t. split_eq letter S (λ q. rw q)
    (λ s. split_eq letter R (λ q. rw q)
    (λ r. rw (ne_eqb _ _ f, ne_eqb _ _ m, ne_eqb _ _ w, ne_eqb _ _ t, ne_eqb _ _ s, ne_eqb _ _ r)))))))

no_letter : (t : List ℕ) (ts : List (List ℕ)) → length t ≢ 1 → (fs : List Form) → by_forms fs (t ∷ ts) ≡ malformed
no_letter t ts n [] = refl
no_letter [] ts n (f ∷ fs) = no_letter [] ts n fs
no_letter (c ∷ []) ts n (f ∷ fs) = absurd (n refl)
no_letter (c ∷ d ∷ ds) ts n (f ∷ fs) = no_letter (c ∷ d ∷ ds) ts n fs

-- each form has a number
no_numbers : (letter : ℕ) → by_forms forms ((letter ∷ []) ∷ []) ≡ malformed
unfolding by_limits
no_numbers letter = by_letter letter [] ∙ go (limits_of letter)
  where
    go : (limits : List ℕ) → by_limits letter limits [] ≡ malformed
    go [] = refl
    go (l ∷ ls) = refl

by_fields : (letter : ℕ) (rest : List ℕ) → by_forms forms (fields (letter ∷ comma ∷ rest)) ≡ by_limits letter (limits_of letter) (fields rest)
unfolding limits_of forms by_limits
by_fields letter rest =
    split_eq letter comma
    (λ q. rw q)
    (λ n. rw (ne_eqb _ _ n) (by_letter letter (fields rest)))

by_alone : (letter other : ℕ) (rest : List ℕ) → other ≢ comma → by_forms forms (fields (letter ∷ other ∷ rest)) ≡ malformed
by_alone letter other rest n =
    split_eq letter comma
    (λ q. rw q (no_letter [] _ (λ e. absurd (omega (arith, e))) forms))
    (λ m. rw (ne_eqb _ _ m, ne_eqb _ _ n, parts-split comma rest) (no_letter (letter ∷ other ∷ _) _ (λ e. absurd (omega (arith, e))) forms))

module _ (line : List ℕ) where
  pub parse-long : greatest_line < length line → malformed ≡ parse line
  unfolding parse
  parse-long h = rw (lt-leb _ _ h)

  module _ (short : length line ≤ greatest_line) where
    by_forms_of : parse line ≡ by_forms forms (fields line)
    unfolding parse
    by_forms_of = rw (le-leb _ _ short)

    pub parse-short : length line < 2 → malformed ≡ parse line
    parse-short h = sym (by_forms_of ∙ go line h)
      where
        go : (line : List ℕ) → length line < 2 → by_forms forms (fields line) ≡ malformed
        go [] h = no_letter [] [] (λ e. absurd (omega (arith, e))) forms
        go (c ∷ []) h = split_eq c comma (λ q. rw q (no_letter [] _ (λ e. absurd (omega (arith, e))) forms)) (λ n. rw (ne_eqb _ _ n) (no_numbers c))
        go (c ∷ d ∷ ds) h = absurd (omega arith)

    module _ (two : 2 ≤ length line) where
      by_two : line ≡ get_or line 0 0 ∷ get_or line 1 0 ∷ drop 2 line
      by_two = drop-cons line 0 0 (omega arith) ∙ ap (λ l. get_or line 0 0 ∷ l) (drop-cons line 1 0 (omega arith))

      -- a letter, and no comma after it
      pub parse_alone : get_or line 1 0 ≢ comma → malformed ≡ parse line
      parse_alone n = sym (by_forms_of ∙ ap (λ l. by_forms forms (fields l)) by_two ∙ by_alone (get_or line 0 0) (get_or line 1 0) (drop 2 line) n)

      module _ (mark : get_or line 1 0 ≡ comma) where
        by_rest : parse line ≡ by_limits (get_or line 0 0) (limits_of (get_or line 0 0)) (fields (take (length line - 2) (drop 2 line)))
        by_rest =
            by_forms_of ∙ ap (λ l. by_forms forms (fields l)) (by_two ∙ ap (λ c. get_or line 0 0 ∷ c ∷ drop 2 line) mark) ∙ rw (rest-whole 2 line)
            (by_fields (get_or line 0 0) (drop 2 line))

        -- a letter of no form
        pub parse_no_letter : limits_of (get_or line 0 0) ≡ [] → malformed ≡ parse line
        unfolding by_limits
        parse_no_letter e = sym (rw e at by_rest)

        module _ (letter : ℕ) (is : get_or line 0 0 ≡ letter) where
          by : parse line ≡ by_limits letter (limits_of letter) (fields (take (length line - 2) (drop 2 line)))
          by = rw is at by_rest

          -- its fields are no such numbers
          pub parse_unfit : None ≡ numbers (limits_of letter) (fields (take (length line - 2) (drop 2 line))) → malformed ≡ parse line
          unfolding by_limits numbers
          parse_unfit e = sym (by ∙ go (limits_of letter) e)
            where
              go : (limits : List ℕ) → None ≡ numbers limits (fields (take (length line - 2) (drop 2 line)))
                  → by_limits letter limits (fields (take (length line - 2) (drop 2 line))) ≡ malformed
              go [] e = refl
              go (l ∷ ls) e = cases (numbers_fit (l ∷ ls) (fields (take (length line - 2) (drop 2 line)))) (λ q. let r = rw q at e in cc) (λ q. rw q)

          pub parse-fit : (values : List ℕ) → Some values ≡ numbers (limits_of letter) (fields (take (length line - 2) (drop 2 line)))
              → command letter (each values 0 (length (limits_of letter))) ≡ parse line
          unfolding by_limits
          parse-fit values e =
              sym (by ∙ go (limits_of letter) e ∙ ap (command letter) (sym (each_all values (length (limits_of letter)) (length-numbers _ _ _ e))))
            where
              go : (limits : List ℕ) → Some values ≡ numbers limits (fields (take (length line - 2) (drop 2 line)))
                  → by_limits letter limits (fields (take (length line - 2) (drop 2 line))) ≡ command letter values
              go [] e = absurd (false≢true (rw (parts-split comma (take (length line - 2) (drop 2 line))) at (numbers-fit _ _ _ e).0))
              go (l ∷ ls) e = let f = numbers-fit _ _ _ e in rw (f.0, f.1)
