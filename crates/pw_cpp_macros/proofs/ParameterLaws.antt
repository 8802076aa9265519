-- Steps through a list of parameters.
use Rattle.std.proofs.Common.{◌≡◌, ℕ, ◌-◌, ◌<◌, ◌≤◌, Bool, true, false, List, [], ◌∷◌, length, get_or, take, drop, Option, Some, None, Result, Ok, Err, ◌⊎◌, inl, inr, refl, sym, ap, ◌∙◌, subst, length-drop, take_all, arith}
use Rattle.std.specs.Prelude.{codes, if◌then◌else◌}
use Rattle.pw_token.specs.declared.token.Token.{Token}
use Rattle.pw_cpp_macros.specs.Definitions.{Answers, Parameters, and_then, definition_of, further_parameters, is_spelled, is_word, opens_parameters, parameter_list, with_parameter, with_replacement}
use Rattle.pw_cpp_macros.specs.declared.definition.DefineFault.{DefineFault}
use Rattle.pw_cpp_macros.specs.declared.definition.DefineFault.TheVariants.{Form, NoMemory}
use Rattle.pw_cpp_macros.specs.declared.definition.Definition.{Definition}

-- a `)` closes the list
pub list-closed : (text : List ℕ) (names more : List Token) (name mark : Token) (rest : List Token)
    → with_parameter text names name ≡ Ok more → is_spelled text (codes ")") mark ≡ true → further_parameters text names (name ∷ mark ∷ rest) ≡ Ok (more, rest)
list-closed text names more name mark rest e c = rw (e, c) refl

-- a comma goes on
pub list-more : (text : List ℕ) (names more : List Token) (name mark : Token) (rest : List Token)
    → with_parameter text names name ≡ Ok more → is_spelled text (codes ")") mark ≡ false → is_spelled text (codes ",") mark ≡ true
    → further_parameters text names (name ∷ mark ∷ rest) ≡ further_parameters text more rest
list-more text names more name mark rest e c d = rw (e, c, d) refl

-- any other mark is a fault of form
pub list-broken : (text : List ℕ) (names more : List Token) (name mark : Token) (rest : List Token)
    → with_parameter text names name ≡ Ok more → is_spelled text (codes ")") mark ≡ false → is_spelled text (codes ",") mark ≡ false
    → further_parameters text names (name ∷ mark ∷ rest) ≡ Err Form
list-broken text names more name mark rest e c d = rw (e, c, d) refl

-- and so is the end of the line
pub list-open : (text : List ℕ) (names more : List Token) (name : Token) → with_parameter text names name ≡ Ok more → further_parameters text names (name ∷ []) ≡ Err Form
list-open text names more name e = rw e refl

-- what is wrong with a parameter is wrong with the list
pub list-faulty : (text : List ℕ) (names : List Token) (name : Token) (others : List Token) (fault : DefineFault)
    → with_parameter text names name ≡ Err fault → further_parameters text names (name ∷ others) ≡ Err fault
list-faulty text names name [] fault e = rw e refl
list-faulty text names name (mark ∷ rest) fault e = rw e refl

-- ---- answers that lists lead to

module _ {A : Type 0} (text : List ℕ) (names tokens : List Token) (next : Parameters → Result A DefineFault) where
  -- what the list from some tokens on comes to, behind the names before them
  abbrev pub LeadsFrom : List Token → Type 0
  LeadsFrom left = further_parameters text names left ≡ further_parameters text [] tokens

  form-answer : (left : List Token) → LeadsFrom left → further_parameters text names left ≡ Err Form → Answers (and_then (further_parameters text [] tokens) next) (Err Form)
  form-answer left leads e = inr (ap (λ x. and_then x next) (sym leads ∙ e))

  -- no name
  pub empty-answer : (left : List Token) → LeadsFrom left → length left < 1 → Answers (and_then (further_parameters text [] tokens) next) (Err Form)
  empty-answer [] leads l = form-answer [] leads refl
  empty-answer (first ∷ left) leads l = absurd (omega (arith, l))

  -- a name that may not stand there
  pub fault-answer : (left : List Token) (d : Token) (fault : DefineFault) (r : Result A DefineFault) → r ≡ Err fault → LeadsFrom left → 1 ≤ length left
      → (fault ≡ NoMemory) ⊎ (with_parameter text names (get_or left 0 d) ≡ Err fault) → Answers (and_then (further_parameters text [] tokens) next) r
  fault-answer left d fault r is leads l e =
      let P : Result A DefineFault → Type 0 = λ x. Answers (and_then (further_parameters text [] tokens) next) x in subst P (sym is) (by left leads l e)
    where
      by : (left : List Token) → LeadsFrom left → 1 ≤ length left → (fault ≡ NoMemory) ⊎ (with_parameter text names (get_or left 0 d) ≡ Err fault)
          → Answers (and_then (further_parameters text [] tokens) next) (Err fault)
      by [] leads l e = absurd (omega (arith, l))
      by (first ∷ left) leads l (inl e) = inl e
      by (first ∷ left) leads l (inr e) = inr (ap (λ x. and_then x next) (sym leads ∙ list-faulty text names first left fault e))

  module _ (more : List Token) (d : Token) (left : List Token) (leads : LeadsFrom left) (some : 1 ≤ length left) (added : with_parameter text names (get_or left 0 d) ≡ Ok more)
      (after : List Token) (after_is : after ≡ drop 1 left) where
    -- nothing behind a name
    pub open-answer : length after < 1 → Answers (and_then (further_parameters text [] tokens) next) (Err Form)
    open-answer k = let P : List Token → Type 0 = λ x. length x < 1 in by left leads some (subst P after_is k) added
      where
        by : (left : List Token) → LeadsFrom left → 1 ≤ length left → length (drop 1 left) < 1 → with_parameter text names (get_or left 0 d) ≡ Ok more
            → Answers (and_then (further_parameters text [] tokens) next) (Err Form)
        by [] leads l k e = absurd (omega (arith, l))
        by (first ∷ []) leads l k e = form-answer (first ∷ []) leads (list-open text names more first e)
        by (first ∷ second ∷ left) leads l k e = absurd (omega (arith, k))

    module _ (f : Token) (there : 1 ≤ length after) where
      there_too : 1 ≤ length (drop 1 left)
      there_too = let P : List Token → Type 0 = λ x. 1 ≤ length x in subst P after_is there

      marks : (bytes : List ℕ) (b : Bool) → is_spelled text bytes (get_or after 0 f) ≡ b → is_spelled text bytes (get_or (drop 1 left) 0 f) ≡ b
      marks bytes b e = let P : List Token → Type 0 = λ x. is_spelled text bytes (get_or x 0 f) ≡ b in subst P after_is e

      -- a mark that neither closes nor parts
      pub broken-answer : is_spelled text (codes ")") (get_or after 0 f) ≡ false → is_spelled text (codes ",") (get_or after 0 f) ≡ false
          → Answers (and_then (further_parameters text [] tokens) next) (Err Form)
      broken-answer a b = by left leads some there_too added (marks (codes ")") false a) (marks (codes ",") false b)
        where
          by : (left : List Token) → LeadsFrom left → 1 ≤ length left → 1 ≤ length (drop 1 left) → with_parameter text names (get_or left 0 d) ≡ Ok more
              → is_spelled text (codes ")") (get_or (drop 1 left) 0 f) ≡ false → is_spelled text (codes ",") (get_or (drop 1 left) 0 f) ≡ false
              → Answers (and_then (further_parameters text [] tokens) next) (Err Form)
          by [] leads l k e a b = absurd (omega (arith, l))
          by (first ∷ []) leads l k e a b = absurd (omega (arith, k))
          by (first ∷ mark ∷ left) leads l k e a b = form-answer (first ∷ mark ∷ left) leads (list-broken text names more first mark left e a b)

      module _ (rest : List Token) (rest_is : rest ≡ drop 1 after) where
        rest_there : rest ≡ drop 1 (drop 1 left)
        rest_there = rest_is ∙ ap (drop 1) after_is

        -- a mark that closes
        pub closed-answer : (r : Result A DefineFault) → is_spelled text (codes ")") (get_or after 0 f) ≡ true → Answers (next (more, rest)) r
            → Answers (and_then (further_parameters text [] tokens) next) r
        closed-answer r a h =
            let P : List Token → Type 0 = λ x. Answers (next (more, x)) r in
            by left leads some there_too added (marks (codes ")") true a) (subst P rest_there h)
          where
            by : (left : List Token) → LeadsFrom left → 1 ≤ length left → 1 ≤ length (drop 1 left) → with_parameter text names (get_or left 0 d) ≡ Ok more
                → is_spelled text (codes ")") (get_or (drop 1 left) 0 f) ≡ true → Answers (next (more, drop 1 (drop 1 left))) r
                → Answers (and_then (further_parameters text [] tokens) next) r
            by [] leads l k e a h = absurd (omega (arith, l))
            by (first ∷ []) leads l k e a h = absurd (omega (arith, k))
            by (first ∷ mark ∷ left) leads l k e a h =
                let P : Result Parameters DefineFault → Type 0 = λ x. Answers (and_then x next) r in
                subst P (sym (list-closed text names more first mark left e a) ∙ leads) h

        -- a mark that parts
        pub parts-on : is_spelled text (codes ")") (get_or after 0 f) ≡ false → is_spelled text (codes ",") (get_or after 0 f) ≡ true
            → further_parameters text more rest ≡ further_parameters text [] tokens
        parts-on a b =
            ap (further_parameters text more) rest_there
            ∙ by left leads some there_too added (marks (codes ")") false a) (marks (codes ",") true b)
          where
            by : (left : List Token) → LeadsFrom left → 1 ≤ length left → 1 ≤ length (drop 1 left) → with_parameter text names (get_or left 0 d) ≡ Ok more
                → is_spelled text (codes ")") (get_or (drop 1 left) 0 f) ≡ false → is_spelled text (codes ",") (get_or (drop 1 left) 0 f) ≡ true
                → further_parameters text more (drop 1 (drop 1 left)) ≡ further_parameters text [] tokens
            by [] leads l k e a b = absurd (omega (arith, l))
            by (first ∷ []) leads l k e a b = absurd (omega (arith, k))
            by (first ∷ mark ∷ left) leads l k e a b = sym (list-more text names more first mark left e a b) ∙ leads

-- all but the first, as a slice's pattern has it
pub behind-first : (xs : List Token) → take (length xs - 1) (drop 1 xs) ≡ drop 1 xs
behind-first xs = take_all (length xs - 1) (drop 1 xs) (omega (arith, length-drop 1 xs))

-- ---- the whole definition

module _ (text : List ℕ) (tokens : List Token) (d f : Token) (some : 1 ≤ length tokens) (word : is_word (get_or tokens 0 d) ≡ true) (rest : List Token) (rest_is : rest ≡ drop 1 tokens)
    (there : 1 ≤ length rest) (opens : Bool) (opens_is : (others : List Token) → opens ≡ opens_parameters text (get_or tokens 0 d) (get_or rest 0 f ∷ others)) where
  opens_rest : (xs : List Token) → 1 ≤ length xs → ((others : List Token) → opens ≡ opens_parameters text (get_or tokens 0 d) (get_or xs 0 f ∷ others)) → opens_parameters text (get_or tokens 0 d) xs ≡ opens
  opens_rest [] l h = absurd (omega (arith, l))
  opens_rest (x ∷ xs) l h = sym (h xs)

  -- what the definition is, by its name and what stands behind it
  meaning : (all : List Token) → 1 ≤ length all → is_word (get_or all 0 d) ≡ true
      → definition_of text all
      ≡ (if opens_parameters text (get_or all 0 d) (drop 1 all)
      then and_then (parameter_list text (drop 1 (drop 1 all))) (λ list. with_replacement text (get_or all 0 d) (Some list.0) list.1)
      else with_replacement text (get_or all 0 d) None (drop 1 all))
  meaning [] l w = absurd (omega (arith, l))
  meaning (name ∷ all) l w = rw w refl

  opens_all : opens_parameters text (get_or tokens 0 d) (drop 1 tokens) ≡ opens
  opens_all = ap (opens_parameters text (get_or tokens 0 d)) (sym rest_is) ∙ opens_rest rest there opens_is

  -- it has a list of parameters
  pub listed-answer : opens ≡ true → (behind : List Token) → behind ≡ drop 1 rest → (r : Result Definition DefineFault)
      → Answers (and_then (parameter_list text behind) (λ list. with_replacement text (get_or tokens 0 d) (Some list.0) list.1)) r → Answers (definition_of text tokens) r
  listed-answer o behind behind_is r h =
      let P : List Token → Type 0 = λ x. Answers (and_then (parameter_list text x) (λ list. with_replacement text (get_or tokens 0 d) (Some list.0) list.1)) r in
      let Q : Result Definition DefineFault → Type 0 = λ x. Answers x r in
      subst Q (sym (meaning tokens some word ∙ rw (opens_all ∙ o) refl)) (subst P (behind_is ∙ ap (drop 1) rest_is) h)

  -- or none
  pub plain-answer : opens ≡ false → (r : Result Definition DefineFault) → Answers (with_replacement text (get_or tokens 0 d) None rest) r → Answers (definition_of text tokens) r
  plain-answer o r h =
      let P : List Token → Type 0 = λ x. Answers (with_replacement text (get_or tokens 0 d) None x) r in
      let Q : Result Definition DefineFault → Type 0 = λ x. Answers x r in
      subst Q (sym (meaning tokens some word ∙ rw (opens_all ∙ o) refl)) (subst P rest_is h)
