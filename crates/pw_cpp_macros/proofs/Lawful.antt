-- Parameters that a definition has are words, apart, and not too many.
use Rattle.std.proofs.Common.{◌≡◌, ℕ, ◌+◌, ◌≤◌, Bool, true, false, not, ◌||◌, List, [], ◌∷◌, ◌++◌, length, Option, Some, None, IfSome, Result, Ok, Err, refl, sym, ap, ◌∙◌, subst, length-append, arith}
use Rattle.std.proofs.lemmas.Bool.{false≢true, leb-false}
use Rattle.std.specs.Cmp.Lexicographic.{nat_list_eq_equiv}
use Rattle.std.specs.List.{list_any}
use Rattle.std.specs.Prelude.{bytes_eq, codes, drop, nat_le, if◌then◌else◌}
use Rattle.pw_token.specs.Roles.{spelling}
use Rattle.pw_token.specs.declared.token.Token.{Token}
use Rattle.pw_cpp_macros.specs.Definitions.{AreApart, AreParameters, AreWords, Parameters, and_then, definition_of, further_parameters, is_among, is_hash, is_spelled, is_word, opens_parameters, parameter_list, with_parameter, with_replacement}
use Rattle.pw_cpp_macros.specs.Limits.{parameter_limit}
use Rattle.pw_cpp_macros.specs.declared.definition.DefineFault.{DefineFault}
use Rattle.pw_cpp_macros.specs.declared.definition.DefineFault.TheVariants.{Form}
use Rattle.pw_cpp_macros.specs.declared.definition.Definition.{Definition}

abbrev okay : {A : Type 0} → A → Result A DefineFault
okay a = Ok a

err_ok : {A : Type 0} (f : DefineFault) (a : A) → Err f ≡ Ok a → ⊥
err_ok f a e = cc

ok_same : {A : Type 0} (a b : A) → (okay a ≡ okay b) → a ≡ b
ok_same a b e = cc

-- what an if-chain of faults lets through
passed : {A : Type 0} (b : Bool) (f : DefineFault) (r : Result A DefineFault) (a : A) → (if b then Err f else r) ≡ Ok a → (b ≡ false) × (r ≡ Ok a)
passed true f r a e = absurd (err_ok f a e)
passed false f r a e = (refl, e)

not_false : (b : Bool) → not b ≡ false → b ≡ true
not_false true e = refl
not_false false e = absurd (false≢true (sym e))

or_false : (a b : Bool) → (a || b) ≡ false → (a ≡ false) × (b ≡ false)
or_false true b e = absurd (false≢true (sym e))
or_false false b e = (refl, e)

none_among : (p : Token → Bool) (names : List Token) (t : Token) → list_any p names ≡ false → p t ≡ false → list_any p (names ++ t ∷ []) ≡ false
none_among p [] t h e = rw e refl
none_among p (n ∷ names) t h e = let s = or_false (p n) (list_any p names) h in rw s.0 (none_among p names t s.1 e)

words_more : (names : List Token) (t : Token) → AreWords names → is_word t ≡ true → AreWords (names ++ t ∷ [])
words_more [] t h e = (e, tt)
words_more (n ∷ names) t h e = (h.0, words_more names t h.1 e)

apart_more : (text : List ℕ) (names : List Token) (t : Token) → AreApart text names → is_among text names t ≡ false → AreApart text (names ++ t ∷ [])
apart_more text [] t h e = (refl, tt)
apart_more text (n ∷ names) t h e =
    let s = or_false (is_spelled text (spelling text t) n) (is_among text names t) e in
    let other : is_spelled text (spelling text n) t ≡ false = nat_list_eq_equiv.symm (spelling text t) (spelling text n) ∙ s.0 in
    (none_among (is_spelled text (spelling text n)) names t h.0 other, apart_more text names t h.1 s.1)

one_more : (text : List ℕ) (names more : List Token) (t : Token) → AreParameters text names → with_parameter text names t ≡ Ok more → AreParameters text more
one_more text names more t h e =
    let a = passed (not (is_word t)) _ _ more e in
    let b = passed (is_among text names t) _ _ more a.1 in
    let c = passed (nat_le parameter_limit (length names)) _ _ more b.1 in
    let P : List Token → Type 0 = λ x. AreParameters text x in
    subst P (ok_same (names ++ t ∷ []) more c.1) (
      words_more names t h.0 (not_false (is_word t) a.0),
      apart_more text names t h.1 b.0,
      omega (arith, length-append names (t ∷ []), leb-false parameter_limit (length names) c.0),
    )

in_list : (text : List ℕ) (tokens names : List Token) (found : Parameters) → AreParameters text names → further_parameters text names tokens ≡ Ok found → AreParameters text found.0
in_list text [] names found h e = absurd (err_ok Form found e)
in_list text (t ∷ []) names found h e = by (with_parameter text names t) e
  where
    by : (r : Result (List Token) DefineFault) → and_then r (λ parameters. Err Form) ≡ Ok found → AreParameters text found.0
    by (Ok more) e = absurd (err_ok Form found e)
    by (Err f) e = absurd (err_ok f found e)
in_list text (t ∷ mark ∷ rest) names found h e = by (with_parameter text names t) refl e (λ more k. in_list text rest more found k)
  where
    closed : (more : List Token) → AreParameters text more → (a b : Bool) → (next : AreParameters text more → further_parameters text more rest ≡ Ok found → AreParameters text found.0)
        → (if a then Ok (more, rest) else (if b then further_parameters text more rest else Err Form)) ≡ Ok found → AreParameters text found.0
    closed more k true b next e = let P : Parameters → Type 0 = λ x. AreParameters text x.0 in subst P (ok_same (more, rest) found e) k
    closed more k false true next e = next k e
    closed more k false false next e = absurd (err_ok Form found e)

    by : (r : Result (List Token) DefineFault) → with_parameter text names t ≡ r
        → and_then r (λ parameters. if is_spelled text (codes ")") mark then Ok (parameters, rest) else (if is_spelled text (codes ",") mark then further_parameters text parameters rest else Err Form)) ≡ Ok found
        → ((more : List Token) → AreParameters text more → further_parameters text more rest ≡ Ok found → AreParameters text found.0) → AreParameters text found.0
    by (Ok more) w e next = closed more (one_more text names more t h w) (is_spelled text (codes ")") mark) (is_spelled text (codes ",") mark) (next more) e
    by (Err f) w e next = absurd (err_ok f found e)

-- ---- definitions

meant : (text : List ℕ) (name : Token) (parameters : Option (List Token)) (replacement : List Token) (d : Definition)
    → with_replacement text name parameters replacement ≡ Ok d → parameters ≡ d.meaning.parameters
meant text name parameters replacement d e =
    let a = passed (list_any (is_hash text) replacement) _ _ d e in
    ap (λ (x : Definition). x.meaning.parameters) (ok_same _ d a.1)

behind_list : (text : List ℕ) (name : Token) (d : Definition) (r : Result Parameters DefineFault) → ((found : Parameters) → r ≡ Ok found → AreParameters text found.0)
    → and_then r (λ list. with_replacement text name (Some list.0) list.1) ≡ Ok d → IfSome d.meaning.parameters (AreParameters text)
behind_list text name d (Ok found) h e =
    let P : Option (List Token) → Type 0 = λ x. IfSome x (AreParameters text) in
    subst P (meant text name (Some found.0) found.1 d e) (h found refl)
behind_list text name d (Err f) h e = absurd (err_ok f d e)

whole_list : (text : List ℕ) (tokens : List Token) (found : Parameters) → parameter_list text tokens ≡ Ok found → AreParameters text found.0
whole_list text [] found e = absurd (err_ok Form found e)
whole_list text (first ∷ rest) found e = by (is_spelled text (codes ")") first) e (λ k. in_list text (first ∷ rest) [] found none k)
  where
    none : AreParameters text []
    none = (tt, tt, omega arith)

    by : (b : Bool) → (if b then okay ([], rest) else further_parameters text [] (first ∷ rest)) ≡ Ok found
        → (further_parameters text [] (first ∷ rest) ≡ Ok found → AreParameters text found.0) → AreParameters text found.0
    by true e next = let P : Parameters → Type 0 = λ x. AreParameters text x.0 in subst P (ok_same ([], rest) found e) none
    by false e next = next e

pub parameters-lawful : (text : List ℕ) (tokens : List Token) (d : Definition) → definition_of text tokens ≡ Ok d → IfSome d.meaning.parameters (AreParameters text)
parameters-lawful text [] d e = absurd (err_ok Form d e)
parameters-lawful text (name ∷ rest) d e = by (opens_parameters text name rest) (passed (not (is_word name)) _ _ d e).1
  where
    by : (b : Bool)
        → (if b then and_then (parameter_list text (drop 1 rest)) (λ list. with_replacement text name (Some list.0) list.1) else with_replacement text name None rest) ≡ Ok d
        → IfSome d.meaning.parameters (AreParameters text)
    by true e = behind_list text name d (parameter_list text (drop 1 rest)) (λ found k. whole_list text (drop 1 rest) found k) e
    by false e = let P : Option (List Token) → Type 0 = λ x. IfSome x (AreParameters text) in subst P (meant text name None rest d e) tt
