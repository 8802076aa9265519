-- What is at hand comes to what it comes to behind a step.
use Rattle.std.proofs.Common.{◌≡◌, ℕ, ◌+◌, ◌<◌, ◌≤◌, Bool, true, false, if◌then◌else◌, List, [], ◌∷◌, ◌++◌, length, map, Option, Some, None, refl, sym, ap, ◌∙◌, subst, append_assoc, arith}
use Rattle.std.proofs.lemmas.List.{append-nil}
use Rattle.pw_token.specs.Roles.{spelling}
use Rattle.pw_token.specs.declared.token.Token.{Token}
use Rattle.pw_cpp_macros.specs.Macros.{Macros}
use Rattle.pw_cpp_macros.specs.declared.definition.Macro.{Macro}
use Rattle.pw_cpp_expand.specs.AtHand.{Comes, ExpandsWaiting, Named, Opened, waiting_for, with_before}
use Rattle.pw_cpp_expand.specs.AtHand as hand
use Rattle.pw_cpp_expand.specs.Calls.{is_used}
use Rattle.pw_cpp_expand.specs.Expansion.{Arguments, Expanded, Refused, Expands, ExpandsArguments, Outcome, Done, Stopped, Turn, Turns, Stands, Becomes, Faults, macro_of, produced_limit, producing, putting, result_of, room, with_argument, with_first}
use Rattle.pw_cpp_expand.specs.Expansion as by
use Rattle.pw_cpp_expand.specs.Lookahead.{Lexeme, output_limit}
use Rattle.pw_cpp_expand.specs.declared.progress.ExpandFault.{ExpandFault}
use Rattle.pw_cpp_expand.specs.declared.progress.ExpandFault.TheVariants.{Produced}
use Rattle.pw_cpp_expand.specs.declared.progress.Mode.{Mode}
use Rattle.pw_cpp_expand.specs.declared.progress.Mode.TheVariants.{Alone}
use Rattle.pw_cpp_expand.specs.declared.progress.Progress.{Progress}

-- ---- outcomes behind tokens that stand

before_stopped : (out : List Lexeme) (o : Outcome) (fault : ExpandFault) → with_before out o ≡ Stopped fault → o ≡ Stopped fault
before_stopped out (Done more p) fault e = absurd (apart e)
  where
    apart : Done (out ++ more) p ≡ Stopped fault → ⊥
    apart e = cc
before_stopped out (Stopped f) fault e = e

before_done : (out : List Lexeme) (o : Outcome) (all : List Lexeme) (q : Progress) → with_before out o ≡ Done all q → (more : List Lexeme) × (o ≡ Done more q) × (out ++ more ≡ all)
before_done out (Done more p) all q e = (more, ap (Done more) (places e), tokens e)
  where
    places : Done (out ++ more) p ≡ Done all q → p ≡ q
    places e = cc

    tokens : Done (out ++ more) p ≡ Done all q → out ++ more ≡ all
    tokens e = cc
before_done out (Stopped f) all q e = absurd (apart e)
  where
    apart : Stopped f ≡ Done all q → ⊥
    apart e = cc

before_first : (out : List Lexeme) (t : Lexeme) (more : Outcome) → with_before out (with_first t more) ≡ with_before (out ++ t ∷ []) more
before_first out t (Done more p) = ap (λ x. Done x p) (sym (append_assoc out (t ∷ []) more))
before_first out t (Stopped fault) = refl

-- the mode in which the tokens at hand are expanded
abbrev pub mode_in : Mode → List Opened → Mode
mode_in mode [] = mode
mode_in mode (call ∷ calls) = Alone

module _ (source text : List ℕ) (macros : Macros) where
  -- Whatever some tokens come to behind those that stand, others come to behind others.
  abbrev pub Improves : Mode → List Lexeme → List Lexeme → Progress → List Lexeme → List Lexeme → Progress → Type 0
  Improves mode pending out p pending' out' p' =
      (more : Outcome) → Expands source text macros mode pending' p' more → (o : Outcome) × Expands source text macros mode pending p o × (with_before out o ≡ with_before out' more)

  pub comes-on : (mode : Mode) (calls : List Opened) (pending out : List Lexeme) (p : Progress) (pending' out' : List Lexeme) (p' : Progress) (outcome : Outcome)
      → Improves (mode_in mode calls) pending out p pending' out' p' → Comes source text macros mode calls pending' out' p' outcome → Comes source text macros mode calls pending out p outcome
  comes-on mode calls pending out p pending' out' p' outcome h (hand.alone _ _ _ _ more x e) =
      let r = h more x in hand.alone pending out p outcome r.0 r.1 (e ∙ sym r.2)
  comes-on mode calls pending out p pending' out' p' outcome h (hand.stopped call others _ _ _ fault x) =
      let r = h (Stopped fault) x in
      let P : Outcome → Type 0 = λ o. Expands source text macros Alone pending p o in
      hand.stopped call others pending out p fault (subst P (before_stopped out r.0 fault r.2) r.1)
  comes-on mode calls pending out p pending' out' p' outcome h (hand.refused call others _ _ more _ q fault x w) =
      let r = h (Done more q) x in
      let d = before_done out r.0 (out' ++ more) q r.2 in
      let P : Outcome → Type 0 = λ o. Expands source text macros Alone pending p o in
      hand.refused call others pending out d.0 p q fault (subst P d.1 r.1) w
  comes-on mode calls pending out p pending' out' p' outcome h (hand.too_many call others _ _ more _ q r' rest x w l) =
      let r = h (Done more q) x in
      let d = before_done out r.0 (out' ++ more) q r.2 in
      let P : Outcome → Type 0 = λ o. Expands source text macros Alone pending p o in
      let Q : List Lexeme → Type 0 = λ z. produced_limit < r'.produced + length (result_of source call.hidden call.place (call.expanded ++ (call.parameter, z) ∷ rest) call.meaning.replacement) in
      hand.too_many call others pending out d.0 p q r' rest (subst P d.1 r.1) w (subst Q (sym d.2) l)
  comes-on mode calls pending out p pending' out' p' outcome h (hand.replaced call others _ _ more result _ q r' rest _ x w e l c) =
      let r = h (Done more q) x in
      let d = before_done out r.0 (out' ++ more) q r.2 in
      let P : Outcome → Type 0 = λ o. Expands source text macros Alone pending p o in
      hand.replaced call others pending out d.0 result p q r' rest outcome (subst P d.1 r.1) w
      (e ∙ ap (λ z. result_of source call.hidden call.place (call.expanded ++ (call.parameter, z) ∷ rest) call.meaning.replacement) (sym d.2)) l c

  -- a fault of the tokens at hand is what all comes to
  pub comes-stopped : (mode : Mode) (calls : List Opened) (pending out : List Lexeme) (p : Progress) (fault : ExpandFault)
      → Expands source text macros (mode_in mode calls) pending p (Stopped fault) → Comes source text macros mode calls pending out p (Stopped fault)
  comes-stopped mode [] pending out p fault h = hand.alone pending out p (Stopped fault) (Stopped fault) h refl
  comes-stopped mode (call ∷ calls) pending out p fault h = hand.stopped call calls pending out p fault h

  -- ---- a token's turn

  pub stands-on : (mode : Mode) (t : Lexeme) (rest ahead out : List Lexeme) (p q : Progress) → Turns source text macros mode t rest p (macro_of source macros t) (Stands ahead q)
      → q.size + room mode t ≤ output_limit → Improves mode (t ∷ rest) out p ahead (out ++ t ∷ []) (putting mode t q)
  stands-on mode t rest ahead out p q turn l more h =
      (with_first t more, by.turns mode t rest p (Stands ahead q) (with_first t more) turn (by.stands mode t ahead q (with_first t more) more l h refl), before_first out t more)

  pub becomes-on : (mode : Mode) (t : Lexeme) (rest result behind out : List Lexeme) (p q : Progress) → Turns source text macros mode t rest p (macro_of source macros t) (Becomes result behind q)
      → q.produced + length result ≤ produced_limit → Improves mode (t ∷ rest) out p (result ++ behind) out (producing q (length result))
  becomes-on mode t rest result behind out p q turn l more h =
      (more, by.turns mode t rest p (Becomes result behind q) more turn (by.becomes mode t result behind q more l h), refl)

  -- ---- an argument that is expanded

  pub argument-last : (mode : Mode) (call : Opened) (calls : List Opened) (out result : List Lexeme) (p : Progress) (outcome : Outcome) → call.waiting ≡ []
      → result ≡ result_of source call.hidden call.place (call.expanded ++ (call.parameter, out) ∷ []) call.meaning.replacement → p.produced + length result ≤ produced_limit
      → Comes source text macros mode calls (result ++ call.behind) call.before (producing p (length result)) outcome
      → Comes source text macros mode (call ∷ calls) [] out p outcome
  argument-last mode call calls out result p outcome w e l c =
      let P : List Named → Type 0 = λ x. ExpandsWaiting source text macros x p (Expanded [] p) in
      hand.replaced call calls [] out [] result p p p [] outcome (by.ends Alone p) (subst P (sym w) (hand.none p))
      (e ∙ ap (λ z. result_of source call.hidden call.place (call.expanded ++ (call.parameter, z) ∷ []) call.meaning.replacement) (sym (append-nil out))) l c

  pub argument-too_many : (mode : Mode) (call : Opened) (calls : List Opened) (out : List Lexeme) (p : Progress) → call.waiting ≡ []
      → produced_limit < p.produced + length (result_of source call.hidden call.place (call.expanded ++ (call.parameter, out) ∷ []) call.meaning.replacement)
      → Comes source text macros mode (call ∷ calls) [] out p (Stopped (Produced call.place))
  argument-too_many mode call calls out p w l =
      let P : List Named → Type 0 = λ x. ExpandsWaiting source text macros x p (Expanded [] p) in
      let Q : List Lexeme → Type 0 = λ z. produced_limit < p.produced + length (result_of source call.hidden call.place (call.expanded ++ (call.parameter, z) ∷ []) call.meaning.replacement) in
      hand.too_many call calls [] out [] p p p [] (by.ends Alone p) (subst P (sym w) (hand.none p)) (subst Q (sym (append-nil out)) l)

  -- a call whose next argument is at hand
  abbrev pub with_next : Opened → List Lexeme → List ℕ → List Named → Opened
  with_next call out name others = record {
    meaning = call.meaning;
    hidden = call.hidden;
    place = call.place;
    parameter = name;
    waiting = others;
    expanded = call.expanded ++ (call.parameter, out) ∷ [];
    behind = call.behind;
    before = call.before;
  }

  -- the arguments that are expanded, with the next one among them
  next_among : (call : Opened) (out : List Lexeme) (name : List ℕ) (more : List Lexeme) (rest : List Named)
      → (call.expanded ++ (call.parameter, out) ∷ []) ++ (name, [] ++ more) ∷ rest ≡ call.expanded ++ (call.parameter, out ++ []) ∷ ((name, more) ∷ rest)
  next_among call out name more rest =
      append_assoc call.expanded ((call.parameter, out) ∷ []) ((name, more) ∷ rest) ∙ ap (λ z. call.expanded ++ (call.parameter, z) ∷ ((name, more) ∷ rest)) (sym (append-nil out))

  pub argument-next : (mode : Mode) (call : Opened) (calls : List Opened) (out tokens : List Lexeme) (name : List ℕ) (others : List Named) (p : Progress) (outcome : Outcome)
      → call.waiting ≡ (name, tokens) ∷ others → Comes source text macros mode (with_next call out name others ∷ calls) tokens [] p outcome
      → Comes source text macros mode (call ∷ calls) [] out p outcome
  argument-next mode call calls out tokens name others p outcome w (hand.stopped _ _ _ _ _ fault x) =
      let P : List Named → Type 0 = λ z. ExpandsWaiting source text macros z p (Refused fault) in
      hand.refused call calls [] out [] p p fault (by.ends Alone p) (subst P (sym w) (hand.refused_one name tokens others p fault x))
  argument-next mode call calls out tokens name others p outcome w (hand.refused _ _ _ _ more _ q fault x h) =
      let P : List Named → Type 0 = λ z. ExpandsWaiting source text macros z p (Refused fault) in
      hand.refused call calls [] out [] p p fault (by.ends Alone p) (subst P (sym w) (hand.one name tokens more others p q (Refused fault) (Refused fault) x h refl))
  argument-next mode call calls out tokens name others p outcome w (hand.too_many _ _ _ _ more _ q r rest x h l) =
      let P : List Named → Type 0 = λ z. ExpandsWaiting source text macros z p (Expanded ((name, more) ∷ rest) r) in
      let Q : List Named → Type 0 = λ z. produced_limit < r.produced + length (result_of source call.hidden call.place z call.meaning.replacement) in
      hand.too_many call calls [] out [] p p r ((name, more) ∷ rest) (by.ends Alone p)
      (subst P (sym w) (hand.one name tokens more others p q (Expanded ((name, more) ∷ rest) r) (Expanded rest r) x h refl)) (subst Q (next_among call out name more rest) l)
  argument-next mode call calls out tokens name others p outcome w (hand.replaced _ _ _ _ more result _ q r rest _ x h e l c) =
      let P : List Named → Type 0 = λ z. ExpandsWaiting source text macros z p (Expanded ((name, more) ∷ rest) r) in
      hand.replaced call calls [] out [] result p p r ((name, more) ∷ rest) outcome (by.ends Alone p)
      (subst P (sym w) (hand.one name tokens more others p q (Expanded ((name, more) ∷ rest) r) (Expanded rest r) x h refl))
      (e ∙ ap (λ z. result_of source call.hidden call.place z call.meaning.replacement) (next_among call out name more rest)) l c

  -- ---- the arguments of a call, of which those that are used are expanded

  pub arguments-expanded : (replacement parameters : List Token) (arguments : List (List Lexeme)) (p : Progress) (found : Arguments) → length arguments ≡ length parameters
      → ExpandsWaiting source text macros (waiting_for source replacement parameters arguments) p found → ExpandsArguments source text macros replacement parameters arguments p found
  arguments-expanded replacement [] [] p found l (hand.none _) = by.none replacement p
  arguments-expanded replacement [] (argument ∷ arguments) p found l h = absurd (omega (arith, l))
  arguments-expanded replacement (parameter ∷ parameters) [] p found l h = absurd (omega (arith, l))
  arguments-expanded replacement (parameter ∷ parameters) (argument ∷ arguments) p found l h =
      by_use (is_used source replacement parameter) found refl h (λ q more. arguments-expanded replacement parameters arguments q more (shorter l))
    where
      shorter : length (argument ∷ arguments) ≡ length (parameter ∷ parameters) → length arguments ≡ length parameters
      shorter e = cc

      others : List Named
      others = waiting_for source replacement parameters arguments

      by_use : (b : Bool) (a : Arguments) → is_used source replacement parameter ≡ b
          → ExpandsWaiting source text macros (if b then (spelling source parameter, argument) ∷ others else others) p a
          → ((q : Progress) (more : Arguments) → ExpandsWaiting source text macros others q more → ExpandsArguments source text macros replacement parameters arguments q more)
          → ExpandsArguments source text macros replacement (parameter ∷ parameters) (argument ∷ arguments) p a
      by_use false a u h next = by.unused replacement parameter parameters argument arguments p a u (next p a h)
      by_use true a u (hand.one _ _ out _ _ q _ more x w e) next = by.used replacement parameter parameters argument out arguments p q a more u x (next q more w) e
      by_use true a u (hand.refused_one _ _ _ _ fault x) next = by.refused replacement parameter parameters argument arguments p fault u x
