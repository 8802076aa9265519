-- What each step of the expansion does to what is at hand.
use Rattle.std.proofs.Common.{◌≡◌, ℕ, ◌+◌, ◌<◌, ◌≤◌, true, List, [], ◌∷◌, ◌++◌, length, map, reverse, Option, Some, Result, Ok, Err, inl, inr, ◌⊎◌, refl, sym, ap, ◌∙◌, subst, All, arith}
use Rattle.std.proofs.lemmas.List.{append-nil, length-map, map-append, reverse-append, reverse-reverse}
use Rattle.std.proofs.lemmas.List.Elements.{All-append}
use Rattle.std.specs.Prelude.{codes}
use Rattle.pw_token.specs.Roles.{spelling}
use Rattle.pw_token.specs.declared.token.Token.{Token}
use Rattle.pw_cpp_macros.specs.Macros.{Macros}
use Rattle.pw_cpp_macros.specs.declared.definition.Macro.{Macro}
use Rattle.pw_cpp_expand.specs.AtHand.{Comes, ComesTo, ExpandsWaiting, IsCallKnown, IsCallOpened, IsKnown, IsReplacedBy, IsStepTo, Named, Opened, PutsOut, PutsResult, argument_named, mode_of, opened, raw_named, waiting_for, with_before}
use Rattle.pw_cpp_expand.specs.AtHand as hand
use Rattle.pw_cpp_expand.specs.Calls.{Called, Closed, Collects, arguments_of, is_mark}
use Rattle.pw_cpp_expand.specs.Expansion.{Arguments, Calls, Expanded, Refused, Expands, Outcome, Done, Stopped, Turn, Turns, Stands, Becomes, Faults, macro_of, produced_limit, producing, putting, replaced_call, result_of, room}
use Rattle.pw_cpp_expand.specs.Expansion as by
use Rattle.pw_cpp_expand.specs.Lookahead.{At, Lexeme, LooksAhead, output_limit}
use Rattle.pw_cpp_expand.specs.Numbered.{AreKnown, IsFault, all_named, at_hand, named, room_of}
use Rattle.pw_cpp_expand.specs.declared.expansion.Call.{Call}
use Rattle.pw_cpp_expand.specs.declared.expansion.Expander.{Expander}
use Rattle.pw_cpp_expand.specs.declared.expansion.Raw.{Raw}
use Rattle.pw_cpp_expand.specs.declared.progress.ExpandFault.{ExpandFault}
use Rattle.pw_cpp_expand.specs.declared.progress.ExpandFault.TheVariants.{Length, Produced}
use Rattle.pw_cpp_expand.specs.declared.progress.Lexeme.{Lexeme as Numbered}
use Rattle.pw_cpp_expand.specs.declared.progress.Mode.{Mode}
use Rattle.pw_cpp_expand.specs.declared.progress.Mode.TheVariants.{InText, Alone}
use Rattle.pw_cpp_expand.specs.declared.progress.Progress.{Progress}
use Rattle.pw_cpp_expand.proofs.Kept.{all-kept, calls-kept, calls-on, hand-kept, known-on, named-kept, reversed-all}
use Rattle.pw_cpp_expand.proofs.Steps.{argument-last, argument-next, argument-too_many, arguments-expanded, becomes-on, comes-on, comes-stopped, mode_in, stands-on, with_next}
use Rattle.pw_cpp_sets.specs.Sets.{Keeps, Known, set_at, shared}

-- ---- what is kept, as it is named

module _ (known : Known) where
  -- the token that was put last is the first at hand
  pub hand-more : (ls : List Numbered) (l : Numbered) → at_hand known (ls ++ l ∷ []) ≡ named known l ∷ at_hand known ls
  hand-more ls l = ap (all_named known) (reverse-append ls (l ∷ []))

  -- what is put in front of the tokens at hand stands there
  pub hand-front : (ls made : List Numbered) → at_hand known (ls ++ reverse made) ≡ all_named known made ++ at_hand known ls
  hand-front ls made =
      ap (all_named known) (reverse-append ls (reverse made) ∙ ap (λ x. x ++ reverse ls) (reverse-reverse made))
      ∙ map-append (named known) made (reverse ls)

  pub out-more : (ls : List Numbered) (l : Numbered) → all_named known (ls ++ l ∷ []) ≡ all_named known ls ++ named known l ∷ []
  out-more ls l = map-append (named known) ls (l ∷ [])

  pub room-same : (mode : Mode) (l : Numbered) → room mode (named known l) ≡ room_of mode l
  room-same InText l = refl
  room-same Alone l = refl

  module _ (source : List ℕ) where
    -- the innermost call is the first
    pub calls-more : (calls : List Call) (call : Call) → map (opened source known) (reverse (calls ++ call ∷ [])) ≡ opened source known call ∷ map (opened source known) (reverse calls)
    calls-more calls call = ap (map (opened source known)) (reverse-append calls (call ∷ []))

    in_some : (mode : Mode) (calls : List Opened) (call : Opened) → mode_in mode (calls ++ call ∷ []) ≡ Alone
    in_some mode [] call = refl
    in_some mode (first ∷ calls) call = refl

    pub mode-same : (mode : Mode) (calls : List Call) → mode_in mode (map (opened source known) (reverse calls)) ≡ mode_of mode calls
    mode-same mode [] = refl
    mode-same mode (call ∷ calls) =
        ap (λ x. mode_in mode (map (opened source known) x)) (reverse-append (call ∷ []) calls)
        ∙ ap (mode_in mode) (map-append (opened source known) (reverse calls) (call ∷ []))
        ∙ in_some mode (map (opened source known) (reverse calls)) (opened source known call)

module _ (source text : List ℕ) (macros : Macros) where
  -- what comes of what is at hand comes of what is the same
  pub comes-as : (mode : Mode) (calls : List Opened) (pending pending' out out' : List Lexeme) (p p' : Progress) (outcome : Outcome) → pending ≡ pending' → out ≡ out' → p ≡ p'
      → Comes source text macros mode calls pending out p outcome → Comes source text macros mode calls pending' out' p' outcome
  comes-as mode calls pending pending' out out' p p' outcome e f g c =
      let P : List Lexeme → Type 0 = λ z. Comes source text macros mode calls z out p outcome in
      let Q : List Lexeme → Type 0 = λ z. Comes source text macros mode calls pending' z p outcome in
      let R : Progress → Type 0 = λ z. Comes source text macros mode calls pending' out' z outcome in
      subst R g (subst Q f (subst P e c))

  -- the turn of the first token at hand
  abbrev pub FirstTurns : Mode → List Opened → Lexeme → List Lexeme → Progress → Turn → Type 0
  FirstTurns mode calls t rest p turn = Turns source text macros (mode_in mode calls) t rest p (macro_of source macros t) turn

  -- a fault of its turn
  pub faults-comes : (mode : Mode) (calls : List Opened) (t : Lexeme) (rest out : List Lexeme) (p : Progress) (fault : ExpandFault) → FirstTurns mode calls t rest p (Faults fault)
      → Comes source text macros mode calls (t ∷ rest) out p (Stopped fault)
  faults-comes mode calls t rest out p fault turn =
      comes-stopped source text macros mode calls (t ∷ rest) out p fault (by.turns (mode_in mode calls) t rest p (Faults fault) (Stopped fault) turn (by.faults (mode_in mode calls) t fault))

  -- too many tokens that it becomes
  pub too-many-comes : (mode : Mode) (calls : List Opened) (t : Lexeme) (rest out result behind : List Lexeme) (p q : Progress) → FirstTurns mode calls t rest p (Becomes result behind q)
      → produced_limit < q.produced + length result → Comes source text macros mode calls (t ∷ rest) out p (Stopped (Produced t.place))
  too-many-comes mode calls t rest out result behind p q turn l =
      comes-stopped source text macros mode calls (t ∷ rest) out p (Produced t.place)
      (by.turns (mode_in mode calls) t rest p (Becomes result behind q) (Stopped (Produced t.place)) turn (by.too_many (mode_in mode calls) t result behind q l))

  pub becomes-comes : (mode : Mode) (calls : List Opened) (t : Lexeme) (rest out result behind : List Lexeme) (p q : Progress) (outcome : Outcome) → FirstTurns mode calls t rest p (Becomes result behind q)
      → q.produced + length result ≤ produced_limit → Comes source text macros mode calls (result ++ behind) out (producing q (length result)) outcome
      → Comes source text macros mode calls (t ∷ rest) out p outcome
  becomes-comes mode calls t rest out result behind p q outcome turn l c =
      comes-on source text macros mode calls (t ∷ rest) out p (result ++ behind) out (producing q (length result)) outcome
      (becomes-on source text macros (mode_in mode calls) t rest result behind out p q turn l) c

  -- ---- a call that is opened

  -- Its turn is what its arguments come to. What comes of it with the first of them at hand comes of the name and what stood behind it.
  module _ (mode : Mode) (calls : List Opened) (t : Lexeme) (rest out : List Lexeme) (start p : Progress) (m : Macro) (hidden : List (List ℕ)) (behind : List Lexeme) (waiting : List Named)
      (turn : (found : Arguments) → ExpandsWaiting source text macros waiting p found → FirstTurns mode calls t rest start (replaced_call source hidden t.place m.replacement behind found)) where
    pub none-waits : (outcome : Outcome) → waiting ≡ []
        → ((produced_limit < p.produced + length (result_of source hidden t.place [] m.replacement)) × (outcome ≡ Stopped (Produced t.place)))
        ⊎ ((p.produced + length (result_of source hidden t.place [] m.replacement) ≤ produced_limit)
        × Comes source text macros mode calls (result_of source hidden t.place [] m.replacement ++ behind) out (producing p (length (result_of source hidden t.place [] m.replacement))) outcome)
        → Comes source text macros mode calls (t ∷ rest) out start outcome
    none-waits outcome w c = by_outcome c
      where
        becomes : FirstTurns mode calls t rest start (Becomes (result_of source hidden t.place [] m.replacement) behind p)
        becomes = let P : List Named → Type 0 = λ x. ExpandsWaiting source text macros x p (Expanded [] p) in turn (Expanded [] p) (subst P (sym w) (hand.none p))

        by_outcome : ((produced_limit < p.produced + length (result_of source hidden t.place [] m.replacement)) × (outcome ≡ Stopped (Produced t.place)))
            ⊎ ((p.produced + length (result_of source hidden t.place [] m.replacement) ≤ produced_limit)
            × Comes source text macros mode calls (result_of source hidden t.place [] m.replacement ++ behind) out (producing p (length (result_of source hidden t.place [] m.replacement))) outcome)
            → Comes source text macros mode calls (t ∷ rest) out start outcome
        by_outcome (inl h) =
            let P : Outcome → Type 0 = λ x. Comes source text macros mode calls (t ∷ rest) out start x in
            subst P (sym h.1) (too-many-comes mode calls t rest out (result_of source hidden t.place [] m.replacement) behind start p becomes h.0)
        by_outcome (inr h) = becomes-comes mode calls t rest out (result_of source hidden t.place [] m.replacement) behind start p outcome becomes h.0 h.1

    -- the call with an argument at hand
    abbrev with_first : List ℕ → List Named → Opened
    with_first name others = record { meaning = m; hidden = hidden; place = t.place; parameter = name; waiting = others; expanded = []; behind = behind; before = out }

    pub first-waits : (name : List ℕ) (tokens : List Lexeme) (others : List Named) (outcome : Outcome) → waiting ≡ (name, tokens) ∷ others
        → Comes source text macros mode (with_first name others ∷ calls) tokens [] p outcome → Comes source text macros mode calls (t ∷ rest) out start outcome
    first-waits name tokens others outcome w (hand.stopped _ _ _ _ _ fault x) =
        let P : List Named → Type 0 = λ z. ExpandsWaiting source text macros z p (Refused fault) in
        faults-comes mode calls t rest out start fault (turn (Refused fault) (subst P (sym w) (hand.refused_one name tokens others p fault x)))
    first-waits name tokens others outcome w (hand.refused _ _ _ _ more _ q fault x h) =
        let P : List Named → Type 0 = λ z. ExpandsWaiting source text macros z p (Refused fault) in
        faults-comes mode calls t rest out start fault (turn (Refused fault) (subst P (sym w) (hand.one name tokens more others p q (Refused fault) (Refused fault) x h refl)))
    first-waits name tokens others outcome w (hand.too_many _ _ _ _ more _ q r found x h l) =
        let P : List Named → Type 0 = λ z. ExpandsWaiting source text macros z p (Expanded ((name, more) ∷ found) r) in
        too-many-comes mode calls t rest out (result_of source hidden t.place ((name, more) ∷ found) m.replacement) behind start r
        (turn (Expanded ((name, more) ∷ found) r) (subst P (sym w) (hand.one name tokens more others p q (Expanded ((name, more) ∷ found) r) (Expanded found r) x h refl))) l
    first-waits name tokens others outcome w (hand.replaced _ _ _ _ more result _ q r found _ x h e l c) =
        let P : List Named → Type 0 = λ z. ExpandsWaiting source text macros z p (Expanded ((name, more) ∷ found) r) in
        let Q : List Lexeme → Type 0 = λ z. FirstTurns mode calls t rest start (Becomes z behind r) in
        becomes-comes mode calls t rest out result behind start r outcome
        (subst Q (sym e) (turn (Expanded ((name, more) ∷ found) r) (subst P (sym w) (hand.one name tokens more others p q (Expanded ((name, more) ∷ found) r) (Expanded found r) x h refl)))) l c

  -- ---- steps of an expander

  module _ (mode : Mode) (known : Known) (e : Expander) (l : Numbered) (p : Progress) where
    -- the open calls, and the token with what stands behind it
    abbrev calls : List Opened
    calls = map (opened source known) (reverse e.calls)

    -- before the step the token is the last one put
    abbrev pub Before : Outcome → Type 0
    Before outcome = ComesTo source text macros mode known (record e { pending = e.pending ++ l ∷ [] }) p outcome

    abbrev pub LastTurns : Turn → Type 0
    LastTurns turn = Turns source text macros (mode_of mode e.calls) (named known l) (at_hand known e.pending) p (macro_of source macros (named known l)) turn

    pub before-first : (outcome : Outcome) → Comes source text macros mode calls (named known l ∷ at_hand known e.pending) (all_named known e.out) p outcome → Before outcome
    before-first outcome c =
        comes-as mode calls (named known l ∷ at_hand known e.pending) (at_hand known (e.pending ++ l ∷ [])) (all_named known e.out) (all_named known e.out) p p outcome
        (sym (hand-more known e.pending l)) refl refl c

    pub first-turns : (turn : Turn) → LastTurns turn → FirstTurns mode calls (named known l) (at_hand known e.pending) p turn
    first-turns turn h =
        let P : Mode → Type 0 = λ x. Turns source text macros x (named known l) (at_hand known e.pending) p (macro_of source macros (named known l)) turn in
        subst P (sym (mode-same known source mode e.calls)) h

    pub fault-step : (fault : ExpandFault) → LastTurns (Faults fault) → Before (Stopped fault)
    fault-step fault h =
        before-first (Stopped fault) (faults-comes mode calls (named known l) (at_hand known e.pending) (all_named known e.out) p fault (first-turns (Faults fault) h))

    -- a token stands, with these ahead of it
    pub stands-step : (pending : List Numbered) (q : Progress) (f : Expander) (r : Progress) (result : Result (Unit {0}) ExpandFault) → LastTurns (Stands (at_hand known pending) q)
        → PutsOut mode l (record e { pending = pending }) q f r result → IsStepTo Before source text macros mode known f r result
    stands-step pending q f r (Ok done) turn put = λ outcome c.
        let P : Expander → Type 0 = λ x. ComesTo source text macros mode known x r outcome in
        let Q : Progress → Type 0 = λ x. Comes source text macros mode calls (at_hand known pending) (all_named known (e.out ++ l ∷ [])) x outcome in
        before-first outcome
        (comes-on source text macros mode calls (named known l ∷ at_hand known e.pending) (all_named known e.out) p (at_hand known pending) (all_named known e.out ++ named known l ∷ [])
        (putting (mode_in mode calls) (named known l) q) outcome
        (stands-on source text macros (mode_in mode calls) (named known l) (at_hand known e.pending) (at_hand known pending) (all_named known e.out) p q
        (first-turns (Stands (at_hand known pending) q) turn) (fits put.2))
        (comes-as mode calls (at_hand known pending) (at_hand known pending) (all_named known (e.out ++ l ∷ [])) (all_named known e.out ++ named known l ∷ [])
        (record q { size = q.size + room_of (mode_of mode e.calls) l }) (putting (mode_in mode calls) (named known l) q) outcome
        refl (out-more known e.out l) (ap (λ n. record { next = q.next; rows = q.rows; produced = q.produced; size = q.size + n }) takes)
        (subst Q put.1 (subst P put.0 c))))
      where
        takes : room_of (mode_of mode e.calls) l ≡ room (mode_in mode calls) (named known l)
        takes = sym (room-same known (mode_of mode e.calls) l) ∙ ap (λ m. room m (named known l)) (sym (mode-same known source mode e.calls))

        fits : q.size + room_of (mode_of mode e.calls) l ≤ output_limit → q.size + room (mode_in mode calls) (named known l) ≤ output_limit
        fits h = omega (arith, h, takes)
    stands-step pending q f r (Err fault) turn (inl h) = inl h
    stands-step pending q f r (Err fault) turn (inr h) = inr (
        let P : ExpandFault → Type 0 = λ x. Before (Stopped x) in
        subst P (sym h.0)
        (before-first (Stopped (Length l.place))
        (comes-stopped source text macros mode calls (named known l ∷ at_hand known e.pending) (all_named known e.out) p (Length l.place)
        (by.turns (mode_in mode calls) (named known l) (at_hand known e.pending) p (Stands (at_hand known pending) q) (Stopped (Length l.place))
        (first-turns (Stands (at_hand known pending) q) turn)
        (by.too_long (mode_in mode calls) (named known l) (at_hand known pending) q (passes h.1)))))
        )
      where
        takes : room_of (mode_of mode e.calls) l ≡ room (mode_in mode calls) (named known l)
        takes = sym (room-same known (mode_of mode e.calls) l) ∙ ap (λ m. room m (named known l)) (sym (mode-same known source mode e.calls))

        passes : output_limit < q.size + room_of (mode_of mode e.calls) l → output_limit < q.size + room (mode_in mode calls) (named known l)
        passes h = omega (arith, h, takes)

    -- it is replaced by these, with others behind them
    pub becomes-step : (made : List Numbered) (f : Expander) (r : Progress) (result : Result (Unit {0}) ExpandFault)
        → LastTurns (Becomes (all_named known made) (at_hand known e.pending) p) → PutsResult made l.place e p f r result → IsStepTo Before source text macros mode known f r result
    becomes-step made f r (Ok done) turn put = λ outcome c.
        let P : Expander → Type 0 = λ x. ComesTo source text macros mode known x r outcome in
        let Q : Progress → Type 0 = λ x. Comes source text macros mode calls (at_hand known (e.pending ++ reverse made)) (all_named known e.out) x outcome in
        before-first outcome
        (becomes-comes mode calls (named known l) (at_hand known e.pending) (all_named known e.out) (all_named known made) (at_hand known e.pending) p p outcome
        (first-turns (Becomes (all_named known made) (at_hand known e.pending) p) turn) (omega (arith, put.2, length-map made (named known)))
        (comes-as mode calls (at_hand known (e.pending ++ reverse made)) (all_named known made ++ at_hand known e.pending) (all_named known e.out) (all_named known e.out)
        (producing p (length made)) (producing p (length (all_named known made))) outcome
        (hand-front known e.pending made) refl (ap (producing p) (sym (length-map made (named known)))) (subst Q put.1 (subst P put.0 c))))
    becomes-step made f r (Err fault) turn (inl h) = inl h
    becomes-step made f r (Err fault) turn (inr h) = inr (
        let P : ExpandFault → Type 0 = λ x. Before (Stopped x) in
        subst P (sym h.0)
        (before-first (Stopped (Produced l.place))
        (too-many-comes mode calls (named known l) (at_hand known e.pending) (all_named known e.out) (all_named known made) (at_hand known e.pending) p p
        (first-turns (Becomes (all_named known made) (at_hand known e.pending) p) turn) (omega (arith, h.1, length-map made (named known)))))
        )

-- ---- steps that come from steps

module _ (source text : List ℕ) (macros : Macros) (mode : Mode) (known : Known) (e : Expander) (p : Progress) where
  pub step-weaker : {A : Type 0} (Is Was : Outcome → Type 0) (result : Result A ExpandFault) → ((outcome : Outcome) → Is outcome → Was outcome)
      → IsStepTo Is source text macros mode known e p result → IsStepTo Was source text macros mode known e p result
  step-weaker Is Was (Ok done) w h = λ outcome c. w outcome (h outcome c)
  step-weaker Is Was (Err fault) w (inl h) = inl h
  step-weaker Is Was (Err fault) w (inr h) = inr (w (Stopped fault) h)

pub fault-weaker : (Is Was : ExpandFault → Type 0) (fault : ExpandFault) → ((f : ExpandFault) → Is f → Was f) → IsFault fault Is → IsFault fault Was
fault-weaker Is Was fault w (inl h) = inl h
fault-weaker Is Was fault w (inr h) = inr (w fault h)

-- a fault that is handed on
pub fault-on : {A : Type 0} (Answers : Result A ExpandFault → Type 0) (fault : ExpandFault) (result : Result A ExpandFault) → result ≡ Err fault → Answers (Err fault) → Answers result
fault-on Answers fault result is h = subst Answers (sym is) h

-- ---- a call whose arguments are expanded

module _ (source text : List ℕ) (macros : Macros) where
  module _ (mode : Mode) (known new : Known) (keeps : Keeps known new) (e : Expander) (call : Call) (made : List Numbered) (p : Progress)
      (calls_known : All (IsCallKnown known) e.calls) (call_known : IsCallKnown known call)
      (made_is : all_named new made ≡ result_of source (set_at known call.replaced.hidden) call.replaced.place (map (argument_named source known) call.expanded) call.meaning.now.replacement) where
    pub replaced-step : (q : Progress) (f : Expander) (result : Result (Unit {0}) ExpandFault)
        → PutsResult made call.replaced.place (record e { pending = call.behind; out = call.before }) p f q result
        → IsStepTo (IsReplacedBy source text macros mode known e call p) source text macros mode new f q result
    replaced-step q f (Ok done) put = λ outcome c.
        let P : Expander → Type 0 = λ x. ComesTo source text macros mode new x q outcome in
        let Q : Progress → Type 0 = λ x. Comes source text macros mode (map (opened source new) (reverse e.calls)) (at_hand new (call.behind ++ reverse made)) (all_named new call.before) x outcome in
        let R : List Opened → Type 0 = λ x. Comes source text macros mode x (at_hand new (call.behind ++ reverse made)) (all_named new call.before) (producing p (length made)) outcome in
        inr (
          omega (arith, put.2, count),
          comes-as source text macros mode (map (opened source known) (reverse e.calls)) (at_hand new (call.behind ++ reverse made)) (made_result ++ at_hand known call.behind) (all_named new call.before)
              (all_named known call.before) (producing p (length made)) (producing p (length made_result)) outcome
              (hand-front new call.behind made ∙ ap (λ x. x ++ at_hand new call.behind) made_is ∙ ap (λ x. made_result ++ x) (hand-kept known new keeps call.behind call_known.3))
              (all-kept known new keeps call.before call_known.4) (ap (producing p) count)
              (subst R (calls-kept known new keeps source e.calls calls_known) (subst Q put.1 (subst P put.0 c))),
        )
      where
        made_result : List Lexeme
        made_result = result_of source (set_at known call.replaced.hidden) call.replaced.place (map (argument_named source known) call.expanded) call.meaning.now.replacement

        count : length made ≡ length made_result
        count = sym (length-map made (named new)) ∙ ap length made_is
    replaced-step q f (Err fault) (inl h) = inl h
    replaced-step q f (Err fault) (inr h) = inr (inl (omega (arith, h.1, count), ap Stopped h.0))
      where
        count : length made ≡ length (result_of source (set_at known call.replaced.hidden) call.replaced.place (map (argument_named source known) call.expanded) call.meaning.now.replacement)
        count = sym (length-map made (named new)) ∙ ap length made_is

    -- what is at hand is known then
    pub replaced-known : (q : Progress) (f : Expander) → AreKnown new made → PutsResult made call.replaced.place (record e { pending = call.behind; out = call.before }) p f q (Ok tt) → IsKnown new f
    replaced-known q f m put =
        let P : Expander → Type 0 = λ x. IsKnown new x in
        subst P (sym put.0) (
          All-append (λ (l : Numbered). l.hidden < length new) call.behind (reverse made) (known-on known new keeps call.behind call_known.3) (reversed-all (λ (l : Numbered). l.hidden < length new) made m),
          known-on known new keeps call.before call_known.4,
          calls-on known new keeps e.calls calls_known,
        )

  -- ---- an argument that is expanded

  module _ (mode : Mode) (known : Known) (e : Expander) (call : Call) (p : Progress) (outcome : Outcome) (none : e.pending ≡ []) where
    abbrev others : List Opened
    others = map (opened source known) (reverse e.calls)

    -- the call whose last expanded argument is at hand
    abbrev pub with_out : Call
    with_out = record call { expanded = call.expanded ++ record { parameter = call.parameter; tokens = e.out } ∷ [] }

    expanded_is : map (argument_named source known) with_out.expanded ≡ (opened source known call).expanded ++ (spelling source call.parameter, all_named known e.out) ∷ []
    expanded_is = map-append (argument_named source known) call.expanded (record { parameter = call.parameter; tokens = e.out } ∷ [])

    with_call : Comes source text macros mode (opened source known call ∷ others) [] (all_named known e.out) p outcome
        → ComesTo source text macros mode known (record e { calls = e.calls ++ call ∷ [] }) p outcome
    with_call c =
        let P : List Opened → Type 0 = λ x. Comes source text macros mode x (at_hand known e.pending) (all_named known e.out) p outcome in
        let Q : List Numbered → Type 0 = λ x. Comes source text macros mode (opened source known call ∷ others) (at_hand known x) (all_named known e.out) p outcome in
        subst P (sym (calls-more known source e.calls call)) (subst Q (sym none) c)

    pub last-step : call.waiting ≡ [] → IsReplacedBy source text macros mode known e with_out p outcome → ComesTo source text macros mode known (record e { calls = e.calls ++ call ∷ [] }) p outcome
    last-step w h = with_call (by_case h)
      where
        waits : (opened source known call).waiting ≡ []
        waits = ap (λ x. map (raw_named source known) (reverse x)) w

        made_result : List Lexeme
        made_result = result_of source (set_at known call.replaced.hidden) call.replaced.place (map (argument_named source known) with_out.expanded) call.meaning.now.replacement

        result_is : made_result ≡ result_of source (opened source known call).hidden (opened source known call).place ((opened source known call).expanded ++ ((opened source known call).parameter, all_named known e.out) ∷ []) (opened source known call).meaning.replacement
        result_is = ap (λ x. result_of source (set_at known call.replaced.hidden) call.replaced.place x call.meaning.now.replacement) expanded_is

        by_case : IsReplacedBy source text macros mode known e with_out p outcome → Comes source text macros mode (opened source known call ∷ others) [] (all_named known e.out) p outcome
        by_case (inl h) =
            let P : Outcome → Type 0 = λ x. Comes source text macros mode (opened source known call ∷ others) [] (all_named known e.out) p x in
            let Q : List Lexeme → Type 0 = λ x. produced_limit < p.produced + length x in
            subst P (sym h.1) (argument-too_many source text macros mode (opened source known call) others (all_named known e.out) p waits (subst Q result_is h.0))
        by_case (inr h) = argument-last source text macros mode (opened source known call) others (all_named known e.out) made_result p outcome waits result_is h.0 h.1

    -- the call with its next argument at hand
    pub next-step : (next : Raw) (waiting : List Raw) → call.waiting ≡ waiting ++ next ∷ []
        → ComesTo source text macros mode known
        (record e { calls = e.calls ++ record with_out { parameter = next.parameter; waiting = waiting } ∷ []; pending = reverse next.tokens; out = [] }) p outcome
        → ComesTo source text macros mode known (record e { calls = e.calls ++ call ∷ [] }) p outcome
    next-step next waiting w c =
        with_call (argument-next source text macros mode (opened source known call) others (all_named known e.out) (all_named known next.tokens) (spelling source next.parameter)
        (map (raw_named source known) (reverse waiting)) p outcome (ap (λ x. map (raw_named source known) (reverse x)) w ∙ ap (map (raw_named source known)) (reverse-append waiting (next ∷ [])))
        (subst R (ap (all_named known) (reverse-reverse next.tokens)) (subst Q called_is (subst P (calls-more known source e.calls after) c))))
      where
        after : Call
        after = record with_out { parameter = next.parameter; waiting = waiting }

        P : List Opened → Type 0
        P x = Comes source text macros mode x (at_hand known (reverse next.tokens)) [] p outcome

        called_is : opened source known after ≡ with_next source text macros (opened source known call) (all_named known e.out) (spelling source next.parameter) (map (raw_named source known) (reverse waiting))
        called_is = ap (λ x. record (opened source known after) { expanded = x }) expanded_is

        Q : Opened → Type 0
        Q x = Comes source text macros mode (x ∷ others) (at_hand known (reverse next.tokens)) [] p outcome

        R : List Lexeme → Type 0
        R x = Comes source text macros mode (with_next source text macros (opened source known call) (all_named known e.out) (spelling source next.parameter) (map (raw_named source known) (reverse waiting)) ∷ others) x [] p outcome

  -- ---- the turn of a name whose `(` was read

  module _ (mode : Mode) (t first : Lexeme) (rest behind : List Lexeme) (start p : Progress) (m : Macro) (parameters : List Token)
      (is : macro_of source macros t ≡ Some m) (takes : m.parameters ≡ Some parameters) (looks : LooksAhead text mode rest start (At (first ∷ behind) p)) (opens : is_mark source (codes "(") first ≡ true) where
    pub call-turns : (found : Called) (turn : Turn) → Collects source text mode 0 ([] ∷ []) behind p found → Calls source text macros m parameters t found turn
        → Turns source text macros mode t rest start (macro_of source macros t) turn
    call-turns found turn c h =
        let P : Option Macro → Type 0 = λ x. Turns source text macros mode t rest start x turn in
        subst P (sym is) (by.looks mode t rest start m parameters (At (first ∷ behind) p) turn takes looks (by.called mode t first m parameters behind p found turn opens c h))

    -- and of one whose arguments come to these
    pub closed-turns : (close : Lexeme) (arguments : List (List Lexeme)) (ahead : List Lexeme) (q : Progress) (found : Arguments)
        → Collects source text mode 0 ([] ∷ []) behind p (Closed arguments close ahead q) → length (arguments_of parameters arguments) ≡ length parameters
        → ExpandsWaiting source text macros (waiting_for source m.replacement parameters (arguments_of parameters arguments)) q found
        → Turns source text macros mode t rest start (macro_of source macros t) (replaced_call source (spelling source t.token ∷ shared t.hidden close.hidden) t.place m.replacement ahead found)
    closed-turns close arguments ahead q found c l h =
        call-turns (Closed arguments close ahead q) (replaced_call source (spelling source t.token ∷ shared t.hidden close.hidden) t.place m.replacement ahead found) c
        (by.closed m parameters t close arguments ahead q found (replaced_call source (spelling source t.token ∷ shared t.hidden close.hidden) t.place m.replacement ahead found) l
        (arguments-expanded source text macros m.replacement parameters (arguments_of parameters arguments) q found l h) refl)

  -- ---- the whole

  -- with no open call and nothing before, what is at hand comes to what it is expanded to
  comes-expanded : (mode : Mode) (pending : List Lexeme) (p : Progress) (outcome : Outcome) → Comes source text macros mode [] pending [] p outcome → Expands source text macros mode pending p outcome
  comes-expanded mode pending p outcome (hand.alone _ _ _ _ more x e) =
      let P : Outcome → Type 0 = λ z. Expands source text macros mode pending p z in subst P (sym (e ∙ nothing more)) x
    where
      nothing : (more : Outcome) → with_before [] more ≡ more
      nothing (Done out q) = refl
      nothing (Stopped fault) = refl

  module _ (mode : Mode) (known : Known) (e : Expander) (p : Progress) (no_out : e.out ≡ []) (no_calls : e.calls ≡ []) where
    pub start-expanded : (outcome : Outcome) → ComesTo source text macros mode known e p outcome → Expands source text macros mode (at_hand known e.pending) p outcome
    start-expanded outcome c =
        let P : List Call → Type 0 = λ x. Comes source text macros mode (map (opened source known) (reverse x)) (at_hand known e.pending) (all_named known e.out) p outcome in
        let Q : List Numbered → Type 0 = λ x. Comes source text macros mode [] (at_hand known e.pending) (all_named known x) p outcome in
        comes-expanded mode (at_hand known e.pending) p outcome (subst Q no_out (subst P no_calls c))

  pub end-comes : (mode : Mode) (known : Known) (f : Expander) (q : Progress) → f.pending ≡ [] → f.calls ≡ [] → ComesTo source text macros mode known f q (Done (all_named known f.out) q)
  end-comes mode known f q no_tokens no_calls =
      let P : List Call → Type 0 = λ x. Comes source text macros mode (map (opened source known) (reverse x)) (at_hand known f.pending) (all_named known f.out) q (Done (all_named known f.out) q) in
      let Q : List Numbered → Type 0 = λ x. Comes source text macros mode [] (at_hand known x) (all_named known f.out) q (Done (all_named known f.out) q) in
      subst P (sym no_calls) (subst Q (sym no_tokens)
      (hand.alone [] (all_named known f.out) q (Done (all_named known f.out) q) (Done [] q) (by.ends mode q) (ap (λ x. Done x q) (sym (append-nil (all_named known f.out))))))

  -- ---- a call that is opened by an expander

  -- what it comes to is the same where sets are added
  pub call-kept : (mode : Mode) (known new : Known) (keeps : Keeps known new) (e : Expander) (name : Numbered) (p : Progress) (outcome : Outcome) → IsKnown known e → name.hidden < length known
      → IsCallOpened source text macros mode new e name p outcome → IsCallOpened source text macros mode known e name p outcome
  call-kept mode known new keeps e name p outcome h n c = λ first rest start looks opens.
      let P : List Lexeme → Type 0 = λ x. LooksAhead text (mode_of mode e.calls) rest start (At (first ∷ x) p) in
      let Q : List Opened → Type 0 = λ x. Comes source text macros mode x (named new name ∷ rest) (all_named new e.out) start outcome in
      let R : Lexeme → Type 0 = λ x. Comes source text macros mode (map (opened source known) (reverse e.calls)) (x ∷ rest) (all_named new e.out) start outcome in
      let S : List Lexeme → Type 0 = λ x. Comes source text macros mode (map (opened source known) (reverse e.calls)) (named known name ∷ rest) x start outcome in
      subst S (all-kept known new keeps e.out h.1)
      (subst R (named-kept known new keeps name n)
      (subst Q (calls-kept known new keeps source e.calls h.2) (c first rest start (subst P (sym (hand-kept known new keeps e.pending h.0)) looks) opens)))

  module _ (mode : Mode) (known : Known) (e : Expander) (name : Numbered) (p : Progress) (m : Macro) (parameters : List Token)
      (is : macro_of source macros (named known name) ≡ Some m) (takes : m.parameters ≡ Some parameters) where
    abbrev outer : List Opened
    outer = map (opened source known) (reverse e.calls)

    first_turns : (rest : List Lexeme) (start : Progress) (turn : Turn)
        → Turns source text macros (mode_of mode e.calls) (named known name) rest start (macro_of source macros (named known name)) turn → FirstTurns source text macros mode outer (named known name) rest start turn
    first_turns rest start turn h =
        let P : Mode → Type 0 = λ x. Turns source text macros x (named known name) rest start (macro_of source macros (named known name)) turn in
        subst P (sym (mode-same known source mode e.calls)) h

    pub open-fault : (found : Called) (fault : ExpandFault) → Collects source text (mode_of mode e.calls) 0 ([] ∷ []) (at_hand known e.pending) p found
        → Calls source text macros m parameters (named known name) found (Faults fault) → IsCallOpened source text macros mode known e name p (Stopped fault)
    open-fault found fault c h = λ first rest start looks opens.
        faults-comes source text macros mode outer (named known name) rest (all_named known e.out) start fault
        (first_turns rest start (Faults fault)
        (call-turns (mode_of mode e.calls) (named known name) first rest (at_hand known e.pending) start p m parameters is takes looks opens found (Faults fault) c h))

    module _ (close : Lexeme) (arguments : List (List Lexeme)) (behind : List Lexeme) (q : Progress)
        (collects : Collects source text (mode_of mode e.calls) 0 ([] ∷ []) (at_hand known e.pending) p (Closed arguments close behind q))
        (even : length (arguments_of parameters arguments) ≡ length parameters) where
      abbrev hidden_names : List (List ℕ)
      hidden_names = spelling source name.token ∷ shared (set_at known name.hidden) close.hidden

      abbrev waits : List Named
      waits = waiting_for source m.replacement parameters (arguments_of parameters arguments)

      turn_is : (first : Lexeme) (rest : List Lexeme) (start : Progress) → LooksAhead text (mode_of mode e.calls) rest start (At (first ∷ at_hand known e.pending) p) → is_mark source (codes "(") first ≡ true
          → (found : Arguments) → ExpandsWaiting source text macros waits q found
          → FirstTurns source text macros mode outer (named known name) rest start (replaced_call source hidden_names name.place m.replacement behind found)
      turn_is first rest start looks opens found h =
          first_turns rest start (replaced_call source hidden_names name.place m.replacement behind found)
          (closed-turns (mode_of mode e.calls) (named known name) first rest (at_hand known e.pending) start p m parameters is takes looks opens close arguments behind q found collects even h)

      pub open-none : (outcome : Outcome) → waits ≡ []
          → ((produced_limit < q.produced + length (result_of source hidden_names name.place [] m.replacement)) × (outcome ≡ Stopped (Produced name.place)))
          ⊎ ((q.produced + length (result_of source hidden_names name.place [] m.replacement) ≤ produced_limit)
          × Comes source text macros mode outer (result_of source hidden_names name.place [] m.replacement ++ behind) (all_named known e.out) (producing q (length (result_of source hidden_names name.place [] m.replacement))) outcome)
          → IsCallOpened source text macros mode known e name p outcome
      open-none outcome w h = λ first rest start looks opens.
          none-waits source text macros mode outer (named known name) rest (all_named known e.out) start q m hidden_names behind waits (turn_is first rest start looks opens) outcome w h

      pub open-first : (parameter : List ℕ) (tokens : List Lexeme) (others : List Named) (outcome : Outcome) → waits ≡ (parameter, tokens) ∷ others
          → Comes source text macros mode
          (record { meaning = m; hidden = hidden_names; place = name.place; parameter = parameter; waiting = others; expanded = []; behind = behind; before = all_named known e.out } ∷ outer) tokens [] q outcome
          → IsCallOpened source text macros mode known e name p outcome
      open-first parameter tokens others outcome w h = λ first rest start looks opens.
          first-waits source text macros mode outer (named known name) rest (all_named known e.out) start q m hidden_names behind waits (turn_is first rest start looks opens) parameter tokens others outcome w h
