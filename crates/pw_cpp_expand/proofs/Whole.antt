-- The steps of the code, whole.
use Rattle.std.proofs.Common.{◌≡◌, ℕ, ◌+◌, ◌<◌, ◌≤◌, Bool, true, false, List, [], ◌∷◌, ◌++◌, length, map, reverse, Option, Some, None, Result, Ok, Err, MatchOption, inl, inr, ◌⊎◌, refl, sym, ap, ◌∙◌, subst, All, arith}
use Rattle.std.proofs.lemmas.Bool.{false≢true}
use Rattle.std.proofs.lemmas.List.{append-nil, length-map, map-append, reverse-append, reverse-reverse}
use Rattle.std.proofs.lemmas.List.Elements.{All-append, All-nil, All-pop, All-push}
use Rattle.std.specs.List.{flat_map}
use Rattle.std.specs.Prelude.{codes, if◌then◌else◌, not, ◌||◌}
use Rattle.pw_token.specs.Roles.{spelling}
use Rattle.pw_token.specs.declared.token.Token.{Token}
use Rattle.pw_cpp_macros.specs.Definitions.{is_word}
use Rattle.pw_cpp_macros.specs.Macros.{Macros, find}
use Rattle.pw_cpp_macros.specs.declared.definition.Macro.{Macro}
use Rattle.pw_cpp_expand.specs.AtHand.{AnswersExpansion, Comes, ComesTo, IsCallKnown, IsCallOpened, IsCallRead, IsFaultOfCall, IsKnown, IsReadKnown, IsReady, IsReplacedBy, IsStep, IsStepTo, IsWithinLimits, Named, Opened, PutsOut, PutsResult, argument_named, mode_of, opened, raw_named, waiting_for}
use Rattle.pw_cpp_expand.specs.Calls.{Called, Closed, Open, Fails, Collects, arguments_of, is_mark}
use Rattle.pw_cpp_expand.specs.Calls as calls_of
use Rattle.pw_cpp_expand.specs.Expansion.{Arguments, Calls, Expands, Outcome, Done, Stopped, Turn, Turns, Stands, Becomes, Faults, argument_for, argument_of, begins_call, macro_of, produced_limit, producing, replaced, result_of}
use Rattle.pw_cpp_expand.specs.Expansion as by
use Rattle.pw_cpp_expand.specs.Lookahead.{Ahead, At, Faulty, Lexeme, LooksAhead, output_limit}
use Rattle.pw_cpp_expand.specs.Numbered.{AreKnown, HaveEmpty, IsFault, all_named, at_hand, named, room_of}
use Rattle.pw_cpp_expand.specs.declared.expansion.Call.{Call}
use Rattle.pw_cpp_expand.specs.declared.expansion.Expander.{Expander}
use Rattle.pw_cpp_expand.specs.declared.expansion.Raw.{Raw}
use Rattle.pw_cpp_expand.specs.declared.expansion.Read.{Read}
use Rattle.pw_cpp_expand.specs.declared.progress.ExpandFault.{ExpandFault}
use Rattle.pw_cpp_expand.specs.declared.progress.ExpandFault.TheVariants as no
use Rattle.pw_cpp_expand.specs.declared.progress.Lexeme.{Lexeme as Numbered}
use Rattle.pw_cpp_expand.specs.declared.progress.Mode.{Mode}
use Rattle.pw_cpp_expand.specs.declared.progress.Mode.TheVariants.{Alone}
use Rattle.pw_cpp_expand.specs.declared.progress.Progress.{Progress}
use Rattle.pw_cpp_expand.specs.declared.result.Expanded.{Expanded as Argument}
use Rattle.pw_cpp_expand.proofs.Kept.{calls-on, comes-kept, empty-on, keeps-on, known-on, named-kept, raws-on, reversed-all}
use Rattle.pw_cpp_expand.proofs.Limits.{collects-within, looks-within}
use Rattle.pw_cpp_expand.proofs.Turning.{before-first, calls-more, becomes-step, call-kept, end-comes, fault-step, fault-weaker, hand-more, last-step, next-step, open-fault, open-first, open-none, replaced-known, replaced-step, stands-step, start-expanded}
use Rattle.pw_cpp_sets.specs.Sets.{Keeps, Known, contains, set_at, shared}

-- ---- what may be expanded

pub keeps-same : (known : Known) → Keeps known known
keeps-same known = record { count = omega arith; same = λ number l. refl }

module _ (text : List ℕ) where
  -- the first token at hand is taken off
  pub ready-first : (known : Known) (e : Expander) (p : Progress) (pending : List Numbered) (l : Numbered) → e.pending ≡ pending ++ l ∷ [] → IsReady text known e p
      → IsReady text known (record e { pending = pending }) p × (l.hidden < length known)
  ready-first known e p pending l is r =
      let both = All-pop (λ (l : Numbered). l.hidden < length known) e.pending pending (Some l) is r.sets.0 in
      (record { place = r.place; sets = (both.0, r.sets.1, r.sets.2); limits = r.limits; empty = r.empty }, both.1)

  -- other tokens are at hand, and the text has come further
  pub ready-ahead : (known : Known) (e : Expander) (p q : Progress) (pending : List Numbered) → IsReady text known e p → q.next ≤ length text → AreKnown known pending → IsWithinLimits q
      → IsReady text known (record e { pending = pending }) q
  ready-ahead known e p q pending r n h l = record { place = n; sets = (h, r.sets.1, r.sets.2); limits = l; empty = r.empty }

  -- the innermost call is taken off
  pub ready-inner : (known : Known) (e : Expander) (p : Progress) (pending : List Numbered) (calls : List Call) (call : Call) → pending ≡ [] → e.calls ≡ calls ++ call ∷ [] → IsReady text known e p
      → IsReady text known (record e { pending = pending; calls = calls }) p × IsCallKnown known call
  ready-inner known e p pending calls call none is r =
      let both = All-pop (IsCallKnown known) e.calls calls (Some call) is r.sets.2 in
      let P : List Numbered → Type 0 = λ x. AreKnown known x in
      (record { place = r.place; sets = (subst P (sym none) (All-nil (λ (l : Numbered). l.hidden < length known)), r.sets.1, both.0); limits = r.limits; empty = r.empty }, both.1)

  -- no token stands before what is at hand
  pub ready-no_out : (known : Known) (e : Expander) (p : Progress) (out : List Numbered) → out ≡ [] → IsReady text known e p → IsReady text known (record e { out = out }) p
  ready-no_out known e p out none r = record { place = r.place; sets = (r.sets.0, no_tokens, r.sets.2); limits = r.limits; empty = r.empty }
    where
      no_tokens : AreKnown known out
      no_tokens = let P : List Numbered → Type 0 = λ x. AreKnown known x in subst P (sym none) (All-nil (λ (l : Numbered). l.hidden < length known))

  -- sets are added
  pub ready-on : (known new : Known) → Keeps known new → (e : Expander) (p : Progress) → IsReady text known e p → IsReady text new e p
  ready-on known new k e p r = record {
    place = r.place;
    sets = (known-on known new k e.pending r.sets.0, known-on known new k e.out r.sets.1, calls-on known new k e.calls r.sets.2);
    limits = r.limits;
    empty = empty-on known new k r.empty;
  }

  -- a token stands
  pub ready-out : (known : Known) (mode : Mode) (l : Numbered) (e : Expander) (p : Progress) (f : Expander) (q : Progress) → IsReady text known e p → l.hidden < length known
      → PutsOut mode l e p f q (Ok tt) → IsReady text known f q
  ready-out known mode l e p f q r h put =
      let P : Expander → Type 0 = λ x. IsReady text known x q in
      let Q : Progress → Type 0 = λ x. IsReady text known (record e { out = e.out ++ l ∷ [] }) x in
      subst P (sym put.0) (subst Q (sym put.1) (record {
        place = r.place;
        sets = (r.sets.0, All-push (λ (l : Numbered). l.hidden < length known) e.out l r.sets.1 h, r.sets.2);
        limits = (r.limits.0, put.2);
        empty = r.empty;
      }))

  -- a result is at hand
  pub ready-result : (known : Known) (made : List Numbered) (place : ℕ) (e : Expander) (p : Progress) (f : Expander) (q : Progress) → IsReady text known e p → AreKnown known made
      → PutsResult made place e p f q (Ok tt) → IsReady text known f q
  ready-result known made place e p f q r h put =
      let P : Expander → Type 0 = λ x. IsReady text known x q in
      let Q : Progress → Type 0 = λ x. IsReady text known (record e { pending = e.pending ++ reverse made }) x in
      subst P (sym put.0) (subst Q (sym put.1) (record {
        place = r.place;
        sets = (
          All-append (λ (l : Numbered). l.hidden < length known) e.pending (reverse made) r.sets.0 (reversed-all (λ (l : Numbered). l.hidden < length known) made h),
          r.sets.1,
          r.sets.2,
        );
        limits = (put.2, r.limits.1);
        empty = r.empty;
      }))

  -- an argument is at hand
  pub ready-argument : (known : Known) (e : Expander) (p : Progress) (call : Call) (tokens : List Numbered) (f : Expander) → IsReady text known e p → IsCallKnown known call → AreKnown known tokens
      → f ≡ record e { calls = e.calls ++ call ∷ []; pending = reverse tokens } → IsReady text known f p
  ready-argument known e p call tokens f r c h is =
      let P : Expander → Type 0 = λ x. IsReady text known x p in
      subst P (sym is) (record {
        place = r.place;
        sets = (reversed-all (λ (l : Numbered). l.hidden < length known) tokens h, r.sets.1, All-push (IsCallKnown known) e.calls call r.sets.2 c);
        limits = r.limits;
        empty = r.empty;
      })

-- ---- the mode

pub mode-outside : (mode : Mode) (calls : List Call) → calls ≡ [] → mode ≡ mode_of mode calls
mode-outside mode calls e = sym (ap (mode_of mode) e)

pub mode-inside : (mode : Mode) (calls : List Call) → (calls ≡ [] → ⊥) → Alone ≡ mode_of mode calls
mode-inside mode [] h = absurd (h refl)
mode-inside mode (call ∷ calls) h = refl

-- ---- the macro whose name a token is

module _ (source : List ℕ) (macros : Macros) (t : Lexeme) where
  pub no-word : is_word t.token ≡ false → macro_of source macros t ≡ None
  no-word e = rw e refl

  pub no-macro : contains t.hidden (spelling source t.token) ≡ true → macro_of source macros t ≡ None
  no-macro e = by_word (is_word t.token)
    where
      by_word : (b : Bool) → (if not b || contains t.hidden (spelling source t.token) then None else find macros (spelling source t.token)) ≡ None
      by_word true = rw e refl
      by_word false = refl

  pub any-macro : is_word t.token ≡ true → contains t.hidden (spelling source t.token) ≡ false → macro_of source macros t ≡ find macros (spelling source t.token)
  any-macro e k = rw (e, k) refl

-- ---- steps

module _ (source text : List ℕ) (macros : Macros) (mode : Mode) where
  -- a step behind sets that were added, for what was at hand before
  pub step-on : {A : Type 0} (known old new : Known) → Keeps known old → (Is Was : Outcome → Type 0) → ((outcome : Outcome) → Is outcome → Was outcome)
      → (e : Expander) (p : Progress) (result : Result A ExpandFault) → IsStep source text macros mode old Is new e p result → IsStep source text macros mode known Was new e p result
  step-on known old new k Is Was w e p (Ok done) h = (keeps-on known old new k h.0, h.1, λ outcome c. w outcome (h.2 outcome c))
  step-on known old new k Is Was w e p (Err fault) (inl h) = inl h
  step-on known old new k Is Was w e p (Err fault) (inr h) = inr (w (Stopped fault) h)

  -- a fault is what was at hand comes to
  pub step-failed : {A : Type 0} (known new : Known) (Is : Outcome → Type 0) (e : Expander) (p : Progress) (fault : ExpandFault) (result : Result A ExpandFault) → result ≡ Err fault
      → IsFault fault (λ f. Is (Stopped f)) → IsStep source text macros mode known Is new e p result
  step-failed {A = A} known new Is e p fault result is h = let P : Result A ExpandFault → Type 0 = λ x. IsStep source text macros mode known Is new e p x in subst P (sym is) h

  -- the answer does not matter
  pub step-same : {A B : Type 0} (known new : Known) (Is : Outcome → Type 0) (e : Expander) (p : Progress) (done : A) (answer : B)
      → IsStep source text macros mode known Is new e p (Ok done) → IsStep source text macros mode known Is new e p (Ok answer)
  step-same known new Is e p done answer h = h

  -- a call whose arguments are all expanded is replaced
  pub replaced-whole : (known new : Known) → Keeps known new → (e : Expander) (call : Call) (made : List Numbered) (p : Progress) → IsReady text known e p → IsCallKnown known call
      → AreKnown new made → all_named new made ≡ result_of source (set_at known call.replaced.hidden) call.replaced.place (map (argument_named source known) call.expanded) call.meaning.now.replacement
      → (f : Expander) (q : Progress) (result : Result (Unit {0}) ExpandFault) → PutsResult made call.replaced.place (record e { pending = call.behind; out = call.before }) p f q result
      → IsStep source text macros mode known (IsReplacedBy source text macros mode known e call p) new f q result
  replaced-whole known new k e call made p r c m is f q (Ok done) put = (
    k,
    ready-result text new made call.replaced.place (record e { pending = call.behind; out = call.before }) p f q (record {
      place = r.place;
      sets = (known-on known new k call.behind c.3, known-on known new k call.before c.4, calls-on known new k e.calls r.sets.2);
      limits = r.limits;
      empty = empty-on known new k r.empty;
    }) m put,
    replaced-step source text macros mode known new k e call made p r.sets.2 c is q f (Ok done) put,
  )
  replaced-whole known new k e call made p r c m is f q (Err fault) put = replaced-step source text macros mode known new k e call made p r.sets.2 c is q f (Err fault) put

  -- ---- behind an argument that is expanded

  module _ (known : Known) (e : Expander) (call : Call) (p : Progress) (none : e.pending ≡ []) (expanded : List Argument) (tokens : List Numbered) (tokens_are : tokens ≡ e.out)
      (expanded_is : expanded ≡ call.expanded ++ record { parameter = call.parameter; tokens = tokens } ∷ []) where
    abbrev pub Was : Outcome → Type 0
    Was outcome = ComesTo source text macros mode known (record e { calls = e.calls ++ call ∷ [] }) p outcome

    with_out_is : expanded ≡ call.expanded ++ record { parameter = call.parameter; tokens = e.out } ∷ []
    with_out_is = expanded_is ∙ ap (λ x. call.expanded ++ record { parameter = call.parameter; tokens = x } ∷ []) tokens_are

    pub argument-known : IsReady text known e p → IsCallKnown known call → (waiting : List Raw) → All (λ raw. AreKnown known raw.tokens) waiting
        → IsCallKnown known (record call { expanded = expanded; waiting = waiting })
    argument-known r c waiting w = (c.0, w, all, c.3, c.4)
      where
        last : AreKnown known tokens
        last = let P : List Numbered → Type 0 = λ x. AreKnown known x in subst P (sym tokens_are) r.sets.1

        all : All (λ argument. AreKnown known argument.tokens) expanded
        all =
            let P : List Argument → Type 0 = λ x. All (λ argument. AreKnown known argument.tokens) x in
            subst P (sym expanded_is) (All-push (λ (a : Argument). AreKnown known a.tokens) call.expanded (record { parameter = call.parameter; tokens = tokens }) c.2 last)

    -- no argument waits
    pub last-argument : call.waiting ≡ [] → (out : List Numbered) (waiting : List Raw) (new : Known) (f : Expander) (q : Progress) (result : Result (Unit {0}) ExpandFault)
        → IsStep source text macros mode known (IsReplacedBy source text macros mode known (record e { out = out }) (record call { expanded = expanded; waiting = waiting }) p) new f q result
        → IsStep source text macros mode known Was new f q result
    last-argument w out waiting new f q result h =
        step-on known known new (keeps-same known) (IsReplacedBy source text macros mode known (record e { out = out }) (record call { expanded = expanded; waiting = waiting }) p) Was
        (λ outcome x.
        let P : List Argument → Type 0 = λ z. IsReplacedBy source text macros mode known e (record call { expanded = z }) p outcome in
        last-step source text macros mode known e call p outcome none w (subst P with_out_is x))
        f q result h

    -- the next argument is at hand
    pub next-argument : (waiting : List Raw) (next : Raw) → call.waiting ≡ waiting ++ next ∷ [] → (out : List Numbered) → out ≡ [] → IsReady text known e p → IsCallKnown known call → (f : Expander)
        → f ≡ record e { out = out; calls = e.calls ++ record call { expanded = expanded; parameter = next.parameter; waiting = waiting } ∷ []; pending = reverse next.tokens }
        → IsStep source text macros mode known Was known f p (Ok (tt {0}))
    next-argument waiting next w out no_out r c f is = (
      keeps-same known,
      ready-argument text known (record e { out = out }) p (record call { expanded = expanded; parameter = next.parameter; waiting = waiting }) next.tokens f
          (ready-no_out text known e p out no_out r) (argument-known r c waiting waits.0) waits.1 is,
      λ outcome x.
          let P : Expander → Type 0 = λ z. ComesTo source text macros mode known z p outcome in
          let Q : List Numbered → Type 0 = λ z. ComesTo source text macros mode known (record e { out = z; calls = e.calls ++ record call { expanded = expanded; parameter = next.parameter; waiting = waiting } ∷ []; pending = reverse next.tokens }) p outcome in
          let R : List Argument → Type 0 = λ z. ComesTo source text macros mode known (record e { out = []; calls = e.calls ++ record call { expanded = z; parameter = next.parameter; waiting = waiting } ∷ []; pending = reverse next.tokens }) p outcome in
          next-step source text macros mode known e call p outcome none next waiting w (subst R with_out_is (subst Q no_out (subst P is x))),
    )
      where
        waits : All (λ raw. AreKnown known raw.tokens) waiting × AreKnown known next.tokens
        waits = All-pop (λ (raw : Raw). AreKnown known raw.tokens) call.waiting waiting (Some next) w c.1

  -- ---- a name

  module _ (known : Known) (e : Expander) (l : Numbered) (p : Progress) where
    abbrev pub Before : Outcome → Type 0
    Before outcome = ComesTo source text macros mode known (record e { pending = e.pending ++ l ∷ [] }) p outcome

    abbrev pub FirstTurn : Turn → Type 0
    FirstTurn turn = Turns source text macros (mode_of mode e.calls) (named known l) (at_hand known e.pending) p (macro_of source macros (named known l)) turn

    -- it stands, with these ahead of it
    pub stands-whole : (pending : List Numbered) (q : Progress) → FirstTurn (Stands (at_hand known pending) q) → IsReady text known (record e { pending = pending }) q → l.hidden < length known
        → (f : Expander) (r : Progress) (result : Result (Unit {0}) ExpandFault) → PutsOut mode l (record e { pending = pending }) q f r result → IsStep source text macros mode known Before known f r result
    stands-whole pending q turn ready h f r (Ok done) put =
        (keeps-same known, ready-out text known mode l (record e { pending = pending }) q f r ready h put, stands-step source text macros mode known e l p pending q f r (Ok done) turn put)
    stands-whole pending q turn ready h f r (Err fault) put = stands-step source text macros mode known e l p pending q f r (Err fault) turn put

    -- it is no macro's
    pub no-macro-turn : macro_of source macros (named known l) ≡ None → FirstTurn (Stands (at_hand known e.pending) p)
    no-macro-turn is =
        let P : Option Macro → Type 0 = λ x. Turns source text macros (mode_of mode e.calls) (named known l) (at_hand known e.pending) p x (Stands (at_hand known e.pending) p) in
        subst P (sym is) (by.no_macro (mode_of mode e.calls) (named known l) (at_hand known e.pending) p)

    -- it is a macro's that takes arguments
    module _ (m : Macro) (parameters : List Token) (is : macro_of source macros (named known l) ≡ Some m) (takes : m.parameters ≡ Some parameters) where
      looking : (ahead : Ahead) (turn : Turn) → LooksAhead text (mode_of mode e.calls) (at_hand known e.pending) p ahead
          → by.Meets source text macros (mode_of mode e.calls) (named known l) m parameters ahead turn → FirstTurn turn
      looking ahead turn looks meets =
          let P : Option Macro → Type 0 = λ x. Turns source text macros (mode_of mode e.calls) (named known l) (at_hand known e.pending) p x turn in
          subst P (sym is) (by.looks (mode_of mode e.calls) (named known l) (at_hand known e.pending) p m parameters ahead turn takes looks meets)

      pub uncalled-turn : (pending : List Numbered) (q : Progress) → LooksAhead text (mode_of mode e.calls) (at_hand known e.pending) p (At (at_hand known pending) q)
          → begins_call source (at_hand known pending) ≡ false → FirstTurn (Stands (at_hand known pending) q)
      uncalled-turn pending q looks no_call =
          looking (At (at_hand known pending) q) (Stands (at_hand known pending) q) looks (by.uncalled (mode_of mode e.calls) (named known l) m parameters (at_hand known pending) q no_call)

      pub unread-step : (fault : ExpandFault) → HaveEmpty known
          → IsFault fault (λ f. (any : Known) → HaveEmpty any → LooksAhead text (mode_of mode e.calls) (at_hand any e.pending) p (Faulty f)) → IsFault fault (λ f. Before (Stopped f))
      unread-step fault empty h =
          fault-weaker (λ f. (any : Known) → HaveEmpty any → LooksAhead text (mode_of mode e.calls) (at_hand any e.pending) p (Faulty f)) (λ f. Before (Stopped f)) fault
          (λ f looks. fault-step source text macros mode known e l p f
          (looking (Faulty f) (Faults f) (looks known empty) (by.unread (mode_of mode e.calls) (named known l) m parameters f)))
          h

      -- a call begins, of which the `(` was taken off
      pub call-whole : (ahead pending : List Numbered) (first : Numbered) (q : Progress) → LooksAhead text (mode_of mode e.calls) (at_hand known e.pending) p (At (at_hand known ahead) q)
          → ahead ≡ pending ++ first ∷ [] → is_mark source (codes "(") (named known first) ≡ true → (new : Known) (f : Expander) (r : Progress) (result : Result (Unit {0}) ExpandFault)
          → IsStep source text macros mode known (IsCallOpened source text macros mode known (record e { pending = pending }) l q) new f r result
          → IsStep source text macros mode known Before new f r result
      call-whole ahead pending first q looks is_first opens new f r result h =
          step-on known known new (keeps-same known) (IsCallOpened source text macros mode known (record e { pending = pending }) l q) Before
          (λ outcome x. before-first source text macros mode known e l p outcome (x (named known first) (at_hand known e.pending) p looks_first opens)) f r result h
        where
          looks_first : LooksAhead text (mode_of mode e.calls) (at_hand known e.pending) p (At (named known first ∷ at_hand known pending) q)
          looks_first =
              let P : List Lexeme → Type 0 = λ x. LooksAhead text (mode_of mode e.calls) (at_hand known e.pending) p (At x q) in
              subst P (ap (at_hand known) is_first ∙ hand-more known pending first) looks

    -- what stands ahead begins a call, or none
    pub no-call : (ahead pending : List Numbered) (first : Numbered) → ahead ≡ pending ++ first ∷ [] → is_mark source (codes "(") (named known first) ≡ false → begins_call source (at_hand known ahead) ≡ false
    no-call ahead pending first is e = ap (begins_call source) (ap (at_hand known) is ∙ hand-more known pending first) ∙ e

    pub nothing-ahead : (ahead : List Numbered) → ahead ≡ [] → begins_call source (at_hand known ahead) ≡ false
    nothing-ahead ahead e = ap (λ x. begins_call source (at_hand known x)) e

  -- ---- the name of a macro that takes arguments, behind what was looked at ahead

  module _ (known : Known) (e : Expander) (l : Numbered) (p : Progress) (m : Macro) (parameters : List Token) (is : macro_of source macros (named known l) ≡ Some m) (takes : m.parameters ≡ Some parameters)
      (ready : IsReady text known e p) (known_name : l.hidden < length known) (looked : Mode) (looked_is : looked ≡ mode_of mode e.calls) (ahead : List Numbered) (q : Progress)
      (looks : (any : Known) → HaveEmpty any → LooksAhead text looked (at_hand any e.pending) p (At (at_hand any ahead) q)) (within : q.next ≤ length text) (ahead_known : AreKnown known ahead) where
    looks_there : LooksAhead text (mode_of mode e.calls) (at_hand known e.pending) p (At (at_hand known ahead) q)
    looks_there =
        let P : Mode → Type 0 = λ x. LooksAhead text x (at_hand known e.pending) p (At (at_hand known ahead) q) in
        subst P looked_is (looks known ready.empty)

    pub ahead-ready : IsReady text known (record e { pending = ahead }) q
    ahead-ready = ready-ahead text known e p q ahead ready within ahead_known (looks-within text (mode_of mode e.calls) (at_hand known e.pending) p (At (at_hand known ahead) q) looks_there ready.limits)

    -- nothing is ahead
    pub stands-last : (pending : List Numbered) → ahead ≡ [] → pending ≡ [] → (f : Expander) (r : Progress) (result : Result (Unit {0}) ExpandFault)
        → PutsOut mode l (record e { pending = pending }) q f r result → IsStep source text macros mode known (Before known e l p) known f r result
    stands-last pending none left f r result put =
        let P : List Numbered → Type 0 = λ x. PutsOut mode l (record e { pending = x }) q f r result in
        stands-whole known e l p ahead q (uncalled-turn known e l p m parameters is takes ahead q looks_there (nothing-ahead known e l p ahead none)) ahead-ready known_name f r result
        (subst P (left ∙ sym none) put)

    -- a token is ahead that is no `(`
    pub stands-before : (pending back : List Numbered) (first : Numbered) → ahead ≡ pending ++ first ∷ [] → back ≡ pending ++ first ∷ [] → is_mark source (codes "(") (named known first) ≡ false
        → (f : Expander) (r : Progress) (result : Result (Unit {0}) ExpandFault)
        → PutsOut mode l (record e { pending = back }) q f r result → IsStep source text macros mode known (Before known e l p) known f r result
    stands-before pending back first ahead_is back_is e_mark f r result put =
        let P : List Numbered → Type 0 = λ x. PutsOut mode l (record e { pending = x }) q f r result in
        stands-whole known e l p ahead q (uncalled-turn known e l p m parameters is takes ahead q looks_there (no-call known e l p ahead pending first ahead_is e_mark)) ahead-ready known_name f r result
        (subst P (back_is ∙ sym ahead_is) put)

    -- a `(` is ahead
    pub opens-ready : (pending : List Numbered) (first : Numbered) → ahead ≡ pending ++ first ∷ [] → IsReady text known (record e { pending = pending }) q
    opens-ready pending first ahead_is = (ready-first text known (record e { pending = ahead }) q pending first ahead_is ahead-ready).0

    pub opens-whole : (pending : List Numbered) (first : Numbered) → ahead ≡ pending ++ first ∷ [] → is_mark source (codes "(") (named known first) ≡ true
        → (new : Known) (f : Expander) (r : Progress) (result : Result (Unit {0}) ExpandFault)
        → IsStep source text macros mode known (IsCallOpened source text macros mode known (record e { pending = pending }) l q) new f r result
        → IsStep source text macros mode known (Before known e l p) new f r result
    opens-whole pending first ahead_is e_mark new f r result h = call-whole known e l p m parameters is takes ahead pending first q looks_there ahead_is e_mark new f r result h

  -- ---- the name of a macro that takes no arguments

  no_arguments : (hidden : List (List ℕ)) (place : ℕ) (replacement : List Token) → result_of source hidden place [] replacement ≡ map (calls_of.made hidden place) replacement
  no_arguments hidden place [] = refl
  no_arguments hidden place (token ∷ more) =
      ap (λ x. x ++ result_of source hidden place [] more) (none (is_word token)) ∙ ap (λ x. calls_of.made hidden place token ∷ x) (no_arguments hidden place more)
    where
      none : (b : Bool) → replaced hidden place token (if b then argument_of [] (spelling source token) else None) ≡ calls_of.made hidden place token ∷ []
      none true = refl
      none false = refl

  module _ (known middle new : Known) (k : Keeps known middle) (j : Keeps middle new) (e : Expander) (l : Numbered) (p : Progress) (m : Macro) (hidden : ℕ) (name : List ℕ) (place : ℕ)
      (name_is : name ≡ spelling source l.token) (hidden_is : set_at middle hidden ≡ name ∷ set_at known l.hidden) (place_is : place ≡ l.place)
      (is : macro_of source macros (named known l) ≡ Some m) (alone : m.parameters ≡ None) (ready : IsReady text known e p) (known_name : l.hidden < length known) (made : List Numbered)
      (made_is : all_named new made ≡ result_of source (set_at middle hidden) place [] m.replacement) where
    all_keeps : Keeps known new
    all_keeps = keeps-on known middle new k j

    turn : Turns source text macros (mode_of mode e.calls) (named new l) (at_hand new e.pending) p (macro_of source macros (named new l)) (Becomes (all_named new made) (at_hand new e.pending) p)
    turn =
        let P : Option Macro → Type 0 = λ x. Turns source text macros (mode_of mode e.calls) (named new l) (at_hand new e.pending) p x (Becomes (all_named new made) (at_hand new e.pending) p) in
        subst P (sym (ap (macro_of source macros) (named-kept known new all_keeps l known_name) ∙ is))
        (by.object (mode_of mode e.calls) (named new l) (at_hand new e.pending) p m (all_named new made) alone
        (made_is ∙ ap (λ x. result_of source (set_at middle hidden) x [] m.replacement) place_is
        ∙ no_arguments (set_at middle hidden) l.place m.replacement
        ∙ ap (λ x. map (calls_of.made x l.place) m.replacement) (hidden_is ∙ ap (λ x. x ∷ set_at known l.hidden) name_is ∙ ap (λ x. spelling source l.token ∷ x) (sym (all_keeps.same l.hidden known_name)))))

    pub named-whole : AreKnown new made → (f : Expander) (q : Progress) (result : Result (Unit {0}) ExpandFault) → PutsResult made place e p f q result
        → IsStep source text macros mode known (λ outcome. ComesTo source text macros mode known (record e { pending = e.pending ++ l ∷ [] }) p outcome) new f q result
    named-whole m_known f q result put = by_result result (placed put)
      where
        placed : PutsResult made place e p f q result → PutsResult made l.place e p f q result
        placed h = let P : ℕ → Type 0 = λ x. PutsResult made x e p f q result in subst P place_is h

        with_name : IsKnown known (record e { pending = e.pending ++ l ∷ [] })
        with_name = (All-push (λ (l : Numbered). l.hidden < length known) e.pending l ready.sets.0 known_name, ready.sets.1, ready.sets.2)

        by_result : (result : Result (Unit {0}) ExpandFault) → PutsResult made l.place e p f q result
            → IsStep source text macros mode known (λ outcome. ComesTo source text macros mode known (record e { pending = e.pending ++ l ∷ [] }) p outcome) new f q result
        by_result (Ok done) put = (
          all_keeps,
          ready-result text new made l.place e p f q (ready-on text known new all_keeps e p ready) m_known put,
          λ outcome c.
              comes-kept known new all_keeps source text macros mode (record e { pending = e.pending ++ l ∷ [] }) p outcome with_name
              (becomes-step source text macros mode new e l p made f q (Ok done) turn put outcome c),
        )
        by_result (Err fault) put =
            fault-weaker (λ x. ComesTo source text macros mode new (record e { pending = e.pending ++ l ∷ [] }) p (Stopped x)) (λ x. ComesTo source text macros mode known (record e { pending = e.pending ++ l ∷ [] }) p (Stopped x)) fault
            (λ x c. comes-kept known new all_keeps source text macros mode (record e { pending = e.pending ++ l ∷ [] }) p (Stopped x) with_name c)
            (becomes-step source text macros mode new e l p made f q (Err fault) turn put)

  -- ---- a call that is opened

  calls-faulty : (m : Macro) (parameters : List Token) (t : Lexeme) (called : Called) (f : ExpandFault) → IsFaultOfCall t.place parameters called f → Calls source text macros m parameters t called (Faults f)
  calls-faulty m parameters t Open f e =
      let P : ExpandFault → Type 0 = λ x. Calls source text macros m parameters t Open (Faults x) in subst P (sym e) (by.open_call m parameters t)
  calls-faulty m parameters t (Fails g) f e =
      let P : ExpandFault → Type 0 = λ x. Calls source text macros m parameters t (Fails g) (Faults x) in subst P (sym e) (by.unread_call m parameters t g)
  calls-faulty m parameters t (Closed arguments close behind q) f e =
      let P : ExpandFault → Type 0 = λ x. Calls source text macros m parameters t (Closed arguments close behind q) (Faults x) in
      subst P (sym e.0) (by.miscounted m parameters t close arguments behind q e.1)

  module _ (known : Known) (e : Expander) (l : Numbered) (p : Progress) (m : Macro) (parameters : List Token)
      (is : macro_of source macros (named known l) ≡ Some m) (takes : m.parameters ≡ Some parameters) (ready : IsReady text known e p) (known_name : l.hidden < length known)
      (looked : Mode) (looked_is : looked ≡ mode_of mode e.calls) where
    abbrev pub Opens : Outcome → Type 0
    Opens outcome = IsCallOpened source text macros mode known e l p outcome

    pub unread-call : (fault : ExpandFault)
        → IsFault fault (λ f. (any : Known) → HaveEmpty any → (called : Called) × Collects source text looked 0 ([] ∷ []) (at_hand any e.pending) p called × IsFaultOfCall l.place parameters called f)
        → IsFault fault (λ f. Opens (Stopped f))
    unread-call fault h =
        fault-weaker
        (λ f. (any : Known) → HaveEmpty any → (called : Called) × Collects source text looked 0 ([] ∷ []) (at_hand any e.pending) p called × IsFaultOfCall l.place parameters called f)
        (λ f. Opens (Stopped f)) fault
        (λ f why.
        let read = why known ready.empty in
        let P : Mode → Type 0 = λ x. Collects source text x 0 ([] ∷ []) (at_hand known e.pending) p read.0 in
        open-fault source text macros mode known e l p m parameters is takes read.0 f (subst P looked_is read.1) (calls-faulty m parameters (named known l) read.0 f read.2))
        h

    module _ (middle new : Known) (k : Keeps known middle) (j : Keeps middle new) (q : Progress) (pending : List Numbered) (read : Read)
        (reads_as : (any : Known) → HaveEmpty any → IsCallRead source text looked parameters m.replacement e.pending p pending q read any)
        (pending_known : AreKnown known pending) (read_known : IsReadKnown known read) (within : q.next ≤ length text)
        (both hidden : ℕ) (both_is : set_at middle both ≡ shared (set_at known l.hidden) (set_at known read.close.hidden)) (hidden_is : set_at new hidden ≡ spelling source l.token ∷ set_at middle both)
        (known_hidden : hidden < length new) (call : Call) (meant : call.meaning.now ≡ m) (hides : call.replaced.hidden ≡ hidden) (placed : call.replaced.place ≡ l.place)
        (no_argument : call.expanded ≡ []) (behind_is : call.behind ≡ pending) (before_is : call.before ≡ e.out)
        (left out : List Numbered) (no_token : left ≡ []) (no_out : out ≡ []) where
      reads : (any : Known) → HaveEmpty any → IsCallRead source text (mode_of mode e.calls) parameters m.replacement e.pending p pending q read any
      reads any h = let P : Mode → Type 0 = λ x. IsCallRead source text x parameters m.replacement e.pending p pending q read any in subst P looked_is (reads_as any h)

      keeps_all : Keeps known new
      keeps_all = keeps-on known middle new k j

      new_empty : HaveEmpty new
      new_empty = empty-on known new keeps_all ready.empty

      abbrev names : List (List ℕ)
      names = spelling source l.token ∷ shared (set_at new l.hidden) (set_at new read.close.hidden)

      names_are : set_at new call.replaced.hidden ≡ names
      names_are =
          ap (set_at new) hides ∙ hidden_is
          ∙ ap (λ x. spelling source l.token ∷ x)
          (both_is ∙ ap (λ x. shared x (set_at known read.close.hidden)) (sym (keeps_all.same l.hidden known_name))
          ∙ ap (λ x. shared (set_at new l.hidden) x) (sym (keeps_all.same read.close.hidden read_known.0)))

      is_new : macro_of source macros (named new l) ≡ Some m
      is_new = ap (macro_of source macros) (named-kept known new keeps_all l known_name) ∙ is

      no_tokens : (ls : List Numbered) → ls ≡ [] → AreKnown new ls
      no_tokens ls n = let P : List Numbered → Type 0 = λ x. AreKnown new x in subst P (sym n) (All-nil (λ (l : Numbered). l.hidden < length new))

      limits : IsWithinLimits q
      limits =
          let r = reads known ready.empty in
          collects-within source text (mode_of mode e.calls) 0 ([] ∷ []) (at_hand known e.pending) p (Closed r.0 (named known read.close) (at_hand known pending) q) r.1 ready.limits

      pub opened-ready : IsReady text new (record e { pending = left; out = out }) q
      opened-ready = record {
        place = within;
        sets = (no_tokens left no_token, no_tokens out no_out, calls-on known new keeps_all e.calls ready.sets.2);
        limits = limits;
        empty = new_empty;
      }

      pub opened-known : All (λ raw. AreKnown known raw.tokens) call.waiting → IsCallKnown new call
      opened-known w = (hidden_known, raws-on known new keeps_all call.waiting w, nothing, behind_known, before_known)
        where
          hidden_known : call.replaced.hidden < length new
          hidden_known = omega (arith, hides, known_hidden)

          nothing : All (λ argument. AreKnown new argument.tokens) call.expanded
          nothing =
              let P : List Argument → Type 0 = λ x. All (λ argument. AreKnown new argument.tokens) x in
              subst P (sym no_argument) (All-nil (λ (a : Argument). AreKnown new a.tokens))

          behind_known : AreKnown new call.behind
          behind_known = let P : List Numbered → Type 0 = λ x. AreKnown new x in subst P (sym behind_is) (known-on known new keeps_all pending pending_known)

          before_known : AreKnown new call.before
          before_known = let P : List Numbered → Type 0 = λ x. AreKnown new x in subst P (sym before_is) (known-on known new keeps_all e.out ready.sets.1)

      abbrev outside : List Opened
      outside = map (opened source new) (reverse e.calls)

      -- what a result comes to
      abbrev ReplacedWith : List (List ℕ) → ℕ → List Named → List Token → List Numbered → List Numbered → Outcome → Type 0
      ReplacedWith hidden place arguments replacement behind before outcome =
          ((produced_limit < q.produced + length (result_of source hidden place arguments replacement)) × (outcome ≡ Stopped (no.Produced place)))
          ⊎ ((q.produced + length (result_of source hidden place arguments replacement) ≤ produced_limit)
          × Comes source text macros mode outside (result_of source hidden place arguments replacement ++ at_hand new behind) (all_named new before)
          (producing q (length (result_of source hidden place arguments replacement))) outcome)

      replaced-as : (outcome : Outcome) → ReplacedWith (set_at new call.replaced.hidden) call.replaced.place (map (argument_named source new) call.expanded) call.meaning.now.replacement call.behind call.before outcome
          → ReplacedWith names l.place [] m.replacement pending e.out outcome
      replaced-as outcome x =
          let P : List (List ℕ) → Type 0 = λ z. ReplacedWith z call.replaced.place (map (argument_named source new) call.expanded) call.meaning.now.replacement call.behind call.before outcome in
          let Q : ℕ → Type 0 = λ z. ReplacedWith names z (map (argument_named source new) call.expanded) call.meaning.now.replacement call.behind call.before outcome in
          let R : List Argument → Type 0 = λ z. ReplacedWith names l.place (map (argument_named source new) z) call.meaning.now.replacement call.behind call.before outcome in
          let S : Macro → Type 0 = λ z. ReplacedWith names l.place [] z.replacement call.behind call.before outcome in
          let T : List Numbered → Type 0 = λ z. ReplacedWith names l.place [] m.replacement z call.before outcome in
          let U : List Numbered → Type 0 = λ z. ReplacedWith names l.place [] m.replacement pending z outcome in
          subst U before_is (subst T behind_is (subst S meant (subst R no_argument (subst Q placed (subst P names_are x)))))

      -- no argument is expanded
      pub opened-none : read.waiting ≡ [] → (newer : Known) (f : Expander) (r : Progress) (result : Result (Unit {0}) ExpandFault)
          → IsStep source text macros mode new (IsReplacedBy source text macros mode new (record e { pending = left; out = out }) call q) newer f r result
          → IsStep source text macros mode known Opens newer f r result
      opened-none none newer f r result h =
          let found = reads new new_empty in
          step-on known new newer keeps_all (IsReplacedBy source text macros mode new (record e { pending = left; out = out }) call q) Opens
          (λ outcome x.
          call-kept source text macros mode known new keeps_all e l p outcome ready.sets known_name
          (open-none source text macros mode new e l p m parameters is_new takes (named new read.close) found.0 (at_hand new pending) q found.1 found.2 outcome
          (sym found.3 ∙ ap (λ z. map (raw_named source new) (reverse z)) none) (replaced-as outcome x)))
          f r result h

      -- the first of them is at hand
      pub opened-first : (next : Raw) → read.waiting ≡ call.waiting ++ next ∷ [] → (f : Expander)
          → f ≡ record e { pending = reverse next.tokens; out = out; calls = e.calls ++ record call { parameter = next.parameter } ∷ [] }
          → IsStep source text macros mode known Opens new f q (Ok (tt {0}))
      opened-first next waits f f_is = (
        keeps_all,
        ready-argument text new (record e { pending = left; out = out }) q (record call { parameter = next.parameter }) next.tokens f opened-ready
            (opened-known parts.0) (known-on known new keeps_all next.tokens parts.1) f_is,
        λ outcome x.
            let found = reads new new_empty in
            call-kept source text macros mode known new keeps_all e l p outcome ready.sets known_name
            (open-first source text macros mode new e l p m parameters is_new takes (named new read.close) found.0 (at_hand new pending) q found.1 found.2
            (spelling source next.parameter) (all_named new next.tokens) others outcome (sym found.3 ∙ waiting_is) (at_first outcome x)),
      )
        where
          parts : All (λ raw. AreKnown known raw.tokens) call.waiting × AreKnown known next.tokens
          parts = All-pop (λ (raw : Raw). AreKnown known raw.tokens) read.waiting call.waiting (Some next) waits read_known.1

          others : List Named
          others = map (raw_named source new) (reverse call.waiting)

          waiting_is : map (raw_named source new) (reverse read.waiting) ≡ (spelling source next.parameter, all_named new next.tokens) ∷ others
          waiting_is = ap (λ z. map (raw_named source new) (reverse z)) waits ∙ ap (map (raw_named source new)) (reverse-append call.waiting (next ∷ []))

          after : Call
          after = record call { parameter = next.parameter }

          first : Opened
          first = record {
            meaning = m;
            hidden = names;
            place = l.place;
            parameter = spelling source next.parameter;
            waiting = others;
            expanded = [];
            behind = at_hand new pending;
            before = all_named new e.out;
          }

          after_is : opened source new after ≡ first
          after_is = λ i. record {
            meaning = meant i;
            hidden = names_are i;
            place = placed i;
            parameter = spelling source next.parameter;
            waiting = others;
            expanded = map (argument_named source new) (no_argument i);
            behind = at_hand new (behind_is i);
            before = all_named new (before_is i);
          }

          at_first : (outcome : Outcome) → ComesTo source text macros mode new f q outcome → Comes source text macros mode (first ∷ outside) (all_named new next.tokens) [] q outcome
          at_first outcome x =
              let P : Expander → Type 0 = λ z. ComesTo source text macros mode new z q outcome in
              let Q : List Opened → Type 0 = λ z. Comes source text macros mode z (at_hand new (reverse next.tokens)) (all_named new out) q outcome in
              let R : Opened → Type 0 = λ z. Comes source text macros mode (z ∷ outside) (at_hand new (reverse next.tokens)) (all_named new out) q outcome in
              let S : List Numbered → Type 0 = λ z. Comes source text macros mode (first ∷ outside) (all_named new z) (all_named new out) q outcome in
              let T : List Numbered → Type 0 = λ z. Comes source text macros mode (first ∷ outside) (all_named new next.tokens) (all_named new z) q outcome in
              subst T no_out (subst S (reverse-reverse next.tokens) (subst R after_is (subst Q (calls-more new source e.calls after) (subst P f_is x))))

  -- ---- turns

  -- what was at hand is the same
  pub step-as : {A : Type 0} (known new : Known) (e e' : Expander) (p : Progress) → e' ≡ e → (f : Expander) (q : Progress) (result : Result A ExpandFault)
      → IsStep source text macros mode known (λ outcome. ComesTo source text macros mode known e' p outcome) new f q result
      → IsStep source text macros mode known (λ outcome. ComesTo source text macros mode known e p outcome) new f q result
  step-as known new e e' p is f q result h =
      step-on known known new (keeps-same known) (λ outcome. ComesTo source text macros mode known e' p outcome) (λ outcome. ComesTo source text macros mode known e p outcome)
      (λ outcome x. let P : Expander → Type 0 = λ z. ComesTo source text macros mode known z p outcome in subst P is x) f q result h

  -- nothing was done
  pub step-none : {A : Type 0} (known : Known) (e f : Expander) (p : Progress) (answer : A) → f ≡ e → IsReady text known e p
      → IsStep source text macros mode known (λ outcome. ComesTo source text macros mode known e p outcome) known f p (Ok answer)
  step-none known e f p answer is r =
      let P : Expander → Type 0 = λ z. IsReady text known z p in
      (keeps-same known, subst P (sym is) r, λ outcome x. let Q : Expander → Type 0 = λ z. ComesTo source text macros mode known z p outcome in subst Q is x)

  -- the first token at hand had its turn
  pub first-turn : {A : Type 0} (known new : Known) (e : Expander) (p : Progress) (pending : List Numbered) (l : Numbered) → e.pending ≡ pending ++ l ∷ [] → (f : Expander) (q : Progress)
      → (result : Result A ExpandFault)
      → IsStep source text macros mode known (Before known (record e { pending = pending }) l p) new f q result
      → IsStep source text macros mode known (λ outcome. ComesTo source text macros mode known e p outcome) new f q result
  first-turn known new e p pending l is f q result h =
      step-as known new e (record e { pending = pending ++ l ∷ [] }) p (ap (λ x. record e { pending = x }) (sym is)) f q result h

  -- an argument of the innermost call ended
  pub inner-turn : {A : Type 0} (known new : Known) (e : Expander) (p : Progress) (pending : List Numbered) (calls : List Call) (call : Call) → e.pending ≡ [] → pending ≡ [] → e.calls ≡ calls ++ call ∷ []
      → (f : Expander) (q : Progress) (result : Result A ExpandFault)
      → IsStep source text macros mode known (λ outcome. ComesTo source text macros mode known (record e { pending = pending; calls = calls ++ call ∷ [] }) p outcome) new f q result
      → IsStep source text macros mode known (λ outcome. ComesTo source text macros mode known e p outcome) new f q result
  inner-turn known new e p pending calls call none left is f q result h =
      step-as known new e (record e { pending = pending; calls = calls ++ call ∷ [] }) p
      (ap (λ x. record e { pending = x; calls = calls ++ call ∷ [] }) (left ∙ sym none) ∙ ap (λ x. record e { calls = x }) (sym is)) f q result h

  -- there was none
  pub no-turn : {A : Type 0} (known : Known) (e : Expander) (p : Progress) (pending : List Numbered) (calls : List Call) → e.pending ≡ [] → pending ≡ [] → e.calls ≡ [] → calls ≡ [] → (answer : A)
      → IsReady text known e p → IsStep source text macros mode known (λ outcome. ComesTo source text macros mode known e p outcome) known (record e { pending = pending; calls = calls }) p (Ok answer)
  no-turn known e p pending calls none left no_calls none_left answer r =
      step-none known e (record e { pending = pending; calls = calls }) p answer
      (ap (λ x. record e { pending = x; calls = calls }) (left ∙ sym none) ∙ ap (λ x. record e { calls = x }) (none_left ∙ sym no_calls)) r

  -- ---- the whole

  module _ (known : Known) (e : Expander) (p : Progress) (no_out : e.out ≡ []) (no_calls : e.calls ≡ []) where
    abbrev pub Comes_of : Outcome → Type 0
    Comes_of outcome = ComesTo source text macros mode known e p outcome

    pub expanded-whole : (new : Known) (f : Expander) (q : Progress) → IsStep source text macros mode known Comes_of new f q (Ok (tt {0})) → f.pending ≡ [] → f.calls ≡ []
        → AnswersExpansion source text macros mode known (at_hand known e.pending) p new q (Ok f.out)
    expanded-whole new f q h no_tokens none = (
      start-expanded source text macros mode known e p no_out no_calls (Done (all_named new f.out) q) (h.2 (Done (all_named new f.out) q) (end-comes source text macros mode new f q no_tokens none)),
      h.0,
      h.1.sets.1,
      h.1.place,
      h.1.limits,
    )

    pub expanded-fault : (fault : ExpandFault) → IsFault fault (λ f. Comes_of (Stopped f)) → IsFault fault (λ f. Expands source text macros mode (at_hand known e.pending) p (Stopped f))
    expanded-fault fault h =
        fault-weaker (λ f. Comes_of (Stopped f)) (λ f. Expands source text macros mode (at_hand known e.pending) p (Stopped f)) fault
        (λ f x. start-expanded source text macros mode known e p no_out no_calls (Stopped f) x) h

  -- for tokens that are the same
  pub answer-as : (known new : Known) (tokens tokens' : List Lexeme) (p q : Progress) (result : Result (List Numbered) ExpandFault) → tokens ≡ tokens'
      → AnswersExpansion source text macros mode known tokens p new q result → AnswersExpansion source text macros mode known tokens' p new q result
  answer-as known new tokens tokens' p q result e h =
      let P : List Lexeme → Type 0 = λ x. AnswersExpansion source text macros mode known x p new q result in subst P e h
