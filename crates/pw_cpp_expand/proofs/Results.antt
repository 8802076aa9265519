-- What calls and their arguments become.
use Rattle.std.proofs.Common.{◌≡◌, ℕ, zero, suc, ◌+◌, ◌-◌, ◌<◌, ◌≤◌, ◌==◌, Bool, true, false, List, [], ◌∷◌, ◌++◌, length, get_or, map, reverse, take, drop, Option, Some, None, IfSome, refl, sym, ap, ◌∙◌, subst, append_assoc, All, IsTrue, ◌↔◌, arith}
use Rattle.std.proofs.Common.{length-append}
use Rattle.std.proofs.lemmas.Bool.{eqb-true, false≢true}
use Rattle.std.proofs.lemmas.Grind.{flat_map-append}
use Rattle.std.proofs.lemmas.List.{append-nil, at_drop_all, at_drop_more, get_or_default, length-map, map-append, nil_from_length, reverse-append, take_all, take_more}
use Rattle.std.proofs.lemmas.List.Elements.{All-append, All-get_or, All-nil, All-pop, All-push}
use Rattle.std.specs.List.{flat_map}
use Rattle.std.specs.Prelude.{bytes_eq, if◌then◌else◌}
use Rattle.pw_token.specs.Roles.{spelling}
use Rattle.pw_token.specs.declared.token.Token.{Token}
use Rattle.pw_cpp_macros.specs.Definitions.{is_word}
use Rattle.pw_cpp_expand.specs.AtHand.{IsWaiting, Named, argument_named, raw_named, waiting_for}
use Rattle.pw_cpp_expand.specs.Calls.{arguments_of, is_used, passed}
use Rattle.pw_cpp_expand.specs.Calls.{made as made_token}
use Rattle.pw_cpp_expand.specs.Expansion.{argument_for, argument_of, replaced, result_of}
use Rattle.pw_cpp_expand.specs.Lookahead.{Lexeme}
use Rattle.pw_cpp_expand.specs.Numbered.{AreKnown, IsAdded, IsJoined, IsMade, all_named, named}
use Rattle.pw_cpp_expand.specs.declared.expansion.Raw.{Raw}
use Rattle.pw_cpp_expand.specs.declared.progress.Lexeme.{Lexeme as Numbered}
use Rattle.pw_cpp_expand.specs.declared.result.Expanded.{Expanded as Argument}
use Rattle.pw_cpp_expand.specs.declared.result.Joined.{Joined}
use Rattle.pw_cpp_expand.proofs.Kept.{all-kept, arguments-kept, keeps-on, known-on, named-kept}
use Rattle.pw_cpp_sets.specs.Sets.{Keeps, Known, set_at}

-- ---- arguments of a macro without parameters

one_of : {X : Type 0} (xs : List X) (x : X) → length xs ≡ 1 → x ≡ get_or xs 0 x → xs ≡ x ∷ []
one_of [] x l e = absurd (omega (arith, l))
one_of (y ∷ []) x l e = ap (λ z. z ∷ []) (sym e)
one_of (y ∷ z ∷ xs) x l e = absurd (omega (arith, l))

first_of_one : {X : Type 0} (x y : X) → x ∷ [] ≡ y ∷ [] → x ≡ y
first_of_one x y e = cc

pub one-empty : (xs : List (List Numbered)) (x : List Numbered) (b : Bool) → length xs ≡ 1 → x ≡ get_or xs 0 x → (IsTrue b ↔ (x ≡ [])) → (IsTrue b ↔ (xs ≡ [] ∷ []))
one-empty xs x b l e h =
    let is = one_of xs x l e in
    (λ t. is ∙ ap (λ z. z ∷ []) (h.0 t), λ f. h.1 (first_of_one x [] (sym is ∙ f)))

pub not-one : (xs : List (List Numbered)) → (length xs ≡ 1 → ⊥) → (IsTrue false ↔ (xs ≡ [] ∷ []))
not-one xs h = (λ t. absurd (false≢true t), λ e. absurd (h (ap length e)))

-- whether there are parameters
pub none-there : (xs : List Token) (b : Bool) → b ≡ (length xs == 0) → b ≡ true → xs ≡ []
none-there xs b e t = nil_from_length xs (eqb-true (length xs) 0 (sym e ∙ t))

pub some-there : (xs : List Token) (b : Bool) → b ≡ (length xs == 0) → b ≡ false → xs ≡ [] → ⊥
some-there xs b e f n = false≢true (sym f ∙ e ∙ ap (λ x. length x == 0) n)

-- a parameter by its number
pub element-at : (xs : List Token) (i j : ℕ) (d : Token) → i ≡ j → j < length xs → get_or xs i d ≡ get_or xs j (get_or xs i d)
element-at xs i j d e l = ap (λ k. get_or xs k d) e ∙ get_or_default xs j d (get_or xs i d) l

-- ---- arguments that are expanded

-- Those that are looked through stand behind those that are left.
pub record IsUsed (known : Known) (source : List ℕ) (parameters replacement : List Token) (all left : List (List Numbered)) (waiting : List Raw) : Type 0 where
  pub done : List (List Numbered)
  pub whole : all ≡ left ++ done
  pub used : map (raw_named source known) (reverse waiting) ≡ waiting_for source replacement (drop (length left) parameters) (map (all_named known) done)

module _ (known : Known) where
  pub given-some : (parameters : List Token) (arguments : List (List Numbered)) → (parameters ≡ [] → ⊥) → map (all_named known) arguments ≡ arguments_of parameters (map (all_named known) arguments)
  given-some [] arguments h = absurd (h refl)
  given-some (parameter ∷ parameters) arguments h = refl

  pub given-one : (parameters : List Token) (arguments : List (List Numbered)) → parameters ≡ [] → arguments ≡ [] ∷ [] → [] ≡ arguments_of parameters (map (all_named known) arguments)
  given-one parameters arguments e f = sym (ap (λ x. arguments_of x (map (all_named known) arguments)) e ∙ ap (λ x. arguments_of [] (map (all_named known) x)) f)

  -- no arguments are given
  pub nothing : (parameters : List Token) (arguments none : List (List Numbered)) → parameters ≡ [] → arguments ≡ [] ∷ [] → none ≡ []
      → map (all_named known) none ≡ arguments_of parameters (map (all_named known) arguments)
  nothing parameters arguments none e f n = ap (map (all_named known)) n ∙ given-one parameters arguments e f

  pub given-rest : (parameters : List Token) (arguments : List (List Numbered)) → (arguments ≡ [] ∷ [] → ⊥) → map (all_named known) arguments ≡ arguments_of parameters (map (all_named known) arguments)
  given-rest (parameter ∷ parameters) arguments h = refl
  given-rest [] [] h = refl
  given-rest [] ([] ∷ []) h = absurd (h refl)
  given-rest [] ([] ∷ argument ∷ arguments) h = refl
  given-rest [] ((lexeme ∷ argument) ∷ arguments) h = refl

  pub used-init : (source : List ℕ) (parameters replacement : List Token) (all : List (List Numbered)) (waiting : List Raw) → length all ≡ length parameters → waiting ≡ []
      → IsUsed known source parameters replacement all all waiting
  used-init source parameters replacement all waiting l e = record {
    done = [];
    whole = sym (append-nil all);
    used =
        ap (λ x. map (raw_named source known) (reverse x)) e
        ∙ sym (ap (λ x. waiting_for source replacement x []) (at_drop_all (λ x. x) parameters (length all) (omega (arith, l))));
  }

  pub used-more : (source : List ℕ) (parameters replacement : List Token) (all left rest : List (List Numbered)) (waiting more : List Raw) (tokens : List Numbered) (parameter : Token)
      → IsUsed known source parameters replacement all left waiting → left ≡ rest ++ tokens ∷ [] → length rest < length parameters → parameter ≡ get_or parameters (length rest) parameter
      → more ≡ (if is_used source replacement parameter then waiting ++ record { parameter = parameter; tokens = tokens } ∷ [] else waiting)
      → IsUsed known source parameters replacement all rest more
  used-more source parameters replacement all left rest waiting more tokens parameter h e l p m = record {
    done = tokens ∷ h.done;
    whole = h.whole ∙ ap (λ x. x ++ h.done) e ∙ append_assoc rest (tokens ∷ []) h.done;
    used =
        ap (λ x. map (raw_named source known) (reverse x)) m
        ∙ by_use (is_used source replacement parameter)
        ∙ sym (ap (λ x. waiting_for source replacement x (all_named known tokens ∷ map (all_named known) h.done)) front);
  }
    where
      raw : Raw
      raw = record { parameter = parameter; tokens = tokens }

      count : length left ≡ length rest + 1
      count = ap length e ∙ length-append rest (tokens ∷ [])

      front : drop (length rest) parameters ≡ parameter ∷ drop (length left) parameters
      front =
          at_drop_more (λ x. x) parameters (length rest) parameter l
          ∙ ap (λ x. x ∷ drop (length rest + 1) parameters) (sym p) ∙ ap (λ n. parameter ∷ drop n parameters) (sym count)

      by_use : (b : Bool) → map (raw_named source known) (reverse (if b then waiting ++ raw ∷ [] else waiting))
          ≡ (if b then (spelling source parameter, all_named known tokens) ∷ waiting_for source replacement (drop (length left) parameters) (map (all_named known) h.done)
          else waiting_for source replacement (drop (length left) parameters) (map (all_named known) h.done))
      by_use true = ap (map (raw_named source known)) (reverse-append waiting (raw ∷ [])) ∙ ap (λ x. raw_named source known raw ∷ x) h.used
      by_use false = h.used

  pub used-all : (source : List ℕ) (parameters replacement : List Token) (all left : List (List Numbered)) (waiting : List Raw) → IsUsed known source parameters replacement all left waiting → left ≡ []
      → map (raw_named source known) (reverse waiting) ≡ waiting_for source replacement parameters (map (all_named known) all)
  used-all source parameters replacement all left waiting h e =
      h.used ∙ ap (λ x. waiting_for source replacement (drop (length x) parameters) (map (all_named known) h.done)) e
      ∙ ap (λ x. waiting_for source replacement parameters (map (all_named known) x)) (sym (h.whole ∙ ap (λ x. x ++ h.done) e))

  -- and the sets of those are known
  pub raws-more : (source : List ℕ) (replacement : List Token) (left rest : List (List Numbered)) (waiting more : List Raw) (tokens : List Numbered) (parameter : Token)
      → left ≡ rest ++ tokens ∷ [] → more ≡ (if is_used source replacement parameter then waiting ++ record { parameter = parameter; tokens = tokens } ∷ [] else waiting)
      → All (AreKnown known) left → All (λ raw. AreKnown known raw.tokens) waiting → All (AreKnown known) rest × All (λ raw. AreKnown known raw.tokens) more
  raws-more source replacement left rest waiting more tokens parameter e m h w =
      let parts = All-pop (AreKnown known) left rest (Some tokens) e h in
      let P : List Raw → Type 0 = λ x. All (λ raw. AreKnown known raw.tokens) x in
      (parts.0, subst P (sym m) (by_use (is_used source replacement parameter) parts.1))
    where
      by_use : (b : Bool) → AreKnown known tokens → All (λ raw. AreKnown known raw.tokens) (if b then waiting ++ record { parameter = parameter; tokens = tokens } ∷ [] else waiting)
      by_use true k = All-push (λ (raw : Raw). AreKnown known raw.tokens) waiting (record { parameter = parameter; tokens = tokens }) w k
      by_use false k = w

-- ---- the argument for a name

module _ (source : List ℕ) (known : Known) (name : List ℕ) where
  argument_at : (arguments : List Argument) (i : ℕ) (argument : Argument) → i < length arguments → argument ≡ get_or arguments i argument
      → argument_of (map (argument_named source known) (drop i arguments)) name
      ≡ (if bytes_eq name (spelling source argument.parameter) then Some (all_named known argument.tokens) else argument_of (map (argument_named source known) (drop (i + 1) arguments)) name)
  argument_at arguments i argument l e =
      at_drop_more (λ x. argument_of (map (argument_named source known) x) name) arguments i argument l
      ∙ ap (λ x. argument_of (map (argument_named source known) (x ∷ drop (i + 1) arguments)) name) (sym e)

  pub argument-there : (arguments : List Argument) (i : ℕ) (argument : Argument) → i < length arguments → argument ≡ get_or arguments i argument
      → bytes_eq name (spelling source argument.parameter) ≡ true → argument_of (map (argument_named source known) (drop i arguments)) name ≡ argument_of (map (argument_named source known) arguments) name
      → Some (all_named known argument.tokens) ≡ argument_of (map (argument_named source known) arguments) name
  argument-there arguments i argument l e same h =
      sym (argument_at arguments i argument l e ∙ ap (λ b. if b then Some (all_named known argument.tokens) else argument_of (map (argument_named source known) (drop (i + 1) arguments)) name) same) ∙ h

  pub argument-later : (arguments : List Argument) (i : ℕ) (argument : Argument) → i < length arguments → argument ≡ get_or arguments i argument
      → bytes_eq name (spelling source argument.parameter) ≡ false → argument_of (map (argument_named source known) (drop i arguments)) name ≡ argument_of (map (argument_named source known) arguments) name
      → argument_of (map (argument_named source known) (drop (i + 1) arguments)) name ≡ argument_of (map (argument_named source known) arguments) name
  argument-later arguments i argument l e differs h =
      sym (argument_at arguments i argument l e ∙ ap (λ b. if b then Some (all_named known argument.tokens) else argument_of (map (argument_named source known) (drop (i + 1) arguments)) name) differs) ∙ h

  pub argument-none : (arguments : List Argument) (i : ℕ) → length arguments ≤ i → argument_of (map (argument_named source known) (drop i arguments)) name ≡ argument_of (map (argument_named source known) arguments) name
      → None ≡ argument_of (map (argument_named source known) arguments) name
  argument-none arguments i l h = sym (at_drop_all (λ x. argument_of (map (argument_named source known) x) name) arguments i l) ∙ h

-- the argument for a token, which is a word or none
pub word-argument : (source : List ℕ) (arguments : List Named) (token : Token) → is_word token ≡ true → argument_of arguments (spelling source token) ≡ argument_for source arguments token
word-argument source arguments token e = sym (ap (λ b. if b then argument_of arguments (spelling source token) else None) e)

pub no-argument : (source : List ℕ) (arguments : List Named) (token : Token) → is_word token ≡ false → None ≡ argument_for source arguments token
no-argument source arguments token e = sym (ap (λ b. if b then argument_of arguments (spelling source token) else None) e)

-- ---- tokens that are made

pub keeps-self : (known : Known) → Keeps known known
keeps-self known = record { count = omega arith; same = λ number l. refl }

-- no token is made at first
pub made-none : (known : Known) (made : List Numbered) → made ≡ [] → IsMade known known made []
made-none known made e =
    let P : List Numbered → Type 0 = λ x. AreKnown known x in
    (keeps-self known, subst P (sym e) (All-nil (λ (l : Numbered). l.hidden < length known)), ap (all_named known) e)

-- nothing is added at first
pub added-none : (known new : Known) (made : List Numbered) → Keeps known new → AreKnown known made → IsAdded known made new made []
added-none known new made k h = (k, known-on known new k made h, all-kept known new k made h ∙ sym (append-nil (all_named known made)))

-- one is added
pub added-one : (known : Known) (made more : List Numbered) (token : Token) (hidden place : ℕ) → AreKnown known made → hidden < length known
    → more ≡ made ++ record { token = token; hidden = hidden; place = place } ∷ [] → IsAdded known made known more (made_token (set_at known hidden) place token ∷ [])
added-one known made more token hidden place h k e =
    let P : List Numbered → Type 0 = λ x. AreKnown known x in (
      keeps-self known,
      subst P (sym e) (All-push (λ (l : Numbered). l.hidden < length known) made (record { token = token; hidden = hidden; place = place }) h k),
      ap (all_named known) e ∙ map-append (named known) made (record { token = token; hidden = hidden; place = place } ∷ []),
    )

-- some are added behind those that were
pub added-on : (known middle new : Known) (before made more : List Numbered) (tokens others : List Lexeme) → IsAdded known before middle made tokens → IsAdded middle made new more others
    → IsAdded known before new more (tokens ++ others)
added-on known middle new before made more tokens others h k = (
  keeps-on known middle new h.0 k.0,
  k.1,
  k.2 ∙ ap (λ x. x ++ others) h.2 ∙ append_assoc (all_named known before) tokens others,
)

pub made-on : (known middle new : Known) (made more : List Numbered) (tokens others : List Lexeme) → IsMade known middle made tokens → IsAdded middle made new more others → IsMade known new more (tokens ++ others)
made-on known middle new made more tokens others h k = (keeps-on known middle new h.0 k.0, k.1, k.2 ∙ ap (λ x. x ++ others) h.2)

-- ---- the tokens of an argument

-- what so many of its tokens become
abbrev pub passed_up_to : Known → ℕ → ℕ → List Numbered → ℕ → List Lexeme
passed_up_to known hidden place argument i = map (passed (set_at known hidden) place) (all_named known (take i argument))

module _ (known : Known) (hidden place : ℕ) (argument : List Numbered) (hidden_known : hidden < length known) (argument_known : AreKnown known argument) where
  pub passed-more : (middle new : Known) (before made more : List Numbered) (i : ℕ) (lexeme : Numbered) (last : Joined) → i < length argument → lexeme ≡ get_or argument i lexeme
      → IsAdded known before middle made (passed_up_to known hidden place argument i) → Keeps middle new → IsJoined new hidden last → last.own ≡ lexeme.hidden
      → more ≡ made ++ record { token = lexeme.token; hidden = last.number; place = place } ∷ []
      → IsAdded known before new more (passed_up_to known hidden place argument (i + 1))
  passed-more middle new before made more i lexeme last l is h k j own m = (
    whole,
    (added-one new made more lexeme.token last.number place (known-on middle new k made h.1) j.1 m).1,
    ap (all_named new) m ∙ map-append (named new) made (record { token = lexeme.token; hidden = last.number; place = place } ∷ [])
        ∙ ap (λ x. x ++ named new (record { token = lexeme.token; hidden = last.number; place = place }) ∷ []) (all-kept middle new k made h.1 ∙ h.2)
        ∙ append_assoc (all_named known before) (passed_up_to known hidden place argument i) (named new (record { token = lexeme.token; hidden = last.number; place = place }) ∷ [])
        ∙ ap (λ x. all_named known before ++ (passed_up_to known hidden place argument i ++ x ∷ [])) one
        ∙ ap (λ x. all_named known before ++ x) (sym more_is),
  )
    where
      whole : Keeps known new
      whole = keeps-on known middle new h.0 k

      lexeme_known : lexeme.hidden < length known
      lexeme_known =
          let P : Numbered → Type 0 = λ x. x.hidden < length known in
          subst P (sym is) (All-get_or (λ (x : Numbered). x.hidden < length known) argument i lexeme l argument_known)

      one : named new (record { token = lexeme.token; hidden = last.number; place = place }) ≡ passed (set_at known hidden) place (named known lexeme)
      one =
          ap (λ x. record { token = lexeme.token; hidden = x; place = place })
          (j.2 ∙ ap (λ x. x ++ set_at new last.own) (whole.same hidden hidden_known)
          ∙ ap (λ x. set_at known hidden ++ set_at new x) own ∙ ap (λ x. set_at known hidden ++ x) (whole.same lexeme.hidden lexeme_known))

      more_is : passed_up_to known hidden place argument (i + 1) ≡ passed_up_to known hidden place argument i ++ passed (set_at known hidden) place (named known lexeme) ∷ []
      more_is =
          ap (λ x. map (passed (set_at known hidden) place) (all_named known x)) (take_more argument i lexeme l ∙ ap (λ x. take i argument ++ x ∷ []) (sym is))
          ∙ ap (map (passed (set_at known hidden) place)) (map-append (named known) (take i argument) (lexeme ∷ []))
          ∙ map-append (passed (set_at known hidden) place) (all_named known (take i argument)) (named known lexeme ∷ [])

  pub passed-all : (new : Known) (before made : List Numbered) (i : ℕ) → length argument ≤ i → IsAdded known before new made (passed_up_to known hidden place argument i)
      → IsAdded known before new made (map (passed (set_at known hidden) place) (all_named known argument))
  passed-all new before made i l h =
      let P : List Numbered → Type 0 = λ x. IsAdded known before new made (map (passed (set_at known hidden) place) (all_named known x)) in
      subst P (take_all i argument l) h

-- the set of a token of an argument is known
pub own-known : (known new : Known) (argument : List Numbered) (i : ℕ) (d : Numbered) → i < length argument → AreKnown known argument → length known ≤ length new → (get_or argument i d).hidden < length new
own-known known new argument i d l h k = omega (arith, All-get_or (λ (x : Numbered). x.hidden < length known) argument i d l h, k)

-- ---- the result

-- what a token of a replacement becomes
abbrev pub becomes : List ℕ → Known → ℕ → ℕ → List Argument → Token → List Lexeme
becomes source known hidden place arguments token = replaced (set_at known hidden) place token (argument_for source (map (argument_named source known) arguments) token)

module _ (source : List ℕ) (known : Known) (hidden place : ℕ) (arguments : List Argument) (replacement : List Token) where
  pub made-more : (middle new : Known) (made more : List Numbered) (i : ℕ) (token : Token) (others : List Lexeme) → i < length replacement → token ≡ get_or replacement i token
      → IsMade known middle made (flat_map (becomes source known hidden place arguments) (take i replacement)) → IsAdded middle made new more others → others ≡ becomes source known hidden place arguments token
      → IsMade known new more (flat_map (becomes source known hidden place arguments) (take (i + 1) replacement))
  made-more middle new made more i token others l is h k e =
      let P : List Lexeme → Type 0 = λ x. IsMade known new more x in
      subst P (ap (λ x. flat_map (becomes source known hidden place arguments) (take i replacement) ++ x) e ∙ sym more_is) (made-on known middle new made more (flat_map (becomes source known hidden place arguments) (take i replacement)) others h k)
    where
      more_is : flat_map (becomes source known hidden place arguments) (take (i + 1) replacement) ≡ flat_map (becomes source known hidden place arguments) (take i replacement) ++ becomes source known hidden place arguments token
      more_is =
          ap (flat_map (becomes source known hidden place arguments)) (take_more replacement i token l ∙ ap (λ x. take i replacement ++ x ∷ []) (sym is))
          ∙ flat_map-append (becomes source known hidden place arguments) (take i replacement) (token ∷ [])
          ∙ ap (λ x. flat_map (becomes source known hidden place arguments) (take i replacement) ++ x) (append-nil (becomes source known hidden place arguments token))

  -- it becomes the same where sets are added
  pub becomes-kept : (middle : Known) → hidden < length known → All (λ argument. AreKnown known argument.tokens) arguments → Keeps known middle → (token : Token) (argument : Option (List Lexeme))
      → argument ≡ argument_for source (map (argument_named source middle) arguments) token → replaced (set_at middle hidden) place token argument ≡ becomes source known hidden place arguments token
  becomes-kept middle h a k token argument e =
      ap (λ x. replaced x place token argument) (k.same hidden h)
      ∙ ap (λ x. replaced (set_at known hidden) place token x) (e ∙ ap (λ x. argument_for source x token) (arguments-kept known middle k source arguments a))

  pub made-all : (new : Known) (made : List Numbered) (i : ℕ) → length replacement ≤ i → IsMade known new made (flat_map (becomes source known hidden place arguments) (take i replacement))
      → IsMade known new made (result_of source (set_at known hidden) place (map (argument_named source known) arguments) replacement)
  made-all new made i l h =
      let P : List Token → Type 0 = λ x. IsMade known new made (flat_map (becomes source known hidden place arguments) x) in
      subst P (take_all i replacement l) h

-- what is made of the same arguments and of the same replacement
pub made-as : (source : List ℕ) (known : Known) (hidden : List (List ℕ)) (place : ℕ) (arguments arguments' : List Argument) (replacement replacement' : List Token) (tokens : List Lexeme)
    → tokens ≡ result_of source hidden place (map (argument_named source known) arguments) replacement → arguments ≡ arguments' → replacement ≡ replacement'
    → tokens ≡ result_of source hidden place (map (argument_named source known) arguments') replacement'
made-as source known hidden place arguments arguments' replacement replacement' tokens h e f =
    h ∙ ap (λ x. result_of source hidden place (map (argument_named source known) x) replacement) e
    ∙ ap (λ x. result_of source hidden place (map (argument_named source known) arguments') x) f

pub made-alone : (source : List ℕ) (hidden : List (List ℕ)) (place : ℕ) (replacement replacement' : List Token) (tokens : List Lexeme) → tokens ≡ result_of source hidden place [] replacement
    → replacement ≡ replacement' → tokens ≡ result_of source hidden place [] replacement'
made-alone source hidden place replacement replacement' tokens h f = h ∙ ap (λ x. result_of source hidden place [] x) f

-- the set that was joined last
pub joined-new : (known new : Known) (hidden own number : ℕ) → Keeps known new → hidden < length known → own < length known → number < length new
    → set_at new number ≡ set_at known hidden ++ set_at known own → IsJoined new hidden (record { own = own; number = number })
joined-new known new hidden own number k h o n e = (
  omega (arith, o, k.count),
  n,
  e ∙ ap (λ x. x ++ set_at known own) (sym (k.same hidden h)) ∙ ap (λ x. set_at new hidden ++ x) (sym (k.same own o)),
)

-- what waits of the arguments that are given
pub waits-some : (source : List ℕ) (known : Known) (parameters replacement : List Token) (arguments given : List (List Numbered)) (raws : List Raw)
    → map (all_named known) given ≡ arguments_of parameters (map (all_named known) arguments) → length given ≡ length parameters
    → map (raw_named source known) (reverse raws) ≡ waiting_for source replacement parameters (map (all_named known) given)
    → IsWaiting source known parameters replacement arguments (Some raws)
waits-some source known parameters replacement arguments given raws g l w =
    (ap length (sym g) ∙ length-map given (all_named known) ∙ l, w ∙ ap (waiting_for source replacement parameters) g)

pub waits-none : (source : List ℕ) (known : Known) (parameters replacement : List Token) (arguments given : List (List Numbered))
    → map (all_named known) given ≡ arguments_of parameters (map (all_named known) arguments) → (length given ≡ length parameters → ⊥) → IsWaiting source known parameters replacement arguments None
waits-none source known parameters replacement arguments given g l e = l (sym (length-map given (all_named known)) ∙ ap length g ∙ e)
