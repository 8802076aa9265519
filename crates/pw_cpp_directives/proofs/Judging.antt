-- How a condition is judged, by its steps.
use Rattle.std.proofs.Common.{◌≡◌, ℕ, ◌+◌, ◌<◌, ◌≤◌, Bool, true, false, List, [], ◌∷◌, ◌++◌, ◌-◌, length, get_or, take, drop, Option, Some, None, Result, Ok, Err, inl, inr, refl, sym, ap, ◌∙◌, subst, append_assoc, All, length-drop, arith}
use Rattle.std.proofs.lemmas.List.{append-nil, at_drop_all, at_drop_more, length-take, map-append, take_all}
use Rattle.std.proofs.lemmas.List.Elements.{All-nil, All-push, All-weaker}
use Rattle.std.specs.Prelude.{◌&&◌, codes, if◌then◌else◌, is_some, option_and_then, option_map}
use Rattle.pw_token.specs.Roles.{spelling}
use Rattle.pw_token.specs.declared.token.Token.{Token}
use Rattle.pw_cpp_directives.specs.Obeying.{AnswersJudgement, IsJudging, IsVerdictOf}
use Rattle.pw_cpp_directives.specs.Conditions.{Judges, JudgesItems, Verdict, Holds, Faulty, defined_name, items_of, said, taken_at, truth_token, with_defined}
use Rattle.pw_cpp_directives.specs.Conditions as condition
use Rattle.pw_cpp_directives.specs.declared.condition.Verdict.{Verdict as Judged}
use Rattle.pw_cpp_directives.specs.declared.condition.Verdict.TheVariants as judged
use Rattle.pw_cpp_directives.specs.declared.condition.Digits.{Digits}
use Rattle.pw_cpp_condition.specs.Grammar.{AnswersItems, Means}
use Rattle.pw_cpp_condition.specs.Words.{item_of}
use Rattle.pw_cpp_condition.specs.declared.word.Item.{Item}
use Rattle.pw_cpp_expand.specs.Expansion.{Expands, Outcome, Done, Stopped}
use Rattle.pw_cpp_expand.specs.Lookahead.{Lexeme, fresh}
use Rattle.pw_cpp_expand.specs.Numbered.{AreKnown, HaveEmpty, IsFault, all_named, named}
use Rattle.pw_cpp_expand.specs.Numbered.{fresh as fresh_numbered}
use Rattle.pw_cpp_expand.specs.declared.progress.ExpandFault.{ExpandFault}
use Rattle.pw_cpp_expand.specs.declared.progress.Lexeme.{Lexeme as Numbered}
use Rattle.pw_cpp_expand.specs.declared.progress.Mode.TheVariants.{Alone}
use Rattle.pw_cpp_expand.specs.declared.progress.Progress.{Progress}
use Rattle.pw_cpp_macros.specs.Definitions.{is_spelled, is_word}
use Rattle.pw_cpp_macros.specs.Macros.{Macros, find}
use Rattle.pw_cpp_macros.specs.declared.definition.Macro.{Macro}
use Rattle.pw_cpp_sets.specs.Sets.{Keeps, Known}
use Rattle.pw_cpp_values.specs.Arithmetic.{is_true}
use Rattle.pw_cpp_values.specs.declared.arithmetic.Number.{Number}

-- some in front of one and of others
in_front : {A : Type 0} (first : List A) (one : A) (o : Option (List A)) → option_map (λ later. (first ++ one ∷ []) ++ later) o ≡ option_map (λ later. first ++ later) (option_map (λ later. one ∷ later) o)
in_front first one None = refl
in_front first one (Some later) = ap Some (append_assoc first (one ∷ []) later)

-- none in front of others
alone : {A : Type 0} (o : Option (List A)) → option_map (λ later. later) o ≡ o
alone None = refl
alone (Some later) = refl

-- the first of some tokens, and the others
pub first-and-rest : (left : List Token) (d : Token) → 1 ≤ length left → left ≡ get_or left 0 d ∷ take (length left - 1) (drop 1 left)
first-and-rest [] d l = absurd (omega (arith, l))
first-and-rest (t ∷ left) d l = ap (λ x. t ∷ x) (sym (take_all (length (t ∷ left) - 1) left (omega arith)))

-- fewer are left behind the first
pub fewer-left : (left left' : List Token) (count : ℕ) → 1 ≤ length left → left' ≡ drop count (take (length left - 1) (drop 1 left)) → length left' < length left
fewer-left left left' count l e =
    omega (arith, l, ap length e, length-drop count (take (length left - 1) (drop 1 left)), length-take (length left - 1) (drop 1 left))

-- no tokens
pub no-rest : (left : List Token) → length left < 1 → left ≡ []
no-rest [] l = refl
no-rest (t ∷ left) l = absurd (omega (arith, l))

-- the sets of tokens that are taken are empty
pub taken-known : (taken more : List Numbered) (lexeme : Numbered) → All (λ l. l.hidden ≡ 0) taken → lexeme.hidden ≡ 0 → more ≡ taken ++ lexeme ∷ [] → All (λ l. l.hidden ≡ 0) more
taken-known taken more lexeme h e m =
    let P : List Numbered → Type 0 = λ x. All (λ l. l.hidden ≡ 0) x in subst P (sym m) (All-push (λ (l : Numbered). l.hidden ≡ 0) taken lexeme h e)

pub none-known : (taken : List Numbered) → taken ≡ [] → All (λ l. l.hidden ≡ 0) taken
none-known taken e = let P : List Numbered → Type 0 = λ x. All (λ l. l.hidden ≡ 0) x in subst P (sym e) (All-nil (λ (l : Numbered). l.hidden ≡ 0))

-- ---- what `defined` says

module _ (digits : Digits) (macros : Macros) (name : List ℕ) where
  pub said-one : (m : Macro) → Some m ≡ find macros name → digits.one ≡ truth_token digits macros name
  said-one m e = ap (λ x. if is_some x then digits.one else digits.zero) e

  pub said-zero : None ≡ find macros name → digits.zero ≡ truth_token digits macros name
  said-zero e = ap (λ x. if is_some x then digits.one else digits.zero) e

-- ---- the tokens of a condition, one behind the other

module _ (source : List ℕ) (macros : Macros) (digits : Digits) where
  -- what the first token becomes, in front of what the others do
  abbrev In_front_of : List Token → Lexeme × ℕ → Option (List Lexeme)
  In_front_of rest one = option_map (λ later. one.0 ∷ later) (with_defined source macros digits (drop one.1 rest))

  -- a name behind the token, as what it becomes
  abbrev Named_by : Token → Token × ℕ → Lexeme × ℕ
  Named_by t found = (said source macros digits t found.0, found.1)

  pub taken-one : (t : Token) (rest : List Token) → with_defined source macros digits (t ∷ rest) ≡ option_and_then (In_front_of rest) (taken_at source macros digits t rest)
  taken-one t [] = by (is_spelled source (codes "defined") t)
    where
      by : (s : Bool) → (if s then None else Some (fresh t ∷ [])) ≡ option_and_then (In_front_of []) (if s then option_map (Named_by t) None else Some (fresh t, 0))
      by true = refl
      by false = refl
  taken-one t (a ∷ []) = by (is_spelled source (codes "defined") t) (is_word a)
    where
      by : (s w : Bool) → (if s then (if w then Some (said source macros digits t a ∷ []) else None) else option_map (λ later. fresh t ∷ later) (with_defined source macros digits (a ∷ [])))
          ≡ option_and_then (In_front_of (a ∷ [])) (if s then option_map (Named_by t) (if w then Some (a, 1) else None) else Some (fresh t, 0))
      by true true = refl
      by true false = refl
      by false w = refl
  taken-one t (a ∷ b ∷ []) = by (is_spelled source (codes "defined") t) (is_word a)
    where
      by : (s w : Bool) → (if s then (if w then option_map (λ later. said source macros digits t a ∷ later) (with_defined source macros digits (b ∷ [])) else None)
          else option_map (λ later. fresh t ∷ later) (with_defined source macros digits (a ∷ b ∷ [])))
          ≡ option_and_then (In_front_of (a ∷ b ∷ [])) (if s then option_map (Named_by t) (if w then Some (a, 1) else None) else Some (fresh t, 0))
      by true true = refl
      by true false = refl
      by false w = refl
  taken-one t (a ∷ b ∷ c ∷ rest) = by (is_spelled source (codes "defined") t) (is_word a) (is_spelled source (codes "(") a && is_word b && is_spelled source (codes ")") c)
    where
      by : (s w p : Bool) → (if s then (if w then option_map (λ later. said source macros digits t a ∷ later) (with_defined source macros digits (b ∷ c ∷ rest))
          else (if p then option_map (λ later. said source macros digits t b ∷ later) (with_defined source macros digits rest) else None))
          else option_map (λ later. fresh t ∷ later) (with_defined source macros digits (a ∷ b ∷ c ∷ rest)))
          ≡ option_and_then (In_front_of (a ∷ b ∷ c ∷ rest)) (if s then option_map (Named_by t) (if w then Some (a, 1) else (if p then Some (b, 3) else None)) else Some (fresh t, 0))
      by true true p = refl
      by true false true = refl
      by true false false = refl
      by false w p = refl

  -- no `defined`
  pub plain-taken : (known : Known) → HaveEmpty known → (t : Token) (rest : List Token) (lexeme : Numbered) → is_spelled source (codes "defined") t ≡ false → lexeme ≡ fresh_numbered t
      → Some (named known lexeme, 0) ≡ taken_at source macros digits t rest
  plain-taken known empty t rest lexeme e l =
      ap (λ x. Some (named known x, 0)) l
      ∙ ap (λ x. Some (record { token = t; hidden = x; place = t.at }, 0)) empty.1
      ∙ sym (ap (λ b. if b then option_map (Named_by t) (defined_name source rest) else Some (fresh t, 0)) e)

  -- a `defined` with its name
  pub defined-taken : (known : Known) → HaveEmpty known → (t : Token) (rest : List Token) (lexeme : Numbered) (name : Token) (count : ℕ) → is_spelled source (codes "defined") t ≡ true
      → Some (name, count) ≡ defined_name source rest → lexeme ≡ record { token = truth_token digits macros (spelling source name); hidden = 0; place = t.at }
      → Some (named known lexeme, count) ≡ taken_at source macros digits t rest
  defined-taken known empty t rest lexeme name count e n l =
      ap (λ x. Some (named known x, count)) l
      ∙ ap (λ x. Some (record { token = truth_token digits macros (spelling source name); hidden = x; place = t.at }, count)) empty.1
      ∙ ap (option_map (Named_by t)) n
      ∙ sym (ap (λ b. if b then option_map (Named_by t) (defined_name source rest) else Some (fresh t, 0)) e)

  -- and one without
  pub malformed-taken : (t : Token) (rest : List Token) → is_spelled source (codes "defined") t ≡ true → None ≡ defined_name source rest → None ≡ taken_at source macros digits t rest
  malformed-taken t rest e n =
      ap (option_map (Named_by t)) n
      ∙ sym (ap (λ b. if b then option_map (Named_by t) (defined_name source rest) else Some (fresh t, 0)) e)

  -- ---- the tokens so far, in front of what is left

  abbrev pub IsTaken : Known → List Token → List Numbered → List Token → Type 0
  IsTaken known all taken left = option_map (λ later. all_named known taken ++ later) (with_defined source macros digits left) ≡ with_defined source macros digits all

  -- none is taken at first
  pub taken-start : (known : Known) (all : List Token) (taken : List Numbered) → taken ≡ [] → IsTaken known all taken all
  taken-start known all taken e =
      ap (λ x. option_map (λ later. all_named known x ++ later) (with_defined source macros digits all)) e ∙ alone (with_defined source macros digits all)

  -- one token more is taken
  module _ (known : Known) (all left rest : List Token) (t : Token) (taken : List Numbered) (found : Option (Numbered × ℕ)) (is : left ≡ t ∷ rest)
      (becomes : option_map (λ one. (named known one.0, one.1)) found ≡ taken_at source macros digits t rest) (so_far : IsTaken known all taken left) where
    pub taken-on : (lexeme : Numbered) (count : ℕ) (more : List Numbered) → found ≡ Some (lexeme, count) → more ≡ taken ++ lexeme ∷ [] → IsTaken known all more (drop count rest)
    taken-on lexeme count more f m =
        ap (λ x. option_map (λ later. x ++ later) (with_defined source macros digits (drop count rest))) (ap (all_named known) m ∙ map-append (named known) taken (lexeme ∷ []))
        ∙ in_front (all_named known taken) (named known lexeme) (with_defined source macros digits (drop count rest))
        ∙ ap (option_map (λ later. all_named known taken ++ later)) (sym step)
        ∙ so_far
      where
        step : with_defined source macros digits left ≡ option_map (λ later. named known lexeme ∷ later) (with_defined source macros digits (drop count rest))
        step =
            ap (with_defined source macros digits) is
            ∙ taken-one t rest
            ∙ ap (option_and_then (In_front_of rest)) (sym becomes ∙ ap (option_map (λ (one : Numbered × ℕ). (named known one.0, one.1))) f)

    pub taken-not : found ≡ None → None ≡ with_defined source macros digits all
    taken-not f =
        ap (option_map (λ later. all_named known taken ++ later))
        (sym (ap (with_defined source macros digits) is ∙ taken-one t rest ∙ ap (option_and_then (In_front_of rest)) (sym becomes ∙ ap (option_map (λ (one : Numbered × ℕ). (named known one.0, one.1))) f)))
        ∙ so_far

  -- all are taken
  pub taken-all : (known : Known) (all left : List Token) (taken : List Numbered) → left ≡ [] → IsTaken known all taken left → Some (all_named known taken) ≡ with_defined source macros digits all
  taken-all known all left taken e h =
      ap Some (sym (append-nil (all_named known taken)))
      ∙ ap (λ x. option_map (λ later. all_named known taken ++ later) (with_defined source macros digits x)) (sym e)
      ∙ h

-- ---- the items of tokens

module _ (source : List ℕ) where
  pub items-more : (t : Lexeme) (rest : List Lexeme) (item : Item) → item_of t.token.kind (spelling source t.token) ≡ Some item
      → items_of source (t ∷ rest) ≡ option_map (λ later. item ∷ later) (items_of source rest)
  items-more t rest item e = ap (option_and_then (λ item. option_map (λ later. item ∷ later) (items_of source rest))) e

  pub items-none : (t : Lexeme) (rest : List Lexeme) → item_of t.token.kind (spelling source t.token) ≡ None → items_of source (t ∷ rest) ≡ None
  items-none t rest e = ap (option_and_then (λ item. option_map (λ later. item ∷ later) (items_of source rest))) e

  -- the items so far, in front of those of what is left
  abbrev pub AreItems : Known → List Numbered → List Item → ℕ → Type 0
  AreItems known tokens items i = option_map (λ later. items ++ later) (items_of source (all_named known (drop i tokens))) ≡ items_of source (all_named known tokens)

  pub items-start : (known : Known) (tokens : List Numbered) (items : List Item) → items ≡ [] → AreItems known tokens items 0
  items-start known tokens items e =
      ap (λ x. option_map (λ later. x ++ later) (items_of source (all_named known tokens))) e ∙ alone (items_of source (all_named known tokens))

  module _ (known : Known) (tokens : List Numbered) (items : List Item) (i : ℕ) (l : Numbered) (found : Option Item) (within : i < length tokens) (is : l ≡ get_or tokens i l)
      (found_is : found ≡ item_of l.token.kind (spelling source l.token)) (so_far : AreItems known tokens items i) where
    next_is : items_of source (all_named known (drop i tokens)) ≡ items_of source (named known l ∷ all_named known (drop (i + 1) tokens))
    next_is =
        at_drop_more (λ x. items_of source (all_named known x)) tokens i l within
        ∙ ap (λ x. items_of source (named known x ∷ all_named known (drop (i + 1) tokens))) (sym is)

    pub items-on : (item : Item) (more : List Item) → found ≡ Some item → more ≡ items ++ item ∷ [] → AreItems known tokens more (i + 1)
    items-on item more f m =
        ap (λ x. option_map (λ later. x ++ later) (items_of source (all_named known (drop (i + 1) tokens)))) m
        ∙ in_front items item (items_of source (all_named known (drop (i + 1) tokens)))
        ∙ ap (option_map (λ later. items ++ later)) (sym (next_is ∙ items-more (named known l) (all_named known (drop (i + 1) tokens)) item (sym found_is ∙ f)))
        ∙ so_far

    pub items-not : found ≡ None → None ≡ items_of source (all_named known tokens)
    items-not f =
        ap (option_map (λ later. items ++ later)) (sym (next_is ∙ items-none (named known l) (all_named known (drop (i + 1) tokens)) (sym found_is ∙ f)))
        ∙ so_far

  pub items-all : (known : Known) (tokens : List Numbered) (items : List Item) (i : ℕ) → length tokens ≤ i → AreItems known tokens items i → Some items ≡ items_of source (all_named known tokens)
  items-all known tokens items i l h =
      ap Some (sym (append-nil items))
      ∙ ap (option_map (λ later. items ++ later)) (sym (at_drop_all (λ x. items_of source (all_named known x)) tokens i l))
      ∙ h

-- ---- the whole

-- a verdict with the tokens that were produced
abbrev pub of_judged : ℕ → Judged → Verdict
of_judged produced (judged.Holds holds) = Holds holds produced
of_judged produced judged.Faulty = Faulty

-- what items come to
pub judges-items : (items : Option (List Item)) (produced : ℕ) (verdict : Judged) → IsVerdictOf items verdict → JudgesItems items produced (of_judged produced verdict)
judges-items None produced (judged.Holds holds) h = absurd h
judges-items None produced judged.Faulty h = condition.no_items produced
judges-items (Some items) produced (judged.Holds holds) (number, means, word, is, h) =
    condition.evaluated items produced number (Holds holds produced) means (ap (λ b. Holds b produced) h ∙ sym (ap (λ x. condition.decided_by x produced) is))
judges-items (Some items) produced judged.Faulty (inl no_number) = condition.no_expression items produced no_number
judges-items (Some items) produced judged.Faulty (inr (number, means, none)) = condition.evaluated items produced number Faulty means (sym (ap (λ x. condition.decided_by x produced) none))

module _ (items : List Item) where
  pub decides-word : (number : Number) (word : ℕ) (holds : Bool) → Means items number → number.word ≡ Some word → holds ≡ is_true word → IsVerdictOf (Some items) (judged.Holds holds)
  decides-word number word holds means w h = (number, means, word, w, h)

  pub decides-none : (value : Option Number) → value ≡ None → AnswersItems items value → IsVerdictOf (Some items) judged.Faulty
  decides-none value e h = let P : Option Number → Type 0 = λ x. AnswersItems items x in inl (subst P e h)

  pub decides-number : (value : Option Number) (number : Number) → value ≡ Some number → AnswersItems items value → Means items number
  decides-number value number e h = let P : Option Number → Type 0 = λ x. AnswersItems items x in subst P e h

-- tokens with the empty set are known
pub all-known : (known : Known) (ls : List Numbered) → HaveEmpty known → All (λ l. l.hidden ≡ 0) ls → AreKnown known ls
all-known known ls empty h = All-weaker (λ (l : Numbered). l.hidden ≡ 0) (λ (l : Numbered). l.hidden < length known) (λ l e. omega (arith, e, empty.0)) ls h

-- a fault that is handed on
pub stopped-on : {A : Type 0} (P : Result A ExpandFault → Type 0) (f : ExpandFault) (result : Result A ExpandFault) → result ≡ Err f → P (Err f) → P result
stopped-on P f result e h = subst P (sym e) h

-- sets stay where they are
pub keeps-self : (known : Known) → Keeps known known
keeps-self known = record { count = omega arith; same = λ number l. refl }

-- how far a condition has come before it is judged
abbrev at_start : ℕ → Progress
at_start produced = record { next = 0; rows = []; produced = produced; size = 0 }

module _ (source : List ℕ) (macros : Macros) (digits : Digits) (tokens : List Token) (p : Progress) (fresh_p : IsJudging p) where
  pub judged-malformed : (q : Progress) → None ≡ with_defined source macros digits tokens → AnswersJudgement source macros digits tokens p.produced q.produced (Ok judged.Faulty)
  judged-malformed q e =
      let P : Option (List Lexeme) → Type 0 = λ x. condition.JudgesTaken source macros (at_start p.produced) x Faulty in subst P e condition.malformed

  module _ (taken : List Lexeme) (is : Some taken ≡ with_defined source macros digits tokens) where
    judges : (outcome : Outcome) (verdict : Verdict) → Expands source source macros Alone taken p outcome → condition.JudgesOutcome source outcome verdict → Judges source macros digits tokens p.produced verdict
    judges outcome verdict x j =
        let P : Option (List Lexeme) → Type 0 = λ z. condition.JudgesTaken source macros (at_start p.produced) z verdict in
        let Q : Progress → Type 0 = λ z. Expands source source macros Alone taken z outcome in
        subst P is (condition.expanded taken outcome verdict (subst Q fresh_p x) j)

    pub judged-whole : (q : Progress) (out : List Lexeme) (v : Judged) → Expands source source macros Alone taken p (Done out q) → IsVerdictOf (items_of source out) v
        → AnswersJudgement source macros digits tokens p.produced q.produced (Ok v)
    judged-whole q out v x h = by v (judges (Done out q) (of_judged q.produced v) x (condition.done out q (of_judged q.produced v) (judges-items (items_of source out) q.produced v h)))
      where
        by : (v : Judged) → Judges source macros digits tokens p.produced (of_judged q.produced v) → AnswersJudgement source macros digits tokens p.produced q.produced (Ok v)
        by (judged.Holds holds) j = j
        by judged.Faulty j = j

    pub judged-stopped : (q : Progress) (fault : ExpandFault) → IsFault fault (λ f. Expands source source macros Alone taken p (Stopped f)) → AnswersJudgement source macros digits tokens p.produced q.produced (Err fault)
    judged-stopped q fault (inl none) = inl none
    judged-stopped q fault (inr x) = inr (judges (Stopped fault) (condition.Stops fault) x (condition.stopped fault))
