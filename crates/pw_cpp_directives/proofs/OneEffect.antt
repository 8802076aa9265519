-- A directive has one effect.
use Rattle.std.proofs.Common.{◌≡◌, ℕ, true, false, List, Option, Some, None, refl, sym, ap, ◌∙◌, subst}
use Rattle.std.proofs.lemmas.Bool.{false≢true}
use Rattle.pw_token.specs.declared.token.Token.{Token}
use Rattle.pw_cpp_directives.specs.Conditions.{Judges, JudgesItems, JudgesOutcome, JudgesTaken, Verdict, decided, items_of, with_defined}
use Rattle.pw_cpp_directives.specs.Conditions as condition
use Rattle.pw_cpp_directives.specs.Directives.{Does, DoesWord, Effect, Standing, TurnsElif, elif_effect, if_effect}
use Rattle.pw_cpp_directives.specs.Directives as directive
use Rattle.pw_cpp_directives.specs.Groups.{Sections}
use Rattle.pw_cpp_directives.specs.declared.condition.Digits.{Digits}
use Rattle.pw_cpp_directives.specs.declared.directive.Word.{Word}
use Rattle.pw_cpp_condition.specs.Grammar.{Means}
use Rattle.pw_cpp_condition.specs.declared.word.Item.{Item}
use Rattle.pw_cpp_expand.specs.Expansion.{Expands, Outcome}
use Rattle.pw_cpp_expand.specs.Lookahead.{Lexeme}
use Rattle.pw_cpp_expand.specs.declared.progress.Mode.{Mode}
use Rattle.pw_cpp_expand.specs.declared.progress.Mode.TheVariants.{Alone}
use Rattle.pw_cpp_expand.specs.declared.progress.Progress.{Progress}
use Rattle.pw_cpp_macros.specs.Macros.{Macros}
use Rattle.pw_cpp_values.specs.declared.arithmetic.Number.{Number}

module _ (one_outcome : (source text : List ℕ) (macros : Macros) (mode : Mode) (pending : List Lexeme) (p : Progress) (x y : Outcome)
    → Expands source text macros mode pending p x → Expands source text macros mode pending p y → x ≡ y)
    (one_meaning : (items : List Item) (one other : Number) → Means items one → Means items other → one ≡ other) where
  one_items : (items : Option (List Item)) (produced : ℕ) (x y : Verdict) → JudgesItems items produced x → JudgesItems items produced y → x ≡ y
  one_items items produced x y (condition.no_items _) (condition.no_items _) = refl
  one_items items produced x y (condition.no_expression some _ n) (condition.no_expression _ _ m) = refl
  one_items items produced x y (condition.no_expression some _ n) (condition.evaluated _ _ number _ m g) = absurd (n number m)
  one_items items produced x y (condition.evaluated some _ number _ h e) (condition.no_expression _ _ m) = absurd (m number h)
  one_items items produced x y (condition.evaluated some _ number _ h e) (condition.evaluated _ _ other _ k g) = e ∙ ap (λ z. decided z produced) (one_meaning some number other h k) ∙ sym g

  one_judged : (source : List ℕ) (outcome : Outcome) (x y : Verdict) → JudgesOutcome source outcome x → JudgesOutcome source outcome y → x ≡ y
  one_judged source outcome x y (condition.stopped fault) (condition.stopped _) = refl
  one_judged source outcome x y (condition.done out q _ h) (condition.done _ _ _ k) = one_items (items_of source out) q.produced x y h k

  one_verdict : (source : List ℕ) (macros : Macros) (p : Progress) (taken : Option (List Lexeme)) (x y : Verdict) → JudgesTaken source macros p taken x → JudgesTaken source macros p taken y → x ≡ y
  one_verdict source macros p taken x y condition.malformed condition.malformed = refl
  one_verdict source macros p taken x y (condition.expanded some outcome _ h i) (condition.expanded _ other _ k j) =
      let P : Outcome → Type 0 = λ z. JudgesOutcome source z y in
      one_judged source outcome x y i (subst P (sym (one_outcome source source macros Alone some p outcome other h k)) j)

  module _ (source : List ℕ) (digits : Digits) where
    one_condition : (s : Standing) (tokens : List Token) (x y : Verdict) → Judges source s.macros digits tokens s.produced x → Judges source s.macros digits tokens s.produced y → x ≡ y
    one_condition s tokens x y h k = one_verdict source s.macros _ (with_defined source s.macros digits tokens) x y h k

    one_elif : (s : Standing) (hash : ℕ) (tokens : List Token) (sections : Sections) (x y : Effect) → TurnsElif source digits s hash tokens sections x → TurnsElif source digits s hash tokens sections y → x ≡ y
    one_elif s hash tokens sections x y directive.alone directive.alone = refl
    one_elif s hash tokens sections x y (directive.late section outer l) (directive.late _ _ k) = refl
    one_elif s hash tokens sections x y (directive.late section outer l) (directive.taken _ _ _ k t g) = absurd (false≢true (sym k ∙ l))
    one_elif s hash tokens sections x y (directive.late section outer l) (directive.judged _ _ verdict _ k t h g) = absurd (false≢true (sym k ∙ l))
    one_elif s hash tokens sections x y (directive.taken section outer _ l t e) (directive.late _ _ k) = absurd (false≢true (sym l ∙ k))
    one_elif s hash tokens sections x y (directive.taken section outer _ l t e) (directive.taken _ _ _ k u g) = e ∙ sym g
    one_elif s hash tokens sections x y (directive.taken section outer _ l t e) (directive.judged _ _ verdict _ k u h g) = absurd (false≢true (sym u ∙ t))
    one_elif s hash tokens sections x y (directive.judged section outer verdict _ l t h e) (directive.late _ _ k) = absurd (false≢true (sym l ∙ k))
    one_elif s hash tokens sections x y (directive.judged section outer verdict _ l t h e) (directive.taken _ _ _ k u g) = absurd (false≢true (sym t ∙ u))
    one_elif s hash tokens sections x y (directive.judged section outer verdict _ l t h e) (directive.judged _ _ other _ k u i g) =
        e ∙ ap (elif_effect s hash section outer) (one_condition s tokens verdict other h i) ∙ sym g

    one_effect : (s : Standing) (hash : ℕ) (tokens : List Token) (word : Word) (x y : Effect) → Does source digits s hash tokens word x → Does source digits s hash tokens word y → x ≡ y
    one_effect s hash tokens word x y (directive.defines _ e) (directive.defines _ g) = e ∙ sym g
    one_effect s hash tokens word x y (directive.undefines _ e) (directive.undefines _ g) = e ∙ sym g
    one_effect s hash tokens word x y (directive.opens verdict _ h e) (directive.opens other _ k g) = e ∙ ap (if_effect s hash) (one_condition s tokens verdict other h k) ∙ sym g
    one_effect s hash tokens word x y (directive.tests _ e) (directive.tests _ g) = e ∙ sym g
    one_effect s hash tokens word x y (directive.tests_not _ e) (directive.tests_not _ g) = e ∙ sym g
    one_effect s hash tokens word x y (directive.goes_on _ h) (directive.goes_on _ k) = one_elif s hash tokens s.sections x y h k
    one_effect s hash tokens word x y (directive.turns _ e) (directive.turns _ g) = e ∙ sym g
    one_effect s hash tokens word x y (directive.ends _ e) (directive.ends _ g) = e ∙ sym g
    one_effect s hash tokens word x y directive.errs directive.errs = refl

    pub one-word : (s : Standing) (hash : ℕ) (tokens : List Token) (word : Option Word) (x y : Effect) → DoesWord source digits s hash tokens word x → DoesWord source digits s hash tokens word y → x ≡ y
    one-word s hash tokens (Some word) x y h k = one_effect s hash tokens word x y h k
    one-word s hash tokens None x y h k = h ∙ sym k
