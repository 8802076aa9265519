-- Tokens come to one thing.
use Rattle.std.proofs.Common.{◌≡◌, ℕ, zero, suc, ◌+◌, ◌<◌, ◌≤◌, List, [], ◌∷◌, ◌++◌, length, map, Option, Some, None, Result, Ok, Err, refl, sym, ap, ◌∙◌, subst, arith}
use Rattle.pw_token.specs.declared.token.Token.{Token}
use Rattle.pw_token.specs.Roles.{spelling}
use Rattle.pw_cpp_lines.specs.Heads.{IsHead}
use Rattle.pw_cpp_lines.specs.Lines.{Lexes}
use Rattle.pw_cpp_lines.specs.Passing.{PassesRest}
use Rattle.pw_cpp_lines.specs.declared.head.Head.{Head}
use Rattle.pw_cpp_lines.specs.declared.line.Line.{Line}
use Rattle.pw_cpp_lines.specs.declared.line.LineFault.{LineFault}
use Rattle.pw_cpp_macros.specs.Macros.{Macros}
use Rattle.pw_cpp_macros.specs.declared.definition.Macro.{Macro}
use Rattle.pw_cpp_expand.specs.Calls as call
use Rattle.pw_cpp_expand.specs.Calls.{Called, Collects, CollectsCut, CollectsFrom, arguments_of, cut_of, lengthened, part_of}
use Rattle.pw_cpp_expand.specs.Expansion as by
use Rattle.pw_cpp_expand.specs.Expansion.{Arguments, Calls, Refused, Expands, ExpandsArguments, Follows, Meets, Outcome, Done, Stopped, Turn, Turns, Becomes, macro_of, producing, putting, replaced_call, with_argument, with_first}
use Rattle.pw_cpp_expand.specs.Lookahead as look
use Rattle.pw_cpp_expand.specs.Lookahead.{Ahead, Further, Lexeme, LooksAhead, LooksOn, ReadsAs, ReadsOn, of_text_line}
use Rattle.pw_cpp_expand.specs.declared.arguments.Cut.{Cut}
use Rattle.pw_cpp_expand.specs.declared.progress.ExpandFault.{ExpandFault}
use Rattle.pw_cpp_expand.specs.declared.progress.Mode.{Mode}
use Rattle.pw_cpp_expand.specs.declared.progress.Mode.TheVariants.{Alone, InText}
use Rattle.pw_cpp_expand.specs.declared.progress.Progress.{Progress}
use Rattle.pw_cpp_sets.specs.Sets.{shared}
use Rattle.std.proofs.lemmas.Bool.{false≢true}

abbrev pub OneHead : Type 0
OneHead = (text : List ℕ) (at : ℕ) (head other : Head) → IsHead text at head → IsHead text at other → head ≡ other

abbrev pub OneLine : Type 0
OneLine = (text : List ℕ) (at : ℕ) (answer other : Result Line LineFault) → Lexes text at answer → Lexes text at other → answer ≡ other

-- the rest of a line ends at one place
abbrev pub OneRest : Type 0
OneRest = (text : List ℕ) (at next other : ℕ) → PassesRest text at next → PassesRest text at other → next ≡ other

none_some : {A : Type 0} {o : Option A} {x : A} → o ≡ None → o ≡ Some x → ⊥
none_some e f = cc

same_some : {A : Type 0} {o : Option A} {x y : A} → o ≡ Some x → o ≡ Some y → x ≡ y
same_some e f = cc

done_same : {out out' : List Lexeme} {q q' : Progress} → Done out q ≡ Done out' q' → (out ≡ out') × (q ≡ q')
done_same e = (cc, cc)

done_stopped : {out : List Lexeme} {q : Progress} {fault : ExpandFault} → Done out q ≡ Stopped fault → ⊥
done_stopped e = cc

stopped_same : {fault other : ExpandFault} → Stopped fault ≡ Stopped other → fault ≡ other
stopped_same e = cc

module _ (one_head : OneHead) (one_line : OneLine) (one_rest : OneRest) where
  mutual
    one_reading : (text : List ℕ) (at : ℕ) (p : Progress) (x y : Further) → ReadsOn text at p x → ReadsOn text at p y → x ≡ y
    one_reading text at p x y (look.ends _ _ l) (look.ends _ _ k) = refl
    one_reading text at p x y (look.ends _ _ l) (look.reads _ _ what _ w h r) = absurd (omega (arith, l, w))
    one_reading text at p x y (look.reads _ _ what _ w h r) (look.ends _ _ l) = absurd (omega (arith, l, w))
    one_reading text at p x y (look.reads _ _ what _ w h r) (look.reads _ _ other _ v k s) =
        let P : Head → Type 0 = λ z. ReadsAs text at p z y in
        one_reading_as text at p what x y r (subst P (sym (one_head text at what other h k)) s)

    one_reading_as : (text : List ℕ) (at : ℕ) (p : Progress) (what : Head) (x y : Further) → ReadsAs text at p what x → ReadsAs text at p what y → x ≡ y
    one_reading_as text at p what x y (look.directive _ _ hash name) (look.directive _ _ _ _) = refl
    one_reading_as text at p what x y (look.marker _ _ hash next _ r h) (look.marker _ _ _ other _ s k) =
        let P : ℕ → Type 0 = λ z. ReadsOn text z p y in
        one_reading text next p x y h (subst P (sym (one_rest text hash next other r s)) k)
    one_reading_as text at p what x y (look.text_line _ _ found _ l e) (look.text_line _ _ other _ k f) = e ∙ ap (of_text_line at p) (one_line text at found other l k) ∙ sym f

  mutual
    one_ahead : (text : List ℕ) (mode : Mode) (pending : List Lexeme) (p : Progress) (x y : Ahead) → LooksAhead text mode pending p x → LooksAhead text mode pending p y → x ≡ y
    one_ahead text mode pending p x y (look.here _ first rest _) (look.here _ _ _ _) = refl
    one_ahead text mode pending p x y (look.alone _) (look.alone _) = refl
    one_ahead text mode pending p x y (look.on _ found _ r h) (look.on _ other _ s k) =
        let P : Further → Type 0 = λ z. LooksOn text p z y in
        one_on text p found x y h (subst P (sym (one_reading text p.next p found other r s)) k)

    one_on : (text : List ℕ) (p : Progress) (found : Further) (x y : Ahead) → LooksOn text p found x → LooksOn text p found y → x ≡ y
    one_on text p found x y (look.nothing _) (look.nothing _) = refl
    one_on text p found x y (look.further _ q tokens _ h) (look.further _ _ _ _ k) = one_ahead text InText (map look.fresh tokens) q x y h k
    one_on text p found x y (look.faulty _ fault) (look.faulty _ _) = refl

  mutual
    one_call : (source text : List ℕ) (mode : Mode) (depth : ℕ) (arguments : List (List Lexeme)) (pending : List Lexeme) (p : Progress) (x y : Called)
        → Collects source text mode depth arguments pending p x → Collects source text mode depth arguments pending p y → x ≡ y
    one_call source text mode depth arguments pending p x y (call.looks _ _ _ _ ahead _ l h) (call.looks _ _ _ _ other _ m k) =
        let P : Ahead → Type 0 = λ z. CollectsFrom source text mode depth arguments z y in
        one_call_from source text mode depth arguments ahead x y h (subst P (sym (one_ahead text mode pending p ahead other l m)) k)

    one_call_from : (source text : List ℕ) (mode : Mode) (depth : ℕ) (arguments : List (List Lexeme)) (ahead : Ahead) (x y : Called)
        → CollectsFrom source text mode depth arguments ahead x → CollectsFrom source text mode depth arguments ahead y → x ≡ y
    one_call_from source text mode depth arguments ahead x y (call.open_end _ _ q) (call.open_end _ _ _) = refl
    one_call_from source text mode depth arguments ahead x y (call.faulty _ _ fault) (call.faulty _ _ _) = refl
    one_call_from source text mode depth arguments ahead x y (call.one_token _ _ t rest q _ h) (call.one_token _ _ _ _ _ _ k) =
        one_call_cut source text mode (cut_of (part_of source t) depth) arguments t rest q x y h k

    one_call_cut : (source text : List ℕ) (mode : Mode) (what : Cut) (arguments : List (List Lexeme)) (t : Lexeme) (rest : List Lexeme) (q : Progress) (x y : Called)
        → CollectsCut source text mode what arguments t rest q x → CollectsCut source text mode what arguments t rest q y → x ≡ y
    one_call_cut source text mode what arguments t rest q x y (call.within d _ _ _ _ _ h) (call.within _ _ _ _ _ _ k) = one_call source text mode d (lengthened arguments t) rest q x y h k
    one_call_cut source text mode what arguments t rest q x y (call.next _ _ _ _ _ h) (call.next _ _ _ _ _ k) = one_call source text mode 0 (arguments ++ [] ∷ []) rest q x y h k
    one_call_cut source text mode what arguments t rest q x y (call.ends _ _ _ _) (call.ends _ _ _ _) = refl

  mutual
    one_outcome : (source text : List ℕ) (macros : Macros) (mode : Mode) (pending : List Lexeme) (p : Progress) (x y : Outcome)
        → Expands source text macros mode pending p x → Expands source text macros mode pending p y → x ≡ y
    one_outcome source text macros mode pending p x y (by.ends _ _) (by.ends _ _) = refl
    one_outcome source text macros mode pending p x y (by.turns _ t rest _ turn _ h f) (by.turns _ _ _ _ other _ k g) =
        let P : Turn → Type 0 = λ z. Follows source text macros mode t z y in
        one_follow source text macros mode t turn x y f (subst P (sym (one_turn source text macros mode t rest p (macro_of source macros t) turn other h k)) g)

    one_follow : (source text : List ℕ) (macros : Macros) (mode : Mode) (t : Lexeme) (turn : Turn) (x y : Outcome)
        → Follows source text macros mode t turn x → Follows source text macros mode t turn y → x ≡ y
    one_follow source text macros mode t turn x y (by.stands _ _ ahead q _ more l h e) (by.stands _ _ _ _ _ other m k f) =
        e ∙ ap (with_first t) (one_outcome source text macros mode ahead (putting mode t q) more other h k) ∙ sym f
    one_follow source text macros mode t turn x y (by.stands _ _ ahead q _ more l h e) (by.too_long _ _ _ _ m) = absurd (omega (arith, l, m))
    one_follow source text macros mode t turn x y (by.too_long _ _ ahead q l) (by.stands _ _ _ _ _ other m k f) = absurd (omega (arith, l, m))
    one_follow source text macros mode t turn x y (by.too_long _ _ ahead q l) (by.too_long _ _ _ _ m) = refl
    one_follow source text macros mode t turn x y (by.becomes _ _ result behind q _ l h) (by.becomes _ _ _ _ _ _ m k) =
        one_outcome source text macros mode (result ++ behind) (producing q (length result)) x y h k
    one_follow source text macros mode t turn x y (by.becomes _ _ result behind q _ l h) (by.too_many _ _ _ _ _ m) = absurd (omega (arith, l, m))
    one_follow source text macros mode t turn x y (by.too_many _ _ result behind q l) (by.becomes _ _ _ _ _ _ m k) = absurd (omega (arith, l, m))
    one_follow source text macros mode t turn x y (by.too_many _ _ result behind q l) (by.too_many _ _ _ _ _ m) = refl
    one_follow source text macros mode t turn x y (by.faults _ _ fault) (by.faults _ _ _) = refl

    one_turn : (source text : List ℕ) (macros : Macros) (mode : Mode) (t : Lexeme) (rest : List Lexeme) (p : Progress) (found : Option Macro) (x y : Turn)
        → Turns source text macros mode t rest p found x → Turns source text macros mode t rest p found y → x ≡ y
    one_turn source text macros mode t rest p found x y (by.no_macro _ _ _ _) (by.no_macro _ _ _ _) = refl
    one_turn source text macros mode t rest p found x y (by.object _ _ _ _ m result n e) (by.object _ _ _ _ _ other k f) = ap (λ z. Becomes z rest p) (e ∙ sym f)
    one_turn source text macros mode t rest p found x y (by.object _ _ _ _ m result n e) (by.looks _ _ _ _ _ parameters ahead _ k l h) = absurd (none_some n k)
    one_turn source text macros mode t rest p found x y (by.looks _ _ _ _ m parameters ahead _ n l h) (by.object _ _ _ _ _ result k f) = absurd (none_some k n)
    one_turn source text macros mode t rest p found x y (by.looks _ _ _ _ m parameters ahead _ n l h) (by.looks _ _ _ _ _ others other _ k j g) =
        let P : List Token → Type 0 = λ z. Meets source text macros mode t m z other y in
        let Q : Ahead → Type 0 = λ z. Meets source text macros mode t m parameters z y in
        one_meeting source text macros mode t m parameters ahead x y h (subst Q (sym (one_ahead text mode rest p ahead other l j)) (subst P (sym (same_some n k)) g))

    one_meeting : (source text : List ℕ) (macros : Macros) (mode : Mode) (t : Lexeme) (m : Macro) (parameters : List Token) (ahead : Ahead) (x y : Turn)
        → Meets source text macros mode t m parameters ahead x → Meets source text macros mode t m parameters ahead y → x ≡ y
    one_meeting source text macros mode t m parameters ahead x y (by.unread _ _ _ _ fault) (by.unread _ _ _ _ _) = refl
    one_meeting source text macros mode t m parameters ahead x y (by.uncalled _ _ _ _ _ q n) (by.uncalled _ _ _ _ _ _ k) = refl
    one_meeting source text macros mode t m parameters ahead x y (by.uncalled _ _ _ _ _ q n) (by.called _ _ first _ _ behind _ found _ k c h) = absurd (false≢true (sym n ∙ k))
    one_meeting source text macros mode t m parameters ahead x y (by.called _ _ first _ _ behind q found _ n c h) (by.uncalled _ _ _ _ _ _ k) = absurd (false≢true (sym k ∙ n))
    one_meeting source text macros mode t m parameters ahead x y (by.called _ _ first _ _ behind q found _ n c h) (by.called _ _ _ _ _ _ _ other _ k d g) =
        let P : Called → Type 0 = λ z. Calls source text macros m parameters t z y in
        one_called source text macros m parameters t found x y h (subst P (sym (one_call source text mode 0 ([] ∷ []) behind q found other c d)) g)

    one_called : (source text : List ℕ) (macros : Macros) (m : Macro) (parameters : List Token) (t : Lexeme) (found : Called) (x y : Turn)
        → Calls source text macros m parameters t found x → Calls source text macros m parameters t found y → x ≡ y
    one_called source text macros m parameters t found x y (by.open_call _ _ _) (by.open_call _ _ _) = refl
    one_called source text macros m parameters t found x y (by.unread_call _ _ _ fault) (by.unread_call _ _ _ _) = refl
    one_called source text macros m parameters t found x y (by.miscounted _ _ _ close arguments behind p n) (by.miscounted _ _ _ _ _ _ _ k) = refl
    one_called source text macros m parameters t found x y (by.miscounted _ _ _ close arguments behind p n) (by.closed _ _ _ _ _ _ _ more _ k h e) = absurd (n k)
    one_called source text macros m parameters t found x y (by.closed _ _ _ close arguments behind p more _ n h e) (by.miscounted _ _ _ _ _ _ _ k) = absurd (k n)
    one_called source text macros m parameters t found x y (by.closed _ _ _ close arguments behind p more _ n h e) (by.closed _ _ _ _ _ _ _ other _ k g f) =
        e ∙ ap (replaced_call source (spelling source t.token ∷ shared t.hidden close.hidden) t.place m.replacement behind)
        (one_arguments source text macros m.replacement parameters (arguments_of parameters arguments) p more other h g) ∙ sym f

    one_arguments : (source text : List ℕ) (macros : Macros) (replacement parameters : List Token) (arguments : List (List Lexeme)) (p : Progress) (x y : Arguments)
        → ExpandsArguments source text macros replacement parameters arguments p x → ExpandsArguments source text macros replacement parameters arguments p y → x ≡ y
    one_arguments source text macros replacement parameters arguments p x y (by.none _ _) (by.none _ _) = refl
    one_arguments source text macros replacement parameters arguments p x y (by.unused _ _ others _ more _ _ n h) (by.unused _ _ _ _ _ _ _ k g) =
        one_arguments source text macros replacement others more p x y h g
    one_arguments source text macros replacement parameters arguments p x y (by.unused _ _ others _ more _ _ n h) (by.used _ _ _ _ out _ _ q _ found k o g f) = absurd (false≢true (sym n ∙ k))
    one_arguments source text macros replacement parameters arguments p x y (by.unused _ _ others _ more _ _ n h) (by.refused _ _ _ _ _ _ fault k o) = absurd (false≢true (sym n ∙ k))
    one_arguments source text macros replacement parameters arguments p x y (by.used _ _ others _ out more _ q _ found n o h e) (by.unused _ _ _ _ _ _ _ k g) = absurd (false≢true (sym k ∙ n))
    one_arguments source text macros replacement parameters arguments p x y (by.used _ name others argument out more _ q _ found n o h e) (by.used _ _ _ _ out' _ _ q' _ other k o' g f) =
        let same = done_same (one_outcome source text macros Alone argument p (Done out q) (Done out' q') o o') in
        let P : Progress → Type 0 = λ z. ExpandsArguments source text macros replacement others more z other in
        let rest = one_arguments source text macros replacement others more q found other h (subst P (sym same.1) g) in
        e ∙ ap (with_argument (spelling source name) out) rest ∙ ap (λ z. with_argument (spelling source name) z other) same.0 ∙ sym f
    one_arguments source text macros replacement parameters arguments p x y (by.used _ _ others argument out more _ q _ found n o h e) (by.refused _ _ _ _ _ _ fault k o') =
        absurd (done_stopped (one_outcome source text macros Alone argument p (Done out q) (Stopped fault) o o'))
    one_arguments source text macros replacement parameters arguments p x y (by.refused _ _ _ argument _ _ fault n o) (by.unused _ _ _ _ _ _ _ k g) = absurd (false≢true (sym k ∙ n))
    one_arguments source text macros replacement parameters arguments p x y (by.refused _ _ _ argument _ _ fault n o) (by.used _ _ _ _ out _ _ q _ found k o' g f) =
        absurd (done_stopped (sym (one_outcome source text macros Alone argument p (Stopped fault) (Done out q) o o')))
    one_arguments source text macros replacement parameters arguments p x y (by.refused _ _ _ argument _ _ fault n o) (by.refused _ _ _ _ _ _ other k o') =
        ap Refused (stopped_same (one_outcome source text macros Alone argument p (Stopped fault) (Stopped other) o o'))

  pub one-outcome : (source text : List ℕ) (macros : Macros) (mode : Mode) (pending : List Lexeme) (p : Progress) (x y : Outcome)
      → Expands source text macros mode pending p x → Expands source text macros mode pending p y → x ≡ y
  one-outcome = one_outcome

  pub one-reading : (text : List ℕ) (at : ℕ) (p : Progress) (x y : Further) → ReadsOn text at p x → ReadsOn text at p y → x ≡ y
  one-reading = one_reading
