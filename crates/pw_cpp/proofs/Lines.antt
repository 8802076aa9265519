-- What is done with a line, by what it is.
use Rattle.std.proofs.Common.{◌≡◌, ℕ, ◌+◌, ◌==◌, Bool, true, false, List, [], length, reverse, if◌then◌else◌, ◌&&◌, ◌||◌, Option, Some, None, Result, Ok, Err, inl, inr, refl, sym, ap, ◌∙◌, subst}
use Rattle.std.proofs.lemmas.List.{length-reverse}
use Rattle.std.specs.Prelude.{bytes_eq, codes}
use Rattle.pw_cpp.specs.Answers.{AnswersStep, DoesInclude, DoesLine, DoesPassed, DoesText, DoesWhole, IsRead, StandsAs, reads_of, use_by}
use Rattle.pw_cpp.specs.Files as file
use Rattle.pw_cpp.specs.Files.{GoesOn, Reading, Step, Stops, name_of, use_of}
use Rattle.pw_cpp.specs.declared.reader.Reader.{Reader}
use Rattle.pw_cpp.specs.declared.way.Way.{Way}
use Rattle.pw_cpp.specs.declared.way.Way.TheVariants.{Pragma, Include, Whole, Passed}
use Rattle.pw_cpp_directives.specs.Groups.{Sections, is_reading, is_turn}
use Rattle.pw_cpp_directives.specs.declared.condition.Digits.{Digits}
use Rattle.pw_cpp_directives.specs.declared.directive.Fault.{Fault}
use Rattle.pw_cpp_lines.specs.Heads.{IsHead}
use Rattle.pw_cpp_lines.specs.Passing.{PassesLine, PassesRest}
use Rattle.pw_cpp_lines.specs.declared.head.Head.{Head}
use Rattle.pw_cpp_lines.specs.declared.head.Head.TheVariants as head
use Rattle.pw_cpp_lines.specs.declared.head.Span.{Span}
use Rattle.pw_cpp_sources.specs.Sources.{File, text_of}

-- what is done with a directive's name where these sections are open
abbrev way_in : Sections → ℕ → List ℕ → Way
way_in sections count name =
    if is_reading sections && bytes_eq name (codes "pragma") then Pragma
    else (if is_reading sections && bytes_eq name (codes "include") then Include
    else (if is_reading sections || (count == 0 && is_turn name) then Whole else Passed))

same_way : (s s' : Sections) → s ≡ s' → (n n' : ℕ) → n ≡ n' → (w w' : List ℕ) → w ≡ w' → way_in s n w ≡ way_in s' n' w'
same_way s s' a n n' b w w' e = ap (λ x. way_in x n w) a ∙ ap (λ x. way_in s' x w) b ∙ ap (way_in s' n') e

-- what does one thing does another
pub step-as : (old new : Reader) (Does Does' : Reading → Step → Type 0) → ((r : Reading) (step : Step) → StandsAs old r → Does r step → Does' r step) → (result : Result ℕ Fault) → AnswersStep old new Does result
    → AnswersStep old new Does' result
step-as old new Does Does' k (Ok next) h = (h.0, (λ r st. ((h.1 r st).0, (h.1 r st).1, k r (GoesOn next (h.1 r st).0) st (h.1 r st).2)))
step-as old new Does Does' k (Err found) (inl m) = inl m
step-as old new Does Does' k (Err found) (inr h) = inr (h.0, h.1, (λ r st. k r (Stops h.0.name found) st (h.2 r st)))

-- nothing is done
pub step-past : (old : Reader) (Does : Reading → Step → Type 0) (next : ℕ) → ((r : Reading) → StandsAs old r → Does r (GoesOn next r)) → AnswersStep old old Does (Ok next)
step-past old Does next h = (refl, (λ r st. (r, st, h r st)))

module _ (old : Reader) (f : File) (text : List ℕ) (read : IsRead old f text) (digits : Digits) (depth at : ℕ) where
  abbrev pub Line : Reading → Step → Type 0
  Line = DoesLine old.source.now (reads_of old) digits depth f at

  head_in : (what : Head) → IsHead text at what → IsHead (text_of old.source.now f) at what
  head_in what h = subst (λ x. IsHead x at what) read.1 h

  reading_is : (r : Reading) → StandsAs old r → (b : Bool) → is_reading (reverse old.standing.sections) ≡ b → is_reading r.standing_is.sections ≡ b
  reading_is r st b e = ap (λ s. is_reading s.sections) st.standing_is ∙ e

  pub line-marker : (hash next : ℕ) → IsHead text at (head.Marker hash) → PassesRest text hash next → AnswersStep old old Line (Ok next)
  line-marker hash next h p = step-past old Line next (λ r st. (
    head.Marker hash,
    head_in (head.Marker hash) h,
    file.marker depth f at r hash next (subst (λ x. PassesRest x hash next) read.1 p),
  ))

  pub line-text : (new : Reader) (result : Result ℕ Fault) → IsHead text at head.Text → is_reading (reverse old.standing.sections) ≡ true → AnswersStep old new (DoesText old.source.now f at) result
      → AnswersStep old new Line result
  line-text new result h b =
      step-as old new (DoesText old.source.now f at) Line
      (λ r step st x. (head.Text, head_in head.Text h, file.text depth f at r x.0 step (reading_is r st true b) x.1 x.2)) result

  pub line-passed : (next : ℕ) → IsHead text at head.Text → is_reading (reverse old.standing.sections) ≡ false → PassesLine text at next → AnswersStep old old Line (Ok next)
  line-passed next h b p = step-past old Line next (λ r st. (
    head.Text,
    head_in head.Text h,
    file.passed_text depth f at r next (reading_is r st false b) (subst (λ x. PassesLine x at next) read.1 p),
  ))

  module _ (hash : ℕ) (name : Span) (h : IsHead text at (head.Directive hash name)) (word : List ℕ) (word_is : word ≡ name_of text name) where
    -- how a directive is used
    used : (r : Reading) → StandsAs old r → (way : Way) → way ≡ use_by old word → use_of r (name_of (text_of old.source.now f) name) ≡ way
    used r st way e =
        same_way r.standing_is.sections (reverse old.standing.sections) (ap (λ s. s.sections) st.standing_is) (length r.nested) (length old.standing.nested) (ap length st.nested_is ∙ length-reverse old.standing.nested) (name_of (text_of old.source.now f) name) word
        (ap (λ x. name_of x name) (sym read.1) ∙ sym word_is)
        ∙ sym e

    directive_as : (r : Reading) → StandsAs old r → (way : Way) → way ≡ use_by old word → (step : Step)
        → file.ReadsDirective old.source.now (reads_of old) digits depth f at r hash name way step → Line r step
    directive_as r st way e step d =
        let P : Way → Type 0 = λ x. file.ReadsDirective old.source.now (reads_of old) digits depth f at r hash name x step in
        (head.Directive hash name, head_in (head.Directive hash name) h, file.directive_line depth f at r hash name step (subst P (sym (used r st way e)) d))

    pub line-pragma : (next : ℕ) → Pragma ≡ use_by old word → PassesRest text (name.at + name.len) next → AnswersStep old old Line (Ok next)
    line-pragma next e p = step-past old Line next (λ r st. directive_as r st Pragma e (GoesOn next r)
        (file.pragma depth f at r hash name next (subst (λ x. PassesRest x (name.at + name.len) next) read.1 p)))

    pub line-include : (new : Reader) (result : Result ℕ Fault) → Include ≡ use_by old word → AnswersStep old new (DoesInclude old.source.now (reads_of old) digits depth f hash name) result → AnswersStep old new Line result
    line-include new result e =
        step-as old new (DoesInclude old.source.now (reads_of old) digits depth f hash name) Line
        (λ r step st x. directive_as r st Include e step (file.include depth f at r hash name x.0 step x.1 x.2)) result

    pub line-whole : (new : Reader) (result : Result ℕ Fault) → Whole ≡ use_by old word → AnswersStep old new (DoesWhole old.source.now digits f hash name) result → AnswersStep old new Line result
    line-whole new result e =
        step-as old new (DoesWhole old.source.now digits f hash name) Line
        (λ r step st x. directive_as r st Whole e step (file.whole_line depth f at r hash name x.0 step x.1 x.2)) result

    pub line-left : (new : Reader) (result : Result ℕ Fault) → Passed ≡ use_by old word → AnswersStep old new (DoesPassed old.source.now f at hash name) result → AnswersStep old new Line result
    line-left new result e =
        step-as old new (DoesPassed old.source.now f at hash name) Line
        (λ r step st x. directive_as r st Passed e step (file.passed depth f at r hash name x.0 step x.1 x.2)) result
