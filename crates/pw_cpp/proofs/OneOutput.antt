-- A file comes to one thing.
use Rattle.std.proofs.Common.{◌≡◌, ℕ, suc, ◌+◌, true, false, List, [], map, Option, Result, refl, sym, ap, ◌∙◌, subst, arith}
use Rattle.std.proofs.lemmas.Bool.{false≢true}
use Rattle.pw_token.specs.declared.token.Token.{Token}
use Rattle.pw_cpp_directives.specs.Directives.{DoesWord, Effect, Standing, word_of}
use Rattle.pw_cpp.specs.Files.{Continues, Includes, IncludesHeader, IncludesQuoted, Obeys, ObeysTokens, Reading, ReadsDirective, ReadsFile, ReadsLine, ReadsLines, ReadsText, Result_of, Step, after_effect, after_header, after_passed, after_text, after_unquoted, name_of, passing, progress, quoted_name, use_of}
use Rattle.pw_cpp.specs.declared.way.Way.{Way}
use Rattle.pw_cpp.specs.Files as file
use Rattle.pw_cpp_directives.specs.declared.directive.Word.{Word}
use Rattle.pw_cpp_directives.specs.declared.condition.Digits.{Digits}
use Rattle.pw_cpp_expand.specs.Expansion.{Expands, Outcome}
use Rattle.pw_cpp_expand.specs.Lookahead.{Further, Lexeme, ReadsOn, fresh}
use Rattle.pw_cpp_expand.specs.declared.progress.Mode.{Mode}
use Rattle.pw_cpp_expand.specs.declared.progress.Mode.TheVariants.{InText}
use Rattle.pw_cpp_expand.specs.declared.progress.Progress.{Progress}
use Rattle.pw_cpp_lines.specs.Heads.{IsHead}
use Rattle.pw_cpp_lines.specs.Lines.{Lexes, PassesSpace}
use Rattle.pw_cpp_lines.specs.Passing.{PassesLine, PassesRest}
use Rattle.pw_cpp_lines.specs.declared.head.Head.{Head}
use Rattle.pw_cpp_lines.specs.declared.head.Span.{Span}
use Rattle.pw_cpp_lines.specs.declared.line.Line.{Line}
use Rattle.pw_cpp_lines.specs.declared.line.LineFault.{LineFault}
use Rattle.pw_cpp_macros.specs.Macros.{Macros}
use Rattle.pw_cpp_sources.specs.Sources.{File, text_of, header_of}

-- what the crates below say of lines, of expansion and of directives
pub record Below : Type 0 where
  pub head : (text : List ℕ) (at : ℕ) (what other : Head) → IsHead text at what → IsHead text at other → what ≡ other
  pub lexes : (text : List ℕ) (at : ℕ) (found other : Result Line LineFault) → Lexes text at found → Lexes text at other → found ≡ other
  pub space : (text : List ℕ) (at end other : ℕ) → PassesSpace text at end → PassesSpace text at other → end ≡ other
  pub rest : (text : List ℕ) (at next other : ℕ) → PassesRest text at next → PassesRest text at other → next ≡ other
  pub line : (text : List ℕ) (at next other : ℕ) → PassesLine text at next → PassesLine text at other → next ≡ other
  pub reading : (text : List ℕ) (at : ℕ) (p : Progress) (further other : Further) → ReadsOn text at p further → ReadsOn text at p other → further ≡ other
  pub outcome : (source text : List ℕ) (macros : Macros) (mode : Mode) (pending : List Lexeme) (p : Progress) (x y : Outcome)
      → Expands source text macros mode pending p x → Expands source text macros mode pending p y → x ≡ y
  pub effect : (source : List ℕ) (digits : Digits) (s : Standing) (hash : ℕ) (tokens : List Token) (word : Option Word) (x y : Effect)
      → DoesWord source digits s hash tokens word x → DoesWord source digits s hash tokens word y → x ≡ y

module _ (below : Below) where
  one_text : (source : List ℕ) (f : File) (r : Reading) (further : Further) (x y : Step) → ReadsText source f r further x → ReadsText source f r further y → x ≡ y
  one_text source f r further x y (file.unread _ _ fault) (file.unread _ _ _) = refl
  one_text source f r further x y (file.expands _ _ tokens p outcome _ h e) (file.expands _ _ _ _ other _ k g) =
      e ∙ ap (after_text f r) (below.outcome source (text_of source f) r.standing_is.macros InText (map fresh tokens) p outcome other h k) ∙ sym g

  module _ (source : List ℕ) (files : List File) (digits : Digits) where
    one_obeyed_tokens : (f : File) (r : Reading) (hash : ℕ) (name : List ℕ) (next : ℕ) (tokens : List Token) (x y : Step)
        → ObeysTokens source digits f r hash name next tokens x → ObeysTokens source digits f r hash name next tokens y → x ≡ y
    one_obeyed_tokens f r hash name next tokens x y (file.nothing _ _ _ _ _) (file.nothing _ _ _ _ _) = refl
    one_obeyed_tokens f r hash name next tokens x y (file.empty _ _ _ _ _ first _ e) (file.empty _ _ _ _ _ _ _ g) = e ∙ sym g
    one_obeyed_tokens f r hash name next tokens x y (file.two_hashes _ _ _ _ _ first word others l) (file.two_hashes _ _ _ _ _ _ _ _ k) = refl
    one_obeyed_tokens f r hash name next tokens x y (file.two_hashes _ _ _ _ _ first word others l) (file.directive _ _ _ _ _ _ _ _ effect _ k h g) = absurd (false≢true (sym l ∙ k))
    one_obeyed_tokens f r hash name next tokens x y (file.directive _ _ _ _ _ first word others effect _ l h e) (file.two_hashes _ _ _ _ _ _ _ _ k) = absurd (false≢true (sym k ∙ l))
    one_obeyed_tokens f r hash name next tokens x y (file.directive _ _ _ _ _ first word others effect _ l h e) (file.directive _ _ _ _ _ _ _ _ other _ k i g) =
        e ∙ ap (after_effect f r next) (below.effect source digits r.standing_is hash others (word_of name) effect other h i) ∙ sym g

    one_obeyed : (f : File) (r : Reading) (hash : ℕ) (name : List ℕ) (found : Result Line LineFault) (x y : Step) → Obeys source digits f r hash name found x → Obeys source digits f r hash name found y → x ≡ y
    one_obeyed f r hash name found x y (file.no_tokens _ _ _ _ fault _ e) (file.no_tokens _ _ _ _ _ _ g) = e ∙ sym g
    one_obeyed f r hash name found x y (file.tokens _ _ _ _ line _ h) (file.tokens _ _ _ _ _ _ k) = one_obeyed_tokens f r hash name line.next line.tokens x y h k

    mutual
      one_file : (depth : ℕ) (f : File) (r : Reading) (x y : Result_of) → ReadsFile source files digits depth f r x → ReadsFile source files digits depth f r y → x ≡ y
      one_file depth f r x y (file.too_long _ _ _ _ l e) (file.too_long _ _ _ _ k g) = e ∙ sym g
      one_file depth f r x y (file.too_long _ _ _ _ l e) (file.whole _ _ _ _ k h) = absurd (omega (arith, l, k))
      one_file depth f r x y (file.whole _ _ _ _ l h) (file.too_long _ _ _ _ k g) = absurd (omega (arith, l, k))
      one_file depth f r x y (file.whole _ _ _ _ l h) (file.whole _ _ _ _ k g) = one_lines depth f f.from (file.with_standing r (file.begins [] r.standing_is)) x y h g

      one_lines : (depth : ℕ) (f : File) (at : ℕ) (r : Reading) (x y : Result_of) → ReadsLines source files digits depth f at r x → ReadsLines source files digits depth f at r y → x ≡ y
      one_lines depth f at r x y (file.ends _ _ _ _ _ l e) (file.ends _ _ _ _ _ k g) = e ∙ sym g
      one_lines depth f at r x y (file.ends _ _ _ _ _ l e) (file.line _ _ _ _ what step _ k h i g) = absurd (omega (arith, l, k))
      one_lines depth f at r x y (file.line _ _ _ _ what step _ l h i g) (file.ends _ _ _ _ _ k e) = absurd (omega (arith, l, k))
      one_lines depth f at r x y (file.line _ _ _ _ what step _ l h i g) (file.line _ _ _ _ other step' _ k h' i' g') =
          let P : Head → Type 0 = λ z. ReadsLine source files digits depth f at r z step' in
          let Q : Step → Type 0 = λ z. Continues source files digits depth f z y in
          one_way depth f step x y g (subst Q (sym (one_step depth f at r what step step' i (subst P (sym (below.head (text_of source f) at what other h h')) i'))) g')

      one_way : (depth : ℕ) (f : File) (step : Step) (x y : Result_of) → Continues source files digits depth f step x → Continues source files digits depth f step y → x ≡ y
      one_way depth f step x y (file.goes_on _ _ next r _ h) (file.goes_on _ _ _ _ _ k) = one_lines depth f next r x y h k
      one_way depth f step x y (file.stops _ _ name fault) (file.stops _ _ _ _) = refl

      one_step : (depth : ℕ) (f : File) (at : ℕ) (r : Reading) (what : Head) (x y : Step) → ReadsLine source files digits depth f at r what x → ReadsLine source files digits depth f at r what y → x ≡ y
      one_step depth f at r what x y (file.marker _ _ _ _ hash next h) (file.marker _ _ _ _ _ other k) = ap (λ z. file.GoesOn z r) (below.rest (text_of source f) hash next other h k)
      one_step depth f at r what x y (file.text _ _ _ _ further _ a h i) (file.text _ _ _ _ other _ b k j) =
          let P : Further → Type 0 = λ z. ReadsText source f r z y in
          one_text source f r further x y i (subst P (sym (below.reading (text_of source f) at (progress r at) further other h k)) j)
      one_step depth f at r what x y (file.text _ _ _ _ further _ a h i) (file.passed_text _ _ _ _ next b k) = absurd (false≢true (sym b ∙ a))
      one_step depth f at r what x y (file.passed_text _ _ _ _ next a h) (file.text _ _ _ _ further _ b k j) = absurd (false≢true (sym a ∙ b))
      one_step depth f at r what x y (file.passed_text _ _ _ _ next a h) (file.passed_text _ _ _ _ other b k) = ap (λ z. file.GoesOn z r) (below.line (text_of source f) at next other h k)
      one_step depth f at r what x y (file.directive_line _ _ _ _ hash name _ h) (file.directive_line _ _ _ _ _ _ _ k) = one_directive depth f at r hash name (use_of r (name_of (text_of source f) name)) x y h k

      one_directive : (depth : ℕ) (f : File) (at : ℕ) (r : Reading) (hash : ℕ) (name : Span) (way : Way) (x y : Step)
          → ReadsDirective source files digits depth f at r hash name way x → ReadsDirective source files digits depth f at r hash name way y → x ≡ y
      one_directive depth f at r hash name way x y (file.pragma _ _ _ _ _ _ next h) (file.pragma _ _ _ _ _ _ other k) = ap (λ z. file.GoesOn z r) (below.rest (text_of source f) (name.at + name.len) next other h k)
      one_directive depth f at r hash name way x y (file.include _ _ _ _ _ _ start _ h i) (file.include _ _ _ _ _ _ other _ k j) =
          let P : ℕ → Type 0 = λ z. Includes source files digits depth f r hash (name.at + name.len) (quoted_name (text_of source f) z) y in
          one_include depth f r hash (name.at + name.len) (quoted_name (text_of source f) start) x y i (subst P (sym (below.space (text_of source f) (name.at + name.len) start other h k)) j)
      one_directive depth f at r hash name way x y (file.whole_line _ _ _ _ _ _ found _ h i) (file.whole_line _ _ _ _ _ _ other _ k j) =
          let P : Result Line LineFault → Type 0 = λ z. Obeys source digits f r hash (name_of (text_of source f) name) z y in
          one_obeyed f r hash (name_of (text_of source f) name) found x y i (subst P (sym (below.lexes (text_of source f) hash found other h k)) j)
      one_directive depth f at r hash name way x y (file.passed _ _ _ _ _ _ next _ h e) (file.passed _ _ _ _ _ _ other _ k g) =
          e ∙ ap (λ z. after_passed f hash z r (passing (name_of (text_of source f) name) r.nested)) (below.line (text_of source f) at next other h k) ∙ sym g

      one_include : (depth : ℕ) (f : File) (r : Reading) (hash behind : ℕ) (quoted : Option Span) (x y : Step)
          → Includes source files digits depth f r hash behind quoted x → Includes source files digits depth f r hash behind quoted y → x ≡ y
      one_include depth f r hash behind quoted x y (file.unquoted _ _ _ _ _ found _ h e) (file.unquoted _ _ _ _ _ other _ k g) =
          e ∙ ap (after_unquoted f hash) (below.lexes (text_of source f) behind found other h k) ∙ sym g
      one_include depth f r hash behind quoted x y (file.quoted _ _ _ _ _ span found _ h i) (file.quoted _ _ _ _ _ _ other _ k j) =
          let P : Result Line LineFault → Type 0 = λ z. IncludesQuoted source files digits depth f r hash span z y in
          one_quoted depth f r hash span found x y i (subst P (sym (below.lexes (text_of source f) (span.at + span.len + 1) found other h k)) j)

      one_quoted : (depth : ℕ) (f : File) (r : Reading) (hash : ℕ) (span : Span) (found : Result Line LineFault) (x y : Step)
          → IncludesQuoted source files digits depth f r hash span found x → IncludesQuoted source files digits depth f r hash span found y → x ≡ y
      one_quoted depth f r hash span found x y (file.no_rest _ _ _ _ _ fault _ e) (file.no_rest _ _ _ _ _ _ _ g) = e ∙ sym g
      one_quoted depth f r hash span found x y (file.wrong _ _ _ _ _ line w) (file.wrong _ _ _ _ _ _ v) = refl
      one_quoted depth f r hash span found x y (file.wrong _ _ _ _ _ line w) (file.named _ _ _ _ _ _ _ v k) = absurd (false≢true (sym v ∙ w))
      one_quoted depth f r hash span found x y (file.named _ _ _ _ _ line _ w h) (file.wrong _ _ _ _ _ _ v) = absurd (false≢true (sym w ∙ v))
      one_quoted depth f r hash span found x y (file.named _ _ _ _ _ line _ w h) (file.named _ _ _ _ _ _ _ v k) =
          one_header depth f r hash line.next (name_of (text_of source f) span) (header_of files (name_of (text_of source f) span)) x y h k

      one_header : (depth : ℕ) (f : File) (r : Reading) (hash next : ℕ) (name : List ℕ) (inner : Option File) (x y : Step)
          → IncludesHeader source files digits depth f r hash next name inner x → IncludesHeader source files digits depth f r hash next name inner y → x ≡ y
      one_header depth f r hash next name inner x y (file.no_header _ _ _ _ _ _) (file.no_header _ _ _ _ _ _) = refl
      one_header depth f r hash next name inner x y (file.too_deep _ _ header _ _ _ _ l) (file.too_deep _ _ _ _ _ _ _ k) = refl
      one_header depth f r hash next name inner x y (file.too_deep _ _ header _ _ _ _ l) (file.header _ _ _ _ _ _ _ found _ k h g) = absurd (omega (arith, l, k))
      one_header depth f r hash next name inner x y (file.header _ _ header _ _ _ _ found _ l h e) (file.too_deep _ _ _ _ _ _ _ k) = absurd (omega (arith, l, k))
      one_header depth f r hash next name inner x y (file.header _ _ header _ _ _ _ found _ l h e) (file.header _ _ _ _ _ _ _ other _ k i g) =
          e ∙ ap (after_header r next) (one_file (suc depth) header r found other h i) ∙ sym g

    pub one-file : (depth : ℕ) (f : File) (r : Reading) (x y : Result_of) → ReadsFile source files digits depth f r x → ReadsFile source files digits depth f r y → x ≡ y
    one-file = one_file
