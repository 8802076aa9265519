-- What a reader does with one line, by what its calls answer.
use Rattle.std.proofs.Common.{◌≡◌, ℕ, ◌-◌, ◌==◌, ◌≤◌, ◌<◌, Bool, true, false, List, [], ◌∷◌, ◌++◌, length, get_or, map, reverse, take, drop, if◌then◌else◌, Option, Some, None, Result, Ok, Err, inl, inr, ◌⊎◌, refl, sym, ap, ◌∙◌, subst, arith}
use Rattle.std.proofs.lemmas.Bool.{eqb-true}
use Rattle.std.proofs.lemmas.List.{length-drop, take_all}
use Rattle.std.specs.Prelude.{IfOk, slice_get}
use Rattle.pw_token.specs.declared.token.Token.{Token}
use Rattle.pw_cpp.specs.Answers.{AnswersStep, AnswersTokens, DoesPassed, DoesTokens, DoesWhole, IsAt, IsLexed, IsRead, IsStill, StandsAs, reads_of}
use Rattle.pw_cpp.specs.Files as file
use Rattle.pw_cpp.specs.Files.{GoesOn, Reading, Step, Stops, after_effect, after_passed, name_of, passing, unlexed, with_nested, with_standing}
use Rattle.pw_cpp.specs.declared.reader.Reader.{Reader}
use Rattle.pw_cpp_directives.specs.Directives.{Becomes, DoesWord, Effect, Fails, Standing, fault, word_of}
use Rattle.pw_cpp_directives.specs.Obeying.{IsDoneBy, IsFaultOf, IsKept, standing_of}
use Rattle.pw_cpp_directives.specs.declared.condition.Digits.{Digits}
use Rattle.pw_cpp_directives.specs.declared.directive.Fault.{Fault}
use Rattle.pw_cpp_directives.specs.declared.fault.CppKind.TheVariants as kind
use Rattle.pw_cpp_lines.specs.Lines.{Lexes}
use Rattle.pw_cpp_lines.specs.Passing.{PassesLine}
use Rattle.pw_cpp_lines.specs.declared.head.Span.{Span}
use Rattle.pw_cpp_lines.specs.declared.line.Line.{Line}
use Rattle.pw_cpp_lines.specs.declared.line.LineFault.{LineFault}
use Rattle.pw_cpp_lines.specs.declared.line.LineFault.TheVariants as bad
use Rattle.pw_cpp_sources.specs.Rows.{output_of}
use Rattle.pw_cpp_sources.specs.Sources.{File, file_named, files_of, names_of, text_of}

module _ (old new : Reader) (still : IsStill old new) where
  -- the same files are read
  pub reads-still : reads_of new ≡ reads_of old
  reads-still = ap (λ x. files_of (names_of x) new.spans.now) still.files ∙ ap (files_of (names_of old.files.now)) still.spans

  -- and the same is at hand
  pub at-still : (f : File) → IsAt old f → IsAt new f
  at-still f h =
      let P : List File → Type 0 = λ x. (slice_get x new.file ≡ Some f) × (file_named x f.name ≡ Some f) in
      subst P (sym reads-still) (subst (λ n. slice_get (reads_of old) n ≡ Some f) (sym still.file) h.0, h.1)

  -- what was put out stands as before
  pub stands-still : (r : Reading) (s : Standing) → StandsAs old r → s ≡ standing_of new.standing → (nested : List Bool) → nested ≡ reverse new.standing.nested
      → StandsAs new (record { standing_is = s; nested = nested; out = r.out; size = r.size })
  stands-still r s st e nested n = record {
    standing_is = e;
    nested_is = n;
    out_is = ap (λ x. output_of x r.out) still.source ∙ st.out_is ∙ sym still.out;
    size_is = st.size_is ∙ sym still.size;
  }

  module _ (f : File) (text : List ℕ) (read : IsRead old f text) where
    -- a fault in the file at hand
    pub fault-here : (Does : Reading → Step → Type 0) (found : Fault) → ((r : Reading) → StandsAs old r → Does r (Stops f.name found)) → AnswersStep old new Does (Err found)
    fault-here Does found h = inr (f, at-still f read.0, h)

    passes_in : (at next : ℕ) → PassesLine text at next → PassesLine (text_of old.source.now f) at next
    passes_in at next h = subst (λ x. PassesLine x at next) read.1 h

    passed_to : (name : Span) (to : Option (List Bool)) (r : Reading) → StandsAs old r → passing (name_of text name) (reverse old.standing.nested) ≡ to
        → passing (name_of (text_of old.source.now f) name) r.nested ≡ to
    passed_to name to r st e = ap (λ x. passing (name_of x name) r.nested) (sym read.1) ∙ ap (passing (name_of text name)) st.nested_is ∙ e

    pub passed-on : (at hash next : ℕ) (name : Span) → PassesLine text at next → passing (name_of text name) (reverse old.standing.nested) ≡ Some (reverse new.standing.nested)
        → standing_of old.standing ≡ standing_of new.standing → AnswersStep old new (DoesPassed old.source.now f at hash name) (Ok next)
    passed-on at hash next name h e s = (
      still.file,
      (λ r st. (
        with_nested r (reverse new.standing.nested),
        stands-still r r.standing_is st (st.standing_is ∙ s) (reverse new.standing.nested) refl,
        (next, passes_in at next h, sym (ap (after_passed f hash next r) (passed_to name (Some (reverse new.standing.nested)) r st e))),
      )),
    )

    pub passed-wrong : (at hash next : ℕ) (name : Span) → PassesLine text at next → passing (name_of text name) (reverse old.standing.nested) ≡ None
        → (found : Fault) → found ≡ fault kind.Condition hash → AnswersStep old new (DoesPassed old.source.now f at hash name) (Err found)
    passed-wrong at hash next name h e found is =
        subst (λ x. AnswersStep old new (DoesPassed old.source.now f at hash name) (Err x)) (sym is)
        (fault-here (DoesPassed old.source.now f at hash name) (fault kind.Condition hash)
        (λ r st. (next, passes_in at next h, sym (ap (after_passed f hash next r) (passed_to name None r st e)))))

    module _ (digits : Digits) (hash : ℕ) (name : Span) where
      abbrev pub Does : Reading → Step → Type 0
      Does = DoesWhole old.source.now digits f hash name

      -- no tokens
      pub obeys-unlexed : (found : Fault) → IsLexed text hash (Err found) → AnswersStep old new Does (Err found)
      obeys-unlexed found (inl m) = inl m
      obeys-unlexed found (inr l) =
          fault-here Does found
          (λ r st. (
            Err (bad.Bad l.0),
            subst (λ x. Lexes x hash (Err (bad.Bad l.0))) read.1 l.1,
            file.no_tokens f r hash (name_of (text_of old.source.now f) name) (bad.Bad l.0) (Stops f.name found) (ap (Stops f.name) l.2),
          ))

      module _ (line : Line) (lexes : Lexes text hash (Ok line)) where
        word_in : name_of text name ≡ name_of (text_of old.source.now f) name
        word_in = ap (λ x. name_of x name) read.1

        lexes_in : Lexes (text_of old.source.now f) hash (Ok line)
        lexes_in = subst (λ x. Lexes x hash (Ok line)) read.1 lexes

        pub obeys-done : (r' : Unit {0}) → AnswersTokens old new (DoesTokens old.source.now digits hash (name_of text name) line.tokens) (Ok r') → AnswersStep old new Does (Ok line.next)
        obeys-done r' h = (
          still.file,
          (λ r st.
              let found = h r st in
              let Q : List ℕ → Type 0 = λ x. file.ObeysTokens old.source.now digits f r hash x line.next line.tokens (GoesOn line.next (with_standing r found.0)) in (
                with_standing r found.0,
                found.1,
                (Ok line, lexes_in, file.tokens f r hash (name_of (text_of old.source.now f) name) line (GoesOn line.next (with_standing r found.0)) (subst Q word_in (found.2 f line.next))),
              )),
        )

        pub obeys-fault : (found : Fault) → AnswersTokens old new (DoesTokens old.source.now digits hash (name_of text name) line.tokens) (Err found) → AnswersStep old new Does (Err found)
        obeys-fault found (inl m) = inl m
        obeys-fault found (inr h) =
            fault-here Does found
            (λ r st.
            let Q : List ℕ → Type 0 = λ x. file.ObeysTokens old.source.now digits f r hash x line.next line.tokens (Stops f.name found) in
            (Ok line, lexes_in, file.tokens f r hash (name_of (text_of old.source.now f) name) line (Stops f.name found) (subst Q word_in (h r st f line.next))))

-- ---- a directive's tokens

not_one : (n : ℕ) → (n ≡ 1 → ⊥) → (n == 1) ≡ false
not_one n h = by (n == 1) refl
  where
    by : (b : Bool) → (n == 1) ≡ b → (n == 1) ≡ false
    by true e = absurd (h (eqb-true n 1 e))
    by false e = e

module _ (old new : Reader) (still : IsStill old new) (digits : Digits) (hash : ℕ) (name : List ℕ) (tokens : List Token) where
  abbrev pub DoesThese : Reading → Effect → Type 0
  DoesThese = DoesTokens old.source.now digits hash name tokens

  wrong : (found : Fault) → found ≡ fault kind.Directive hash → AnswersTokens old new DoesThese (Err (fault kind.Directive hash)) → AnswersTokens old new DoesThese (Err found)
  wrong found is h = subst (λ x. AnswersTokens old new DoesThese (Err x)) (sym is) h

  pub no-tokens : (found : Fault) → found ≡ fault kind.Directive hash → length tokens < 1 → AnswersTokens old new DoesThese (Err found)
  no-tokens found is l = wrong found is (inr (λ r st f next. by_tokens tokens l r f next))
    where
      by_tokens : (ts : List Token) → length ts < 1 → (r : Reading) (f : File) (next : ℕ) → file.ObeysTokens old.source.now digits f r hash name next ts (Stops f.name (fault kind.Directive hash))
      by_tokens [] l r f next = file.nothing f r hash name next
      by_tokens (t ∷ ts) l r f next = absurd (omega (arith, l))

  pub long-hash : (found : Fault) → found ≡ fault kind.Directive hash → (d : Token) → 1 ≤ length tokens → ((get_or tokens 0 d).len ≡ 1 → ⊥) → AnswersTokens old new DoesThese (Err found)
  long-hash found is d l e = wrong found is (inr (λ r st f next. by_tokens tokens l (not_one (get_or tokens 0 d).len e) r f next))
    where
      by_tokens : (ts : List Token) → 1 ≤ length ts → ((get_or ts 0 d).len == 1) ≡ false → (r : Reading) (f : File) (next : ℕ)
          → file.ObeysTokens old.source.now digits f r hash name next ts (Stops f.name (fault kind.Directive hash))
      by_tokens [] l e r f next = absurd (omega (arith, l))
      by_tokens (t ∷ []) l e r f next =
          file.empty f r hash name next t (Stops f.name (fault kind.Directive hash)) (sym (ap (λ b. if b then GoesOn next r else Stops f.name (fault kind.Directive hash)) e))
      by_tokens (t ∷ word ∷ others) l e r f next = file.two_hashes f r hash name next t word others e

  module _ (d : Token) (rest : List Token) (rest_is : rest ≡ drop 1 tokens) (some : 1 ≤ length tokens) (one : (get_or tokens 0 d).len ≡ 1) where
    one_is : ((get_or tokens 0 d).len == 1) ≡ true
    one_is = ap (λ n. n == 1) one

    pub hash-alone : length rest < 1 → standing_of old.standing ≡ standing_of new.standing → old.standing.nested ≡ new.standing.nested → AnswersTokens old new DoesThese (Ok tt)
    hash-alone l s n = λ r st. (r.standing_is, stands-still old new still r r.standing_is st (st.standing_is ∙ s) r.nested (st.nested_is ∙ ap reverse n), (λ f next. by_tokens tokens rest rest_is some one_is l r f next))
      where
        by_tokens : (ts rest : List Token) → rest ≡ drop 1 ts → 1 ≤ length ts → ((get_or ts 0 d).len == 1) ≡ true → length rest < 1 → (r : Reading) (f : File) (next : ℕ)
            → file.ObeysTokens old.source.now digits f r hash name next ts (GoesOn next r)
        by_tokens [] rest i s e l r f next = absurd (omega (arith, s))
        by_tokens (t ∷ []) rest i s e l r f next = file.empty f r hash name next t (GoesOn next r) (sym (ap (λ b. if b then GoesOn next r else Stops f.name (fault kind.Directive hash)) e))
        by_tokens (t ∷ word ∷ others) rest i s e l r f next = absurd (omega (arith, l, ap length i))

    these : (ts rest others : List Token) → rest ≡ drop 1 ts → others ≡ drop 1 rest → 1 ≤ length ts → ((get_or ts 0 d).len == 1) ≡ true → 1 ≤ length rest → (r : Reading) → StandsAs old r → (f : File) (next : ℕ) (effect : Effect)
        → DoesWord old.source.now digits (standing_of old.standing) hash others (word_of name) effect → file.ObeysTokens old.source.now digits f r hash name next ts (after_effect f r next effect)
    these [] rest others i k s e l r st f next effect h = absurd (omega (arith, s))
    these (t ∷ []) rest others i k s e l r st f next effect h = absurd (omega (arith, l, ap length i))
    these (t ∷ word ∷ more) rest others i k s e l r st f next effect h =
        let P : List Token → Type 0 = λ x. DoesWord old.source.now digits r.standing_is hash x (word_of name) effect in
        let Q : Standing → Type 0 = λ x. DoesWord old.source.now digits x hash others (word_of name) effect in
        file.directive f r hash name next t word more effect (after_effect f r next effect) e (subst P (k ∙ ap (drop 1) i) (subst Q (sym st.standing_is) h)) refl

    pub word-obeyed : (others : List Token) → others ≡ drop 1 rest → 1 ≤ length rest → (result : Result (Unit {0}) Fault)
        → IsDoneBy (DoesWord old.source.now digits (standing_of old.standing) hash others (word_of name)) new.standing result → IfOk result (λ x. IsKept old.standing new.standing)
        → AnswersTokens old new DoesThese result
    word-obeyed others i l (Ok done) h k = λ r st. (
      standing_of new.standing,
      stands-still old new still r (standing_of new.standing) st refl r.nested (st.nested_is ∙ ap reverse (sym k.2)),
      (λ f next. these tokens rest others rest_is i some one_is l r st f next (Becomes (standing_of new.standing)) h),
    )
    word-obeyed others i l (Err found) (inl m) k = inl m
    word-obeyed others i l (Err found) (inr h) k = inr (λ r st f next. these tokens rest others rest_is i some one_is l r st f next (Fails found) h)

-- the tokens behind the first
pub behind-first : (xs : List Token) → take (length xs - 1) (drop 1 xs) ≡ drop 1 xs
behind-first xs = take_all (length xs - 1) (drop 1 xs) (omega (arith, length-drop 1 xs))
