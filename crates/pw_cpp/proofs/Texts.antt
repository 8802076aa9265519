-- What a text line comes to, and the rows in which it is put out.
use Rattle.std.proofs.Common.{◌≡◌, ℕ, ◌≤◌, ◌<◌, ◌+◌, Bool, true, false, List, [], ◌∷◌, ◌++◌, length, map, reverse, if◌then◌else◌, Result, Ok, Err, inl, inr, ◌⊎◌, refl, sym, ap, ◌∙◌, subst, arith}
use Rattle.std.proofs.lemmas.Bool.{leb-false}
use Rattle.std.proofs.lemmas.List.Concat.{flat_map-append}
use Rattle.std.specs.Prelude.{IfOk, nat_le}
use Rattle.pw_token.specs.declared.token.Token.{Token}
use Rattle.pw_cpp.specs.Answers.{AnswersStep, AnswersText, DoesText, Expanded, IsRead, IsSame, IsStill, StandsAs, starts}
use Rattle.pw_cpp.specs.Files as file
use Rattle.pw_cpp.specs.Files.{Reading, Step, Stops, after_text, progress, with_text}
use Rattle.pw_cpp.specs.declared.reader.Reader.{Reader}
use Rattle.pw_cpp.proofs.Steps.{at-still}
use Rattle.pw_cpp_directives.specs.Directives.{fault_of_expansion, standing}
use Rattle.pw_cpp_directives.specs.Obeying.{standing_of}
use Rattle.pw_cpp_directives.specs.declared.directive.Fault.{Fault}
use Rattle.pw_cpp_directives.specs.declared.directive.Standing.{Standing as Kept}
use Rattle.pw_cpp_expand.specs.AtHand.{AnswersExpansion, IsWithinLimits}
use Rattle.pw_cpp_expand.specs.Expansion.{Done, Expands, Outcome, Stopped}
use Rattle.pw_cpp_expand.specs.Lookahead as look
use Rattle.pw_cpp_expand.specs.Lookahead.{Further, Lexeme, Nothing, ReadsAs, ReadsOn, Tokens, Fault as Unread, fresh, of_text_line, output_limit, read_to}
use Rattle.pw_cpp_expand.specs.Numbered.{IsFault, all_named}
use Rattle.pw_cpp_expand.specs.Places.{AreReadFrom, Ascends, FirstIs, StandBetween}
use Rattle.pw_cpp_expand.specs.declared.progress.ExpandFault.{ExpandFault}
use Rattle.pw_cpp_expand.specs.declared.progress.ExpandFault.TheVariants.{Length, NoMemory}
use Rattle.pw_cpp_expand.specs.declared.progress.Lexeme.{Lexeme as Numbered}
use Rattle.pw_cpp_expand.specs.declared.progress.Mode.TheVariants.{InText}
use Rattle.pw_cpp_expand.specs.declared.progress.Progress.{Progress}
use Rattle.pw_cpp_lines.specs.Lines.{Lexes}
use Rattle.pw_cpp_lines.specs.declared.head.Head.{Head}
use Rattle.pw_cpp_lines.specs.declared.line.Line.{Line}
use Rattle.pw_cpp_lines.specs.declared.line.LineFault.{LineFault}
use Rattle.pw_cpp_macros.specs.Macros.{Macros}
use Rattle.pw_cpp_sets.specs.Sets.{Known}
use Rattle.pw_cpp_sources.specs.Rows.{AreInRows, output_of, rows_of, spelled_row}
use Rattle.pw_cpp_sources.specs.Sources.{File, text_of}

-- ---- limits

abbrev IsFurtherLimited : Further → Type 0
IsFurtherLimited Nothing = Unit {0}
IsFurtherLimited (Tokens tokens q) = IsWithinLimits q
IsFurtherLimited (Unread fault) = Unit {0}

module _ (text : List ℕ) where
  limited_line : (at : ℕ) (p : Progress) (found : Result Line LineFault) → IsWithinLimits p → IsFurtherLimited (of_text_line at p found)
  limited_line at p (Ok line) l = by_size (nat_le output_limit p.size) refl
    where
      by_size : (b : Bool) → nat_le output_limit p.size ≡ b → IsFurtherLimited (if b then Unread (Length at) else Tokens line.tokens (read_to p at line.next))
      by_size true e = tt
      by_size false e = (l.0, omega (arith, leb-false output_limit p.size e))
  limited_line at p (Err f) l = tt

  mutual
    limited_on : (at : ℕ) (p : Progress) (x : Further) → IsWithinLimits p → ReadsOn text at p x → IsFurtherLimited x
    limited_on at p x l (look.ends _ _ _) = tt
    limited_on at p x l (look.reads _ _ what _ w h r) = limited_as at p what x l r

    limited_as : (at : ℕ) (p : Progress) (what : Head) (x : Further) → IsWithinLimits p → ReadsAs text at p what x → IsFurtherLimited x
    limited_as at p what x l (look.directive _ _ hash name) = tt
    limited_as at p what x l (look.marker _ _ hash next _ m r) = limited_on next p x l r
    limited_as at p what x l (look.text_line _ _ found _ h g) = subst IsFurtherLimited (sym g) (limited_line at p found l)

-- a line that is read leaves room
pub limits-on : (text : List ℕ) (at : ℕ) (p q : Progress) (tokens : List Token) → IsWithinLimits p → ReadsOn text at p (Tokens tokens q) → IsWithinLimits q
limits-on text at p q tokens l h = limited_on text at p (Tokens tokens q) l h

-- ---- order

ascending : (known : Known) (low : ℕ) (ls : List Numbered) (high : ℕ) → StandBetween low (all_named known ls) high → Ascends low (map (λ (l : Numbered). l.place) ls) high
ascending known low [] high h = h
ascending known low (l ∷ ls) high h = (h.0, ascending known l.place ls high h.1)

in_rows : (known : Known) (first : ℕ) (rows : List ℕ) (ls : List Numbered) (high : ℕ) → StandBetween first (all_named known ls) high → FirstIs first rows → Ascends first rows high → AreInRows rows ls
in_rows known first [] ls high h i a = absurd i
in_rows known first (row ∷ rows) ls high h i a = (high, a.1, subst (λ x. Ascends x (map (λ (l : Numbered). l.place) ls) high) (sym i) (ascending known first ls high h))

-- the law of the tokens that a line has, and that of those that they come to
abbrev pub LineInOrder : Type 0
LineInOrder = (text : List ℕ) (at : ℕ) (p q : Progress) (tokens : List Token) → p.rows ≡ [] → ReadsOn text at p (Tokens tokens q) → (first : ℕ) × StandBetween first (map fresh tokens) q.next × AreReadFrom first q

abbrev pub TokensInOrder : Type 0
TokensInOrder = (source text : List ℕ) (macros : Macros) (pending out : List Lexeme) (p q : Progress) (low first : ℕ) → Expands source text macros InText pending p (Done out q)
    → StandBetween low pending p.next → AreReadFrom first p → StandBetween low out q.next × AreReadFrom first q

abbrev pub LineGoesOn : Type 0
LineGoesOn = (text : List ℕ) (at : ℕ) (p q : Progress) (tokens : List Token) → ReadsOn text at p (Tokens tokens q) → at < q.next

abbrev pub TokensGoOn : Type 0
TokensGoOn = (source text : List ℕ) (macros : Macros) (pending out : List Lexeme) (p q : Progress) → Expands source text macros InText pending p (Done out q) → p.next ≤ q.next

module _ (source : List ℕ) (old new : Kept) (text : List ℕ) (at : ℕ) (p : Progress) where
  pub text-unread : (q : Progress) (fault : ExpandFault) → IsFault fault (λ f. ReadsOn text at p (Unread f)) → AnswersText source old new text at p q (Err fault)
  text-unread q fault (inl m) = inl m
  text-unread q fault (inr h) = inr (inl h)

  pub text-expanded : LineInOrder → TokensInOrder → p.rows ≡ [] → (tokens : List Token) (m q : Progress) (result : Result (List Numbered) ExpandFault) → ReadsOn text at p (Tokens tokens m)
      → AnswersExpansion source text old.macros InText old.sets (map fresh tokens) m new.sets q result → AnswersText source old new text at p q result
  text-expanded line order e tokens m q (Ok out) h x =
      let first = line text at p m tokens e h in
      let all = order source text old.macros (map fresh tokens) (all_named new.sets out) m q first.0 first.0 x.0 first.1 first.2 in
      (record { tokens = tokens; middle = m; reads = h; expands = x.0 }, x.3, x.4, in_rows new.sets first.0 q.rows out q.next all.0 all.1.0 all.1.1)
  text-expanded line order e tokens m q (Err fault) h (inl m') = inl m'
  text-expanded line order e tokens m q (Err fault) h (inr x) = inr (inr (record { tokens = tokens; middle = m; reads = h; expands = x }))

  -- the text is further on behind it
  pub text-on : LineGoesOn → TokensGoOn → (tokens : List Token) (m q : Progress) (result : Result (List Numbered) ExpandFault) → ReadsOn text at p (Tokens tokens m)
      → AnswersExpansion source text old.macros InText old.sets (map fresh tokens) m new.sets q result → IfOk result (λ x. at < q.next)
  text-on line on tokens m q (Ok out) h x = omega (arith, line text at p m tokens h, on source text old.macros (map fresh tokens) (all_named new.sets out) m q x.0)
  text-on line on tokens m q (Err fault) h x = tt

  -- the sets that were known keep their numbers
  pub same-sets : (tokens : List Token) (m q : Progress) (result : Result (List Numbered) ExpandFault) → AnswersExpansion source text old.macros InText old.sets (map fresh tokens) m new.sets q result
      → new.macros ≡ old.macros → new.sections ≡ old.sections → new.nested ≡ old.nested → new.produced ≡ old.produced → IfOk result (λ x. IsSame old new)
  same-sets tokens m q (Ok out) x a b c d = record { macros = a; sections = b; nested = c; produced = d; sets = x.1 }
  same-sets tokens m q (Err fault) x a b c d = tt

-- ---- a text line of a file

-- what came of it is put out
pub record IsPut (old new : Reader) (q : Progress) (out : List Numbered) : Type 0 where
  pub source : new.source.now ≡ old.source.now
  pub file : new.file ≡ old.file
  pub macros : new.standing.macros ≡ old.standing.macros
  pub sections : new.standing.sections ≡ old.standing.sections
  pub nested : new.standing.nested ≡ old.standing.nested
  pub produced : new.standing.produced ≡ q.produced
  pub size : new.size ≡ q.size
  pub put : (known : Known) → new.out.items ≡ old.out.items ++ output_of old.source.now (rows_of q.rows (all_named known out))

module _ (old : Reader) (mid : Kept) (f : File) (text : List ℕ) (read : IsRead old f text) (at : ℕ) where
  abbrev pub Does : Reading → Step → Type 0
  Does = DoesText old.source.now f at

  starts_as : (r : Reading) → StandsAs old r → starts at old ≡ progress r at
  starts_as r st = ap (λ x. record { next = at; rows = []; produced = x; size = old.size }) (sym (ap (λ x. x.produced) st.standing_is)) ∙ ap (λ x. record { next = at; rows = []; produced = r.standing_is.produced; size = x }) (sym st.size_is)

  reads_in : (r : Reading) → StandsAs old r → (x : Further) → ReadsOn text at (starts at old) x → ReadsOn (text_of old.source.now f) at (progress r at) x
  reads_in r st x h = subst (λ p. ReadsOn (text_of old.source.now f) at p x) (starts_as r st) (subst (λ t. ReadsOn t at (starts at old) x) read.1 h)

  expands_in : (r : Reading) → StandsAs old r → (outcome : Outcome) → (step : Step) → step ≡ after_text f r outcome → Expanded old.source.now text old.standing.macros at (starts at old) outcome → Does r step
  expands_in r st outcome step e x =
      let macros_are : old.standing.macros ≡ r.standing_is.macros = sym (ap (λ s. s.macros) st.standing_is) in (
        Tokens x.tokens x.middle,
        reads_in r st (Tokens x.tokens x.middle) x.reads,
        file.expands f r x.tokens x.middle outcome step
            (subst (λ m. Expands old.source.now (text_of old.source.now f) m InText (map fresh x.tokens) x.middle outcome) macros_are
            (subst (λ t. Expands old.source.now t old.standing.macros InText (map fresh x.tokens) x.middle outcome) read.1 x.expands))
            e,
      )

  pub text-fault : (new : Reader) → IsStill old new → (q : Progress) (fault : ExpandFault) → AnswersText old.source.now old.standing mid text at (starts at old) q (Err fault) → (found : Fault) → found ≡ fault_of_expansion fault → AnswersStep old new Does (Err found)
  text-fault new still q fault h found is = subst (λ x. AnswersStep old new Does (Err x)) (sym is) (by h)
    where
      by : AnswersText old.source.now old.standing mid text at (starts at old) q (Err fault) → AnswersStep old new Does (Err (fault_of_expansion fault))
      by (inl m) = inl (ap (λ x. (fault_of_expansion x).kind) m)
      by (inr (inl h)) = inr (f, at-still old new still f read.0, (λ r st. (Unread fault, reads_in r st (Unread fault) h, file.unread f r fault)))
      by (inr (inr x)) = inr (f, at-still old new still f read.0, (λ r st. expands_in r st (Stopped fault) (Stops f.name (fault_of_expansion fault)) refl x))

  pub text-put : (new : Reader) (q : Progress) (out : List Numbered) → AnswersText old.source.now old.standing mid text at (starts at old) q (Ok out) → IsPut old new q out → AnswersStep old new Does (Ok q.next)
  text-put new q out a put = (
    put.file,
    (λ r st.
        let lexemes : List Lexeme = all_named mid.sets out in
        (with_text r lexemes q, stands r st lexemes (put.put mid.sets), expands_in r st (Done lexemes q) (file.GoesOn q.next (with_text r lexemes q)) refl a.0)),
  )
    where
      stands : (r : Reading) → StandsAs old r → (lexemes : List Lexeme) → new.out.items ≡ old.out.items ++ output_of old.source.now (rows_of q.rows lexemes) → StandsAs new (with_text r lexemes q)
      stands r st lexemes e = record {
        standing_is =
            ap (λ s. standing s.macros s.sections q.produced) st.standing_is
            ∙ ap (λ x. standing x (reverse old.standing.sections) q.produced) (sym put.macros)
            ∙ ap (λ x. standing new.standing.macros (reverse x) q.produced) (sym put.sections)
            ∙ ap (λ x. standing new.standing.macros (reverse new.standing.sections) x) (sym put.produced);
        nested_is = st.nested_is ∙ ap reverse (sym put.nested);
        out_is =
            ap (λ x. output_of x (r.out ++ rows_of q.rows lexemes)) put.source
            ∙ flat_map-append (spelled_row old.source.now) r.out (rows_of q.rows lexemes)
            ∙ ap (λ x. x ++ output_of old.source.now (rows_of q.rows lexemes)) st.out_is
            ∙ sym e;
        size_is = sym put.size;
      }
