-- Lines that are read as they are needed, and the tokens that stand ahead.
use Rattle.std.proofs.Common.{◌≡◌, ℕ, zero, suc, ◌+◌, ◌<◌, ◌≤◌, Bool, true, false, if◌then◌else◌, List, [], ◌∷◌, ◌++◌, length, map, reverse, Result, Ok, Err, Option, Some, None, inl, inr, refl, sym, ap, ◌∙◌, subst, append_assoc, arith}
use Rattle.std.proofs.lemmas.List.{append-nil, length-map, length-reverse, map-append, nil_from_length, reverse-append, reverse-reverse}
use Rattle.std.proofs.lemmas.Bool.{eqb-true, le-leb, leb-true, lt-leb}
use Rattle.std.specs.Prelude.{nat_le}
use Rattle.pw_token.specs.declared.token.Token.{Token}
use Rattle.pw_cpp_lines.specs.Heads.{IsHead, is_hash}
use Rattle.pw_cpp_lines.specs.Lines.{AnswersLine, Cuts, Lexes, Kinds, LinePiece, PassesSpace, behind_line}
use Rattle.pw_cpp_lines.specs.Passing.{PassesRest}
use Rattle.pw_cpp_lines.specs.declared.head.Head.{Head}
use Rattle.pw_cpp_lines.specs.declared.head.Head.TheVariants as head
use Rattle.pw_cpp_lines.specs.declared.line.Line.{Line}
use Rattle.pw_cpp_lines.specs.declared.line.LineFault.{LineFault}
use Rattle.pw_cpp_lines.specs.declared.line.LineFault.TheVariants as no
use Rattle.pw_cpp_expand.specs.Lookahead.{Ahead, At, Faulty, Further, Nothing, Tokens, Fault, Lexeme, LooksAhead, ReadsAs, ReadsOn, here, alone, marker, of_line, of_text_line, output_limit, read_to, reads, text_line}
use Rattle.pw_cpp_expand.specs.Lookahead as ahead
use Rattle.pw_cpp_expand.specs.Numbered.{AnswersAhead, AnswersFurther, AnswersTextLine, HaveEmpty, all_named, at_hand, fresh, named}
use Rattle.pw_cpp_expand.specs.declared.progress.ExpandFault.{ExpandFault}
use Rattle.pw_cpp_expand.specs.declared.progress.ExpandFault.TheVariants.{Length, NoMemory}
use Rattle.pw_cpp_expand.specs.declared.progress.Lexeme.{Lexeme as Numbered}
use Rattle.pw_cpp_expand.specs.declared.progress.Mode.{Mode}
use Rattle.pw_cpp_expand.specs.declared.progress.Mode.TheVariants.{InText, Alone}
use Rattle.pw_cpp_expand.specs.declared.progress.Progress.{Progress}
use Rattle.pw_cpp_sets.specs.Sets.{Known, set_at}

-- ---- a text line

module _ (text : List ℕ) (at : ℕ) (p q : Progress) (within : at < length text) (is_text : IsHead text at head.Text) where
  of_found : (found : Result Line LineFault) (further : Further) → Lexes text at found → further ≡ of_text_line at p found → ReadsOn text at p further
  of_found found further lexes e = reads at p head.Text further within is_text (text_line at p found further lexes e)

  pub line-faulty : (fault : LineFault) → AnswersLine text at (Err fault) → AnswersTextLine text at p q (Err (of_line fault))
  line-faulty (no.Bad place) a = inr (of_found (Err (no.Bad place)) _ a refl)
  line-faulty no.NoMemory a = inl refl

  pub line-long : (found : Line) → AnswersLine text at (Ok found) → output_limit ≤ p.size → AnswersTextLine text at p q (Err (Length at))
  line-long found a l = inr (of_found (Ok found) (Fault (Length at)) a is)
    where
      is : Fault (Length at) ≡ of_text_line at p (Ok found)
      is = rw (le-leb output_limit p.size l) refl

  pub line-read : (found : Line) → AnswersLine text at (Ok found) → p.size < output_limit → q ≡ read_to p at found.next → AnswersTextLine text at p q (Ok found.tokens)
  line-read found a l e = of_found (Ok found) (Tokens found.tokens q) a is
    where
      is : Tokens found.tokens q ≡ of_text_line at p (Ok found)
      is = rw (lt-leb output_limit p.size l) (ap (Tokens found.tokens) e)

-- ---- markers that are passed over

cuts_on : (kinds : Kinds) (text : List ℕ) (at : ℕ) (ps : List LinePiece) (end : ℕ) → Cuts kinds text at ps end → at ≤ end
cuts_on kinds text at [] end h = omega (arith, h)
cuts_on kinds text at (piece ∷ ps) end h = omega (arith, cuts_on kinds text (at + piece.1) ps end h.3)

-- a marker's `#` stands in the text, no earlier than its line begins
pub hash-within : (text : List ℕ) (at hash : ℕ) → IsHead text at (head.Marker hash) → (at ≤ hash) × (hash < length text)
hash-within text at hash h = (cuts_on _ text at h.0.pieces hash h.0.cut, there text hash h.1)
  where
    there : (text : List ℕ) (hash : ℕ) → is_hash text hash ≡ true → hash < length text
    there [] hash e = absurd (omega (arith, eqb-true 0 35 e))
    there (b ∷ text) zero e = omega arith
    there (b ∷ text) (suc hash) e = omega (arith, there text hash e)

-- the next line begins behind it
pub rest-on : (text : List ℕ) (at next : ℕ) → PassesRest text at next → at < length text → at < next
rest-on text at next h w = by (nat_le (length text) h.end) refl h.next_is
  where
    by : (b : Bool) → nat_le (length text) h.end ≡ b → next ≡ (if b then h.end else h.end + 1) → at < next
    by true e n = omega (arith, w, leb-true (length text) h.end e, n)
    by false e n = omega (arith, h.behind, n)

-- what comes of the line at a place comes of the line that is next
abbrev pub Leads : List ℕ → ℕ → Progress → Type 0
Leads text at p = (further : Further) → ReadsOn text at p further → ReadsOn text p.next p further

pub leads-on : (text : List ℕ) (at hash next : ℕ) (p : Progress) → at < length text → IsHead text at (head.Marker hash) → PassesRest text hash next → Leads text at p → Leads text next p
leads-on text at hash next p w h r k further read = k further (reads at p (head.Marker hash) further w h (marker at p hash next further r read))

-- the same, where the text has come no further
pub leads-from : (text : List ℕ) (at : ℕ) (start p : Progress) → p ≡ start → Leads text at start → (further : Further) → ReadsOn text at p further → ReadsOn text start.next start further
leads-from text at start p e k further h = let P : Progress → Type 0 = λ x. ReadsOn text at x further in k further (subst P e h)

-- ---- tokens as they are read

pub fresh-named : (known : Known) (tokens : List Token) → HaveEmpty known → all_named known (map fresh tokens) ≡ map ahead.fresh tokens
fresh-named known [] h = refl
fresh-named known (token ∷ tokens) h = both (ap (λ x. record { token = token; hidden = x; place = token.at }) h.1) (fresh-named known tokens h)
  where
    both : {x y : Lexeme} {xs ys : List Lexeme} → x ≡ y → xs ≡ ys → x ∷ xs ≡ y ∷ ys
    both a b = cc

-- no tokens at hand, but those of a line
pub fresh-at-hand : (known : Known) (tokens : List Token) (old new : List Numbered) → HaveEmpty known → old ≡ [] → new ≡ old ++ reverse (map fresh tokens) → at_hand known new ≡ map ahead.fresh tokens
fresh-at-hand known tokens old new h e n =
    ap (at_hand known) (n ∙ ap (λ x. x ++ reverse (map fresh tokens)) e) ∙ ap (all_named known) (reverse-reverse (map fresh tokens)) ∙ fresh-named known tokens h

-- where tokens are at hand, they stand ahead
pub ahead-here : (text : List ℕ) (mode : Mode) (p : Progress) (tokens : List Lexeme) → (tokens ≡ [] → ⊥) → LooksAhead text mode tokens p (At tokens p)
ahead-here text mode p [] h = absurd (h refl)
ahead-here text mode p (first ∷ rest) h = here mode first rest p

-- the same of tokens as they are kept
pub hand-here : (text : List ℕ) (p : Progress) (known : Known) (ls : List Numbered) → (ls ≡ [] → ⊥) → LooksAhead text InText (at_hand known ls) p (At (at_hand known ls) p)
hand-here text p known ls h = ahead-here text InText p (at_hand known ls) (λ e. h (nil_from_length ls (omega (arith, ap length e, length-map (reverse ls) (named known), length-reverse ls))))

pub ahead-alone : (text : List ℕ) (p : Progress) (tokens : List Lexeme) → LooksAhead text Alone tokens p (At tokens p)
ahead-alone text p [] = alone p
ahead-alone text p (first ∷ rest) = here Alone first rest p

-- ---- text lines that are read until a token stands ahead

abbrev pub LooksAs : List ℕ → List Numbered → Progress → List Numbered → Progress → Type 0
LooksAs text start s pending p =
    (known : Known) → HaveEmpty known → (found : Ahead) → LooksAhead text InText (at_hand known pending) p found → LooksAhead text InText (at_hand known start) s found

module _ (text : List ℕ) (start : List Numbered) (s : Progress) (old : List Numbered) (p : Progress) (leads : LooksAs text start s old p) (none : old ≡ []) where
  -- no token is at hand: what the text comes to stands ahead
  from_text : (found : Ahead) → LooksAhead text InText [] p found → (known : Known) → HaveEmpty known → LooksAhead text InText (at_hand known start) s found
  from_text found h known empty =
      let P : List Numbered → Type 0 = λ x. LooksAhead text InText (at_hand known x) p found in
      leads known empty found (subst P (sym none) h)

  pub looks-more : (new : List Numbered) (q : Progress) (tokens : List Token) → new ≡ old ++ reverse (map fresh tokens) → ReadsOn text p.next p (Tokens tokens q) → LooksAs text start s new q
  looks-more new q tokens n reading known empty found h =
      let P : List Lexeme → Type 0 = λ x. LooksAhead text InText x q found in
      from_text found (ahead.on p (Tokens tokens q) found reading (ahead.further p q tokens found (subst P (fresh-at-hand known tokens old new empty none n) h))) known empty

  pub looks-faulty : (fault : ExpandFault) → ReadsOn text p.next p (Fault fault) → (known : Known) → HaveEmpty known → LooksAhead text InText (at_hand known start) s (Faulty fault)
  looks-faulty fault reading = from_text (Faulty fault) (ahead.on p (Fault fault) (Faulty fault) reading (ahead.faulty p fault))

  pub looks-end : ReadsOn text p.next p Nothing → (known : Known) → HaveEmpty known → LooksAhead text InText (at_hand known start) s (At (at_hand known old) p)
  looks-end reading known empty =
      let P : List Numbered → Type 0 = λ x. LooksAhead text InText (at_hand known start) s (At (at_hand known x) p) in
      subst P (sym none) (from_text (At [] p) (ahead.on p Nothing (At [] p) reading (ahead.nothing p)) known empty)

-- ---- the next line is further on

line-on : (text : List ℕ) (at : ℕ) (line : Line) → Lexes text at (Ok line) → at < length text → at < line.next
line-on text at line h w = by (nat_le (length text) h.end) refl h.next_is
  where
    behind : at ≤ h.end
    behind = cuts_on _ text at h.pieces h.end h.cut

    by : (b : Bool) → nat_le (length text) h.end ≡ b → line.next ≡ (if b then h.end else h.end + 1) → at < line.next
    by true e n = omega (arith, w, leb-true (length text) h.end e, n)
    by false e n = omega (arith, behind, n)

abbrev pub IsFurther : ℕ → Further → Type 0
IsFurther at Nothing = Unit {0}
IsFurther at (Tokens tokens q) = at < q.next
IsFurther at (Fault fault) = Unit {0}

further_from : (at next : ℕ) (x : Further) → at ≤ next → IsFurther next x → IsFurther at x
further_from at next Nothing l h = tt
further_from at next (Tokens tokens q) l h = omega (arith, l, h)
further_from at next (Fault fault) l h = tt

of_line_further : (text : List ℕ) (at : ℕ) (p : Progress) (found : Result Line LineFault) → at < length text → Lexes text at found → IsFurther at (of_text_line at p found)
of_line_further text at p (Ok line) w h = by (nat_le output_limit p.size)
  where
    by : (b : Bool) → IsFurther at (if b then Fault (Length at) else Tokens line.tokens (read_to p at line.next))
    by true = tt
    by false = line-on text at line h w
of_line_further text at p (Err fault) w h = tt

mutual
  pub reads-further : (text : List ℕ) (at : ℕ) (p : Progress) (x : Further) → ReadsOn text at p x → IsFurther at x
  reads-further text at p x (ahead.ends _ _ l) = tt
  reads-further text at p x (ahead.reads _ _ what _ w h r) = further_as text at p what x w h r

  further_as : (text : List ℕ) (at : ℕ) (p : Progress) (what : Head) (x : Further) → at < length text → IsHead text at what → ReadsAs text at p what x → IsFurther at x
  further_as text at p what x w h (ahead.directive _ _ hash name) = tt
  further_as text at p what x w h (ahead.marker _ _ hash next _ r k) =
      let inside = hash-within text at hash h in
      further_from at next x (omega (arith, inside.0, rest-on text hash next r inside.1)) (reads-further text next p x k)
  further_as text at p what x w h (ahead.text_line _ _ found _ l e) =
      let P : Further → Type 0 = λ z. IsFurther at z in subst P (sym e) (of_line_further text at p found w l)

-- ---- what a line's answer says

-- no text line is next
pub looks-none : (text : List ℕ) (start : List Numbered) (s : Progress) (old : List Numbered) (p q : Progress) → LooksAs text start s old p → old ≡ [] → (found : Option (List Token)) → found ≡ None
    → AnswersFurther text p q (Ok found) → (known : Known) → HaveEmpty known → LooksAhead text InText (at_hand known start) s (At (at_hand known old) q)
looks-none text start s old p q leads none found is answer known empty =
    let P : Option (List Token) → Type 0 = λ x. AnswersFurther text p q (Ok x) in
    let both = subst P is answer in
    let Q : Progress → Type 0 = λ x. LooksAhead text InText (at_hand known start) s (At (at_hand known old) x) in
    subst Q (sym both.0) (looks-end text start s old p leads none both.1 known empty)

pub next-reads : (text : List ℕ) (p q : Progress) (found : Option (List Token)) (tokens : List Token) → found ≡ Some tokens → AnswersFurther text p q (Ok found) → ReadsOn text p.next p (Tokens tokens q)
next-reads text p q found tokens is answer = let P : Option (List Token) → Type 0 = λ x. AnswersFurther text p q (Ok x) in subst P is answer
