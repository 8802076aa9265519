-- The loop of the lexer cuts the text, and a text has one answer.
use Rattle.std.proofs.Common.{◌≡◌, ℕ, ◌+◌, ◌<◌, ◌≤◌, inl, inr, Bool, true, List, [], ◌∷◌, ◌++◌, length, take, drop, refl, ap, arith, sym, ◌∙◌, subst, length-append, length-drop, Some, None, Result, Ok, Err}
use Rattle.std.proofs.lemmas.List.{append-nil, take_at, drop_at, drop-drop, drop_all}
use Rattle.pw_token.proofs.CutLaws.{total, total-append, total-first, cuts-length, cuts-more, stands-long, same-piece, GoesOn, compare, stops, nothing-at_end, one-cutting, tokens-append}
use Rattle.pw_token.proofs.PieceLaws.{StandsHere, piece-sound, piece-none}
use Rattle.pw_token.specs.Limits.{text_limit, token_limit}
use Rattle.pw_token.specs.Pieces.{piece_at}
use Rattle.pw_token.specs.Tokenization.{Piece, Stands, Cuts, line_start_after, tokens_of, token_in, NothingStands, AreTokens, IsBadAt, IsTooManyAt, IsLexed, IsBad, IsTooMany, Lexes, AnswersLexing, Keeps}
use Rattle.pw_token.specs.declared.piece.PieceKind.{PieceKind}
use Rattle.pw_token.specs.declared.piece.PieceKind.TheVariants as piece
use Rattle.pw_token.specs.declared.token.LexFault.{LexFault}
use Rattle.pw_token.specs.declared.token.LexFault.TheVariants.{Bad, TooLong, TooMany, NoMemory}
use Rattle.pw_token.specs.declared.token.Token.{Token}
use Rattle.pw_token.specs.declared.token.TokenKind.{TokenKind}

-- the text up to `at` is cut, and these are its tokens
pub record Lexing (text : List ℕ) (at : ℕ) (line_start : Bool) (tokens : List Token) : Type 0 where
  pub pieces : List Piece
  pub cut : Cuts true text pieces line_start (drop at text)
  pub within : at ≤ length text
  pub are : tokens ≡ tokens_of 0 pieces
  pub few : length tokens ≤ token_limit

pub lexing-start : (text : List ℕ) → Lexing text 0 true []
lexing-start text = record { pieces = []; cut = (refl, refl); within = omega arith; are = refl; few = omega arith }

place-of : (text : List ℕ) (at : ℕ) (ls : Bool) (tokens : List Token) (l : Lexing text at ls tokens) → total l.pieces ≡ at
place-of text at ls tokens l = omega (arith, cuts-length true text l.pieces ls (drop at text) l.cut, length-drop at text, l.within)

-- what stands at the place
here : (text : List ℕ) (at : ℕ) (ls : Bool) (k : PieceKind) (n : ℕ) → at < length text → piece_at ls (drop at text) ≡ Some (k, n) → StandsHere ls (drop at text) (k, n)
here text at ls k n l e = found (drop at text) (omega (arith, length-drop at text)) e
  where
    found : (t : List ℕ) → 0 < length t → piece_at ls t ≡ Some (k, n) → StandsHere ls t (k, n)
    found [] l e = absurd (omega arith)
    found (b ∷ t) l e = piece-sound ls b t (k, n) e

pub lexing-step : (text : List ℕ) (at : ℕ) (ls : Bool) (tokens : List Token) (k : PieceKind) (n : ℕ) (next : List Token) (start : Bool) → Lexing text at ls tokens → at < length text
    → piece_at ls (drop at text) ≡ Some (k, n) → next ≡ tokens ++ token_in k at n → length next ≤ token_limit → start ≡ line_start_after ls k (take n (drop at text)) → Lexing text (at + n) start next
lexing-step text at ls tokens k n next start l inside e is few starts =
    let h = here text at ls k n inside e in
    let p : Piece = record { kind = k; text = h.front } in
    let after : drop (at + n) text ≡ h.rest = sym (drop-drop n at text) ∙ ap (drop n) h.split ∙ drop_at h.front h.rest n h.len in
    let front : take n (drop at text) ≡ h.front = ap (take n) h.split ∙ take_at h.front h.rest n h.len in
    let cut : Cuts true text (l.pieces ++ p ∷ []) (line_start_after ls k h.front) h.rest = cuts-more true text l.pieces ls (drop at text) p h.rest l.cut h.split h.stands in
    record {
      pieces = l.pieces ++ p ∷ [];
      cut = subst (λ x. Cuts true text (l.pieces ++ p ∷ []) x (drop (at + n) text)) (sym (starts ∙ ap (line_start_after ls k) front))
          (subst (Cuts true text (l.pieces ++ p ∷ []) (line_start_after ls k h.front)) (sym after) cut);
      within = omega (arith, ap length h.split, length-append h.front h.rest, h.len, length-drop at text, l.within);
      are = is ∙ ap (λ x. x ++ token_in k at n) l.are ∙ ap (λ x. tokens_of 0 l.pieces ++ x) (sym (last h.front h.len)) ∙ sym (tokens-append 0 l.pieces (p ∷ []));
      few = few;
    }
  where
    zero_add : (a b : ℕ) → a ≡ b → 0 + a ≡ b
    zero_add a b e = omega arith

    last : (front : List ℕ) → length front ≡ n → tokens_of (0 + total l.pieces) (record { kind = k; text = front } ∷ []) ≡ token_in k at n
    last front len = append-nil (token_in k (0 + total l.pieces) (length front)) ∙ ap (λ a. token_in k a (length front)) (zero_add (total l.pieces) at (place-of text at ls tokens l)) ∙ ap (token_in k at) len

pub lexing-end : (text : List ℕ) (at : ℕ) (ls : Bool) (tokens : List Token) → Lexing text at ls tokens → length text ≤ at → length text ≤ text_limit → IsLexed text tokens
lexing-end text at ls tokens l done small =
    (small, record { pieces = l.pieces; end = ls; cut = subst (Cuts true text l.pieces ls) (drop_all at text done) l.cut; tokens_are = l.are }, l.few)

-- ---- faults

token-kind : (f : Bool) (rest : List ℕ) (p : Piece) (more : List Piece) (e : Bool) (left : List ℕ) (k : TokenKind) (spelled after : List ℕ) → Cuts f rest (p ∷ more) e left
    → rest ≡ spelled ++ after → Stands f (piece.Token k) spelled after → p.kind ≡ piece.Token k
token-kind f rest p more e left k spelled after h split stands =
    let same = same-piece f rest p (record { kind = piece.Token k; text = spelled }) h.0 after h.1 h.2 split stands in
    ap (λ (x : Piece). x.kind) same.pieces

one-token : (p : Piece) (more : List Piece) (at : ℕ) (k : TokenKind) → p.kind ≡ piece.Token k → 0 < length (tokens_of at (p ∷ more))
one-token p more at k e =
    let l : 0 < length (token_in p.kind at (length p.text)) = subst (λ x. 0 < length (token_in x at (length p.text))) (sym e) (omega arith) in
    omega (arith, l, length-append (token_in p.kind at (length p.text)) (tokens_of (at + length p.text) more))

-- a cutting with few tokens stands before the first token behind those that a text may have
few-before : (text : List ℕ) (ps : List Piece) (e : Bool) (rest : List ℕ) (other : ℕ) → Cuts true text ps e rest → length (tokens_of 0 ps) ≤ token_limit
    → (o : IsTooManyAt text other) → GoesOn ps e rest o.pieces o.line_start o.rest
few-before text ps e rest other h few o =
    elim (compare true text ps e rest o.pieces o.line_start o.rest h o.cut) [
      | inl g ↦ g
      | inr g ↦ back g.more g.pieces g.cut
    ]
  where
    back : (more : List Piece) → ps ≡ o.pieces ++ more → Cuts o.line_start o.rest more e rest → GoesOn ps e rest o.pieces o.line_start o.rest
    back [] same cut = record { more = []; pieces = sym (append-nil o.pieces) ∙ sym same ∙ sym (append-nil ps); cut = (sym cut.0, sym cut.1) }
    back (p ∷ more) same cut =
        let k = token-kind o.line_start o.rest p more e rest o.kind o.spelled o.after cut o.split o.stands in
        absurd (omega (
          arith,
          few,
          ap (λ x. length (tokens_of 0 x)) same,
          ap length (tokens-append 0 o.pieces (p ∷ more)),
          length-append (tokens_of 0 o.pieces) (tokens_of (0 + total o.pieces) (p ∷ more)),
          o.full,
          one-token p more (0 + total o.pieces) o.kind k,
        ))

no-token : (e : Bool) (rest : List ℕ) (f : Bool) (left : List ℕ) (k : PieceKind) (spelled after : List ℕ) → NothingStands e rest → e ≡ f → rest ≡ left
    → left ≡ spelled ++ after → Stands f k spelled after → ⊥
no-token e rest f left k spelled after none same lists split stands =
    none k spelled after (lists ∙ split) (subst (λ x. Stands x k spelled after) (sym same) stands)

-- nothing stands behind few tokens
none-there : (text : List ℕ) (ps : List Piece) (e : Bool) (rest : List ℕ) (other : ℕ) → Cuts true text ps e rest → length (tokens_of 0 ps) ≤ token_limit
    → NothingStands e rest → IsTooManyAt text other → ⊥
none-there text ps e rest other h few none o =
    let g = few-before text ps e rest other h few o in
    let empty = stops e rest g.more o.line_start o.rest none g.cut in
    let cut : Cuts e rest [] o.line_start o.rest = subst (λ x. Cuts e rest x o.line_start o.rest) empty g.cut in
    no-token e rest o.line_start o.rest (piece.Token o.kind) o.spelled o.after none cut.0 cut.1 o.split o.stands

pub lexing-bad : (text : List ℕ) (at : ℕ) (ls : Bool) (tokens : List Token) → Lexing text at ls tokens → at < length text → length text ≤ text_limit
    → piece_at ls (drop at text) ≡ None → IsBad text at
lexing-bad text at ls tokens l inside small e =
    let none = piece-none ls (drop at text) e in (
      small,
      record {
        pieces = l.pieces;
        line_start = ls;
        rest = drop at text;
        cut = l.cut;
        place = omega (arith, length-drop at text);
        before_end = omega (arith, length-drop at text);
        nothing = none;
      },
      λ other o. absurd (none-there text l.pieces ls (drop at text) other l.cut (omega (arith, l.few, ap length l.are)) none o),
    )

-- something stands where a cutting stops
still-there : (text : List ℕ) (ps : List Piece) (e : Bool) (rest : List ℕ) (k : PieceKind) (spelled after : List ℕ) (other : ℕ) → Cuts true text ps e rest
    → rest ≡ spelled ++ after → Stands e k spelled after → (b : IsBadAt text other) → total ps < total b.pieces
still-there text ps e rest k spelled after other h split stands b =
    elim (compare true text ps e rest b.pieces b.line_start b.rest h b.cut) [
      | inl g ↦ forth g.more g.pieces g.cut
      | inr g ↦
          let empty = stops b.line_start b.rest g.more e rest b.nothing g.cut in
          let cut : Cuts b.line_start b.rest [] e rest = subst (λ x. Cuts b.line_start b.rest x e rest) empty g.cut in
          absurd (no-token b.line_start b.rest e rest k spelled after b.nothing cut.0 cut.1 split stands)
    ]
  where
    forth : (more : List Piece) → b.pieces ≡ ps ++ more → Cuts e rest more b.line_start b.rest → total ps < total b.pieces
    forth [] same cut = absurd (no-token b.line_start b.rest e rest k spelled after b.nothing (sym cut.0) (sym cut.1) split stands)
    forth (p ∷ more) same cut =
        let l = stands-long e p.kind p.text cut.0 cut.2 in
        omega (arith, ap total same, total-append ps (p ∷ more), total-first p more, l)

pub lexing-many : (text : List ℕ) (at : ℕ) (ls : Bool) (tokens : List Token) (k : TokenKind) (n : ℕ) → Lexing text at ls tokens → at < length text → length text ≤ text_limit
    → piece_at ls (drop at text) ≡ Some (piece.Token k, n) → length tokens ≡ token_limit → IsTooMany text at
lexing-many text at ls tokens k n l inside small e full =
    let h = here text at ls (piece.Token k) n inside e in (
      small,
      record {
        pieces = l.pieces;
        line_start = ls;
        rest = drop at text;
        cut = l.cut;
        place = omega (arith, length-drop at text);
        full = sym (ap length l.are) ∙ full;
        kind = k;
        spelled = h.front;
        after = h.rest;
        split = h.split;
        stands = h.stands;
      },
      λ other b.
          omega (
            arith,
            still-there text l.pieces ls (drop at text) (piece.Token k) h.front h.rest other l.cut h.split h.stands b,
            place-of text at ls tokens l,
            cuts-length true text b.pieces b.line_start b.rest b.cut,
            b.place,
          ),
    )

-- ---- one answer

same-tokens : (text : List ℕ) (a b : List Token) → AreTokens text a → AreTokens text b → a ≡ b
same-tokens text a b h k = h.tokens_are ∙ ap (tokens_of 0) (one-cutting true text h.pieces h.end k.pieces k.end h.cut k.cut) ∙ sym k.tokens_are

not-bad : (text : List ℕ) (a : List Token) (at : ℕ) → AreTokens text a → IsBadAt text at → ⊥
not-bad text a at h b =
    elim (compare true text h.pieces h.end [] b.pieces b.line_start b.rest h.cut b.cut) [
      | inl g ↦
          let empty = stops h.end [] g.more b.line_start b.rest (nothing-at_end h.end) g.cut in
          let cut : Cuts h.end [] [] b.line_start b.rest = subst (λ x. Cuts h.end [] x b.line_start b.rest) empty g.cut in
          omega (arith, b.before_end, ap length cut.1)
      | inr g ↦
          let empty = stops b.line_start b.rest g.more h.end [] b.nothing g.cut in
          let cut : Cuts b.line_start b.rest [] h.end [] = subst (λ x. Cuts b.line_start b.rest x h.end []) empty g.cut in
          omega (arith, b.before_end, ap length cut.1)
    ]

not-many : (text : List ℕ) (a : List Token) (at : ℕ) → AreTokens text a → length a ≤ token_limit → IsTooManyAt text at → ⊥
not-many text a at h few o = none-there text h.pieces h.end [] at h.cut (omega (arith, few, ap length h.tokens_are)) (nothing-at_end h.end) o

same-bad : (text : List ℕ) (a b : ℕ) → IsBadAt text a → IsBadAt text b → a ≡ b
same-bad text a b h k =
    elim (compare true text h.pieces h.line_start h.rest k.pieces k.line_start k.rest h.cut k.cut) [
      | inl g ↦
          let empty = stops h.line_start h.rest g.more k.line_start k.rest h.nothing g.cut in
          let cut : Cuts h.line_start h.rest [] k.line_start k.rest = subst (λ x. Cuts h.line_start h.rest x k.line_start k.rest) empty g.cut in
          omega (arith, h.place, k.place, ap length cut.1)
      | inr g ↦
          let empty = stops k.line_start k.rest g.more h.line_start h.rest k.nothing g.cut in
          let cut : Cuts k.line_start k.rest [] h.line_start h.rest = subst (λ x. Cuts k.line_start k.rest x h.line_start h.rest) empty g.cut in
          omega (arith, h.place, k.place, ap length cut.1)
    ]

same-many : (text : List ℕ) (a b : ℕ) → IsTooManyAt text a → IsTooManyAt text b → a ≡ b
same-many text a b h k =
    let f = few-before text h.pieces h.line_start h.rest b h.cut (omega (arith, h.full)) k in
    let g = few-before text k.pieces k.line_start k.rest a k.cut (omega (arith, k.full)) h in
    omega (
      arith,
      h.place,
      k.place,
      cuts-length true text h.pieces h.line_start h.rest h.cut,
      cuts-length true text k.pieces k.line_start k.rest k.cut,
      ap total f.pieces,
      total-append h.pieces f.more,
      ap total g.pieces,
      total-append k.pieces g.more,
    )

pub one-answer : (text : List ℕ) (x y : Result (List Token) LexFault) → Lexes text x → Lexes text y → x ≡ y
one-answer text (Ok a) (Ok b) h k = ap Ok (same-tokens text a b h.1 k.1)
one-answer text (Ok a) (Err TooLong) h k = absurd (omega (arith, h.0, k))
one-answer text (Ok a) (Err (Bad at)) h k = absurd (not-bad text a at h.1 k.1)
one-answer text (Ok a) (Err (TooMany at)) h k = absurd (not-many text a at h.1 h.2 k.1)
one-answer text (Ok a) (Err NoMemory) h k = absurd k
one-answer text (Err TooLong) (Ok b) h k = absurd (omega (arith, h, k.0))
one-answer text (Err TooLong) (Err TooLong) h k = refl
one-answer text (Err TooLong) (Err (Bad at)) h k = absurd (omega (arith, h, k.0))
one-answer text (Err TooLong) (Err (TooMany at)) h k = absurd (omega (arith, h, k.0))
one-answer text (Err TooLong) (Err NoMemory) h k = absurd k
one-answer text (Err (Bad at)) (Ok b) h k = absurd (not-bad text b at k.1 h.1)
one-answer text (Err (Bad at)) (Err TooLong) h k = absurd (omega (arith, h.0, k))
one-answer text (Err (Bad a)) (Err (Bad b)) h k = ap (λ n. Err (Bad n)) (same-bad text a b h.1 k.1)
one-answer text (Err (Bad a)) (Err (TooMany b)) h k = absurd (omega (arith, h.2 b k.1, k.2 a h.1))
one-answer text (Err (Bad at)) (Err NoMemory) h k = absurd k
one-answer text (Err (TooMany at)) (Ok b) h k = absurd (not-many text b at k.1 k.2 h.1)
one-answer text (Err (TooMany at)) (Err TooLong) h k = absurd (omega (arith, h.0, k))
one-answer text (Err (TooMany a)) (Err (Bad b)) h k = absurd (omega (arith, h.2 b k.1, k.2 a h.1))
one-answer text (Err (TooMany a)) (Err (TooMany b)) h k = ap (λ n. Err (TooMany n)) (same-many text a b h.1 k.1)
one-answer text (Err (TooMany at)) (Err NoMemory) h k = absurd k
one-answer text (Err NoMemory) y h k = absurd h

-- a piece that was not kept
pub gives-fault : {V : Type 0} (view : V → List Token) (text : List ℕ) (at : ℕ) (ls : Bool) (tokens : List Token) (k : PieceKind) (n count : ℕ) (fault : LexFault)
    → Lexing text at ls tokens → at < length text → length text ≤ text_limit → piece_at ls (drop at text) ≡ Some (k, n) → count ≡ length tokens
    → Keeps k at count fault → AnswersLexing text view (Err fault)
gives-fault view text at ls tokens k n count NoMemory l inside small e same h = tt
gives-fault view text at ls tokens k n count (TooMany place) l inside small e same h =
    let kind = h.2 in
    subst (IsTooMany text) (sym h.0)
    (lexing-many text at ls tokens kind.0 n l inside small (e ∙ ap (λ x. Some (x, n)) kind.1) (sym same ∙ h.1))
gives-fault view text at ls tokens k n count TooLong l inside small e same h = absurd h
gives-fault view text at ls tokens k n count (Bad place) l inside small e same h = absurd h
