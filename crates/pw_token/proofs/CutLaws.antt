-- A text has at most one cutting.
use Rattle.std.proofs.Common.{◌≡◌, ℕ, ◌+◌, ◌<◌, ◌⊎◌, inl, inr, Bool, List, [], ◌∷◌, ◌++◌, length, take, drop, refl, ap, arith, sym, ◌∙◌, subst, append_assoc, length-append, Some}
use Rattle.std.proofs.lemmas.List.{append-nil, take_at, drop_at}
use Rattle.pw_token.proofs.KindLaws.{spelled-long}
use Rattle.pw_token.proofs.PieceLaws.{piece-complete}
use Rattle.pw_token.specs.Pieces.{piece_at}
use Rattle.pw_token.specs.Tokenization.{Piece, Stands, Cuts, line_start_after, tokens_of, token_in, NothingStands}
use Rattle.pw_token.specs.declared.piece.PieceKind.{PieceKind}
use Rattle.pw_token.specs.declared.piece.PieceKind.TheVariants as piece
use Rattle.pw_token.specs.declared.token.TokenKind.TheVariants.{Identifier, Keyword, Number, Floating, Character, Text, Wide, Mark, Directive}

-- the length of pieces
pub total : List Piece → ℕ
total [] = 0
total (p ∷ ps) = length p.text + total ps

pub total-first : (p : Piece) (ps : List Piece) → total (p ∷ ps) ≡ length p.text + total ps
unfolding total
total-first p ps = refl

pub total-append : (ps qs : List Piece) → total (ps ++ qs) ≡ total ps + total qs
unfolding total
total-append [] qs = omega arith
total-append (p ∷ ps) qs = omega (arith, total-append ps qs)

pub cuts-length : (s : Bool) (t : List ℕ) (ps : List Piece) (e : Bool) (rest : List ℕ) → Cuts s t ps e rest → total ps + length rest ≡ length t
unfolding total
cuts-length s t [] e rest h = omega (arith, ap length h.1)
cuts-length s t (p ∷ ps) e rest h = omega (arith, ap length h.1, length-append p.text h.0, cuts-length (line_start_after s p.kind p.text) h.0 ps e rest h.3)

pub stands-long : (s : Bool) (k : PieceKind) (text after : List ℕ) → Stands s k text after → 0 < length text
stands-long s piece.Blank [] after h = absurd h
stands-long s piece.Blank (b ∷ text) after h = omega arith
stands-long s piece.Comment text after h = omega (arith, ap length h.1)
stands-long s piece.LineMarker text after h = omega (arith, ap length h.1.1)
stands-long s (piece.Token Directive) text after h = omega (arith, ap length h.1.1)
stands-long s (piece.Token Identifier) text after h = spelled-long Identifier text h.spelled
stands-long s (piece.Token Keyword) text after h = spelled-long Keyword text h.spelled
stands-long s (piece.Token Number) text after h = spelled-long Number text h.spelled
stands-long s (piece.Token Floating) text after h = spelled-long Floating text h.spelled
stands-long s (piece.Token Character) text after h = spelled-long Character text h.spelled
stands-long s (piece.Token Text) text after h = spelled-long Text text h.spelled
stands-long s (piece.Token Wide) text after h = spelled-long Wide text h.spelled
stands-long s (piece.Token Mark) text after h = spelled-long Mark text h.spelled

-- one more piece
pub cuts-more : (s : Bool) (t : List ℕ) (ps : List Piece) (e : Bool) (rest : List ℕ) (p : Piece) (after : List ℕ) → Cuts s t ps e rest
    → rest ≡ p.text ++ after → Stands e p.kind p.text after → Cuts s t (ps ++ p ∷ []) (line_start_after e p.kind p.text) after
cuts-more s t [] e rest p after h split stands =
    (after, h.1 ∙ split, subst (λ x. Stands x p.kind p.text after) (sym h.0) stands, (ap (λ x. line_start_after x p.kind p.text) h.0, refl))
cuts-more s t (q ∷ ps) e rest p after h split stands =
    (h.0, h.1, h.2, cuts-more (line_start_after s q.kind q.text) h.0 ps e rest p after h.3 split stands)

-- two pieces at one place
pub record Same (p q : Piece) (a b : List ℕ) : Type 0 where
  pub pieces : p ≡ q
  pub rests : a ≡ b

pub same-piece : (s : Bool) (t : List ℕ) (p q : Piece) (a b : List ℕ) → t ≡ p.text ++ a → Stands s p.kind p.text a → t ≡ q.text ++ b → Stands s q.kind q.text b → Same p q a b
same-piece s t p q a b e h f k =
    let same = sym (piece-complete s p.kind p.text a h) ∙ ap (piece_at s) (sym e ∙ f) ∙ piece-complete s q.kind q.text b k in
    let pair = injective (p.kind, length p.text) (q.kind, length q.text) same in
    let kinds : p.kind ≡ q.kind = ap (λ (x : PieceKind × ℕ). x.0) pair in
    let lengths : length p.text ≡ length q.text = ap (λ (x : PieceKind × ℕ). x.1) pair in
    let front : p.text ≡ q.text = sym (take_at p.text a (length p.text) refl) ∙ ap (take (length p.text)) (sym e ∙ f) ∙ take_at q.text b (length p.text) (sym lengths) in
    let back : a ≡ b = sym (drop_at p.text a (length p.text) refl) ∙ ap (drop (length p.text)) (sym e ∙ f) ∙ drop_at q.text b (length p.text) (sym lengths) in
    record { pieces = join p q kinds front; rests = back }
  where
    injective : (x y : PieceKind × ℕ) → Some x ≡ Some y → x ≡ y
    injective x y e = cc

    join : (p q : Piece) → p.kind ≡ q.kind → p.text ≡ q.text → p ≡ q
    join p q e f = ap (λ x. record { kind = x; text = p.text }) e ∙ ap (λ x. record { kind = q.kind; text = x }) f

-- the second cutting goes on behind the first
pub record GoesOn (ps : List Piece) (e : Bool) (rest : List ℕ) (qs : List Piece) (f : Bool) (left : List ℕ) : Type 0 where
  pub more : List Piece
  pub pieces : qs ≡ ps ++ more
  pub cut : Cuts e rest more f left

pub compare : (s : Bool) (t : List ℕ) (ps : List Piece) (e : Bool) (rest : List ℕ) (qs : List Piece) (f : Bool) (left : List ℕ)
    → Cuts s t ps e rest → Cuts s t qs f left → GoesOn ps e rest qs f left ⊎ GoesOn qs f left ps e rest
compare s t [] e rest qs f left h k =
    inl (record { more = qs; pieces = refl; cut = subst (λ x. Cuts x rest qs f left) h.0 (subst (λ x. Cuts s x qs f left) h.1 k) })
compare s t (p ∷ ps) e rest [] f left h k =
    inr (record { more = p ∷ ps; pieces = refl; cut = subst (λ x. Cuts x left (p ∷ ps) e rest) k.0 (subst (λ x. Cuts s x (p ∷ ps) e rest) k.1 h) })
compare s t (p ∷ ps) e rest (q ∷ qs) f left h k =
    let same = same-piece s t p q h.0 k.0 h.1 h.2 k.1 k.2 in
    let other : Cuts (line_start_after s p.kind p.text) h.0 qs f left =
    subst (λ x. Cuts (line_start_after s x.kind x.text) h.0 qs f left) (sym same.pieces) (subst (λ x. Cuts (line_start_after s q.kind q.text) x qs f left) (sym same.rests) k.3) in
    elim (compare (line_start_after s p.kind p.text) h.0 ps e rest qs f left h.3 other) [
      | inl g ↦ inl (record { more = g.more; pieces = ap (λ x. q ∷ x) g.pieces ∙ ap (λ x. x ∷ ps ++ g.more) (sym same.pieces); cut = g.cut })
      | inr g ↦ inr (record { more = g.more; pieces = ap (λ x. p ∷ x) g.pieces ∙ ap (λ x. x ∷ qs ++ g.more) same.pieces; cut = g.cut })
    ]

-- where nothing stands, no cutting goes on
pub stops : (e : Bool) (rest : List ℕ) (more : List Piece) (f : Bool) (left : List ℕ) → NothingStands e rest → Cuts e rest more f left → more ≡ []
stops e rest [] f left none h = refl
stops e rest (p ∷ more) f left none h = absurd (none p.kind p.text h.0 h.1 h.2)

pub nothing-at_end : (e : Bool) → NothingStands e []
nothing-at_end e kind text after split stands = omega (arith, ap length split, length-append text after, stands-long e kind text after stands)

pub one-cutting : (s : Bool) (t : List ℕ) (ps : List Piece) (e : Bool) (qs : List Piece) (f : Bool) → Cuts s t ps e [] → Cuts s t qs f [] → ps ≡ qs
one-cutting s t ps e qs f h k =
    elim (compare s t ps e [] qs f [] h k) [
      | inl g ↦ sym (append-nil ps) ∙ sym (g.pieces ∙ ap (λ x. ps ++ x) (stops e [] g.more f [] (nothing-at_end e) g.cut))
      | inr g ↦ g.pieces ∙ ap (λ x. qs ++ x) (stops f [] g.more e [] (nothing-at_end f) g.cut) ∙ append-nil qs
    ]

-- ---- tokens

pub tokens-append : (at : ℕ) (ps qs : List Piece) → tokens_of at (ps ++ qs) ≡ tokens_of at ps ++ tokens_of (at + total ps) qs
unfolding total
tokens-append at [] qs = ap (λ n. tokens_of n qs) (none at)
  where
    none : (at : ℕ) → at ≡ at + 0
    none at = omega arith
tokens-append at (p ∷ ps) qs =
    let here = token_in p.kind at (length p.text) in
    ap (λ x. here ++ x) (tokens-append (at + length p.text) ps qs ∙ ap (λ n. tokens_of (at + length p.text) ps ++ tokens_of n qs) (regroup at (length p.text) (total ps)))
    ∙ sym (append_assoc here (tokens_of (at + length p.text) ps) (tokens_of (at + (length p.text + total ps)) qs))
  where
    regroup : (a b c : ℕ) → a + b + c ≡ a + (b + c)
    regroup a b c = omega arith
