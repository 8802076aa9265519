-- Cuttings of a line: one more piece behind them, and that there is one.
use Rattle.std.proofs.Common.{◌≡◌, ℕ, ◌+◌, ◌↔◌, Bool, true, false, List, [], ◌∷◌, ◌++◌, Option, Some, None, IfSome, ◌<◌, ◌≤◌, ◌-◌, ◌||◌, length, take, drop, ◌⊎◌, inl, inr, refl, sym, ap, ◌∙◌, subst, append_assoc, length-drop, arith}
use Rattle.std.proofs.lemmas.Bool.{false≢true, leb-false}
use Rattle.std.proofs.lemmas.List.{append-nil, take_rest}
use Rattle.std.specs.Prelude.{nat_le, slice_index, ◌==◌}
use Rattle.std.specs.Bool.{IsTrue}
use Rattle.pw_token.specs.Pieces.{piece_at}
use Rattle.pw_token.specs.Tokenization.{BeginsWith, token_in}
use Rattle.pw_token.specs.declared.piece.PieceKind.{PieceKind}
use Rattle.pw_token.specs.declared.piece.PieceKind.TheVariants as piece
use Rattle.pw_token.specs.declared.token.Token.{Token}
use Rattle.pw_cpp_lines.specs.Heads.{is_line_marker}
use Rattle.pw_cpp_lines.specs.Walking.{IsStep}
use Rattle.pw_cpp_lines.specs.declared.passing.Passed.TheVariants as passed
use Rattle.pw_cpp_lines.specs.Lines.{Cuts, Kinds, LinePiece, NothingAt, any_kind, is_line_end, is_space, space_len, tokens_of}

-- ---- one more piece

pub cuts-more : (kinds : Kinds) (text : List ℕ) (at : ℕ) (ps : List LinePiece) (mid : ℕ) (k : PieceKind) (n : ℕ)
    → Cuts kinds text at ps mid → is_line_end text mid ≡ false → kinds k ≡ true → BeginsWith false k n (drop mid text) → Cuts kinds text at (ps ++ (k, n) ∷ []) (mid + n)
cuts-more kinds text at [] mid k n h e a b =
    let P : ℕ → Type 0 = λ x. Cuts kinds text x ((k, n) ∷ []) (mid + n) in subst P (sym h) (e, a, b, refl)
cuts-more kinds text at (p ∷ ps) mid k n h e a b = (h.0, h.1, h.2, cuts-more kinds text (at + p.1) ps mid k n h.3 e a b)

pub tokens-more : (kinds : Kinds) (text : List ℕ) (at : ℕ) (ps : List LinePiece) (mid : ℕ) (k : PieceKind) (n : ℕ)
    → Cuts kinds text at ps mid → tokens_of at (ps ++ (k, n) ∷ []) ≡ tokens_of at ps ++ token_in k mid n
tokens-more kinds text at [] mid k n h = append-nil (token_in k at n) ∙ ap (λ x. token_in k x n) h
tokens-more kinds text at (p ∷ ps) mid k n h =
    ap (λ x. token_in p.0 at p.1 ++ x) (tokens-more kinds text (at + p.1) ps mid k n h.3) ∙ sym (append_assoc (token_in p.0 at p.1) (tokens_of (at + p.1) ps) (token_in k mid n))

-- ---- one cutting

-- the piece that begins a text is the one that is found there
abbrev pub PieceIsFound : Type 0
PieceIsFound = (line_start : Bool) (text : List ℕ) (kind : PieceKind) (len : ℕ) → (piece_at line_start text ≡ Some (kind, len)) ↔ BeginsWith line_start kind len text

one_piece : PieceIsFound → (text : List ℕ) (p q : LinePiece) → BeginsWith false p.0 p.1 text → BeginsWith false q.0 q.1 text → p ≡ q
one_piece found text p q h k =
    let a : piece_at false text ≡ Some p = (found false text p.0 p.1).1 h in
    let b : piece_at false text ≡ Some q = (found false text q.0 q.1).1 k in
    some_same (sym a ∙ b)
  where
    some_same : {x y : LinePiece} → Some x ≡ Some y → x ≡ y
    some_same e = cc

-- a cutting goes no further
abbrev pub Stops : Kinds → List ℕ → ℕ → Type 0
Stops kinds text at = (is_line_end text at ≡ true) ⊎ NothingAt kinds text at

goes_further : (kinds : Kinds) (text : List ℕ) (at : ℕ) (p : LinePiece) → is_line_end text at ≡ false → kinds p.0 ≡ true → BeginsWith false p.0 p.1 (drop at text) → Stops kinds text at → ⊥
goes_further kinds text at p e a b (inl s) = false≢true (sym e ∙ s)
goes_further kinds text at p e a b (inr s) = s p.0 p.1 a b

stops_at : (kinds : Kinds) (text : List ℕ) (x y : ℕ) → x ≡ y → Stops kinds text y → Stops kinds text x
stops_at kinds text x y e s = let P : ℕ → Type 0 = λ z. Stops kinds text z in subst P (sym e) s

pub one_cutting : PieceIsFound → (kinds : Kinds) (text : List ℕ) (at : ℕ) (ps qs : List LinePiece) (e f : ℕ)
    → Cuts kinds text at ps e → Cuts kinds text at qs f → Stops kinds text e → Stops kinds text f → (ps ≡ qs) × (e ≡ f)
one_cutting found kinds text at [] [] e f h k s t = (refl, sym h ∙ k)
one_cutting found kinds text at [] (q ∷ qs) e f h k s t = absurd (goes_further kinds text at q k.0 k.1 k.2 (stops_at kinds text at e h s))
one_cutting found kinds text at (p ∷ ps) [] e f h k s t = absurd (goes_further kinds text at p h.0 h.1 h.2 (stops_at kinds text at f k t))
one_cutting found kinds text at (p ∷ ps) (q ∷ qs) e f h k s t =
    let same : p ≡ q = one_piece found (drop at text) p q h.2 k.2 in
    let P : LinePiece → Type 0 = λ x. Cuts kinds text (at + x.1) qs f in
    let below = one_cutting found kinds text (at + p.1) ps qs e f h.3 (subst P (sym same) k.3) s t in
    (joined same below.0, below.1)
  where
    joined : {x y : LinePiece} {xs ys : List LinePiece} → x ≡ y → xs ≡ ys → x ∷ xs ≡ y ∷ ys
    joined a b = cc

-- ---- what is found

-- From one place to another the line is cut, and these are the tokens.
abbrev pub IsCut : List ℕ → ℕ → List Token → ℕ → Type 0
IsCut text at tokens end = (pieces : List LinePiece) × Cuts any_kind text at pieces end × (tokens ≡ tokens_of at pieces)

pub cut-more : (text : List ℕ) (at : ℕ) (tokens more : List Token) (mid : ℕ) (k : PieceKind) (n : ℕ)
    → IsCut text at tokens mid → is_line_end text mid ≡ false → BeginsWith false k n (drop mid text) → more ≡ tokens ++ token_in k mid n → IsCut text at more (mid + n)
cut-more text at tokens more mid k n h e b m = (
  h.0 ++ (k, n) ∷ [],
  cuts-more any_kind text at h.0 mid k n h.1 e refl b,
  m ∙ ap (λ x. x ++ token_in k mid n) h.2 ∙ sym (tokens-more any_kind text at h.0 mid k n h.1),
)

-- of a text what was found at its beginning is what stands there
abbrev pub IsFound : Bool → List ℕ → Option LinePiece → Type 0
IsFound line_start text found = (kind : PieceKind) (len : ℕ) → (found ≡ Some (kind, len)) ↔ BeginsWith line_start kind len text

pub space-stands : (text : List ℕ) (r : Option LinePiece) → IsFound false text r → 0 < space_len r → (k : PieceKind) × (is_space k ≡ true) × BeginsWith false k (space_len r) text
space-stands text None h s = absurd (omega (arith, s))
space-stands text (Some (piece.Blank, n)) h s = (piece.Blank, refl, (h piece.Blank n).0 refl)
space-stands text (Some (piece.Comment, n)) h s = (piece.Comment, refl, (h piece.Comment n).0 refl)
space-stands text (Some (piece.LineMarker, n)) h s = absurd (omega (arith, s))
space-stands text (Some (piece.Token k, n)) h s = absurd (omega (arith, s))

pub no-space : (text : List ℕ) (r : Option LinePiece) → IsFound false text r → IfSome r (λ p. (0 < p.1) × (p.1 ≤ length text)) → space_len r ≡ 0
    → (k : PieceKind) (n : ℕ) → is_space k ≡ true → BeginsWith false k n text → ⊥
no-space text r h w z k n s b =
    let e : r ≡ Some (k, n) = (h k n).1 b in
    let P : Option LinePiece → Type 0 = λ x. IfSome x (λ p. (0 < p.1) × (p.1 ≤ length text)) in
    let some : (0 < n) × (n ≤ length text) = subst P e w in
    let same : n ≡ 0 = sym (long k n s) ∙ sym (ap space_len e) ∙ z in
    omega (arith, some.0, same)
  where
    long : (k : PieceKind) (n : ℕ) → is_space k ≡ true → space_len (Some (k, n)) ≡ n
    long k n s = rw s refl

pub marker-found : (text : List ℕ) (r : Option LinePiece) → IsFound true text r → (is_line_marker r ≡ true) ↔ ((len : ℕ) × BeginsWith true piece.LineMarker len text)
marker-found text r h = (there r h, λ b. ap is_line_marker ((h piece.LineMarker b.0).1 b.1))
  where
    there : (r : Option LinePiece) → IsFound true text r → is_line_marker r ≡ true → (len : ℕ) × BeginsWith true piece.LineMarker len text
    there None h e = absurd (false≢true e)
    there (Some (piece.Blank, n)) h e = absurd (false≢true e)
    there (Some (piece.Comment, n)) h e = absurd (false≢true e)
    there (Some (piece.LineMarker, n)) h e = (n, (h piece.LineMarker n).0 refl)
    there (Some (piece.Token k, n)) h e = absurd (false≢true e)

-- ---- what stands behind a place

or_false : (a b : Bool) → (a || b) ≡ false → a ≡ false
or_false true b e = absurd (false≢true (sym e))
or_false false b e = refl

-- a line that does not end at a place has a byte there
pub inside : (text : List ℕ) (at : ℕ) (b : Bool) → (nat_le (length text) at || b) ≡ false → at < length text
inside text at b e = leb-false (length text) at (or_false (nat_le (length text) at) b e)

-- what was found in the rest of a text
pub rest-found : (line_start : Bool) (text : List ℕ) (at : ℕ) (r : Option LinePiece)
    → IsFound line_start (take (length text - at) (drop at text)) r → IsFound line_start (drop at text) r
rest-found line_start text at r h = let P : List ℕ → Type 0 = λ x. IsFound line_start x r in subst P (take_rest text at) h

pub found-within : (text : List ℕ) (at : ℕ) (r : Option LinePiece)
    → IfSome r (λ p. (0 < p.1) × (p.1 ≤ length (take (length text - at) (drop at text)))) → IfSome r (λ p. (0 < p.1) × (p.1 ≤ length (drop at text)))
found-within text at r h = let P : List ℕ → Type 0 = λ x. IfSome r (λ p. (0 < p.1) × (p.1 ≤ length x)) in subst P (take_rest text at) h

pub marker-answer : (text : List ℕ) (r : Option LinePiece) (b : Bool) → b ≡ is_line_marker r → IsFound true text r
    → IsTrue b ↔ ((len : ℕ) × BeginsWith true piece.LineMarker len text)
marker-answer text r b e h = (λ t. (marker-found text r h).0 (sym e ∙ t), λ m. e ∙ (marker-found text r h).1 m)

begins-within : (text : List ℕ) (at : ℕ) (k : PieceKind) (n : ℕ) → at < length text → BeginsWith false k n (drop at text) → at + n ≤ length text
begins-within text at k n l b = omega (arith, l, b.0, length-drop at text)

-- the blank or comment that was found is a step, and there is none where none was found
pub space-step : (text : List ℕ) (at : ℕ) (r : Option LinePiece) (len : ℕ) → is_line_end text at ≡ false → IsFound false (drop at text) r → len ≡ space_len r → 0 < len
    → IsStep passed.Space text at (Some len)
space-step text at r len e found l some =
    let there = space-stands (drop at text) r found (omega (arith, some, l)) in
    let P : ℕ → Type 0 = λ x. BeginsWith false there.0 x (drop at text) in
    (e, there.0, there.1, subst P (sym l) there.2)

pub no-step : (text : List ℕ) (at : ℕ) (r : Option LinePiece) (len : ℕ) → IsFound false (drop at text) r → IfSome r (λ p. (0 < p.1) × (p.1 ≤ length (drop at text))) → len ≡ space_len r → len ≡ 0
    → IsStep passed.Space text at None
no-step text at r len found within l e = inr (no-space (drop at text) r found within (sym l ∙ e))

pub line-more : (text : List ℕ) (at : ℕ) (tokens more : List Token) (mid : ℕ) (k : PieceKind) (n : ℕ)
    → IsCut text at tokens mid → is_line_end text mid ≡ false → BeginsWith false k n (drop mid text) → more ≡ tokens ++ token_in k mid n
    → (mid + n ≤ length text) × IsCut text at more (mid + n)
line-more text at tokens more mid k n h e b m =
    (begins-within text mid k n (inside text mid (slice_index text mid == 10) e) b, cut-more text at tokens more mid k n h e b m)
