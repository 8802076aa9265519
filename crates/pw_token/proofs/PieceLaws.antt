-- `piece_at` is the piece at the beginning of a text.
use Rattle.std.proofs.Common.{◌≡◌, ℕ, ◌<◌, inl, inr, Bool, true, false, cond, not, ◌&&◌, eqb, List, [], ◌∷◌, ◌++◌, length, slice_index, refl, ap, arith, sym, ◌∙◌, subst, Option, Some, None}
use Rattle.std.proofs.lemmas.Bool.{eqb-true, eqb-false}
use Rattle.std.proofs.lemmas.Bool.Decides.{nat_tests}
use Rattle.pw_token.proofs.KindLaws.{opens, spelled-opens, spelled-long}
use Rattle.pw_token.proofs.LineLaws.{comment-front, comment-reaches, marker-begins, begins-marker, hash-line, hash-len, line-ends}
use Rattle.pw_token.proofs.Runs.{either}
use Rattle.pw_token.proofs.ByteFacts.{and-split, and-left, and-right}
use Rattle.pw_token.proofs.TokenLaws.{token-complete, token-sound}
use Rattle.pw_token.specs.Pieces.{piece_at, token_at, hash_line_at, found_piece, longest_at, begins_marker, is_blank}
use Rattle.pw_token.specs.Scanning.{run, comment_len, is_splice}
use Rattle.pw_token.specs.Tokenization.{Stands, IsComment, IsHashLine, IsMarker, IsTokenHere, IsTokenPlace, NothingStands}
use Rattle.pw_token.specs.declared.bytes.Class.TheVariants as class
use Rattle.pw_token.specs.declared.piece.PieceKind.{PieceKind}
use Rattle.pw_token.specs.declared.piece.PieceKind.TheVariants as piece
use Rattle.pw_token.specs.declared.token.TokenKind.{TokenKind}
use Rattle.pw_token.specs.declared.token.TokenKind.TheVariants.{Identifier, Keyword, Number, Floating, Character, Text, Wide, Mark, Directive}

abbrev Piece : Type 0
Piece = PieceKind × ℕ

-- ---- what stands is found

found-some : (k : PieceKind) (n : ℕ) → 0 < n → found_piece k n ≡ Some (k, n)
found-some k n l = ap (λ b. cond b None (Some (k, n))) (some n l)
  where
    some : (n : ℕ) → 0 < n → eqb n 0 ≡ false
    some n l = grind (arith, nat_tests)

splice-piece : (ls : Bool) (t : List ℕ) → piece_at ls (92 ∷ 10 ∷ t) ≡ Some (piece.Blank, 2)
unfolding piece_at
splice-piece ls t = refl

blank-piece : (ls : Bool) (b : ℕ) (t : List ℕ) → is_blank b ≡ true → piece_at ls (b ∷ t) ≡ Some (piece.Blank, 1)
unfolding piece_at
blank-piece ls b t h = rw h refl

comment-piece : (ls : Bool) (t : List ℕ) → piece_at ls (47 ∷ 42 ∷ t) ≡ found_piece piece.Comment (comment_len (47 ∷ 42 ∷ t))
unfolding piece_at
comment-piece ls t = refl

hash-piece : (t : List ℕ) → piece_at true (35 ∷ t) ≡ hash_line_at (35 ∷ t)
unfolding piece_at
hash-piece t = refl

token-piece-long : (ls : Bool) (b c : ℕ) (t : List ℕ) → is_blank b ≡ false → eqb b 92 ≡ false → (eqb b 47 && eqb c 42) ≡ false → (ls && eqb b 35) ≡ false → piece_at ls (b ∷ c ∷ t) ≡ token_at (b ∷ c ∷ t)
unfolding piece_at
token-piece-long ls b c t h k m n = rw (h, and-left (eqb b 92) (eqb c 10) k, m, n) refl

token-piece-short : (ls : Bool) (b : ℕ) → is_blank b ≡ false → eqb b 92 ≡ false → (ls && eqb b 35) ≡ false → piece_at ls (b ∷ []) ≡ token_at (b ∷ [])
unfolding piece_at
token-piece-short ls b h k n = rw (h, and-left (eqb b 92) (eqb 0 10) k, and-right (eqb b 47) (eqb 0 42) refl, n) refl

not-true : (b : Bool) → not b ≡ true → b ≡ false
not-true true h = cc
not-true false h = refl

token-piece : (ls : Bool) (t : List ℕ) → opens t ≡ true → IsTokenPlace ls t → piece_at ls t ≡ token_at t
token-piece ls [] o h = absurd h
token-piece ls (b ∷ []) o h =
    let both = and-split (not (is_blank b)) (not (eqb b 92)) o in
    token-piece-short ls b (not-true (is_blank b) both.0) (not-true (eqb b 92) both.1) h
token-piece ls (b ∷ c ∷ t) o h =
    let both = and-split (not (is_blank b)) (not (eqb b 92)) o in
    token-piece-long ls b c t (not-true (is_blank b) both.0) (not-true (eqb b 92) both.1) h.0 h.1

opens-front : (s after : List ℕ) → 0 < length s → opens s ≡ true → opens (s ++ after) ≡ true
opens-front [] after l h = absurd (omega arith)
opens-front (b ∷ s) after l h = h

token-stands : (ls : Bool) (k : TokenKind) (s after : List ℕ) → IsTokenHere ls k s after → piece_at ls (s ++ after) ≡ Some (piece.Token k, length s)
unfolding token_at
token-stands ls k s after h =
    let l = spelled-long k s h.spelled in
    token-piece ls (s ++ after) (opens-front s after l (spelled-opens k s h.spelled)) h.place
    ∙ ap (λ f. found_piece (piece.Token f.0) f.1) (token-complete k s after h.spelled h.longest)
    ∙ found-some (piece.Token k) (length s) l

comment-stands : (ls : Bool) (s after : List ℕ) → IsComment s → piece_at ls (s ++ after) ≡ Some (piece.Comment, length s)
comment-stands ls s after h =
    let e : s ++ after ≡ 47 ∷ 42 ∷ ((h.0 ++ 42 ∷ 47 ∷ []) ++ after) = ap (λ x. x ++ after) h.1 in
    let len = comment-reaches s after h in
    ap (piece_at ls) e ∙ comment-piece ls ((h.0 ++ 42 ∷ 47 ∷ []) ++ after) ∙ ap (λ x. found_piece piece.Comment (comment_len x)) (sym e)
    ∙ ap (found_piece piece.Comment) len ∙ found-some piece.Comment (length s) (omega (arith, ap length h.1))

line-stands : (s after : List ℕ) (marker : Bool) → IsHashLine s after → begins_marker (s ++ after) ≡ marker
    → piece_at true (s ++ after) ≡ Some (cond marker piece.LineMarker (piece.Token Directive), length s)
line-stands s after marker h m =
    let e : s ++ after ≡ 35 ∷ (h.0 ++ after) = ap (λ x. x ++ after) h.1 in
    let len = hash-len s after h in
    ap (piece_at true) e ∙ hash-piece (h.0 ++ after) ∙ ap hash_line_at (sym e)
    ∙ ap (λ x. Some (cond x piece.LineMarker (piece.Token Directive), run class.InLine (s ++ after))) m
    ∙ ap (λ n. Some (cond marker piece.LineMarker (piece.Token Directive), n)) len

no-marker : (s after : List ℕ) → IsHashLine s after → (IsMarker s → ⊥) → begins_marker (s ++ after) ≡ false
no-marker s after h none =
    let e : s ++ after ≡ 35 ∷ h.0 ++ after = ap (λ x. x ++ after) h.1 in
    elim (either (begins_marker (s ++ after))) [
      | inr n ↦ n
      | inl m ↦ absurd (none (subst IsMarker (sym h.1) (begins-marker h.0 after h.2 (line-ends after h.3) (sym (ap begins_marker e) ∙ m))))
    ]

pub piece-complete : (ls : Bool) (k : PieceKind) (s after : List ℕ) → Stands ls k s after → piece_at ls (s ++ after) ≡ Some (k, length s)
piece-complete ls piece.Blank [] after h = absurd h
piece-complete ls piece.Blank (b ∷ []) after h = blank-piece ls b after h
piece-complete ls piece.Blank (b ∷ c ∷ []) after h = ap (λ x. piece_at ls (x ∷ c ∷ after)) h.0 ∙ ap (λ x. piece_at ls (92 ∷ x ∷ after)) h.1 ∙ splice-piece ls after
piece-complete ls piece.Blank (b ∷ c ∷ d ∷ s) after h = absurd h
piece-complete ls piece.Comment s after h = comment-stands ls s after h
piece-complete ls piece.LineMarker s after h = ap (λ x. piece_at x (s ++ after)) h.0 ∙ line-stands s after true h.1 (marker-begins s after h.2)
piece-complete ls (piece.Token Directive) s after h = ap (λ x. piece_at x (s ++ after)) h.0 ∙ line-stands s after false h.1 (no-marker s after h.1 h.2)
piece-complete ls (piece.Token Identifier) s after h = token-stands ls Identifier s after h
piece-complete ls (piece.Token Keyword) s after h = token-stands ls Keyword s after h
piece-complete ls (piece.Token Number) s after h = token-stands ls Number s after h
piece-complete ls (piece.Token Floating) s after h = token-stands ls Floating s after h
piece-complete ls (piece.Token Character) s after h = token-stands ls Character s after h
piece-complete ls (piece.Token Text) s after h = token-stands ls Text s after h
piece-complete ls (piece.Token Wide) s after h = token-stands ls Wide s after h
piece-complete ls (piece.Token Mark) s after h = token-stands ls Mark s after h

-- ---- what is found stands

pub record StandsHere (ls : Bool) (t : List ℕ) (p : Piece) : Type 0 where
  pub front : List ℕ
  pub rest : List ℕ
  pub split : t ≡ front ++ rest
  pub len : length front ≡ p.1
  pub stands : Stands ls p.0 front rest

-- nothing, or what stands
Sound : Bool → List ℕ → Option Piece → Type 0
Sound ls t o = (p : Piece) → o ≡ Some p → StandsHere ls t p

sound-some : (ls : Bool) (t : List ℕ) (p : Piece) → StandsHere ls t p → Sound ls t (Some p)
unfolding Sound
sound-some ls t p h q e = subst (StandsHere ls t) (injective p q e) h
  where
    injective : (p q : Piece) → Some p ≡ Some q → p ≡ q
    injective p q e = cc

sound-found : (ls : Bool) (t : List ℕ) (k : PieceKind) (n : ℕ) → (0 < n → StandsHere ls t (k, n)) → Sound ls t (found_piece k n)
sound-found ls t k n h =
    elim (either (eqb n 0)) [
      | inl z ↦ subst (Sound ls t) (sym (ap (λ b. cond b None (Some (k, n))) z)) none
      | inr z ↦ subst (Sound ls t) (sym (ap (λ b. cond b None (Some (k, n))) z)) (sound-some ls t (k, n) (h (omega (arith, eqb-false n 0 z))))
    ]
  where
    none : Sound ls t None
    none = unfold Sound in λ p e. cc

stands-token : (ls : Bool) (k : TokenKind) (s after : List ℕ) → IsTokenHere ls k s after → Stands ls (piece.Token k) s after
stands-token ls Identifier s after h = h
stands-token ls Keyword s after h = h
stands-token ls Number s after h = h
stands-token ls Floating s after h = h
stands-token ls Character s after h = h
stands-token ls Text s after h = h
stands-token ls Wide s after h = h
stands-token ls Mark s after h = h
stands-token ls Directive s after h = absurd h.spelled

token-sounds : (ls : Bool) (t : List ℕ) → IsTokenPlace ls t → Sound ls t (token_at t)
unfolding token_at
token-sounds ls t place = sound-found ls t (piece.Token (longest_at t).0) (longest_at t).1 (λ l.
    let f = token-sound t l in
    record {
      front = f.front;
      rest = f.rest;
      split = f.split;
      len = f.len;
      stands = stands-token ls (longest_at t).0 f.front f.rest (record { spelled = f.spelled; place = subst (IsTokenPlace ls) f.split place; longest = f.grows });
    })

comment-sounds : (ls : Bool) (t : List ℕ) → slice_index t 0 ≡ 47 → slice_index t 1 ≡ 42 → Sound ls t (found_piece piece.Comment (comment_len t))
comment-sounds ls t h k = sound-found ls t piece.Comment (comment_len t) (λ l.
    let b = comment-front t h k l in
    record { front = b.front; rest = b.rest; split = b.split; len = b.len; stands = b.holds })

line-sounds : (b : ℕ) (t : List ℕ) → b ≡ 35 → Sound true (b ∷ t) (hash_line_at (b ∷ t))
line-sounds b t e =
    let h = hash-line b t e in
    sound-some true (b ∷ t) _ (record {
      front = 35 ∷ h.inside;
      rest = h.after;
      split = h.split;
      len = h.len;
      stands = elim (either (begins_marker (b ∷ t))) [
        | inl m ↦ subst (λ x. Stands true (cond x piece.LineMarker (piece.Token Directive)) (35 ∷ h.inside) h.after) (sym m)
            (refl, h.line, begins-marker h.inside h.after h.all h.ends (sym (ap begins_marker h.split) ∙ m))
        | inr n ↦ subst (λ x. Stands true (cond x piece.LineMarker (piece.Token Directive)) (35 ∷ h.inside) h.after) (sym n)
            (refl, h.line, λ marker. clash _ (ap begins_marker h.split ∙ marker-begins (35 ∷ h.inside) h.after marker) n)
      ];
    })
  where
    clash : (b : Bool) → b ≡ true → b ≡ false → ⊥
    clash b h k = cc

blank-sounds : (ls : Bool) (t : List ℕ) → is_blank (slice_index t 0) ≡ true → Sound ls t (Some (piece.Blank, 1))
blank-sounds ls [] h = let z : false ≡ true = h in cc
blank-sounds ls (b ∷ t) h = sound-some ls (b ∷ t) (piece.Blank, 1) (record { front = b ∷ []; rest = t; split = refl; len = refl; stands = h })

splice-sounds : (ls : Bool) (t : List ℕ) → is_splice t ≡ true → Sound ls t (Some (piece.Blank, 2))
splice-sounds ls [] h = let z : false ≡ true = h in cc
splice-sounds ls (b ∷ []) h = let z = (and-split (eqb b 92) (eqb 0 10) h).1 in let y : false ≡ true = z in cc
splice-sounds ls (b ∷ c ∷ t) h =
    let both = and-split (eqb b 92) (eqb c 10) h in
    sound-some ls (b ∷ c ∷ t) (piece.Blank, 2) (record { front = b ∷ c ∷ []; rest = t; split = refl; len = refl; stands = (eqb-true b 92 both.0, eqb-true c 10 both.1) })

place-here : (ls : Bool) (b : ℕ) (t : List ℕ) → (eqb b 47 && eqb (slice_index t 0) 42) ≡ false → (ls && eqb b 35) ≡ false → IsTokenPlace ls (b ∷ t)
place-here ls b [] h k = k
place-here ls b (c ∷ t) h k = (h, k)

rest-sounds : (ls : Bool) (b : ℕ) (t : List ℕ) → (eqb b 47 && eqb (slice_index t 0) 42) ≡ false
    → Sound ls (b ∷ t) (cond (ls && eqb b 35) (hash_line_at (b ∷ t)) (token_at (b ∷ t)))
rest-sounds ls b t n =
    elim (either (ls && eqb b 35)) [
      | inl h ↦
          let both = and-split ls (eqb b 35) h in
          subst (λ x. Sound ls (b ∷ t) (cond x (hash_line_at (b ∷ t)) (token_at (b ∷ t)))) (sym h)
          (subst (λ x. Sound x (b ∷ t) (hash_line_at (b ∷ t))) (sym both.0) (line-sounds b t (eqb-true b 35 both.1)))
      | inr k ↦ subst (λ x. Sound ls (b ∷ t) (cond x (hash_line_at (b ∷ t)) (token_at (b ∷ t)))) (sym k) (token-sounds ls (b ∷ t) (place-here ls b t n k))
    ]

pub piece-sound : (ls : Bool) (b : ℕ) (t : List ℕ) (p : Piece) → piece_at ls (b ∷ t) ≡ Some p → StandsHere ls (b ∷ t) p
unfolding piece_at Sound
piece-sound ls b t =
    elim (either (is_blank b)) [
      | inl h ↦ rw h (blank-sounds ls (b ∷ t) h)
      | inr n ↦ elim (either (is_splice (b ∷ t))) [
        | inl h ↦ rw (n, h) (splice-sounds ls (b ∷ t) h)
        | inr m ↦ elim (either (eqb b 47 && eqb (slice_index t 0) 42)) [
          | inl h ↦
              let both = and-split (eqb b 47) (eqb (slice_index t 0) 42) h in
              rw (n, m, h) (comment-sounds ls (b ∷ t) (eqb-true b 47 both.0) (eqb-true (slice_index t 0) 42 both.1))
          | inr k ↦ rw (n, m, k) (rest-sounds ls b t k)
        ]
      ]
    ]

pub piece-none : (ls : Bool) (t : List ℕ) → piece_at ls t ≡ None → NothingStands ls t
piece-none ls t none kind s after e h = clash (sym none ∙ ap (piece_at ls) e ∙ piece-complete ls kind s after h)
  where
    clash : {p : Piece} → None ≡ Some p → ⊥
    clash {p} e = cc
