-- Each token of a text spells its kind, where it is no directive line; and so does each symbol that is spelled by it.
use Rattle.std.proofs.Common.{◌≡◌, ℕ, ◌+◌, Bool, true, List, [], ◌∷◌, ◌++◌, append_assoc, length, map, take, drop, refl, sym, ap, ◌∙◌, subst}
use Rattle.std.proofs.lemmas.List.{length-append}
use Rattle.std.proofs.Math.Seq.{take-append_seam, drop-append_seam}
use Rattle.pw_token.specs.Roles.{spelling}
use Rattle.pw_token.specs.Spelling.{Spells}
use Rattle.pw_token.specs.Tokenization.{Piece, Stands, Cuts, line_start_after, token_in, tokens_of, IsLexed}
use Rattle.pw_token.specs.declared.piece.PieceKind.{PieceKind}
use Rattle.pw_token.specs.declared.piece.PieceKind.TheVariants as piece
use Rattle.pw_token.specs.declared.token.Token.{Token}
use Rattle.pw_token.specs.declared.token.TokenKind.{TokenKind}
use Rattle.pw_token.specs.declared.token.TokenKind.TheVariants as kind
use Rattle.pw_tree.specs.Grammar.{IsTreeOf, spelled_all}
use Rattle.pw_tree.specs.Lexemes.{spelled_in}
use Rattle.pw_tree.specs.Spelling.{symbols}
use Rattle.pw_tree.specs.Symbols.{Symbol, Reserved, Sign, Identifier, Number, Floating, Character, Wide, Text, Spelled, spelled}
use Rattle.pw_tree.specs.Trees.{Module}
use Rattle.pw_tree.specs.Words.{WordsSpellModule}
use Rattle.pw_tree.proofs.WordLaws.{AllSpell, words-module}

-- the bytes spell a token of the kind, which is no directive line
abbrev SpellsHere : TokenKind → List ℕ → Type 0
SpellsHere k s = (k ≡ kind.Directive → ⊥) → Spells k s

abbrev TokensSpell : List ℕ → List Token → Type 0
TokensSpell text [] = Unit {0}
TokensSpell text (t ∷ ts) = SpellsHere t.kind (spelling text t) × TokensSpell text ts

both : (text : List ℕ) (ts us : List Token) → TokensSpell text ts → TokensSpell text us → TokensSpell text (ts ++ us)
both text [] us h k = k
both text (t ∷ ts) us h k = (h.0, both text ts us h.1 k)

stands-spells : (start : Bool) (k : TokenKind) (s after : List ℕ) → Stands start (piece.Token k) s after → SpellsHere k s
stands-spells start kind.Identifier s after h = λ _. h.spelled
stands-spells start kind.Keyword s after h = λ _. h.spelled
stands-spells start kind.Number s after h = λ _. h.spelled
stands-spells start kind.Floating s after h = λ _. h.spelled
stands-spells start kind.Character s after h = λ _. h.spelled
stands-spells start kind.Text s after h = λ _. h.spelled
stands-spells start kind.Wide s after h = λ _. h.spelled
stands-spells start kind.Mark s after h = λ _. h.spelled
stands-spells start kind.Directive s after h = λ no. absurd (no refl)

-- the bytes of a token that stands behind others
cut-out : (front s after : List ℕ) → take (length s) (drop (length front) (front ++ (s ++ after))) ≡ s
cut-out front s after = ap (take (length s)) (drop-append_seam front (s ++ after)) ∙ take-append_seam s after

piece-spells : (front : List ℕ) (start : Bool) (k : PieceKind) (s after : List ℕ) → Stands start k s after → TokensSpell (front ++ (s ++ after)) (token_in k (length front) (length s))
piece-spells front start piece.Blank s after h = tt
piece-spells front start piece.Comment s after h = tt
piece-spells front start piece.LineMarker s after h = tt
piece-spells front start (piece.Token k) s after h = (subst (SpellsHere k) (sym (cut-out front s after)) (stands-spells start k s after h), tt)

pieces-spell : (front : List ℕ) (start : Bool) (text : List ℕ) (ps : List Piece) (end : Bool) (rest : List ℕ) → Cuts start text ps end rest → TokensSpell (front ++ text) (tokens_of (length front) ps)
pieces-spell front start text [] end rest h = tt
pieces-spell front start text (p ∷ ps) end rest (after, e, stands, cuts) =
    let whole : (front ++ p.text) ++ after ≡ front ++ text = append_assoc front p.text after ∙ ap (λ t. front ++ t) (sym e) in
    let here : TokensSpell (front ++ text) (token_in p.kind (length front) (length p.text)) =
    subst (λ t. TokensSpell (front ++ t) (token_in p.kind (length front) (length p.text))) (sym e) (piece-spells front start p.kind p.text after stands) in
    let behind : TokensSpell (front ++ text) (tokens_of (length (front ++ p.text)) ps) =
    subst (λ t. TokensSpell t (tokens_of (length (front ++ p.text)) ps)) whole (pieces-spell (front ++ p.text) (line_start_after start p.kind p.text) after ps end rest cuts) in
    both (front ++ text) (token_in p.kind (length front) (length p.text)) (tokens_of (length front + length p.text) ps) here
    (subst (λ n. TokensSpell (front ++ text) (tokens_of n ps)) (length-append front p.text) behind)

lexed-spells : (text : List ℕ) (tokens : List Token) → IsLexed text tokens → TokensSpell text tokens
lexed-spells text tokens h = let a = h.1 in subst (TokensSpell text) (sym a.tokens_are) (pieces-spell [] true text a.pieces a.end [] a.cut)

-- no symbol is a directive line
no-directive : (s : Symbol) → (spelled s).kind ≡ kind.Directive → ⊥
no-directive (Reserved w) e = cc
no-directive (Sign m) e = cc
no-directive (Identifier x) e = cc
no-directive (Number x) e = cc
no-directive (Floating x) e = cc
no-directive (Character x) e = cc
no-directive (Wide x) e = cc
no-directive (Text x) e = cc

abbrev first_or : Spelled → List Spelled → Spelled
first_or d [] = d
first_or d (t ∷ ts) = t

abbrev behind_first : List Spelled → List Spelled
behind_first [] = []
behind_first (t ∷ ts) = ts

abbrev SpelledWell : Spelled → Type 0
SpelledWell t = SpellsHere t.kind t.text

symbols-spell : (text : List ℕ) (z : List Symbol) (ts : List Token) → map spelled z ≡ map (spelled_in text) ts → TokensSpell text ts → AllSpell z
symbols-spell text [] ts e h = tt
symbols-spell text (s ∷ z) [] e h = absurd (none e)
  where
    none : spelled s ∷ map spelled z ≡ [] → ⊥
    none e = cc
symbols-spell text (s ∷ z) (t ∷ ts) e h =
    let here : spelled s ≡ spelled_in text t = ap (first_or (spelled s)) e in
    let good : SpelledWell (spelled s) = subst SpelledWell (sym here) h.0 in
    (good (no-directive s), symbols-spell text z ts (ap behind_first e) h.1)

-- each word of a text's tree spells what it is
pub tree-words : (text : List ℕ) (tokens : List Token) (tree : Module) → IsLexed text tokens → IsTreeOf (spelled_all text tokens) tree → WordsSpellModule tree
tree-words text tokens tree lexed t = words-module tree (symbols-spell text (symbols tree) tokens t.spells (lexed-spells text tokens lexed))
