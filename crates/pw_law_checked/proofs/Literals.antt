-- String literals are no longer than an object can be: the bytes of the string that literals make are no more than those of the literals,
-- and all literals of a text no more than the text.
use Rattle.std.specs.Prelude.{ℕ, ◌≡◌, ◌+◌, ◌-◌, ◌*◌, ◌==◌, ◌≤◌, ◌||◌, max, Bool, true, false, if◌then◌else◌, List, [], ◌∷◌, ◌++◌, length, map, drop, refl}
use Rattle.std.proofs.Common.{arith, ap, sym, subst, ◌∙◌}
use Rattle.std.proofs.lemmas.List.{length-append}
use Rattle.std.proofs.lemmas.List.Concat.{flat_map-cons}
use Rattle.pw_value.specs.Limits.{size_limit}
use Rattle.pw_check_literals.specs.Characters.{Escape, NoEscape, Backslash, Octal, Hexadecimal, escape_value, plainly, begun_by, goes_on, known_with, escape_after, known_at_end, characters_from, begins_splice, spliced, between_quotes, characters_of, characters_of_strings, string_bytes_of}
use Rattle.pw_check_literals.specs.Integers.{digit_value}
use Rattle.pw_token.specs.Bytes.{is_in}
use Rattle.pw_token.specs.Limits.{text_limit}
use Rattle.pw_token.specs.Roles.{spelling}
use Rattle.pw_token.specs.Tokenization.{Piece, Cuts, line_start_after, token_in, tokens_of, IsLexed}
use Rattle.pw_token.specs.declared.bytes.Class.TheVariants.{OctalDigit, HexDigit}
use Rattle.pw_token.specs.declared.piece.PieceKind.{PieceKind}
use Rattle.pw_token.specs.declared.piece.PieceKind.TheVariants as piece
use Rattle.pw_token.specs.declared.token.Token.{Token}
use Rattle.pw_tree.specs.Grammar.{spelled_all, IsTreeOf}
use Rattle.pw_tree.specs.Spelling.{symbols, spell_strings}
use Rattle.pw_tree.specs.Symbols.{Symbol, Spelled, spelled}
use Rattle.pw_tree.specs.Symbols as symbol
use Rattle.pw_tree.specs.Trees.{Word, Module}
use Rattle.pw_check_rules.specs.Leaves.{texts_of}
use Rattle.pw_law_checked.proofs.ItemBytes.{take_short}
use Rattle.pw_law_checked.specs.Names.{text_length, texts_length, HasShortStrings}
use Rattle.pw_law_checked.proofs.Spelled.{AreShort}

-- ---- characters

-- a character of an escape is known only with the byte behind it
abbrev waiting : Escape → ℕ
waiting (Octal value digits) = 1
waiting (Hexadecimal value) = 1
waiting _ = 0

plain_step : (c : ℕ) → length (plainly c) + waiting (begun_by c) ≤ 1 + 0
plain_step c = by (c == 92)
  where
    by : (b : Bool) → length (if b then [] else c ∷ []) + waiting (if b then Backslash else NoEscape) ≤ 1 + 0
    by true = omega arith
    by false = omega arith

escape_step : (e : Escape) (c : ℕ) → length (known_with e c) + waiting (escape_after e c) ≤ 1 + waiting e
escape_step NoEscape c = plain_step c
escape_step Backslash c = by (is_in OctalDigit c) (c == 120)
  where
    by : (a b : Bool) → length (if a || b then [] else escape_value c ∷ []) + waiting (if a then Octal (digit_value c) 1 else (if b then Hexadecimal 0 else NoEscape)) ≤ 1 + 0
    by true b = omega arith
    by false true = omega arith
    by false false = omega arith
escape_step (Octal value digits) c = by (goes_on digits c) (plain_step c)
  where
    by : (b : Bool) → length (plainly c) + waiting (begun_by c) ≤ 1 + 0 → length (if b then [] else value ∷ plainly c) + waiting (if b then Octal (value * 8 + digit_value c) (digits + 1) else begun_by c) ≤ 1 + 1
    by true h = omega arith
    by false h = omega (arith, h)
escape_step (Hexadecimal value) c = by (is_in HexDigit c) (plain_step c)
  where
    by : (b : Bool) → length (plainly c) + waiting (begun_by c) ≤ 1 + 0 → length (if b then [] else value ∷ plainly c) + waiting (if b then Hexadecimal (value * 16 + digit_value c) else begun_by c) ≤ 1 + 1
    by true h = omega arith
    by false h = omega (arith, h)

end_step : (e : Escape) → length (known_at_end e) ≤ waiting e
end_step NoEscape = omega arith
end_step Backslash = omega arith
end_step (Octal value digits) = omega arith
end_step (Hexadecimal value) = omega arith

from_length : (e : Escape) (s : List ℕ) → length (characters_from e s) ≤ length s + waiting e
from_length e [] = let h : length (known_at_end e) ≤ waiting e = end_step e in omega (arith, h)
from_length e (c ∷ rest) =
    let one : length (known_with e c) + waiting (escape_after e c) ≤ 1 + waiting e = escape_step e c in
    let more : length (characters_from (escape_after e c) rest) ≤ length rest + waiting (escape_after e c) = from_length (escape_after e c) rest in
    let both : length (known_with e c ++ characters_from (escape_after e c) rest) ≡ length (known_with e c) + length (characters_from (escape_after e c) rest) = length-append (known_with e c) (characters_from (escape_after e c) rest) in
    omega (arith, one, more, both)

spliced_length : (s : List ℕ) → length (spliced s) ≤ length s
spliced_length [] = omega arith
spliced_length (c ∷ []) = omega arith
spliced_length (c ∷ d ∷ rest) = by (begins_splice (c ∷ d ∷ rest)) (spliced_length rest) (spliced_length (d ∷ rest))
  where
    by : (b : Bool) → length (spliced rest) ≤ length rest → length (spliced (d ∷ rest)) ≤ length (d ∷ rest) → length (if b then spliced rest else c ∷ spliced (d ∷ rest)) ≤ length (c ∷ d ∷ rest)
    by true h k = omega (arith, h)
    by false h k = omega (arith, k)

-- a literal has two quotes
literal_length : (text : List ℕ) → length (characters_of text) ≤ length text - 2
literal_length text =
    let a : length (characters_from NoEscape (spliced (between_quotes text))) ≤ length (spliced (between_quotes text)) + 0 = from_length NoEscape (spliced (between_quotes text)) in
    let b : length (spliced (between_quotes text)) ≤ length (between_quotes text) = spliced_length (between_quotes text) in
    let c : length (between_quotes text) ≤ length text - 2 = take_short (length text - 2) (drop 1 text) in
    omega (arith, a, b, c)

-- ---- strings

string_length : (ws : List Word) (z : List Symbol) → length (characters_of_strings (texts_of ws)) + 1 ≤ max 1 (texts_length (spell_strings ws z))
string_length [] z = omega arith
string_length (w ∷ ws) z =
    let one : length (characters_of w.text) ≤ length w.text - 2 = literal_length w.text in
    let more : length (characters_of_strings (texts_of ws)) + 1 ≤ max 1 (texts_length (spell_strings ws z)) = string_length ws z in
    let both : length (characters_of_strings (texts_of (w ∷ ws))) ≡ length (characters_of w.text) + length (characters_of_strings (texts_of ws)) =
    ap length (flat_map-cons characters_of w.text (texts_of ws)) ∙ length-append (characters_of w.text) (characters_of_strings (texts_of ws)) in
    let whole : texts_length (spell_strings (w ∷ ws) z) ≡ length w.text + texts_length (spell_strings ws z) = refl in
    omega (arith, one, more, both, whole)

pub strings_short : (ws : List Word) (z : List Symbol) → AreShort (spell_strings ws z) → length (string_bytes_of (texts_of ws)) ≤ size_limit
strings_short [] z h = omega arith
strings_short (w ∷ ws) z h =
    let most : length (characters_of_strings (texts_of (w ∷ ws))) + 1 ≤ max 1 (texts_length (spell_strings (w ∷ ws) z)) = string_length (w ∷ ws) z in
    let bytes : length (string_bytes_of (texts_of (w ∷ ws))) ≡ length (characters_of_strings (texts_of (w ∷ ws))) + 1 = length-append (characters_of_strings (texts_of (w ∷ ws))) (0 ∷ []) in
    let few : texts_length (spell_strings (w ∷ ws) z) ≤ size_limit = h.0 in
    omega (arith, most, bytes, few)

-- ---- tokens

abbrev tokens_length : List Token → ℕ
tokens_length [] = 0
tokens_length (t ∷ ts) = t.len + tokens_length ts

both_lengths : (ts us : List Token) → tokens_length (ts ++ us) ≡ tokens_length ts + tokens_length us
both_lengths [] us = omega arith
both_lengths (t ∷ ts) us = let e : tokens_length (ts ++ us) ≡ tokens_length ts + tokens_length us = both_lengths ts us in omega (arith, e)

piece_length : (p : PieceKind) (at len : ℕ) → tokens_length (token_in p at len) ≤ len
piece_length piece.Blank at len = omega arith
piece_length piece.Comment at len = omega arith
piece_length piece.LineMarker at len = omega arith
piece_length (piece.Token k) at len = omega arith

cut_length : (start : Bool) (text : List ℕ) (ps : List Piece) (end : Bool) (rest : List ℕ) (at : ℕ) → Cuts start text ps end rest → tokens_length (tokens_of at ps) ≤ length text
cut_length start text [] end rest at h = omega arith
cut_length start text (p ∷ ps) end rest at h =
    let here : tokens_length (token_in p.kind at (length p.text)) ≤ length p.text = piece_length p.kind at (length p.text) in
    let behind : tokens_length (tokens_of (at + length p.text) ps) ≤ length h.0 = cut_length (line_start_after start p.kind p.text) h.0 ps end rest (at + length p.text) h.3 in
    let all : tokens_length (token_in p.kind at (length p.text) ++ tokens_of (at + length p.text) ps) ≡ tokens_length (token_in p.kind at (length p.text)) + tokens_length (tokens_of (at + length p.text) ps) =
    both_lengths (token_in p.kind at (length p.text)) (tokens_of (at + length p.text) ps) in
    let whole : length text ≡ length p.text + length h.0 = ap length h.1 ∙ length-append p.text h.0 in
    omega (arith, here, behind, all, whole)

-- ---- trees

symbol_length : (x : Symbol) → text_length x ≤ length (spelled x).text
symbol_length (symbol.Text s) = omega arith
symbol_length (symbol.Identifier s) = omega arith
symbol_length (symbol.Reserved w) = omega arith
symbol_length (symbol.Sign w) = omega arith
symbol_length (symbol.Number s) = omega arith
symbol_length (symbol.Floating s) = omega arith
symbol_length (symbol.Character s) = omega arith
symbol_length (symbol.Wide s) = omega arith

abbrev first_or : Spelled → List Spelled → Spelled
first_or d [] = d
first_or d (t ∷ ts) = t

abbrev behind_first : List Spelled → List Spelled
behind_first [] = []
behind_first (t ∷ ts) = ts

symbols_length : (text : List ℕ) (xs : List Symbol) (ts : List Token) → map spelled xs ≡ spelled_all text ts → texts_length xs ≤ tokens_length ts
symbols_length text [] ts e = omega arith
symbols_length text (x ∷ xs) [] e = absurd (none e)
  where
    none : spelled x ∷ map spelled xs ≡ [] → ⊥
    none f = cc
symbols_length text (x ∷ xs) (t ∷ ts) e =
    let same : length (spelled x).text ≡ length (spelling text t) = ap (λ (y : List Spelled). length (first_or (spelled x) y).text) e in
    let own : text_length x ≤ length (spelled x).text = symbol_length x in
    let few : length (spelling text t) ≤ t.len = take_short t.len (drop t.at text) in
    let more : texts_length xs ≤ tokens_length ts = symbols_length text xs ts (ap behind_first e) in
    omega (arith, same, own, few, more)

pub tree_strings : (text : List ℕ) (tokens : List Token) (tree : Module) → IsLexed text tokens → IsTreeOf (spelled_all text tokens) tree → HasShortStrings tree
tree_strings text tokens tree lexed of =
    let few : length text ≤ text_limit = lexed.0 in
    let cut : tokens_length (tokens_of 0 lexed.1.pieces) ≤ length text = cut_length true text lexed.1.pieces lexed.1.end [] 0 lexed.1.cut in
    let here : tokens_length tokens ≤ length text = subst (λ ts. tokens_length ts ≤ length text) (sym lexed.1.tokens_are) cut in
    let own : texts_length (symbols tree) ≤ tokens_length tokens = symbols_length text (symbols tree) tokens of.spells in
    omega (arith, few, here, own)
