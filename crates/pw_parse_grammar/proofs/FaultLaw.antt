-- Where reading stops, the tokens leave the grammar.
use Rattle.std.proofs.Common.{◌≡◌, List, [], ◌∷◌, ◌++◌, append_assoc, map, Err, sym, ap, ◌∙◌}
use Rattle.std.proofs.lemmas.List.{map-append}
use Rattle.pw_tree.specs.Grammar.{BeginsTree, IsSyntaxFault}
use Rattle.pw_tree.specs.Symbols.{Spelled, symbol_of}
use Rattle.pw_parse_grammar.specs.Input.{Input}
use Rattle.pw_parse_grammar.specs.Modules.{read}
use Rattle.pw_parse_grammar.proofs.Local.Module.{stops-in-both}
use Rattle.pw_parse_grammar.proofs.Renumber.Laws.{spelled-read, no-tree}
use Rattle.pw_parse_grammar.proofs.Viable.Laws.{StopsAt, read-viable}
use Rattle.pw_parse_grammar.proofs.Written.Symbols.{OneSymbol}

-- no tree begins with the tokens before the fault and the one at it
leaves_at : OneSymbol → (tokens : List Spelled) (at : Input) → read (map symbol_of tokens) ≡ Err at → (s : StopsAt tokens at) → (token : Spelled) (more : List Spelled) → s.rest ≡ token ∷ more → BeginsTree (s.front ++ token ∷ []) → ⊥
leaves_at one tokens at h s token more e b =
    let other = s.front ++ token ∷ b.rest in
    let is : other ≡ (s.front ++ token ∷ []) ++ b.rest = sym (append_assoc s.front (token ∷ []) b.rest) in
    let read_so = spelled-read one other b.tree b.well_formed (b.begins ∙ sym is) in
    stops-in-both (map symbol_of s.front) (symbol_of token) (map symbol_of more) (map symbol_of b.rest) at (read_so.0, read_so.1)
    (ap read (sym (map-append symbol_of s.front (token ∷ more)) ∙ ap (map symbol_of) (ap (λ v. s.front ++ v) (sym e) ∙ sym s.cut)) ∙ h)
    (sym s.ahead ∙ ap (map symbol_of) e)
    (ap read (sym (map-append symbol_of s.front (token ∷ b.rest))) ∙ read_so.2)

pub fault-sound : OneSymbol → (tokens : List Spelled) (at : Input) → read (map symbol_of tokens) ≡ Err at → IsSyntaxFault tokens at.next
fault-sound one tokens at h =
    let s = read-viable tokens at h in
    record {
      front = s.front;
      rest = s.rest;
      cut = s.cut;
      place = s.place;
      begins = s.begins;
      leaves = leaves_at one tokens at h s;
      no_tree = no-tree one tokens at h;
    }
