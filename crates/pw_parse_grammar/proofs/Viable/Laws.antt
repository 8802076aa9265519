-- The tokens before the fault where reading stops begin a tree.
use Rattle.std.proofs.Common.{◌≡◌, ◌+◌, List, [], ◌∷◌, ◌++◌, length, map, drop, Option, Some, Err, arith, refl, sym, ap, ◌∙◌, subst}
use Rattle.std.proofs.lemmas.List.{length-map, map-append}
use Rattle.pw_tree.specs.Grammar.{BeginsTree}
use Rattle.pw_tree.specs.Symbols.{Symbol, Spelled, spelled, symbol_of}
use Rattle.pw_parse_grammar.specs.Input.{Input, first_of_rest}
use Rattle.pw_parse_grammar.specs.Modules.{read, start}
use Rattle.pw_parse_grammar.proofs.Sound.Symbols.{spelled_of_symbol}
use Rattle.pw_parse_grammar.proofs.Viable.Base.{Fails, Viable}
use Rattle.pw_parse_grammar.proofs.Viable.Module.{external_lists, read-fails}

-- The tokens are those before the fault, which begin a tree, and those from it on.
pub record StopsAt (tokens : List Spelled) (at : Input) : Type 0 where
  pub front : List Spelled
  pub rest : List Spelled
  pub cut : tokens ≡ front ++ rest
  pub place : at.next ≡ length front + 1
  pub begins : BeginsTree front
  pub ahead : map symbol_of rest ≡ at.rest

-- Tokens that show some symbols first are these symbols' spellings and others.
pub record Shows (tokens : List Spelled) (symbols : List Symbol) (rest : List (Option Symbol)) : Type 0 where
  pub behind : List Spelled
  pub cut : tokens ≡ map spelled symbols ++ behind
  pub shows : map symbol_of behind ≡ rest

no_more : (s : Option Symbol) (rest : List (Option Symbol)) → [] ≡ s ∷ rest → ⊥
no_more s rest h = cc

pub shown : (tokens : List Spelled) (symbols : List Symbol) (rest : List (Option Symbol)) → map symbol_of tokens ≡ map Some symbols ++ rest → Shows tokens symbols rest
shown tokens [] rest h = record { behind = tokens; cut = refl; shows = h }
shown [] (s ∷ symbols) rest h = absurd (no_more (Some s) (map Some symbols ++ rest) h)
shown (t ∷ tokens) (s ∷ symbols) rest h =
    let more = shown tokens symbols rest (ap (λ v. drop 1 v) h) in
    record {
      behind = more.behind;
      cut = ap (λ v. v ∷ tokens) (sym (spelled_of_symbol t s (ap first_of_rest h))) ∙ ap (λ v. spelled s ∷ v) more.cut;
      shows = more.shows;
    }

begins_tree : (i e : Input) (v : Viable external_lists [] i e) → BeginsTree (map spelled (v.front []))
begins_tree i e v =
    let more = v.begins.spells [] in
    record {
      tree = record { externals = v.begins.thing };
      rest = map spelled more.0;
      well_formed = v.begins.holds;
      begins = ap (map spelled) (more.1 ∙ v.plain more.0) ∙ map-append spelled (v.front []) more.0;
    }

pub read-viable : (tokens : List Spelled) (at : Input) → read (map symbol_of tokens) ≡ Err at → StopsAt tokens at
read-viable tokens at h =
    let v : Viable external_lists [] (start (map symbol_of tokens)) at = subst (λ o. Fails (Viable external_lists [] (start (map symbol_of tokens))) o) h (read-fails (map symbol_of tokens)) in
    let s = shown tokens (v.front []) at.rest v.text in
    record {
      front = map spelled (v.front []);
      rest = s.behind;
      cut = s.cut;
      place = omega (arith, v.next, length-map (v.front []) spelled);
      begins = begins_tree (start (map symbol_of tokens)) at v;
      ahead = s.shows;
    }
