-- The tokens before a fault in a translation unit begin one (6.7).
use Rattle.std.proofs.Common.{◌≡◌, ℕ, ◌+◌, ◌<◌, Bool, true, false, not, if◌then◌else◌, List, [], ◌∷◌, ◌++◌, length, Option, Some, None, ◌&&◌, take, arith, refl, ap}
use Rattle.pw_tree.specs.Scopes.{has_typedef, has_type, after_specifiers, after_name, after_decls, enter, after_external, Env}
use Rattle.pw_tree.specs.Spelling.{spell_specifiers, spell_declarator, spell_decls, spell_block, spell_external, spell_externals}
use Rattle.pw_tree.specs.Symbols.{Symbol, Sign}
use Rattle.pw_tree.specs.Trees.{Specifiers, Declarator, Block, Braced, NoStmt, External, Definition, Declaration}
use Rattle.pw_tree.specs.WellFormed.{NotEmpty, HasSpecifier, WellFormedSpecifiers, WellFormedDeclarator, WellFormedExternal, WellFormedExternals, WellFormedStmt}
use Rattle.pw_tree.specs.WellFormed as tree
use Rattle.pw_token.specs.declared.symbol.Mark.TheVariants as m
use Rattle.pw_parse_grammar.specs.declared.place.Place.TheVariants.{Named}
use Rattle.pw_parse_grammar.specs.Input.{Input, at_end, Parser, and_then, ◌>>=◌, ◌>>◌, pure, ◌<$>◌, Binding}
use Rattle.pw_parse_grammar.specs.Input as input
use Rattle.pw_parse_grammar.specs.Parts.{Declared}
use Rattle.pw_parse_grammar.specs.Declarators as rules
use Rattle.pw_parse_grammar.specs.Declarations.{parts, declarations, declaration_with}
use Rattle.pw_parse_grammar.specs.Modules.{or_none, goes_on_as_declaration, function, external_with, external_named, external_behind, external, ends_text, externals, start, read}
use Rattle.pw_parse_grammar.specs.Statements.{stmt, block}
use Rattle.pw_parse_grammar.specs.Tests.{is_empty}
use Rattle.pw_parse_grammar.proofs.Trees.Base.{names_of}
use Rattle.pw_parse_grammar.proofs.Trees.Lengths.{length-specifiers, length-declarator, length-decls}
use Rattle.pw_parse_grammar.proofs.Sound.Base.{Reads, both}
use Rattle.pw_parse_grammar.proofs.Sound.Parts.{IsSpecifiers, IsDeclarator}
use Rattle.pw_parse_grammar.proofs.Sound.Parameters.{scoped}
use Rattle.pw_parse_grammar.proofs.Sound.Knot.{parts-sound}
use Rattle.pw_parse_grammar.proofs.Sound.Statements.{block-sound, stmt-sound}
use Rattle.pw_parse_grammar.proofs.Sound.Module.{entered_names, around_function, has_specifier, not_empty}
use Rattle.pw_parse_grammar.proofs.Viable.Base.{Does, Fails, bind-fails, bind-does, choose-fails, Form, Begins, Viable, embed, as_part, counted, eaten-fails}
use Rattle.pw_parse_grammar.proofs.Viable.Lists.{GoesOn, AfterEnd, items-fail}
use Rattle.pw_parse_grammar.proofs.Viable.Knot.{parts-viable}
use Rattle.pw_parse_grammar.proofs.Viable.Things.{Stands, Handles, below}
use Rattle.pw_parse_grammar.proofs.Viable.Declarations.{named-does, decl_counts, declaration_with-does, declarations-does}
use Rattle.pw_parse_grammar.proofs.Viable.Statements.{block-fails, stmt-fails}

abbrev pub external_trees : Form External
external_trees = record { holds = WellFormedExternal; put = spell_external }

-- external declarations, one or more
abbrev pub external_lists : Form (List External)
external_lists = record { holds = λ env es. NotEmpty es × WellFormedExternals env es; put = spell_externals }

-- `{}`
abbrev empty_block : Block
empty_block = Braced 0 [] NoStmt

block_counts : (b : Block) → 0 < length (spell_block b [])
unfolding spell_block
block_counts (Braced n ds ss) = omega arith

external_counts : (x : External) → 0 < length (spell_external x [])
external_counts (Declaration d) = decl_counts d
external_counts (Definition f) = omega (
  arith,
  length-specifiers f.specifiers (spell_declarator f.declarator (spell_decls f.declarations (spell_block f.body []))),
  length-declarator f.declarator (spell_decls f.declarations (spell_block f.body [])),
  length-decls f.declarations (spell_block f.body []),
  block_counts f.body,
)

-- a function's declarator, with an empty body to come
only_head : {env : Env} (ss : Specifiers) (d : Declarator) → WellFormedSpecifiers env false ss → WellFormedDeclarator (after_specifiers env ss) (has_type ss) tree.Named d → Begins external_trees env (λ z. spell_specifiers ss (spell_declarator d z))
unfolding spell_block WellFormedStmt
only_head ss d h w = record {
  thing = Definition (record { specifiers = ss; declarator = d; declarations = []; body = empty_block });
  holds = (h, w, tt, (tt, tt));
  spells = λ z. (Sign m.OpenBrace ∷ Sign m.CloseBrace ∷ z, refl);
}

module _ (limit : ℕ) where
  function-does : (env : Env) (i x y : Input) (ss : Specifiers) (d : Declared) → IsSpecifiers true env i ss x → IsDeclarator Named (has_type ss) (after_specifiers env ss) x d y → length x.rest < limit
      → Does (Stands external_trees after_external env i) (Viable external_trees env i) (function limit ss d y)
  unfolding function spell_block WellFormedStmt
  function-does env i x y ss d q r less =
      let env1 = after_name (after_specifiers env ss) ss d.tree in
      let inner = enter env1 d.tree in
      bind-does _ _ (rules.declare_name d.name (has_typedef ss) y) (λ _. input.mark >>= λ outer. input.declare_all (or_none d.behind) >> (declarations limit false >>= λ ds. block limit (stmt limit limit) >>= λ b. input.leave outer >> pure (Definition (record { specifiers = ss; declarator = d.tree; declarations = ds; body = b }))))
      (named-does (Viable external_trees env i) (has_typedef ss) (after_specifiers env ss) x y d r) (λ e v. v) (λ _ y1 n.
      let y2 : Input = record y1 { names = y1.names ++ or_none d.behind } in
      let p : Reads y1 y2 inner (λ z. z) = record { text = refl; next = omega arith; names = entered_names env1 d.tree y1.names (or_none d.behind) n.names (ap or_none (ap (λ v. v.behind) r.same)); plain = λ z. refl } in
      let front : Reads i y2 inner (λ z. spell_specifiers ss (spell_declarator d.tree z)) = both q.reads (both r.reads (both n p)) in
      bind-does _ _ (declarations limit false y2) (λ ds. block limit (stmt limit limit) >>= λ b. input.leave (length y1.names) >> pure (Definition (record { specifiers = ss; declarator = d.tree; declarations = ds; body = b }))) (declarations-does limit false inner y2 p.names (below n (below r.reads less)))
      (λ e v. embed front v (λ ds w. record { thing = Definition (record { specifiers = ss; declarator = d.tree; declarations = ds; body = empty_block }); holds = (q.holds, r.holds, w, (tt, tt)); spells = λ z. (Sign m.OpenBrace ∷ Sign m.CloseBrace ∷ z, refl) })) (λ ds u s.
      let less3 : length u.rest < limit = below s.reads (below n (below r.reads less)) in
      bind-fails _ _ (block limit (stmt limit limit) u) (λ b. input.leave (length y1.names) >> pure (Definition (record { specifiers = ss; declarator = d.tree; declarations = ds; body = b }))) (block-sound limit (stmt limit limit) (stmt-sound limit limit) (after_decls inner ds) u s.reads.names)
      (block-fails limit limit (stmt limit limit) (stmt-sound limit limit) (stmt-fails limit limit (omega arith)) (after_decls inner ds) u s.reads.names (omega (arith, less3)) less3)
      (λ e v. embed (both front s.reads) v (λ b w. record { thing = Definition (record { specifiers = ss; declarator = d.tree; declarations = ds; body = b }); holds = (q.holds, r.holds, s.holds, w); spells = λ z. (z, refl) })) (λ b v w. record {
        reads = scoped (take (length y1.names) v.names) (both front (both s.reads w.reads)) (around_function env1 d.tree ds y1.names v.names n.names w.reads.names);
        holds = (q.holds, r.holds, s.holds, w.holds);
      })))

  named_external-does : (env : Env) (i x : Input) (ss : Specifiers) → IsSpecifiers true env i ss x → length x.rest < limit → Does (Stands external_trees after_external env i) (Viable external_trees env i) (external_named limit ss x)
  unfolding external_named external_with
  named_external-does env i x ss q less =
      bind-fails _ _ ((parts limit).declarator Named (has_type ss) x) (external_with limit ss) ((parts-sound limit).declarator Named (has_type ss) (after_specifiers env ss) x q.reads.names) ((parts-viable limit).declarator Named (has_type ss) (after_specifiers env ss) x q.reads.names less)
      (λ e v. embed q.reads v (λ d w. only_head ss d q.holds w)) (λ d y r.
      choose-fails _ _ (not (is_empty ss) && goes_on_as_declaration y) (Declaration <$> declaration_with limit ss d) (function limit ss d) y
      (λ h. bind-does _ _ (declaration_with limit ss d y) (λ x. pure (Declaration x)) (declaration_with-does limit env i x y ss d q (has_specifier ss (not_empty (is_empty ss) (goes_on_as_declaration y) h)) r less)
      (λ e v. as_part v (λ d w. record { thing = Declaration d; holds = w; spells = λ z. (z, refl) }))
      (λ d j s. record { reads = s.reads; holds = s.holds }))
      (λ _. function-does env i x y ss d q r less))

  behind-does : (env : Env) (i x : Input) (ss : Specifiers) → IsSpecifiers true env i ss x → length x.rest < limit → Does (Stands external_trees after_external env i) (Viable external_trees env i) (external_behind limit ss x)
  unfolding external_behind
  behind-does env i x ss q less = choose-fails _ _ (is_empty ss) (external_named limit ss) (input.eat m.Semicolon >>= λ ends. if ends then pure (Declaration (record { specifiers = ss; declarators = [] })) else external_named limit ss) x
      (λ _. named_external-does env i x ss q less)
      (λ some. eaten-fails _ _ x (after_specifiers env ss) m.Semicolon (pure (Declaration (record { specifiers = ss; declarators = [] }))) (external_named limit ss) q.reads.names
      (λ j c. record { reads = both q.reads c; holds = (has_specifier ss some, q.holds, tt) })
      (λ _. named_external-does env i x ss q less))

  external-does : Handles external_trees after_external limit ((parts limit).specifiers true >>= external_behind limit)
  external-does env i names less =
      bind-fails _ _ ((parts limit).specifiers true i) (external_behind limit) ((parts-sound limit).specifiers true env i names) ((parts-viable limit).specifiers true env i names less)
      (λ e v. as_part v (λ ss w. record { thing = Declaration (record { specifiers = ss; declarators = [] }); holds = (w.2, w.0, tt); spells = λ z. (Sign m.Semicolon ∷ z, refl) }))
      (λ ss x q. behind-does env i x ss q (below q.reads less))

  one-does : (env : Env) (i : Input) → i.names ≡ names_of env → length i.rest < limit → Does (λ f j. GoesOn (Viable external_lists) env i j) (Viable external_lists env i) (external limit i)
  unfolding external
  one-does env i names less =
      bind-does _ _ (and_then ((parts limit).specifiers true i) (external_behind limit)) (λ x. pure (λ more. x ∷ more)) (external-does env i names less)
      (λ e v. as_part v (λ x w. record { thing = x ∷ []; holds = (tt, (w, tt)); spells = λ z. (z, refl) }))
      (λ x j q. record {
        inner = after_external env x;
        names = q.reads.names;
        shorter = omega (arith, counted q.reads, external_counts x);
        rest = λ e v. embed q.reads v (λ es w. record { thing = x ∷ es; holds = (tt, (q.holds, w.1)); spells = λ z. (z, refl) });
      })

  externals-fails : (env : Env) (i : Input) → i.names ≡ names_of env → length i.rest < limit → Fails (Viable external_lists env i) (externals limit i)
  unfolding externals ends_text
  externals-fails = items-fail (Viable external_lists) (λ env i f j. GoesOn (Viable external_lists) env i j) limit (external limit) (ends_text limit) one-does (λ env i f j q. by env i j q (at_end j))
    where
      by : (env : Env) (i j : Input) → GoesOn (Viable external_lists) env i j → (b : Bool) → AfterEnd {L = List External} (Viable external_lists) env i (if b then Some [] else None) j
      by env i j q true = tt
      by env i j q false = q

-- What stands before the fault where reading symbols stops begins a translation unit.
pub read-fails : (symbols : List (Option Symbol)) → Fails (Viable external_lists [] (start symbols)) (read symbols)
unfolding read
read-fails symbols =
    bind-does _ _ (externals (length symbols + 1) (start symbols)) (λ es. pure (record { externals = es })) (externals-fails (length symbols + 1) [] (start symbols) refl (omega arith)) (λ e v. v)
    (λ es j q. tt)
