-- Translation units that are read are trees (6.7): what is read is written.
use Rattle.std.proofs.Common.{◌≡◌, ℕ, ◌+◌, Bool, true, false, not, if◌then◌else◌, List, [], ◌∷◌, length, map, Option, Some, None, ◌++◌, ◌&&◌, take, arith, refl, sym, ap, ◌∙◌, subst}
use Rattle.pw_tree.specs.Numbering.{NumberedDeclarator, NumberedDecls, NumberedBlock, NumberedExternal, NumberedExternals, NumberedModule}
use Rattle.pw_tree.specs.Scopes.{has_typedef, has_type, name_of, after_specifiers, after_declarator, after_name, after_decls, enter, after_external, Env}
use Rattle.pw_tree.specs.Spelling.{spell_specifiers, spell_declarator, spell_decls, spell_block, spell_external, spell_externals, symbols}
use Rattle.pw_tree.specs.Symbols.{Symbol}
use Rattle.pw_tree.specs.Trees.{Specifiers, NoSpecifier, Storage, Qualified, Basic, TypedefName, RecordTag, Record, EnumTag, Enum, Declarator, Decl, Block, External, Definition, Declaration, Module}
use Rattle.pw_tree.specs.WellFormed.{NotEmpty, HasPostfix, HasSpecifier, HasMember, HasMemberDeclarator, HasEnumerator, HasParameter, HasInit, NotTypedef, NoneTypedef, MayDeclare, NoStorage, IsSomething, begins_with_typedef, MayEnclose, operand_level, WellFormed, WellFormedPostfixes, WellFormedArguments, WellFormedOperations, WellFormedSpecifiers, WellFormedMembers, WellFormedMemberDeclarators, WellFormedEnumerators, WellFormedDeclarator, WellFormedCore, WellFormedSuffixes, WellFormedParameters, WellFormedOptional, WellFormedInit, WellFormedInits, WellFormedInitializer, WellFormedInitDeclarators, WellFormedDecl, WellFormedDecls, WellFormedLabel, WellFormedLabels, NotLabeled, NotIf, ends_open, alternative_ends_open, MayPrecede, WellFormedStmt, WellFormedAlternative, WellFormedBlock, WellFormedStmts, in_function, WellFormedFunction, WellFormedExternal, WellFormedExternals, WellFormedModule}
use Rattle.pw_tree.specs.WellFormed as tree
use Rattle.pw_token.specs.declared.symbol.Mark.TheVariants as m
use Rattle.pw_parse_grammar.specs.declared.place.Place.TheVariants.{Named}
use Rattle.pw_parse_grammar.specs.Input.{Input, first_of_rest, ahead, is_none_left, at_end, step_to, step, same_mark, same_keyword, is_mark, is_keyword, sees, sees_keyword, or_false, Outcome, Parser, and_then, ◌>>=◌, ◌>>◌, pure, ◌<$>◌, fault, asks, peek, here, skip, take_number, word, past, past_keyword, eat, eat_keyword, expect, expect_keyword, identifier_by, ordinary_by, ordinary, declare_all, leave, since, turns, go_on, repeat, list_of, turn_of, while_some, turn_with, one_or_more, unless_comma, Binding}
use Rattle.pw_parse_grammar.specs.Input as input
use Rattle.pw_parse_grammar.specs.Parts.{Declared}
use Rattle.std.proofs.lemmas.List.{append-nil}
use Rattle.pw_parse_grammar.specs.Input as input
use Rattle.pw_parse_grammar.specs.Declarators as rules
use Rattle.pw_parse_grammar.specs.Declarations.{parts, declarations, declaration_with}
use Rattle.pw_parse_grammar.specs.Modules.{or_none, goes_on_as_declaration, function, external_with, external_named, external_behind, external, ends_text, externals, start, read}
use Rattle.pw_parse_grammar.specs.Statements.{stmt, block}
use Rattle.pw_parse_grammar.specs.Tests.{is_empty}
use Rattle.pw_parse_grammar.proofs.Trees.Base.{names_of, true_is_not_false, left}
use Rattle.pw_parse_grammar.proofs.Written.Module.{enter-names, in-function, after_externals}
use Rattle.pw_parse_grammar.proofs.Written.Knows.{behind_of}
use Rattle.pw_parse_grammar.proofs.Sound.Base.{Post, bind, choose_parser, Reads, both, eaten}
use Rattle.pw_parse_grammar.proofs.Sound.Lists.{IsTurn, repeat-sound}
use Rattle.pw_parse_grammar.proofs.Sound.Parts.{IsSpecifiers, IsDeclarator}
use Rattle.pw_parse_grammar.proofs.Sound.Parameters.{declared_name}
use Rattle.pw_parse_grammar.proofs.Sound.Knot.{parts-sound}
use Rattle.pw_parse_grammar.proofs.Sound.Declarations.{IsDecl, IsDecls, declaration_with-sound, declarations-sound, empty-declaration}
use Rattle.pw_parse_grammar.proofs.Sound.Statements.{IsBlock, block-sound, stmt-sound}

-- an external declaration from i to j
pub record IsExternal (env : Env) (i : Input) (e : External) (j : Input) : Type 0 where
  pub reads : Reads i j (after_external env e) (spell_external e)
  pub holds : WellFormedExternal env e
  pub numbered : NumberedExternal i.next e

-- the names of a function's parameters are visible in its body
pub entered_names : (env : Env) (x : Declarator) (names bindings : List Binding) → names ≡ names_of env → bindings ≡ or_none (behind_of x) → names ++ bindings ≡ names_of (enter env x)
entered_names env x names bindings e f = ap (λ v. v ++ bindings) e ∙ ap (λ v. names_of env ++ v) f ∙ enter-names env x

-- and not behind it
pub around_function : (env : Env) (x : Declarator) (ds : List Decl) (a b : List Binding) → a ≡ names_of env → b ≡ names_of (after_decls (enter env x) ds) → take (length a) b ≡ names_of env
around_function env x ds a b e f =
    ap (λ v. take (length v) b) e ∙ ap (λ v. take (length (names_of env)) v) (f ∙ ap names_of (in-function env x ds)) ∙ left (after_decls (enter [] x) ds) env

pub has_specifier : (ss : Specifiers) → is_empty ss ≡ false → HasSpecifier ss
has_specifier NoSpecifier h = true_is_not_false (sym h)
has_specifier (Storage n c ss) h = tt
has_specifier (Qualified n c ss) h = tt
has_specifier (Basic n c ss) h = tt
has_specifier (TypedefName w ss) h = tt
has_specifier (RecordTag n r w ss) h = tt
has_specifier (Record n r w ms ss) h = tt
has_specifier (EnumTag n w ss) h = tt
has_specifier (Enum n w es ss) h = tt

pub not_empty : (a b : Bool) → (not a && b) ≡ true → a ≡ false
not_empty true b h = true_is_not_false h
not_empty false b h = refl

function-whole : (limit : ℕ) (env : Env) (i x y y1 y2 u v j : Input) (ss : Specifiers) (d : Declarator) (ds : List Decl) (b : Block) → IsSpecifiers true env i ss x → Reads x y (after_declarator (after_specifiers env ss) d) (spell_declarator d)
    → WellFormedDeclarator (after_specifiers env ss) (has_type ss) tree.Named d → NumberedDeclarator x.next d → Reads y y1 (after_name (after_specifiers env ss) ss d) (λ z. z) → Reads y1 y2 (enter (after_name (after_specifiers env ss) ss d) d) (λ z. z)
    → IsDecls (enter (after_name (after_specifiers env ss) ss d) d) y2 ds u → IsBlock limit (stmt limit limit) (stmt-sound limit limit) (after_decls (enter (after_name (after_specifiers env ss) ss d) d) ds) u b v → j.rest ≡ v.rest → j.next ≡ v.next → j.names ≡ names_of (after_name (after_specifiers env ss) ss d)
    → IsExternal env i (Definition (record { specifiers = ss; declarator = d; declarations = ds; body = b })) j
function-whole limit env i x y y1 y2 u v j ss d ds b q r holds numbered n p s w rest next names =
    let all : Reads i v (after_decls (enter (after_name (after_specifiers env ss) ss d) d) ds) (λ z. spell_specifiers ss (spell_declarator d (spell_decls ds (spell_block b z)))) = both q.reads (both r (both n (both p (both s.reads w.reads)))) in
    record {
      reads = record { text = all.text ∙ ap (λ t. map Some (spell_specifiers ss (spell_declarator d (spell_decls ds (spell_block b [])))) ++ t) (sym rest); next = next ∙ all.next; names = names; plain = all.plain };
      holds = (q.holds, holds, s.holds, w.holds);
      numbered = (
        q.numbered,
        subst (λ n. NumberedDeclarator n d) q.reads.next numbered,
        subst (λ n. NumberedDecls n ds) (omega (arith, q.reads.next, r.next, n.next, p.next)) s.numbered,
        subst (λ n. NumberedBlock n b) (omega (arith, q.reads.next, r.next, n.next, p.next, s.reads.next)) w.numbered,
      );
    }

-- external declarations, one or more, up to the end of the text
pub record IsExternals (env : Env) (i : Input) (es : List External) (j : Input) : Type 0 where
  pub reads : Reads i j (after_externals env es) (spell_externals es)
  pub holds : WellFormedExternals env es
  pub numbered : NumberedExternals i.next es
  pub has : NotEmpty es
  pub ends : j.rest ≡ []

-- an external declaration before others
pub record IsOne (env : Env) (i : Input) (f : List External → List External) (j : Input) : Type 0 where
  pub external : External
  pub is : IsExternal env i external j
  pub before : (es : List External) → f es ≡ external ∷ es

end_of : (i : Input) → at_end i ≡ true → i.rest ≡ []
unfolding at_end
end_of i h = by i.rest h
  where
    by : (rest : List (Option Symbol)) → is_none_left rest ≡ true → rest ≡ []
    by [] h = refl
    by (s ∷ rest) h = true_is_not_false h

last_external : (env : Env) (i j : Input) (f : List External → List External) → IsOne env i f j → at_end j ≡ true → IsExternals env i (f []) j
last_external env i j f q h = subst (λ v. IsExternals env i v j) (sym (q.before []))
    (record { reads = q.is.reads; holds = (q.is.holds, tt); numbered = (q.is.numbered, tt); has = tt; ends = end_of j h })

more_externals : (env : Env) (i j : Input) (f : List External → List External) → (q : IsOne env i f j) → (es : List External) (k : Input) → IsExternals (after_external env q.external) j es k → IsExternals env i (f es) k
more_externals env i j f q es k r = subst (λ v. IsExternals env i v k) (sym (q.before es))
    (record { reads = both q.is.reads r.reads; holds = (q.is.holds, r.holds); numbered = (q.is.numbered, subst (λ n. NumberedExternals n es) q.is.reads.next r.numbered); has = tt; ends = r.ends })

module _ (limit : ℕ) where
  function-sound : (env : Env) (i x y : Input) (ss : Specifiers) (d : Declared) → IsSpecifiers true env i ss x → IsDeclarator Named (has_type ss) (after_specifiers env ss) x d y → Post (IsExternal env i) (function limit ss d y)
  unfolding function
  function-sound env i x y ss d q r =
      let env1 = after_name (after_specifiers env ss) ss d.tree in
      let inner = enter env1 d.tree in
      bind _ (rules.declare_name d.name (has_typedef ss) y) (λ _. input.mark >>= λ outer. input.declare_all (or_none d.behind) >> (declarations limit false >>= λ ds. block limit (stmt limit limit) >>= λ b. input.leave outer >> pure (Definition (record { specifiers = ss; declarator = d.tree; declarations = ds; body = b }))))
      (subst (λ v. Post (λ _ j. Reads y j env1 (λ z. z)) (rules.declare_name v (has_typedef ss) y)) (sym (ap (λ v. v.name) r.same)) (declared_name (has_typedef ss) (name_of d.tree) (after_declarator (after_specifiers env ss) d.tree) y r.reads.names))
      (λ _ y1 n.
      let y2 : Input = record y1 { names = y1.names ++ or_none d.behind } in
      let p : Reads y1 y2 inner (λ z. z) = record { text = refl; next = omega arith; names = entered_names env1 d.tree y1.names (or_none d.behind) n.names (ap or_none (ap (λ v. v.behind) r.same)); plain = λ z. refl } in
      bind _ (declarations limit false y2) (λ ds. block limit (stmt limit limit) >>= λ b. input.leave (length y1.names) >> pure (Definition (record { specifiers = ss; declarator = d.tree; declarations = ds; body = b }))) (declarations-sound limit false inner y2 p.names) (λ ds u s.
      bind _ (block limit (stmt limit limit) u) (λ b. input.leave (length y1.names) >> pure (Definition (record { specifiers = ss; declarator = d.tree; declarations = ds; body = b }))) (block-sound limit (stmt limit limit) (stmt-sound limit limit) (after_decls inner ds) u s.reads.names) (λ b v w.
      function-whole limit env i x y y1 y2 u v (record v { names = take (length y1.names) v.names }) ss d.tree ds b q r.reads r.holds r.numbered n p s w refl refl
      (around_function env1 d.tree ds y1.names v.names n.names w.reads.names))))

  declaration-external : (env : Env) (i : Input) (d : Decl) (j : Input) → IsDecl env i d j → IsExternal env i (Declaration d) j
  declaration-external env i d j q = record { reads = q.reads; holds = q.holds; numbered = q.numbered }

  named-sound : (env : Env) (i x : Input) (ss : Specifiers) → IsSpecifiers true env i ss x → Post (IsExternal env i) (external_named limit ss x)
  unfolding external_named external_with
  named-sound env i x ss q =
      bind _ ((parts limit).declarator Named (has_type ss) x) (external_with limit ss) ((parts-sound limit).declarator Named (has_type ss) (after_specifiers env ss) x q.reads.names) (λ d y r.
      choose_parser _ (not (is_empty ss) && goes_on_as_declaration y) (Declaration <$> declaration_with limit ss d) (function limit ss d) y
      (λ h. bind _ (declaration_with limit ss d y) (λ x. pure (Declaration x)) (declaration_with-sound limit env i x y ss d q (has_specifier ss (not_empty (is_empty ss) (goes_on_as_declaration y) h)) r) (declaration-external env i))
      (λ _. function-sound env i x y ss d q r))

  behind-sound : (env : Env) (i x : Input) (ss : Specifiers) → IsSpecifiers true env i ss x → Post (IsExternal env i) (external_behind limit ss x)
  unfolding external_behind
  behind-sound env i x ss q = choose_parser _ (is_empty ss) (external_named limit ss) (input.eat m.Semicolon >>= λ ends. if ends then pure (Declaration (record { specifiers = ss; declarators = [] })) else external_named limit ss) x
      (λ _. named-sound env i x ss q)
      (λ some. eaten _ x (after_specifiers env ss) m.Semicolon (pure (Declaration (record { specifiers = ss; declarators = [] }))) (external_named limit ss) q.reads.names
      (λ j c. declaration-external env i (record { specifiers = ss; declarators = [] }) j (empty-declaration env i x j ss q (has_specifier ss some) c))
      (λ _. named-sound env i x ss q))

  external-sound : (env : Env) (i : Input) → i.names ≡ names_of env → Post (IsOne env i) (external limit i)
  unfolding external
  external-sound env i names =
      bind _ (and_then ((parts limit).specifiers true i) (external_behind limit)) (λ e. pure (λ more. e ∷ more))
      (bind (λ e j. IsExternal env i e j) ((parts limit).specifiers true i) (external_behind limit) ((parts-sound limit).specifiers true env i names) (λ ss x q. behind-sound env i x ss q))
      (λ e j q. record { external = e; is = q; before = λ es. refl })

  externals-sound : (env : Env) (i : Input) → i.names ≡ names_of env → Post (IsExternals env i) (externals limit i)
  unfolding externals ends_text
  externals-sound env i names = repeat-sound IsExternals (external limit >>= λ first. turn_with first <$> ends_text limit) turn (turns i) env i names
    where
      by : (env : Env) (i j : Input) (f : List External → List External) → IsOne env i f j → (b : Bool) → at_end j ≡ b → IsTurn IsExternals env i (turn_with f (if b then Some [] else None)) j
      by env i j f q true h = last_external env i j f q h
      by env i j f q false h = (after_external env q.external, q.is.reads.names, more_externals env i j f q)

      turn : (env : Env) (i : Input) → i.names ≡ names_of env → Post (IsTurn IsExternals env i) ((external limit >>= λ first. turn_with first <$> ends_text limit) i)
      turn env i names = bind _ (external limit i) (λ first. turn_with first <$> ends_text limit) (external-sound env i names) (λ f j q. by env i j f q (at_end j) refl)

-- what is read from symbols
pub record IsRead (symbols : List (Option Symbol)) (tree : Module) : Type 0 where
  pub well_formed : WellFormedModule tree
  pub numbered : NumberedModule tree
  pub spells : symbols ≡ map Some (spell_externals tree.externals [])

pub read-sound : (symbols : List (Option Symbol)) → Post (λ tree j. IsRead symbols tree) (read symbols)
unfolding read
read-sound symbols = bind _ (externals (length symbols + 1) (start symbols)) (λ es. pure (record { externals = es })) (externals-sound (length symbols + 1) [] (start symbols) refl) (λ es j q.
    record { well_formed = (q.has, q.holds); numbered = q.numbered; spells = q.reads.text ∙ ap (λ v. map Some (spell_externals es []) ++ v) q.ends ∙ append-nil (map Some (spell_externals es [])) })
