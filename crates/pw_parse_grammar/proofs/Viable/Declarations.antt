-- The tokens before a fault in a declaration begin one (6.5).
use Rattle.std.proofs.Common.{◌≡◌, ℕ, ◌<◌, Bool, true, false, if◌then◌else◌, List, [], ◌∷◌, length, Option, Some, None, arith, refl, sym, ap, subst}
use Rattle.pw_tree.specs.Scopes as scopes
use Rattle.pw_tree.specs.Scopes.{has_typedef, has_type, name_of, after_specifiers, after_declarator, after_initializer, after_name, after_init_declarators, after_decl, after_decls, Env}
use Rattle.pw_tree.specs.Spelling.{spell_specifiers, spell_declarator, spell_initializer, spell_init_declarators, spell_decl, spell_decls}
use Rattle.pw_tree.specs.Symbols.{Sign}
use Rattle.pw_tree.specs.Trees.{Specifiers, InitDeclarator, Decl}
use Rattle.pw_tree.specs.WellFormed.{HasSpecifier, WellFormedSpecifiers, WellFormedDeclarator, WellFormedInitializer, WellFormedInitDeclarators, WellFormedDecl, WellFormedDecls}
use Rattle.pw_tree.specs.WellFormed as tree
use Rattle.pw_token.specs.declared.symbol.Mark.TheVariants as m
use Rattle.pw_parse_grammar.specs.declared.place.Place.{Place}
use Rattle.pw_parse_grammar.specs.declared.place.Place.TheVariants.{Named}
use Rattle.pw_parse_grammar.specs.Input.{Input, and_then, ◌>>=◌, ◌>>◌, pure, ◌<$>◌, while_some}
use Rattle.pw_parse_grammar.specs.Input as input
use Rattle.pw_parse_grammar.specs.Parts.{Declared}
use Rattle.pw_parse_grammar.specs.Declarators as rules
use Rattle.pw_parse_grammar.specs.Declarations.{parts, initializer, initialized, init_declarator, other_declarator, init_declarators, declaration_with, declaration, declaration_next, declarations}
use Rattle.pw_parse_grammar.specs.Expressions.{some_specifiers}
use Rattle.pw_parse_grammar.specs.Tests.{begins_declaration}
use Rattle.pw_parse_grammar.proofs.Trees.Base.{names_of}
use Rattle.pw_parse_grammar.proofs.Trees.Lengths.{length-specifiers, length-init_declarators}
use Rattle.pw_parse_grammar.proofs.Sound.Base.{Post, Reads, nothing, both}
use Rattle.pw_parse_grammar.proofs.Sound.Parts.{IsSpecifiers, IsDeclarator}
use Rattle.pw_parse_grammar.proofs.Sound.Primaries.{some_specifiers-sound}
use Rattle.pw_parse_grammar.proofs.Sound.Parameters.{declared_name}
use Rattle.pw_parse_grammar.proofs.Sound.Knot.{parts-sound}
use Rattle.pw_parse_grammar.proofs.Viable.Base.{Does, Fails, bind-fails, bind-does, both_hold, choose-fails, Form, Begins, Viable, missing, embed, as_part, counted, no_longer, expected-fails, eaten-fails}
use Rattle.pw_parse_grammar.proofs.Viable.Primaries.{some_specifiers-fails}
use Rattle.pw_parse_grammar.proofs.Viable.Knot.{parts-viable}
use Rattle.pw_parse_grammar.proofs.Viable.Lists.{DoneItem, while-does}
use Rattle.pw_parse_grammar.proofs.Viable.Things.{Stands, Handles, flat, below}
use Rattle.pw_parse_grammar.proofs.Viable.Inits.{initializer-does}

-- ---- declarators with initializers

-- declarators behind these specifiers, with their initializers
abbrev pub initialized_names : Specifiers → Form InitDeclarator
initialized_names ss = record {
  holds = λ env d. WellFormedDeclarator env (has_type ss) tree.Named d.declarator × WellFormedInitializer (after_name env ss d.declarator) d.initializer;
  put = λ d z. spell_declarator d.declarator (spell_initializer d.initializer z);
}

abbrev pub after_initialized : Specifiers → Env → InitDeclarator → Env
after_initialized ss env d = after_initializer (after_name env ss d.declarator) d.initializer

-- other declarators, each behind a comma
abbrev pub others : Specifiers → Form (List InitDeclarator)
others ss = record { holds = λ env ds. WellFormedInitDeclarators env ss ds; put = spell_init_declarators false }

abbrev pub after_others : Specifiers → Env → List InitDeclarator → Env
after_others ss env ds = after_init_declarators env ss ds

-- A declared name is visible from then on.
pub named-does : {place : Place} {typed : Bool} (V : Input → Type 0) (is_typedef : Bool) (env : Env) (i x : Input) (d : Declared) → IsDeclarator place typed env i d x
    → Does (λ _ j. Reads x j (scopes.declare_name is_typedef (name_of d.tree) (after_declarator env d.tree)) (λ z. z)) V (rules.declare_name d.name is_typedef x)
named-does V is_typedef env i x d q = both_hold _ V (rules.declare_name d.name is_typedef x)
    (subst (λ v. Post (λ _ j. Reads x j (scopes.declare_name is_typedef (name_of d.tree) (after_declarator env d.tree)) (λ z. z)) (rules.declare_name v is_typedef x)) (sym (ap (λ v. v.name) q.same))
    (declared_name is_typedef (name_of d.tree) (after_declarator env d.tree) x q.reads.names))
    (never d.name)
  where
    never : (name : Option (List ℕ)) → Fails V (rules.declare_name name is_typedef x)
    never None = tt
    never (Some name) = tt

-- ---- declarations

abbrev pub decl_trees : Form Decl
decl_trees = record { holds = WellFormedDecl; put = spell_decl }

abbrev pub decl_lists : Form (List Decl)
decl_lists = record { holds = WellFormedDecls; put = spell_decls }

-- a declaration with these declarators, up to the `;`
whole : {env : Env} (ss : Specifiers) (ds : List InitDeclarator) → HasSpecifier ss → WellFormedSpecifiers env false ss → WellFormedInitDeclarators (after_specifiers env ss) ss ds → Begins decl_trees env (λ z. spell_specifiers ss (spell_init_declarators true ds z))
whole ss ds has h w = record { thing = record { specifiers = ss; declarators = ds }; holds = (has, h, w); spells = λ z. (Sign m.Semicolon ∷ z, refl) }

pub decl_counts : (d : Decl) → 0 < length (spell_decl d [])
decl_counts d = omega (arith, length-specifiers d.specifiers (spell_init_declarators true d.declarators (Sign m.Semicolon ∷ [])), length-init_declarators true d.declarators (Sign m.Semicolon ∷ []))

module _ (limit : ℕ) where
  pub initialized-does : (ss : Specifiers) (env : Env) (i x : Input) (d : Declared) → IsDeclarator Named (has_type ss) env i d x → length x.rest < limit
      → Does (Stands (initialized_names ss) (after_initialized ss) env i) (Viable (initialized_names ss) env i) (initialized limit (has_typedef ss) d x)
  unfolding initialized
  initialized-does ss env i x d q less =
      bind-does _ _ (rules.declare_name d.name (has_typedef ss) x) (λ _. initializer limit >>= λ y. pure (record { declarator = d.tree; initializer = y })) (named-does (Viable (initialized_names ss) env i) (has_typedef ss) env i x d q) (λ e v. v) (λ _ u named.
      bind-does _ _ (initializer limit u) (λ y. pure (record { declarator = d.tree; initializer = y })) (initializer-does limit (after_name env ss d.tree) u named.names (below named less))
      (λ e v. embed (both q.reads named) v (λ y w. record { thing = record { declarator = d.tree; initializer = y }; holds = (q.holds, w); spells = λ z. (z, refl) }))
      (λ y j r. record { reads = both q.reads (both named r.reads); holds = (q.holds, r.holds) }))

  init_declarator-does : (ss : Specifiers) → Handles (initialized_names ss) (after_initialized ss) limit (init_declarator limit (has_type ss) (has_typedef ss))
  unfolding init_declarator
  init_declarator-does ss env i names less =
      bind-fails _ _ ((parts limit).declarator Named (has_type ss) i) (initialized limit (has_typedef ss)) ((parts-sound limit).declarator Named (has_type ss) env i names) ((parts-viable limit).declarator Named (has_type ss) env i names less)
      (λ e v. as_part v (λ d w. record { thing = record { declarator = d; initializer = None }; holds = (w, tt); spells = λ z. (z, refl) }))
      (λ d x q. initialized-does ss env i x d q (below q.reads less))

  other-does : (ss : Specifiers) (env : Env) (i : Input) → i.names ≡ names_of env → length i.rest < limit
      → Does (DoneItem (Stands (others ss) (after_others ss)) (Viable (others ss)) [] env i) (Viable (others ss) env i) (other_declarator limit (has_type ss) (has_typedef ss) i)
  unfolding other_declarator
  other-does ss env i names less = eaten-fails _ _ i env m.Comma ((λ d. Some (λ more. d ∷ more)) <$> init_declarator limit (has_type ss) (has_typedef ss)) (pure None) names
      (λ x t. bind-does _ _ (init_declarator limit (has_type ss) (has_typedef ss) x) (λ d. pure (Some (λ more. d ∷ more))) (init_declarator-does ss env x t.names (below t less))
      (λ e v. embed t v (λ d w. record { thing = d ∷ []; holds = (w.0, w.1, tt); spells = λ z. (z, refl) }))
      (λ d j q. record {
        on = record {
          inner = after_initialized ss env d;
          names = q.reads.names;
          shorter = omega (arith, counted t, no_longer q.reads);
          rest = λ e v. embed (both t q.reads) v (λ ds w. record { thing = d ∷ ds; holds = (q.holds.0, q.holds.1, w); spells = λ z. (z, refl) });
        };
        whole = λ ds k r. record { reads = both t (both q.reads r.reads); holds = (q.holds.0, q.holds.1, r.holds) };
      }))
      (λ _. record { reads = nothing i env names; holds = tt })

  others-does : (ss : Specifiers) → Handles (others ss) (after_others ss) limit (while_some [] (other_declarator limit (has_type ss) (has_typedef ss)))
  others-does ss = while-does (Stands (others ss) (after_others ss)) (Viable (others ss)) limit [] (other_declarator limit (has_type ss) (has_typedef ss)) (other-does ss)

  -- a declaration from its first declarator's initializer on
  pub declaration_with-does : (env : Env) (i x y : Input) (ss : Specifiers) (d : Declared) → IsSpecifiers true env i ss x → HasSpecifier ss → IsDeclarator Named (has_type ss) (after_specifiers env ss) x d y → length x.rest < limit
      → Does (Stands decl_trees after_decl env i) (Viable decl_trees env i) (declaration_with limit ss d y)
  unfolding declaration_with init_declarators
  declaration_with-does env i x y ss d q has r less =
      bind-does _ _ (initialized limit (has_typedef ss) d y) (λ first. init_declarators limit (has_type ss) (has_typedef ss) first >>= λ all. input.expect m.Semicolon >> pure (record { specifiers = ss; declarators = all })) (initialized-does ss (after_specifiers env ss) x y d r (below r.reads less))
      (λ e v. embed q.reads v (λ first w. whole ss (first ∷ []) has q.holds (w.0, w.1, tt))) (λ first u s.
      flat _ _ (while_some [] (other_declarator limit (has_type ss) (has_typedef ss)) u) (λ ds. pure (first ∷ ds)) (λ all. input.expect m.Semicolon >> pure (record { specifiers = ss; declarators = all }))
      (bind-does _ _ (while_some [] (other_declarator limit (has_type ss) (has_typedef ss)) u) (λ ds. input.expect m.Semicolon >> pure (record { specifiers = ss; declarators = first ∷ ds })) (others-does ss (after_initialized ss (after_specifiers env ss) first) u s.reads.names (below s.reads less))
      (λ e v. embed (both q.reads s.reads) v (λ ds w. whole ss (first ∷ ds) has q.holds (s.holds.0, s.holds.1, w))) (λ ds k p.
      expected-fails _ _ k (after_others ss (after_initialized ss (after_specifiers env ss) first) ds) m.Semicolon (pure (record { specifiers = ss; declarators = first ∷ ds })) p.reads.names
      (missing (both q.reads (both s.reads p.reads)) (whole ss (first ∷ ds) has q.holds (s.holds.0, s.holds.1, p.holds)))
      (λ j c. record { reads = both q.reads (both s.reads (both p.reads c)); holds = (has, q.holds, (s.holds.0, s.holds.1, p.holds)) }))))

  pub declaration-does : Handles decl_trees after_decl limit (declaration limit)
  unfolding declaration
  declaration-does env i names less =
      bind-fails _ _ (some_specifiers (parts limit) true i) (λ ss. input.eat m.Semicolon >>= λ is_done. if is_done then pure (record { specifiers = ss; declarators = [] }) else ((parts limit).declarator Named (has_type ss) >>= declaration_with limit ss))
      (some_specifiers-sound (parts limit) (parts-sound limit) true env i names) (some_specifiers-fails (parts limit) (parts-sound limit) limit (parts-viable limit) true env i names less)
      (λ e v. as_part v (λ ss w. whole ss [] w.2 w.0 tt)) (λ ss x q.
      eaten-fails _ _ x (after_specifiers env ss) m.Semicolon (pure (record { specifiers = ss; declarators = [] })) ((parts limit).declarator Named (has_type ss) >>= declaration_with limit ss) q.0.reads.names
      (λ j c. record { reads = both q.0.reads c; holds = (q.1, q.0.holds, tt) })
      (λ _. bind-fails _ _ ((parts limit).declarator Named (has_type ss) x) (declaration_with limit ss) ((parts-sound limit).declarator Named (has_type ss) (after_specifiers env ss) x q.0.reads.names) ((parts-viable limit).declarator Named (has_type ss) (after_specifiers env ss) x q.0.reads.names (below q.0.reads less))
      (λ e v. embed q.0.reads v (λ d w. whole ss (record { declarator = d; initializer = None } ∷ []) q.1 q.0.holds (w, tt, tt)))
      (λ d y r. declaration_with-does env i x y ss d q.0 q.1 r (below q.0.reads less))))

  declaration_next-does : (labels : Bool) (env : Env) (i : Input) → i.names ≡ names_of env → length i.rest < limit → Does (DoneItem (Stands decl_lists after_decls) (Viable decl_lists) [] env i) (Viable decl_lists env i) (declaration_next limit labels i)
  unfolding declaration_next
  declaration_next-does labels env i names less = choose-fails _ _ (begins_declaration labels i) ((λ d. Some (λ more. d ∷ more)) <$> declaration limit) (pure None) i
      (λ _. bind-does _ _ (declaration limit i) (λ d. pure (Some (λ more. d ∷ more))) (declaration-does env i names less)
      (λ e v. as_part v (λ d w. record { thing = d ∷ []; holds = (w, tt); spells = λ z. (z, refl) }))
      (λ d j q. record {
        on = record {
          inner = after_decl env d;
          names = q.reads.names;
          shorter = omega (arith, counted q.reads, decl_counts d);
          rest = λ e v. embed q.reads v (λ ds w. record { thing = d ∷ ds; holds = (q.holds, w); spells = λ z. (z, refl) });
        };
        whole = λ ds k r. record { reads = both q.reads r.reads; holds = (q.holds, r.holds) };
      }))
      (λ _. record { reads = nothing i env names; holds = tt })

  pub declarations-does : (labels : Bool) → Handles decl_lists after_decls limit (declarations limit labels)
  unfolding declarations
  declarations-does labels = while-does (Stands decl_lists after_decls) (Viable decl_lists) limit [] (declaration_next limit labels) (declaration_next-does labels)
