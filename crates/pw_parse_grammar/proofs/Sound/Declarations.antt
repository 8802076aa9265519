-- Initializers and declarations that are read are trees (6.5, 6.5.7).
use Rattle.std.proofs.Common.{◌≡◌, ℕ, zero, suc, ◌+◌, Bool, true, false, if◌then◌else◌, List, [], ◌∷◌, Option, Some, None, arith, refl, sym, ap, subst}
use Rattle.pw_tree.specs.Numbering.{past_declarator, past_init, NumberedDeclarator, NumberedInit, NumberedInits, NumberedInitializer, NumberedInitDeclarators, NumberedDecl, NumberedDecls}
use Rattle.pw_tree.specs.Scopes.{has_typedef, has_type, name_of, after_specifiers, after_declarator, after_init, after_inits, after_initializer, after_name, after_init_declarators, after_decl, after_decls, Env}
use Rattle.pw_tree.specs.Spelling.{trailed, spell_declarator, spell_init, spell_inits, spell_initializer, spell_init_declarators, spell_decl, spell_decls}
use Rattle.pw_tree.specs.Symbols.{Sign}
use Rattle.pw_tree.specs.Trees.{Expr, Specifiers, Init, Value, Braces, Inits, NoInit, Listed, Initializer, InitDeclarator, Decl}
use Rattle.pw_tree.specs.WellFormed.{NotEmpty, HasPostfix, HasSpecifier, HasMember, HasMemberDeclarator, HasEnumerator, HasParameter, HasInit, NotTypedef, NoneTypedef, MayDeclare, NoStorage, IsSomething, begins_with_typedef, MayEnclose, operand_level, WellFormed, WellFormedPostfixes, WellFormedArguments, WellFormedOperations, WellFormedSpecifiers, WellFormedMembers, WellFormedMemberDeclarators, WellFormedEnumerators, WellFormedDeclarator, WellFormedCore, WellFormedSuffixes, WellFormedParameters, WellFormedOptional, WellFormedInit, WellFormedInits, WellFormedInitializer, WellFormedInitDeclarators, WellFormedDecl, WellFormedDecls, WellFormedLabel, WellFormedLabels, NotLabeled, NotIf, ends_open, alternative_ends_open, MayPrecede, WellFormedStmt, WellFormedAlternative, WellFormedBlock, WellFormedStmts, in_function, WellFormedFunction, WellFormedExternal, WellFormedExternals, WellFormedModule}
use Rattle.pw_tree.specs.WellFormed as tree
use Rattle.pw_token.specs.declared.symbol.Mark.TheVariants as m
use Rattle.pw_parse_grammar.specs.declared.place.Place.TheVariants.{Named}
use Rattle.pw_parse_grammar.specs.Input.{Input, first_of_rest, ahead, is_none_left, at_end, step_to, step, same_mark, same_keyword, is_mark, is_keyword, sees, sees_keyword, or_false, Outcome, Parser, and_then, ◌>>=◌, ◌>>◌, pure, ◌<$>◌, fault, asks, peek, here, skip, take_number, word, past, past_keyword, eat, eat_keyword, expect, expect_keyword, identifier_by, ordinary_by, ordinary, declare_all, leave, since, turns, go_on, repeat, list_of, turn_of, while_some, turn_with, one_or_more, unless_comma, Binding}
use Rattle.pw_parse_grammar.specs.Input as input
use Rattle.pw_parse_grammar.specs.Parts.{Declared}
use Rattle.pw_parse_grammar.specs.Input as input
use Rattle.pw_parse_grammar.specs.Declarators as rules
use Rattle.pw_parse_grammar.specs.Declarations.{parts, inits_end, inits, braced, init_of, init, initializer, initialized, init_declarator, other_declarator, init_declarators, declaration_with, declaration, declaration_next, declarations}
use Rattle.pw_parse_grammar.specs.Expressions.{some_specifiers}
use Rattle.pw_parse_grammar.specs.Tests.{begins_declaration}
use Rattle.pw_parse_grammar.proofs.Trees.Base.{names_of}
use Rattle.pw_parse_grammar.proofs.Trees.Lengths.{length-declarator}
use Rattle.pw_parse_grammar.proofs.Sound.Base.{Post, bind, weaken, choose_parser, Reads, nothing, both, sign, expected, eaten}
use Rattle.pw_parse_grammar.proofs.Sound.Lists.{IsItem, Before, IsTurn, repeat-sound, while-sound}
use Rattle.pw_parse_grammar.proofs.Sound.Parts.{IsExpr, IsSpecifiers, IsDeclarator}
use Rattle.pw_parse_grammar.proofs.Sound.Primaries.{some_specifiers-sound}
use Rattle.pw_parse_grammar.proofs.Sound.Parameters.{declared_name}
use Rattle.pw_parse_grammar.proofs.Sound.Knot.{parts-sound}

-- ---- 6.5.7

-- an initializer from i to j
pub record IsInit (env : Env) (i : Input) (x : Init) (j : Input) : Type 0 where
  pub reads : Reads i j (after_init env x) (spell_init x)
  pub holds : WellFormedInit env x
  pub numbered : NumberedInit i.next x

abbrev pub SoundInit : Parser Init → Type 0
SoundInit p = (env : Env) (i : Input) → i.names ≡ names_of env → Post (IsInit env i) (p i)

-- initializers from i on, one or more, behind the comma before them, and whether a comma stands behind
pub record IsInits (env : Env) (i : Input) (p : Inits × Bool) (j : Input) : Type 0 where
  pub reads : Reads i j (after_inits env p.0) (λ z. spell_inits true p.0 (trailed p.1 z))
  pub holds : WellFormedInits env p.0
  pub has : HasInit p.0
  pub numbered : NumberedInits true i.next p.0
  -- with a comma before them
  pub commas : (k : Input) (inner : Env) → Reads k i inner (λ z. Sign m.Comma ∷ z) → Reads k j (after_inits env p.0) (λ z. spell_inits false p.0 (trailed p.1 z)) × NumberedInits false k.next p.0

-- an initializer that ends the list, or goes before a comma and the rest
pub record IsListedInit (env : Env) (i : Input) (f : Inits × Bool → Inits × Bool) (j : Input) : Type 0 where
  pub inner : Env
  pub names : j.names ≡ names_of inner
  pub last : (trailing : Bool) (k : Input) → Reads j k inner (trailed trailing) → IsInits env i (f (NoInit, trailing)) k
  pub more : (k : Input) → Reads j k inner (λ z. Sign m.Comma ∷ z) → (l : Inits × Bool) (end : Input) → IsInits inner k l end → IsInits env i (f l) end

init-listed : (env : Env) (i : Input) (x : Init) (j : Input) → IsInit env i x j → IsListedInit env i (λ more. (Listed x more.0, more.1)) j
unfolding spell_init after_init WellFormedInit NumberedInit
init-listed env i x j q =
    let past : (n : ℕ) → i.next ≡ n → j.next ≡ past_init n x = λ n f. omega (arith, q.reads.next, f) in
    record {
      inner = after_init env x;
      names = q.reads.names;
      last = λ trailing k c. record {
        reads = both q.reads c;
        holds = (q.holds, tt);
        has = tt;
        numbered = (q.numbered, tt);
        commas = λ h inner f. (both f (both q.reads c), (subst (λ v. NumberedInit v x) f.next q.numbered, tt));
      };
      more = λ k c is end s.
          let rest = s.commas j (after_init env x) c in
          record {
            reads = both q.reads rest.0;
            holds = (q.holds, s.holds);
            has = tt;
            numbered = (q.numbered, subst (λ v. NumberedInits false v is.0) (past i.next refl) rest.1);
            commas = λ h inner f. (both f (both q.reads rest.0), (subst (λ v. NumberedInit v x) f.next q.numbered, subst (λ v. NumberedInits false v is.0) (past (h.next + 1) f.next) rest.1));
          };
    }

-- behind an initializer a comma, or the end of the list
abbrev IsEnd : Env → Input → Option (Inits × Bool) → Input → Type 0
IsEnd inner j None k = Reads j k inner (λ z. Sign m.Comma ∷ z)
IsEnd inner j (Some p) k = (p.0 ≡ NoInit) × Reads j k inner (trailed p.1)

end-sound : (inner : Env) (j : Input) → j.names ≡ names_of inner → Post (IsEnd inner j) (inits_end j)
unfolding inits_end
end-sound inner j names = eaten (IsEnd inner j) j inner m.Comma ((λ closed. if closed then Some (NoInit, true) else None) <$> input.asks (sees m.CloseBrace)) (pure (Some (NoInit, false))) names
    (λ k comma. by k comma (sees m.CloseBrace k))
    (λ _. (refl, nothing j inner names))
  where
    by : (k : Input) → Reads j k inner (λ z. Sign m.Comma ∷ z) → (b : Bool) → IsEnd inner j (if b then Some (NoInit, true) else None) k
    by k comma true = (refl, comma)
    by k comma false = comma

inits-sound : (p : Parser Init) → SoundInit p → (env : Env) (i : Input) → i.names ≡ names_of env → Post (IsInits env i) (inits p i)
unfolding inits
inits-sound p sound env i names = repeat-sound IsInits (((λ x more. (Listed x more.0, more.1)) <$> p) >>= λ first. turn_with first <$> inits_end) turn (turns i) env i names
  where
    by : (env : Env) (i j : Input) (f : Inits × Bool → Inits × Bool) → (q : IsListedInit env i f j) → (o : Option (Inits × Bool)) (k : Input) → IsEnd q.inner j o k → IsTurn IsInits env i (turn_with f o) k
    by env i j f q None k c = (q.inner, c.names, q.more k c)
    by env i j f q (Some l) k e = subst (λ v. IsInits env i (f (v, l.1)) k) (sym e.0) (q.last l.1 k e.1)

    item : (env : Env) (i : Input) → i.names ≡ names_of env → Post (IsListedInit env i) (((λ x more. (Listed x more.0, more.1)) <$> p) i)
    item env i names = bind _ (p i) (λ x. pure (λ more. (Listed x more.0, more.1))) (sound env i names) (init-listed env i)

    turn : (env : Env) (i : Input) → i.names ≡ names_of env → Post (IsTurn IsInits env i) ((((λ x more. (Listed x more.0, more.1)) <$> p) >>= λ first. turn_with first <$> inits_end) i)
    turn env i names = bind _ (((λ x more. (Listed x more.0, more.1)) <$> p) i) (λ first. turn_with first <$> inits_end) (item env i names) (λ f j q.
        bind (IsTurn IsInits env i) (inits_end j) (λ o. pure (turn_with f o)) (end-sound q.inner j q.names) (by env i j f q))

braced-whole : (env : Env) (i x y j : Input) (l : Inits × Bool) → Reads i x env (λ z. Sign m.OpenBrace ∷ z) → IsInits env x l y → Reads y j (after_inits env l.0) (λ z. Sign m.CloseBrace ∷ z) → IsInit env i (Braces i.next l.0 l.1) j
unfolding spell_init after_init WellFormedInit NumberedInit
braced-whole env i x y j l t q c = record {
  reads = both t (both q.reads c);
  holds = (q.has, q.holds);
  numbered = (refl, subst (λ v. NumberedInits true v l.0) t.next q.numbered);
}

braced-sound : (p : Parser Init) → SoundInit p → (env : Env) (i : Input) → sees m.OpenBrace i ≡ true → i.names ≡ names_of env → Post (IsInit env i) (braced p i)
unfolding braced
braced-sound p sound env i h names =
    let t = sign i env m.OpenBrace h names in
    bind _ (inits p (step i)) (λ l. expect m.CloseBrace >> pure (Braces i.next l.0 l.1)) (inits-sound p sound env (step i) t.names) (λ l y q.
    expected _ y (after_inits env l.0) m.CloseBrace (pure (Braces i.next l.0 l.1)) q.reads.names (λ j c. braced-whole env i (step i) y j l t q c))

value-whole : (env : Env) (i : Input) (e : Expr) (j : Input) → IsExpr 15 env i e j → IsInit env i (Value e) j
unfolding spell_init after_init WellFormedInit NumberedInit
value-whole env i e j q = record { reads = q.reads; holds = (q.low, q.holds); numbered = q.numbered }

init_of-sound : (limit : ℕ) (p : Parser Init) → SoundInit p → SoundInit (init_of limit p)
unfolding init_of
init_of-sound limit p sound env i names = choose_parser _ (sees m.OpenBrace i) (braced p) (Value <$> (parts limit).expr 15) i
    (λ h. braced-sound p sound env i h names)
    (λ _. bind _ ((parts limit).expr 15 i) (λ e. pure (Value e)) ((parts-sound limit).expr 15 (omega arith) env i names) (λ e j q. value-whole env i e j q))

pub init-sound : (limit depth : ℕ) → SoundInit (init limit depth)
unfolding init
init-sound limit zero env i names = tt
init-sound limit (suc depth) env i names = init_of-sound limit (init limit depth) (init-sound limit depth) env i names

-- an initializer with its `=`, where there is one
pub record IsInitializer (env : Env) (i : Input) (x : Option Initializer) (j : Input) : Type 0 where
  pub reads : Reads i j (after_initializer env x) (spell_initializer x)
  pub holds : WellFormedInitializer env x
  pub numbered : NumberedInitializer i.next x

initializer-sound : (limit : ℕ) (env : Env) (i : Input) → i.names ≡ names_of env → Post (IsInitializer env i) (initializer limit i)
unfolding initializer
initializer-sound limit env i names = choose_parser _ (sees m.Equal i) (input.take_number >>= λ n. init limit limit >>= λ x. pure (Some (record { token = n; init = x }))) (pure None) i
    (λ h. let t = sign i env m.Equal h names in
    bind _ (init limit limit (step i)) (λ x. pure (Some (record { token = i.next; init = x }))) (init-sound limit limit env (step i) t.names) (λ x j q.
    record { reads = both t q.reads; holds = q.holds; numbered = (refl, subst (λ v. NumberedInit v x) t.next q.numbered) }))
    (λ _. record { reads = nothing i env names; holds = tt; numbered = tt })

-- ---- 6.5

-- a declarator behind these specifiers, with its initializer
pub record IsInitDeclarator (ss : Specifiers) (env : Env) (i : Input) (x : InitDeclarator) (j : Input) : Type 0 where
  pub reads : Reads i j (after_initializer (after_name env ss x.declarator) x.initializer) (λ z. spell_declarator x.declarator (spell_initializer x.initializer z))
  pub declares : WellFormedDeclarator env (has_type ss) tree.Named x.declarator
  pub holds : WellFormedInitializer (after_name env ss x.declarator) x.initializer
  pub numbered : NumberedDeclarator i.next x.declarator
  pub behind : NumberedInitializer (past_declarator i.next x.declarator) x.initializer

initialized-sound : (limit : ℕ) (ss : Specifiers) (env : Env) (i x : Input) (d : Declared) → IsDeclarator Named (has_type ss) env i d x → Post (IsInitDeclarator ss env i) (initialized limit (has_typedef ss) d x)
unfolding initialized
initialized-sound limit ss env i x d q =
    bind _ (rules.declare_name d.name (has_typedef ss) x) (λ _. initializer limit >>= λ y. pure (record { declarator = d.tree; initializer = y }))
    (subst (λ v. Post (λ _ j. Reads x j (after_name env ss d.tree) (λ z. z)) (rules.declare_name v (has_typedef ss) x)) (sym (ap (λ v. v.name) q.same)) (declared_name (has_typedef ss) (name_of d.tree) (after_declarator env d.tree) x q.reads.names))
    (λ _ u named. bind _ (initializer limit u) (λ y. pure (record { declarator = d.tree; initializer = y })) (initializer-sound limit (after_name env ss d.tree) u named.names) (λ y j r.
    record {
      reads = both q.reads (both named r.reads);
      declares = q.holds;
      holds = r.holds;
      numbered = q.numbered;
      behind = subst (λ v. NumberedInitializer v y) (omega (arith, q.reads.next, named.next)) r.numbered;
    }))

-- other declarators, each behind a comma
pub record IsOthers (ss : Specifiers) (env : Env) (i : Input) (ds : List InitDeclarator) (j : Input) : Type 0 where
  pub reads : Reads i j (after_init_declarators env ss ds) (spell_init_declarators false ds)
  pub holds : WellFormedInitDeclarators env ss ds
  pub numbered : NumberedInitDeclarators false i.next ds

other-whole : (ss : Specifiers) (env : Env) (i x j : Input) (d : InitDeclarator) → Reads i x env (λ z. Sign m.Comma ∷ z) → IsInitDeclarator ss env x d j → Before (IsOthers ss) env i (λ more. d ∷ more) j
other-whole ss env i x j d t q = (
  after_initializer (after_name env ss d.declarator) d.initializer,
  q.reads.names,
  λ ds k r. record {
    reads = both t (both q.reads r.reads);
    holds = (q.declares, q.holds, r.holds);
    numbered = (
      subst (λ v. NumberedDeclarator v d.declarator) t.next q.numbered,
      subst (λ v. NumberedInitializer (past_declarator v d.declarator) d.initializer) t.next q.behind,
      subst (λ v. NumberedInitDeclarators false v ds) (omega (arith, t.next, q.reads.next, length-declarator d.declarator (spell_initializer d.initializer []))) r.numbered,
    );
  },
)

other-sound : (limit : ℕ) (ss : Specifiers) (env : Env) (i : Input) → i.names ≡ names_of env → Post (IsItem (IsOthers ss) [] env i) (other_declarator limit (has_type ss) (has_typedef ss) i)
unfolding other_declarator init_declarator
other-sound limit ss env i names = eaten _ i env m.Comma ((λ d. Some (λ more. d ∷ more)) <$> init_declarator limit (has_type ss) (has_typedef ss)) (pure None) names
    (λ x t. bind _ (and_then ((parts limit).declarator Named (has_type ss) x) (initialized limit (has_typedef ss))) (λ d. pure (Some (λ more. d ∷ more)))
    (bind (λ d j. Before (IsOthers ss) env i (λ more. d ∷ more) j) ((parts limit).declarator Named (has_type ss) x) (initialized limit (has_typedef ss)) ((parts-sound limit).declarator Named (has_type ss) env x t.names) (λ d y q.
    weaken _ (initialized limit (has_typedef ss) d y) (initialized-sound limit ss env x y d q) (λ d j r. other-whole ss env i x j d t r)))
    (λ d j q. q))
    (λ _. record { reads = nothing i env names; holds = tt; numbered = tt })

others-sound : (limit : ℕ) (ss : Specifiers) (env : Env) (i : Input) → i.names ≡ names_of env → Post (IsOthers ss env i) (while_some [] (other_declarator limit (has_type ss) (has_typedef ss)) i)
others-sound limit ss env i names = while-sound (IsOthers ss) [] (other_declarator limit (has_type ss) (has_typedef ss)) (other-sound limit ss) env i names

-- a declaration from i to j
pub record IsDecl (env : Env) (i : Input) (d : Decl) (j : Input) : Type 0 where
  pub reads : Reads i j (after_decl env d) (spell_decl d)
  pub holds : WellFormedDecl env d
  pub numbered : NumberedDecl i.next d

pub empty-declaration : (env : Env) (i x j : Input) (ss : Specifiers) → IsSpecifiers true env i ss x → HasSpecifier ss → Reads x j (after_specifiers env ss) (λ z. Sign m.Semicolon ∷ z) → IsDecl env i (record { specifiers = ss; declarators = [] }) j
empty-declaration env i x j ss q has c = record { reads = both q.reads c; holds = (has, q.holds, tt); numbered = (q.numbered, tt) }

whole-declaration : (env : Env) (i x y u j : Input) (ss : Specifiers) (d : InitDeclarator) (ds : List InitDeclarator) → IsSpecifiers true env i ss x → HasSpecifier ss → IsInitDeclarator ss (after_specifiers env ss) x d y
    → IsOthers ss (after_initializer (after_name (after_specifiers env ss) ss d.declarator) d.initializer) y ds u → Reads u j (after_init_declarators (after_specifiers env ss) ss (d ∷ ds)) (λ z. Sign m.Semicolon ∷ z)
    → IsDecl env i (record { specifiers = ss; declarators = d ∷ ds }) j
whole-declaration env i x y u j ss d ds q has r s c = record {
  reads = both q.reads (both r.reads (both s.reads c));
  holds = (has, q.holds, (r.declares, r.holds, s.holds));
  numbered = (
    q.numbered,
    (
      subst (λ v. NumberedDeclarator v d.declarator) q.reads.next r.numbered,
      subst (λ v. NumberedInitializer (past_declarator v d.declarator) d.initializer) q.reads.next r.behind,
      subst (λ v. NumberedInitDeclarators false v ds) (omega (arith, q.reads.next, r.reads.next, length-declarator d.declarator (spell_initializer d.initializer []))) s.numbered,
    ),
  );
}

-- a declaration from its first declarator's initializer on
pub declaration_with-sound : (limit : ℕ) (env : Env) (i x y : Input) (ss : Specifiers) (d : Declared) → IsSpecifiers true env i ss x → HasSpecifier ss → IsDeclarator Named (has_type ss) (after_specifiers env ss) x d y → Post (IsDecl env i) (declaration_with limit ss d y)
unfolding declaration_with init_declarators
declaration_with-sound limit env i x y ss d q has r =
    bind _ (initialized limit (has_typedef ss) d y) (λ first. init_declarators limit (has_type ss) (has_typedef ss) first >>= λ all. expect m.Semicolon >> pure (record { specifiers = ss; declarators = all })) (initialized-sound limit ss (after_specifiers env ss) x y d r) (λ first u s.
    let env1 = after_initializer (after_name (after_specifiers env ss) ss first.declarator) first.initializer in
    bind _ (and_then (while_some [] (other_declarator limit (has_type ss) (has_typedef ss)) u) (λ others. pure (first ∷ others))) (λ all. expect m.Semicolon >> pure (record { specifiers = ss; declarators = all }))
    (bind (λ all k. (others : List InitDeclarator) × (all ≡ first ∷ others) × IsOthers ss env1 u others k) (while_some [] (other_declarator limit (has_type ss) (has_typedef ss)) u) (λ others. pure (first ∷ others)) (others-sound limit ss env1 u s.reads.names) (λ others k p. (others, refl, p)))
    (λ all k p. subst (λ v. Post (IsDecl env i) ((expect m.Semicolon >> pure (record { specifiers = ss; declarators = v })) k)) (sym p.1)
    (expected _ k (after_init_declarators env1 ss p.0) m.Semicolon (pure (record { specifiers = ss; declarators = first ∷ p.0 })) p.2.reads.names (λ j c. whole-declaration env i x u k j ss first p.0 q has s p.2 c))))

pub declaration-sound : (limit : ℕ) (env : Env) (i : Input) → i.names ≡ names_of env → Post (IsDecl env i) (declaration limit i)
unfolding declaration
declaration-sound limit env i names =
    bind _ (some_specifiers (parts limit) true i) (λ ss. input.eat m.Semicolon >>= λ is_done. if is_done then pure (record { specifiers = ss; declarators = [] }) else ((parts limit).declarator Named (has_type ss) >>= declaration_with limit ss)) (some_specifiers-sound (parts limit) (parts-sound limit) true env i names) (λ ss x q.
    eaten _ x (after_specifiers env ss) m.Semicolon (pure (record { specifiers = ss; declarators = [] })) ((parts limit).declarator Named (has_type ss) >>= declaration_with limit ss) q.0.reads.names
    (λ j c. empty-declaration env i x j ss q.0 q.1 c)
    (λ _. bind _ ((parts limit).declarator Named (has_type ss) x) (declaration_with limit ss) ((parts-sound limit).declarator Named (has_type ss) (after_specifiers env ss) x q.0.reads.names) (λ d y r.
    declaration_with-sound limit env i x y ss d q.0 q.1 r)))

-- declarations from i to j
pub record IsDecls (env : Env) (i : Input) (ds : List Decl) (j : Input) : Type 0 where
  pub reads : Reads i j (after_decls env ds) (spell_decls ds)
  pub holds : WellFormedDecls env ds
  pub numbered : NumberedDecls i.next ds

declaration-before : (env : Env) (i : Input) (d : Decl) (j : Input) → IsDecl env i d j → Before IsDecls env i (λ more. d ∷ more) j
declaration-before env i d j q = (
  after_decl env d,
  q.reads.names,
  λ ds k r. record {
    reads = both q.reads r.reads;
    holds = (q.holds, r.holds);
    numbered = (q.numbered, subst (λ v. NumberedDecls v ds) q.reads.next r.numbered);
  },
)

declaration_next-sound : (limit : ℕ) (labels : Bool) (env : Env) (i : Input) → i.names ≡ names_of env → Post (IsItem IsDecls [] env i) (declaration_next limit labels i)
unfolding declaration_next
declaration_next-sound limit labels env i names = choose_parser _ (begins_declaration labels i) ((λ d. Some (λ more. d ∷ more)) <$> declaration limit) (pure None) i
    (λ _. bind _ (declaration limit i) (λ d. pure (Some (λ more. d ∷ more))) (declaration-sound limit env i names) (declaration-before env i))
    (λ _. record { reads = nothing i env names; holds = tt; numbered = tt })

pub declarations-sound : (limit : ℕ) (labels : Bool) (env : Env) (i : Input) → i.names ≡ names_of env → Post (IsDecls env i) (declarations limit labels i)
unfolding declarations
declarations-sound limit labels env i names = while-sound IsDecls [] (declaration_next limit labels) (declaration_next-sound limit labels) env i names
