-- Initializers and declarations in two texts that are one up to a place (6.5, 6.5.7).
use Rattle.std.proofs.Common.{◌≡◌, ℕ, zero, suc, ◌+◌, ◌≤◌, Bool, true, false, not, ◌&&◌, if◌then◌else◌, List, [], ◌∷◌, length, Option, Some, None, arith, refl, subst}
use Rattle.pw_tree.specs.Symbols.{Symbol, Identifier}
use Rattle.pw_tree.specs.Trees.{Specifiers, Init, Inits, NoInit, Listed, Initializer, InitDeclarator, Decl}
use Rattle.pw_token.specs.declared.symbol.Mark.TheVariants as m
use Rattle.pw_parse_grammar.specs.Declarations.{parts, inits_end, inits, braced, init_of, init, initializer, initialized, init_declarator, other_declarator, init_declarators, declaration_with, declaration, declaration_next, declarations}
use Rattle.pw_parse_grammar.specs.Input.{Binding, Parser, ◌>>=◌, ◌<$>◌, pure, ahead, asks, step, sees, is_typedef_name}
use Rattle.pw_parse_grammar.specs.Expressions.{some_specifiers}
use Rattle.pw_parse_grammar.specs.Parts.{Declared}
use Rattle.pw_parse_grammar.specs.Tests.{begins_declaration, begins_specifier, opens_label}
use Rattle.pw_parse_grammar.proofs.Trees.Base.{no_turns}
use Rattle.pw_parse_grammar.proofs.Progress.Base.{Left, Forward, forward-rules, left-bind}
use Rattle.pw_parse_grammar.proofs.Progress.Declarations.{parts-left, inits_end-left, braced-left, init-left, initializer-left, initialized-left, init_declarator-left, other_declarator-left, init_declarators-left, declaration_with-left, declaration-left, declaration_next-left}
use Rattle.pw_parse_grammar.proofs.Local.Base.{input, near-cases, Near, gone, more, Agree, passed, answers, Local, local-rules, agree-bind, agree-parser-if, agree-higher, asked, asked-answer, sees-steady, eaten-strict, took, expect-strict}
use Rattle.pw_parse_grammar.proofs.Local.Tests.{begins_declaration-steady, begins_declaration-steady_on_two, begins_declaration-one}
use Rattle.pw_parse_grammar.proofs.Local.Lists.{item_bound, end_bound, while-local, items-local}
use Rattle.pw_parse_grammar.proofs.Local.Parts.{LocalParts, narrow, expr-at, declarator-at}
use Rattle.pw_parse_grammar.proofs.Local.Expressions.{some_specifiers-local}
use Rattle.pw_parse_grammar.proofs.Local.Suffixes.{declare_name-local, agree-end}
use Rattle.pw_parse_grammar.proofs.Local.Knot.{at-place, parts-typed, parts-local}
use Rattle.pw_parse_grammar.proofs.Local.Names.{Upto, Settles, settled, open_name, while-upto}

-- ---- initializers

abbrev closes : Parser (Option (Inits × Bool))
closes = (λ closed. if closed then Some (NoInit, true) else None) <$> asks (sees m.CloseBrace)

closes-local : (r w : List (Option Symbol)) (d : ℕ) → Local r w d (λ _. d) closes closes
closes-local r w d = asked-answer r w d (sees m.CloseBrace) (sees-steady m.CloseBrace) (Some (NoInit, true)) None

inits_end-item : (r w : List (Option Symbol)) (d : ℕ) → Local r w (suc d) (end_bound d) inits_end inits_end
unfolding inits_end
inits_end-item r w d names n t t' h = eaten-strict r w d m.Comma closes (pure (Some (NoInit, false))) closes (pure (Some (NoInit, false))) names n t t' h
    inits_end-left (λ u u' k. agree-end (closes-local r w d names (n + 1) u u' k)) (answers h)

module _ (r w : List (Option Symbol)) (d : ℕ) (init init' : Parser Init) (left : Forward init) (local : (k : ℕ) → k ≤ d → Local r w k (λ _. k) init init') where
  inits-local : Local r w d (λ _. d) (inits init) (inits init')
  unfolding inits
  inits-local = items-local r w ((λ x more. (Listed x more.0, more.1)) <$> init) ((λ x more. (Listed x more.0, more.1)) <$> init') inits_end inits_end (λ n i h. search (forward-rules, left)) inits_end-left d
      (λ j c names n t t' h. agree-bind r w (suc j) _ (local (suc j) c names n t t' h) (λ x names n t t' h. answers h) (λ x n i h. search forward-rules)) (λ j c. inits_end-item r w j)

  braced-strict : Local r w (suc d) (λ _. d) (braced init) (braced init')
  unfolding braced step
  braced-strict names n t t' gone = passed (braced-left init left (length r) (input names r n) (omega arith))
  braced-strict names n t t' (more s h) = agree-bind r w d _ (inits-local names (n + 1) _ _ h) (λ items names n t t' h. search (local-rules, agree-bind r w d)) (λ items n i h. search forward-rules)

  init_of-local : (limit limit' : ℕ) → LocalParts r w (suc d) (parts limit) (parts limit') → Local r w (suc d) (λ _. suc d) (init_of limit init) (init_of limit' init')
  unfolding init_of
  init_of-local limit limit' g names n t t' h =
      search (local-rules, agree-higher (braced-strict names n t t' h), agree-bind r w (suc d), asked r w (suc d) (sees m.OpenBrace) (sees-steady m.OpenBrace), braced-left init left, expr-at g, g.left.expr)

init-at : (r w : List (Option Symbol)) (limit limit' depth depth' m : ℕ) → ((j : ℕ) → j ≤ m → Local r w j (λ _. j) (init limit depth) (init limit' depth')) → LocalParts r w (suc m) (parts limit) (parts limit')
    → (k : ℕ) → k ≤ suc m → Local r w k (λ _. k) (init limit (suc depth)) (init limit' (suc depth'))
unfolding init
init-at r w limit limit' depth depth' m smaller g zero c = at-place r w 0 (init limit (suc depth)) (init limit' (suc depth')) (init-left limit (suc depth)) (omega arith)
init-at r w limit limit' depth depth' m smaller g (suc k) c = init_of-local r w k (init limit depth) (init limit' depth') (init-left limit depth) (λ j e. smaller j (omega (arith, e, c))) limit limit' (narrow (suc k) c g)

init-local : (r w : List (Option Symbol)) (limit limit' m : ℕ) → LocalParts r w m (parts limit) (parts limit') → (depth depth' : ℕ) → m ≤ depth → m ≤ depth' → (k : ℕ) → k ≤ m → Local r w k (λ _. k) (init limit depth) (init limit' depth')
init-local r w limit limit' zero g depth depth' e e' k c = at-place r w k (init limit depth) (init limit' depth') (init-left limit depth) c
init-local r w limit limit' (suc m) g zero depth' e e' k c = no_turns e
init-local r w limit limit' (suc m) g (suc depth) zero e e' k c = no_turns e'
init-local r w limit limit' (suc m) g (suc depth) (suc depth') e e' k c = init-at r w limit limit' depth depth' m (init-local r w limit limit' m (narrow m (omega arith) g) depth depth' (omega (arith, e)) (omega (arith, e'))) g k c

-- ---- declarations

-- a declaration before others
abbrev listed : ℕ → Parser (Option (List Decl → List Decl))
listed limit = (λ d. Some (λ more. d ∷ more)) <$> declaration limit

-- a declaration reads a typedef name that stands at its beginning
declaration-typed : (limit : ℕ) → 1 ≤ limit → (r : List (Option Symbol)) (names : List Binding) (n : ℕ) (x : List ℕ) → is_typedef_name (input names r n) x ≡ true → Left (length r) (declaration limit (input names (Some (Identifier x) ∷ r) n))
unfolding declaration some_specifiers
declaration-typed limit c r names n x e =
    left-bind (left-bind (parts-typed limit c true names n x r e) (λ ss j h. search forward-rules)) (λ ss j h. search (forward-rules, (parts-left limit).declarator, declaration_with-left))

abbrev initialized_by : ℕ → ℕ → Parser (Option Initializer)
initialized_by limit n = init limit limit >>= λ x. pure (Some (record { token = n; init = x }))

module _ (r w : List (Option Symbol)) (limit limit' d : ℕ) (c : d ≤ limit) (c' : d ≤ limit') where
  initializer-local : Local r w d (λ _. d) (initializer limit) (initializer limit')
  unfolding initializer
  initializer-local names n t t' h = asked r w d (sees m.Equal) (sees-steady m.Equal) _ _ _ _ names n t t' h (search (forward-rules, init-left))
      (took r w d (initialized_by limit) (initialized_by limit') names n t t' h (search (forward-rules, init-left)) (λ u u' k.
      agree-bind r w d _ (init-local r w limit limit' d (parts-local r w d limit limit' c c') limit limit' c c' d (omega arith) names (n + 1) u u' k) (λ x names n t t' h. answers h) (λ x n i h. search forward-rules)))
      (answers h)

  initialized-local : (is_typedef : Bool) (x : Declared) → Local r w d (λ _. d) (initialized limit is_typedef x) (initialized limit' is_typedef x)
  unfolding initialized
  initialized-local is_typedef x names n t t' h = search (local-rules, agree-bind r w d, declare_name-local r w d, initializer-local, initializer-left)

  init_declarator-local : (typed is_typedef : Bool) → Local r w d (λ _. d) (init_declarator limit typed is_typedef) (init_declarator limit' typed is_typedef)
  unfolding init_declarator
  init_declarator-local typed is_typedef names n t t' h = search (local-rules, agree-bind r w d, declarator-at (parts-local r w d limit limit' c c'), initialized-local, initialized-left)

  other_declarator-item : (typed is_typedef : Bool) → Local r w (suc d) (item_bound d) (other_declarator limit typed is_typedef) (other_declarator limit' typed is_typedef)
  unfolding other_declarator
  other_declarator-item typed is_typedef names n t t' h = search (local-rules, agree-bind r w d, eaten-strict r w d m.Comma, init_declarator-local, init_declarator-left)

module _ (r w : List (Option Symbol)) (limit limit' d : ℕ) (c : d ≤ limit) (c' : d ≤ limit') where
  init_declarators-local : (typed is_typedef : Bool) (first : InitDeclarator) → Local r w d (λ _. d) (init_declarators limit typed is_typedef first) (init_declarators limit' typed is_typedef first)
  unfolding init_declarators
  init_declarators-local typed is_typedef first names n t t' h =
      agree-bind r w d _ (while-local r w [] (other_declarator limit typed is_typedef) (other_declarator limit' typed is_typedef) (other_declarator-left limit typed is_typedef) d
      (λ j e. other_declarator-item r w limit limit' j (omega (arith, e, c)) (omega (arith, e, c')) typed is_typedef) names n t t' h) (λ others names n t t' h. answers h) (λ others n i h. search forward-rules)

module _ (r w : List (Option Symbol)) (limit limit' d : ℕ) (c : suc d ≤ limit) (c' : suc d ≤ limit') where
  pub declaration_with-strict : (ss : Specifiers) (x : Declared) → Local r w (suc d) (λ _. d) (declaration_with limit ss x) (declaration_with limit' ss x)
  unfolding declaration_with
  declaration_with-strict ss x names n t t' h =
      search (local-rules, agree-bind r w (suc d), agree-bind r w d, expect-strict r w d, initialized-local r w limit limit' (suc d) c c', init_declarators-local r w limit limit' (suc d) c c', init_declarators-left)

  declaration-strict : Local r w (suc d) (λ _. d) (declaration limit) (declaration limit')
  unfolding declaration
  declaration-strict names n t t' h = agree-bind r w (suc d) _ (some_specifiers-local r w (suc d) (parts limit) (parts limit') (parts-local r w (suc d) limit limit' c c') true names n t t' h)
      (λ ss names n t t' h. search (local-rules, eaten-strict r w d m.Semicolon, agree-bind r w (suc d), declarator-at (parts-local r w (suc d) limit limit' c c'), (parts-left limit).declarator, declaration_with-strict, declaration_with-left))
      (λ ss n i h. search (forward-rules, (parts-left limit).declarator, declaration_with-left))

  listed-strict : Local r w (suc d) (item_bound d) (listed limit) (listed limit')
  listed-strict names n t t' h = agree-bind r w d _ (declaration-strict names n t t' h) (λ x names n t t' h. answers h) (λ x n i h. search forward-rules)

  listed-left : Forward (listed limit)
  listed-left n i h = search (forward-rules, declaration-left)

  -- where no statement may stand
  declaration_next-item : Local r w (suc d) (item_bound d) (declaration_next limit false) (declaration_next limit' false)
  unfolding declaration_next
  declaration_next-item names n t t' h = search (local-rules, asked r w (suc d) (begins_declaration false) begins_declaration-steady, listed-strict, listed-left)

  -- ---- in a block, where a typedef name with a `:` behind it is a label

  same-test : (names : List Binding) (n : ℕ) (t t' : List (Option Symbol)) → Near r w (suc d) t t' → begins_declaration true (input names t n) ≡ begins_declaration true (input names t' n)
      → Agree r w (item_bound d) (declaration_next limit true (input names t n)) (declaration_next limit' true (input names t' n))
  unfolding declaration_next
  same-test names n t t' h e =
      let i = input names t n in
      let i' = input names t' n in
      subst (λ b. Agree r w (item_bound d) ((if begins_declaration true i then listed limit else pure None) i) ((if b then listed limit' else pure None) i')) e
      (agree-parser-if (begins_declaration true i) (listed limit) (pure None) (listed limit') (pure None) i i' (listed-strict names n t t' h) (answers h))

  abbrev listed_where : ℕ → Bool → Parser (Option (List Decl → List Decl))
  listed_where count b = if b then listed count else pure None

  name-last : (x : List ℕ) (names : List Binding) (n : ℕ) (typed : Bool) → is_typedef_name (input names r n) x ≡ typed → (a a' : Bool)
      → Settles r w true d (listed_where limit (typed && not a) (input names (Some (Identifier x) ∷ r) n)) (listed_where limit' (typed && not a') (input names (Some (Identifier x) ∷ w) n))
  name-last x names n true e true a' = open_name e
  name-last x names n true e false a' = settled (passed (left-bind (declaration-typed limit (omega (arith, c)) r names n x e) (λ x j h. search forward-rules)))
  name-last x names n false e a a' = settled (answers (more (Some (Identifier x)) gone))

  next-last : (s : Option Symbol) (names : List Binding) (n : ℕ) → Settles r w true d (declaration_next limit true (input names (s ∷ r) n)) (declaration_next limit' true (input names (s ∷ w) n))
  unfolding declaration_next begins_declaration begins_specifier opens_label ahead sees step is_typedef_name
  next-last (Some (Identifier x)) names n = name-last x names n (is_typedef_name (input names r n) x) refl (sees m.Colon (input names r n)) (sees m.Colon (input names w n))
  next-last None names n = settled (same-test names n (None ∷ r) (None ∷ w) (more None gone) (begins_declaration-one names n None r w refl))
  next-last (Some s) names n = settled (same-test names n (Some s ∷ r) (Some s ∷ w) (more (Some s) gone) (begins_declaration-one names n (Some s) r w refl))

  next-by : (s : Option Symbol) (names : List Binding) (n : ℕ) (t t' : List (Option Symbol)) → Near r w d t t' → Settles r w true d (declaration_next limit true (input names (s ∷ t) n)) (declaration_next limit' true (input names (s ∷ t') n))
  next-by s names n t t' h =
      near-cases (λ t t'. Near r w d t t' → Settles r w true d (declaration_next limit true (input names (s ∷ t) n)) (declaration_next limit' true (input names (s ∷ t') n))) h
      (λ _. next-last s names n)
      (λ s' u u' k. settled (same-test names n (s ∷ s' ∷ u) (s ∷ s' ∷ u') (more s k) (begins_declaration-steady_on_two names n s s' u u')))
      h

  next-settles : (names : List Binding) (n : ℕ) (t t' : List (Option Symbol)) → Near r w (suc d) t t' → Settles r w true d (declaration_next limit true (input names t n)) (declaration_next limit' true (input names t' n))
  next-settles names n t t' gone = settled (passed (declaration_next-left limit true (length r) (input names r n) (omega arith)))
  next-settles names n t t' (more s h) = next-by s names n _ _ h

module _ (r w : List (Option Symbol)) (limit limit' d : ℕ) (c : d ≤ limit) (c' : d ≤ limit') where
  -- the declarations of a function's parameters
  pub declarations-local : Local r w d (λ _. d) (declarations limit false) (declarations limit' false)
  unfolding declarations
  declarations-local = while-local r w [] (declaration_next limit false) (declaration_next limit' false) (declaration_next-left limit false) d (λ j e. declaration_next-item r w limit limit' j (omega (arith, e, c)) (omega (arith, e, c')))

  -- those of a block
  pub declarations-upto : (names : List Binding) (n : ℕ) (t t' : List (Option Symbol)) → Near r w d t t' → Upto r w true d (declarations limit true (input names t n)) (declarations limit' true (input names t' n))
  unfolding declarations
  declarations-upto = while-upto r w true [] (declaration_next limit true) (declaration_next limit' true) (declaration_next-left limit true) d (λ j e. next-settles r w limit limit' j (omega (arith, e, c)) (omega (arith, e, c')))
