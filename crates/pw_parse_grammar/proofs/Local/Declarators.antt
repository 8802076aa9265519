-- Declarators in two texts that are one up to a place (6.5.4, 6.5.5).
use Rattle.std.proofs.Common.{◌≡◌, ℕ, zero, suc, ◌≤◌, Bool, true, false, not, ◌&&◌, if◌then◌else◌, is_some, List, ◌∷◌, length, Option, Some, None, arith, subst}
use Rattle.std.specs.Option.{option_or}
use Rattle.pw_tree.specs.Symbols.{Symbol, Sign, Identifier}
use Rattle.pw_tree.specs.Trees.{Declaring, NoSuffix, Pointer}
use Rattle.pw_token.specs.declared.symbol.Mark.TheVariants as m
use Rattle.pw_parse_grammar.specs.declared.place.Place.{Place}
use Rattle.pw_parse_grammar.specs.declared.place.Place.TheVariants.{Named, Nameless, Either}
use Rattle.pw_parse_grammar.specs.Declarators.{parameter_list, suffix, suffixes, Behind, Cored, needs_name, may_be_enclosed, absent, may_be_absent, enclosed, core_by, core, declarator_of}
use Rattle.pw_parse_grammar.specs.Input.{Binding, Parser, and_then, ◌>>=◌, ◌<$>◌, pure, ahead, step, Turn, turns, repeat, turn_of, is_typedef_name}
use Rattle.pw_parse_grammar.specs.Parts.{Parts, Declared}
use Rattle.pw_parse_grammar.specs.Tests.{opens_parameters}
use Rattle.pw_parse_grammar.proofs.Trees.Base.{no_turns}
use Rattle.pw_parse_grammar.proofs.Progress.Base.{Left, Forward, ForwardParts, forward-rules, left-bind, go_on-left, repeat-left}
use Rattle.pw_parse_grammar.proofs.Progress.Declarators.{prototype-left, listed-left, suffix-left, suffixes-left, enclosed-left, core-left}
use Rattle.pw_parse_grammar.proofs.Local.Base.{input, near-cases, Near, gone, more, Agree, passed, answers, faults, fault-at, Local, local-rules, agree-bind, agree-higher, agree-parser-if, asked}
use Rattle.pw_parse_grammar.proofs.Local.Tests.{may_be_enclosed-steady, opens_parameters-steady}
use Rattle.pw_parse_grammar.proofs.Local.Parts.{LocalParts, declarator-at}
use Rattle.pw_parse_grammar.proofs.Local.Suffixes.{pointers-local, suffixes-local}

-- ---- a `(` at the beginning of suffixes is read

module _ (parts : Parts) (part : ForwardParts parts) where
  list-paren : (named : Bool) (names : List Binding) (n : ℕ) (s : Option Symbol) (t : List (Option Symbol)) → Left (length t) (parameter_list parts named (input names (s ∷ t) n))
  unfolding parameter_list step
  list-paren named names n s t = let h : length t ≤ length t = omega arith in search (forward-rules, h, prototype-left parts part, listed-left parts part) depth 8 fits 3000

  suffix-paren : (named : Bool) (names : List Binding) (n : ℕ) (t : List (Option Symbol)) → Left (length t) (suffix parts named (input names (Some (Sign m.OpenParen) ∷ t) n))
  unfolding suffix ahead
  suffix-paren named names n t = left-bind (list-paren named names n (Some (Sign m.OpenParen)) t) (λ f j h. search forward-rules)

  turns-paren : (named : Bool) (k : ℕ) → 1 ≤ k → (names : List Binding) (n : ℕ) (t : List (Option Symbol)) → Left (length t) (repeat (turn_of (NoSuffix, None) <$> suffix parts named) k (input names (Some (Sign m.OpenParen) ∷ t) n))
  unfolding repeat
  turns-paren named zero h names n t = no_turns h
  turns-paren named (suc k) h names n t = left-bind (left-bind (suffix-paren named names n t) (λ f j h. search forward-rules))
      (λ x j h. go_on-left (repeat turn k) (repeat-left turn (λ n i h. search (forward-rules, suffix-left parts part)) k) x (length t) j h)
    where
      turn : Parser (Turn Behind)
      turn = turn_of (NoSuffix, None) <$> suffix parts named

  suffixes-paren : (named : Bool) (names : List Binding) (n : ℕ) (t : List (Option Symbol)) → Left (length t) (suffixes parts named (input names (Some (Sign m.OpenParen) ∷ t) n))
  unfolding suffixes
  suffixes-paren named names n t = turns-paren named (turns (input names (Some (Sign m.OpenParen) ∷ t) n)) (omega arith) names n t

  core-paren : (place : Place) (typed : Bool) (names : List Binding) (n : ℕ) (s : Option Symbol) (t : List (Option Symbol)) → Left (length t) (enclosed parts place typed (input names (s ∷ t) n))
  unfolding enclosed step
  core-paren place typed names n s t = let h : length t ≤ length t = omega arith in search (forward-rules, h, part.declarator) depth 8 fits 3000

module _ (r w : List (Option Symbol)) (d : ℕ) (parts parts' : Parts) (g : LocalParts r w d parts parts') where
  enclosed-strict : (place : Place) (typed : Bool) → Local r w (suc d) (λ _. d) (enclosed parts place typed) (enclosed parts' place typed)
  unfolding enclosed step
  enclosed-strict place typed names n t t' gone = passed (enclosed-left parts g.left place typed (length r) (input names r n) (omega arith))
  enclosed-strict place typed names n t t' (more s h) =
      search (local-rules, fault-at r w d, agree-bind r w d, asked r w d (may_be_enclosed place typed) (may_be_enclosed-steady place typed), declarator-at g, g.left.declarator) depth 9 fits 4000

may_be_absent-local : (r w : List (Option Symbol)) (d : ℕ) (place : Place) → Local r w d (λ _. d) (may_be_absent place) (may_be_absent place)
may_be_absent-local r w d Named names n t t' h = faults h
may_be_absent-local r w d Nameless names n t t' h = answers h
may_be_absent-local r w d Either names n t t' h = answers h

-- ---- a core and what stands behind it

module _ (r w : List (Option Symbol)) (d : ℕ) (parts parts' : Parts) (g : LocalParts r w d parts parts') (place : Place) (typed : Bool) {A : Type 0} (f f' : Cored → Parser A) (left : (c : Cored) → Forward (f c))
    (local : (c : Cored) → Local r w (suc d) (λ _. suc d) (f c) (f' c)) (paren : (c : Cored) (names : List Binding) (n : ℕ) → Left (length r) (f c (input names (Some (Sign m.OpenParen) ∷ r) n))) where
  -- where a `(` stands right before the place, it is read
  paren-last : (names : List Binding) (n : ℕ) (b : Bool) → Left (length r) (and_then ((if b then pure absent else enclosed parts place typed) (input names (Some (Sign m.OpenParen) ∷ r) n)) f)
  paren-last names n true = paren absent names n
  paren-last names n false = left-bind (core-paren parts g.left place typed names n (Some (Sign m.OpenParen)) r) (λ c j h. left c (length r) j h)

  name-core : (x : List ℕ) (names : List Binding) (n : ℕ) (t t' : List (Option Symbol)) → Near r w d t t' → Agree r w (λ _. suc d) (core_by parts place typed (Some (Identifier x)) (input names (Some (Identifier x) ∷ t) n)) (core_by parts' place typed (Some (Identifier x)) (input names (Some (Identifier x) ∷ t') n))
  unfolding step is_typedef_name
  name-core x names n t t' h = search (local-rules, more, may_be_absent-local r w (suc d))

  paren-core : (s : Option Symbol) (names : List Binding) (n : ℕ) (t t' : List (Option Symbol)) → Near r w (suc d) (s ∷ t) (s ∷ t')
      → opens_parameters (input names (s ∷ t) n) ≡ opens_parameters (input names (s ∷ t') n)
      → Agree r w (λ _. suc d) (core_by parts place typed (Some (Sign m.OpenParen)) (input names (s ∷ t) n)) (core_by parts' place typed (Some (Sign m.OpenParen)) (input names (s ∷ t') n))
  paren-core s names n t t' h e =
      subst (λ b. Agree r w (λ _. suc d) (core_by parts place typed (Some (Sign m.OpenParen)) (input names (s ∷ t) n)) ((if not (needs_name place) && b then pure absent else enclosed parts' place typed) (input names (s ∷ t') n))) e
      (agree-parser-if (not (needs_name place) && opens_parameters (input names (s ∷ t) n)) (pure absent) (enclosed parts place typed) (pure absent) (enclosed parts' place typed) (input names (s ∷ t) n) (input names (s ∷ t') n)
      (answers h) (agree-higher (enclosed-strict r w d parts parts' g place typed names n (s ∷ t) (s ∷ t') h)))

  behind : (s : Option Symbol) (names : List Binding) (n : ℕ) (t t' : List (Option Symbol)) → Agree r w (λ _. suc d) (core_by parts place typed s (input names (s ∷ t) n)) (core_by parts' place typed s (input names (s ∷ t') n))
      → Agree r w (λ _. suc d) (and_then (core_by parts place typed s (input names (s ∷ t) n)) f) (and_then (core_by parts' place typed s (input names (s ∷ t') n)) f')
  behind s names n t t' h = agree-bind r w (suc d) f' h (λ c names n t t' h. local c names n t t' h) left

  paren-then : (names : List Binding) (n : ℕ) (t t' : List (Option Symbol)) → Near r w d t t'
      → Agree r w (λ _. suc d) (and_then (core_by parts place typed (Some (Sign m.OpenParen)) (input names (Some (Sign m.OpenParen) ∷ t) n)) f) (and_then (core_by parts' place typed (Some (Sign m.OpenParen)) (input names (Some (Sign m.OpenParen) ∷ t') n)) f')
  paren-then names n t t' h =
      near-cases
      (λ t t'. Near r w d t t' → Agree r w (λ _. suc d) (and_then (core_by parts place typed (Some (Sign m.OpenParen)) (input names (Some (Sign m.OpenParen) ∷ t) n)) f) (and_then (core_by parts' place typed (Some (Sign m.OpenParen)) (input names (Some (Sign m.OpenParen) ∷ t') n)) f'))
      h
      (λ _. passed (paren-last names n (not (needs_name place) && opens_parameters (input names (Some (Sign m.OpenParen) ∷ r) n))))
      (λ s u u' h. behind (Some (Sign m.OpenParen)) names n (s ∷ u) (s ∷ u') (paren-core (Some (Sign m.OpenParen)) names n (s ∷ u) (s ∷ u') (more (Some (Sign m.OpenParen)) h) (opens_parameters-steady names n (Some (Sign m.OpenParen)) s u u')))
      h

  core-by-then : (s : Option Symbol) (names : List Binding) (n : ℕ) (t t' : List (Option Symbol)) → Near r w d t t'
      → Agree r w (λ _. suc d) (and_then (core_by parts place typed s (input names (s ∷ t) n)) f) (and_then (core_by parts' place typed s (input names (s ∷ t') n)) f')
  core-by-then (Some (Identifier x)) names n t t' h = behind (Some (Identifier x)) names n t t' (name-core x names n t t' h)
  core-by-then (Some (Sign m.OpenParen)) names n t t' h = paren-then names n t t' h
  core-by-then None names n t t' h = behind None names n t t' (may_be_absent-local r w (suc d) place names n (None ∷ t) (None ∷ t') (more None h))
  core-by-then (Some s) names n t t' h = behind (Some s) names n t t' (may_be_absent-local r w (suc d) place names n (Some s ∷ t) (Some s ∷ t') (more (Some s) h))

  pub core-then : Local r w (suc d) (λ _. suc d) (core parts place typed >>= f) (core parts' place typed >>= f')
  unfolding core ahead
  core-then names n t t' gone = passed (left-bind (core-left parts g.left place typed (length r) (input names r n) (omega arith)) (λ c j h. left c (length r) j h))
  core-then names n t t' (more s h) = core-by-then s names n _ _ h

-- ---- declarators

module _ (r w : List (Option Symbol)) (d : ℕ) (parts parts' : Parts) (g : LocalParts r w d parts parts') (place : Place) (typed : Bool) where
  abbrev behind_core : Parts → List Pointer → Cored → Parser Declared
  behind_core parts ps c = suffixes parts (is_some c.name) >>= λ fs. pure (record { tree = Declaring ps c.core fs.0; name = c.name; behind = option_or c.behind fs.1 })

  behind_core-left : (ps : List Pointer) (c : Cored) → Forward (behind_core parts ps c)
  behind_core-left ps c n i h = search (forward-rules, suffixes-left parts g.left)

  cored : (ps : List Pointer) → Local r w (suc d) (λ _. suc d) (core parts place typed >>= behind_core parts ps) (core parts' place typed >>= behind_core parts' ps)
  cored ps = core-then r w d parts parts' g place typed (behind_core parts ps) (behind_core parts' ps) (behind_core-left ps)
      (λ c names n t t' h. agree-bind r w (suc d) _ (suffixes-local r w d parts parts' g (is_some c.name) names n t t' h) (λ fs names n t t' h. answers h) (λ fs n i h. search forward-rules))
      (λ c names n. left-bind (suffixes-paren parts g.left (is_some c.name) names n r) (λ fs j h. search forward-rules))

  pub declarator_of-local : Local r w (suc d) (λ _. suc d) (declarator_of parts place typed) (declarator_of parts' place typed)
  unfolding declarator_of
  declarator_of-local names n t t' h = agree-bind r w (suc d) _ (pointers-local r w (suc d) names n t t' h) (λ ps names n t t' h. cored ps names n t t' h)
      (λ ps n i h. left-bind (core-left parts g.left place typed n i h) (λ c j h. behind_core-left ps c n j h))
