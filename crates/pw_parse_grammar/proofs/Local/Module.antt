-- Translation units in two texts that are one up to a place (6.7).
use Rattle.std.proofs.Common.{◌≡◌, ℕ, suc, ◌+◌, ◌≤◌, Bool, true, not, ◌&&◌, List, [], ◌∷◌, ◌++◌, length, Option, Some, None, Ok, Err, arith, ap, subst}
use Rattle.pw_tree.specs.Scopes.{has_type}
use Rattle.pw_tree.specs.Symbols.{Symbol}
use Rattle.pw_tree.specs.Trees.{Specifiers, Module}
use Rattle.pw_token.specs.declared.symbol.Mark.TheVariants as m
use Rattle.pw_parse_grammar.specs.declared.place.Place.TheVariants.{Named}
use Rattle.pw_parse_grammar.specs.Input.{Input, Outcome, at_end}
use Rattle.pw_parse_grammar.specs.Modules.{goes_on_as_declaration, function, external_with, external_named, external_behind, external, ends_text, externals, read}
use Rattle.pw_parse_grammar.specs.Parts.{Declared}
use Rattle.pw_parse_grammar.specs.Statements.{stmt}
use Rattle.pw_parse_grammar.specs.Tests.{is_empty}
use Rattle.pw_parse_grammar.proofs.Progress.Base.{Left, forward-rules}
use Rattle.pw_parse_grammar.proofs.Progress.Declarations.{declarations-left, declaration_with-left}
use Rattle.pw_parse_grammar.proofs.Progress.Statements.{block-left, stmt-left, function-left, external_with-left, external_named-left, external_behind-left, external-left, ends_text-left}
use Rattle.pw_parse_grammar.proofs.Local.Base.{Near, gone, more, Agree, passed, answers, faults, Local, Steady, local-rules, agree-bind, asked, asked-answer, at_end-steady, eaten-strict}
use Rattle.pw_parse_grammar.proofs.Local.Tests.{goes_on_as_declaration-steady}
use Rattle.pw_parse_grammar.proofs.Local.Lists.{nearer, agree-upto, units-local}
use Rattle.pw_parse_grammar.proofs.Local.Parts.{specifiers-at, declarator-at}
use Rattle.pw_parse_grammar.proofs.Local.Knot.{parts-local}
use Rattle.pw_parse_grammar.proofs.Local.Suffixes.{declare_name-local}
use Rattle.pw_parse_grammar.proofs.Local.Declarations.{declaration_with-strict, declarations-local}
use Rattle.pw_parse_grammar.proofs.Local.Statements.{block-strict, stmt-local}

module _ (r w : List (Option Symbol)) (limit limit' d : ℕ) (c : suc d ≤ limit) (c' : suc d ≤ limit') where
  low : d ≤ limit
  low = omega (arith, c)

  low' : d ≤ limit'
  low' = omega (arith, c')

  function-strict : (ss : Specifiers) (x : Declared) → Local r w (suc d) (λ _. d) (function limit ss x) (function limit' ss x)
  unfolding function
  function-strict ss x names n t t' h = agree-bind r w (suc d) _ (declare_name-local r w (suc d) x.name _ names n t t' h)
      (λ u names n t t' h. agree-bind r w (suc d) _ (declarations-local r w limit limit' (suc d) c c' _ n t t' h)
      (λ ds names n t t' h. agree-bind r w d _ (block-strict r w limit limit' d low low' (stmt limit limit) (stmt limit' limit') (stmt-local r w limit limit' d low low' limit limit' low low') names n t t' h) (λ b names n t t' h. answers h) (λ b n i h. search forward-rules))
      (λ ds n i h. search (forward-rules, block-left limit (stmt limit limit) (stmt-left limit limit))))
      (λ u n i h. search (forward-rules, declarations-left limit, block-left limit (stmt limit limit) (stmt-left limit limit)))

  declares : Specifiers → Input → Bool
  declares ss i = not (is_empty ss) && goes_on_as_declaration i

  declares-steady : (ss : Specifiers) → Steady (declares ss)
  unfolding declares
  declares-steady ss names n s t t' = ap (λ b. not (is_empty ss) && b) (goes_on_as_declaration-steady names n s t t')

  external_with-strict : (ss : Specifiers) (x : Declared) → Local r w (suc d) (λ _. d) (external_with limit ss x) (external_with limit' ss x)
  unfolding external_with declares
  external_with-strict ss x names n t t' h = asked r w (suc d) (declares ss) (declares-steady ss) _ _ _ _ names n t t' h (search (forward-rules, declaration_with-left limit, function-left limit))
      (agree-bind r w d _ (declaration_with-strict r w limit limit' d c c' ss x names n t t' h) (λ x names n t t' h. answers h) (λ x n i h. search forward-rules))
      (function-strict ss x names n t t' h)

  external_named-strict : (ss : Specifiers) → Local r w (suc d) (λ _. d) (external_named limit ss) (external_named limit' ss)
  unfolding external_named
  external_named-strict ss names n t t' h = agree-bind r w (suc d) _ (declarator-at (parts-local r w (suc d) limit limit' c c') Named (has_type ss) names n t t' h) (λ x names n t t' h. external_with-strict ss x names n t t' h) (λ x n i h. external_with-left limit ss x n i h)

  external_behind-strict : (ss : Specifiers) → Local r w (suc d) (λ _. d) (external_behind limit ss) (external_behind limit' ss)
  unfolding external_behind
  external_behind-strict ss names n t t' h = search (local-rules, eaten-strict r w d m.Semicolon, external_named-strict, external_named-left limit)

  external-strict : Local r w (suc d) (λ _. d) (external limit) (external limit')
  unfolding external
  external-strict names n t t' h =
      agree-bind r w d _
      (agree-bind r w (suc d) _ (specifiers-at (parts-local r w (suc d) limit limit' c c') true names n t t' h) (λ ss names n t t' h. external_behind-strict ss names n t t' h) (λ ss n i h. external_behind-left limit ss n i h))
      (λ e names n t t' h. answers h) (λ e n i h. search forward-rules)

ends_text-local : (r w : List (Option Symbol)) (limit limit' d : ℕ) → Local r w d (λ _. d) (ends_text limit) (ends_text limit')
unfolding ends_text
ends_text-local r w limit limit' d = asked-answer r w d at_end at_end-steady (Some []) None

externals-local : (r w : List (Option Symbol)) (limit limit' d : ℕ) → d ≤ limit → d ≤ limit' → Local r w d (λ _. d) (externals limit) (externals limit')
unfolding externals
externals-local r w limit limit' d c c' = units-local r w (external limit) (external limit') (ends_text limit) (ends_text limit') (external-left limit) (ends_text-left limit) d
    (λ j e. external-strict r w limit limit' j (omega (arith, e, c)) (omega (arith, e, c'))) (λ j e. ends_text-local r w limit limit' j)

-- reading makes the same of two texts that are one up to a place
read-local : (r w : List (Option Symbol)) (m : ℕ) (t t' : List (Option Symbol)) → Near r w m t t' → Agree r w (λ _. m) (read t) (read t')
unfolding read
read-local r w m t t' h =
    let k = nearer h in
    agree-upto k.lower (agree-bind r w k.count _ (externals-local r w (length t + 1) (length t' + 1) k.count k.left k.right [] 1 t t' k.near) (λ es names n t t' h. answers h) (λ es n i h. search forward-rules))

-- the place right behind a token
behind-token : (front : List (Option Symbol)) (x : Option Symbol) (r w : List (Option Symbol)) → Near r w (suc (length front)) (front ++ x ∷ r) (front ++ x ∷ w)
behind-token [] x r w = more x gone
behind-token (s ∷ front) x r w = more s (behind-token front x r w)

fault-passed : {r w : List (Option Symbol)} {A : Type 0} {b : A → ℕ} {o o' : Outcome A} → Agree r w b o o' → (e : Input) (p : A × Input) → o ≡ Err e → o' ≡ Ok p → length e.rest ≤ length r
fault-passed {r = r} {A = A} (passed l) e p h g = let at : Left {A = A} (length r) (Err e) = subst (λ o. Left (length r) o) h l in at.left
fault-passed (answers k) e p h g = cc
fault-passed (faults k) e p h g = cc

-- Where reading stops at a token, no text that is one with this up to the token, and with it, is read to its end.
pub stops-in-both : (front : List (Option Symbol)) (x : Option Symbol) (r w : List (Option Symbol)) (e : Input) (p : Module × Input) → read (front ++ x ∷ r) ≡ Err e → e.rest ≡ x ∷ r → read (front ++ x ∷ w) ≡ Ok p → ⊥
stops-in-both front x r w e p h at g = omega (arith, ap length at, fault-passed (read-local r w (suc (length front)) (front ++ x ∷ r) (front ++ x ∷ w) (behind-token front x r w)) e p h g)
