-- Specifiers in two texts that are one up to a place (6.5.1 to 6.5.3).
use Rattle.std.proofs.Common.{ℕ, zero, suc, ◌+◌, ◌≤◌, Bool, false, List, ◌∷◌, length, Option, Some, None, arith}
use Rattle.pw_tree.specs.Levels.{conditional}
use Rattle.pw_tree.specs.Symbols.{Symbol, Reserved, Identifier}
use Rattle.pw_tree.specs.Trees.{Word, Specifiers, NoMember, NoMemberDeclarator, NoEnumerator}
use Rattle.pw_tree.specs.declared.expr.RecordKind.{RecordKind}
use Rattle.pw_token.specs.declared.symbol.Mark.TheVariants as m
use Rattle.pw_parse_grammar.specs.declared.word.SpecifierWord.{SpecifierWord}
use Rattle.pw_parse_grammar.specs.declared.word.SpecifierWord.TheVariants.{Storage, Qualified, Basic, Record, Enum}
use Rattle.pw_parse_grammar.specs.Input.{Binding, ◌>>=◌, pure, ahead, step, sees, is_typedef_name, turns}
use Rattle.pw_parse_grammar.specs.Parts.{Parts}
use Rattle.pw_parse_grammar.specs.Specifiers.{tag, tagged_record, tagged_enum, typed_by, specifiers_behind, closes_members, width, padding, named_member, member_declarator, member_declarators, member, members, record_specifier, enumerator, some_enumerators, enumerators, enum_specifier, specifier_at, specifier_by, specifier, specifiers_from, specifiers_of}
use Rattle.pw_parse_grammar.specs.Tests.{specifier_word}
use Rattle.pw_parse_grammar.proofs.Trees.Base.{no_turns}
use Rattle.pw_parse_grammar.proofs.Progress.Base.{forward-rules}
use Rattle.pw_parse_grammar.proofs.Progress.Specifiers.{tag-left, tagged_record-left, tagged_enum-left, specifiers_behind-left, closes_members-left, width-left, padding-left, named_member-left, member_declarator-left, member_declarators-left, member-left, members-left, record_specifier-left, enumerator-left, enumerators-left, enum_specifier-left, specifier-left, specifiers_from-left}
use Rattle.pw_parse_grammar.proofs.Local.Base.{input, Near, gone, more, Agree, passed, answers, faults, Local, wider, local-rules, bind-any, agree-bind, asked, sees-steady, eaten, eaten-answer, took, expect-strict}
use Rattle.pw_parse_grammar.proofs.Local.Lists.{nearer, agree-upto, item_bound, units-local, comma-local}
use Rattle.pw_parse_grammar.proofs.Local.Parts.{LocalParts, narrow, expr-at, declarator-at}
use Rattle.pw_parse_grammar.proofs.Local.Expressions.{some_specifiers-local}

tag-local : (r w : List (Option Symbol)) (d : ℕ) → Local r w d (λ _. d) tag tag
unfolding tag ahead step
tag-local r w d names n t t' gone = passed (tag-left (length r) (input names r n) (omega arith))
tag-local r w d names n t t' (more (Some (Identifier x)) h) = answers (wider h)
tag-local r w d names n t t' (more None h) = answers (more None h)
tag-local r w d names n t t' (more (Some s) h) = answers (more (Some s) h)

tagged_record-local : (r w : List (Option Symbol)) (d : ℕ) (k : ℕ) (kind : RecordKind) (x : Option Word) → Local r w d (λ _. d) (tagged_record k kind x) (tagged_record k kind x)
tagged_record-local r w d k kind None names n t t' h = faults h
tagged_record-local r w d k kind (Some x) names n t t' h = answers h

tagged_enum-local : (r w : List (Option Symbol)) (d : ℕ) (k : ℕ) (x : Option Word) → Local r w d (λ _. d) (tagged_enum k x) (tagged_enum k x)
tagged_enum-local r w d k None names n t t' h = faults h
tagged_enum-local r w d k (Some x) names n t t' h = answers h

closes_members-local : (r w : List (Option Symbol)) (d : ℕ) → Local r w d (λ _. d) closes_members closes_members
closes_members-local r w d = eaten-answer r w d m.CloseBrace (Some NoMember) None

module _ (r w : List (Option Symbol)) (d : ℕ) (parts parts' : Parts) (g : LocalParts r w d parts parts') where
  width-local : Local r w d (λ _. d) (width parts) (width parts')
  unfolding width
  width-local names n t t' h = took r w d (λ n. parts.expr conditional >>= λ e. pure (n, e)) (λ n. parts'.expr conditional >>= λ e. pure (n, e)) names n t t' h (search (forward-rules, g.left.expr)) (search (local-rules, agree-bind r w d, expr-at g))

  padding-local : Local r w d (λ _. d) (padding parts) (padding parts')
  unfolding padding
  padding-local names n t t' h = search (local-rules, agree-bind r w d, width-local)

  named_member-local : (typed : Bool) → Local r w d (λ _. d) (named_member parts typed) (named_member parts' typed)
  unfolding named_member
  named_member-local typed names n t t' h = search (local-rules, agree-bind r w d, declarator-at g, asked r w d (sees m.Colon) (sees-steady m.Colon), width-local, width-left parts g.left)

  member_declarator-local : (typed : Bool) → Local r w d (λ _. d) (member_declarator parts typed) (member_declarator parts' typed)
  unfolding member_declarator
  member_declarator-local typed names n t t' h = search (local-rules, asked r w d (sees m.Colon) (sees-steady m.Colon), padding-local, named_member-local, padding-left parts g.left, named_member-left parts g.left)

  enumerator-local : Local r w d (λ _. d) (enumerator parts) (enumerator parts')
  unfolding enumerator
  enumerator-local names n t t' h = search (local-rules, agree-bind r w d, eaten r w d m.Equal, expr-at g, g.left.expr) depth 9 fits 4000

module _ (r w : List (Option Symbol)) (d : ℕ) (parts parts' : Parts) (g : LocalParts r w d parts parts') where
  member_declarators-local : (typed : Bool) → Local r w d (λ _. d) (member_declarators parts typed) (member_declarators parts' typed)
  unfolding member_declarators
  member_declarators-local typed = comma-local r w NoMemberDeclarator (member_declarator parts typed) (member_declarator parts' typed) (member_declarator-left parts g.left typed) d (λ j c. member_declarator-local r w (suc j) parts parts' (narrow (suc j) c g) typed)

  some_enumerators-local : Local r w d (λ _. d) (some_enumerators parts) (some_enumerators parts')
  unfolding some_enumerators
  some_enumerators-local = comma-local r w NoEnumerator (enumerator parts) (enumerator parts') (enumerator-left parts g.left) d (λ j c. enumerator-local r w (suc j) parts parts' (narrow (suc j) c g))

  enumerators-local : Local r w d (λ _. d) (enumerators parts) (enumerators parts')
  unfolding enumerators
  enumerators-local names n t t' h = search (local-rules, agree-bind r w d, some_enumerators-local)

member-strict : (r w : List (Option Symbol)) (d : ℕ) (parts parts' : Parts) → LocalParts r w (suc d) parts parts' → Local r w (suc d) (λ _. d) (member parts) (member parts')
unfolding member
member-strict r w d parts parts' g names n t t' h = search (local-rules, agree-bind r w (suc d), agree-bind r w d, some_specifiers-local r w (suc d) parts parts' g, member_declarators-local r w (suc d) parts parts' g, expect-strict r w d, member_declarators-left parts g.left)

module _ (r w : List (Option Symbol)) (d : ℕ) (parts parts' : Parts) (g : LocalParts r w d parts parts') where
  members-local : Local r w d (λ _. d) (members parts) (members parts')
  unfolding members
  members-local = units-local r w (member parts) (member parts') closes_members closes_members (member-left parts g.left) closes_members-left d (λ j c. member-strict r w j parts parts' (narrow (suc j) c g)) (λ j c. closes_members-local r w j)

  record_specifier-strict : (kind : RecordKind) → Local r w (suc d) (λ _. d) (record_specifier parts kind) (record_specifier parts' kind)
  unfolding record_specifier step
  record_specifier-strict kind names n t t' gone = passed (record_specifier-left parts g.left kind (length r) (input names r n) (omega arith))
  record_specifier-strict kind names n t t' (more s h) = agree-bind r w d _ (tag-local r w d names (n + 1) _ _ h)
      (λ x names n t t' h. search (local-rules, agree-bind r w d, eaten r w d m.OpenBrace, members-local, tagged_record-local r w d, members-left parts g.left, tagged_record-left))
      (λ x n i h. search (forward-rules, members-left parts g.left, tagged_record-left))

  enum_specifier-strict : Local r w (suc d) (λ _. d) (enum_specifier parts) (enum_specifier parts')
  unfolding enum_specifier step
  enum_specifier-strict names n t t' gone = passed (enum_specifier-left parts g.left (length r) (input names r n) (omega arith))
  enum_specifier-strict names n t t' (more s h) = agree-bind r w d _ (tag-local r w d names (n + 1) _ _ h)
      (λ x names n t t' h. search (local-rules, agree-bind r w d, eaten r w d m.OpenBrace, enumerators-local r w d parts parts' g, tagged_enum-local r w d, enumerators-left parts g.left, tagged_enum-left))
      (λ x n i h. search (forward-rules, enumerators-left parts g.left, tagged_enum-left))

  specifier_at-item : (storage : Bool) (x : Option SpecifierWord) (s : Option Symbol) (names : List Binding) (n : ℕ) (t t' : List (Option Symbol)) → Near r w d t t'
      → Agree r w (item_bound d) (specifier_at parts storage x (input names (s ∷ t) n)) (specifier_at parts' storage x (input names (s ∷ t') n))
  unfolding specifier_at step
  specifier_at-item storage None s names n t t' h = answers (more s h)
  specifier_at-item storage (Some (Storage c)) s names n t t' h = search (local-rules, more)
  specifier_at-item storage (Some (Qualified q)) s names n t t' h = answers h
  specifier_at-item storage (Some (Basic b)) s names n t t' h = answers h
  specifier_at-item storage (Some (Record kind)) s names n t t' h = search (local-rules, more, agree-bind r w d, record_specifier-strict)
  specifier_at-item storage (Some Enum) s names n t t' h = search (local-rules, more, agree-bind r w d, enum_specifier-strict)

  specifier-by-item : (storage typed : Bool) (s : Option Symbol) (names : List Binding) (n : ℕ) (t t' : List (Option Symbol)) → Near r w d t t'
      → Agree r w (item_bound d) (specifier_by parts storage typed s (input names (s ∷ t) n)) (specifier_by parts' storage typed s (input names (s ∷ t') n))
  unfolding step is_typedef_name
  specifier-by-item storage typed (Some (Reserved x)) names n t t' h = specifier_at-item storage (specifier_word x) (Some (Reserved x)) names n t t' h
  specifier-by-item storage typed (Some (Identifier x)) names n t t' h = search (local-rules, more)
  specifier-by-item storage typed None names n t t' h = answers (more None h)
  specifier-by-item storage typed (Some s) names n t t' h = answers (more (Some s) h)

  specifier-item : (storage typed : Bool) → Local r w (suc d) (item_bound d) (specifier parts storage typed) (specifier parts' storage typed)
  unfolding specifier ahead
  specifier-item storage typed names n t t' gone = passed (specifier-left parts g.left storage typed (length r) (input names r n) (omega arith))
  specifier-item storage typed names n t t' (more s h) = specifier-by-item storage typed s names n _ _ h

module _ (r w : List (Option Symbol)) (d : ℕ) (parts parts' : Parts) (g : LocalParts r w d parts parts') (storage : Bool) where
  specifiers_from-local : (k : ℕ) → k ≤ suc d → (n n' : ℕ) → k ≤ n → k ≤ n' → (typed : Bool) → Local r w k (λ _. k) (specifiers_from parts storage n typed) (specifiers_from parts' storage n' typed)
  unfolding specifiers_from
  specifiers_from-local k c n n' e e' typed names number t t' gone = passed (specifiers_from-left parts g.left storage n typed (length r) (input names r number) (omega arith))
  specifiers_from-local (suc k) c zero n' e e' typed names number t t' (more s h) = no_turns e
  specifiers_from-local (suc k) c (suc n) zero e e' typed names number t t' (more s h) = no_turns e'
  specifiers_from-local (suc k) c (suc n) (suc n') e e' typed names number t t' (more s h) =
      bind-any (item_bound k) _ (specifier-item r w k parts parts' (narrow k (omega (arith, c)) g) storage typed names number t t' (more s h))
      (by (specifiers_from-local k (omega (arith, c)) n n' (omega (arith, e)) (omega (arith, e'))))
      (specifiers_behind-left (specifiers_from parts storage n) (specifiers_from-left parts g.left storage n) typed)
    where
      by : ((typed : Bool) → Local r w k (λ _. k) (specifiers_from parts storage n typed) (specifiers_from parts' storage n' typed)) → (x : Option (Specifiers → Specifiers)) (names : List Binding) (number : ℕ) (t t' : List (Option Symbol))
          → Near r w (item_bound k x) t t' → Agree r w (λ _. suc k) (specifiers_behind (specifiers_from parts storage n) typed x (input names t number)) (specifiers_behind (specifiers_from parts' storage n') typed x (input names t' number))
      by rest None names number t t' h = answers h
      by rest (Some f) names number t t' h = bind-any (λ _. k) _ (rest (typed_by typed f) names number t t' h) (λ l names number t t' h. answers (wider h)) (λ l n i h. search forward-rules)

  pub specifiers_of-local : Local r w (suc d) (λ _. suc d) (specifiers_of parts storage) (specifiers_of parts' storage)
  unfolding specifiers_of
  specifiers_of-local names number t t' h =
      let k = nearer h in
      agree-upto k.lower (specifiers_from-local k.count k.lower (turns (input names t number)) (turns (input names t' number)) k.left k.right false names number t t' k.near)
