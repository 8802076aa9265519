-- Expressions, types and initialisers make no more objects without a name than they have tokens: one for each string literal. An
-- expression may cost one more, for which there is a token beside it.
use Rattle.std.specs.Prelude.{ℕ, suc, ◌≡◌, ◌+◌, ◌≤◌, Bool, true, false, Option, None, Some, List, [], ◌∷◌, ◌++◌, length, if◌then◌else◌}
use Rattle.std.proofs.Common.{arith, ◌∙◌}
use Rattle.std.proofs.lemmas.List.{length-append}
use Rattle.pw_tree.specs.declared.expr.BasicType.TheVariants as W
use Rattle.pw_tree.specs.declared.operator.Access.TheVariants.{Dot, Arrow}
use Rattle.pw_tree.specs.declared.operator.StepOperator.TheVariants as J
use Rattle.pw_tree.specs.declared.operator.UnaryOperator.TheVariants as P
use Rattle.pw_tree.specs.declared.expr.Qualifier.{Qualifier}
use Rattle.pw_tree.specs.FirstTokens.{first_of_expr}
use Rattle.pw_tree.specs.Spelling.{spell_strings, spell_tag, spell_qualifiers, spell_pointers, spell_expr, spell_postfixes, spell_arguments, spell_operations, spell_specifiers, spell_members, spell_member_declarators, spell_enumerators, spell_declarator, spell_core, spell_suffixes, spell_parameters}
use Rattle.pw_token.specs.declared.symbol.Mark.TheVariants as m
use Rattle.pw_tree.specs.Symbols.{Symbol, Sign}
use Rattle.pw_tree.specs.Trees.{Pointer, Expr, Postfixes, Arguments, Operations, Specifiers, Members, MemberDeclarators, Enumerators, Declarator, Core, Suffixes, Parameters, Word}
use Rattle.pw_tree.specs.Trees as S
use Rattle.pw_types.specs.TypeTrees.{MemberValue}
use Rattle.pw_types.specs.TypedTrees.{Expression}
use Rattle.pw_check_literals.specs.Characters.{string_bytes_of}
use Rattle.pw_check_walk.specs.Walks.{Walk, bind}
use Rattle.pw_check_rules.specs.Operands.{Operand}
use Rattle.pw_check_rules.specs.Operators.{value_rule}
use Rattle.pw_check_rules.specs.Leaves.{string_rule, string_point, string_type, bytes_at_start, record_kind, record_spot, first_of_list, first_of_declaration, texts_of}
use Rattle.pw_check_rules.specs.Phrases.{expr_rule, postfixes_rule, arguments_rule, operations_rule, specifiers_rule, members_rule, member_declarators_rule, enumerators_rule, declarator_rule, core_rule, suffixes_rule, parameters_rule}
use Rattle.pw_check_rules.specs.SpecifierLists.{Gathered, nothing_gathered, gather_storage, gather_qualifier, gather_word, gather_type, Specified}
use Rattle.pw_check_rules.specs.Derivations.{ParameterValue}
use Rattle.pw_check_rules.specs.Kinds.{int_type}
use Rattle.pw_check_rules.specs.States.{State, Rule, HiddenObject, scoped, uncounted, one_deeper, with_made, add_hidden, next_hidden}
use Rattle.pw_law_checked.proofs.Walking.{Post, post_bind, post_weaken, after_any}
use Rattle.pw_law_checked.proofs.Still.{address_still, arrow_still, assignment_still, bindings_still, call_still, cast_still, character_still, conditional_still, deref_still, dot_still, enumeration_still, enumerator_name_still, enumerator_value_still, identifier_still, index_still, length_still, named_still, number_still, operation_still, sign_still, size_still, specified_still, step_still, storage_still, type_size_still, typedef_still, value_still}
use Rattle.pw_law_checked.proofs.Untouched.{Untouched, reference_untouched, opening_untouched, member_untouched, closing_untouched, enumerating_untouched, enumerator_untouched, parameter_untouched}
use Rattle.pw_law_valid.proofs.Spending.{Spends, Same, stays, then_spends, still_spends, same_spends, wider_spends, token_before, token_behind, comma_before, with_lead, item_before, no_item}

pub then_same : {A B : Type 0} (s : State) (w : Walk (A × State)) (next : A × State → Walk (B × State)) → Post w (Same s) → ((r : A × State) → Post (next r) (Same r.1)) → Post (bind w next) (Same s)
then_same {A} {B} s w next h k =
    post_bind w next (Same s) (Same s) h (λ r e. post_weaken (next r) (Same r.1) (Same s) (k r) (λ u f. f ∙ e))

-- ---- string literals

pub one_more : (xs : List HiddenObject) (x : HiddenObject) (n : ℕ) → length (xs ++ x ∷ []) + n ≤ length xs + suc n
one_more xs x n = let e : length (xs ++ x ∷ []) ≡ length xs + 1 = length-append xs (x ∷ []) in omega (arith, e)

one_at_most : (xs : List HiddenObject) (n : ℕ) → length xs + n ≤ length xs + suc n
one_at_most xs n = omega arith

string_spends : (ws : List Word) (n : ℕ) (s : State) → Post (string_rule ws s) (Spends (suc n) n s)
unfolding string_rule string_point bind
string_spends ws n s = λ met. by s.made.counting
  where
    by : (b : Bool) → next_hidden (if b then add_hidden (record { ty = string_type (string_bytes_of (texts_of ws)); writable = false; items = bytes_at_start (string_bytes_of (texts_of ws)) }) s else s) + n ≤ next_hidden s + suc n
    by true = one_more s.made.hidden _ n
    by false = one_at_most s.made.hidden n

pub strings_longer : (ws : List Word) (z : List Symbol) → length z ≤ length (spell_strings ws z)
strings_longer [] z = omega arith
strings_longer (w ∷ ws) z = let h : length z ≤ length (spell_strings ws z) = strings_longer ws z in omega (arith, h)

-- ---- types

pub left_same : {A : Type 0} (s : State) (w : Walk (A × State)) → Post w (Untouched s) → Post w (Same s)
left_same s w h = post_weaken w (Untouched s) (Same s) h (λ r e. e.1)

-- ---- scopes, and operands of `sizeof`

pub scoped_spends : {A : Type 0} (before behind : ℕ) (inside : Rule A) (s : State) → ((t : State) → Post (inside t) (Spends before behind t)) → Post (scoped inside s) (Spends before behind s)
unfolding scoped bind
scoped_spends {A} before behind inside s h = then_spends before behind behind (one_deeper s) (inside (one_deeper s)) _ (h (one_deeper s)) (λ r. stays (next_hidden r.1) behind)

uncounted_spends : {A : Type 0} (before behind : ℕ) (inside : Rule A) (s : State) → ((t : State) → Post (inside t) (Spends before behind t)) → Post (uncounted inside s) (Spends before behind s)
unfolding uncounted bind
uncounted_spends {A} before behind inside s h = then_spends before behind behind (with_made (λ m. record m { counting = false }) s) (inside _) _ (h _) (λ r. stays (next_hidden r.1) behind)

-- an operand, and then its value
pub valued_spends : {B : Type 0} (before between behind : ℕ) (s : State) (w : Walk (Operand × State)) (next : Expression × State → Walk (B × State)) → Post w (Spends before between s) → ((r : Expression × State) → Post (next r) (Spends between behind r.1))
    → Post (bind w (λ t. bind (value_rule t.0 t.1) next)) (Spends before behind s)
valued_spends {B} before between behind s w next h k =
    then_spends before between behind s w _ h (λ r. then_spends between between behind r.1 (value_rule r.0 r.1) next (still_spends between r.1 _ (value_still r.0 r.1)) k)

-- ---- spellings

tag_before : {A : Type 0} (behind : ℕ) (o : Option Word) (xs : List Symbol) (s : State) (w : Walk (A × State)) → Post w (Spends (length xs) behind s) → Post w (Spends (length (spell_tag o xs)) behind s)
tag_before _ None xs s w h = h
tag_before {A} behind (Some x) xs s w h = token_before (length xs) behind s w h

qualifiers_longer : (qs : List Qualifier) (z : List Symbol) → length z ≤ length (spell_qualifiers qs z)
qualifiers_longer [] z = omega arith
qualifiers_longer (q ∷ qs) z = let h : length z ≤ length (spell_qualifiers qs z) = qualifiers_longer qs z in omega (arith, h)

pointers_longer : (ps : List Pointer) (z : List Symbol) → length z ≤ length (spell_pointers ps z)
pointers_longer [] z = omega arith
pointers_longer (p ∷ ps) z =
    let h : length z ≤ length (spell_pointers ps z) = pointers_longer ps z in
    let k : length (spell_pointers ps z) ≤ length (spell_qualifiers p.qualifiers (spell_pointers ps z)) = qualifiers_longer p.qualifiers (spell_pointers ps z) in
    omega (arith, h, k)

longer_before : (n m k : ℕ) → n ≤ m → n + k ≤ m + k
longer_before n m k h = omega (arith, h)

pointers_before : {A : Type 0} (behind : ℕ) (ps : List Pointer) (xs : List Symbol) (s : State) (w : Walk (A × State)) → Post w (Spends (length xs) behind s) → Post w (Spends (length (spell_pointers ps xs)) behind s)
pointers_before {A} behind ps xs s w h =
    wider_spends (length xs) behind (length (spell_pointers ps xs)) behind s w (longer_before (length xs) (length (spell_pointers ps xs)) behind (pointers_longer ps xs)) h

mutual
  unfolding expr_rule spell_expr

  pub expr_spends : (e : Expr) (z : List Symbol) (s : State) → Post (expr_rule e s) (Spends (suc (length (spell_expr e z))) (length z) s)
  expr_spends (S.Identifier w) z s = token_before _ _ s _ (token_before _ _ s _ (still_spends _ s _ (identifier_still w s)))
  expr_spends (S.Number w) z s = token_before _ _ s _ (token_before _ _ s _ (still_spends _ s _ (number_still w s)))
  expr_spends (S.Floating w) z s = tt
  expr_spends (S.Character w) z s = token_before _ _ s _ (token_before _ _ s _ (still_spends _ s _ (character_still w s)))
  expr_spends (S.Wide w) z s = tt
  expr_spends (S.Strings ws) z s =
      wider_spends (suc (length z)) (length z) _ _ s _ (longer_before (suc (length z)) (suc (length (spell_strings ws z))) (length z) (let h : length z ≤ length (spell_strings ws z) = strings_longer ws z in omega (arith, h))) (string_spends ws (length z) s)
  expr_spends (S.Paren t e) z s = token_before _ _ s _ (token_behind _ _ s _ (expr_spends e (Sign m.CloseParen ∷ z) s))
  expr_spends (S.Postfix e rest) z s = then_spends _ _ _ s _ _ (expr_spends e _ s) (λ r. postfixes_spends rest z r.0 r.1)
  expr_spends (S.Unary t P.Sizeof e) z s = token_before _ _ s _ (then_spends _ _ _ s _ _ (uncounted_spends _ _ (expr_rule e) s (λ u. expr_spends e z u)) (λ r. still_spends _ r.1 _ (size_still t r.0 r.1)))
  expr_spends (S.Unary t P.Address e) z s = token_before _ _ s _ (then_spends _ _ _ s _ _ (expr_spends e z s) (λ r. still_spends _ r.1 _ (address_still t r.0 r.1)))
  expr_spends (S.Unary t P.Increment e) z s = token_before _ _ s _ (then_spends _ _ _ s _ _ (expr_spends e z s) (λ r. still_spends _ r.1 _ (step_still t _ r.0 r.1)))
  expr_spends (S.Unary t P.Decrement e) z s = token_before _ _ s _ (then_spends _ _ _ s _ _ (expr_spends e z s) (λ r. still_spends _ r.1 _ (step_still t _ r.0 r.1)))
  expr_spends (S.Unary t P.Dereference e) z s = token_before _ _ s _ (valued_spends _ _ _ s _ _ (expr_spends e z s) (λ r. still_spends _ r.1 _ (deref_still t r.0 r.1)))
  expr_spends (S.Unary t P.Plus e) z s = token_before _ _ s _ (valued_spends _ _ _ s _ _ (expr_spends e z s) (λ r. still_spends _ r.1 _ (sign_still t P.Plus r.0 r.1)))
  expr_spends (S.Unary t P.Minus e) z s = token_before _ _ s _ (valued_spends _ _ _ s _ _ (expr_spends e z s) (λ r. still_spends _ r.1 _ (sign_still t P.Minus r.0 r.1)))
  expr_spends (S.Unary t P.Complement e) z s = token_before _ _ s _ (valued_spends _ _ _ s _ _ (expr_spends e z s) (λ r. still_spends _ r.1 _ (sign_still t P.Complement r.0 r.1)))
  expr_spends (S.Unary t P.Not e) z s = token_before _ _ s _ (valued_spends _ _ _ s _ _ (expr_spends e z s) (λ r. still_spends _ r.1 _ (sign_still t P.Not r.0 r.1)))
  expr_spends (S.SizeofType t specifiers d) z s =
      token_before _ _ s _ (token_before _ _ s _ (token_before _ _ s _ (token_behind _ _ s _ (uncounted_spends _ _ _ s (λ u.
      then_spends _ _ _ u _ _ (specifiers_spends specifiers (spell_declarator d (Sign m.CloseParen ∷ z)) (first_of_declaration specifiers d) nothing_gathered u) (λ r1.
      then_spends _ _ _ r1.1 _ _ (still_spends _ r1.1 _ (specified_still (first_of_declaration specifiers d) r1.0 r1.1)) (λ r2.
      then_spends _ _ _ r2.1 _ _ (declarator_spends d (Sign m.CloseParen ∷ z) r2.1) (λ r3.
      then_spends _ _ _ r3.1 _ _ (still_spends _ r3.1 _ (named_still r2.0 r3.0 r3.1)) (λ r4. still_spends _ r4.1 _ (type_size_still t _ r4.0 r4.1))))))))))
  expr_spends (S.Cast t specifiers d e) z s =
      token_before _ _ s _ (token_before _ _ s _ (
      then_spends _ _ _ s _ _ (specifiers_spends specifiers _ (first_of_declaration specifiers d) nothing_gathered s) (λ r1.
      then_spends _ _ _ r1.1 _ _ (still_spends _ r1.1 _ (specified_still (first_of_declaration specifiers d) r1.0 r1.1)) (λ r2.
      then_spends _ _ _ r2.1 _ _ (declarator_spends d _ r2.1) (λ r3.
      then_spends _ _ _ r3.1 _ _ (still_spends _ r3.1 _ (named_still r2.0 r3.0 r3.1)) (λ r4.
      valued_spends _ _ _ r4.1 _ _ (expr_spends e z r4.1) (λ r5. still_spends _ r5.1 _ (cast_still t r4.0 r5.0 r5.1))))))))
  expr_spends (S.Chain e rest) z s = then_spends _ _ _ s _ _ (expr_spends e _ s) (λ r. operations_spends rest z r.0 r.1)
  expr_spends (S.Conditional t c a b) z s =
      valued_spends _ _ _ s _ _ (expr_spends c _ s) (λ r1. valued_spends _ _ _ r1.1 _ _ (expr_spends a _ r1.1) (λ r2. valued_spends _ _ _ r2.1 _ _ (expr_spends b z r2.1) (λ r3. still_spends _ r3.1 _ (conditional_still t r1.0 r2.0 r3.0 r3.1))))
  expr_spends (S.Assign t op a b) z s = then_spends _ _ _ s _ _ (expr_spends a _ s) (λ r1. valued_spends _ _ _ r1.1 _ _ (expr_spends b z r1.1) (λ r2. still_spends _ r2.1 _ (assignment_still t op r1.0 r2.0 r2.1)))

  postfixes_spends : (rest : Postfixes) (z : List Symbol) (a : Operand) (s : State) → Post (postfixes_rule rest a s) (Spends (length (spell_postfixes rest z)) (length z) s)
  postfixes_spends S.NoPostfix z a s = stays (next_hidden s) (length z)
  postfixes_spends (S.Index t e rest) z a s =
      then_spends _ _ _ s _ _ (still_spends _ s _ (value_still a s)) (λ r1. valued_spends _ _ _ r1.1 _ _ (expr_spends e _ r1.1) (λ r2. then_spends _ _ _ r2.1 _ _ (still_spends _ r2.1 _ (index_still t r1.0 r2.0 r2.1)) (λ r3. token_before _ _ r3.1 _ (postfixes_spends rest z r3.0 r3.1))))
  postfixes_spends (S.Call t args rest) z a s =
      then_spends _ _ _ s _ _ (still_spends _ s _ (value_still a s)) (λ r1. then_spends _ _ _ r1.1 _ _ (arguments_spends true args _ r1.1) (λ r2. then_spends _ _ _ r2.1 _ _ (still_spends _ r2.1 _ (call_still t r1.0 r2.0 r2.1)) (λ r3. token_before _ _ r3.1 _ (postfixes_spends rest z r3.0 r3.1))))
  postfixes_spends (S.Select t Dot w rest) z a s = token_before _ _ s _ (token_before _ _ s _ (then_spends _ _ _ s _ _ (still_spends _ s _ (dot_still t w a s)) (λ r. postfixes_spends rest z r.0 r.1)))
  postfixes_spends (S.Select t Arrow w rest) z a s =
      token_before _ _ s _ (token_before _ _ s _ (then_spends _ _ _ s _ _ (still_spends _ s _ (value_still a s)) (λ r1. then_spends _ _ _ r1.1 _ _ (still_spends _ r1.1 _ (arrow_still t w r1.0 r1.1)) (λ r2. postfixes_spends rest z r2.0 r2.1))))
  postfixes_spends (S.Step t J.Increment rest) z a s = token_before _ _ s _ (then_spends _ _ _ s _ _ (still_spends _ s _ (step_still t _ a s)) (λ r. postfixes_spends rest z r.0 r.1))
  postfixes_spends (S.Step t J.Decrement rest) z a s = token_before _ _ s _ (then_spends _ _ _ s _ _ (still_spends _ s _ (step_still t _ a s)) (λ r. postfixes_spends rest z r.0 r.1))

  arguments_spends : (first : Bool) (args : Arguments) (z : List Symbol) (s : State) → Post (arguments_rule args s) (Spends (with_lead first (length (spell_arguments first args z))) (length z) s)
  arguments_spends first S.NoArgument z s = no_item first (next_hidden s) (length z)
  arguments_spends first (S.Argument e rest) z s =
      item_before _ first _ s _ (valued_spends _ _ _ s _ _ (expr_spends e _ s) (λ r1. then_spends _ _ _ r1.1 _ _ (arguments_spends false rest z r1.1) (λ r2. stays (next_hidden r2.1) (length z))))

  operations_spends : (rest : Operations) (z : List Symbol) (a : Operand) (s : State) → Post (operations_rule rest a s) (Spends (length (spell_operations rest z)) (length z) s)
  operations_spends S.NoOperation z a s = stays (next_hidden s) (length z)
  operations_spends (S.Operation t op e rest) z a s =
      then_spends _ _ _ s _ _ (still_spends _ s _ (value_still a s)) (λ r1. valued_spends _ _ _ r1.1 _ _ (expr_spends e _ r1.1) (λ r2. then_spends _ _ _ r2.1 _ _ (still_spends _ r2.1 _ (operation_still t op r1.0 r2.0 r2.1)) (λ r3. operations_spends rest z r3.0 r3.1)))

  pub specifiers_spends : (specifiers : Specifiers) (z : List Symbol) (first : ℕ) (g : Gathered) (s : State) → Post (specifiers_rule specifiers first g s) (Spends (length (spell_specifiers specifiers z)) (length z) s)
  specifiers_spends S.NoSpecifier z first g s = stays (next_hidden s) (length z)
  specifiers_spends (S.Storage t storage rest) z first g s = token_before _ _ s _ (specifiers_spends rest z first (gather_storage storage g) s)
  specifiers_spends (S.Qualified t qualifier rest) z first g s = token_before _ _ s _ (specifiers_spends rest z first (gather_qualifier qualifier g) s)
  specifiers_spends (S.Basic t W.Float rest) z first g s = tt
  specifiers_spends (S.Basic t W.Double rest) z first g s = tt
  specifiers_spends (S.Basic t W.Void rest) z first g s = token_before _ _ s _ (specifiers_spends rest z first (gather_word W.Void g) s)
  specifiers_spends (S.Basic t W.Char rest) z first g s = token_before _ _ s _ (specifiers_spends rest z first (gather_word W.Char g) s)
  specifiers_spends (S.Basic t W.Short rest) z first g s = token_before _ _ s _ (specifiers_spends rest z first (gather_word W.Short g) s)
  specifiers_spends (S.Basic t W.Int rest) z first g s = token_before _ _ s _ (specifiers_spends rest z first (gather_word W.Int g) s)
  specifiers_spends (S.Basic t W.Long rest) z first g s = token_before _ _ s _ (specifiers_spends rest z first (gather_word W.Long g) s)
  specifiers_spends (S.Basic t W.Signed rest) z first g s = token_before _ _ s _ (specifiers_spends rest z first (gather_word W.Signed g) s)
  specifiers_spends (S.Basic t W.Unsigned rest) z first g s = token_before _ _ s _ (specifiers_spends rest z first (gather_word W.Unsigned g) s)
  specifiers_spends (S.TypedefName w rest) z first g s = token_before _ _ s _ (then_spends _ _ _ s _ _ (still_spends _ s _ (typedef_still w s)) (λ r. specifiers_spends rest z first (gather_type r.0 None g) r.1))
  specifiers_spends (S.RecordTag t kind w rest) z first g s = token_before _ _ s _ (token_before _ _ s _ (then_spends _ _ _ s _ _ (same_spends _ s _ (left_same s _ (reference_untouched (record_kind kind) w s))) (λ r. specifiers_spends rest z first (gather_type r.0.0 r.0.1 g) r.1)))
  specifiers_spends (S.Record t kind w members rest) z first g s =
      token_before _ _ s _ (tag_before _ w _ s _ (token_before _ _ s _ (
      then_spends _ _ _ s _ _ (same_spends _ s _ (left_same s _ (opening_untouched (record_kind kind) w s))) (λ r1.
      then_spends _ _ _ r1.1 _ _ (members_spends members _ [] r1.1) (λ r2.
      then_spends _ _ _ r2.1 _ _ (same_spends _ r2.1 _ (left_same r2.1 _ (closing_untouched (record_kind kind) (record_spot w first) r1.0 r2.0 r2.1))) (λ r3. token_before _ _ r3.1 _ (specifiers_spends rest z first (gather_type r3.0 None g) r3.1)))))))
  specifiers_spends (S.EnumTag t w rest) z first g s = token_before _ _ s _ (token_before _ _ s _ (then_spends _ _ _ s _ _ (still_spends _ s _ (enumeration_still w s)) (λ r. specifiers_spends rest z first (gather_type r.0 None g) r.1)))
  specifiers_spends (S.Enum t w enumerators rest) z first g s =
      token_before _ _ s _ (tag_before _ w _ s _ (token_before _ _ s _ (
      then_spends _ _ _ s _ _ (then_spends _ _ _ s _ _ (same_spends _ s _ (left_same s _ (enumerating_untouched w s))) (λ r. enumerators_spends true enumerators (Sign m.CloseBrace ∷ spell_specifiers rest z) (Some 0) r.1)) (λ r. token_before _ _ r.1 _ (specifiers_spends rest z first (gather_type int_type None g) r.1)))))

  members_spends : (members : Members) (z : List Symbol) (ms : List MemberValue) (s : State) → Post (members_rule members ms s) (Spends (length (spell_members members z)) (length z) s)
  members_spends S.NoMember z ms s = stays (next_hidden s) (length z)
  members_spends (S.Member specifiers ds rest) z ms s =
      then_spends _ _ _ s _ _ (specifiers_spends specifiers _ (first_of_list specifiers) nothing_gathered s) (λ r1.
      then_spends _ _ _ r1.1 _ _ (still_spends _ r1.1 _ (specified_still (first_of_list specifiers) r1.0 r1.1)) (λ r2.
      then_spends _ _ _ r2.1 _ _ (member_declarators_spends true ds _ r2.0 ms r2.1) (λ r3. token_before _ _ r3.1 _ (members_spends rest z r3.0 r3.1))))

  member_declarators_spends : (first : Bool) (ds : MemberDeclarators) (z : List Symbol) (b : Specified) (ms : List MemberValue) (s : State) → Post (member_declarators_rule ds b ms s) (Spends (length (spell_member_declarators first ds z)) (length z) s)
  member_declarators_spends first S.NoMemberDeclarator z b ms s = stays (next_hidden s) (length z)
  member_declarators_spends first (S.PlainMember d rest) z b ms s =
      comma_before _ first _ s _ (then_spends _ _ _ s _ _ (declarator_spends d _ s) (λ r1. then_spends _ _ _ r1.1 _ _ (same_spends _ r1.1 _ (left_same r1.1 _ (member_untouched b r1.0 ms r1.1))) (λ r2. member_declarators_spends false rest z b r2.0 r2.1)))
  member_declarators_spends first (S.BitField d t e rest) z b ms s = after_any (declarator_rule d s) _ _ (λ r. tt)
  member_declarators_spends first (S.Padding t e rest) z b ms s = tt

  enumerators_spends : (first : Bool) (enumerators : Enumerators) (z : List Symbol) (value : Option ℕ) (s : State) → Post (enumerators_rule enumerators value s) (Spends (length (spell_enumerators first enumerators z)) (length z) s)
  enumerators_spends first S.NoEnumerator z value s = stays (next_hidden s) (length z)
  enumerators_spends first (S.PlainEnumerator w rest) z value s = comma_before _ first _ s _ (token_before _ _ s _ (then_spends _ _ _ s _ _ (same_spends _ s _ (left_same s _ (enumerator_untouched w value s))) (λ r. enumerators_spends false rest z r.0 r.1)))
  enumerators_spends first (S.ValuedEnumerator w e rest) z value s =
      comma_before _ first _ s _ (token_before _ _ s _ (
      then_spends _ _ _ s _ _ (still_spends _ s _ (enumerator_name_still w s)) (λ r0.
      valued_spends _ _ _ r0.1 _ _ (expr_spends e _ r0.1) (λ r1.
      then_spends _ _ _ r1.1 _ _ (still_spends _ r1.1 _ (enumerator_value_still (first_of_expr e) r1.0 r1.1)) (λ r2. then_spends _ _ _ r2.1 _ _ (same_spends _ r2.1 _ (left_same r2.1 _ (enumerator_untouched w (Some r2.0) r2.1))) (λ r3. enumerators_spends false rest z r3.0 r3.1))))))

  pub declarator_spends : (d : Declarator) (z : List Symbol) (s : State) → Post (declarator_rule d s) (Spends (length (spell_declarator d z)) (length z) s)
  declarator_spends (S.Declaring pointers core suffixes) z s =
      pointers_before _ pointers _ s _ (then_spends _ _ _ s _ _ (core_spends core _ s) (λ r1. then_spends _ _ _ r1.1 _ _ (suffixes_spends suffixes z r1.1) (λ r2. stays (next_hidden r2.1) (length z))))

  core_spends : (core : Core) (z : List Symbol) (s : State) → Post (core_rule core s) (Spends (length (spell_core core z)) (length z) s)
  core_spends S.Absent z s = stays (next_hidden s) (length z)
  core_spends (S.Name w) z s = one_at_most s.made.hidden (length z)
  core_spends (S.Enclosed t d) z s = token_before _ _ s _ (token_behind _ _ s _ (declarator_spends d (Sign m.CloseParen ∷ z) s))

  suffixes_spends : (suffixes : Suffixes) (z : List Symbol) (s : State) → Post (suffixes_rule suffixes s) (Spends (length (spell_suffixes suffixes z)) (length z) s)
  suffixes_spends S.NoSuffix z s = stays (next_hidden s) (length z)
  suffixes_spends (S.Array t e rest) z s =
      valued_spends _ _ _ s _ _ (expr_spends e _ s) (λ r1. then_spends _ _ _ r1.1 _ _ (still_spends _ r1.1 _ (length_still (first_of_expr e) r1.0 r1.1)) (λ r2.
      token_before _ _ r2.1 _ (then_spends _ _ _ r2.1 _ _ (suffixes_spends rest z r2.1) (λ r3. stays (next_hidden r3.1) (length z)))))
  suffixes_spends (S.OpenArray t rest) z s = token_before _ _ s _ (token_before _ _ s _ (then_spends _ _ _ s _ _ (suffixes_spends rest z s) (λ r. stays (next_hidden r.1) (length z))))
  suffixes_spends (S.Prototype t parameters rest) z s =
      token_before _ _ s _ (then_spends _ _ _ s _ _
      (scoped_spends _ _ _ s (λ u. then_spends _ _ _ u _ _ (parameters_spends true parameters (Sign m.CloseParen ∷ spell_suffixes rest z) [] u) (λ r. still_spends _ r.1 _ (bindings_still r.0 r.1))))
      (λ r1. token_before _ _ r1.1 _ (then_spends _ _ _ r1.1 _ _ (suffixes_spends rest z r1.1) (λ r2. stays (next_hidden r2.1) (length z)))))
  suffixes_spends (S.Variadic t parameters rest) z s = tt
  suffixes_spends (S.Identifiers t ws rest) z s = tt

  parameters_spends : (first : Bool) (rest : Parameters) (z : List Symbol) (ps : List ParameterValue) (s : State) → Post (parameters_rule rest ps s) (Spends (length (spell_parameters first rest z)) (length z) s)
  parameters_spends first S.NoParameter z ps s = stays (next_hidden s) (length z)
  parameters_spends first (S.Parameter specifiers d rest) z ps s =
      comma_before _ first _ s _ (
      then_spends _ _ _ s _ _ (specifiers_spends specifiers _ (first_of_declaration specifiers d) nothing_gathered s) (λ r1.
      then_spends _ _ _ r1.1 _ _ (still_spends _ r1.1 _ (specified_still (first_of_declaration specifiers d) r1.0 r1.1)) (λ r2.
      then_spends _ _ _ r2.1 _ _ (then_spends _ _ _ r2.1 _ _ (still_spends _ r2.1 _ (storage_still r2.0 r2.1)) (λ r. declarator_spends d _ r.1)) (λ r3.
      then_spends _ _ _ r3.1 _ _ (same_spends _ r3.1 _ (left_same r3.1 _ (parameter_untouched _ r2.0 r3.0 ps r3.1))) (λ r4. parameters_spends false rest z r4.0 r4.1)))))
