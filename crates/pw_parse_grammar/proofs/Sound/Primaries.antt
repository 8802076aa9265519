-- Type names and primary expressions that are read are trees (6.3.1, 6.5.5).
use Rattle.std.proofs.Common.{◌≡◌, ℕ, Bool, true, false, if◌then◌else◌, List, [], ◌∷◌, Option, Some, None, Err, arith, refl, sym, ap, ◌∙◌, subst}
use Rattle.pw_tree.specs.Numbering.{past_specifiers, NumberedStrings, Numbered, NumberedSpecifiers, NumberedDeclarator}
use Rattle.pw_tree.specs.Scopes.{is_typedef_name, has_type, after_expr, after_specifiers, after_declarator, Env}
use Rattle.pw_tree.specs.Spelling.{identifier, spell_strings, spell_expr, spell_specifiers, spell_declarator}
use Rattle.pw_tree.specs.Symbols as symbol
use Rattle.pw_tree.specs.Symbols.{Symbol, Reserved, Sign, unary_symbol, binary_mark, assign_mark, access_mark, step_mark}
use Rattle.pw_tree.specs.Trees.{Word, Identifier, Strings, Paren, Specifiers, NoSpecifier, Storage, Qualified, Basic, TypedefName, RecordTag, Record, EnumTag, Enum, Declarator}
use Rattle.pw_tree.specs.WellFormed.{NotEmpty, HasPostfix, HasSpecifier, HasMember, HasMemberDeclarator, HasEnumerator, HasParameter, HasInit, NotTypedef, NoneTypedef, MayDeclare, NoStorage, IsSomething, begins_with_typedef, MayEnclose, operand_level, WellFormed, WellFormedPostfixes, WellFormedArguments, WellFormedOperations, WellFormedSpecifiers, WellFormedMembers, WellFormedMemberDeclarators, WellFormedEnumerators, WellFormedDeclarator, WellFormedCore, WellFormedSuffixes, WellFormedParameters, WellFormedOptional, WellFormedInit, WellFormedInits, WellFormedInitializer, WellFormedInitDeclarators, WellFormedDecl, WellFormedDecls, WellFormedLabel, WellFormedLabels, NotLabeled, NotIf, ends_open, alternative_ends_open, MayPrecede, WellFormedStmt, WellFormedAlternative, WellFormedBlock, WellFormedStmts, in_function, WellFormedFunction, WellFormedExternal, WellFormedExternals, WellFormedModule}
use Rattle.pw_tree.specs.WellFormed as tree
use Rattle.pw_token.specs.declared.symbol.Mark.TheVariants as m
use Rattle.pw_parse_grammar.specs.declared.place.Place.TheVariants.{Nameless}
use Rattle.pw_parse_grammar.specs.Input.{Input, first_of_rest, ahead, is_none_left, at_end, step_to, step, same_mark, same_keyword, is_mark, is_keyword, sees, sees_keyword, or_false, Outcome, Parser, and_then, ◌>>=◌, ◌>>◌, pure, ◌<$>◌, fault, asks, peek, here, skip, take_number, word, past, past_keyword, eat, eat_keyword, expect, expect_keyword, identifier_by, ordinary_by, ordinary, declare_all, leave, since, turns, go_on, repeat, list_of, turn_of, while_some, turn_with, one_or_more, unless_comma, Binding}
use Rattle.pw_parse_grammar.specs.Input as input
use Rattle.pw_scope.specs.Visible.{visible}
use Rattle.pw_parse_grammar.specs.Parts.{Parts}
use Rattle.pw_parse_grammar.specs.Expressions.{string_by, string, strings, some_specifiers, type_name, enclosed_type_name, parenthesized, primary_by, primary}
use Rattle.pw_parse_grammar.specs.Tests.{is_empty}
use Rattle.pw_parse_grammar.proofs.Trees.Base.{names_of, names_are, true_is_not_false}
use Rattle.pw_parse_grammar.proofs.Trees.Follow.{is_text}
use Rattle.pw_parse_grammar.proofs.Sound.Base.{Post, bind, choose, Reads, nothing, both, token, expected}
use Rattle.pw_parse_grammar.proofs.Sound.Lists.{IsItem, while-sound}
use Rattle.pw_parse_grammar.proofs.Sound.Parts.{IsExpr, IsSpecifiers, SoundExpr, Sound}

-- ---- words

-- an identifier that is none of a typedef
pub record IsOrdinary (env : Env) (i : Input) (w : Word) (j : Input) : Type 0 where
  pub reads : Reads i j env (λ z. identifier w ∷ z)
  pub plain : NotTypedef env w
  pub numbered : w.token ≡ i.next

pub ordinary-sound : (env : Env) (i : Input) → i.names ≡ names_of env → Post (IsOrdinary env i) (ordinary i)
unfolding ordinary_by input.is_typedef_name
ordinary-sound env i names = by (ahead i) refl
  where
    named : (x : List ℕ) → or_false (visible i.names x) ≡ is_typedef_name env x
    named x = ap (λ v. or_false (visible v x)) names ∙ names_are env x

    by : (s : Option Symbol) → ahead i ≡ s → Post (IsOrdinary env i) (ordinary_by s i)
    by (Some (symbol.Identifier x)) h = choose _ (input.is_typedef_name i x) (Err i) (word x i)
        (λ t. tt)
        (λ f. record { reads = token i env (symbol.Identifier x) h names; plain = sym (named x) ∙ f; numbered = refl })
    by None h = tt
    by (Some _) h = tt

-- an identifier, whatever it stands for
pub record IsWord (env : Env) (i : Input) (w : Word) (j : Input) : Type 0 where
  pub reads : Reads i j env (λ z. identifier w ∷ z)
  pub numbered : w.token ≡ i.next

pub identifier-sound : (env : Env) (i : Input) → i.names ≡ names_of env → Post (IsWord env i) (input.identifier i)
unfolding identifier_by
identifier-sound env i names = by (ahead i) refl
  where
    by : (s : Option Symbol) → ahead i ≡ s → Post (IsWord env i) (identifier_by s i)
    by (Some (symbol.Identifier x)) h = record { reads = token i env (symbol.Identifier x) h names; numbered = refl }
    by None h = tt
    by (Some _) h = tt

-- ---- string literals

-- string literals from i to j
pub record IsStrings (env : Env) (i : Input) (ws : List Word) (j : Input) : Type 0 where
  pub reads : Reads i j env (spell_strings ws)
  pub numbered : NumberedStrings i.next ws
  pub begins : is_text (ahead i) ≡ true → NotEmpty ws

string-sound : (env : Env) (i : Input) → i.names ≡ names_of env → Post (IsItem IsStrings [] env i) (string i)
unfolding string
string-sound env i names = by (ahead i) refl
  where
    more : (s : List ℕ) (w : Word) → w.text ≡ s → w.token ≡ i.next → Reads i (step i) env (λ z. symbol.Text s ∷ z)
        → (ws : List Word) (k : Input) → IsStrings env (step i) ws k → IsStrings env i (w ∷ ws) k
    more s w is n t ws k h = record {
      reads = subst (λ v. Reads i k env (λ z. symbol.Text v ∷ spell_strings ws z)) (sym is) (both t h.reads);
      numbered = (n, subst (λ v. NumberedStrings v ws) t.next h.numbered);
      begins = λ _. tt;
    }

    none : is_text (ahead i) ≡ false → IsStrings env i [] i
    none f = record { reads = nothing i env names; numbered = tt; begins = λ t. true_is_not_false (sym f ∙ t) }

    by : (s : Option Symbol) → ahead i ≡ s → Post (IsItem IsStrings [] env i) (string_by s i)
    by (Some (symbol.Text s)) h =
        let t = token i env (symbol.Text s) h names in
        (env, t.names, more s (record { token = i.next; text = s }) refl refl t)
    by None h = none (ap is_text h)
    by (Some _) h = none (ap is_text h)

pub strings-sound : (env : Env) (i : Input) → i.names ≡ names_of env → Post (IsStrings env i) (strings i)
unfolding strings
strings-sound env i names = while-sound IsStrings [] string string-sound env i names

module _ (parts : Parts) (sound : Sound parts) where
  -- ---- 6.3.1

  parenthesized-sound : (env : Env) (i : Input) → ahead i ≡ Some (Sign m.OpenParen) → i.names ≡ names_of env → Post (IsExpr 0 env i) (parenthesized parts i)
  unfolding parenthesized spell_expr after_expr WellFormed Numbered
  parenthesized-sound env i h names =
      let opening = token i env (Sign m.OpenParen) h names in
      bind _ (parts.expr 16 (step i)) (λ e. expect m.CloseParen >> pure (Paren i.next e)) (sound.expr 16 (omega arith) env (step i) opening.names) (λ e j q.
      expected _ j (after_expr env e) m.CloseParen (pure (Paren i.next e)) q.reads.names (λ k closing.
      record {
        reads = both opening (both q.reads closing);
        holds = q.holds;
        low = omega arith;
        numbered = (refl, subst (λ v. Numbered v e) opening.next q.numbered);
      }))

  primary-by : (env : Env) (i : Input) → i.names ≡ names_of env → (s : Option Symbol) → ahead i ≡ s → Post (IsExpr 0 env i) (primary_by parts s i)
  unfolding spell_expr after_expr WellFormed Numbered
  primary-by env i names (Some (symbol.Identifier s)) h =
      bind _ (ordinary i) (λ w. pure (Identifier w)) (ordinary-sound env i names) (λ w j q.
      record { reads = q.reads; holds = q.plain; low = omega arith; numbered = q.numbered })
  primary-by env i names (Some (symbol.Number s)) h = record { reads = token i env (symbol.Number s) h names; holds = tt; low = omega arith; numbered = refl }
  primary-by env i names (Some (symbol.Floating s)) h = record { reads = token i env (symbol.Floating s) h names; holds = tt; low = omega arith; numbered = refl }
  primary-by env i names (Some (symbol.Character s)) h = record { reads = token i env (symbol.Character s) h names; holds = tt; low = omega arith; numbered = refl }
  primary-by env i names (Some (symbol.Wide s)) h = record { reads = token i env (symbol.Wide s) h names; holds = tt; low = omega arith; numbered = refl }
  primary-by env i names (Some (symbol.Text s)) h =
      bind _ (strings i) (λ ws. pure (Strings ws)) (strings-sound env i names) (λ ws j q.
      record { reads = q.reads; holds = q.begins (ap is_text h); low = omega arith; numbered = q.numbered })
  primary-by env i names (Some (Sign m.OpenParen)) h = parenthesized-sound env i h names
  primary-by env i names None h = tt
  primary-by env i names (Some _) h = tt

  pub primary-sound : SoundExpr 0 (primary parts)
  unfolding primary
  primary-sound env i names = primary-by env i names (ahead i) refl

  -- ---- 6.5.5

  -- specifiers, one or more
  pub some_specifiers-sound : (storage : Bool) (env : Env) (i : Input) → i.names ≡ names_of env → Post (λ ss j. IsSpecifiers storage env i ss j × HasSpecifier ss) (some_specifiers parts storage i)
  unfolding some_specifiers
  some_specifiers-sound storage env i names = bind _ (parts.specifiers storage i) (λ ss. if is_empty ss then fault else pure ss) (sound.specifiers storage env i names) by
    where
      by : (ss : Specifiers) (j : Input) → IsSpecifiers storage env i ss j → Post (λ ss j. IsSpecifiers storage env i ss j × HasSpecifier ss) ((if is_empty ss then fault else pure ss) j)
      by NoSpecifier j q = tt
      by (Storage n c ss) j q = (q, tt)
      by (Qualified n c ss) j q = (q, tt)
      by (Basic n c ss) j q = (q, tt)
      by (TypedefName w ss) j q = (q, tt)
      by (RecordTag n r w ss) j q = (q, tt)
      by (Record n r w ms ss) j q = (q, tt)
      by (EnumTag n w ss) j q = (q, tt)
      by (Enum n w es ss) j q = (q, tt)

  -- a type name
  pub record IsTypeName (env : Env) (i : Input) (named : Specifiers × Declarator) (j : Input) : Type 0 where
    pub reads : Reads i j (after_declarator (after_specifiers env named.0) named.1) (λ z. spell_specifiers named.0 (spell_declarator named.1 z))
    pub has : HasSpecifier named.0
    pub none : NoStorage named.0
    pub specifiers : WellFormedSpecifiers env false named.0
    pub declarator : WellFormedDeclarator (after_specifiers env named.0) (has_type named.0) tree.Nameless named.1
    pub numbered : NumberedSpecifiers i.next named.0
    pub behind : NumberedDeclarator (past_specifiers i.next named.0) named.1

  pub type_name-sound : (env : Env) (i : Input) → i.names ≡ names_of env → Post (IsTypeName env i) (type_name parts i)
  unfolding type_name
  type_name-sound env i names =
      bind _ (some_specifiers parts false i) (λ ss. parts.declarator Nameless (has_type ss) >>= λ d. pure (ss, d.tree)) (some_specifiers-sound false env i names) (λ ss j q.
      bind _ (parts.declarator Nameless (has_type ss) j) (λ d. pure (ss, d.tree)) (sound.declarator Nameless (has_type ss) (after_specifiers env ss) j q.0.reads.names) (λ d k r.
      record {
        reads = both q.0.reads r.reads;
        has = q.1;
        none = q.0.may;
        specifiers = q.0.holds;
        declarator = r.holds;
        numbered = q.0.numbered;
        behind = subst (λ v. NumberedDeclarator v d.tree) q.0.reads.next r.numbered;
      }))

  -- a type name in parentheses, of which the `(` stands next
  pub record IsEnclosed (env : Env) (i : Input) (named : Specifiers × Declarator) (j : Input) : Type 0 where
    pub inner : Input
    pub behind : Input
    pub opening : Reads i inner env (λ z. Sign m.OpenParen ∷ z)
    pub name : IsTypeName env inner named behind
    pub closing : Reads behind j (after_declarator (after_specifiers env named.0) named.1) (λ z. Sign m.CloseParen ∷ z)

  pub enclosed-sound : (env : Env) (i : Input) → i.names ≡ names_of env → Post (IsEnclosed env i) (enclosed_type_name parts i)
  unfolding enclosed_type_name
  enclosed-sound env i names =
      expected _ i env m.OpenParen (type_name parts >>= λ named. expect m.CloseParen >> pure named) names (λ inner opening.
      bind _ (type_name parts inner) (λ named. expect m.CloseParen >> pure named) (type_name-sound env inner opening.names) (λ named behind q.
      expected _ behind (after_declarator (after_specifiers env named.0) named.1) m.CloseParen (pure named) q.reads.names (λ j closing.
      record { inner = inner; behind = behind; opening = opening; name = q; closing = closing })))
