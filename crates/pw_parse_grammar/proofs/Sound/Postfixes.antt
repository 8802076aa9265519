-- Postfix expressions that are read are trees (6.3.2).
use Rattle.std.proofs.Common.{◌≡◌, ◌+◌, true, false, [], ◌∷◌, length, Option, Some, None, arith, refl, ap, ◌∙◌, subst}
use Rattle.pw_tree.specs.Numbering.{Numbered, NumberedPostfixes, NumberedArguments}
use Rattle.pw_tree.specs.Scopes.{after_expr, after_postfixes, after_arguments, Env}
use Rattle.pw_tree.specs.Spelling.{spell_expr, spell_postfixes, spell_arguments}
use Rattle.pw_tree.specs.Symbols.{Symbol, Sign, access_mark, step_mark}
use Rattle.pw_tree.specs.Trees.{Expr, Postfixes, NoPostfix, Index, Call, Select, Step, Arguments, NoArgument, Argument}
use Rattle.pw_tree.specs.WellFormed.{WellFormed, WellFormedPostfixes, WellFormedArguments}
use Rattle.pw_tree.specs.declared.operator.Access.{Access}
use Rattle.pw_tree.specs.declared.operator.Access.TheVariants as access
use Rattle.pw_tree.specs.declared.operator.StepOperator.{StepOperator}
use Rattle.pw_tree.specs.declared.operator.StepOperator.TheVariants as stepping
use Rattle.pw_token.specs.declared.symbol.Mark.TheVariants as m
use Rattle.pw_parse_grammar.specs.Input.{Input, first_of_rest, ahead, is_none_left, at_end, step_to, step, same_mark, same_keyword, is_mark, is_keyword, sees, sees_keyword, or_false, Outcome, Parser, and_then, ◌>>=◌, ◌>>◌, pure, ◌<$>◌, fault, asks, peek, here, skip, take_number, word, past, past_keyword, eat, eat_keyword, expect, expect_keyword, identifier_by, ordinary_by, ordinary, declare_all, leave, since, turns, go_on, repeat, list_of, turn_of, while_some, turn_with, one_or_more, unless_comma, Binding}
use Rattle.pw_parse_grammar.specs.Input as input
use Rattle.pw_parse_grammar.specs.Parts.{Parts}
use Rattle.pw_parse_grammar.specs.Input as input
use Rattle.pw_parse_grammar.specs.Expressions.{with_postfixes, primary, argument, some_arguments, arguments, index, call, select, step_behind, postfix_by, postfix_operation, postfixes, postfix_expr}
use Rattle.pw_parse_grammar.proofs.Trees.Base.{names_of}
use Rattle.pw_parse_grammar.proofs.Sound.Base.{Post, bind, weaken, choose_parser, Reads, nothing, both, token, expected}
use Rattle.pw_parse_grammar.proofs.Sound.Lists.{IsItem, Before, IsListed, while-sound, comma-sound}
use Rattle.pw_parse_grammar.proofs.Sound.Parts.{IsExpr, SoundExpr, Sound}
use Rattle.pw_parse_grammar.proofs.Sound.Primaries.{identifier-sound, primary-sound}

-- arguments from i on, one or more, behind the comma before them
pub record IsArguments (env : Env) (i : Input) (es : Arguments) (j : Input) : Type 0 where
  pub reads : Reads i j (after_arguments env es) (spell_arguments true es)
  pub holds : WellFormedArguments env es
  pub numbered : NumberedArguments true i.next es
  -- with a comma before them
  pub commas : (k : Input) (inner : Env) → Reads k i inner (λ z. Sign m.Comma ∷ z) → Reads k j (after_arguments env es) (spell_arguments false es) × NumberedArguments false k.next es

-- postfixes from i to j
pub record IsPostfixes (env : Env) (i : Input) (ps : Postfixes) (j : Input) : Type 0 where
  pub reads : Reads i j (after_postfixes env ps) (spell_postfixes ps)
  pub holds : WellFormedPostfixes env ps
  pub numbered : NumberedPostfixes i.next ps

module _ (parts : Parts) (sound : Sound parts) where
  -- ---- arguments

  argument-listed : (env : Env) (i : Input) (e : Expr) (j : Input) → IsExpr 15 env i e j → IsListed IsArguments NoArgument env i (Argument e) j
  unfolding spell_expr after_expr WellFormed Numbered
  argument-listed env i e j q = record {
    inner = after_expr env e;
    names = q.reads.names;
    last = record {
      reads = q.reads;
      holds = (q.low, q.holds, tt);
      numbered = (q.numbered, tt);
      commas = λ k inner c. (both c q.reads, (subst (λ v. Numbered v e) c.next q.numbered, tt));
    };
    more = λ k c es end r.
        let rest = r.commas j (after_expr env e) c in
        record {
          reads = both q.reads rest.0;
          holds = (q.low, q.holds, r.holds);
          numbered = (q.numbered, subst (λ v. NumberedArguments false v es) q.reads.next rest.1);
          commas = λ h inner d. (
            both d (both q.reads rest.0),
            (
              subst (λ v. Numbered v e) d.next q.numbered,
              subst (λ v. NumberedArguments false v es) (q.reads.next ∙ ap (λ v. v + length (spell_expr e [])) d.next) rest.1,
            ),
          );
        };
  }

  some_arguments-sound : (env : Env) (i : Input) → i.names ≡ names_of env → Post (IsArguments env i) (some_arguments parts i)
  unfolding some_arguments argument
  some_arguments-sound env i names = comma-sound IsArguments NoArgument (argument parts) (λ env i names.
      bind _ (parts.expr 15 i) (λ e. pure (Argument e)) (sound.expr 15 (omega arith) env i names) (argument-listed env i)) env i names

  pub arguments-sound : (env : Env) (i : Input) → i.names ≡ names_of env
      → Post (λ es j. Reads i j (after_arguments env es) (spell_arguments true es) × WellFormedArguments env es × NumberedArguments true i.next es) (arguments parts i)
  unfolding arguments spell_expr after_expr WellFormed Numbered
  arguments-sound env i names = choose_parser _ (sees m.CloseParen i) (pure NoArgument) (some_arguments parts) i
      (λ _. (nothing i env names, tt, tt))
      (λ _. weaken _ (some_arguments parts i) (some_arguments-sound env i names) (λ es j q. (q.reads, q.holds, q.numbered)))

  -- ---- 6.3.2

  abbrev IsPostfix : Env → Input → (Postfixes → Postfixes) → Input → Type 0
  IsPostfix = Before IsPostfixes

  index-sound : (env : Env) (i : Input) → ahead i ≡ Some (Sign m.OpenBracket) → i.names ≡ names_of env → Post (IsPostfix env i) (index parts i)
  unfolding index spell_expr after_expr WellFormed Numbered
  index-sound env i h names =
      let opening = token i env (Sign m.OpenBracket) h names in
      bind _ (parts.expr 16 (step i)) (λ e. expect m.CloseBracket >> pure (Index i.next e)) (sound.expr 16 (omega arith) env (step i) opening.names) (λ e j q.
      expected _ j (after_expr env e) m.CloseBracket (pure (Index i.next e)) q.reads.names (λ k closing. (
        after_expr env e,
        closing.names,
        λ ps end r.
            record {
              reads = both opening (both q.reads (both closing r.reads));
              holds = (q.holds, r.holds);
              numbered = (
                refl,
                subst (λ v. Numbered v e) opening.next q.numbered,
                subst (λ v. NumberedPostfixes v ps) (omega (arith, opening.next, q.reads.next, closing.next)) r.numbered,
              );
            },
      )))

  call-sound : (env : Env) (i : Input) → ahead i ≡ Some (Sign m.OpenParen) → i.names ≡ names_of env → Post (IsPostfix env i) (call parts i)
  unfolding call spell_expr after_expr WellFormed Numbered
  call-sound env i h names =
      let opening = token i env (Sign m.OpenParen) h names in
      bind _ (arguments parts (step i)) (λ es. expect m.CloseParen >> pure (Call i.next es)) (arguments-sound env (step i) opening.names) (λ es j q.
      expected _ j (after_arguments env es) m.CloseParen (pure (Call i.next es)) q.0.names (λ k closing. (
        after_arguments env es,
        closing.names,
        λ ps end r.
            record {
              reads = both opening (both q.0 (both closing r.reads));
              holds = (q.1, r.holds);
              numbered = (
                refl,
                subst (λ v. NumberedArguments true v es) opening.next q.2,
                subst (λ v. NumberedPostfixes v ps) (omega (arith, opening.next, q.0.next, closing.next)) r.numbered,
              );
            },
      )))

  select-sound : (a : Access) (env : Env) (i : Input) → ahead i ≡ Some (Sign (access_mark a)) → i.names ≡ names_of env → Post (IsPostfix env i) (select parts a i)
  unfolding select spell_expr after_expr WellFormed Numbered
  select-sound a env i h names =
      let opening = token i env (Sign (access_mark a)) h names in
      bind _ (input.identifier (step i)) (λ w. pure (Select i.next a w)) (identifier-sound env (step i) opening.names) (λ w j q. (
        env,
        q.reads.names,
        λ ps end r.
            record {
              reads = both opening (both q.reads r.reads);
              holds = r.holds;
              numbered = (
                refl,
                q.numbered ∙ opening.next,
                subst (λ v. NumberedPostfixes v ps) (omega (arith, opening.next, q.reads.next)) r.numbered,
              );
            },
      ))

  stepping-sound : (op : StepOperator) (env : Env) (i : Input) → ahead i ≡ Some (Sign (step_mark op)) → i.names ≡ names_of env → Post (IsPostfix env i) (step_behind op i)
  unfolding step_behind spell_expr after_expr WellFormed Numbered
  stepping-sound op env i h names =
      let opening = token i env (Sign (step_mark op)) h names in (
        env,
        opening.names,
        λ ps end r.
            record {
              reads = both opening r.reads;
              holds = r.holds;
              numbered = (refl, subst (λ v. NumberedPostfixes v ps) opening.next r.numbered);
            },
      )

  no_postfix-sound : (env : Env) (i : Input) → i.names ≡ names_of env → IsPostfixes env i NoPostfix i
  unfolding spell_expr after_expr WellFormed Numbered
  no_postfix-sound env i names = record { reads = nothing i env names; holds = tt; numbered = tt }

  abbrev IsSome : Env → Input → Option (Postfixes → Postfixes) → Input → Type 0
  IsSome = IsItem IsPostfixes NoPostfix

  -- where an operation was read, one stands next
  found : (env : Env) (i : Input) (p : Parser (Postfixes → Postfixes)) → Post (IsPostfix env i) (p i) → Post (IsSome env i) ((Some <$> p) i)
  found env i p h = bind (IsSome env i) (p i) (λ f. pure (Some f)) h (λ f j q. q)

  postfix-by : (env : Env) (i : Input) → i.names ≡ names_of env → (s : Option Symbol) → ahead i ≡ s → Post (IsSome env i) (postfix_by parts s i)
  postfix-by env i names (Some (Sign m.OpenBracket)) h = found env i (index parts) (index-sound env i h names)
  postfix-by env i names (Some (Sign m.OpenParen)) h = found env i (call parts) (call-sound env i h names)
  postfix-by env i names (Some (Sign m.Dot)) h = found env i (select parts access.Dot) (select-sound access.Dot env i h names)
  postfix-by env i names (Some (Sign m.Arrow)) h = found env i (select parts access.Arrow) (select-sound access.Arrow env i h names)
  postfix-by env i names (Some (Sign m.Increment)) h = found env i (step_behind stepping.Increment) (stepping-sound stepping.Increment env i h names)
  postfix-by env i names (Some (Sign m.Decrement)) h = found env i (step_behind stepping.Decrement) (stepping-sound stepping.Decrement env i h names)
  postfix-by env i names None h = no_postfix-sound env i names
  postfix-by env i names (Some _) h = no_postfix-sound env i names

  postfix_operation-sound : (env : Env) (i : Input) → i.names ≡ names_of env → Post (IsSome env i) (postfix_operation parts i)
  unfolding postfix_operation
  postfix_operation-sound env i names = postfix-by env i names (ahead i) refl

  postfixes-sound : (env : Env) (i : Input) → i.names ≡ names_of env → Post (IsPostfixes env i) (postfixes parts i)
  unfolding postfixes
  postfixes-sound env i names = while-sound IsPostfixes NoPostfix (postfix_operation parts) postfix_operation-sound env i names

  whole-postfix : (env : Env) (i j k : Input) (e : Expr) (ps : Postfixes) → IsExpr 0 env i e j → IsPostfixes (after_expr env e) j ps k → IsExpr 1 env i (with_postfixes e ps) k
  unfolding spell_expr after_expr WellFormed Numbered
  whole-postfix env i j k e NoPostfix q r = record { reads = both q.reads r.reads; holds = q.holds; low = omega (arith, q.low); numbered = q.numbered }
  whole-postfix env i j k e (Index t x ps) q r = record { reads = both q.reads r.reads; holds = (q.low, q.holds, tt, r.holds); low = omega arith; numbered = (q.numbered, subst (λ v. NumberedPostfixes v (Index t x ps)) q.reads.next r.numbered) }
  whole-postfix env i j k e (Call t es ps) q r = record { reads = both q.reads r.reads; holds = (q.low, q.holds, tt, r.holds); low = omega arith; numbered = (q.numbered, subst (λ v. NumberedPostfixes v (Call t es ps)) q.reads.next r.numbered) }
  whole-postfix env i j k e (Select t a w ps) q r = record { reads = both q.reads r.reads; holds = (q.low, q.holds, tt, r.holds); low = omega arith; numbered = (q.numbered, subst (λ v. NumberedPostfixes v (Select t a w ps)) q.reads.next r.numbered) }
  whole-postfix env i j k e (Step t op ps) q r = record { reads = both q.reads r.reads; holds = (q.low, q.holds, tt, r.holds); low = omega arith; numbered = (q.numbered, subst (λ v. NumberedPostfixes v (Step t op ps)) q.reads.next r.numbered) }

  pub postfix-sound : SoundExpr 1 (postfix_expr parts)
  unfolding postfix_expr
  postfix-sound env i names =
      bind _ (primary parts i) (λ e. postfixes parts >>= λ ps. pure (with_postfixes e ps)) (primary-sound parts sound env i names) (λ e j q.
      bind _ (postfixes parts j) (λ ps. pure (with_postfixes e ps)) (postfixes-sound (after_expr env e) j q.reads.names) (λ ps k r.
      whole-postfix env i j k e ps q r))
