-- Faults in postfix expressions (6.3.2).
use Rattle.std.proofs.Common.{◌≡◌, ℕ, suc, ◌<◌, true, false, List, ◌∷◌, length, Option, Some, None, arith, refl, ap}
use Rattle.pw_tree.specs.Scopes.{Env, after_expr, after_arguments}
use Rattle.pw_tree.specs.Spelling.{identifier, spell_expr, spell_postfixes, spell_arguments}
use Rattle.pw_tree.specs.Symbols.{Symbol, Sign, access_mark, step_mark}
use Rattle.pw_tree.specs.Trees.{Expr, Postfix, Postfixes, NoPostfix, Index, Call, Select, Step, Arguments, NoArgument, Argument}
use Rattle.pw_tree.specs.WellFormed.{WellFormed, WellFormedPostfixes, WellFormedArguments}
use Rattle.pw_tree.specs.declared.operator.Access.{Access}
use Rattle.pw_tree.specs.declared.operator.Access.TheVariants as access
use Rattle.pw_tree.specs.declared.operator.StepOperator.{StepOperator}
use Rattle.pw_tree.specs.declared.operator.StepOperator.TheVariants as stepping
use Rattle.pw_token.specs.declared.symbol.Mark.TheVariants as m
use Rattle.pw_parse_grammar.specs.Input.{Input, ahead, step, sees, Parser, ◌>>=◌, ◌>>◌, pure, ◌<$>◌, expect}
use Rattle.pw_parse_grammar.specs.Input as input
use Rattle.pw_parse_grammar.specs.Parts.{Parts}
use Rattle.pw_parse_grammar.specs.Expressions.{with_postfixes, primary, argument, some_arguments, arguments, index, call, select, step_behind, postfix_by, postfix_operation, postfixes, postfix_expr}
use Rattle.pw_parse_grammar.proofs.Trees.Base.{names_of}
use Rattle.pw_parse_grammar.proofs.Sound.Base.{both, token}
use Rattle.pw_parse_grammar.proofs.Sound.Parts.{Sound}
use Rattle.pw_parse_grammar.proofs.Sound.Primaries.{identifier-sound, primary-sound}
use Rattle.pw_parse_grammar.proofs.Sound.Postfixes.{arguments-sound}
use Rattle.pw_parse_grammar.proofs.Viable.Base.{Does, Fails, bind-fails, map-fails, weaken-fails, choose-fails, expected-fails, Form, Begins, Viable, missing, embed, as_part, counted}
use Rattle.pw_parse_grammar.proofs.Viable.Lists.{GoesOn, Listed, AfterItem, more_behind, more_listed, found, while-fails, comma-fails}
use Rattle.pw_parse_grammar.proofs.Viable.Parts.{fresh, exprs, ViableExpr, ViableParts}
use Rattle.pw_parse_grammar.proofs.Viable.Primaries.{identifier-fails, primary-fails}

-- ---- arguments

abbrev pub HasArgument : Arguments → Type 0
HasArgument NoArgument = ⊥
HasArgument (Argument e es) = Unit {0}

-- arguments, one or more
abbrev pub argument_lists : Form Arguments
argument_lists = record { holds = λ env es. WellFormedArguments env es × HasArgument es; put = spell_arguments true }

arguments-comma : (es : Arguments) → HasArgument es → (z : List Symbol) → spell_arguments false es z ≡ Sign m.Comma ∷ spell_arguments true es z
unfolding spell_expr
arguments-comma NoArgument h z = absurd h
arguments-comma (Argument e es) h z = refl

argument-before : (env : Env) (e : Expr) (es : Arguments) → (exprs 15).holds env e → argument_lists.holds (after_expr env e) es → Begins argument_lists env (λ z. spell_expr e (Sign m.Comma ∷ spell_arguments true es z))
unfolding spell_expr WellFormed
argument-before env e es h r = record { thing = Argument e es; holds = ((h.1, h.0, r.0), tt); spells = λ z. (z, ap (spell_expr e) (arguments-comma es r.1 z)) }

last_argument : (env : Env) (e : Expr) → (exprs 15).holds env e → Begins argument_lists env (spell_expr e)
unfolding spell_expr WellFormed
last_argument env e h = record { thing = Argument e NoArgument; holds = ((h.1, h.0, tt), tt); spells = λ z. (z, refl) }

-- ---- 6.3.2

abbrev pub postfix_lists : Form Postfixes
postfix_lists = record { holds = WellFormedPostfixes; put = spell_postfixes }

module _ (parts : Parts) (sound : Sound parts) (d : ℕ) (viable : ViableParts d parts) where
  argument-fails : (env : Env) (i : Input) → i.names ≡ names_of env → length i.rest < d → Does (λ f j. Listed (Viable argument_lists) env i j) (Viable argument_lists env i) (argument parts i)
  unfolding argument
  argument-fails env i names below =
      bind-fails _ _ (parts.expr 15 i) _ (sound.expr 15 (omega arith) env i names) (viable.expr 15 (omega arith) env i names below)
      (λ e v. as_part v (last_argument env))
      (λ e j q. more_listed q.reads (λ es h. argument-before env e es (q.holds, q.low) h))

  some_arguments-fails : (env : Env) (i : Input) → i.names ≡ names_of env → length i.rest < d → Fails (Viable argument_lists env i) (some_arguments parts i)
  unfolding some_arguments
  some_arguments-fails env i names below = comma-fails (Viable argument_lists) d NoArgument (argument parts) argument-fails env i names below

  arguments-fails : (env : Env) (i : Input) → i.names ≡ names_of env → length i.rest < d → Fails (Viable argument_lists env i) (arguments parts i)
  unfolding arguments
  arguments-fails env i names below = choose-fails _ _ (sees m.CloseParen i) (pure NoArgument) (some_arguments parts) i (λ _. tt) (λ _. some_arguments-fails env i names below)

  abbrev Goes : Env → Input → Parser (Postfixes → Postfixes) → Type 0
  Goes env i p = Does (λ f j. GoesOn (Viable postfix_lists) env i j) (Viable postfix_lists env i) (p i)

  index-fails : (env : Env) (i : Input) → ahead i ≡ Some (Sign m.OpenBracket) → i.names ≡ names_of env → length i.rest < suc d → Goes env i (index parts)
  unfolding index spell_expr WellFormed
  index-fails env i h names below =
      let opening = token i env (Sign m.OpenBracket) h names in
      bind-fails _ _ (parts.expr 16 (step i)) (λ e. expect m.CloseBracket >> pure (Index i.next e)) (sound.expr 16 (omega arith) env (step i) opening.names) (viable.expr 16 (omega arith) env (step i) opening.names (omega (arith, below, counted opening)))
      (λ e v. embed opening v (λ x h. closes x h.0))
      (λ e j q. expected-fails _ _ j (after_expr env e) m.CloseBracket (pure (Index i.next e)) q.reads.names (missing (both opening q.reads) (closes e q.holds))
      (λ k closing. let all = both opening (both q.reads closing) in
      more_behind all (omega (arith, counted all)) (λ ps r. record { thing = Index i.next e ps; holds = (q.holds, r); spells = λ z. (z, refl) })))
    where
      closes : (e : Expr) → WellFormed env e → Begins postfix_lists env (λ z. Sign m.OpenBracket ∷ spell_expr e z)
      closes e h = record { thing = Index i.next e NoPostfix; holds = (h, tt); spells = λ z. (Sign m.CloseBracket ∷ z, refl) }

  call-fails : (env : Env) (i : Input) → ahead i ≡ Some (Sign m.OpenParen) → i.names ≡ names_of env → length i.rest < suc d → Goes env i (call parts)
  unfolding call spell_expr WellFormed
  call-fails env i h names below =
      let opening = token i env (Sign m.OpenParen) h names in
      bind-fails _ _ (arguments parts (step i)) (λ es. expect m.CloseParen >> pure (Call i.next es)) (arguments-sound parts sound env (step i) opening.names) (arguments-fails env (step i) opening.names (omega (arith, below, counted opening)))
      (λ e v. embed opening v (λ es h. closes es h.0))
      (λ es j q. expected-fails _ _ j (after_arguments env es) m.CloseParen (pure (Call i.next es)) q.0.names (missing (both opening q.0) (closes es q.1))
      (λ k closing. let all = both opening (both q.0 closing) in
      more_behind all (omega (arith, counted all)) (λ ps r. record { thing = Call i.next es ps; holds = (q.1, r); spells = λ z. (z, refl) })))
    where
      closes : (es : Arguments) → WellFormedArguments env es → Begins postfix_lists env (λ z. Sign m.OpenParen ∷ spell_arguments true es z)
      closes es h = record { thing = Call i.next es NoPostfix; holds = (h, tt); spells = λ z. (Sign m.CloseParen ∷ z, refl) }

  select-fails : (a : Access) (env : Env) (i : Input) → ahead i ≡ Some (Sign (access_mark a)) → i.names ≡ names_of env → Goes env i (select parts a)
  unfolding select spell_expr WellFormed
  select-fails a env i h names =
      let opening = token i env (Sign (access_mark a)) h names in
      bind-fails _ _ (input.identifier (step i)) (λ w. pure (Select i.next a w)) (identifier-sound env (step i) opening.names)
      (identifier-fails _ (step i) (missing opening (record { thing = Select i.next a (fresh env) NoPostfix; holds = tt; spells = λ z. (identifier (fresh env) ∷ z, refl) })))
      (λ e v. v)
      (λ w j q. let all = both opening q.reads in more_behind all (omega (arith, counted all)) (λ ps r. record { thing = Select i.next a w ps; holds = r; spells = λ z. (z, refl) }))

  stepping-fails : (op : StepOperator) (env : Env) (i : Input) → ahead i ≡ Some (Sign (step_mark op)) → i.names ≡ names_of env → Goes env i (step_behind op)
  unfolding step_behind spell_expr WellFormed
  stepping-fails op env i h names =
      let opening = token i env (Sign (step_mark op)) h names in
      more_behind opening (omega (arith, counted opening)) (λ ps r. record { thing = Step i.next op ps; holds = r; spells = λ z. (z, refl) })

  postfix-by : (env : Env) (i : Input) → i.names ≡ names_of env → length i.rest < suc d → (s : Option Symbol) → ahead i ≡ s → Does (AfterItem (Viable postfix_lists) env i) (Viable postfix_lists env i) (postfix_by parts s i)
  postfix-by env i names below (Some (Sign m.OpenBracket)) h = found (Viable postfix_lists) env i (index parts) (index-fails env i h names below)
  postfix-by env i names below (Some (Sign m.OpenParen)) h = found (Viable postfix_lists) env i (call parts) (call-fails env i h names below)
  postfix-by env i names below (Some (Sign m.Dot)) h = found (Viable postfix_lists) env i (select parts access.Dot) (select-fails access.Dot env i h names)
  postfix-by env i names below (Some (Sign m.Arrow)) h = found (Viable postfix_lists) env i (select parts access.Arrow) (select-fails access.Arrow env i h names)
  postfix-by env i names below (Some (Sign m.Increment)) h = found (Viable postfix_lists) env i (step_behind stepping.Increment) (stepping-fails stepping.Increment env i h names)
  postfix-by env i names below (Some (Sign m.Decrement)) h = found (Viable postfix_lists) env i (step_behind stepping.Decrement) (stepping-fails stepping.Decrement env i h names)
  postfix-by env i names below None h = tt
  postfix-by env i names below (Some _) h = tt

  postfixes-fails : (env : Env) (i : Input) → i.names ≡ names_of env → length i.rest < suc d → Fails (Viable postfix_lists env i) (postfixes parts i)
  unfolding postfixes postfix_operation
  postfixes-fails env i names below = while-fails (Viable postfix_lists) (suc d) NoPostfix (postfix_operation parts) (λ env i names below. postfix-by env i names below (ahead i) refl) env i names below

  whole-postfix : (env : Env) (e : Expr) (ps : Postfixes) → (exprs 0).holds env e → WellFormedPostfixes (after_expr env e) ps → Begins (exprs 1) env (λ z. spell_expr e (spell_postfixes ps z))
  unfolding spell_expr WellFormed
  whole-postfix env e NoPostfix h r = record { thing = e; holds = (h.0, omega (arith, h.1)); spells = λ z. (z, refl) }
  whole-postfix env e (Index t x ps) h r = record { thing = Postfix e (Index t x ps); holds = ((h.1, h.0, tt, r), omega arith); spells = λ z. (z, refl) }
  whole-postfix env e (Call t es ps) h r = record { thing = Postfix e (Call t es ps); holds = ((h.1, h.0, tt, r), omega arith); spells = λ z. (z, refl) }
  whole-postfix env e (Select t a w ps) h r = record { thing = Postfix e (Select t a w ps); holds = ((h.1, h.0, tt, r), omega arith); spells = λ z. (z, refl) }
  whole-postfix env e (Step t op ps) h r = record { thing = Postfix e (Step t op ps); holds = ((h.1, h.0, tt, r), omega arith); spells = λ z. (z, refl) }

  pub postfix-fails : ViableExpr (suc d) 1 (postfix_expr parts)
  unfolding postfix_expr WellFormed spell_expr
  postfix-fails env i names below =
      bind-fails _ _ (primary parts i) (λ e. postfixes parts >>= λ ps. pure (with_postfixes e ps)) (primary-sound parts sound env i names) (primary-fails parts sound d viable env i names below)
      (λ e v. as_part v (λ x h. whole-postfix env x NoPostfix h tt))
      (λ e j q. map-fails _ (with_postfixes e) (postfixes parts j) (weaken-fails _ (postfixes parts j) (postfixes-fails (after_expr env e) j q.reads.names (omega (arith, below, counted q.reads)))
      (λ e' v. embed q.reads v (λ ps h. whole-postfix env e ps (q.holds, q.low) h))))
