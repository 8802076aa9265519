-- Such a relation holds of every expression, statement and call, by the shape of the trees.
use Rattle.std.proofs.Common.{arith, ℕ, zero, suc, ◌≤◌, Bool, true, List, [], ◌∷◌, Option, Some, None}
use Rattle.pw_value.specs.declared.value.Value.{Value}
use Rattle.pw_value.specs.declared.value.Value.TheVariants as V
use Rattle.pw_types.specs.TypedTrees.{Expression, Node, Number, Str, Local, Global, Function, Unary, Binary, Logic, Cond, Comma, Assign, Compound, Step, Cast, Decay, Member, Deref, Address, Call, CallValue, Expressions, NoExpression, OneExpression, Initialiser, Value as ByValue, Bytes as ByBytes, Statement, Evaluate, Block, If, While, Do, For, Switch, Label, Return, Arms, NoArm, Arm, Otherwise, NoElse, Else, Statements, NoStatement, OneStatement}
use Rattle.pw_cmean.specs.Worlds.{World, Body, Defined, Library}
use Rattle.pw_cmean.specs.Acts.{Act, Site, Bound, give, ◌>>=◌, ◌>>◌}
use Rattle.pw_cmean.specs.Evaluation.{Env, Calls, used, answer_of, place_of, values_of}
use Rattle.pw_types.specs.Labels.{labels_among, labels_behind}
use Rattle.pw_cmean.specs.Execution.{Entry, Front, At_label, Flow, Normal, Breaks, Continues, Returns, Goes, go_forward, caught, taking_up, after_body, turn, loop, meet_loop, always, value_of, condition, for_condition, drop_value, switch_to, after_switch, with_locals, set_local, initialise, initialise_all, meaning, items, arms, behind_arms}
use Rattle.pw_cmean.specs.SourceRun.{set_parameters, result_of, run_body, callee, calls, finish, run_main}
use Rattle.pw_cmean.proofs.ActLaws.{Laws, bind-r, branch-r, wrong-r, undefined-r, need-r, within-r, put-r, truth-r, unary-r, advance-r, binary-r, local_place-r, symbol_place-r, used-r, value_at-r, cast-r, old_value-r, update-r, step-r, AreRelated, second-r, take_room-r, call-r, call_value-r}

module _ (R : (A : Type 0) → Act A → Act A → Type 0) (laws : Laws R) where
  -- the result of an operand, which must be there
  pub operand-r : (a : Site) {m m' : Act (Option Value)} → R (Option Value) m m' → R Value (m >>= used a) (m' >>= used a)
  operand-r a p = bind-r R laws p λ o. used-r R laws a o

  mutual
    unfolding answer_of place_of values_of

    pub answer-r : (a : Expression) (cs cs' : Calls) (e : Env) → AreRelated R laws cs cs' → R (Option Value) (answer_of a cs e) (answer_of a cs' e)
    answer-r (Node t ty (Number n)) cs cs' e h = laws.gives (Option Value) _
    answer-r (Node t ty (Str k)) cs cs' e h = bind-r R laws (symbol_place-r R laws e _) λ p. value_at-r R laws e t ty p
    answer-r (Node t ty (Local k)) cs cs' e h = bind-r R laws (local_place-r R laws e k) λ p. value_at-r R laws e t ty p
    answer-r (Node t ty (Global s)) cs cs' e h = bind-r R laws (symbol_place-r R laws e s) λ p. value_at-r R laws e t ty p
    answer-r (Node t ty (Function s)) cs cs' e h = bind-r R laws (symbol_place-r R laws e s) λ p. value_at-r R laws e t ty p
    answer-r (Node t ty (Unary op a)) cs cs' e h =
        bind-r R laws (operand-r _ (answer-r a cs cs' e h)) λ v. bind-r R laws (unary-r R laws _ op _ v) λ w. laws.gives (Option Value) _
    answer-r (Node t ty (Binary op a b)) cs cs' e h =
        bind-r R laws (operand-r _ (answer-r a cs cs' e h)) λ v. bind-r R laws (operand-r _ (answer-r b cs cs' e h)) λ w.
        bind-r R laws (binary-r R laws _ _ op _ _ v w) λ r. laws.gives (Option Value) _
    answer-r (Node t ty (Logic op a b)) cs cs' e h =
        bind-r R laws (bind-r R laws (operand-r _ (answer-r a cs cs' e h)) λ v. truth-r R laws _ v) λ x.
        branch-r R laws _ (laws.gives (Option Value) _)
        (bind-r R laws (bind-r R laws (operand-r _ (answer-r b cs cs' e h)) λ v. truth-r R laws _ v) λ y. laws.gives (Option Value) _)
    answer-r (Node t ty (Cond c a b)) cs cs' e h =
        bind-r R laws (bind-r R laws (operand-r _ (answer-r c cs cs' e h)) λ v. truth-r R laws _ v) λ x.
        branch-r R laws x (answer-r a cs cs' e h) (answer-r b cs cs' e h)
    answer-r (Node t ty (Comma a b)) cs cs' e h = bind-r R laws (answer-r a cs cs' e h) λ o. answer-r b cs cs' e h
    answer-r (Node t ty (Assign a b)) cs cs' e h =
        bind-r R laws (place-r a cs cs' e h) λ p. bind-r R laws (operand-r _ (answer-r b cs cs' e h)) λ v.
        bind-r R laws (put-r R laws _ _ _ _ p v) λ u. laws.gives (Option Value) _
    answer-r (Node t ty (Compound op working a b)) cs cs' e h =
        bind-r R laws (place-r a cs cs' e h) λ p. bind-r R laws (old_value-r R laws e t _ working p) λ old.
        bind-r R laws (operand-r _ (answer-r b cs cs' e h)) λ w.
        bind-r R laws (update-r R laws e t _ working p op _ old w) λ r. laws.gives (Option Value) _
    answer-r (Node t ty (Step op a)) cs cs' e h =
        bind-r R laws (place-r a cs cs' e h) λ p. bind-r R laws (step-r R laws e t op _ p) λ r. laws.gives (Option Value) _
    answer-r (Node t ty (Cast a)) cs cs' e h = bind-r R laws (answer-r a cs cs' e h) λ o. cast-r R laws _ _ o
    answer-r (Node t ty (Decay a)) cs cs' e h = bind-r R laws (place-r a cs cs' e h) λ p. laws.gives (Option Value) _
    answer-r (Node t ty (Address a)) cs cs' e h = bind-r R laws (place-r a cs cs' e h) λ p. laws.gives (Option Value) _
    answer-r (Node t ty (Member a i)) cs cs' e h =
        bind-r R laws (bind-r R laws (place-r a cs cs' e h) λ p. advance-r R laws _ p _) λ q. value_at-r R laws e t ty q
    answer-r (Node t ty (Deref a)) cs cs' e h = bind-r R laws (operand-r _ (answer-r a cs cs' e h)) λ p. value_at-r R laws e t ty p
    answer-r (Node t ty (Call s args)) cs cs' e h =
        bind-r R laws (values-r args t cs cs' e h) λ vs. bind-r R laws (need-r R laws _) λ f. call-r R laws e.world cs cs' f vs h
    answer-r (Node t ty (CallValue a args)) cs cs' e h =
        bind-r R laws (operand-r _ (answer-r a cs cs' e h)) λ p. bind-r R laws (values-r args t cs cs' e h) λ vs.
        call_value-r R laws e cs cs' t _ p vs h

    pub place-r : (a : Expression) (cs cs' : Calls) (e : Env) → AreRelated R laws cs cs' → R Value (place_of a cs e) (place_of a cs' e)
    place-r (Node t ty (Str k)) cs cs' e h = symbol_place-r R laws e _
    place-r (Node t ty (Local k)) cs cs' e h = local_place-r R laws e k
    place-r (Node t ty (Global s)) cs cs' e h = symbol_place-r R laws e s
    place-r (Node t ty (Function s)) cs cs' e h = symbol_place-r R laws e s
    place-r (Node t ty (Member a i)) cs cs' e h = bind-r R laws (place-r a cs cs' e h) λ p. advance-r R laws _ p _
    place-r (Node t ty (Deref a)) cs cs' e h = operand-r _ (answer-r a cs cs' e h)
    place-r (Node t ty (Cond c a b)) cs cs' e h =
        bind-r R laws (bind-r R laws (operand-r _ (answer-r c cs cs' e h)) λ v. truth-r R laws _ v) λ x.
        branch-r R laws x (place-r a cs cs' e h) (place-r b cs cs' e h)
    place-r (Node t ty (Comma a b)) cs cs' e h = bind-r R laws (answer-r a cs cs' e h) λ o. place-r b cs cs' e h
    place-r (Node t ty (Assign a b)) cs cs' e h =
        bind-r R laws (place-r a cs cs' e h) λ p. bind-r R laws (operand-r _ (answer-r b cs cs' e h)) λ v.
        bind-r R laws (put-r R laws _ _ _ _ p v) λ u. laws.gives Value p
    place-r (Node t ty _) cs cs' e h = wrong-r R laws Value

    pub values-r : (args : Expressions) (t : ℕ) (cs cs' : Calls) (e : Env) → AreRelated R laws cs cs' → R (List Value) (values_of args t cs e) (values_of args t cs' e)
    values-r NoExpression t cs cs' e h = laws.gives (List Value) []
    values-r (OneExpression a rest) t cs cs' e h =
        bind-r R laws (operand-r _ (answer-r a cs cs' e h)) λ v. bind-r R laws (values-r rest t cs cs' e h) λ vs. laws.gives (List Value) _

  -- ---- statements

  pub value-r : (a : Expression) (cs cs' : Calls) (e : Env) → AreRelated R laws cs cs' → R Value (value_of a cs e) (value_of a cs' e)
  unfolding value_of
  value-r a cs cs' e h = operand-r _ (answer-r a cs cs' e h)

  pub condition-r : (a : Expression) (cs cs' : Calls) (e : Env) → AreRelated R laws cs cs' → R Bool (condition a cs e) (condition a cs' e)
  unfolding condition
  condition-r a cs cs' e h = bind-r R laws (value-r a cs cs' e h) λ v. truth-r R laws _ v

  pub for_condition-r : (o : Option Expression) (cs cs' : Calls) (e : Env) → AreRelated R laws cs cs' → R Bool (for_condition o cs e) (for_condition o cs' e)
  unfolding for_condition
  for_condition-r None cs cs' e h = laws.gives Bool true
  for_condition-r (Some a) cs cs' e h = condition-r a cs cs' e h

  pub drop_value-r : (o : Option Expression) (cs cs' : Calls) (e : Env) → AreRelated R laws cs cs' → R (Unit {0}) (drop_value o cs e) (drop_value o cs' e)
  unfolding drop_value
  drop_value-r None cs cs' e h = laws.gives (Unit {0}) tt
  drop_value-r (Some a) cs cs' e h = bind-r R laws (answer-r a cs cs' e h) λ o. laws.gives (Unit {0}) tt

  pub always-r : (cs cs' : Calls) → R Bool (always cs) (always cs')
  unfolding always
  always-r cs cs' = laws.gives Bool true

  pub go_forward-r : (labels : List ℕ) {later later' : Entry → Act Flow} {next next' : Act Flow} (flow : Flow)
      → ((at : Entry) → R Flow (later at) (later' at)) → R Flow next next'
      → R Flow (go_forward labels later next flow) (go_forward labels later' next' flow)
  unfolding go_forward
  go_forward-r labels Normal p q = q
  go_forward-r labels Breaks p q = laws.gives Flow _
  go_forward-r labels Continues p q = laws.gives Flow _
  go_forward-r labels (Returns v) p q = laws.gives Flow _
  go_forward-r labels (Goes l) p q = branch-r R laws _ (p _) (laws.gives Flow _)

  pub caught-r : (labels : List ℕ) {again again' : ℕ → Act Flow} (flow : Flow) → ((l : ℕ) → R Flow (again l) (again' l))
      → R Flow (caught labels again flow) (caught labels again' flow)
  unfolding caught
  caught-r labels Normal p = laws.gives Flow _
  caught-r labels Breaks p = laws.gives Flow _
  caught-r labels Continues p = laws.gives Flow _
  caught-r labels (Returns v) p = laws.gives Flow _
  caught-r labels (Goes l) p = branch-r R laws _ (p l) (laws.gives Flow _)

  pub taking_up-r : (labels : List ℕ) (run : Entry → Calls → Act Flow) (at : Entry) (cs cs' : Calls) → AreRelated R laws cs cs'
      → ((at : Entry) (cs cs' : Calls) → AreRelated R laws cs cs' → R Flow (run at cs) (run at cs'))
      → R Flow (taking_up labels run at cs) (taking_up labels run at cs')
  unfolding taking_up
  taking_up-r labels run at [] [] h p = bind-r R laws (p at [] [] h) λ f. caught-r labels f λ l. laws.stops Flow Bound
  taking_up-r labels run at [] (c' ∷ cs') h p = bind-r R laws (p at [] (c' ∷ cs') h) λ f. caught-r labels f λ l.
      laws.bounds Flow _ (taking_up-r labels run (At_label l) cs' cs' (second-r R laws [] cs' h.1) p)
  taking_up-r labels run at (c ∷ cs) [] h p = absurd h
  taking_up-r labels run at (c ∷ cs) (c' ∷ cs') h p =
      bind-r R laws (p at (c ∷ cs) (c' ∷ cs') h) λ f. caught-r labels f λ l. taking_up-r labels run (At_label l) cs cs' h.1 p

  pub after_body-r : {again again' : Act Flow} (flow : Flow) → R Flow again again' → R Flow (after_body again flow) (after_body again' flow)
  unfolding after_body
  after_body-r Normal p = p
  after_body-r Continues p = p
  after_body-r Breaks p = laws.gives Flow _
  after_body-r (Returns v) p = laws.gives Flow _
  after_body-r (Goes l) p = laws.gives Flow _

  -- the parts of a loop, in related lists of calls
  pub record Parts (ahead : Calls → Act Bool) (body : Entry → Calls → Act Flow) (behind : Calls → Act Bool) : Type 0 where
    pub test : (cs cs' : Calls) → AreRelated R laws cs cs' → R Bool (ahead cs) (ahead cs')
    pub middle : (at : Entry) (cs cs' : Calls) → AreRelated R laws cs cs' → R Flow (body at cs) (body at cs')
    pub last : (cs cs' : Calls) → AreRelated R laws cs cs' → R Bool (behind cs) (behind cs')

  pub turn-r : (ahead : Calls → Act Bool) (body : Entry → Calls → Act Flow) (behind : Calls → Act Bool) → Parts ahead body behind
      → (at : Entry) (cs cs' : Calls) → AreRelated R laws cs cs' → {top top' : Act Flow} → R Flow top top'
      → R Flow (turn body behind at cs top) (turn body behind at cs' top')
  unfolding turn
  turn-r ahead body behind p at cs cs' h q =
      bind-r R laws (p.middle at cs cs' h) λ f. after_body-r f (bind-r R laws (p.last cs cs' h) λ more. branch-r R laws more q (laws.gives Flow Normal))

  pub loop-r : (ahead : Calls → Act Bool) (body : Entry → Calls → Act Flow) (behind : Calls → Act Bool) → Parts ahead body behind
      → (cs cs' : Calls) → AreRelated R laws cs cs' → R Flow (loop ahead body behind cs) (loop ahead body behind cs')
  unfolding loop
  loop-r ahead body behind p [] [] h =
      bind-r R laws (p.test [] [] h) λ more. branch-r R laws more (turn-r ahead body behind p Front [] [] h (laws.stops Flow Bound)) (laws.gives Flow Normal)
  loop-r ahead body behind p [] (c' ∷ cs') h =
      bind-r R laws (p.test [] (c' ∷ cs') h) λ more. branch-r R laws more (turn-r ahead body behind p Front [] (c' ∷ cs') h
      (laws.bounds Flow _ (loop-r ahead body behind p cs' cs' (second-r R laws [] cs' h.1)))) (laws.gives Flow Normal)
  loop-r ahead body behind p (c ∷ cs) [] h = absurd h
  loop-r ahead body behind p (c ∷ cs) (c' ∷ cs') h =
      bind-r R laws (p.test (c ∷ cs) (c' ∷ cs') h) λ more.
      branch-r R laws more (turn-r ahead body behind p Front (c ∷ cs) (c' ∷ cs') h (loop-r ahead body behind p cs cs' h.1)) (laws.gives Flow Normal)

  pub meet_loop-r : (ahead : Calls → Act Bool) (body : Entry → Calls → Act Flow) (behind : Calls → Act Bool) → Parts ahead body behind
      → (at : Entry) (cs cs' : Calls) → AreRelated R laws cs cs' → R Flow (meet_loop ahead body behind at cs) (meet_loop ahead body behind at cs')
  unfolding meet_loop
  meet_loop-r ahead body behind p Front cs cs' h = loop-r ahead body behind p cs cs' h
  meet_loop-r ahead body behind p (At_label l) [] [] h = turn-r ahead body behind p (At_label l) [] [] h (laws.stops Flow Bound)
  meet_loop-r ahead body behind p (At_label l) [] (c' ∷ cs') h = turn-r ahead body behind p (At_label l) [] (c' ∷ cs') h
      (laws.bounds Flow _ (loop-r ahead body behind p cs' cs' (second-r R laws [] cs' h.1)))
  meet_loop-r ahead body behind p (At_label l) (c ∷ cs) [] h = absurd h
  meet_loop-r ahead body behind p (At_label l) (c ∷ cs) (c' ∷ cs') h =
      turn-r ahead body behind p (At_label l) (c ∷ cs) (c' ∷ cs') h (loop-r ahead body behind p cs cs' h.1)

  pub after_switch-r : (flow : Flow) → R Flow (after_switch flow) (after_switch flow)
  unfolding after_switch
  after_switch-r Breaks = laws.gives Flow _
  after_switch-r flow = laws.gives Flow _

  pub switch_to-r : (o : Option ℕ) {body body' : ℕ → Act Flow} → ((l : ℕ) → R Flow (body l) (body' l)) → R Flow (switch_to o body) (switch_to o body')
  unfolding switch_to
  switch_to-r None p = laws.gives Flow _
  switch_to-r (Some l) p = bind-r R laws (p l) λ f. after_switch-r f

  pub with_locals-r : {A : Type 0} (count first : ℕ) {act act' : Env → Act A} (e : Env) → ((e : Env) → R A (act e) (act' e))
      → R A (with_locals count first act e) (with_locals count first act' e)
  unfolding with_locals
  with_locals-r zero first e p = p e
  with_locals-r {A} (suc count) first e p =
      bind-r R laws (need-r R laws _) λ l. bind-r R laws (need-r R laws _) λ layout.
      laws.withs A _ _ _ _ λ n. with_locals-r count (suc first) _ p

  pub set_local-r : (a : Site) (k : ℕ) (v : Value) (e : Env) → R (Unit {0}) (set_local a k v e) (set_local a k v e)
  unfolding set_local
  set_local-r a k v e = bind-r R laws (need-r R laws _) λ l. bind-r R laws (local_place-r R laws e k) λ p. put-r R laws _ a _ _ p v

  pub initialise-r : (i : Initialiser) (cs cs' : Calls) (e : Env) → AreRelated R laws cs cs' → R (Unit {0}) (initialise i cs e) (initialise i cs' e)
  unfolding initialise
  initialise-r (ByValue k a) cs cs' e h = bind-r R laws (value-r a cs cs' e h) λ v. set_local-r _ k v e
  initialise-r (ByBytes k hidden parts) cs cs' e h =
      bind-r R laws (symbol_place-r R laws e _) λ source. bind-r R laws (local_place-r R laws e k) λ p.
      within-r R laws source λ from i. within-r R laws p λ to j. bind-r R laws (laws.looks _ _) λ bytes. laws.writes to j bytes

  pub initialise_all-r : (is : List Initialiser) (at : Entry) (cs cs' : Calls) (e : Env) → AreRelated R laws cs cs'
      → R (Unit {0}) (initialise_all is at cs e) (initialise_all is at cs' e)
  unfolding initialise_all
  initialise_all-r [] at cs cs' e h = laws.gives (Unit {0}) tt
  initialise_all-r (i ∷ rest) Front cs cs' e h = bind-r R laws (initialise-r i cs cs' e h) λ u. initialise_all-r rest Front cs cs' e h
  initialise_all-r (i ∷ rest) (At_label l) cs cs' e h = laws.gives (Unit {0}) tt

  mutual
    unfolding meaning items arms behind_arms

    pub meaning-r : (s : Statement) (at : Entry) (cs cs' : Calls) (e : Env) → AreRelated R laws cs cs' → R Flow (meaning s at cs e) (meaning s at cs' e)
    meaning-r (Evaluate t a) at cs cs' e h = bind-r R laws (answer-r a cs cs' e h) λ o. laws.gives Flow _
    meaning-r (Block t first count initialisers list) at cs cs' e h =
        with_locals-r count first e λ inner. bind-r R laws (initialise_all-r initialisers at cs cs' inner h) λ u.
        taking_up-r (labels_among list) (λ at' ds. items list at' ds inner) at cs cs' h λ at' ds ds' k. items-r list at' ds ds' inner k
    meaning-r (If t list otherwise) at cs cs' e h =
        taking_up-r _ (λ at' ds. arms list (labels_behind otherwise) (λ last. behind_arms otherwise last ds e) at' ds e) at cs cs' h λ at' ds ds' k.
        arms-r list (labels_behind otherwise) at' ds ds' e k λ last. behind_arms-r otherwise last ds ds' e k
    meaning-r (While t c body) at cs cs' e h =
        meet_loop-r (λ ds. condition c ds e) (λ at' ds. meaning body at' ds e) always (record {
          test = λ ds ds' k. condition-r c ds ds' e k;
          middle = λ at' ds ds' k. meaning-r body at' ds ds' e k;
          last = λ ds ds' k. always-r ds ds';
        }) at cs cs' h
    meaning-r (Do t body c) at cs cs' e h =
        meet_loop-r always (λ at' ds. meaning body at' ds e) (λ ds. condition c ds e) (record {
          test = λ ds ds' k. always-r ds ds';
          middle = λ at' ds ds' k. meaning-r body at' ds ds' e k;
          last = λ ds ds' k. condition-r c ds ds' e k;
        }) at cs cs' h
    meaning-r (For t first c third body) Front cs cs' e h =
        bind-r R laws (drop_value-r first cs cs' e h) λ u.
        meet_loop-r (λ ds. for_condition c ds e) (λ at' ds. meaning body at' ds e) (λ ds. drop_value third ds e >> give true) (record {
          test = λ ds ds' k. for_condition-r c ds ds' e k;
          middle = λ at' ds ds' k. meaning-r body at' ds ds' e k;
          last = λ ds ds' k. bind-r R laws (drop_value-r third ds ds' e k) λ u. laws.gives Bool true;
        }) Front cs cs' h
    meaning-r (For t first c third body) (At_label l) cs cs' e h =
        meet_loop-r (λ ds. for_condition c ds e) (λ at' ds. meaning body at' ds e) (λ ds. drop_value third ds e >> give true) (record {
          test = λ ds ds' k. for_condition-r c ds ds' e k;
          middle = λ at' ds ds' k. meaning-r body at' ds ds' e k;
          last = λ ds ds' k. bind-r R laws (drop_value-r third ds ds' e k) λ u. laws.gives Bool true;
        }) (At_label l) cs cs' h
    meaning-r (Switch t a cases default body) Front cs cs' e h =
        bind-r R laws (value-r a cs cs' e h) λ v. switch_to-r _ λ l. meaning-r body (At_label l) cs cs' e h
    meaning-r (Switch t a cases default body) (At_label l) cs cs' e h =
        bind-r R laws (meaning-r body (At_label l) cs cs' e h) λ f. after_switch-r f
    meaning-r (Label t labels body) at cs cs' e h =
        taking_up-r labels _ at cs cs' h λ at' ds ds' k. meaning-r body _ ds ds' e k
    meaning-r (Return t (Some a)) at cs cs' e h = bind-r R laws (value-r a cs cs' e h) λ v. laws.gives Flow _
    meaning-r _ at cs cs' e h = laws.gives Flow _

    pub items-r : (ss : Statements) (at : Entry) (cs cs' : Calls) (e : Env) → AreRelated R laws cs cs' → R Flow (items ss at cs e) (items ss at cs' e)
    items-r NoStatement at cs cs' e h = laws.gives Flow _
    items-r (OneStatement s rest) Front cs cs' e h =
        bind-r R laws (meaning-r s Front cs cs' e h) λ f. go_forward-r _ f (λ at'. items-r rest at' cs cs' e h) (items-r rest Front cs cs' e h)
    items-r (OneStatement s rest) (At_label l) cs cs' e h = branch-r R laws _
        (bind-r R laws (meaning-r s (At_label l) cs cs' e h) λ f. go_forward-r _ f (λ at'. items-r rest at' cs cs' e h) (items-r rest Front cs cs' e h))
        (items-r rest (At_label l) cs cs' e h)

    pub arms-r : (list : Arms) (labels : List ℕ) {last last' : Entry → Act Flow} (at : Entry) (cs cs' : Calls) (e : Env) → AreRelated R laws cs cs'
        → ((at : Entry) → R Flow (last at) (last' at)) → R Flow (arms list labels last at cs e) (arms list labels last' at cs' e)
    arms-r NoArm labels at cs cs' e h p = p at
    arms-r (Arm t c s rest) labels Front cs cs' e h p =
        bind-r R laws (condition-r c cs cs' e h) λ x. branch-r R laws x
        (bind-r R laws (meaning-r s Front cs cs' e h) λ f. go_forward-r _ f (λ at'. arms-r rest labels at' cs cs' e h p) (laws.gives Flow Normal))
        (arms-r rest labels Front cs cs' e h p)
    arms-r (Arm t c s rest) labels (At_label l) cs cs' e h p = branch-r R laws _
        (bind-r R laws (meaning-r s (At_label l) cs cs' e h) λ f. go_forward-r _ f (λ at'. arms-r rest labels at' cs cs' e h p) (laws.gives Flow Normal))
        (arms-r rest labels (At_label l) cs cs' e h p)

    pub behind_arms-r : (o : Otherwise) (at : Entry) (cs cs' : Calls) (e : Env) → AreRelated R laws cs cs' → R Flow (behind_arms o at cs e) (behind_arms o at cs' e)
    behind_arms-r NoElse at cs cs' e h = laws.gives Flow _
    behind_arms-r (Else s) at cs cs' e h = meaning-r s at cs cs' e h

  -- ---- calls

  pub set_parameters-r : (a : Site) (k : ℕ) (vs : List Value) (e : Env) → R (Unit {0}) (set_parameters a k vs e) (set_parameters a k vs e)
  unfolding set_parameters
  set_parameters-r a k [] e = laws.gives (Unit {0}) tt
  set_parameters-r a k (v ∷ vs) e = bind-r R laws (set_local-r a k v e) λ u. set_parameters-r a (suc k) vs e

  pub result_of-r : (f : Flow) → R (Option Value) (result_of f) (result_of f)
  unfolding result_of
  result_of-r Normal = laws.gives (Option Value) _
  result_of-r (Returns v) = laws.gives (Option Value) _
  result_of-r Breaks = wrong-r R laws (Option Value)
  result_of-r Continues = wrong-r R laws (Option Value)
  result_of-r (Goes l) = wrong-r R laws (Option Value)

  run_body-r : (w : World) (cs cs' : Calls) (name : List ℕ) (b : Body) (vs : List Value) → AreRelated R laws cs cs'
      → R (Option Value) (run_body w cs name b vs) (run_body w cs' name b vs)
  unfolding run_body
  run_body-r w cs cs' name (Defined home f) vs h =
      bind-r R laws (take_room-r R laws w name) λ u. laws.durings (Option Value) name _ _ (with_locals-r f.params 0 _ λ e.
      bind-r R laws (set_parameters-r _ 0 vs e) λ u. bind-r R laws (meaning-r f.body Front cs cs' e h) λ flow. result_of-r flow)
  run_body-r w cs cs' name (Library g) vs h = wrong-r R laws (Option Value)

  pub calls-r : (w : World) (n m : ℕ) → n ≤ m → AreRelated R laws (calls w n) (calls w m)
  unfolding calls callee
  calls-r w zero zero h = tt
  calls-r w zero (suc m) h =
      let self : AreRelated R laws (calls w m) (calls w m) = calls-r w m m (omega arith) in
      (λ f vs. run_body-r w (calls w m) (calls w m) f.name f.body vs self, calls-r w zero m (omega arith))
  calls-r w (suc n) zero h = absurd (omega arith)
  calls-r w (suc n) (suc m) h =
      let below : n ≤ m = omega arith in
      (λ f vs. run_body-r w (calls w n) (calls w m) f.name f.body vs (calls-r w n m below), calls-r w n m below)

  -- ---- a run

  pub finish-r : (b : Body) (o : Option Value) → R (Unit {0}) (finish b o) (finish b o)
  unfolding finish
  finish-r b (Some (V.Num n)) = laws.stops (Unit {0}) _
  finish-r (Defined home f) None = undefined-r R laws (Unit {0}) _ _
  finish-r _ _ = wrong-r R laws (Unit {0})

  pub run_main-r : (w : World) (n m : ℕ) → n ≤ m → R (Unit {0}) (run_main w n) (run_main w m)
  unfolding run_main
  run_main-r w n m h =
      bind-r R laws (need-r R laws _) λ main. bind-r R laws (call-r R laws w (calls w n) (calls w m) main [] (calls-r w n m h)) λ result.
      finish-r main.body result
