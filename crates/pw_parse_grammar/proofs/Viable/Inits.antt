-- The tokens before a fault in an initializer begin one (6.5.7).
use Rattle.std.proofs.Common.{◌≡◌, ℕ, zero, suc, ◌+◌, ◌<◌, ◌≤◌, Bool, true, false, if◌then◌else◌, List, [], ◌∷◌, ◌++◌, length, map, Option, Some, None, arith, refl, sym, ap, ◌∙◌, subst}
use Rattle.pw_tree.specs.Scopes.{after_init, after_inits, after_initializer, Env}
use Rattle.pw_tree.specs.Spelling.{trailed, spell_init, spell_inits, spell_initializer}
use Rattle.pw_tree.specs.Symbols.{Symbol, Sign}
use Rattle.pw_tree.specs.Trees.{Init, Value, Braces, Inits, NoInit, Listed, Initializer}
use Rattle.pw_tree.specs.WellFormed.{HasInit, WellFormedInit, WellFormedInits, WellFormedInitializer}
use Rattle.pw_token.specs.declared.symbol.Mark.TheVariants as m
use Rattle.pw_parse_grammar.specs.Input.{Input, Parser, and_then, ◌>>=◌, ◌>>◌, pure, ◌<$>◌, step, sees, turns, repeat, turn_with}
use Rattle.pw_parse_grammar.specs.Input as input
use Rattle.pw_parse_grammar.specs.Declarations.{parts, inits_end, inits, braced, init_of, init, initializer}
use Rattle.pw_parse_grammar.proofs.Trees.Base.{names_of, no_turns}
use Rattle.pw_parse_grammar.proofs.Sound.Base.{Reads, nothing, both, sign}
use Rattle.pw_parse_grammar.proofs.Sound.Knot.{parts-sound}
use Rattle.pw_parse_grammar.proofs.Viable.Base.{Does, bind-fails, bind-does, choose-fails, Form, Viable, missing, embed, as_part, counted, expected-fails, eaten-fails}
use Rattle.pw_parse_grammar.proofs.Viable.Knot.{parts-viable}
use Rattle.pw_parse_grammar.proofs.Viable.Lists.{Leads, DoneTurn, repeat-does}
use Rattle.pw_parse_grammar.proofs.Viable.Things.{Stands, Handles, flat, below}

abbrev pub init_trees : Form Init
init_trees = record { holds = WellFormedInit; put = spell_init }

-- initializers, one or more, and whether a comma stands behind
abbrev pub init_lists : Form (Inits × Bool)
init_lists = record { holds = λ env p. HasInit p.0 × WellFormedInits env p.0; put = λ p z. spell_inits true p.0 (trailed p.1 z) }

abbrev pub after_list : Env → Inits × Bool → Env
after_list env p = after_inits env p.0

abbrev pub initializers : Form (Option Initializer)
initializers = record { holds = WellFormedInitializer; put = spell_initializer }

-- behind an initializer a comma, or the end of the list
abbrev IsEnd : Env → Input → Option (Inits × Bool) → Input → Type 0
IsEnd inner j None k = Reads j k inner (λ z. Sign m.Comma ∷ z)
IsEnd inner j (Some p) k = (p.0 ≡ NoInit) × Reads j k inner (trailed p.1)

end-does : (V : Input → Type 0) (inner : Env) (j : Input) → j.names ≡ names_of inner → Does (IsEnd inner j) V (inits_end j)
unfolding inits_end
end-does V inner j names = eaten-fails (IsEnd inner j) V j inner m.Comma ((λ closed. if closed then Some (NoInit, true) else None) <$> input.asks (sees m.CloseBrace)) (pure (Some (NoInit, false))) names
    (λ k comma. by k comma (sees m.CloseBrace k))
    (λ _. (refl, nothing j inner names))
  where
    by : (k : Input) → Reads j k inner (λ z. Sign m.Comma ∷ z) → (b : Bool) → IsEnd inner j (if b then Some (NoInit, true) else None) k
    by k comma true = (refl, comma)
    by k comma false = comma

-- a comma stands before the rest of a list
comma_first : (is : Inits) → HasInit is → (z : List Symbol) → spell_inits false is z ≡ Sign m.Comma ∷ spell_inits true is z
unfolding spell_init
comma_first NoInit h z = absurd h
comma_first (Listed x is) h z = refl

-- the same tokens, said otherwise
reads_as : {i j : Input} {env : Env} {p q : List Symbol → List Symbol} → ((z : List Symbol) → p z ≡ q z) → Reads i j env p → Reads i j env q
reads_as {i = i} {j = j} {env = env} {p = p} {q = q} e r = record {
  text = subst (λ v. i.rest ≡ input_text v) (e []) r.text;
  next = subst (λ v. j.next ≡ i.next + length v) (e []) r.next;
  names = r.names;
  plain = λ z. sym (e z) ∙ r.plain z ∙ ap (λ v. v ++ z) (e []);
}
  where
    input_text : List Symbol → List (Option Symbol)
    input_text v = map Some v ++ j.rest

last_init : (env : Env) (i : Input) (x : Init) (j k : Input) (trailing : Bool) → Stands init_trees after_init env i x j → Reads j k (after_init env x) (trailed trailing) → Stands init_lists after_list env i (Listed x NoInit, trailing) k
unfolding spell_init after_init WellFormedInit
last_init env i x j k trailing q c = record { reads = both q.reads c; holds = (tt, (q.holds, tt)) }

more_inits : (env : Env) (i : Input) (x : Init) (j k : Input) → Stands init_trees after_init env i x j → Reads j k (after_init env x) (λ z. Sign m.Comma ∷ z)
    → Leads (Stands init_lists after_list) (Viable init_lists) env i (λ more. (Listed x more.0, more.1)) k
unfolding spell_init after_init WellFormedInit
more_inits env i x j k q c = record {
  on = record {
    inner = after_init env x;
    names = c.names;
    shorter = omega (arith, counted q.reads, counted c);
    rest = λ e v. embed (both q.reads c) v (λ l w. record { thing = (Listed x l.0, l.1); holds = (tt, (q.holds, w.1)); spells = λ z. (z, ap (spell_init x) (comma_first l.0 w.0 (trailed l.1 z))) });
  };
  whole = λ l end r. record { reads = reads_as (λ z. ap (spell_init x) (sym (comma_first l.0 r.holds.0 (trailed l.1 z)))) (both q.reads (both c r.reads)); holds = (tt, (q.holds, r.holds.1)) };
}

inits-does : (d : ℕ) (p : Parser Init) → Handles init_trees after_init d p → Handles init_lists after_list d (inits p)
unfolding inits spell_init WellFormedInit
inits-does d p h env i names less = repeat-does (Stands init_lists after_list) (Viable init_lists) d (((λ x more. (Listed x more.0, more.1)) <$> p) >>= λ first. turn_with first <$> inits_end) turn (turns i) env i names less (omega arith)
  where
    by : (env : Env) (i : Input) (x : Init) (j : Input) → Stands init_trees after_init env i x j → (o : Option (Inits × Bool)) (k : Input) → IsEnd (after_init env x) j o k
        → DoneTurn (Stands init_lists after_list) (Viable init_lists) env i (turn_with (λ more. (Listed x more.0, more.1)) o) k
    by env i x j q None k c = more_inits env i x j k q c
    by env i x j q (Some l) k c = subst (λ v. Stands init_lists after_list env i (Listed x v, l.1) k) (sym c.0) (last_init env i x j k l.1 q c.1)

    turn : (env : Env) (i : Input) → i.names ≡ names_of env → length i.rest < d → Does (DoneTurn (Stands init_lists after_list) (Viable init_lists) env i) (Viable init_lists env i) ((((λ x more. (Listed x more.0, more.1)) <$> p) >>= λ first. turn_with first <$> inits_end) i)
    turn env i names less = flat _ _ (p i) (λ x. pure (λ more. (Listed x more.0, more.1))) (λ first. turn_with first <$> inits_end)
        (bind-does _ _ (p i) (λ x. turn_with (λ more. (Listed x more.0, more.1)) <$> inits_end) (h env i names less)
        (λ e v. as_part v (λ x w. record { thing = (Listed x NoInit, false); holds = (tt, (w, tt)); spells = λ z. (z, refl) }))
        (λ x j q. bind-does _ (Viable init_lists env i) (inits_end j) (λ o. pure (turn_with (λ more. (Listed x more.0, more.1)) o)) (end-does (Viable init_lists env i) (after_init env x) j q.reads.names) (λ e v. v) (by env i x j q)))

braced-does : (d : ℕ) (p : Parser Init) → Handles init_trees after_init d p → (env : Env) (i : Input) → sees m.OpenBrace i ≡ true → i.names ≡ names_of env → length i.rest < suc d → Does (Stands init_trees after_init env i) (Viable init_trees env i) (braced p i)
unfolding braced spell_init after_init WellFormedInit
braced-does d p h env i opens names less =
    let t = sign i env m.OpenBrace opens names in
    bind-does _ _ (inits p (step i)) (λ l. input.expect m.CloseBrace >> pure (Braces i.next l.0 l.1)) (inits-does d p h env (step i) t.names (omega (arith, counted t, less)))
    (λ e v. embed t v (λ l w. record { thing = Braces i.next l.0 l.1; holds = w; spells = λ z. (Sign m.CloseBrace ∷ z, refl) })) (λ l y q.
    expected-fails _ _ y (after_inits env l.0) m.CloseBrace (pure (Braces i.next l.0 l.1)) q.reads.names
    (missing (both t q.reads) (record { thing = Braces i.next l.0 l.1; holds = q.holds; spells = λ z. (Sign m.CloseBrace ∷ z, refl) }))
    (λ j c. record { reads = both t (both q.reads c); holds = q.holds }))

module _ (limit : ℕ) where
  init_of-does : (d : ℕ) (p : Parser Init) → suc d ≤ limit → Handles init_trees after_init d p → Handles init_trees after_init (suc d) (init_of limit p)
  unfolding init_of spell_init after_init WellFormedInit
  init_of-does d p le h env i names less = choose-fails _ _ (sees m.OpenBrace i) (braced p) (Value <$> (parts limit).expr 15) i
      (λ opens. braced-does d p h env i opens names less)
      (λ _. bind-fails _ _ ((parts limit).expr 15 i) (λ e. pure (Value e)) ((parts-sound limit).expr 15 (omega arith) env i names) ((parts-viable limit).expr 15 (omega arith) env i names (omega (arith, le, less)))
      (λ e v. as_part v (λ x w. record { thing = Value x; holds = (w.1, w.0); spells = λ z. (z, refl) }))
      (λ e j q. record { reads = q.reads; holds = (q.low, q.holds) }))

  init-does : (depth : ℕ) → depth ≤ limit → Handles init_trees after_init depth (init limit depth)
  unfolding init
  init-does zero le env i names less = no_turns less
  init-does (suc depth) le env i names less = init_of-does depth (init limit depth) le (init-does depth (omega (arith, le))) env i names less

  pub initializer-does : Handles initializers after_initializer limit (initializer limit)
  unfolding initializer
  initializer-does env i names less = choose-fails _ _ (sees m.Equal i) (input.take_number >>= λ n. init limit limit >>= λ x. pure (Some (record { token = n; init = x }))) (pure None) i
      (λ equal. let t = sign i env m.Equal equal names in
      bind-does _ _ (init limit limit (step i)) (λ x. pure (Some (record { token = i.next; init = x }))) (init-does limit (omega arith) env (step i) t.names (below t less))
      (λ e v. embed t v (λ x w. record { thing = Some (record { token = i.next; init = x }); holds = w; spells = λ z. (z, refl) }))
      (λ x j q. record { reads = both t q.reads; holds = q.holds }))
      (λ _. record { reads = nothing i env names; holds = tt })
