-- Each turn leaves less to expand.
use Rattle.std.proofs.Common.{◌≡◌, ℕ, ◌+◌, ◌-◌, ◌<◌, ◌≤◌, Bool, true, false, if◌then◌else◌, List, [], ◌∷◌, ◌++◌, length, map, reverse, length-append, Result, Ok, Err, refl, sym, ap, ◌∙◌, subst, arith}
use Rattle.std.proofs.lemmas.List.{length-map, length-reverse, reverse-append}
use Rattle.std.proofs.lemmas.Result.{IfOk-weaker}
use Rattle.std.specs.Prelude.{IfOk}
use Rattle.pw_token.specs.Roles.{spelling}
use Rattle.pw_token.specs.declared.token.Token.{Token}
use Rattle.pw_cpp_expand.specs.AtHand.{AnswersRead, Named, PutsOut, PutsResult, raw_named, waiting_for}
use Rattle.pw_cpp_expand.specs.Calls.{Closed, arguments_of, is_used}
use Rattle.pw_cpp_expand.specs.Expansion.{produced_limit, producing}
use Rattle.pw_cpp_expand.specs.Left.{left, left_of_call, left_of_calls, left_of_raws}
use Rattle.pw_cpp_expand.specs.Lookahead.{At, Lexeme}
use Rattle.pw_cpp_expand.specs.Numbered.{AnswersAhead, HaveEmpty, all_named, at_hand, named}
use Rattle.pw_cpp_expand.specs.declared.expansion.Call.{Call}
use Rattle.pw_cpp_expand.specs.declared.expansion.Expander.{Expander}
use Rattle.pw_cpp_expand.specs.declared.expansion.Raw.{Raw}
use Rattle.pw_cpp_expand.specs.declared.expansion.Read.{Read}
use Rattle.pw_cpp_expand.specs.declared.progress.ExpandFault.{ExpandFault}
use Rattle.pw_cpp_expand.specs.declared.progress.Lexeme.{Lexeme as Numbered}
use Rattle.pw_cpp_expand.specs.declared.progress.Mode.{Mode}
use Rattle.pw_cpp_expand.specs.declared.progress.Progress.{Progress}
use Rattle.pw_cpp_expand.proofs.GoingOn.{HasFewTokens, collects-few, looks-few, weight}
use Rattle.pw_cpp_sets.specs.Sets.{Known}

-- ---- arguments that wait

raws_append : (xs ys : List Raw) → left_of_raws (xs ++ ys) ≡ left_of_raws xs + left_of_raws ys
raws_append [] ys = omega arith
raws_append (x ∷ xs) ys = omega (arith, raws_append xs ys)

raws_reverse : (xs : List Raw) → left_of_raws (reverse xs) ≡ left_of_raws xs
raws_reverse [] = refl
raws_reverse (x ∷ xs) = omega (arith, ap left_of_raws (reverse-append (x ∷ []) xs), raws_append (reverse xs) (x ∷ []), raws_reverse xs)

abbrev weight_named : List Named → ℕ
weight_named [] = 0
weight_named (argument ∷ arguments) = 1 + length argument.1 + weight_named arguments

raws_named : (source : List ℕ) (known : Known) (raws : List Raw) → weight_named (map (raw_named source known) raws) ≡ left_of_raws raws
raws_named source known [] = refl
raws_named source known (raw ∷ raws) = omega (arith, raws_named source known raws, length-map raw.tokens (named known))

waiting_few : (source : List ℕ) (replacement parameters : List Token) (arguments : List (List Lexeme)) → weight_named (waiting_for source replacement parameters arguments) ≤ weight arguments
waiting_few source replacement [] [] = omega arith
waiting_few source replacement [] (argument ∷ arguments) = omega arith
waiting_few source replacement (parameter ∷ parameters) [] = omega arith
waiting_few source replacement (parameter ∷ parameters) (argument ∷ arguments) = by (is_used source replacement parameter) (waiting_few source replacement parameters arguments)
  where
    by : (b : Bool) → weight_named (waiting_for source replacement parameters arguments) ≤ weight arguments
        → weight_named (if b then (spelling source parameter, argument) ∷ waiting_for source replacement parameters arguments else waiting_for source replacement parameters arguments)
        ≤ 1 + length argument + weight arguments
    by true l = omega (arith, l)
    by false l = omega (arith, l)

given_few : (parameters : List Token) (arguments : List (List Lexeme)) → weight (arguments_of parameters arguments) ≤ weight arguments
given_few (parameter ∷ parameters) arguments = omega arith
given_few [] [] = omega arith
given_few [] ([] ∷ []) = omega arith
given_few [] ([] ∷ argument ∷ arguments) = omega arith
given_few [] ((t ∷ argument) ∷ arguments) = omega arith

hand_length : (known : Known) (ls : List Numbered) → length (at_hand known ls) ≡ length ls
hand_length known ls = length-map (reverse ls) (named known) ∙ length-reverse ls

-- ---- what is read on

-- so much is at hand, with what is left of the text no more than was before, and no more may be produced
pub record IsLess (size count other : ℕ) (p q : Progress) : Type 0 where
  pub further : p.next ≤ q.next
  pub within : q.next ≤ size
  pub few : count + p.next ≤ other + q.next
  pub produced : q.produced ≡ p.produced

pub looks-less : HasFewTokens → (text : List ℕ) (mode : Mode) (old new : List Numbered) (p q : Progress) (known : Known) → HaveEmpty known → q.next ≤ length text
    → AnswersAhead text mode old p new q (Ok (tt {0})) → IsLess (length text) (length new) (length old) p q
looks-less few text mode old new p q known empty within answers =
    let less = looks-few few text mode (at_hand known old) p (At (at_hand known new) q) (answers known empty) in
    record { further = less.0; within = within; few = omega (arith, less.1, hand_length known old, hand_length known new); produced = less.2 }

pub reads-less : HasFewTokens → (source text : List ℕ) (mode : Mode) (parameters replacement : List Token) (place : ℕ) (old new : List Numbered) (p q : Progress) (read : Read) (known : Known) → HaveEmpty known
    → q.next ≤ length text → AnswersRead source text mode parameters replacement place old p new q (Ok read) → IsLess (length text) (left_of_raws read.waiting + length new) (length old) p q
reads-less few source text mode parameters replacement place old new p q read known empty within answers =
    let found = answers known empty in
    let less = collects-few few text source mode 0 ([] ∷ []) (at_hand known old) p (Closed found.0 (named known read.close) (at_hand known new) q) (omega arith) found.1 in
    record {
      further = less.0;
      within = within;
      few =
          omega (
            arith,
            less.1,
            ap weight_named found.3,
            raws_named source known (reverse read.waiting),
            raws_reverse read.waiting,
            waiting_few source replacement parameters (arguments_of parameters found.0),
            given_few parameters found.0,
            hand_length known old,
            hand_length known new,
          );
      produced = less.2;
    }

-- ---- steps

calls_more : (calls : List Call) (call : Call) → left_of_calls (calls ++ call ∷ []) ≡ left_of_calls calls + left_of_call call
calls_more [] call = omega arith
calls_more (other ∷ calls) call = omega (arith, calls_more calls call)

-- what is no more than one thing is less than another
pub if-less : (result : Result (Unit {0}) ExpandFault) (a b c : ℕ) → b < c → IfOk result (λ x. a ≤ b) → IfOk result (λ x. a < c)
if-less result a b c l h = IfOk-weaker result (λ x. a ≤ b) (λ x. a < c) (λ x k. omega (arith, l, k)) h

pub if-most : (result : Result (Unit {0}) ExpandFault) (a b c : ℕ) → b ≤ c → IfOk result (λ x. a ≤ b) → IfOk result (λ x. a ≤ c)
if-most result a b c l h = IfOk-weaker result (λ x. a ≤ b) (λ x. a ≤ c) (λ x k. omega (arith, l, k)) h

module _ (size : ℕ) (e : Expander) (p : Progress) where
  -- a token that is put out
  pub out-left : (mode : Mode) (l : Numbered) (f : Expander) (q : Progress) (result : Result (Unit {0}) ExpandFault) → PutsOut mode l e p f q result → IfOk result (λ x. left size f q ≤ left size e p)
  out-left mode l f q (Ok done) h =
      subst (λ x. left size x q ≤ left size e p) (sym h.0) (subst (λ y. left size (record e { out = e.out ++ l ∷ [] }) y ≤ left size e p) (sym h.1) (omega arith))
  out-left mode l f q (Err fault) h = tt

  -- a result that is put in front
  pub result-left : (made : List Numbered) (place : ℕ) (f : Expander) (q : Progress) (result : Result (Unit {0}) ExpandFault) → PutsResult made place e p f q result
      → IfOk result (λ x. left size f q ≤ left size e p)
  result-left made place f q (Ok done) h =
      subst (λ x. left size x q ≤ left size e p) (sym h.0)
      (subst (λ y. left size (record e { pending = e.pending ++ reverse made }) y ≤ left size e p) (sym h.1) (omega (arith, h.2, length-append e.pending (reverse made), length-reverse made)))
  result-left made place f q (Err fault) h = tt

  -- an argument that is begun, where nothing is at hand
  begun_left : (call : Call) (tokens : List Numbered) (f : Expander) → f ≡ record e { calls = e.calls ++ call ∷ []; pending = reverse tokens }
      → left size f p ≤ (produced_limit - p.produced) + (size - p.next) + length tokens + (left_of_calls e.calls + left_of_call call)
  begun_left call tokens f is =
      subst (λ x. left size x p ≤ (produced_limit - p.produced) + (size - p.next) + length tokens + (left_of_calls e.calls + left_of_call call)) (sym is)
      (omega (arith, length-reverse tokens, calls_more e.calls call))

  -- the next one of a call
  pub next-left : (call begun : Call) (next : Raw) (f : Expander) → call.waiting ≡ begun.waiting ++ next ∷ [] → call.behind ≡ begun.behind
      → f ≡ record e { calls = e.calls ++ begun ∷ []; pending = reverse next.tokens } → left size f p < left size e p + left_of_call call
  next-left call begun next f waits behind is =
      omega (arith, begun_left begun next.tokens f is, ap left_of_raws waits, raws_append begun.waiting (next ∷ []), ap length behind)

  -- the first one of a call that was read
  pub first-left : (old : List Numbered) (call : Call) (waiting : List Raw) (next : Raw) (f : Expander) (start : Progress) → waiting ≡ call.waiting ++ next ∷ []
      → IsLess size (left_of_raws waiting + length call.behind) (length old) start p
      → f ≡ record e { calls = e.calls ++ call ∷ []; pending = reverse next.tokens } → left size f p ≤ left size (record e { pending = old }) start + 1
  first-left old call waiting next f start waits less is =
      omega (arith, begun_left call next.tokens f is, ap left_of_raws waits, raws_append call.waiting (next ∷ []), less.further, less.within, less.few, less.produced)

-- ---- what was read on before

module _ (size : ℕ) (e : Expander) (start p : Progress) (old pending : List Numbered) where
  pub looked-left : IsLess size (length pending) (length old) start p → left size (record e { pending = pending }) p ≤ left size (record e { pending = old }) start
  looked-left less = omega (arith, less.further, less.within, less.few, less.produced)

  -- the token ahead is taken off
  pub taken-left : (rest : List Numbered) (first : Numbered) → pending ≡ rest ++ first ∷ [] → IsLess size (length pending) (length old) start p
      → left size (record e { pending = rest }) p + 1 ≤ left size (record e { pending = old }) start
  taken-left rest first takes less = omega (arith, ap length takes, length-append rest (first ∷ []), less.further, less.within, less.few, less.produced)

  -- a call that has no arguments to expand
  pub none-left : (waiting : ℕ) → IsLess size (waiting + length pending) (length old) start p → left size (record e { pending = [] }) p + length pending ≤ left size (record e { pending = old }) start
  none-left waiting less = omega (arith, less.further, less.within, less.few, less.produced)

-- ---- turns

pub turn-first : (size : ℕ) (e : Expander) (p : Progress) (rest : List Numbered) (first : Numbered) → e.pending ≡ rest ++ first ∷ [] → left size (record e { pending = rest }) p < left size e p
turn-first size e p rest first takes = omega (arith, ap length takes, length-append rest (first ∷ []))

pub turn-inner : (size : ℕ) (e : Expander) (p : Progress) (calls : List Call) (call : Call) → e.pending ≡ [] → e.calls ≡ calls ++ call ∷ []
    → left size (record e { pending = []; calls = calls }) p + left_of_call call ≤ left size e p
turn-inner size e p calls call none takes = omega (arith, ap left_of_calls takes, calls_more calls call)
