-- One step of the walk that looks for the first token that is nested too deep.
use Rattle.std.proofs.Common.{◌≡◌, ℕ, ◌+◌, ◌<◌, ◌≤◌, Bool, true, false, cond, List, [], ◌∷◌, length, drop, map, get_or, nat_lt, Option, Some, None, ap, arith, sym, ◌∙◌}
use Rattle.std.specs.List.{position_from}
use Rattle.std.proofs.lemmas.List.{drop_more, drop_all}
use Rattle.pw_token.specs.Limits.{nest_limit}
use Rattle.pw_token.specs.Nesting.{State, nests_from, nest_at, after, first_role, operand_after, effect}
use Rattle.pw_token.specs.declared.levels.Level.{Level}
use Rattle.pw_token.specs.Roles.{role_in}
use Rattle.pw_token.specs.declared.roles.Role.{Role}
use Rattle.pw_token.specs.declared.token.Token.{Token}

abbrev pub search_from : ℕ → State → List Role → Option ℕ
search_from i s rs = position_from (λ nest. nat_lt nest_limit nest) i (nests_from s rs)

roles-more : (text : List ℕ) (tokens : List Token) (k : ℕ) (d : Token) → k < length tokens → map (role_in text) (drop k tokens) ≡ role_in text (get_or tokens k d) ∷ map (role_in text) (drop (k + 1) tokens)
roles-more text tokens k d l = ap (map (role_in text)) (drop_more tokens k d l)

pub first-more : (text : List ℕ) (tokens : List Token) (k : ℕ) (d : Token) → k < length tokens → first_role (map (role_in text) (drop k tokens)) ≡ role_in text (get_or tokens k d)
first-more text tokens k d l = ap first_role (roles-more text tokens k d l)

pub first-none : (text : List ℕ) (tokens : List Token) (k : ℕ) → length tokens ≤ k → first_role (map (role_in text) (drop k tokens)) ≡ first_role []
first-none text tokens k l = ap (λ x. first_role (map (role_in text) x)) (drop_all k tokens l)

split : (text : List ℕ) (tokens : List Token) (k : ℕ) (r : Role) → k < length tokens → r ≡ first_role (map (role_in text) (drop k tokens))
    → map (role_in text) (drop k tokens) ≡ r ∷ map (role_in text) (drop (k + 1) tokens)
split text [] k r l e = absurd (omega arith)
split text (t ∷ tokens) k r l e =
    let more = roles-more text (t ∷ tokens) k t l in
    more ∙ ap (λ x. x ∷ map (role_in text) (drop (k + 1) (t ∷ tokens))) (sym (e ∙ ap first_role more))

-- the token at k has nesting over the limit
pub found-here : (text : List ℕ) (tokens : List Token) (k : ℕ) (s : State) (r next : Role) (nest : ℕ) → k < length tokens
    → r ≡ first_role (map (role_in text) (drop k tokens)) → next ≡ first_role (map (role_in text) (drop (k + 1) tokens))
    → nest ≡ nest_at r next s → nat_lt nest_limit nest ≡ true → search_from (k + 1) s (map (role_in text) (drop k tokens)) ≡ Some (k + 1)
found-here text tokens k s r next nest l e n is deep =
    let rest = map (role_in text) (drop (k + 1) tokens) in
    let test : nat_lt nest_limit (nest_at r (first_role rest) s) ≡ true = sym (ap (λ x. nat_lt nest_limit (nest_at r x s)) n) ∙ ap (nat_lt nest_limit) (sym is) ∙ deep in
    ap (search_from (k + 1) s) (split text tokens k r l e) ∙ ap (λ b. cond b (Some (k + 1)) (search_from (k + 1 + 1) (after r (first_role rest) s) rest)) test

pub go-on : (text : List ℕ) (tokens : List Token) (k : ℕ) (s : State) (r next : Role) (nest : ℕ) → k < length tokens
    → r ≡ first_role (map (role_in text) (drop k tokens)) → next ≡ first_role (map (role_in text) (drop (k + 1) tokens))
    → nest ≡ nest_at r next s → nat_lt nest_limit nest ≡ false
    → search_from (k + 1) s (map (role_in text) (drop k tokens)) ≡ search_from (k + 1 + 1) (after r next s) (map (role_in text) (drop (k + 1) tokens))
go-on text tokens k s r next nest l e n is shallow =
    let rest = map (role_in text) (drop (k + 1) tokens) in
    let test : nat_lt nest_limit (nest_at r (first_role rest) s) ≡ false = sym (ap (λ x. nat_lt nest_limit (nest_at r x s)) n) ∙ ap (nat_lt nest_limit) (sym is) ∙ shallow in
    ap (search_from (k + 1) s) (split text tokens k r l e) ∙ ap (λ b. cond b (Some (k + 1)) (search_from (k + 1 + 1) (after r (first_role rest) s) rest)) test
    ∙ ap (λ x. search_from (k + 1 + 1) (after r x s) rest) (sym n)

pub none-left : (text : List ℕ) (tokens : List Token) (k i : ℕ) (s : State) → length tokens ≤ k → search_from i s (map (role_in text) (drop k tokens)) ≡ None
none-left text tokens k i s l = ap (λ x. search_from i s (map (role_in text) x)) (drop_all k tokens l)

-- the state after a token, as the code has it
pub stepped : (i : ℕ) (r next : Role) (s : State) (operand : Bool) (levels : List Level) (rs : List Role) (answer : Option ℕ) → operand ≡ operand_after r s.operand → levels ≡ effect r next s
    → answer ≡ search_from i (after r next s) rs → search_from i (record { before = r; operand = operand; levels = levels }) rs ≡ answer
stepped i r next s operand levels rs answer e f h =
    ap (λ x. search_from i (record { before = r; operand = x; levels = levels }) rs) e ∙ ap (λ x. search_from i (record { before = r; operand = operand_after r s.operand; levels = x }) rs) f ∙ sym h
