-- Rules and the objects without a name that they make: a rule that reads a phrase makes no more of them than the phrase has tokens.
use Rattle.std.specs.Prelude.{ℕ, suc, ◌≡◌, ◌+◌, ◌≤◌, Bool, true, false, List, length}
use Rattle.std.proofs.Common.{arith, ap}
use Rattle.pw_tree.specs.Spelling.{separated}
use Rattle.pw_tree.specs.Symbols.{Symbol}
use Rattle.pw_check_walk.specs.Walks.{Walk, bind}
use Rattle.pw_check_rules.specs.States.{State, HiddenObject, next_hidden}
use Rattle.pw_law_checked.proofs.Walking.{Post, post_bind, post_weaken}
use Rattle.pw_law_checked.proofs.Still.{Still}

-- With so many tokens before it and so many behind it, a rule has made no more objects without a name than tokens were read.
abbrev pub Spends : {A : Type 0} → ℕ → ℕ → State → A × State → Type 0
Spends before behind s r = next_hidden r.1 + behind ≤ next_hidden s + before

-- the objects without a name are the same
abbrev pub Same : {A : Type 0} → State → A × State → Type 0
Same s r = r.1.made.hidden ≡ s.made.hidden

-- ---- numbers

chain : (x y z before between behind : ℕ) → y + between ≤ x + before → z + behind ≤ y + between → z + behind ≤ x + before
chain x y z before between behind h k = omega (arith, h, k)

level : (x y n : ℕ) → y ≡ x → y + n ≤ x + n
level x y n e = omega (arith, e)

wider : (x y before behind more less : ℕ) → before + less ≤ more + behind → y + behind ≤ x + before → y + less ≤ x + more
wider x y before behind more less h k = omega (arith, h, k)

pub stays : (x n : ℕ) → x + n ≤ x + n
stays x n = omega arith

-- ---- walks

pub then_spends : {A B : Type 0} (before between behind : ℕ) (s : State) (w : Walk (A × State)) (next : A × State → Walk (B × State))
    → Post w (Spends before between s) → ((r : A × State) → Post (next r) (Spends between behind r.1)) → Post (bind w next) (Spends before behind s)
then_spends {A} {B} before between behind s w next h k =
    post_bind w next (Spends before between s) (Spends before behind s) h (λ r e.
    post_weaken (next r) (Spends between behind r.1) (Spends before behind s) (k r) (λ u f. chain (next_hidden s) (next_hidden r.1) (next_hidden u.1) before between behind e f))

pub still_spends : {A : Type 0} (n : ℕ) (s : State) (w : Walk (A × State)) → Post w (Still s) → Post w (Spends n n s)
still_spends {A} n s w h = post_weaken w (Still s) (Spends n n s) h (λ r e. level (next_hidden s) (next_hidden r.1) n (ap next_hidden e))

pub same_spends : {A : Type 0} (n : ℕ) (s : State) (w : Walk (A × State)) → Post w (Same s) → Post w (Spends n n s)
same_spends {A} n s w h = post_weaken w (Same s) (Spends n n s) h (λ r e. level (next_hidden s) (next_hidden r.1) n (ap (λ (xs : List HiddenObject). length xs) e))

pub wider_spends : {A : Type 0} (before behind more less : ℕ) (s : State) (w : Walk (A × State)) → before + less ≤ more + behind → Post w (Spends before behind s) → Post w (Spends more less s)
wider_spends {A} before behind more less s w h k = post_weaken w (Spends before behind s) (Spends more less s) k (λ r e. wider (next_hidden s) (next_hidden r.1) before behind more less h e)

-- a token more before the phrase, or one behind it
pub token_before : {A : Type 0} (before behind : ℕ) (s : State) (w : Walk (A × State)) → Post w (Spends before behind s) → Post w (Spends (suc before) behind s)
token_before {A} before behind s w h = wider_spends before behind (suc before) behind s w (omega arith) h

pub token_behind : {A : Type 0} (before behind : ℕ) (s : State) (w : Walk (A × State)) → Post w (Spends before (suc behind) s) → Post w (Spends before behind s)
token_behind {A} before behind s w h = wider_spends before (suc behind) before behind s w (omega arith) h

-- ---- lists with commas

pub comma_before : {A : Type 0} (behind : ℕ) (first : Bool) (xs : List Symbol) (s : State) (w : Walk (A × State)) → Post w (Spends (length xs) behind s) → Post w (Spends (length (separated first xs)) behind s)
comma_before _ true xs s w h = h
comma_before {A} behind false xs s w h = token_before (length xs) behind s w h

-- The first item of a list may cost one more than it has tokens, for there is a token before the list; each other one has its comma.
abbrev pub with_lead : Bool → ℕ → ℕ
with_lead true n = suc n
with_lead false n = n

pub item_before : {A : Type 0} (behind : ℕ) (first : Bool) (xs : List Symbol) (s : State) (w : Walk (A × State)) → Post w (Spends (suc (length xs)) behind s) → Post w (Spends (with_lead first (length (separated first xs))) behind s)
item_before _ true xs s w h = h
item_before _ false xs s w h = h

pub no_item : (first : Bool) (x n : ℕ) → x + n ≤ x + with_lead first n
no_item true x n = omega arith
no_item false x n = omega arith
