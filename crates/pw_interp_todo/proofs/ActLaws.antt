-- Acts in order, state by state.
use Rattle.std.proofs.Common.{◌≡◌, refl, Bool, true, false, Some}
use Rattle.pw_cmean.specs.Acts.{Act, State, Outcome, Gives, Ends, give, go_on, ◌>>=◌, branch, need}

-- what follows does the same
pub bind_same : {A B : Type 0} (o : Outcome A) (f g : A → Act B) → ((a : A) (t : State) → f a t ≡ g a t) → go_on o f ≡ go_on o g
unfolding go_on
bind_same (Gives a t) f g same = same a t
bind_same (Ends ending t) f g same = refl

-- three in order, however they are grouped
pub regroup : {A B C : Type 0} (o : Outcome A) (f : A → Act B) (g : B → Act C) → go_on (go_on o f) g ≡ go_on o (λ a. f a >>= g)
unfolding go_on ◌>>=◌
regroup (Gives a t) f g = refl
regroup (Ends ending t) f g = refl

pub grouped : {A B C : Type 0} (first : Act A) (f : A → Act B) (g : B → Act C) (s : State) → ((first >>= f) >>= g) s ≡ (first >>= λ a. f a >>= g) s
unfolding ◌>>=◌
grouped first f g s = regroup (first s) f g

-- behind the same
pub follow_same : {A B : Type 0} (first : Act A) (f g : A → Act B) (s : State) → ((a : A) (t : State) → f a t ≡ g a t) → (first >>= f) s ≡ (first >>= g) s
unfolding ◌>>=◌
follow_same first f g s same = bind_same (first s) f g same

-- what comes before does the same
pub lead_same : {A B : Type 0} (first other : Act A) (f : A → Act B) (s : State) → first s ≡ other s → (first >>= f) s ≡ (other >>= f) s
unfolding ◌>>=◌
lead_same first other f s same = rw same refl

-- a value that is given
pub given_on : {A B : Type 0} (a : A) (f : A → Act B) (s : State) → (give a >>= f) s ≡ f a s
unfolding ◌>>=◌ go_on give
given_on a f s = refl

-- a value that is there
pub needed : {A B : Type 0} (a : A) (f : A → Act B) (s : State) → (need (Some a) >>= f) s ≡ f a s
unfolding ◌>>=◌ go_on give need
needed a f s = refl

-- both of two acts do the same
pub branch_same : {A : Type 0} (test : Bool) (a b c d : Act A) (s : State) → a s ≡ c s → b s ≡ d s → branch test a b s ≡ branch test c d s
unfolding branch
branch_same true a b c d s one two = one
branch_same false a b c d s one two = two

pub branch_then : {A B : Type 0} (test : Bool) (a b : Act A) (f : A → Act B) (s : State) → (branch test a b >>= f) s ≡ branch test (a >>= f) (b >>= f) s
unfolding branch ◌>>=◌
branch_then true a b f s = refl
branch_then false a b f s = refl

-- a place that goes on as a result is never missing
pub through_place : {A B : Type 0} (first : Act A) (f : A → Act B) (s : State) → ((first >>= λ a. give (Some a)) >>= λ given. need given >>= f) s ≡ (first >>= f) s
unfolding ◌>>=◌ go_on give need
through_place first f s = by (first s)
  where
    by : (o : Outcome _) → go_on (go_on o (λ a. give (Some a))) (λ given. need given >>= f) ≡ go_on o f
    by (Gives a t) = refl
    by (Ends ending t) = refl
