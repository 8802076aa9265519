-- What every operation asks for: it depends on what the operation reads, its result goes where the operation says, and a call
-- alone enters a function.
use Rattle.std.specs.Prelude.{ℕ, suc, ◌≡◌, Bool, true, false, if◌then◌else◌, Option, Some, None, List, [], ◌∷◌, map, bytes_eq, Contains}
use Rattle.std.proofs.Common.{arith, refl, ap, ap₂}
use Rattle.pw_value.specs.declared.value.Value.{Value}
use Rattle.pw_value.specs.declared.value.Value.TheVariants.{At}
use Rattle.pw_value.specs.declared.value.Pointer.TheVariants as P
use Rattle.pw_flow.specs.declared.flow.Op.TheVariants as op
use Rattle.pw_run_languages.specs.Values.{unary, extension}
use Rattle.pw_run_languages.specs.Programs.{Program, function_at, shape_of}
use Rattle.pw_run_languages.specs.Commands as asks
use Rattle.pw_run_languages.specs.Commands.{command}
use Rattle.pw_law_operations.specs.Laws.{CommandsRestOnUses, StaysInside, CallsAloneEnter, HasResult, CommandsHaveResults}

-- ---- what is read

first_there : {X : Type 0} (x : X) (xs : List X) → Contains (x ∷ xs) x
first_there x xs = (0, omega arith, refl)

later_there : {X : Type 0} (y x : X) (xs : List X) → Contains xs x → Contains (y ∷ xs) x
later_there y x xs c = (suc c.0, omega (arith, c.1), c.2)

-- two functions that are equal at each item give equal lists
map_same : {X : Type 0} (a b : ℕ → X) (ts : List ℕ) → ((t : ℕ) → Contains ts t → a t ≡ b t) → map a ts ≡ map b ts
map_same a b [] same = refl
map_same a b (t ∷ ts) same =
    ap₂ (λ v vs. v ∷ vs) (same t (first_there t ts)) (map_same a b ts (λ u c. same u (later_there t u ts c)))

pub commands_rest_on_uses : CommandsRestOnUses
unfolding command
commands_rest_on_uses p base (op.Copy t x) a b same = ap (λ v. asks.Give t v) (same x (first_there x []))
commands_rest_on_uses p base (op.Un k t x) a b same = ap (λ v. asks.give t (unary k v)) (same x (first_there x []))
commands_rest_on_uses p base (op.Bin k t x y) a b same =
    ap₂ (λ v w. asks.Combine k t v w) (same x (first_there x (y ∷ []))) (same y (later_there x y (y ∷ []) (first_there y [])))
commands_rest_on_uses p base (op.Ext k t x) a b same = ap (λ v. asks.give t (extension k v)) (same x (first_there x []))
commands_rest_on_uses p base (op.StoreG g x k) a b same = ap (λ v. asks.PutGlobal g k v) (same x (first_there x []))
commands_rest_on_uses p base (op.Load k t x) a b same = ap (λ v. asks.Look k t v) (same x (first_there x []))
commands_rest_on_uses p base (op.Store k x y) a b same =
    ap₂ (λ v w. asks.Poke k v w) (same x (first_there x (y ∷ []))) (same y (later_there x y (y ∷ []) (first_there y [])))
commands_rest_on_uses p base (op.Move x y size unit) a b same =
    ap₂ (λ v w. asks.Copied v w size unit) (same x (first_there x (y ∷ []))) (same y (later_there x y (y ∷ []) (first_there y [])))
commands_rest_on_uses p base (op.Call t f args) a b same = ap (λ vs. asks.Enter t f vs) (map_same a b args same)
commands_rest_on_uses p base (op.CallInd t x shape args) a b same =
    ap₂ (λ v vs. asks.enter_value p t v shape vs) (same x (first_there x args)) (map_same a b args (λ u c. same u (later_there x u args c)))
commands_rest_on_uses p base o a b same = refl

-- ---- what is entered

gives_inside : (t : ℕ) (v : Option Value) → StaysInside (asks.give t v)
gives_inside t (Some v) = tt
gives_inside t None = tt

pub stays_inside : CallsAloneEnter
unfolding command
stays_inside p base (op.Un k t a) value calls = gives_inside t (unary k (value a))
stays_inside p base (op.Ext k t a) value calls = gives_inside t (extension k (value a))
stays_inside p base (op.Call t f args) value calls = absurd cc
stays_inside p base (op.CallInd t a shape args) value calls = absurd cc
stays_inside p base o value calls = tt

-- ---- where the result goes

given : (t : ℕ) (v : Option Value) → HasResult (Some t) (asks.give t v)
given t (Some v) = refl
given t None = tt

shaped_by : (t : Option ℕ) (f : List ℕ) (vs : List Value) (b : Bool) → HasResult t (if b then asks.Enter t f vs else asks.Fail)
shaped_by t f vs true = refl
shaped_by t f vs false = tt

of_shape : (t : Option ℕ) (f shape : List ℕ) (vs : List Value) (own : Option (List ℕ)) → HasResult t (asks.enter_as t shape vs (Some f) own)
of_shape t f shape vs (Some own) = shaped_by t f vs (bytes_eq own shape)
of_shape t f shape vs None = tt

at_number : (p : Program) (t : Option ℕ) (shape : List ℕ) (vs : List Value) (f : Option (List ℕ)) → HasResult t (asks.enter_at p t shape vs f)
at_number p t shape vs (Some f) = of_shape t f shape vs (shape_of p f)
at_number p t shape vs None = tt

through_value : (p : Program) (t : Option ℕ) (v : Value) (shape : List ℕ) (vs : List Value) → HasResult t (asks.enter_value p t v shape vs)
through_value p t (At (P.Function n)) shape vs = at_number p t shape vs (function_at p n)
through_value p t _ shape vs = tt

pub results_stand : CommandsHaveResults
unfolding command
results_stand p base (op.Un k t a) value = given t (unary k (value a))
results_stand p base (op.Ext k t a) value = given t (extension k (value a))
results_stand p base (op.CallInd t a shape args) value = through_value p t (value a) shape (map value args)
results_stand p base o value = refl
