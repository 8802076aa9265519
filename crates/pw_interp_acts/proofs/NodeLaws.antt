-- What acts at a node come to, from what their functions answer of the objects.
use Rattle.std.proofs.Common.{ℕ, ◌≡◌, refl, sym, ap, subst, ◌∙◌, Option, Some, None, Result, Ok, Err, List}
use Rattle.std.specs.Prelude.{◌≢◌, IfErr, option_map}
use Rattle.pw_value.specs.declared.value.Value.{Value}
use Rattle.pw_value.specs.Objects.{Object}
use Rattle.pw_types.specs.TypeTrees.{CType, Void, Int, Pointer, Array, Function, Record, QType, type_of}
use Rattle.pw_types.specs.Conversions.{promoted}
use Rattle.pw_types.specs.WellTyped.{promoted_type}
use Rattle.pw_types.specs.declared.kind.IntKind.{IntKind}
use Rattle.pw_types.specs.declared.tree.StepOperator.{StepOperator}
use Rattle.pw_cmean.specs.Worlds.{World}
use Rattle.pw_cmean.specs.Acts.{Act, State, Site, Ending, Outcome, Gives, Ends, give, stop, go_on, need, undefined, wrong, ◌>>=◌}
use Rattle.pw_cmean.specs.Access.{fetch}
use Rattle.pw_cmean.specs.Operators.{convert}
use Rattle.pw_cmean.specs.Evaluation as meaning
use Rattle.pw_cmean.specs.Evaluation.{Env, site}
use Rattle.pw_interp_state.specs.declared.category.Category.TheVariants as C
use Rattle.pw_interp_state.specs.declared.fault.Fault.{Fault}
use Rattle.pw_interp_state.specs.Answers.{answered, changed, Changes}
use Rattle.pw_interp_state.specs.Categories.{category_of}
use Rattle.pw_interp_state.specs.Accesses.{fetched}
use Rattle.pw_interp_state.specs.Operations.{converted_to}
use Rattle.pw_interp_state.proofs.AccessLaws.{fetch_is}
use Rattle.pw_interp_state.proofs.OperatorLaws.{convert_is}
use Rattle.pw_interp_state.specs.Shown.{Shown}
use Rattle.pw_interp_state.specs.Runs.{Runs, at_node, done_at, with_new}
use Rattle.pw_interp_state.proofs.RunLaws.{answers_at, changes_at}
use Rattle.pw_interp_calls.specs.declared.ending.Stop.{Stop}
use Rattle.pw_interp_calls.specs.declared.ending.Stop.TheVariants.{Ended, NoMemory}
use Rattle.pw_interp_calls.specs.Answers.{Answers}
use Rattle.pw_interp_calls.specs.Endings.{view_ending, told}
use Rattle.pw_interp_calls.proofs.AnswerLaws.{tells, gives, ends_so}
use Rattle.pw_interp_acts.specs.Results.{present, needed, some_value, value_by, cast_to, step_in, working_kind}

-- an act that a function of the objects answers
pub node_answers : {A : Type 0} {world : World} {act : Act A} {w : Shown} {result : Result A Stop}
    (at : Site) (answer : Result A Fault) (f : List Object → Result A Fault) → told result ≡ Some (at_node at answer) → answer ≡ f w.objects → ((s : State) → act s ≡ answered at (f s.objects) s)
    → Answers (λ a. a) world act w result w
node_answers {world = world} {act = act} {w = w} at answer f tells' is law =
    tells (at_node at (f w.objects)) (tells' ∙ ap (λ r. Some (at_node at r)) is) (answers_at world at act f w law)

-- an act that puts new objects in place of the old ones
pub node_changes : {world : World} {act : Act (Unit {0})} {w : Shown} {after : List Object} {result : Result (Unit {0}) Stop}
    (at : Site) (answer : Result (Unit {0}) Fault) (f : List Object → Result (List Object) Fault) → told result ≡ Some (at_node at answer) → Changes w.objects (f w.objects) answer after
    → ((s : State) → act s ≡ changed at (f s.objects) s) → Answers (λ x. tt) world act w result (record w { objects = after })
node_changes {world = world} {act = act} {w = w} {after = after} {result = result} at answer f tells' changes law =
    by answer (f w.objects) tells' changes (changes_at world at act f w law)
  where
    by : (r : Result (Unit {0}) Fault) (wanted : Result (List Object) Fault) → told result ≡ Some (at_node at r) → Changes w.objects wanted r after
        → Runs world act w (done_at at wanted) (with_new wanted w) → Answers (λ x. tt) world act w result (record w { objects = after })
    by (Ok done) wanted t is run =
        tells (Ok tt) t (subst (λ q. Runs world act w (done_at at q) (with_new q w)) is run)
    by (Err fault) wanted t (is, same) run =
        let there : Runs world act w (done_at at (Err fault)) w = subst (λ q. Runs world act w (done_at at q) (with_new q w)) is run in
        tells (at_node at (Err fault)) t (subst (λ o. Runs world act w (done_at at (Err fault)) (record w { objects = o })) (sym same) there)

-- ---- results

pub used_is : (at : Site) (answer : Option Value) (s : State) → meaning.used at answer s ≡ answered at (present answer) s
unfolding meaning.used undefined give stop
used_is at (Some v) s = refl
used_is at None s = refl

some_is : (at : Site) (act : Act Value) (r : Result Value Fault) (s : State) → act s ≡ answered at r s → (act >>= λ v. give (Some v)) s ≡ answered at (some_value r) s
unfolding ◌>>=◌ go_on give
some_is at act r s e = ap (λ o. go_on o (λ v. give (Some v))) e ∙ by r
  where
    by : (r : Result Value Fault) → go_on (answered at r s) (λ v. give (Some v)) ≡ answered at (some_value r) s
    by (Ok v) = refl
    by (Err fault) = refl

value_by_is : (at : Site) (c : CType) (place : Value) (s : State) → meaning.value_by at c place s ≡ answered at (value_by s.objects (category_of c) place) s
unfolding meaning.value_by give
value_by_is at Void place s = refl
value_by_is at (Int kind) place s = some_is at (fetch at (Int kind) place) (fetched s.objects (C.Int kind) place) s (fetch_is at (Int kind) place s)
value_by_is at (Pointer q) place s = some_is at (fetch at (Pointer q) place) (fetched s.objects C.Pointer place) s (fetch_is at (Pointer q) place s)
value_by_is at (Array q count) place s = some_is at (fetch at (Array q count) place) (fetched s.objects C.Array place) s (fetch_is at (Array q count) place s)
value_by_is at (Function q params) place s = some_is at (fetch at (Function q params) place) (fetched s.objects C.Function place) s (fetch_is at (Function q params) place s)
value_by_is at (Record number) place s = some_is at (fetch at (Record number) place) (fetched s.objects C.Record place) s (fetch_is at (Record number) place s)

pub value_is : (e : Env) (token : ℕ) (ty : QType) (place : Value) (s : State)
    → meaning.value_at e token ty place s ≡ answered (site e token) (value_by s.objects (category_of (type_of ty)) place) s
unfolding meaning.value_at
value_is e token ty place s = value_by_is (site e token) (type_of ty) place s

-- a conversion of a present result
converted_is : (at : Site) (ty : CType) (v : Value) (s : State) → (give v >>= λ x. convert at ty x >>= λ y. give (Some y)) s ≡ answered at (some_value (converted_to (category_of ty) v)) s
unfolding ◌>>=◌ go_on give
converted_is at ty v s = some_is at (convert at ty v) (converted_to (category_of ty) v) s (convert_is at ty v s)

pub cast_is : (at : Site) (ty : CType) (answer : Option Value) (s : State) → meaning.cast at ty answer s ≡ answered at (cast_to (category_of ty) answer) s
unfolding meaning.cast meaning.used undefined give stop ◌>>=◌ go_on
cast_is at Void answer s = refl
cast_is at (Int kind) None s = refl
cast_is at (Pointer q) None s = refl
cast_is at (Array q count) None s = refl
cast_is at (Function q params) None s = refl
cast_is at (Record number) None s = refl
cast_is at (Int kind) (Some v) s = converted_is at (Int kind) v s
cast_is at (Pointer q) (Some v) s = converted_is at (Pointer q) v s
cast_is at (Array q count) (Some v) s = converted_is at (Array q count) v s
cast_is at (Function q params) (Some v) s = converted_is at (Function q params) v s
cast_is at (Record number) (Some v) s = converted_is at (Record number) v s

-- what tells an answer is no want of memory
pub known : {A : Type 0} {answer : Result A Ending} (result : Result A Stop) → told result ≡ Some answer → IfErr result (λ stop. stop ≢ NoMemory)
known (Ok a) e = tt
known (Err (Ended ending)) e = λ is. cc is
known (Err NoMemory) e = absurd (cc e)

-- of what is no want of memory nothing is to be said where it were one
pub never : {A : Type 0} (B : Type 0) (result : Result A Stop) → IfErr result (λ stop. stop ≢ NoMemory) → IfErr result (λ stop. stop ≡ NoMemory → B)
never B (Ok a) h = tt
never B (Err met) h = λ e. absurd (h e)

-- ---- what must be there

pub needed_known : {B : Type 0} {result : Result B Stop} (value : Option B) → result ≡ needed value → IfErr result (λ stop. stop ≢ NoMemory)
needed_known {B = B} value is = subst (λ (x : Result B Stop). IfErr x (λ stop. stop ≢ NoMemory)) (sym is) (by value)
  where
    by : (v : Option B) → IfErr (needed v) (λ stop. stop ≢ NoMemory)
    by (Some b) = tt
    by None = λ e. cc e

pub needs : {A B : Type 0} {view : B → A} {world : World} {o : Option A} {result : Result B Stop} (value : Option B) (s : Shown)
    → o ≡ option_map view value → result ≡ needed value → Answers view world (need o) s result s
unfolding need wrong
needs {A = A} {B = B} {view = view} {world = world} {result = result} value s e r =
    subst (λ x. Answers view world (need x) s result s) (sym e) (subst (λ x. Answers view world (need (option_map view value)) s x s) (sym r) (by value))
  where
    by : (v : Option B) → Answers {A = A} {B = B} view world (need (option_map view v)) s (needed v) s
    by (Some b) = gives b
    by None = ends_so refl

pub itself : {A : Type 0} (o : Option A) → option_map (λ a. a) o ≡ o
itself None = refl
itself (Some a) = refl

-- ---- steps

pub step_by : (e : Env) (token : ℕ) (op : StepOperator) (ty working : CType) (place : Value) → promoted_type ty ≡ working → meaning.step e token op ty place ≡ step_in e token op ty working place
unfolding meaning.step step_in
step_by e token op ty working place is = ap (λ w. step_in e token op ty w place) is

pub step_integer : (ty : CType) (kind : IntKind) → working_kind ty ≡ Some kind → promoted_type ty ≡ Int kind
step_integer Void kind e = cc e
step_integer (Int k) kind e = let is : promoted k ≡ kind = cc e in ap Int is
step_integer (Pointer q) kind e = cc e
step_integer (Array q count) kind e = cc e
step_integer (Function q params) kind e = cc e
step_integer (Record number) kind e = cc e

pub step_plain : (ty : CType) → working_kind ty ≡ None → promoted_type ty ≡ ty
step_plain Void e = refl
step_plain (Int k) e = cc e
step_plain (Pointer q) e = refl
step_plain (Array q count) e = refl
step_plain (Function q params) e = refl
step_plain (Record number) e = refl
