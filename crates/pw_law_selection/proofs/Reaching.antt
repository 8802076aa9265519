-- Operations that call a function: which one, with which arguments.
use Rattle.std.proofs.Common.{◌≡◌, ◌⊎◌, ℕ, zero, suc, ◌+◌, ◌^◌, ◌<◌, ◌≤◌, Bool, true, false, true≢false, if◌then◌else◌, Option, Some, None, List, [], ◌∷◌, map, length, slice_get, slice_index_or, refl, ap₂, sym, subst, arith, inl, inr, bytes_eq}
use Rattle.std.specs.Prelude.{Contains}
use Rattle.pw_value.specs.declared.value.Value.{Value}
use Rattle.pw_value.specs.declared.value.Value.TheVariants.{Undefined, At}
use Rattle.pw_value.specs.declared.value.Pointer.TheVariants as P
use Rattle.pw_files.proofs.Standing.{each_by, contains_by, has_flat}
use Rattle.pw_db.specs.Limits.{first_register, last_register, register_count}
use Rattle.pw_db.specs.declared.database.Web.{Web}
use Rattle.pw_db.specs.declared.database.Directives.{Directives}
use Rattle.pw_flow.specs.Uses.{op_calls}
use Rattle.pw_flow.specs.declared.flow.Op.{Op}
use Rattle.pw_flow.specs.declared.flow.Op.TheVariants as op
use Rattle.pw_flow.specs.declared.flow.End.{End}
use Rattle.pw_flow.specs.declared.flow.FlowFn.{FlowFn}
use Rattle.pw_flow.specs.ValidFlow.{IsResult, IsOp}
use Rattle.pw_webflow.specs.declared.web.WebOp.{WebOp}
use Rattle.pw_webflow.specs.declared.web.WebBlock.{WebBlock}
use Rattle.pw_alloc.specs.declared.located.Place.{Place}
use Rattle.pw_alloc.specs.declared.located.Place.TheVariants.{Slot, Reg}
use Rattle.pw_alloc.specs.declared.located.Located.{Located}
use Rattle.pw_alloc.specs.Frames.{ops_of}
use Rattle.pw_alloc.proofs.FrameLaws.{frame_fits}
use Rattle.pw_alloc.proofs.SavedLaws.{few_between}
use Rattle.pw_run.specs.Runs as ending
use Rattle.pw_run_languages.specs.Programs.{Program, function_at, shape_of}
use Rattle.pw_run_languages.specs.Commands.{Command, Enter, Fail, enter_as, enter_at, enter_value, command}
use Rattle.pw_run_languages.specs.PlacedRun.{Frame, Machine, Step, On, Stopped, Astray, register_at, value_in, and_then, enters, enters_webs}
use Rattle.pw_run_languages.specs.Direction.{directed_by, with_functions}
use Rattle.pw_run_languages.specs.Serving.{AllServe, slots_alone}
use Rattle.pw_law_select_states.specs.Pointers.{ValueIsKnown, AreKnown}
use Rattle.pw_law_select_known.specs.Laws.{StandsIn, WebsNeverStop}
use Rattle.pw_law_selection.proofs.Given.{IsFine, block_has, op_has, serves_itself}
use Rattle.pw_law_selection.proofs.Calling.{own_name, saved_kept}

-- ---- values of temporaries

abbrev value_by : Frame → (ℕ → Value) → ℕ → Option ℕ → Value
value_by f registers t (Some r) = registers r
value_by f registers t None = slice_index_or f.temps t Undefined

same_by : (f : Frame) (ops : List WebOp) (registers : ℕ → Value) (t : ℕ) (r : Option ℕ) → value_by (record f { ops = ops }) registers t r ≡ value_by f registers t r
same_by f ops registers t (Some r) = refl
same_by f ops registers t None = refl

-- whatever is left of the block
pub value_same : (f : Frame) (ops : List WebOp) (registers : ℕ → Value) (t : ℕ) → value_in (record f { ops = ops }) registers t ≡ value_in f registers t
value_same f ops registers t = same_by f ops registers t (register_at f.function.places t)

known_by : (p : Program) (m : Machine) (t : ℕ) (r : Option ℕ) → AreKnown p m → ValueIsKnown p (length m.objects) (value_by m.frame m.registers t r)
known_by p m t (Some r) known = known.registers r
known_by p m t None known = known.frame.temps t

pub value_known : (p : Program) (m : Machine) (t : ℕ) → AreKnown p m → ValueIsKnown p (length m.objects) (value_in m.frame m.registers t)
value_known p m t known = known_by p m t (register_at m.frame.function.places t) known

-- ---- commands of calls

-- a function is called with values of temporaries, for a temporary of the caller or none, or there is no such function
pub record Enters (temps : ℕ) (value : ℕ → Value) (c : Command) : Type 0 where
  pub result : Option ℕ
  pub name : List ℕ
  pub from : List ℕ
  pub is : c ≡ Enter result name (map value from)
  pub fits : IsResult temps result

as_enters : (temps : ℕ) (value : ℕ → Value) (t : Option ℕ) (shape args : List ℕ) (name own : Option (List ℕ)) → IsResult temps t
    → Enters temps value (enter_as t shape (map value args) name own) ⊎ (enter_as t shape (map value args) name own ≡ Fail)
as_enters temps value t shape args (Some f) (Some own) fits = by_test (bytes_eq own shape)
  where
    by_test : (b : Bool) → Enters temps value (if b then Enter t f (map value args) else Fail) ⊎ ((if b then Enter t f (map value args) else Fail) ≡ Fail)
    by_test true = inl (record { result = t; name = f; from = args; is = refl; fits = fits })
    by_test false = inr refl
as_enters temps value t shape args (Some f) None fits = inr refl
as_enters temps value t shape args None own fits = inr refl

at_enters : (p : Program) (temps : ℕ) (value : ℕ → Value) (t : Option ℕ) (shape args : List ℕ) (name : Option (List ℕ)) → IsResult temps t
    → Enters temps value (enter_at p t shape (map value args) name) ⊎ (enter_at p t shape (map value args) name ≡ Fail)
at_enters p temps value t shape args (Some f) fits = as_enters temps value t shape args (Some f) (shape_of p f) fits
at_enters p temps value t shape args None fits = inr refl

value_enters : (p : Program) (temps : ℕ) (value : ℕ → Value) (t : Option ℕ) (v : Value) (shape args : List ℕ) → IsResult temps t
    → Enters temps value (enter_value p t v shape (map value args)) ⊎ (enter_value p t v shape (map value args) ≡ Fail)
value_enters p temps value t (At (P.Function n)) shape args fits = at_enters p temps value t shape args (function_at p n) fits
value_enters p temps value t _ shape args fits = inr refl

pub call_enters : (p : Program) (base temps slots : ℕ) (o : Op) (value : ℕ → Value) → op_calls o ≡ true → IsOp temps slots o
    → Enters temps value (command p base o value) ⊎ (command p base o value ≡ Fail)
unfolding command
call_enters p base temps slots (op.Call t f args) value calls valid = inl (record { result = t; name = f; from = args; is = refl; fits = valid.0 })
call_enters p base temps slots (op.CallInd t a shape args) value calls valid = value_enters p temps value t (value a) shape args valid.0
call_enters p base temps slots _ value calls valid = absurd (true≢false (sym calls))

-- a temporary that takes the result is one of them
pub fits_inside : (temps : ℕ) (t : Option ℕ) → IsResult temps t → (k : ℕ) → t ≡ Some k → k < temps
fits_inside temps (Some n) h k e = let same : n ≡ k = cc in omega (arith, h, same)
fits_inside temps None h k e = absurd cc

-- values of temporaries are known
pub each_known : (p : Program) (m : Machine) (from : List ℕ) → AreKnown p m → (k : ℕ) (v : Value) → slice_get (map (value_in m.frame m.registers) from) k ≡ Some v → ValueIsKnown p (length m.objects) v
each_known p m [] known k v e = absurd cc
each_known p m (t ∷ from) known zero v e = let same : value_in m.frame m.registers t ≡ v = cc in subst (ValueIsKnown p (length m.objects)) same (value_known p m t known)
each_known p m (t ∷ from) known (suc k) v e = each_known p m from known k v e

-- ---- functions

-- an operation of a block is one of the function's
pub op_of_function : (p : Program) (d : List (List ℕ × Directives)) (functions : List Located) (l : Located) (fine : IsFine p d l) (b : ℕ) (o : WebOp) (ops : List WebOp) (last : End)
    → StandsIn functions l b (o ∷ ops) last → Contains (ops_of l.body) o
op_of_function p d functions l fine b o ops last here =
    contains_by o (ops_of l.body) (has_flat (λ (x : WebBlock). x.ops) here.block o l.body.blocks (block_has p d functions l fine b (o ∷ ops) last here) (op_has p d functions l fine b o ops last here))

-- places are those of the program's functions, in their order
pub names_same : (d : List (List ℕ × Directives)) (fs : List FlowFn) (ls : List Located) → AllServe (map (directed_by d) fs) ls → map (λ (g : Located). g.body.name) ls ≡ map (λ (g : FlowFn). g.name) fs
names_same d [] [] all = refl
names_same d [] (l ∷ ls) all = absurd all
names_same d (f ∷ fs) [] all = absurd all
names_same d (f ∷ fs) (l ∷ ls) all = ap₂ (λ (x : List ℕ) (xs : List (List ℕ)). x ∷ xs) (own_name d f l all.0) (names_same d fs ls all.1)

few_slots : (ps : List Place) → length (slots_alone ps) ≤ length ps
few_slots [] = omega arith
few_slots (Slot offset ∷ rest) = omega (arith, few_slots rest)
few_slots (Reg r ∷ rest) = omega (arith, few_slots rest)

pub frame_small : (p : Program) (d : List (List ℕ × Directives)) (l : Located) → IsFine p d l → l.frame < 2 ^ 31
frame_small p d l fine =
    let serves = serves_itself p d l fine in
    let low = each_by (λ r. first_register ≤ r) l.saved (λ r has. (saved_kept p d l fine r (contains_by r l.saved has)).low) in
    let high = each_by (λ r. r < last_register + 1) l.saved (λ r has. let most = (saved_kept p d l fine r (contains_by r l.saved has)).high in omega (arith, most)) in
    let few : length l.saved ≤ register_count = (let all = few_between first_register (last_register + 1) l.saved (omega arith) low high serves.order in omega (arith, all)) in
    let slots : length (slots_alone l.places) ≤ l.body.temps = (let less = few_slots l.places in let count = serves.count in omega (arith, less, count)) in
    let fits = frame_fits l.body (length l.saved) (length (slots_alone l.places)) fine.lawful few slots in
    let size = serves.frame in
    let reach = fits.reach in
    omega (arith, size, reach)

-- ---- webs

-- webs that are loaded stop no run
pub webs_go : WebsNeverStop → (p : Program) (functions : List Located) (end : ending.End) (n : Machine) (ws : List Web) (x : Machine) → enters_webs (with_functions p functions) ws x ≡ Stopped end n → ⊥
webs_go never p functions end n [] x e = absurd cc
webs_go never p functions end n (y ∷ ws) x e = by_one (enters (with_functions p functions) y x) refl (webs_go never p functions end n ws) e
  where
    by_one : (s : Step) → enters (with_functions p functions) y x ≡ s → ((z : Machine) → enters_webs (with_functions p functions) ws z ≡ Stopped end n → ⊥)
        → and_then s (enters_webs (with_functions p functions) ws) ≡ Stopped end n → ⊥
    by_one (On z) is later e = later z e
    by_one (Stopped other z) is later e = never p functions y x z other (inl is)
    by_one Astray is later e = absurd cc
