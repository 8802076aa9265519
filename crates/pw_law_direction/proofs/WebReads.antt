-- A load of a global that a web of the function holds, as a copy from its register.
use Rattle.std.proofs.Common.{◌≡◌, ℕ, Option, Some, None, List, ◌∷◌, refl, ap, sym, subst}
use Rattle.std.specs.Prelude.{IfSome, option_map, Contains}
use Rattle.std.specs.Option.{option_or}
use Rattle.pw_value.specs.declared.value.Kind.{Kind}
use Rattle.pw_value.specs.declared.value.Value.{Value}
use Rattle.pw_value.specs.declared.value.Byte.{Byte}
use Rattle.pw_value.specs.Objects.{object_at, bytes_from}
use Rattle.pw_db.specs.declared.database.Web.{Web}
use Rattle.pw_db.specs.declared.database.Directives.{Directives}
use Rattle.pw_flow.specs.declared.flow.Op.{Op}
use Rattle.pw_flow.specs.declared.flow.Op.TheVariants.{LoadG}
use Rattle.pw_flow.specs.ValidFlow.{kind_size}
use Rattle.pw_webflow.specs.Direction.{register_of, read_of, directed}
use Rattle.pw_db_sound.specs.Sound.{Sound, In}
use Rattle.pw_run_languages.specs.Programs.{Program, global_number}
use Rattle.pw_run_languages.specs.Memory.{scalar_of}
use Rattle.pw_run_languages.specs.FlowRun as flow
use Rattle.pw_run_languages.specs.FlowRun.{get_global}
use Rattle.pw_run_languages.specs.Commands.{command}
use Rattle.pw_run_languages.specs.LawfulPrograms.{IsProgram, graph_of, eligible_of}
use Rattle.pw_run_languages.specs.PlacedRun as web
use Rattle.pw_run_languages.specs.PlacedRun.{held, with_registers}
use Rattle.pw_law_direction.specs.Pairs.{Pair, flow_side, web_side, webs_of, web_frames, under}
use Rattle.pw_law_direction.specs.Alike.{FineValue, IsAlike, Follows}
use Rattle.pw_law_direction.specs.SideBySide.{StepsFollow, ReadsFollow}
use Rattle.pw_law_direction.proofs.Elements.{later-there}
use Rattle.pw_law_direction.proofs.Names.{IsEligible, is-eligible}
use Rattle.pw_law_direction.proofs.Tame.{scalar-tame, bytes-from-tame}
use Rattle.pw_law_direction.proofs.Globals.{bytes-whole, number-of-eligible, global-value}
use Rattle.pw_law_direction.proofs.Registers.{Kept, kept-in}
use Rattle.pw_law_direction.proofs.Steps.{with-ops, with-value, value-alike, ops-alike}

-- ---- the global of a web

-- a global that a web of an active function holds: its kind is the web's, and it has a number
pub record HeldGlobal (p : Program) (d : List (List ℕ × Directives)) (x : Pair) (g : List ℕ) (r : ℕ) : Type 0 where
  pub kept : Kept d x.frame.function.name g r
  pub there : Contains (eligible_of p) (g, kept.web.kind)
  pub eligible : IsEligible p g kept.web.kind
  pub number : ℕ
  pub is : global_number p g ≡ Some number

pub eligible-in : (p : Program) (d : List (List ℕ × Directives)) → Sound (graph_of p) d → (w : Web) (f : List ℕ) → In d w f → Contains (eligible_of p) (w.global, w.kind)
unfolding graph_of
eligible-in p d s w f i = s.eligible w f i

pub held-global : (p : Program) (d : List (List ℕ × Directives)) (x : Pair) (g : List ℕ) (r : ℕ) → Sound (graph_of p) d → register_of (webs_of d x.frame.function) g ≡ Some r → HeldGlobal p d x g r
held-global p d x g r s e =
    let k = kept-in d x.frame g r e in
    let c : Contains (eligible_of p) (g, k.web.kind) = subst (λ (n : List ℕ). Contains (eligible_of p) (n, k.web.kind)) k.global (eligible-in p d s k.web x.frame.function.name k.within) in
    let el = is-eligible p g k.web.kind c in
    let n = number-of-eligible p g k.web.kind el in
    record { kept = k; there = c; eligible = el; number = n.0; is = n.1 }

-- its register holds what the flow run's object has
register-holds : (p : Program) (d : List (List ℕ × Directives)) (x : Pair) (g : List ℕ) (r : ℕ) (h : HeldGlobal p d x g r) → register_of (webs_of d x.frame.function) g ≡ Some r → IsAlike p d x
    → x.registers r ≡ scalar_of h.kept.web.kind (object_at x.objects h.number).bytes
unfolding directed
register-holds p d x g r h e a =
    subst (λ (o : Option ℕ). IfSome (option_or (option_map x.registers o) (held g (with_registers x.frame.saved x.registers) (web_frames d x.callers)))
    (λ v. v ≡ scalar_of h.kept.web.kind (object_at x.objects h.number).bytes)) e (a.objects.globals g h.kept.web.kind h.number h.there h.is).stands

global-tame : (p : Program) (d : List (List ℕ × Directives)) (x : Pair) (g : List ℕ) (k : Kind) (n : ℕ) → Contains (eligible_of p) (g, k) → global_number p g ≡ Some n → IsAlike p d x
    → FineValue p (scalar_of k (object_at x.objects n).bytes)
global-tame p d x g k n c is a =
    subst (λ (l : List Byte). FineValue p (scalar_of k l)) (bytes-whole (kind_size k) (object_at x.objects n).bytes (a.objects.globals g k n c is).size)
    (scalar-tame p k (bytes_from (kind_size k) 0 (object_at x.objects n).bytes) (bytes-from-tame p (kind_size k) 0 (object_at x.objects n).bytes (a.objects.tame n)))

given-follows : (p : Program) (d : List (List ℕ × Directives)) (x : Pair) (t : ℕ) (r : Option Value) (v : Value) → IfSome r (λ u. u ≡ v) → FineValue p v → IsAlike p d x
    → Follows p d (flow.gives t r (flow_side x)) (web.On (web.with_temp t v (web_side d x)))
given-follows p d x t None v e h a = tt
given-follows p d x t (Some u) v e h a = record {
  pair = with-value t v x;
  flow = ap (λ (u : Value). flow.with_temp t u (flow_side x)) e;
  web = refl;
  alike = value-alike p d x t v h a;
}

read-follows : (p : Program) (d : List (List ℕ × Directives)) (x : Pair) (t : ℕ) (g : List ℕ) (k : Kind) (ops : List Op) (r : ℕ) → IsProgram p → Sound (graph_of p) d
    → IsAlike p d (with-ops (LoadG t g k ∷ ops) x) → register_of (webs_of d x.frame.function) g ≡ Some r → StepsFollow p d (with-ops (LoadG t g k ∷ ops) x)
unfolding flow.step web.step command
read-follows p d x t g k ops r lawful s a e =
    let y : Pair = with-ops ops x in
    let b : IsAlike p d y = ops-alike p d (with-ops (LoadG t g k ∷ ops) x) ops (λ u c. a.frame.code u (later-there (LoadG t g k) u ops c)) a in
    let h : HeldGlobal p d y g r = held-global p d y g r s e in
    let value = register-holds p d y g r h e b in
    subst (λ (o : Option ℕ). Follows p d (flow.gives t (get_global p g k y.objects) (flow_side y)) (web.does (under p d) (read_of o t (LoadG t g k)) (web_side d y))) (sym e)
    (given-follows p d y t (get_global p g k y.objects) (y.registers r)
    (subst (λ (v : Value). IfSome (get_global p g k y.objects) (λ u. u ≡ v)) (sym value)
    (global-value p g k h.kept.web.kind h.number y.objects lawful h.eligible h.is (b.objects.globals g h.kept.web.kind h.number h.there h.is).size))
    (subst (FineValue p) (sym value) (global-tame p d y g h.kept.web.kind h.number h.there h.is b)) b)

pub reads-follow : ReadsFollow
reads-follow p d x t g k ops r lawful s a here e =
    subst (λ (l : List Op). StepsFollow p d (with-ops l x)) (sym here)
    (read-follows p d x t g k ops r lawful s (subst (λ (l : List Op). IsAlike p d (with-ops l x)) here a) e)
