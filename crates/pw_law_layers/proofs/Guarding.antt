-- Under sound directives callers answer for the registers of those that they call.
use Rattle.std.specs.Prelude.{ℕ, ◌≡◌, ◌⊎◌, List, map, Contains}
use Rattle.std.proofs.Common.{subst, sym, ap, inl, inr, ◌∙◌}
use Rattle.pw_files.proofs.Standing.{has_by, contains_by, has_each, has_map_back}
use Rattle.pw_db.specs.declared.database.Web.{Web}
use Rattle.pw_db.specs.declared.database.Role.{Role}
use Rattle.pw_db.specs.declared.database.Role.TheVariants.{Entry, Member}
use Rattle.pw_db.specs.declared.database.Directives.{Directives}
use Rattle.pw_db.specs.Database.{IsDirectives, IsDatabase}
use Rattle.pw_flow.specs.declared.flow.FlowFn.{FlowFn}
use Rattle.pw_webflow.specs.declared.web.WebFn.{WebFn}
use Rattle.pw_webflow.specs.Direction.{directed}
use Rattle.pw_alloc.specs.declared.located.Located.{Located}
use Rattle.pw_db_sound.specs.CallGraphs.{Node, Graph, Calls}
use Rattle.pw_db_sound.specs.Sound.{IsFree, IsSaver, LeavesAlone, Sound}
use Rattle.pw_db_sound.specs.Sound.{Has as HasRole}
use Rattle.pw_run_languages.specs.Traces.{MayChange, member, free}
use Rattle.pw_run_languages.specs.Calls.{Saves}
use Rattle.pw_run_languages.specs.Programs.{Program, functions_of}
use Rattle.pw_run_languages.specs.LawfulPrograms.{node_of, graph_of}
use Rattle.pw_run_languages.specs.Direction.{directives_of, directed_by, directed_functions}
use Rattle.pw_run_languages.specs.Serving.{Changes, enters, saves, Serves, AllServe}
use Rattle.pw_run_languages.proofs.Directives.{one_directives}
use Rattle.pw_law_layers.specs.Guarding.{SoundDirectivesGuard}
use Rattle.pw_law_layers.proofs.Frames.{served}

-- a function of a name, with places that serve it
record Placed (p : Program) (d : List (List ℕ × Directives)) (functions : List Located) (name : List ℕ) : Type 0 where
  function : FlowFn
  located : Located
  there : Contains functions located
  named : function.name ≡ name
  serves : Serves (directed_by d function) located

caller_placed : (p : Program) (d : List (List ℕ × Directives)) (functions : List Located) (a b : List ℕ) → AllServe (directed_functions p d) functions → Calls (graph_of p) a b → Placed p d functions a
unfolding graph_of
caller_placed p d functions a b serve c =
    let f = has_map_back (node_of p) c.node (functions_of p) (has_by c.node (map (node_of p) (functions_of p)) c.there) in
    let k = served (directed_by d) (functions_of p) functions f.0 serve (contains_by f.0 (functions_of p) f.1) in
    record { function = f.0; located = k.located; there = k.there; named = ap (λ (n : Node). n.name) f.2 ∙ c.name; serves = k.serves }

-- what it has to save it saves
placed_saves : (p : Program) (d : List (List ℕ × Directives)) (functions : List Located) (a : List ℕ) (r : ℕ) (k : Placed p d functions a) → Changes (directed_by d k.function) k.located r → Saves functions a r
unfolding directed
placed_saves p d functions a r k changes = record {
  function = k.located;
  there = k.there;
  named = ap (λ (f : WebFn). f.name) k.serves.body ∙ k.named;
  saved = (k.serves.saved r).1 changes;
}

-- its directives are those of the database
own : (p : Program) (d : List (List ℕ × Directives)) (functions : List Located) (a : List ℕ) (dirs : Directives) → IsDatabase d → (k : Placed p d functions a) → Contains d (a, dirs) → dirs ≡ directives_of d k.function.name
own p d functions a dirs base k there =
    sym (one_directives d base k.function.name dirs (subst (λ (n : List ℕ). Contains d (n, dirs)) (sym k.named) there))

web_saved : (p : Program) (d : List (List ℕ × Directives)) (functions : List Located) (a : List ℕ) (r : ℕ) (w : Web) → IsDatabase d → Placed p d functions a → HasRole d a w Entry → w.reg ≡ r → Saves functions a r
unfolding directed
web_saved p d functions a r w base k has is =
    let there : Contains (directives_of d k.function.name).webs (w, Entry) = subst (λ (dirs : Directives). Contains dirs.webs (w, Entry)) (own p d functions a has.directives base k has.there) has.web in
    placed_saves p d functions a r k (enters (record { web = w; there = there; is = is }))

saver_saved : (p : Program) (d : List (List ℕ × Directives)) (functions : List Located) (a : List ℕ) (r : ℕ) → IsDatabase d → Placed p d functions a → IsSaver d a r → Saves functions a r
unfolding directed
saver_saved p d functions a r base k s =
    let there : Contains (directives_of d k.function.name).saves r = subst (λ (dirs : Directives). Contains dirs.saves r) (own p d functions a s.directives base k s.there) s.register in
    placed_saves p d functions a r k (saves there)

-- a register that a function is free to use it does not save for others
pub not_saver : (d : List (List ℕ × Directives)) → IsDatabase d → (f : List ℕ) (r : ℕ) (dirs : Directives) → Contains d (f, dirs) → Contains dirs.free r → IsSaver d f r → ⊥
not_saver d base f r dirs there among s =
    let same : s.directives ≡ dirs = sym (one_directives d base f s.directives s.there) ∙ one_directives d base f dirs there in
    let lawful : IsDirectives dirs = has_each (λ (x : List ℕ × Directives). IsDirectives x.1) d (f, dirs) base.directives (has_by (f, dirs) d there) in
    has_each (λ (q : ℕ). ¬ Contains dirs.free q) dirs.saves r lawful.apart (has_by r dirs.saves (subst (λ (x : Directives). Contains x.saves r) same s.register)) among

by_role : (p : Program) (d : List (List ℕ × Directives)) (functions : List Located) (a : List ℕ) (r : ℕ) (w : Web) (role : Role) → IsDatabase d → Placed p d functions a → HasRole d a w role → w.reg ≡ r
    → MayChange d a r ⊎ Saves functions a r
by_role p d functions a r w Member base k has is = inl (member (record { web = w; has = has; is = is }))
by_role p d functions a r w Entry base k has is = inr (web_saved p d functions a r w base k has is)

pub guards : ((g : Graph) (d : List (List ℕ × Directives)) (a f : List ℕ) (r : ℕ) → Sound g d → Calls g a f → IsFree d f r → ¬ IsSaver d f r → LeavesAlone d a r) → SoundDirectivesGuard
guards leave p d functions base sound serve a b r c (member m) =
    let within = sound.member_callers m.web b a m.has c in
    by_role p d functions a r m.web within.role base (caller_placed p d functions a b serve c) within.has m.is
guards leave p d functions base sound serve a b r c (free dirs there k) =
    let alone = leave (graph_of p) d a b r sound c (record { directives = dirs; there = there; register = k }) (not_saver d base b r dirs there k) in
    elim alone.moved [
      | inl f ↦ inl (free f.directives f.there f.register)
      | inr s ↦ inr (saver_saved p d functions a r base (caller_placed p d functions a b serve c) s)
    ]
