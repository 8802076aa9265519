-- A web is closed.
use Rattle.std.proofs.Common.{ℕ, List, inl, inr}
use Rattle.std.specs.Prelude.{Contains, ◌⊎◌}
use Rattle.pw_graph.specs.declared.graph.CallGraph.{CallGraph}
use Rattle.pw_graph.specs.CallGraph.{Calls, Path, call, on}
use Rattle.pw_webs.specs.Webs.{Region, refers, between, outside, Joined, self, forth, back, HasCaller, IsWeb, IsClosed}

-- what is joined stands in the region
pub in_region : {g : CallGraph} {v r f : ℕ} → Joined g v r f → Region g v f
in_region (self a region) = region
in_region (forth a b c joined calls region) = region
in_region (back a b c joined calls region) = region

-- each function on a path to one of the region stands in it, and is joined
pub along : (g : CallGraph) (v r : ℕ) {a f : ℕ} → Path g a f → Joined g v r a → Region g v f → Joined g v r f
along g v r (call b c calls) joined region = forth r b c joined calls region
along g v r (on b c d calls path) joined region =
    along g v r path (forth r b c joined calls (between b c d (in_region joined) (call b c calls) path region)) region

-- so is a caller of what has a caller in the region
caller_joined : (g : CallGraph) (v r a f : ℕ) → Joined g v r f → HasCaller g v f → Calls g a f → Joined g v r a
caller_joined g v r a f joined has calls = back r f a joined calls (outside has.caller f a has.within has.calls (in_region joined) calls)

not_entry : (g : CallGraph) (v f : ℕ) (entries : List ℕ) → (Contains entries f → ⊥) → Contains entries f ⊎ HasCaller g v f → HasCaller g v f
not_entry g v f entries lacks (inl entry) = absurd (lacks entry)
not_entry g v f entries lacks (inr has) = has

pub closed : (g : CallGraph) (v : ℕ) (members entries : List ℕ) → IsWeb g v members entries → IsClosed g v members entries
closed g v members entries web = record {
  callers = λ a f stands lacks calls. (web.of a).1 (caller_joined g v web.root a f ((web.of f).0 stands) (not_entry g v f entries lacks (web.others f stands)) calls);
  entered = λ a f entry calls stands. web.entry f entry (record { caller = a; calls = calls; within = in_region ((web.of a).0 stands) });
  users = λ a f stands path uses. (web.of f).1 (along g v web.root path ((web.of a).0 stands) (refers f uses));
  between_members = λ a f b from_a to_b path rest. (web.of f).1 (along g v web.root path ((web.of a).0 from_a)
      (between a f b (in_region ((web.of a).0 from_a)) path rest (in_region ((web.of b).0 to_b))));
}
