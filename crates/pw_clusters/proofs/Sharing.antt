-- Registers that are free are saved above, and are of no web.
use Rattle.std.proofs.Common.{◌≡◌, ℕ, suc, ◌+◌, ◌<◌, ◌≤◌, ◌==◌, ◌&&◌, not, Bool, true, false, if◌then◌else◌, List, [], ◌∷◌, length, refl, sym, subst, arith, inl, inr}
use Rattle.std.specs.Prelude.{Contains, slice_index, max}
use Rattle.std.specs.List.{AllByRecursion}
use Rattle.std.proofs.lemmas.Bool.{cases_eq, eq-eqb, ne_eqb, false≢true}
use Rattle.pw_files.proofs.Standing.{has_by}
use Rattle.pw_db.specs.Limits.{first_register, last_register, colour_limit}
use Rattle.pw_summary.specs.declared.summary.Summary.{Summary}
use Rattle.pw_graph.specs.declared.graph.CallGraph.{CallGraph}
use Rattle.pw_graph.specs.Program.{IsGraphOf}
use Rattle.pw_clusters.specs.Clusters.{AreRoots}
use Rattle.pw_summary.specs.Summary.{need_limit}
use Rattle.pw_clusters.specs.Saving.{greatest_need, last_registers, saves_by, free_by, need_in, saves_at, free_at}
use Rattle.pw_clusters.specs.Sharing.{Shares, IsSavedAbove}
use Rattle.pw_clusters.proofs.Registers.{above_webs, kept}
use Rattle.pw_clusters.proofs.Roots.{each_is_its_own, below}

where_true : (b : Bool) (rs : List ℕ) (q : ℕ) → b ≡ true → Contains rs q → Contains (if b then rs else []) q
where_true true rs q e h = h
where_true false rs q e h = absurd (false≢true e)

where_false : (b : Bool) (rs : List ℕ) (q : ℕ) → b ≡ false → Contains rs q → Contains (if b then [] else rs) q
where_false true rs q e h = absurd (false≢true (sym e))
where_false false rs q e h = h

from_true : (b : Bool) (rs : List ℕ) (q : ℕ) → Contains (if b then rs else []) q → Contains rs q
from_true true rs q h = h
from_true false rs q h = absurd (has_by q [] h)

from_false : (b : Bool) (rs : List ℕ) (q : ℕ) → Contains (if b then [] else rs) q → Contains rs q
from_false true rs q h = absurd (has_by q [] h)
from_false false rs q h = h

module _ (roots needs : List ℕ) where
  saved_there : (r q : ℕ) → slice_index roots r ≡ r → Contains (last_registers (need_in roots needs r)) q → Contains (saves_at roots needs r) q
  saved_there r q own h =
      subst (λ s. Contains (saves_by r s (need_in roots needs s)) q) (sym own) (where_true (r == r) (last_registers (need_in roots needs r)) q (eq-eqb r r refl) h)

  free_there : (f r q : ℕ) → slice_index roots f ≡ r → (r ≡ f → ⊥) → Contains (last_registers (need_in roots needs r)) q → Contains (free_at roots needs f) q
  free_there f r q is other h =
      subst (λ s. Contains (free_by f s (need_in roots needs s)) q) (sym is) (where_false (r == f) (last_registers (need_in roots needs r)) q (ne_eqb r f other) h)

  shared : (f r q : ℕ) → slice_index roots f ≡ r → slice_index roots r ≡ r → Contains (last_registers (need_in roots needs r)) q → Shares roots needs f q
  shared f r q is own h = elim (cases_eq r f) [
    | inl e ↦ inr (subst (λ k. Contains (saves_at roots needs k) q) e (saved_there r q own h))
    | inr differ ↦ inl (free_there f r q is differ h)
  ]

  of_cluster : (f q : ℕ) → Shares roots needs f q → Contains (last_registers (need_in roots needs (slice_index roots f))) q
  of_cluster f q (inl h) = from_false (slice_index roots f == f) (last_registers (need_in roots needs (slice_index roots f))) q h
  of_cluster f q (inr h) = from_true (slice_index roots f == f) (last_registers (need_in roots needs (slice_index roots f))) q h

pub saved_above : (ss : List Summary) (g : CallGraph) (roots needs : List ℕ) → IsGraphOf ss g → AreRoots ss g roots → (f q : ℕ) → f < length g.functions → Contains (free_at roots needs f) q → IsSavedAbove g roots needs f q
saved_above ss g roots needs of are f q lt free =
    let own = each_is_its_own ss g roots are of f lt in
    let there = of_cluster roots needs f q (inl free) in
    record {
      saver = saved_there roots needs (slice_index roots f) q own there;
      way = λ h path. shared roots needs h (slice_index roots f) q (below ss g roots are of h (slice_index roots f) f path refl) own there;
    }

-- ---- the greatest need

most : (b : Bool) (n k m : ℕ) → n ≤ m → k ≤ m → max (if b then n else 0) k ≤ m
most true n k m one other = omega (arith, one, other)
most false n k m one other = omega (arith, other)

pub bounded : (m r f : ℕ) (roots needs : List ℕ) → AllByRecursion (λ n. n ≤ m) needs → greatest_need r f roots needs ≤ m
bounded m r f [] needs all = omega arith
bounded m r f (root ∷ roots) [] all = bounded m r (suc f) roots [] tt
bounded m r f (root ∷ roots) (n ∷ needs) all = most ((root == r) && not (f == r)) n (greatest_need r (suc f) roots needs) m all.0 (bounded m r (suc f) roots needs all.1)

pub of_no_web : (roots needs : List ℕ) (f q : ℕ) → AllByRecursion (λ n. n ≤ need_limit) needs → Shares roots needs f q → (first_register + colour_limit ≤ q) × (q ≤ last_register)
of_no_web roots needs f q all shares =
    let root = slice_index roots f in
    let few : need_in roots needs root ≤ need_limit = bounded need_limit root 0 roots needs all in
    let there = of_cluster roots needs f q shares in
    (above_webs (need_in roots needs root) q few there, (kept (need_in roots needs root) q few there).1)
