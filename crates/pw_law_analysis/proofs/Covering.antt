-- Every function that refers to a global all of whose webs have a register is in one of them.
use Rattle.std.proofs.Common.{◌≡◌, ℕ, suc, ◌<◌, ◌||◌, nat_lt, true, List, [], ◌∷◌, length, map, refl, sym, ap, subst, ◌∙◌, arith, inl, inr}
use Rattle.std.specs.Prelude.{Option, Some, None, if◌then◌else◌, slice_get, slice_index_or, Contains}
use Rattle.std.proofs.lemmas.Bool.{or_left, lt-ltb}
use Rattle.std.proofs.lemmas.Option.{get_or_from_slice_get, slice_get_within}
use Rattle.std.proofs.lemmas.List.Sorted.{Contains-permutation}
use Rattle.pw_value.specs.declared.value.Kind.{Kind}
use Rattle.pw_value.specs.declared.value.Kind.TheVariants.{W32}
use Rattle.pw_files.proofs.Standing.{Has, has_by, contains_by}
use Rattle.pw_fix.specs.Row.{Holds}
use Rattle.pw_db.specs.Database.{says_something}
use Rattle.pw_db.specs.declared.database.Role.{Role}
use Rattle.pw_db.specs.declared.database.Role.TheVariants.{Entry, Member}
use Rattle.pw_db.specs.declared.database.Directives.{Directives}
use Rattle.pw_summary.specs.declared.summary.Summary.{Summary}
use Rattle.pw_graph.specs.CallGraph.{References}
use Rattle.pw_webs.specs.declared.web.RawWeb.{RawWeb}
use Rattle.pw_webs.specs.Webs.{refers}
use Rattle.pw_db_sound.specs.CallGraphs.{Graph}
use Rattle.pw_run_languages.specs.Traffic.{IsCovered, KeepsIt}
use Rattle.pw_colour.specs.Colours.{numbered, global_of, web_of, has_number, webs_of, directives_of, IsDatabaseOf}
use Rattle.pw_clusters.specs.ByName.{IsByName, IsNamed}
use Rattle.pw_colour.proofs.Lawful.{web_to}
use Rattle.pw_law_analysis.specs.PlacedGlobals.{AreColoured}

-- a web that is not without a register has a number
record IsNumbered (qs : List (ℕ × RawWeb × ℕ)) (w : RawWeb) : Type 0 where
  web : ℕ × RawWeb × ℕ
  has : Has web qs
  is : web.1 ≡ w

number_of : (n : ℕ) (cs : List (RawWeb × Option ℕ)) (w : RawWeb) → Has w (map (λ c. c.0) cs) → (Has {X = RawWeb × Option ℕ} (w, None) cs → ⊥) → IsNumbered (numbered n cs) w
number_of n [] w h lacks = absurd h
number_of n ((u, None) ∷ cs) w (inl e) lacks = absurd (lacks (inl (ap (λ (x : RawWeb). (x, None)) e)))
number_of n ((u, None) ∷ cs) w (inr h) lacks = number_of n cs w h (λ k. lacks (inr k))
number_of n ((u, Some r) ∷ cs) w (inl e) lacks = record { web = (n, u, r); has = inl refl; is = e }
number_of n ((u, Some r) ∷ cs) w (inr h) lacks =
    let k = number_of (suc n) cs w h (λ x. lacks (inr x)) in
    record { web = k.web; has = inr k.has; is = k.is }

longer : {X : Type 0} (x : X) (xs : List X) → Has x xs → 0 < length xs
longer x [] h = absurd h
longer x (y ∷ xs) h = omega arith

-- directives that hold a web say something
tells : (f : List ℕ) (d : Directives) → 0 < length d.webs → says_something (f, d) ≡ true
tells f d some = or_left (nat_lt 0 (length d.webs)) (nat_lt 0 (length d.free) || nat_lt 0 (length d.saves)) (lt-ltb 0 (length d.webs) some)

module _ (ss : List Summary) (colours : ℕ) (db : List (List ℕ × Directives)) (i : IsDatabaseOf ss colours db) (n : Graph) (named : IsNamed i.graph n) where
  -- a function of a numbered web is in it
  keeps : (q : ℕ × RawWeb × ℕ) (place : ℕ) (f v : List ℕ) → Has q (numbered 0 i.coloured) → Holds q.1.members place → slice_get i.graph.functions place ≡ Some f → (global_of i.graph q.1).0 ≡ v → KeepsIt db v f
  keeps q place f v has member at name =
      let qs = numbered 0 i.coloured in
      let role : Role = (if has_number q.1.entries place then Entry else Member) in
      let there = web_to i.graph qs place q has member in
      let own = directives_of i.graph i.roots qs place in
      record {
        web = web_of i.graph q;
        within = record {
          role = role;
          has = record {
            directives = own;
            there = (i.of f own).1 (place, at, refl, tells f own (longer (web_of i.graph q, role) (webs_of i.graph qs place) there));
            web = contains_by (web_of i.graph q, role) (webs_of i.graph qs place) there;
          };
        };
        global = name;
      }

  kept : (v f : List ℕ) → AreColoured i v → IsByName i.graph (References i.graph) f v → KeepsIt db v f
  kept v f coloured r =
      let g = i.graph in
      let w = i.are_webs.all r.global r.function (slice_get_within g.globals r.global (v, r.kind) r.at_global) (refers r.function r.is) in
      let ws = map (λ (c : RawWeb × Option ℕ). c.0) i.coloured in
      let among : Has w.0 ws = has_by w.0 ws (Contains-permutation i.webs ws w.0 i.same_webs w.1) in
      let at : slice_index_or g.globals r.global ([], W32) ≡ (v, r.kind) = get_or_from_slice_get g.globals r.global (v, r.kind) ([], W32) r.at_global in
      let name : (global_of g w.0).0 ≡ v = ap (λ (k : ℕ). (slice_index_or g.globals k ([], W32)).0) w.2 ∙ ap (λ (x : List ℕ × Kind). x.0) at in
      let q = number_of 0 i.coloured w.0 among (λ h. coloured w.0 (contains_by (w.0, None) i.coloured h) name) in
      keeps q.web r.function f v q.has (subst (λ (x : RawWeb). Holds x.members r.function) (sym q.is) w.3) r.at_function (ap (λ (x : RawWeb). (global_of g x).0) q.is ∙ name)

  pub covers : (v : List ℕ) (k : Kind) → Contains i.graph.globals (v, k) → AreColoured i v → IsCovered n db v
  covers v k there coloured = record {
    kind = k;
    eligible = (named.eligible (v, k)).1 there;
    each = λ f uses. kept v f coloured ((named.references f v).0 uses);
  }
