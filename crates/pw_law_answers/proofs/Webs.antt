-- Each call graph has its webs.
use Rattle.std.proofs.Common.{◌≡◌, ◌⊎◌, ℕ, zero, suc, ◌+◌, ◌*◌, ◌^◌, ◌<◌, ◌≤◌, Bool, true, false, List, [], ◌∷◌, ◌++◌, length, refl, subst, arith, inl, inr, add-one}
use Rattle.std.specs.Prelude.{◌↔◌, IsTrue, ℤ, pos, ◌+ℤ◌}
use Rattle.std.specs.List.{sum_by}
use Rattle.std.proofs.Math.IntN.{◌-ℤ◌}
use Rattle.std.proofs.lemmas.Int.{ints}
use Rattle.pw_fix.specs.Row.{Holds, members as numbers}
use Rattle.pw_fix.specs.declared.bit_row.BitRow.{BitRow}
use Rattle.pw_fix.proofs.Bits.{held_cases}
use Rattle.pw_graph.specs.declared.graph.CallGraph.{CallGraph}
use Rattle.pw_graph.specs.CallGraph.{Writes, IsGraph}
use Rattle.pw_graph.proofs.Members.{in_members, held_within}
use Rattle.pw_webs.specs.declared.web.RawWeb.{RawWeb}
use Rattle.pw_webs.specs.Webs.{Region, Joined, HasCaller, IsWeb, IsWebAt, AreWebsAt, AreWebs, weight, entry_cost}
use Rattle.pw_webs.proofs.Closed.{in_region}
use Rattle.pw_webs.proofs.Gather.{IsGathered, none_gathered, gather_skip, gather_put, gather_end, AreFound, none_found, found_more, found_all, found_few}
use Rattle.pw_law_answers.proofs.Telling.{Told, told_both, told_either, told_same, told_below, told_not}
use Rattle.pw_law_answers.proofs.Rows.{RowOf, row_of}
use Rattle.pw_law_answers.proofs.Reaching.{told_write, told_region, told_joined, told_caller, region_within}

-- ---- what a web saves

difference : (s c : ℕ) → (p : ℤ) × (p +ℤ pos c ≡ pos s)
difference s c = (pos s -ℤ pos c, omega (arith, ints))

-- a truth value that says what can be told
answer : (P : Type 0) → Told P → (b : Bool) × (IsTrue b ↔ P)
answer P (inl p) = (true, (λ t. p, λ q. refl))
answer P (inr lacks) = (false, (λ t. absurd (untrue t), λ p. absurd (lacks p)))
  where
    untrue : false ≡ true → ⊥
    untrue t = cc

module _ (g : CallGraph) (graph : IsGraph g) where
  row_in : (P : ℕ → Type 0) → ((k : ℕ) → Told (P k)) → ((k : ℕ) → P k → k < length g.functions) → RowOf (length g.functions) P
  row_in P tell within = row_of (length g.functions) P tell within

  -- ---- one web

  abbrev IsEntry : ℕ → ℕ → ℕ → Type 0
  IsEntry v root f = Joined g v root f × (HasCaller g v f → ⊥)

  members_exist : (v root : ℕ) → RowOf (length g.functions) (Joined g v root)
  members_exist v root = row_in (Joined g v root) (told_joined g graph v root) (λ k j. region_within g graph (in_region j))

  entries_exist : (v root : ℕ) → RowOf (length g.functions) (IsEntry v root)
  entries_exist v root = row_in (IsEntry v root) (λ k. told_both (told_joined g graph v root k) (told_not (told_caller g graph v k))) (λ k j. region_within g graph (in_region j.0))

  entry_or_called : (v f : ℕ) → Told (HasCaller g v f) → (HasCaller g v f → ⊥) ⊎ HasCaller g v f
  entry_or_called v f (inl has) = inr has
  entry_or_called v f (inr lacks) = inl lacks

  are_web : (v root : ℕ) (m : RowOf (length g.functions) (Joined g v root)) (e : RowOf (length g.functions) (IsEntry v root)) → Region g v root → IsWeb g v (numbers m.row) (numbers e.row)
  are_web v root m e within = record {
    root = root;
    within = within;
    of = λ f. (λ c. (m.holds f).0 ((in_members m.row f).0 c), λ j. (in_members m.row f).1 ((m.holds f).1 j));
    entries_within = λ f c. (in_members m.row f).1 ((m.holds f).1 ((e.holds f).0 ((in_members e.row f).0 c)).0);
    entry = λ f c. ((e.holds f).0 ((in_members e.row f).0 c)).1;
    others = λ f c. elim (entry_or_called v f (told_caller g graph v f)) [
      | inl lacks ↦ inl ((in_members e.row f).1 ((e.holds f).1 ((m.holds f).0 ((in_members m.row f).0 c), lacks)))
      | inr has ↦ inr has
    ];
  }

  record WebOf (v root : ℕ) : Type 0 where
    web : RawWeb
    is : IsWebAt g v web
    of : (f : ℕ) → Holds web.members f ↔ Joined g v root f

  web_with : (v root : ℕ) (m : RowOf (length g.functions) (Joined g v root)) (e : RowOf (length g.functions) (IsEntry v root)) (writes : Bool) (saved : ℤ) → v < length g.globals → Region g v root
      → (IsTrue writes ↔ ((f : ℕ) × Holds m.row f × Writes g f v)) → saved +ℤ pos (entry_cost writes * length (numbers e.row)) ≡ pos (sum_by (weight g v) (numbers m.row)) → WebOf v root
  web_with v root m e writes saved lt within written balance = record {
    web = record { global = v; members = m.row; entries = e.row; writes = writes; priority = saved };
    is = record {
      raw = record { global = lt; member_places = m.long; entry_places = e.long; web = are_web v root m e within; writes = written; priority = balance };
      its = refl;
    };
    of = m.holds;
  }

  told_written : (v : ℕ) (row : BitRow) → Told ((f : ℕ) × Holds row f × Writes g f v)
  told_written v row =
      told_same (λ h. (h.0, h.2.0, h.2.1)) (λ h. (h.0, held_within row h.0 h.1, (h.1, h.2)))
      (told_below row.len (λ f. Holds row f × Writes g f v) (λ f. told_both (held_cases row.words.items f) (told_write g f v)))

  web_exists : (v root : ℕ) → v < length g.globals → Region g v root → WebOf v root
  web_exists v root lt within =
      let m = members_exist v root in
      let e = entries_exist v root in
      let b = answer ((f : ℕ) × Holds m.row f × Writes g f v) (told_written v m.row) in
      let p = difference (sum_by (weight g v) (numbers m.row)) (entry_cost b.0 * length (numbers e.row)) in
      web_with v root m e b.0 p.0 lt within b.1 p.1

  -- ---- the webs of a global, root by root

  record Done (v root : ℕ) : Type 0 where
    webs : List RawWeb
    done : BitRow
    long : done.len ≡ length g.functions
    gathered : IsGathered g v root webs done

  none_done : (v : ℕ) → Done v 0
  none_done v =
      let r = row_in (λ (k : ℕ). ⊥) (λ k. inr (λ h. h)) (λ k h. absurd h) in
      record { webs = []; done = r.row; long = r.long; gathered = none_gathered g v r.row (λ f h. (r.holds f).0 h) }

  skip : (v root : ℕ) (d : Done v root) → (Region g v root → Holds d.done root) → Done v (root + 1)
  skip v root d here = record { webs = d.webs; done = d.done; long = d.long; gathered = gather_skip g v root d.webs d.done d.gathered here }

  done_more : (v root : ℕ) (d : Done v root) → v < length g.globals → Region g v root → (Holds d.done root → ⊥) → Done v (root + 1)
  done_more v root d lt within free =
      let w = web_exists v root lt within in
      let long = d.long in
      let r = row_in (λ f. Holds d.done f ⊎ Holds w.web.members f) (λ f. told_either (held_cases d.done.words.items f) (held_cases w.web.members.words.items f))
      (λ f h. elim h [
        | inl k ↦ let below = held_within d.done f k in omega (arith, below, long)
        | inr k ↦ region_within g graph (in_region ((w.of f).0 k))
      ]) in
      record {
        webs = d.webs ++ w.web ∷ [];
        done = r.row;
        long = r.long;
        gathered = gather_put g v root d.webs d.done r.row w.web d.gathered (record { web = w.is; of = w.of; free = free; within = within }) r.holds;
      }

  next_done : (v root : ℕ) (d : Done v root) → v < length g.globals → Told (Region g v root) → Told (Holds d.done root) → Done v (root + 1)
  next_done v root d lt (inr lacks) t = skip v root d (λ r. absurd (lacks r))
  next_done v root d lt (inl within) (inl h) = skip v root d (λ r. h)
  next_done v root d lt (inl within) (inr free) = done_more v root d lt within free

  done_to : (v : ℕ) → v < length g.globals → (root : ℕ) → Done v root
  done_to v lt zero = none_done v
  done_to v lt (suc root) =
      let d = done_to v lt root in
      subst (Done v) (add-one root) (next_done v root d lt (told_region g graph v root) (held_cases d.done.words.items root))

  webs_at_exist : (v : ℕ) → v < length g.globals → (ws : List RawWeb) × AreWebsAt g v ws × (length ws ≤ length g.functions)
  webs_at_exist v lt =
      let d = done_to v lt (length g.functions) in
      let r = row_in (Region g v) (told_region g graph v) (λ k r. region_within g graph r) in
      let long = r.long in
      (d.webs, gather_end g v (length g.functions) d.webs d.done r.row r.holds (omega (arith, long)) d.gathered, d.gathered.count)

  -- ---- the webs of all globals

  found_to : (v : ℕ) → v ≤ length g.globals → (ws : List RawWeb) × AreFound g v ws
  found_to zero le = ([], none_found g)
  found_to (suc v) le =
      let old = found_to v (omega (arith, le)) in
      let ws = webs_at_exist v (omega (arith, le)) in
      (old.0 ++ ws.0, subst (λ n. AreFound g n (old.0 ++ ws.0)) (add-one v) (found_more g v old.0 ws.0 old.1 ws.1 ws.2))

  pub webs_exist : (ws : List RawWeb) × AreWebs g ws × (length ws ≤ length g.globals * length g.functions)
  webs_exist =
      let f = found_to (length g.globals) (omega arith) in
      (f.0, found_all g (length g.globals) f.0 (omega arith) (omega arith) f.1, found_few g (length g.globals) f.0 (omega arith) (omega arith) f.1)
