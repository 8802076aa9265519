-- The database of summaries is sound.
use Rattle.std.proofs.Common.{◌≡◌, ℕ, ◌+◌, ◌<◌, ◌≤◌, ◌⊎◌, Bool, true, false, List, [], ◌∷◌, length, refl, sym, ap, subst, ◌∙◌, arith, inl, inr}
use Rattle.std.specs.Prelude.{Some, slice_get, Contains, IsTrue, nat_lt, ◌||◌, if◌then◌else◌}
use Rattle.std.proofs.lemmas.Bool.{lt-ltb}
use Rattle.pw_value.specs.declared.value.Kind.{Kind}
use Rattle.pw_value.specs.ProgramNames.{start_name}
use Rattle.pw_files.specs.Rising.{IsRising}
use Rattle.pw_files.proofs.Standing.{Has, has_by, contains_by}
use Rattle.pw_fix.specs.Row.{Holds, members as numbers}
use Rattle.pw_db.specs.declared.database.Web.{Web}
use Rattle.pw_db.specs.declared.database.Role.{Role}
use Rattle.pw_db.specs.declared.database.Role.TheVariants.{Entry, Member}
use Rattle.pw_db.specs.declared.database.Directives.{Directives}
use Rattle.pw_db.specs.Database.{says_something}
use Rattle.pw_db.specs.Limits.{first_register, colour_limit}
use Rattle.pw_graph.specs.declared.graph.CallGraph.{CallGraph}
use Rattle.pw_graph.specs.CallGraph.{Calls, Path, call, on, References, Writes}
use Rattle.pw_graph.proofs.Members.{in_members}
use Rattle.pw_graph.proofs.Lists.{has_at}
use Rattle.pw_webs.specs.declared.web.RawWeb.{RawWeb}
use Rattle.pw_webs.specs.Webs.{Region, IsClosed}
use Rattle.pw_webs.proofs.Closed.{closed, along, in_region}
use Rattle.pw_db_sound.specs.CallGraphs.{Graph}
use Rattle.pw_db_sound.specs.CallGraphs as Named
use Rattle.pw_db_sound.specs.CallGraphs.{call as named_call, on as named_on}
use Rattle.pw_db_sound.specs.Sound.{In, Needs, refers, keeps, IsFree, IsSaver, LeavesAlone, IsSavedAbove, Sound}
use Rattle.pw_db_sound.specs.Sound.{Has as HasRole}
use Rattle.pw_colour.specs.Colours.{global_of, web_of, has_number, webs_of, directives_of}
use Rattle.pw_clusters.specs.ByName.{IsNamed}
use Rattle.pw_clusters.specs.Naming.{IsSavedAboveNamed}
use Rattle.pw_clusters.specs.Saving.{free_at, saves_at}
use Rattle.pw_clusters.specs.Sharing.{Shares}
use Rattle.pw_clusters.proofs.Once.{map_same, once_there}
use Rattle.pw_colour.proofs.Numbered.{number_there}
use Rattle.pw_colour.proofs.Lawful.{two_of, AreApart, IsWebOf, web_from, web_to, holds_number, IsMade, global_at, one_global}

module _ (g : CallGraph) (colours : ℕ) (roots : List ℕ) (qs : List (ℕ × RawWeb × ℕ)) (db : List (List ℕ × Directives)) (n : Graph) (made : IsMade g colours roots qs db) (named : IsNamed g n) where
  one_place : (i j : ℕ) (f : List ℕ) → slice_get g.functions i ≡ Some f → slice_get g.functions j ≡ Some f → i ≡ j
  one_place i j f ei ej = once_there (λ x. x) g.functions (subst IsRising (sym (map_same g.functions)) made.names) i j f f ei ej refl

  -- where a function has a web
  record IsAt (f : List ℕ) (w : Web) (role : Role) : Type 0 where
    place : ℕ
    at : slice_get g.functions place ≡ Some f
    from : IsWebOf g qs place (w, role)

  place_of : (f : List ℕ) (w : Web) (role : Role) → HasRole db f w role → IsAt f w role
  place_of f w role has =
      let p = (made.of f has.directives).0 has.there in
      record { place = p.0; at = p.1; from = web_from g qs p.0 (w, role) (has_by (w, role) (webs_of g qs p.0) (subst (λ (d : Directives). Contains d.webs (w, role)) p.2 has.web)) }

  -- who has a web, or a register to share, is told of something
  one_said : (a b c : Bool) → (a ≡ true) ⊎ ((b ≡ true) ⊎ (c ≡ true)) → (a || (b || c)) ≡ true
  one_said true b c h = refl
  one_said false true c h = refl
  one_said false false true h = refl
  one_said false false false (inl e) = e
  one_said false false false (inr (inl e)) = e
  one_said false false false (inr (inr e)) = e

  longer : {X : Type 0} (x : X) (xs : List X) → Has x xs → nat_lt 0 (length xs) ≡ true
  longer x [] h = absurd h
  longer x (y ∷ xs) h = lt-ltb 0 (length (y ∷ xs)) (omega arith)

  said : (f : List ℕ) (d : Directives) → (nat_lt 0 (length d.webs) ≡ true) ⊎ ((nat_lt 0 (length d.free) ≡ true) ⊎ (nat_lt 0 (length d.saves) ≡ true)) → IsTrue (says_something (f, d))
  said f d h = one_said (nat_lt 0 (length d.webs)) (nat_lt 0 (length d.free)) (nat_lt 0 (length d.saves)) h

  is_in : (q : ℕ × RawWeb × ℕ) (place : ℕ) (f : List ℕ) (w : Web) → Has q qs → Holds q.1.members place → slice_get g.functions place ≡ Some f → w ≡ web_of g q → In db w f
  is_in q place f w has member at same =
      let role : Role = (if has_number q.1.entries place then Entry else Member) in
      let there = web_to g qs place q has member in
      record {
        role = role;
        has = record {
          directives = directives_of g roots qs place;
          there = (made.of f (directives_of g roots qs place)).1 (place, at, refl, said f (directives_of g roots qs place) (inl (longer (web_of g q, role) (webs_of g qs place) there)));
          web = subst (λ (v : Web). Contains (webs_of g qs place) (v, role)) (sym same) (contains_by (web_of g q, role) (webs_of g qs place) there);
        };
      }

  -- the numbered web of a web is one
  one_web : (w : Web) (q p : ℕ × RawWeb × ℕ) → Has q qs → Has p qs → w ≡ web_of g q → w ≡ web_of g p → q ≡ p
  one_web w q p h k e d = made.once q p h k (sym (ap (λ (v : Web). v.id) e) ∙ ap (λ (v : Web). v.id) d)

  close : (q : ℕ × RawWeb × ℕ) → Has q qs → IsClosed g q.1.global (numbers q.1.members) (numbers q.1.entries)
  close q h = closed g q.1.global (numbers q.1.members) (numbers q.1.entries) (made.raw q h).web

  -- a function that is in a web stands among its members
  member_at : (q : ℕ × RawWeb × ℕ) (w : Web) (f : List ℕ) (i : ℕ) → Has q qs → w ≡ web_of g q → slice_get g.functions i ≡ Some f → In db w f → Holds q.1.members i
  member_at q w f i has same at within =
      let p = place_of f w within.role within.has in
      let here = one_web w p.from.web q p.from.has has p.from.is same in
      let place = one_place p.place i f p.at at in
      subst (λ (k : ℕ). Holds q.1.members k) place (subst (λ (x : ℕ × RawWeb × ℕ). Holds x.1.members p.place) here p.from.member)

  entry_role : (b : Bool) → Entry ≡ (if b then Entry else Member) → b ≡ true
  entry_role true e = refl
  entry_role false e = absurd cc

  member_role : (b : Bool) → Member ≡ (if b then Entry else Member) → b ≡ false
  member_role true e = absurd cc
  member_role false e = refl

  clash : (b : Bool) → b ≡ true → b ≡ false → ⊥
  clash true x y = cc
  clash false x y = cc

  member_callers : (w : Web) (f a : List ℕ) → HasRole db f w Member → Named.Calls n a f → In db w a
  member_callers w f a has calls =
      let c = (named.calls a f).0 calls in
      let p = place_of f w Member has in
      let q = p.from.web in
      let callee = one_place c.callee p.place f c.at_callee p.at in
      let no_entry : Contains (numbers q.1.entries) p.place → ⊥ = λ e. clash (has_number q.1.entries p.place) (number_there q.1.entries p.place ((in_members q.1.entries p.place).0 e)) (member_role (has_number q.1.entries p.place) p.from.role) in
      let there = (close q p.from.has).callers c.caller p.place ((in_members q.1.members p.place).1 p.from.member) no_entry (subst (λ k. Calls g c.caller k) callee c.calls) in
      is_in q c.caller a w p.from.has ((in_members q.1.members c.caller).0 there) c.at_caller p.from.is

  entry_callers : (w : Web) (f a : List ℕ) → HasRole db f w Entry → Named.Calls n a f → In db w a → ⊥
  entry_callers w f a has calls within =
      let c = (named.calls a f).0 calls in
      let p = place_of f w Entry has in
      let q = p.from.web in
      let callee = one_place c.callee p.place f c.at_callee p.at in
      let entry : Contains (numbers q.1.entries) p.place = (in_members q.1.entries p.place).1 (holds_number q.1.entries p.place (entry_role (has_number q.1.entries p.place) p.from.role)) in
      let member = member_at q w a c.caller p.from.has p.from.is c.at_caller within in
      (close q p.from.has).entered c.caller p.place entry (subst (λ k. Calls g c.caller k) callee c.calls) ((in_members q.1.members c.caller).1 member)

  start : ((a b : ℕ) → Calls g a b → slice_get g.functions b ≡ Some start_name → ⊥) → (w : Web) → HasRole db start_name w Member → ⊥
  start uncalled w has =
      let p = place_of start_name w Member has in
      let q = p.from.web in
      elim ((made.raw q p.from.has).web.others p.place ((in_members q.1.members p.place).1 p.from.member)) [
        | inl e ↦ clash (has_number q.1.entries p.place) (number_there q.1.entries p.place ((in_members q.1.entries p.place).0 e)) (member_role (has_number q.1.entries p.place) p.from.role)
        | inr c ↦ uncalled c.caller p.place c.calls p.at
      ]

  record Leads (i : ℕ) (f : List ℕ) : Type 0 where
    place : ℕ
    at : slice_get g.functions place ≡ Some f
    path : Path g i place

  by_place : {a f : List ℕ} → Named.Path n a f → (i : ℕ) → slice_get g.functions i ≡ Some a → Leads i f
  by_place (named_call a b calls) i at =
      let c = (named.calls a b).0 calls in
      record { place = c.callee; at = c.at_callee; path = call i c.callee (subst (λ k. Calls g k c.callee) (one_place c.caller i a c.at_caller at) c.calls) }
  by_place (named_on a b f calls path) i at =
      let c = (named.calls a b).0 calls in
      let rest = by_place path c.callee c.at_callee in
      record { place = rest.place; at = rest.at; path = on i c.callee rest.place (subst (λ k. Calls g k c.callee) (one_place c.caller i a c.at_caller at) c.calls) rest.path }

  -- who refers to the global of a web by name refers to it by place
  same_global : (q : ℕ × RawWeb × ℕ) (w : Web) (v : ℕ) (kind : Kind) → Has q qs → w ≡ web_of g q → slice_get g.globals v ≡ Some (w.global, kind) → v ≡ q.1.global
  same_global q w v kind has same at =
      once_there (λ (x : List ℕ × Kind). x.0) g.globals made.globals v q.1.global (w.global, kind) (global_of g q.1) at (global_at g q.1 (made.raw q has)) (ap (λ (x : Web). x.global) same)

  -- what is reached from a web and stands in the region of its global is in it
  reached : (q : ℕ × RawWeb × ℕ) (i j : ℕ) → Has q qs → Holds q.1.members i → Path g i j → Region g q.1.global j → Holds q.1.members j
  reached q i j has member path region =
      let web = (made.raw q has).web in
      (in_members q.1.members j).0 ((web.of j).1 (along g q.1.global web.root path ((web.of i).0 ((in_members q.1.members i).1 member)) region))

  needed : (w : Web) (a f : List ℕ) → In db w a → Named.Path n a f → Needs n db f w.global → In db w f
  needed w a f within path (refers uses) =
      let p = place_of a w within.role within.has in
      let q = p.from.web in
      let l = by_place path p.place p.at in
      let r = (named.references f w.global).0 uses in
      let here = one_place r.function l.place f r.at_function l.at in
      let v = same_global q w r.global r.kind p.from.has p.from.is r.at_global in
      let its : References g l.place q.1.global = subst (λ k. References g l.place k) v (subst (λ k. References g k r.global) here r.is) in
      let there = (close q p.from.has).users p.place l.place ((in_members q.1.members p.place).1 p.from.member) l.path its in
      is_in q l.place f w p.from.has ((in_members q.1.members l.place).0 there) l.at p.from.is
  needed w a f within path (keeps u same has) =
      let p = place_of a w within.role within.has in
      let q = p.from.web in
      let l = by_place path p.place p.at in
      let k = place_of f u has.role has.has in
      let v = k.from.web in
      let here = one_place k.place l.place f k.at l.at in
      let globals : v.1.global ≡ q.1.global = one_global g v.1 q.1 made.globals (made.raw v k.from.has) (made.raw q p.from.has) (sym (ap (λ (x : Web). x.global) k.from.is) ∙ same ∙ ap (λ (x : Web). x.global) p.from.is) in
      let web = (made.raw v k.from.has).web in
      let region : Region g v.1.global k.place = in_region ((web.of k.place).0 ((in_members v.1.members k.place).1 k.from.member)) in
      let its : Region g q.1.global l.place = subst (λ z. Region g z l.place) globals (subst (λ z. Region g v.1.global z) here region) in
      is_in q l.place f w p.from.has (reached q p.place l.place p.from.has p.from.member l.path its) l.at p.from.is

  between : (w : Web) (a f b : List ℕ) → In db w a → Named.Path n a f → Named.Path n f b → In db w b → In db w f
  between w a f b within path rest back =
      let p = place_of a w within.role within.has in
      let q = p.from.web in
      let l = by_place path p.place p.at in
      let k = by_place rest l.place l.at in
      let last = member_at q w b k.place p.from.has p.from.is k.at back in
      let there = (close q p.from.has).between_members p.place l.place k.place ((in_members q.1.members p.place).1 p.from.member) ((in_members q.1.members k.place).1 last) l.path k.path in
      is_in q l.place f w p.from.has ((in_members q.1.members l.place).0 there) l.at p.from.is

  registers : (w u : Web) (f : List ℕ) → In db w f → In db u f → (w ≡ u → ⊥) → w.reg ≡ u.reg → ⊥
  registers w u f in_w in_u apart same =
      let p = place_of f w in_w.role in_w.has in
      let k = place_of f u in_u.role in_u.has in
      let here = one_place k.place p.place f k.at p.at in
      let member : Holds k.from.web.1.members p.place = subst (λ z. Holds k.from.web.1.members z) here k.from.member in
      let regs : p.from.web.2 ≡ k.from.web.2 = sym (ap (λ (x : Web). x.reg) p.from.is) ∙ same ∙ ap (λ (x : Web). x.reg) k.from.is in
      elim (two_of AreApart qs p.from.web k.from.web made.apart p.from.has k.from.has) [
        | inl e ↦ apart (p.from.is ∙ ap (λ (q : ℕ × RawWeb × ℕ). web_of g q) e ∙ sym k.from.is)
        | inr o ↦ elim o [
          | inl x ↦ (x p.place p.from.member member).0 regs
          | inr x ↦ (x p.place member p.from.member).0 (sym regs)
        ]
      ]

  eligible : (w : Web) (f : List ℕ) → In db w f → Contains n.eligible (w.global, w.kind)
  eligible w f within =
      let p = place_of f w within.role within.has in
      let q = p.from.web in
      let there = contains_by (global_of g q.1) g.globals (has_at g.globals q.1.global (global_of g q.1) (global_at g q.1 (made.raw q p.from.has))) in
      (named.eligible (w.global, w.kind)).1 (subst (λ (v : Web). Contains g.globals (v.global, v.kind)) (sym p.from.is) there)

  written : (w : Web) (f : List ℕ) → In db w f → Named.Writes n f w.global → w.writes ≡ true
  written w f within writes =
      let p = place_of f w within.role within.has in
      let q = p.from.web in
      let r = (named.writes f w.global).0 writes in
      let here = one_place r.function p.place f r.at_function p.at in
      let v = same_global q w r.global r.kind p.from.has p.from.is r.at_global in
      let its : Writes g p.place q.1.global = subst (λ k. Writes g p.place k) v (subst (λ k. Writes g k r.global) here r.is) in
      ap (λ (x : Web). x.writes) p.from.is ∙ (made.raw q p.from.has).writes.1 (p.place, p.from.member, its)

  -- ---- registers that are shared

  -- where a function is free to use the register, or saves it
  record IsListed (list : ℕ → List ℕ) (f : List ℕ) (r : ℕ) : Type 0 where
    place : ℕ
    at : slice_get g.functions place ≡ Some f
    register : Contains (list place) r

  listed_free : (f : List ℕ) (r : ℕ) → IsFree db f r → IsListed (free_at roots g.needs) f r
  listed_free f r i = let p = (made.of f i.directives).0 i.there in record { place = p.0; at = p.1; register = subst (λ (d : Directives). Contains d.free r) p.2 i.register }

  listed_saver : (f : List ℕ) (r : ℕ) → IsSaver db f r → IsListed (saves_at roots g.needs) f r
  listed_saver f r i = let p = (made.of f i.directives).0 i.there in record { place = p.0; at = p.1; register = subst (λ (d : Directives). Contains d.saves r) p.2 i.register }

  is_free : (f : List ℕ) (r place : ℕ) → slice_get g.functions place ≡ Some f → Contains (free_at roots g.needs place) r → IsFree db f r
  is_free f r place at free = record {
    directives = directives_of g roots qs place;
    there = (made.of f (directives_of g roots qs place)).1 (place, at, refl, said f (directives_of g roots qs place) (inr (inl (longer r (free_at roots g.needs place) (has_by r (free_at roots g.needs place) free)))));
    register = free;
  }

  is_saver : (f : List ℕ) (r place : ℕ) → slice_get g.functions place ≡ Some f → Contains (saves_at roots g.needs place) r → IsSaver db f r
  is_saver f r place at saves = record {
    directives = directives_of g roots qs place;
    there = (made.of f (directives_of g roots qs place)).1 (place, at, refl, said f (directives_of g roots qs place) (inr (inr (longer r (saves_at roots g.needs place) (has_by r (saves_at roots g.needs place) saves)))));
    register = saves;
  }

  -- what the laws of clusters say
  pub record AreShared : Type 0 where
    pub few : colours ≤ colour_limit
    pub behind : (f r : ℕ) → Shares roots g.needs f r → first_register + colour_limit ≤ r
    pub above : (f : ℕ) (h : List ℕ) (r : ℕ) → slice_get g.functions f ≡ Some h → Contains (free_at roots g.needs f) r → IsSavedAboveNamed g n roots g.needs h r

  -- no web has a register that is shared
  webless : AreShared → (f : ℕ) (r : ℕ) → Shares roots g.needs f r → (h : List ℕ) (w : Web) (role : Role) → HasRole db h w role → w.reg ≡ r → ⊥
  webless all f r shares h w role has same =
      let p = place_of h w role has in
      let reg : w.reg ≡ p.from.web.2 = ap (λ (v : Web). v.reg) p.from.is in
      let high = (made.register p.from.web p.from.has).1 in
      let low = all.behind f r shares in
      let few = all.few in
      omega (arith, high, low, few, reg, same)

  alone : AreShared → (h : List ℕ) (r place : ℕ) → slice_get g.functions place ≡ Some h → Shares roots g.needs place r → LeavesAlone db h r
  alone all h r place at shares = record {
    moved = elim shares [ inl free ↦ inl (is_free h r place at free) | inr saves ↦ inr (is_saver h r place at saves) ];
    webless = λ w within. webless all place r shares h w within.role within.has;
  }

  saved_above : AreShared → (f : List ℕ) (r : ℕ) → IsFree db f r → IsSavedAbove n db f r
  saved_above all f r i =
      let p = listed_free f r i in
      let a = all.above p.place f r p.at p.register in
      record {
        root = a.root;
        is = a.is;
        saver = is_saver a.root r a.saver.place a.saver.at a.saver.saves;
        way = λ h below path. let s = a.way h path in alone all h r s.place s.at s.shares;
      }

  pub sound : AreShared → ((a b : ℕ) → Calls g a b → slice_get g.functions b ≡ Some start_name → ⊥) → Sound n db
  sound all uncalled = record {
    member_callers = member_callers;
    entry_callers = entry_callers;
    start = start uncalled;
    references = needed;
    between = between;
    registers = registers;
    eligible = eligible;
    writes = written;
    free = saved_above all;
    saves = λ f r i w has. let p = listed_saver f r i in webless all p.place r (inr p.register) f w Member has;
  }
