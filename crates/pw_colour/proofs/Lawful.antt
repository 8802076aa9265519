-- The database of summaries is lawful.
use Rattle.std.proofs.Common.{◌≡◌, ◌≢◌, ◌⊎◌, ℕ, zero, suc, ◌+◌, ◌<◌, ◌≤◌, ◌==◌, Bool, true, false, List, [], ◌∷◌, ◌++◌, length, get_or, map, refl, sym, ap, subst, ◌∙◌, arith, inl, inr}
use Rattle.std.specs.Prelude.{Option, Some, None, slice_get, slice_index, Contains, IsTrue, ◌-◌, ◌↔◌, if◌then◌else◌, ◌||◌}
use Rattle.std.specs.List.{AllByRecursion, list_any, range_with_len}
use Rattle.std.proofs.lemmas.Bool.{cases_eq, eqb-true}
use Rattle.std.proofs.lemmas.Option.{same_Some}
use Rattle.pw_value.specs.declared.value.Kind.{Kind}
use Rattle.pw_value.specs.declared.value.Kind.TheVariants.{W32}
use Rattle.pw_files.specs.Rising.{IsRising, IsRisingBehind}
use Rattle.pw_files.proofs.ByteOrder.{not_behind}
use Rattle.pw_files.proofs.Standing.{Has, has_by, has_each, each_by, contains_by, has_map, has_map_back, has_flat, has_flat_back}
use Rattle.pw_fix.specs.Row.{Holds, members as numbers}
use Rattle.pw_fix.specs.declared.bit_row.BitRow.{BitRow}
use Rattle.pw_db.specs.Database.{EachTwo, IsWeb, AreKeptFrom, IsDirectives, says_something, IsDatabase, Agree, all_webs, webs_of as webs_in}
use Rattle.pw_db.specs.declared.database.Web.{Web}
use Rattle.pw_db.specs.declared.database.Role.{Role}
use Rattle.pw_db.specs.declared.database.Role.TheVariants.{Entry, Member}
use Rattle.pw_db.specs.declared.database.Directives.{Directives}
use Rattle.pw_summary.specs.declared.summary.Summary.{Summary}
use Rattle.pw_summary.specs.Summary.{need_limit}
use Rattle.pw_graph.specs.declared.graph.CallGraph.{CallGraph}
use Rattle.pw_graph.proofs.Members.{in_members}
use Rattle.pw_graph.proofs.Lists.{has_at}
use Rattle.pw_webs.specs.declared.web.RawWeb.{RawWeb}
use Rattle.pw_webs.specs.Webs.{IsRawWeb, IsSameWeb, Interfere}
use Rattle.pw_colour.specs.Colours.{IsColour, AreColoured, numbered, global_of, web_of, has_number, webs_of, directives_of, IsDatabaseOf}
use Rattle.pw_clusters.specs.Saving.{last_registers, need_in}
use Rattle.pw_clusters.proofs.Once.{once_there}
use Rattle.pw_colour.proofs.Same.{differ}
use Rattle.pw_colour.proofs.Numbered.{web_at, number_there}
use Rattle.pw_colour.proofs.Unique.{raw_in}
use Rattle.pw_db.specs.Limits.{first_register, last_register, register_count}

-- ---- numbered webs

-- those with a register are among those that are coloured
pub numbered_has : (n : ℕ) (cs : List (RawWeb × Option ℕ)) (q : ℕ × RawWeb × ℕ) → Has q (numbered n cs) → Has (q.1, Some q.2) cs
numbered_has n [] q h = absurd h
numbered_has n ((w, None) ∷ cs) q h = inr (numbered_has n cs q h)
numbered_has n ((w, Some r) ∷ cs) q (inl e) = inl (ap (λ (p : ℕ × RawWeb × ℕ). (p.1, Some p.2)) e)
numbered_has n ((w, Some r) ∷ cs) q (inr h) = inr (numbered_has (suc n) cs q h)

numbers_from : (n : ℕ) (cs : List (RawWeb × Option ℕ)) (q : ℕ × RawWeb × ℕ) → Has q (numbered n cs) → n ≤ q.0
numbers_from n [] q h = absurd h
numbers_from n ((w, None) ∷ cs) q h = numbers_from n cs q h
numbers_from n ((w, Some r) ∷ cs) q (inl e) = let same = ap (λ (p : ℕ × RawWeb × ℕ). p.0) e in omega (arith, same)
numbers_from n ((w, Some r) ∷ cs) q (inr h) = let le = numbers_from (suc n) cs q h in omega (arith, le)

numbers_rise : (n : ℕ) (cs : List (RawWeb × Option ℕ)) → EachTwo (λ a b. a.0 < b.0) (numbered n cs)
numbers_rise n [] = tt
numbers_rise n ((w, None) ∷ cs) = numbers_rise n cs
numbers_rise n ((w, Some r) ∷ cs) = (each_by (λ b. n < b.0) (numbered (suc n) cs) (λ b h. let le = numbers_from (suc n) cs b h in omega (arith, le)), numbers_rise (suc n) cs)

-- two of a list are one, or one of them stands first
pub two_of : {X : Type 0} (R : X → X → Type 0) (xs : List X) (x y : X) → EachTwo R xs → Has x xs → Has y xs → (x ≡ y) ⊎ (R x y ⊎ R y x)
two_of R [] x y two h k = absurd h
two_of R (z ∷ xs) x y two (inl e) (inl d) = inl (sym e ∙ d)
two_of R (z ∷ xs) x y two (inl e) (inr k) = inr (inl (subst (λ w. R w y) e (has_each (R z) xs y two.0 k)))
two_of R (z ∷ xs) x y two (inr h) (inl d) = inr (inr (subst (λ w. R w x) d (has_each (R z) xs x two.0 h)))
two_of R (z ∷ xs) x y two (inr h) (inr k) = two_of R xs x y two.1 h k

pub number_once : (cs : List (RawWeb × Option ℕ)) (q p : ℕ × RawWeb × ℕ) → Has q (numbered 0 cs) → Has p (numbered 0 cs) → q.0 ≡ p.0 → q ≡ p
number_once cs q p h k same = elim (two_of (λ (a b : ℕ × RawWeb × ℕ). a.0 < b.0) (numbered 0 cs) q p (numbers_rise 0 cs) h k) [
  | inl e ↦ e
  | inr o ↦ elim o [ inl lt ↦ absurd (omega (arith, lt, same)) | inr lt ↦ absurd (omega (arith, lt, same)) ]
]

-- one that comes later has another register than what it interferes with
later_free : (colours : ℕ) (es cs : List (RawWeb × Option ℕ)) (w u : RawWeb) (r : ℕ) → AreColoured colours es cs → Has (w, Some r) es → Has (u, Some r) cs → Interfere w u → ⊥
later_free colours es [] w u r all h k i = absurd k
later_free colours es (c ∷ cs) w u r all h (inl e) i =
    let its : IsColour colours es u (Some r) = subst (λ (p : RawWeb × Option ℕ). IsColour colours es p.0 p.1) e all.0 in
    its.2 w (contains_by (w, Some r) es h) i
later_free colours es (c ∷ cs) w u r all h (inr k) i = later_free colours (c ∷ es) cs w u r all.1 (inr h) k i

-- numbered webs that share a function have two registers, and are not the same
abbrev pub AreApart : ℕ × RawWeb × ℕ → ℕ × RawWeb × ℕ → Type 0
AreApart a b = (f : ℕ) → Holds a.1.members f → Holds b.1.members f → (a.2 ≢ b.2) × (a.1.global ≢ b.1.global)

pub apart_numbered : (g : CallGraph) (colours n : ℕ) (es cs : List (RawWeb × Option ℕ)) → AllByRecursion (IsRawWeb g) (map (λ p. p.0) cs) → EachTwo (λ u w. IsSameWeb u w → ⊥) (map (λ p. p.0) cs)
    → ((u w : RawWeb) (f : ℕ) → IsRawWeb g u → IsRawWeb g w → u.global ≡ w.global → Holds u.members f → Holds w.members f → IsSameWeb u w) → AreColoured colours es cs → EachTwo AreApart (numbered n cs)
apart_numbered g colours n es [] raws two meet all = tt
apart_numbered g colours n es ((w, None) ∷ cs) raws two meet all = apart_numbered g colours n ((w, None) ∷ es) cs raws.1 two.1 meet all.1
apart_numbered g colours n es ((w, Some r) ∷ cs) raws two meet all = (
  each_by (AreApart (n, w, r)) (numbered (suc n) cs) (λ q h f in_w in_q.
      let there = numbered_has (suc n) cs q h in
      let member : Has q.1 (map (λ p. p.0) cs) = has_map (λ (p : RawWeb × Option ℕ). p.0) (q.1, Some q.2) cs there in
      let differs = has_each (λ u. IsSameWeb w u → ⊥) (map (λ p. p.0) cs) q.1 two.0 member in
      let raw = has_each (IsRawWeb g) (map (λ p. p.0) cs) q.1 raws.1 member in (
        λ e. later_free colours ((w, Some r) ∷ es) cs w q.1 q.2 all.1 (inl (ap (λ s. (w, Some s)) e)) there (record { function = f; in_one = in_w; in_other = in_q; differ = differs }),
        λ e. differs (meet w q.1 f raws.0 raw e in_w in_q),
      )),
  apart_numbered g colours (suc n) ((w, Some r) ∷ es) cs raws.1 two.1 meet all.1,
)

-- ---- the webs of a function

is_there : (b : Bool) (w v : Web × Role) → Has v (if b then (w ∷ []) else []) → (b ≡ true) × (w ≡ v)
is_there true w v h = elim h [ inl e ↦ (refl, e) | inr n ↦ absurd n ]
is_there false w v h = absurd h

any_back : (f : ℕ) (xs : List ℕ) → list_any (λ n. n == f) xs ≡ true → Has f xs
any_back f [] e = absurd cc
any_back f (x ∷ xs) e = elim (cases_eq x f) [
  | inl same ↦ inl same
  | inr other ↦ inr (any_back f xs (later (x == f) (list_any (λ n. n == f) xs) (λ t. other (eqb-true x f t)) e))
] where
  later : (a b : Bool) → (a ≡ true → ⊥) → (a || b) ≡ true → b ≡ true
  later true b lacks e = absurd (lacks refl)
  later false b lacks e = e

pub holds_number : (row : BitRow) (f : ℕ) → has_number row f ≡ true → Holds row f
holds_number row f e = (in_members row f).0 (contains_by f (numbers row) (any_back f (numbers row) e))

-- a web of a function is one of those that are numbered
pub record IsWebOf (g : CallGraph) (qs : List (ℕ × RawWeb × ℕ)) (f : ℕ) (w : Web × Role) : Type 0 where
  pub web : ℕ × RawWeb × ℕ
  pub has : Has web qs
  pub member : Holds web.1.members f
  pub is : w.0 ≡ web_of g web
  pub role : w.1 ≡ (if has_number web.1.entries f then Entry else Member)

pub web_from : (g : CallGraph) (qs : List (ℕ × RawWeb × ℕ)) (f : ℕ) (w : Web × Role) → Has w (webs_of g qs f) → IsWebOf g qs f w
web_from g qs f w h =
    let p = has_flat_back (web_at g f) w qs h in
    let q = p.0 in
    let k = is_there (has_number q.1.members f) (web_of g q, (if has_number q.1.entries f then Entry else Member)) w p.2 in
    record { web = q; has = p.1; member = holds_number q.1.members f k.0; is = sym (ap (λ (v : Web × Role). v.0) k.1); role = sym (ap (λ (v : Web × Role). v.1) k.1) }

pub web_to : (g : CallGraph) (qs : List (ℕ × RawWeb × ℕ)) (f : ℕ) (q : ℕ × RawWeb × ℕ) → Has q qs → Holds q.1.members f → Has {X = Web × Role} (web_of g q, (if has_number q.1.entries f then Entry else Member)) (webs_of g qs f)
web_to g qs f q h member =
    has_flat (web_at g f) q (web_of g q, (if has_number q.1.entries f then Entry else Member)) qs h
    (subst (λ (b : Bool). Has {X = Web × Role} (web_of g q, (if has_number q.1.entries f then Entry else Member)) (if b then ((web_of g q, (if has_number q.1.entries f then Entry else Member)) ∷ []) else [])) (sym (number_there q.1.members f member)) (inl refl))

-- what holds of two numbered webs that have the function holds of the function's webs
if_each : (P : Web → Type 0) (b : Bool) (w : Web × Role) (ws : List (Web × Role)) → (b ≡ true → P w.0) → AllByRecursion P (map (λ v. v.0) ws) → AllByRecursion P (map (λ v. v.0) ((if b then (w ∷ []) else []) ++ ws))
if_each P true w ws f all = (f refl, all)
if_each P false w ws f all = all

if_two : (S : Web → Web → Type 0) (b : Bool) (w : Web × Role) (ws : List (Web × Role)) → (b ≡ true → AllByRecursion (S w.0) (map (λ v. v.0) ws)) → EachTwo S (map (λ v. v.0) ws) → EachTwo S (map (λ v. v.0) ((if b then (w ∷ []) else []) ++ ws))
if_two S true w ws f all = (f refl, all)
if_two S false w ws f all = all

each_web : (g : CallGraph) (P : Web → Type 0) (f : ℕ) (qs : List (ℕ × RawWeb × ℕ)) → ((q : ℕ × RawWeb × ℕ) → Has q qs → Holds q.1.members f → P (web_of g q)) → AllByRecursion P (map (λ w. w.0) (webs_of g qs f))
each_web g P f [] h = tt
each_web g P f (q ∷ qs) h =
    if_each P (has_number q.1.members f) (web_of g q, (if has_number q.1.entries f then Entry else Member)) (webs_of g qs f) (λ e. h q (inl refl) (holds_number q.1.members f e)) (each_web g P f qs (λ p k. h p (inr k)))

two_webs : (g : CallGraph) (R : ℕ × RawWeb × ℕ → ℕ × RawWeb × ℕ → Type 0) (S : Web → Web → Type 0) (f : ℕ) → (qs : List (ℕ × RawWeb × ℕ)) → ((q p : ℕ × RawWeb × ℕ) → Has q qs → Has p qs → Holds q.1.members f → Holds p.1.members f → R q p → S (web_of g q) (web_of g p))
    → EachTwo R qs → EachTwo S (map (λ w. w.0) (webs_of g qs f))
two_webs g R S f [] h two = tt
two_webs g R S f (q ∷ qs) h two =
    if_two S (has_number q.1.members f) (web_of g q, (if has_number q.1.entries f then Entry else Member)) (webs_of g qs f)
    (λ e. each_web g (S (web_of g q)) f qs (λ p k m. h q p (inl refl) (inr k) (holds_number q.1.members f e) m (has_each (R q) qs p two.0 k)))
    (two_webs g R S f qs (λ a b j k. h a b (inr j) (inr k)) two.1)

all_two : {X : Type 0} (R : X → X → Type 0) (xs : List X) → ((x y : X) → Has x xs → Has y xs → R x y) → EachTwo R xs
all_two R [] f = tt
all_two R (x ∷ xs) f = (each_by (R x) xs (λ y h. f x y (inl refl) (inr h)), all_two R xs (λ a b h k. f a b (inr h) (inr k)))

-- ---- what the database of summaries says of its webs

pub record IsMade (g : CallGraph) (colours : ℕ) (roots : List ℕ) (qs : List (ℕ × RawWeb × ℕ)) (db : List (List ℕ × Directives)) : Type 0 where
  pub raw : (q : ℕ × RawWeb × ℕ) → Has q qs → IsRawWeb g q.1
  pub register : (q : ℕ × RawWeb × ℕ) → Has q qs → (first_register ≤ q.2) × (q.2 < first_register + colours)
  pub rise : EachTwo (λ a b. a.0 < b.0) qs
  pub once : (q p : ℕ × RawWeb × ℕ) → Has q qs → Has p qs → q.0 ≡ p.0 → q ≡ p
  pub apart : EachTwo AreApart qs
  pub names : IsRising g.functions
  pub globals : IsRising (map (λ v. v.0) g.globals)
  pub rising : IsRising (map (λ f. f.0) db)
  pub of : (f : List ℕ) (d : Directives) → Contains db (f, d) ↔ ((place : ℕ) × (slice_get g.functions place ≡ Some f) × (d ≡ directives_of g roots qs place) × IsTrue (says_something (f, d)))

registers_of : (colours n : ℕ) (es cs : List (RawWeb × Option ℕ)) → AreColoured colours es cs → (q : ℕ × RawWeb × ℕ) → Has q (numbered n cs) → (first_register ≤ q.2) × (q.2 < first_register + colours)
registers_of colours n es [] all q h = absurd h
registers_of colours n es ((w, None) ∷ cs) all q h = registers_of colours n ((w, None) ∷ es) cs all.1 q h
registers_of colours n es ((w, Some r) ∷ cs) all q (inl e) = subst (λ (p : ℕ × RawWeb × ℕ). (first_register ≤ p.2) × (p.2 < first_register + colours)) e all.0.1
registers_of colours n es ((w, Some r) ∷ cs) all q (inr h) = registers_of colours (suc n) ((w, Some r) ∷ es) cs all.1 q h

pub is_made : (ss : List Summary) (colours : ℕ) (db : List (List ℕ × Directives)) (d : IsDatabaseOf ss colours db) → ((u w : RawWeb) (f : ℕ) → IsRawWeb d.graph u → IsRawWeb d.graph w → u.global ≡ w.global → Holds u.members f → Holds w.members f → IsSameWeb u w) → IsMade d.graph colours d.roots (numbered 0 d.coloured) db
is_made ss colours db d meet =
    let ws = map (λ (p : RawWeb × Option ℕ). p.0) d.coloured in
    let raws : (w : RawWeb) → Has w ws → IsRawWeb d.graph w = raw_in d.graph d.webs ws d.are_webs d.same_webs in
    let all : AllByRecursion (IsRawWeb d.graph) ws = each_by (IsRawWeb d.graph) ws raws in
    record {
      raw = λ q h. raws q.1 (has_map (λ (p : RawWeb × Option ℕ). p.0) (q.1, Some q.2) d.coloured (numbered_has 0 d.coloured q h));
      register = registers_of colours 0 [] d.coloured d.colours_of;
      rise = numbers_rise 0 d.coloured;
      once = number_once d.coloured;
      apart = apart_numbered d.graph colours 0 [] d.coloured all (differ d.graph ws all d.order) meet d.colours_of;
      names = d.graph_of.functions;
      globals = d.graph_of.globals;
      rising = d.rising;
      of = d.of;
    }

global_there : (g : CallGraph) (q : RawWeb) → q.global < length g.globals → slice_get g.globals q.global ≡ Some (global_of g q)
global_there g q lt = read g.globals q.global ([], W32) lt where
  read : {X : Type 0} (xs : List X) (i : ℕ) (d : X) → i < length xs → slice_get xs i ≡ Some (get_or xs i d)
  read [] i d lt = absurd (omega (arith, lt))
  read (x ∷ xs) zero d lt = refl
  read (x ∷ xs) (suc i) d lt = read xs i d (omega (arith, lt))

pub global_at : (g : CallGraph) (w : RawWeb) → IsRawWeb g w → slice_get g.globals w.global ≡ Some (global_of g w)
global_at g w raw = global_there g w raw.global

-- webs of one name are of one global
pub one_global : (g : CallGraph) (a b : RawWeb) → IsRising (map (λ v. v.0) g.globals) → IsRawWeb g a → IsRawWeb g b → (global_of g a).0 ≡ (global_of g b).0 → a.global ≡ b.global
one_global g a b up ra rb e = once_there (λ (v : List ℕ × Kind). v.0) g.globals up a.global b.global (global_of g a) (global_of g b) (global_at g a ra) (global_at g b rb) e

-- ---- registers that are shared

-- so many registers, one behind the other
kept_range : (least a n : ℕ) → least ≤ a → a + n ≤ last_register + 1 → AreKeptFrom least (range_with_len a n)
kept_range least a zero low high = tt
kept_range least a (suc n) low high = (low, omega (arith, high), kept_range (suc a) (a + 1) n (omega arith) (omega (arith, high)))

kept_last : (k : ℕ) → k ≤ need_limit → AreKeptFrom first_register (last_registers k)
kept_last k few = kept_range first_register (last_register + 1 - k) k (omega (arith, few)) (omega (arith, few))

kept_if : (b : Bool) (xs ys : List ℕ) → AreKeptFrom first_register xs → AreKeptFrom first_register ys → AreKeptFrom first_register (if b then xs else ys)
kept_if true xs ys one two = one
kept_if false xs ys one two = two

not_both : (b : Bool) (rs : List ℕ) → AllByRecursion (λ r. ¬ Contains (if b then [] else rs) r) (if b then rs else [])
not_both true rs = each_by (λ r. ¬ Contains [] r) rs (λ r h c. has_by r [] c)
not_both false rs = tt

-- ---- the rules

lawful_webs : (g : CallGraph) (colours : ℕ) (roots : List ℕ) (qs : List (ℕ × RawWeb × ℕ)) (db : List (List ℕ × Directives)) → colours ≤ register_count → ((r : ℕ) → need_in roots g.needs r ≤ need_limit) → IsMade g colours roots qs db → (f : ℕ) → IsDirectives (directives_of g roots qs f)
lawful_webs g colours roots qs db few needs made f = record {
  each = each_web g IsWeb f qs (λ q h m. let r = made.register q h in let low = r.0 in let high = r.1 in record { low = low; high = omega (arith, high, few) });
  numbers = two_webs g (λ (a b : ℕ × RawWeb × ℕ). a.0 < b.0) (λ a b. a.id < b.id) f qs (λ q p h k m n lt. lt) made.rise;
  globals = two_webs g AreApart (λ a b. a.global ≡ b.global → ⊥) f qs (λ q p h k m n apart e. (apart f m n).1 (one_global g q.1 p.1 made.globals (made.raw q h) (made.raw p k) e)) made.apart;
  registers = two_webs g AreApart (λ a b. a.reg ≡ b.reg → ⊥) f qs (λ q p h k m n apart e. (apart f m n).0 e) made.apart;
  free = kept_if (slice_index roots f == f) [] (last_registers (need_in roots g.needs (slice_index roots f))) tt (kept_last (need_in roots g.needs (slice_index roots f)) (needs (slice_index roots f)));
  saves = kept_if (slice_index roots f == f) (last_registers (need_in roots g.needs (slice_index roots f))) [] (kept_last (need_in roots g.needs (slice_index roots f)) (needs (slice_index roots f))) tt;
  apart = not_both (slice_index roots f == f) (last_registers (need_in roots g.needs (slice_index roots f)));
}

pub lawful : (g : CallGraph) (colours : ℕ) (roots : List ℕ) (qs : List (ℕ × RawWeb × ℕ)) (db : List (List ℕ × Directives)) → colours ≤ register_count → ((r : ℕ) → need_in roots g.needs r ≤ need_limit) → IsMade g colours roots qs db → IsDatabase db
lawful g colours roots qs db few needs made =
    let source : (w : Web) → Has w (all_webs db) → (q : ℕ × RawWeb × ℕ) × Has q qs × (w ≡ web_of g q) = λ w h.
    let p = has_flat_back (λ (f : List ℕ × Directives). webs_in f.1) w db h in
    let place = (made.of p.0.0 p.0.1).0 (contains_by p.0 db p.1) in
    let v = has_map_back (λ (x : Web × Role). x.0) w p.0.1.webs p.2 in
    let from = web_from g qs place.0 v.0 (subst (λ (x : Directives). Has v.0 x.webs) place.2 v.1) in
    (from.web, from.has, sym v.2 ∙ from.is)
    in
    record {
      functions = made.rising;
      directives = each_by (λ f. IsDirectives f.1) db (λ f h. let place = (made.of f.0 f.1).0 (contains_by f db h) in subst IsDirectives (sym place.2) (lawful_webs g colours roots qs db few needs made place.0));
      agree = all_two Agree (all_webs db) (λ a b h k e.
          let x = source a h in
          let y = source b k in
          let ids : x.0.0 ≡ y.0.0 = sym (ap (λ (w : Web). w.id) x.2) ∙ e ∙ ap (λ (w : Web). w.id) y.2 in
          x.2 ∙ ap (λ (q : ℕ × RawWeb × ℕ). web_of g q) (made.once x.0 y.0 x.1 y.1 ids) ∙ sym y.2);
    }
