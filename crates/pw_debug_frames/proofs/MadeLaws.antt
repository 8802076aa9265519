-- What is known of the functions of objects, and of one that the second phase made.
use Rattle.std.proofs.Common.{◌≡◌, ◌≢◌, ◌⊎◌, ℕ, ◌<◌, Bool, true, false, List, [], ◌∷◌, ◌++◌, length, map, refl, sym, ap, subst, ◌∙◌, arith, inl, inr}
use Rattle.std.specs.Prelude.{All, Contains, nat_lt, ◌||◌}
use Rattle.std.specs.List.{AllByRecursion}
use Rattle.std.proofs.lemmas.List.Elements.{All-from_recursion}
use Rattle.std.proofs.lemmas.Bool.Decides.{nat_tests}
use Rattle.pw_files.proofs.Standing.{Has, contains_by, has_by, has_each, each_by, has_map, has_map_back}
use Rattle.pw_flow.specs.declared.flow.FlowFn.{FlowFn}
use Rattle.pw_flow.specs.declared.flow.FlowModule.{FlowModule}
use Rattle.pw_flowfile.specs.FlowFile.{IsFlowFile}
use Rattle.pw_db.specs.declared.database.Directives.{Directives}
use Rattle.pw_db.specs.Database.{EachTwo, CanBeStored, HasDirectives, IsDatabase, IsStored, empty, says_something}
use Rattle.pw_db_file.specs.Spelling.{IsPayload}
use Rattle.pw_object.specs.declared.object.Object.{Object}
use Rattle.pw_object.specs.declared.functions.ObjectFn.{ObjectFn}
use Rattle.pw_webflow.specs.declared.web.WebFn.{WebFn}
use Rattle.pw_webflow.specs.Direction.{directed}
use Rattle.pw_alloc_temps.specs.Temporaries.{allocated}
use Rattle.pw_phase_two.specs.Phases.{AreDirectivesOf, IsObjectOf, all_compiled, compiled}
use Rattle.pw_debug.specs.declared.info.FrameInfo.{FrameInfo}
use Rattle.pw_debug_frames.specs.Frames.{AreFrames, AreFramesOf, frame_info, frames_in, known_as, made_as, next_object, no_object}

abbrev pub Listed : Type 0
Listed = List (List ℕ × Directives)

-- ---- the directives of a module, in the database of those that say something

-- of names that differ, one item has a name
same_item : (ds : Listed) → EachTwo (λ f g. f.0 ≢ g.0) ds → (f g : List ℕ × Directives) → Has f ds → Has g ds → g.0 ≡ f.0 → g ≡ f
same_item [] two f g h k e = absurd h
same_item (x ∷ xs) two f g (inl a) (inl b) e = sym b ∙ a
same_item (x ∷ xs) two f g (inl a) (inr k) e = absurd (has_each (λ y. x.0 ≢ y.0) xs g two.0 k (ap (λ (d : List ℕ × Directives). d.0) a ∙ sym e))
same_item (x ∷ xs) two f g (inr h) (inl b) e = absurd (has_each (λ y. x.0 ≢ y.0) xs f two.0 h (ap (λ (d : List ℕ × Directives). d.0) b ∙ e))
same_item (x ∷ xs) two f g (inr h) (inr k) e = same_item xs two.1 f g h k e

not_none : (n : ℕ) → 0 < n → nat_lt 0 n ≡ false → ⊥
not_none n h e = grind (arith, nat_tests, e)

none_of : {X : Type 0} (xs : List X) → nat_lt 0 (length xs) ≡ false → xs ≡ []
none_of [] e = refl
none_of (x ∷ xs) e = absurd (not_none (length (x ∷ xs)) (omega arith) e)

or_none : (a b : Bool) → (a || b) ≡ false → (a ≡ false) × (b ≡ false)
or_none true b e = absurd cc
or_none false b e = (refl, e)

says_nothing : (f : List ℕ × Directives) → says_something f ≡ false → f.1 ≡ empty
says_nothing f e =
    let d = f.1 in
    let one = or_none (nat_lt 0 (length d.webs)) (nat_lt 0 (length d.free) || nat_lt 0 (length d.saves)) e in
    let two = or_none (nat_lt 0 (length d.free)) (nat_lt 0 (length d.saves)) one.1 in
    λ i. record { webs = none_of d.webs one.0 i; free = none_of d.free two.0 i; saves = none_of d.saves two.1 i }

in_stored : (ds s : Listed) (f : List ℕ × Directives) → CanBeStored ds → IsStored ds s → Has f ds → Contains (map (λ g. g.0) s) f.0 → Contains s f
in_stored ds s f can stored h named =
    let p = has_map_back (λ (g : List ℕ × Directives). g.0) f.0 s (has_by f.0 (map (λ g. g.0) s) named) in
    let listed = (stored.of p.0).0 (contains_by p.0 s p.1) in
    let same = same_item ds can.distinct f p.0 h (has_by p.0 ds listed.0) p.2 in
    subst (Contains s) same (contains_by p.0 s p.1)

not_stored : (ds s : Listed) (f : List ℕ × Directives) (b : Bool) → CanBeStored ds → IsStored ds s → Has f ds → says_something f ≡ b → ¬ Contains (map (λ g. g.0) s) f.0 → f.1 ≡ empty
not_stored ds s f true can stored h e none =
    let there = (stored.of f).1 (contains_by f ds h, e) in
    absurd (none (contains_by f.0 (map (λ g. g.0) s) (has_map (λ (g : List ℕ × Directives). g.0) f s (has_by f s there))))
not_stored ds s f false can stored h e none = says_nothing f e

stored_gives : (ds s : Listed) → CanBeStored ds → IsStored ds s → All (HasDirectives s) ds
stored_gives ds s can stored = All-from_recursion (HasDirectives s) ds (each_by (HasDirectives s) ds (λ f h. record {
  found = in_stored ds s f can stored h;
  lacks = not_stored ds s f (says_something f) can stored h refl;
}))

-- ---- the frames of objects

abbrev Inside : List Object → List FrameInfo → Type 0
Inside [] frames = frames ≡ []
Inside (o ∷ os) frames = (own : List FrameInfo) × (behind : List FrameInfo) × AreFramesOf o own × AreFrames os behind × (frames ≡ own ++ behind)

inside : (os : List Object) (frames : List FrameInfo) → AreFrames os frames → Inside os frames
inside os frames no_object = refl
inside os frames (next_object o rest own behind are more) = (own, behind, are, more, refl)

-- ---- the frames

module _ (one_module : (bytes : List ℕ) (m n : FlowModule) → IsFlowFile bytes m → IsFlowFile bytes n → m ≡ n)
    (one_database : (bytes : List ℕ) (fs gs : Listed) → IsPayload bytes fs → IsPayload bytes gs → fs ≡ gs)
    (one_list : (fs : Listed) → IsDatabase fs → (gs hs : Listed) → All (HasDirectives fs) gs → All (HasDirectives fs) hs → map (λ f. f.0) gs ≡ map (λ f. f.0) hs → gs ≡ hs) where
  pub made_frames : (flow : FlowModule) (ds : Listed) (o : Object) (frames : List FrameInfo) → AreDirectivesOf flow ds → IsObjectOf flow ds o → AreFramesOf o frames → frames ≡ frames_in flow.functions ds
  made_frames flow ds o frames of_module is known =
      let p = is.payload in
      let flows : known.flow ≡ flow = one_module o.flow known.flow flow known.flow_file is.flow_file in
      let databases : p.0 ≡ known.stored = one_database o.directives p.0 known.stored p.2 known.payload in
      let all = subst (λ (s : Listed). All (HasDirectives s) ds) databases (stored_gives ds p.0 of_module.storable p.1) in
      let names = known.in_payload.of_module.functions ∙ ap (λ (m : FlowModule). map (λ f. f.name) m.functions) flows ∙ sym of_module.functions in
      let directives : known.directives ≡ ds = one_list known.stored known.payload.1.contents.lawful.functions known.directives ds known.in_payload.each all names in
      known.frames_are ∙ ap (λ (m : FlowModule). frames_in m.functions known.directives) flows ∙ ap (frames_in flow.functions) directives

  one_frames : (o : Object) (a b : List FrameInfo) → AreFramesOf o a → AreFramesOf o b → a ≡ b
  one_frames o a b one other =
      let flows : one.flow ≡ other.flow = one_module o.flow one.flow other.flow one.flow_file other.flow_file in
      let databases : other.stored ≡ one.stored = one_database o.directives other.stored one.stored other.payload one.payload in
      let all = subst (λ (s : Listed). All (HasDirectives s) other.directives) databases other.in_payload.each in
      let names = one.in_payload.of_module.functions ∙ ap (λ (m : FlowModule). map (λ f. f.name) m.functions) flows ∙ sym other.in_payload.of_module.functions in
      let directives : one.directives ≡ other.directives = one_list one.stored one.payload.1.contents.lawful.functions one.directives other.directives one.in_payload.each all names in
      one.frames_are ∙ ap (λ (m : FlowModule). frames_in m.functions one.directives) flows ∙ ap (frames_in other.flow.functions) directives ∙ sym other.frames_are

  pub one_program : (os : List Object) (a b : List FrameInfo) → AreFrames os a → AreFrames os b → a ≡ b
  one_program [] a b one other = inside [] a one ∙ sym (inside [] b other)
  one_program (o ∷ os) a b one other =
      let p = inside (o ∷ os) a one in
      let q = inside (o ∷ os) b other in
      p.4 ∙ ap (λ (own : List FrameInfo). own ++ p.1) (one_frames o p.0 q.0 p.2 q.2) ∙ ap (λ (behind : List FrameInfo). q.0 ++ behind) (one_program os p.1 q.1 p.3 q.3) ∙ sym q.4

-- ---- their names

body_is : (f : WebFn) → (allocated f).body ≡ f
unfolding allocated
body_is f = refl

name_is : (f : FlowFn) (d : Directives) → (directed f d).name ≡ f.name
unfolding directed
name_is f d = refl

pub named_alike : (fs : List FlowFn) (ds : Listed) → map known_as (frames_in fs ds) ≡ map made_as (all_compiled fs ds)
named_alike [] ds = refl
named_alike (f ∷ fs) [] = refl
named_alike (f ∷ fs) (d ∷ ds) =
    let name : (allocated (directed f d.1)).body.name ≡ f.name = ap (λ (b : WebFn). b.name) (body_is (directed f d.1)) ∙ name_is f d.1 in
    let rest = named_alike fs ds in
    λ i. (name i, (allocated (directed f d.1)).frame) ∷ rest i
