-- The frame of a function whose places serve it is at most the room of its flow graph.
use Rattle.std.proofs.Common.{◌≡◌, ℕ, ◌+◌, ◌-◌, ◌*◌, ◌≤◌, ◌<◌, List, [], ◌∷◌, ◌++◌, length, refl, ap, sym, ◌∙◌, subst, arith}
use Rattle.std.specs.Prelude.{suc, max, Option, Some, None, map, Contains}
use Rattle.std.specs.List.{flat_map, sum_by}
use Rattle.std.proofs.lemmas.List.{map-append}
use Rattle.std.proofs.lemmas.List.Concat.{flat_map-cons}
use Rattle.std.proofs.lemmas.List.Elements.{All-contains, All-from_recursion, Contains-append_right}
use Rattle.pw_value.specs.declared.value.Kind.{Kind}
use Rattle.pw_files.proofs.Standing.{has_by}
use Rattle.pw_db.specs.declared.database.Web.{Web}
use Rattle.pw_db.specs.declared.database.Role.{Role}
use Rattle.pw_db.specs.declared.database.Role.TheVariants.{Entry}
use Rattle.pw_db.specs.declared.database.Directives.{Directives}
use Rattle.pw_db.specs.Database.{EachTwo, IsWeb, IsDirectives}
use Rattle.pw_db.specs.Limits.{first_register, last_register, register_count}
use Rattle.pw_db.proofs.Keeping.{kept_from}
use Rattle.pw_flow.specs.declared.flow.Op.{Op}
use Rattle.pw_flow.specs.declared.flow.Op.TheVariants.{LoadG, StoreG}
use Rattle.pw_flow.specs.declared.flow.Block.{Block}
use Rattle.pw_flow.specs.declared.flow.FlowFn.{FlowFn}
use Rattle.pw_webflow.specs.Direction.{register_of, read_of, write_of, directed_op, directed_block, directed}
use Rattle.pw_flow.specs.FrameRooms as flow
use Rattle.pw_flow.specs.FrameRooms.{flow_room}
use Rattle.pw_value.specs.Rounding.{slot_room}
use Rattle.pw_alloc.specs.declared.located.Place.{Place}
use Rattle.pw_alloc.specs.declared.located.Place.TheVariants.{Slot, Reg}
use Rattle.pw_alloc.specs.declared.located.Located.{Located}
use Rattle.pw_alloc.specs.Frames.{argument_count, most_arguments, ops_of, slots_begin}
use Rattle.pw_alloc.proofs.RoomLaws.{reach_of_sizes}
use Rattle.pw_run_languages.specs.Serving.{slots_alone, Changes, places, enters, saves, Serves}
use Rattle.pw_law_layers.specs.Rooms.{PlacesFit}
use Rattle.pw_law_layers.proofs.Frames.{first_there, map_there}

-- ---- the parts of a frame

few_slots : (ps : List Place) → length (slots_alone ps) ≤ length ps
few_slots [] = omega arith
few_slots (Slot offset ∷ rest) = let h = few_slots rest in omega arith
few_slots (Reg r ∷ rest) = let h = few_slots rest in omega arith

-- registers that rise, from one on to the last that a callee keeps
few_registers : (rs : List ℕ) (low : ℕ) → ((r : ℕ) → Contains rs r → (low ≤ r) × (r ≤ last_register)) → EachTwo (λ r q. r < q) rs → length rs ≤ last_register + 1 - low
few_registers [] low within rise = omega arith
few_registers (x ∷ rs) low within rise =
    let here : (low ≤ x) × (x ≤ last_register) = within x (first_there x rs) in
    let rest : length rs ≤ last_register + 1 - suc x = few_registers rs (suc x) (λ r c.
    let above : x < r = All-contains (λ q. x < q) rs r (All-from_recursion (λ q. x < q) rs rise.0) c in
    let next : suc x ≤ r = omega (arith, above) in
    (next, (within r (Contains-append_right (x ∷ []) rs r c)).1)) rise.1 in
    omega (arith, here.0, here.1, rest)

saved_within : (f : FlowFn) (d : Directives) (l : Located) → IsDirectives d → Serves (directed f d) l
    → (r : ℕ) → Changes (directed f d) l r → (first_register ≤ r) × (r ≤ last_register)
unfolding directed
saved_within f d l lawful s r (places c high unfree) = (((s.registers r c).0).low, high)
saved_within f d l lawful s r (saves c) = kept_from first_register d.saves r lawful.saves (has_by r d.saves c)
saved_within f d l lawful s r (enters has) =
    let web : IsWeb has.web = All-contains IsWeb (map (λ w. w.0) d.webs) has.web
    (All-from_recursion IsWeb (map (λ w. w.0) d.webs) lawful.each)
    (map_there (λ (w : Web × Role). w.0) d.webs (has.web, Entry) has.there) in
    (subst (λ r. first_register ≤ r) has.is web.low, subst (λ r. r ≤ last_register) has.is web.high)

-- ---- arguments

counts_read : (r : Option ℕ) (t : ℕ) (g : List ℕ) (k : Kind) → argument_count (read_of r t (LoadG t g k)) ≡ 0
counts_read None t g k = refl
counts_read (Some r) t g k = refl

counts_written : (r : Option ℕ) (a : ℕ) (g : List ℕ) (k : Kind) → argument_count (write_of r a (StoreG g a k)) ≡ 0
counts_written None a g k = refl
counts_written (Some r) a g k = refl

counts : (webs : List (Web × Role)) (o : Op) → argument_count (directed_op webs o) ≡ flow.argument_count o
counts webs (LoadG t g k) = counts_read (register_of webs g) t g k
counts webs (StoreG g a k) = counts_written (register_of webs g) a g k
counts webs _ = refl

most : (webs : List (Web × Role)) (ops : List Op) → most_arguments (map (directed_op webs) ops) ≡ flow.most_arguments ops
most webs [] = refl
most webs (o ∷ ops) =
    ap (λ n. max n (most_arguments (map (directed_op webs) ops))) (counts webs o)
    ∙ ap (max (flow.argument_count o)) (most webs ops)

directed_ops : (webs : List (Web × Role)) (bs : List Block)
    → flat_map (λ b. b.ops) (map (directed_block webs) bs) ≡ map (directed_op webs) (flat_map (λ b. b.ops) bs)
directed_ops webs [] = refl
directed_ops webs (b ∷ bs) =
    flat_map-cons (λ b. b.ops) (directed_block webs b) (map (directed_block webs) bs)
    ∙ (ap (λ rest. map (directed_op webs) b.ops ++ rest) (directed_ops webs bs)
    ∙ (sym (map-append (directed_op webs) b.ops (flat_map (λ b. b.ops) bs))
    ∙ ap (map (directed_op webs)) (sym (flat_map-cons (λ b. b.ops) b bs))))

-- ---- together

bound : (m s t temps sizes : ℕ) → s ≤ register_count → t ≤ temps
    → slots_begin (48 + 4 * (m - 4)) s t + sizes ≤ 128 + 4 * temps + 4 * m + sizes
bound m s t temps sizes p q = omega (arith, p, q)

pub places_fit : PlacesFit
unfolding directed
places_fit f d l lawful ds s =
    let few : length l.saved ≤ register_count = few_registers l.saved first_register (λ r c. saved_within f d l ds s r ((s.saved r).0 c)) s.order in
    let words : length (slots_alone l.places) ≤ f.temps = let a = few_slots l.places in let b : length l.places ≡ f.temps = s.count in omega (arith, a, b) in
    let m : ℕ = most_arguments (ops_of (directed f d)) in
    let n : ℕ = flow.most_arguments (flat_map (λ b. b.ops) f.blocks) in
    let args : m ≡ n = ap most_arguments (directed_ops d.webs f.blocks) ∙ most d.webs (flat_map (λ b. b.ops) f.blocks) in
    let begin : ℕ = slots_begin (48 + 4 * (m - 4)) (length l.saved) (length (slots_alone l.places)) in
    let sizes : ℕ = sum_by slot_room f.slots in
    let frame : l.frame ≡ begin + sizes = s.frame ∙ reach_of_sizes begin f.slots in
    let least : begin + sizes ≤ 128 + 4 * f.temps + 4 * m + sizes =
    bound m (length l.saved) (length (slots_alone l.places)) f.temps sizes few words in
    let room : flow_room f ≡ 128 + 4 * f.temps + 4 * n + sizes = refl in
    omega (arith, args, frame, least, room)
