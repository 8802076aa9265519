-- The end of a block that does not return, and what stands before an operation.
use Rattle.std.specs.Prelude.{ℕ, zero, suc, ◌≡◌, ◌+◌, ◌==◌, Bool, true, false, if◌then◌else◌, Option, Some, None, List, [], ◌∷◌, ◌++◌, slice_get, Contains}
use Rattle.std.proofs.Common.{refl, sym, subst, ap, ◌∙◌}
use Rattle.std.proofs.lemmas.List.Elements.{Contains-get_or}
use Rattle.std.proofs.lemmas.Option.{slice_get_within, get_or_from_slice_get}
use Rattle.pw_value.specs.declared.value.Value.{Value}
use Rattle.pw_value.specs.declared.value.Value.TheVariants.{Undefined, Num, Null, At, Piece}
use Rattle.pw_db.specs.declared.database.Directives.{Directives}
use Rattle.pw_flow.specs.declared.flow.End.{End}
use Rattle.pw_flow.specs.declared.flow.End.TheVariants.{Jump, Branch, Return}
use Rattle.pw_flow.specs.Uses.{end_uses, successors}
use Rattle.pw_webflow.specs.declared.web.WebOp.{WebOp}
use Rattle.pw_webflow.specs.declared.web.WebBlock.{WebBlock}
use Rattle.pw_webflow.specs.WebOutline.{uses, defines}
use Rattle.pw_alloc.specs.declared.located.Located.{Located}
use Rattle.pw_run_languages.specs.Values.{is_somewhere}
use Rattle.pw_run_languages.specs.Programs.{Program}
use Rattle.pw_run_languages.specs.PlacedRun.{Machine, Step, On, Astray, counted, jumps, branches, ends}
use Rattle.pw_run_languages.specs.Direction.{with_functions}
use Rattle.pw_run_languages.specs.Serving.{Live, used, past, at_end, on}
use Rattle.pw_law_placed.specs.Twins.{Active, Twin, bare_side, placed_side, bare_program, bare_value, placed_value}
use Rattle.pw_law_placed.specs.Alike.{Registers, TempsAgree, IsReady, IsAlike, Follows, goes, strays}
use Rattle.pw_law_placed.specs.Laws.{StaysInFunction, BlocksFollow}
use Rattle.pw_law_placed.proofs.Lists.{first_there, later_there}

-- ---- before an operation

-- what an operation reads is needed
pub uses_agree : (f : Active) (y : Registers) (o : WebOp) (ops : List WebOp) → f.ops ≡ o ∷ ops → TempsAgree f y → (t : ℕ) → Contains (uses o) t → bare_value f t ≡ placed_value f y t
uses_agree f y o ops e temps t c = temps t (subst (λ (l : List WebOp). Live f.function.body t l f.end) (sym e) (used o ops f.end c))

abbrev pub popped : Twin → List WebOp → Twin
popped x ops = record x { frame = record x.frame { ops = ops } }

-- what is needed behind it was needed before, but for its result
unfoldable pub ready_behind : (p : Program) (d : List (List ℕ × Directives)) (x : Twin) (o : WebOp) (ops : List WebOp) → IsAlike p d x → x.frame.ops ≡ o ∷ ops → IsReady p d (popped x ops) (defines o)
ready_behind p d x o ops a e = record {
  frame = record {
    placed = record {
      flow = a.frame.placed.flow;
      there = a.frame.placed.there;
      body = a.frame.placed.body;
      lawful = a.frame.placed.lawful;
      serves = a.frame.placed.serves;
      bare = a.frame.placed.bare;
      placed = a.frame.placed.placed;
      room = a.frame.placed.room;
      words = a.frame.placed.words;
    };
    op = o;
    inside = record {
      block = a.frame.inside.block;
      there = a.frame.inside.there;
      before = a.frame.inside.before;
      ops = a.frame.inside.ops ∙ ap (λ (l : List WebOp). a.frame.inside.before ++ l) e;
      is = a.frame.inside.is;
    };
    result = refl;
    webs = a.frame.webs;
    temps = λ t lives other. a.frame.temps t (subst (λ (l : List WebOp). Live x.frame.function.body t l x.frame.end) (sym e) (past o ops x.frame.end other lives));
    gives = a.frame.gives;
  };
  callers = a.callers;
  log = a.log;
  kept = a.kept;
}

-- ---- the end of a block

pub ends_agree : (f : Active) (y : Registers) → f.ops ≡ [] → TempsAgree f y → (t : ℕ) → Contains (end_uses f.end) t → bare_value f t ≡ placed_value f y t
ends_agree f y e temps t c = temps t (subst (λ (l : List WebOp). Live f.function.body t l f.end) (sym e) (at_end f.end c))

module _ (p : Program) (d : List (List ℕ × Directives)) where
  abbrev going : Twin → ℕ → WebBlock → Twin
  going x b next = record x { frame = record x.frame { block = b; ops = next.ops; end = next.end } }

  abbrev counting : Twin → Twin
  counting x = record x { events = x.events + 1 }

  block_there : (bs : List WebBlock) (b : ℕ) (block : WebBlock) → slice_get bs b ≡ Some block → Contains bs block
  block_there bs b block e = subst (Contains bs) (get_or_from_slice_get bs b block block e) (Contains-get_or bs b block (slice_get_within bs b block e))

  going_alike : (x : Twin) (b : ℕ) (next : WebBlock) → IsAlike p d x → x.frame.ops ≡ [] → Contains (successors x.frame.end) b → slice_get x.frame.function.body.blocks b ≡ Some next
      → IsAlike p d (going x b next)
  going_alike x b next a e s there = record {
    frame = record {
      placed = record {
        flow = a.frame.placed.flow;
        there = a.frame.placed.there;
        body = a.frame.placed.body;
        lawful = a.frame.placed.lawful;
        serves = a.frame.placed.serves;
        bare = a.frame.placed.bare;
        placed = a.frame.placed.placed;
        room = a.frame.placed.room;
        words = a.frame.placed.words;
      };
      inside = record { block = next; there = block_there x.frame.function.body.blocks b next there; before = []; ops = refl; is = refl };
      webs = a.frame.webs;
      temps = λ t lives. a.frame.temps t (subst (λ (l : List WebOp). Live x.frame.function.body t l x.frame.end) (sym e) (on x.frame.end b next s there lives));
      gives = a.frame.gives;
    };
    callers = a.callers;
    log = a.log;
    kept = a.kept;
  }

  counting_alike : (x : Twin) → IsAlike p d x → IsAlike p d (counting x)
  counting_alike x a = record { frame = a.frame; callers = a.callers; log = a.log; kept = a.kept }

  abbrev goes_to : ℕ → Machine → WebBlock → Machine
  goes_to b m next = record m { frame = record m.frame { block = b; ops = next.ops; end = next.end } }

  abbrev to_block : ℕ → Machine → Option WebBlock → Step
  to_block b m (Some next) = On (if b == m.frame.block + 1 then goes_to b m next else counted (goes_to b m next))
  to_block b m None = Astray

  either_way : (x : Twin) (b : ℕ) (next : WebBlock) (c : Bool) → IsAlike p d (going x b next)
      → Follows p d (On (if c then goes_to b (bare_side x) next else counted (goes_to b (bare_side x) next))) (On (if c then goes_to b (placed_side x) next else counted (goes_to b (placed_side x) next)))
  either_way x b next true a = goes (record { twin = going x b next; bare = refl; placed = refl; alike = a })
  either_way x b next false a = goes (record { twin = counting (going x b next); bare = refl; placed = refl; alike = counting_alike (going x b next) a })

  block_follows : (x : Twin) (b : ℕ) (block : Option WebBlock) → IsAlike p d x → x.frame.ops ≡ [] → Contains (successors x.frame.end) b → slice_get x.frame.function.body.blocks b ≡ block
      → Follows p d (to_block b (bare_side x) block) (to_block b (placed_side x) block)
  block_follows x b (Some next) a e s there = either_way x b next (b == x.frame.block + 1) (going_alike x b next a e s there)
  block_follows x b None a e s there = strays refl refl

  -- the body of the function is the same in both
  jumps_follow : (x : Twin) (b : ℕ) → IsAlike p d x → x.frame.ops ≡ [] → Contains (successors x.frame.end) b → Follows p d (jumps b (bare_side x)) (jumps b (placed_side x))
  jumps_follow x b a e s = block_follows x b (slice_get x.frame.function.body.blocks b) a e s refl

  branches_follow : (x : Twin) (v : Value) (b c : ℕ) → IsAlike p d x → x.frame.ops ≡ [] → Contains (successors x.frame.end) b → Contains (successors x.frame.end) c
      → Follows p d (branches v b c (bare_side x)) (branches v b c (placed_side x))
  branches_follow x (Num zero) b c a e s t = jumps_follow x c a e t
  branches_follow x (Num (suc n)) b c a e s t = jumps_follow x b a e s
  branches_follow x (At q) b c a e s t = either (is_somewhere x.objects q) where
    either : (w : Bool) → Follows p d (if w then jumps b (bare_side x) else Astray) (if w then jumps b (placed_side x) else Astray)
    either true = jumps_follow x b a e s
    either false = strays refl refl
  branches_follow x Undefined b c a e s t = strays refl refl
  branches_follow x Null b c a e s t = strays refl refl
  branches_follow x (Piece q i) b c a e s t = strays refl refl

  end_follows : (ls : List Located) (x : Twin) (end : End) → IsAlike p d x → x.frame.ops ≡ [] → x.frame.end ≡ end → StaysInFunction end
      → Follows p d (ends (bare_program p d) end (bare_side x)) (ends (with_functions p ls) end (placed_side x))
  end_follows ls x (Jump b) a e is stays = jumps_follow x b a e (subst (λ (end : End). Contains (successors end) b) (sym is) (first_there b []))
  end_follows ls x (Branch t b c) a e is stays =
      subst (λ (v : Value). Follows p d (branches (bare_value x.frame t) b c (bare_side x)) (branches v b c (placed_side x)))
      (ends_agree x.frame x.bank e a.frame.temps t (subst (λ (end : End). Contains (end_uses end) t) (sym is) (first_there t [])))
      (branches_follow x (bare_value x.frame t) b c a e
      (subst (λ (end : End). Contains (successors end) b) (sym is) (first_there b (c ∷ [])))
      (subst (λ (end : End). Contains (successors end) c) (sym is) (later_there b c (c ∷ []) (first_there c []))))
  end_follows ls x (Return t) a e is stays = absurd stays

pub blocks_follow : BlocksFollow
blocks_follow p d ls x a e stays = end_follows p d ls x x.frame.end a e refl stays
