-- Copies from and to the register of a web, and all that a function does by itself.
use Rattle.std.specs.Prelude.{ℕ, ◌≡◌, Some, None, List, [], ◌∷◌, ◌++◌, map}
use Rattle.std.proofs.Common.{refl, sym, subst, ◌∙◌, inl, inr}
use Rattle.std.specs.List.{AllByRecursion}
use Rattle.pw_value.specs.declared.value.Value.{Value}
use Rattle.pw_value.specs.declared.value.Value.TheVariants.{Undefined}
use Rattle.pw_files.proofs.Standing.{Has, has_by, has_each}
use Rattle.pw_db.specs.Database.{IsDatabase}
use Rattle.pw_db.specs.declared.database.Web.{Web}
use Rattle.pw_db.specs.declared.database.Role.{Role}
use Rattle.pw_db.specs.declared.database.Directives.{Directives}
use Rattle.pw_webflow.specs.ValidWebs.{HasRegister, IsWebFn, IsWebBlock, IsWebOp}
use Rattle.pw_webflow.specs.declared.web.WebFn.{WebFn}
use Rattle.pw_webflow.specs.declared.web.WebOp.{WebOp}
use Rattle.pw_webflow.specs.declared.web.WebOp.TheVariants.{Read, Write}
use Rattle.pw_webflow.specs.Direction.{directed}
use Rattle.pw_flow.specs.declared.flow.End.{End}
use Rattle.pw_db_sound.specs.Sound.{Sound, In}
use Rattle.pw_db_sound.specs.Sound.{Has as HasRole}
use Rattle.pw_run_languages.specs.Programs.{Program}
use Rattle.pw_run_languages.specs.LawfulPrograms.{graph_of}
use Rattle.pw_run_languages.specs.Direction.{directed_by}
use Rattle.pw_run_languages.specs.PlacedRun.{On, with_register, with_temp}
use Rattle.pw_run_languages.specs.Serving.{StandsIn}
use Rattle.pw_law_direction.proofs.Banks.{written_other}
use Rattle.pw_law_direction.proofs.Directives.{there_role}
use Rattle.pw_law_placed.specs.Twins.{Active, Twin, bare_side, placed_side, bare_value, placed_value}
use Rattle.pw_law_placed.specs.Alike.{name_of, IsPlaced, IsReady, IsAlike, Follows}
use Rattle.pw_law_placed.proofs.Lists.{first_there}
use Rattle.pw_law_placed.proofs.Writing.{results_follow, with_here}
use Rattle.pw_law_placed.proofs.Blocks.{popped, ready_behind, uses_agree}
use Rattle.pw_law_placed.proofs.Webs.{OneChanged, gets_after, webs_wait}

-- ---- the operation is lawful

one_of : {X : Type 0} (P : X → Type 0) (before : List X) (o : X) (behind : List X) → AllByRecursion P (before ++ o ∷ behind) → P o
one_of P [] o behind all = all.0
one_of P (b ∷ before) o behind all = one_of P before o behind all.1

pub op_lawful : (f : WebFn) (o : WebOp) (behind : List WebOp) (end : End) → IsWebFn f → StandsIn f o behind end → IsWebOp f o
op_lawful f o behind end lawful s =
    let block = has_each (IsWebBlock f) f.blocks s.block lawful.blocks (has_by s.block f.blocks s.there) in
    one_of (IsWebOp f) s.before o behind (subst (AllByRecursion (IsWebOp f)) s.ops block.ops)

-- ---- the web of a register

with_web : (webs : List (Web × Role)) (r : ℕ) → Has r (map (λ w. w.0.reg) webs) → (w : Web × Role) × Has w webs × (w.0.reg ≡ r)
with_web [] r h = absurd h
with_web (w ∷ webs) r (inl e) = (w, inl refl, e)
with_web (w ∷ webs) r (inr h) = let k = with_web webs r h in (k.0, inr k.1, k.2)

module _ (p : Program) (d : List (List ℕ × Directives)) (base : IsDatabase d) (sound : Sound (graph_of p) d) where
  pub register_web : (f : Active) (r : ℕ) → IsPlaced p d f → HasRegister f.function.body.directives r → (w : Web) × In d w (name_of f) × (w.reg ≡ r)
  unfolding directed
  register_web f r is h =
      let k = with_web f.function.body.directives.webs r (has_by r (map (λ (u : Web × Role). u.0.reg) f.function.body.directives.webs) h) in
      (k.0.0, record { role = k.0.1; has = by_body f.function.body is.body k.0.0 k.0.1 k.1 }, k.2)
    where
      by_body : (g : WebFn) → g ≡ directed_by d is.flow → (w : Web) (role : Role) → Has (w, role) g.directives.webs → HasRole d g.name w role
      by_body g e w role k =
          subst (λ (b : WebFn). HasRole d b.name w role) (sym e)
          (there_role d base is.flow.name w role (subst (λ (b : WebFn). Has (w, role) b.directives.webs) e k))

  pub reads_follow : (x : Twin) (t r : ℕ) (ops : List WebOp) → IsAlike p d x → x.frame.ops ≡ Read t r ∷ ops
      → Follows p d (On (with_temp t (x.registers r) (bare_side (popped x ops)))) (On (with_temp t (x.bank r) (placed_side (popped x ops))))
  unfolding ready_behind
  reads_follow x t r ops a e =
      let ready = ready_behind p d x (Read t r) ops a e in
      let own = (op_lawful x.frame.function.body (Read t r) ops x.frame.end ready.frame.placed.lawful ready.frame.inside).1 in
      subst (λ (v : Value). Follows p d (On (with_temp t (x.registers r) (bare_side (popped x ops)))) (On (with_temp t v (placed_side (popped x ops)))))
      (a.frame.webs r own) (results_follow p d (popped x ops) (Some t) (x.registers r) ready)

  abbrev web_written : Twin → ℕ → Value → Value → Twin
  web_written x r v w = record x { registers = with_register r v x.registers; bank = with_register r w x.bank }

  writes_ready : (x : Twin) (r : ℕ) (v w : Value) → IsReady p d x None → HasRegister x.frame.function.body.directives r → v ≡ w → IsReady p d (web_written x r v w) None
  writes_ready x r v w ready own same =
      let web = register_web x.frame r ready.frame.placed own in
      let one : OneChanged web.0.reg x.registers x.bank (with_register r v x.registers) (with_register r w x.bank) =
      subst (λ (q : ℕ). OneChanged q x.registers x.bank (with_register r v x.registers) (with_register r w x.bank)) (sym web.2) (record {
        bare = λ q other. sym (written_other r q v x.registers other);
        placed = λ q other. sym (written_other r q w x.bank other);
        both = with_here r v x.registers ∙ same ∙ sym (with_here r w x.bank);
      }) in
      record {
        frame = gets_after p d base sound x.frame web.0 None x.registers x.bank (with_register r v x.registers) (with_register r w x.bank) web.1 one ready.frame;
        callers = webs_wait p d base sound web.0 x.frame x.callers x.registers x.bank (with_register r v x.registers) (with_register r w x.bank) ready.frame.placed web.1 one ready.callers;
        log = ready.log;
        kept = ready.kept;
      }

  pub writes_follow : (x : Twin) (r t : ℕ) (ops : List WebOp) → IsAlike p d x → x.frame.ops ≡ Write r t ∷ ops
      → Follows p d (On (bare_side (web_written (popped x ops) r (bare_value x.frame t) (placed_value x.frame x.bank t))))
      (On (placed_side (web_written (popped x ops) r (bare_value x.frame t) (placed_value x.frame x.bank t))))
  unfolding ready_behind
  writes_follow x r t ops a e =
      let ready = ready_behind p d x (Write r t) ops a e in
      let own = (op_lawful x.frame.function.body (Write r t) ops x.frame.end ready.frame.placed.lawful ready.frame.inside).0 in
      let same = uses_agree x.frame x.bank (Write r t) ops e a.frame.temps t (first_there t []) in
      results_follow p d (web_written (popped x ops) r (bare_value x.frame t) (placed_value x.frame x.bank t)) None Undefined
      (writes_ready (popped x ops) r (bare_value x.frame t) (placed_value x.frame x.bank t) ready own same)
