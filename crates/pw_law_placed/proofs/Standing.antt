-- Where the globals stand in both runs.
use Rattle.std.specs.Prelude.{ℕ, suc, ◌≡◌, Bool, true, false, if◌then◌else◌, Option, Some, option_map, List, [], ◌∷◌, map, Contains}
use Rattle.std.proofs.Common.{refl, sym, ap, ap₂, ◌∙◌}
use Rattle.std.specs.Option.{option_or}
use Rattle.std.specs.Str.{bytes_eq}
use Rattle.pw_value.specs.declared.value.Value.{Value}
use Rattle.pw_value.specs.declared.value.Byte.{Byte}
use Rattle.pw_value.specs.Objects.{Object, object_at}
use Rattle.pw_db.specs.declared.database.Web.{Web}
use Rattle.pw_db.specs.declared.database.Role.{Role}
use Rattle.pw_webflow.specs.Direction.{register_of}
use Rattle.pw_run_languages.specs.Traces.{Standing}
use Rattle.pw_run_languages.specs.Programs.{Program, globals_of}
use Rattle.pw_run_languages.specs.PlacedRun.{held, standing, standings}
use Rattle.pw_law_placed.specs.Twins.{Active, bare_frame, placed_frame}
use Rattle.pw_law_placed.specs.Alike.{Registers, given_back}
use Rattle.pw_law_placed.specs.Laws.{AllWebsAgree, GlobalsStandAlike}
use Rattle.pw_law_placed.proofs.Lists.{first_there, later_there}

-- the register of a global is that of a web
web_by : (b : Bool) (own : ℕ) (rest : Option ℕ) (registers bank : Registers) → registers own ≡ bank own → option_map registers rest ≡ option_map bank rest
    → option_map registers (if b then Some own else rest) ≡ option_map bank (if b then Some own else rest)
web_by true own rest registers bank here later = ap Some here
web_by false own rest registers bank here later = later

webs_same : (webs : List (Web × Role)) (g : List ℕ) (registers bank : Registers) → ((r : ℕ) → Contains (map (λ w. w.0.reg) webs) r → registers r ≡ bank r)
    → option_map registers (register_of webs g) ≡ option_map bank (register_of webs g)
webs_same [] g registers bank same = refl
webs_same (w ∷ rest) g registers bank same =
    let names : List ℕ = map (λ (u : Web × Role). u.0.reg) rest in
    web_by (bytes_eq w.0.global g) w.0.reg (register_of rest g) registers bank (same w.0.reg (first_there w.0.reg names))
    (webs_same rest g registers bank (λ r c. same r (later_there w.0.reg r names c)))

held_same : (g : List ℕ) (fs : List Active) (registers bank : Registers) → AllWebsAgree fs registers bank
    → held g bank (map placed_frame fs) ≡ held g registers (map bare_frame fs)
held_same g [] registers bank agree = refl
held_same g (f ∷ fs) registers bank agree =
    ap₂ (λ (own rest : Option Value). option_or own rest)
    (sym (webs_same f.function.body.directives.webs g registers bank agree.0))
    (held_same g fs (given_back f.bare registers) (given_back f.placed bank) agree.1)

standings_same : (gs : List (List ℕ)) (n : ℕ) (fs : List Active) (registers bank : Registers) (objects : List Object) → AllWebsAgree fs registers bank
    → standings gs n bank (map placed_frame fs) objects ≡ standings gs n registers (map bare_frame fs) objects
standings_same [] n fs registers bank objects agree = refl
standings_same (g ∷ gs) n fs registers bank objects agree =
    ap₂ (λ (v : Option Value) (rest : List (Standing Byte Value)). standing v (object_at objects n) ∷ rest)
    (held_same g fs registers bank agree) (standings_same gs (suc n) fs registers bank objects agree)

pub globals_same : GlobalsStandAlike
globals_same p q fs registers bank objects same agree =
    ap (λ (flow : Program). standings (map (λ g. g.name) (globals_of flow)) 0 bank (map placed_frame fs) objects) same
    ∙ standings_same (map (λ g. g.name) (globals_of p.flow)) 0 fs registers bank objects agree
