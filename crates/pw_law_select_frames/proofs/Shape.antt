-- The rows of a function's end, with its webs first.
use Rattle.std.proofs.Common.{◌≡◌, ◌+◌, refl, ap, ◌∙◌, List, [], ◌∷◌, ◌++◌, append_assoc}
use Rattle.pw_inst.specs.Registers.{return_address}
use Rattle.pw_inst.specs.declared.line.Line.{Line}
use Rattle.pw_inst.specs.declared.line.Line.TheVariants.{Leave}
use Rattle.pw_alloc.specs.declared.located.Located.{Located}
use Rattle.pw_alloc.specs.Frames.{head_size, link_place, below}
use Rattle.pw_select_lines.specs.Registers.{load_from, store_to}
use Rattle.pw_select.specs.Selection.{entry_lines, saved_lines, webs_loaded, webs_stored, parameters_in, frame_left, prologue, epilogue}
use Rattle.pw_law_select_frames.specs.Leaving.{leaving}

pub prologue_shaped : (f : Located)
    → prologue f ≡ (entry_lines f.frame ++ saved_lines store_to (head_size f.body) 0 f.saved) ++ webs_loaded f.body.directives.webs ++ parameters_in f.frame f.places 0 f.body.params
prologue_shaped f = refl

pub epilogue_shaped : (f : Located) → epilogue f ≡ webs_stored f.body.directives.webs ++ (leaving f ++ Leave ∷ [])
epilogue_shaped f =
    let webs = webs_stored f.body.directives.webs in
    let saves = saved_lines load_from (head_size f.body) 0 f.saved in
    let link = load_from (below (f.frame + link_place)) return_address in
    let left = frame_left f.frame in
    let one : ((webs ++ saves) ++ link) ++ left ≡ webs ++ ((saves ++ link) ++ left) =
    ap (λ (ls : List Line). ls ++ left) (append_assoc webs saves link) ∙ append_assoc webs (saves ++ link) left in
    ap (λ (ls : List Line). ls ++ Leave ∷ []) one ∙ append_assoc webs ((saves ++ link) ++ left) (Leave ∷ [])
