use Rattle.std.proofs.Common.{◌≡◌, ◌≤◌, ℕ, List, length, ap, ◌∙◌, arith}
use Rattle.std.specs.Prelude.{Option, map}
use Rattle.pw_db.specs.Limits.{first_register, register_count}
use Rattle.pw_webflow.specs.WebOutline.{web_outline}
use Rattle.pw_alloc.proofs.FrameLaws.{few_arguments, frame_fits, frame_reach}
use Rattle.pw_alloc_temps.specs.Temporaries.{cluster_of, registers_in, saved_in}
use Rattle.pw_allocate.specs.Saving.{saved_from}
use Rattle.pw_allocate.proofs.Fitting.{few_saved, few_words, built}
use Rattle.pw_allocate.proofs.allocating.locate.Goals as goal

pub head_size-head-requires : goal.head_size-head-requires
head_size-head-requires c = few_arguments c.args.f c.requires

pub overflow_cast-kept : goal.overflow_cast-kept
overflow_cast-kept c =
    let regs : c.deref.result.now ≡ registers_in c.args.f = c.deref.ensures.value ∙ c.in_ok-registers.ensures in
    let is : c.in_ok-saved.saved ≡ saved_in c.args.f (registers_in c.args.f) = c.in_ok-saved.ensures ∙ ap (λ (rs : List (Option ℕ)). saved_from c.args.f.directives rs first_register register_count) regs in
    let few = few_saved c.args.f c.in_ok-saved.saved (c.allocation_is_lawful.ensures c.args.f c.requires) is in
    omega (arith, few, c.len-kept.ensures)

pub places-requires : goal.places-requires
places-requires c =
    let regs : c.deref.result.now ≡ registers_in c.args.f = c.deref.ensures.value ∙ c.in_ok-registers.ensures in
    let is : c.in_ok-saved.saved ≡ saved_in c.args.f (registers_in c.args.f) = c.in_ok-saved.ensures ∙ ap (λ (rs : List (Option ℕ)). saved_from c.args.f.directives rs first_register register_count) regs in
    let few = few_saved c.args.f c.in_ok-saved.saved (c.allocation_is_lawful.ensures c.args.f c.requires) is in
    let fits = frame_fits c.args.f (length c.in_ok-saved.saved) c.args.f.temps c.requires few (omega arith) in
    let each : length c.deref-2.result.now ≡ c.args.f.temps =
    ap length (c.deref-2.ensures.value ∙ c.in_ok-registers.ensures) ∙ c.registers_keep_apart.ensures.count (web_outline c.args.f) (map (λ w. w.0.reg) c.args.f.directives.webs) (cluster_of c.args.f.directives) in
    omega (arith, fits.words, each, c.len-kept.ensures, c.head_size-head.ensures.value)

pub slots_begin-begin-requires : goal.slots_begin-begin-requires
slots_begin-begin-requires c =
    let regs : c.deref.result.now ≡ registers_in c.args.f = c.deref.ensures.value ∙ c.in_ok-registers.ensures in
    let is : c.in_ok-saved.saved ≡ saved_in c.args.f (registers_in c.args.f) = c.in_ok-saved.ensures ∙ ap (λ (rs : List (Option ℕ)). saved_from c.args.f.directives rs first_register register_count) regs in
    let few = few_saved c.args.f c.in_ok-saved.saved (c.allocation_is_lawful.ensures c.args.f c.requires) is in
    let fits = frame_fits c.args.f (length c.in_ok-saved.saved) c.args.f.temps c.requires few (omega arith) in
    let each : length c.deref-2.result.now ≡ c.args.f.temps =
    ap length (c.deref-2.ensures.value ∙ c.in_ok-registers.ensures) ∙ c.registers_keep_apart.ensures.count (web_outline c.args.f) (map (λ w. w.0.reg) c.args.f.directives.webs) (cluster_of c.args.f.directives) in
    let words = few_words c.head_size-head.result c.len-kept.result c.in_ok-places.count c.deref-2.result.now c.in_ok-places.ensures.count in
    omega (arith, fits.words, each, words, c.len-kept.ensures, c.head_size-head.ensures.value)

pub last_reach-frame-requires : goal.last_reach-frame-requires
last_reach-frame-requires c =
    let regs : c.deref.result.now ≡ registers_in c.args.f = c.deref.ensures.value ∙ c.in_ok-registers.ensures in
    let is : c.in_ok-saved.saved ≡ saved_in c.args.f (registers_in c.args.f) = c.in_ok-saved.ensures ∙ ap (λ (rs : List (Option ℕ)). saved_from c.args.f.directives rs first_register register_count) regs in
    let few = few_saved c.args.f c.in_ok-saved.saved (c.allocation_is_lawful.ensures c.args.f c.requires) is in
    let kept : c.len-kept.result ≤ register_count = omega (arith, few, c.len-kept.ensures) in
    let each : length c.deref-2.result.now ≡ c.args.f.temps =
    ap length (c.deref-2.ensures.value ∙ c.in_ok-registers.ensures) ∙ c.registers_keep_apart.ensures.count (web_outline c.args.f) (map (λ w. w.0.reg) c.args.f.directives.webs) (cluster_of c.args.f.directives) in
    let words = few_words c.head_size-head.result c.len-kept.result c.in_ok-places.count c.deref-2.result.now c.in_ok-places.ensures.count in
    let below : c.in_ok-places.count ≤ c.args.f.temps = omega (arith, words, each) in
    frame_reach c.args.f c.slots_begin-begin.result c.head_size-head.result c.len-kept.result c.in_ok-places.count c.as_slice.result.now
    c.requires c.slots_begin-begin.ensures c.head_size-head.ensures.value kept below c.as_slice.ensures

pub returns : goal.returns
returns c =
    let regs : c.deref.result.now ≡ registers_in c.args.f = c.deref.ensures.value ∙ c.in_ok-registers.ensures in
    let is : c.in_ok-saved.saved ≡ saved_in c.args.f (registers_in c.args.f) = c.in_ok-saved.ensures ∙ ap (λ (rs : List (Option ℕ)). saved_from c.args.f.directives rs first_register register_count) regs in
    built c.args.f c.deref-2.result.now c.in_ok-saved.saved c.as_slice.result.now c.in_ok-places.places c.head_size-head.result c.len-kept.result c.in_ok-places.count c.slots_begin-begin.result c.last_reach-frame.result
    (c.deref-2.ensures.value ∙ c.in_ok-registers.ensures) is c.as_slice.ensures c.head_size-head.ensures.value c.len-kept.ensures
    c.in_ok-places.ensures.value c.in_ok-places.ensures.count c.slots_begin-begin.ensures c.last_reach-frame.ensures
