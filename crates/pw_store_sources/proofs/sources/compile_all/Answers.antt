use Rattle.std.proofs.Common.{ℕ, ◌+◌, List, [], ◌∷◌, ◌++◌, drop, map, ap, arith, refl, subst, sym, ◌∙◌}
use Rattle.std.specs.Global.{Vec}
use Rattle.std.proofs.lemmas.List.{map-append}
use Rattle.pw_cpp_sources.specs.Sources.{texts_of}
use Rattle.pw_store_modules.proofs.ModuleLemmas.{mapped_rest}
use Rattle.pw_store_sources.specs.Outputs.{ComesBy, output_of}
use Rattle.pw_store_sources.specs.Sources.{AllCome, outcome}
use Rattle.pw_store_sources.specs.Views.{named_text}
use Rattle.pw_store_sources.specs.declared.compiled.Compiled.{Compiled}
use Rattle.pw_store_sources.proofs.ComeLemmas.{come-all, come-more, none-left}
use Rattle.pw_store_sources.proofs.sources.compile_all.Goals as goal

pub loop-source-init : goal.loop-source-init
loop-source-init c = record {
  comes = λ outputs h. subst (λ (all : List Compiled). AllCome (texts_of c.args.headers.now.items) (map named_text c.args.sources.now) (map outcome all ++ outputs)) (sym c.new-all.ensures.items) h;
  same = refl;
}

pub loop-source-preserved : goal.loop-source-preserved
loop-source-preserved c =
    let next = mapped_rest named_text c.args.sources.now c.loop-source.source-index c.source-item.result (omega arith) c.source-item.is in
    let made = c.in_ok-compile_source.field-0 in
    record {
      comes = come-more (texts_of c.args.headers.now.items) (map named_text c.args.sources.now) (drop c.loop-source.source-index (map named_text c.args.sources.now)) (drop (c.loop-source.source-index + 1) (map named_text c.args.sources.now)) (map outcome c.loop-source.all.items) (map outcome c.push.new.self.items)
          c.source-item.result.name c.source-item.result.text.items (output_of made.output) next
          (subst (λ (hs : List (List ℕ × Vec ℕ)). ComesBy (texts_of hs) c.source-item.result.name c.source-item.result.text.items (output_of made.output)) c.loop-source.invariant.same c.in_ok-compile_source.ensures.comes)
          (ap (map outcome) c.in_ok-push.ensures.items ∙ map-append outcome c.loop-source.all.items (made ∷ []) ∙ ap (λ n. map outcome c.loop-source.all.items ++ (n, output_of made.output) ∷ []) c.in_ok-compile_source.ensures.name)
          c.loop-source.invariant.comes;
      same = c.in_ok-compile_source.ensures.same ∙ c.loop-source.invariant.same;
    }

pub returns : goal.returns
returns c =
    come-all (texts_of c.args.headers.now.items) (map named_text c.args.sources.now) (drop c.loop-source.source-index (map named_text c.args.sources.now)) (map outcome c.loop-source.all.items)
    (none-left named_text c.args.sources.now c.loop-source.source-index c.loop-source-test.false) c.loop-source.invariant.comes
