use Rattle.std.proofs.Common.{refl}
use Rattle.pw_front_end.specs.declared.refusal.Refusal.TheVariants.{Lex}
use Rattle.pw_store_modules.specs.Modules.{modules_of}
use Rattle.pw_store_texts.specs.Names.{source_name}
use Rattle.pw_store_texts.specs.Outputs.{files_with}
use Rattle.pw_token.specs.declared.token.LexFault.TheVariants.{Bad}
use Rattle.pw_build_files.specs.FromBuild.Builds.{first_phases}
use Rattle.pw_law_sources.specs.Refused.{IsFaultBy}
use Rattle.pw_law_sources.proofs.FaultLemmas.{fault_told}
use Rattle.pw_law_sources.proofs.FirstLemmas.{build_fault}
use Rattle.pw_law_sources.proofs.refused.sources_with_faults_are_refused.Goals as goal

pub returns-clause-phases : goal.returns-clause-phases
returns-clause-phases c = λ files shown name text output held comes fault is.
    fault_told
    (record {
      keys = c.names.ensures.exact;
      one = λ headers n t a b h k. c.one_output.ensures (files_with headers n t) (source_name n) a b h k;
      inserted = c.other_files.ensures.inserted;
      insertion = c.other_files.ensures.insertion;
      exact = c.modules_are_exact.ensures.exact;
      rising = c.modules_are_exact.ensures.rising;
    })
    files name text (record { held = held; output = output; comes = comes; fault = fault }) (Lex (Bad 0)) (c.a_text_for_a_fault_is_refused.ensures name) shown is

pub returns-clause-build : goal.returns-clause-build
returns-clause-build c = λ files shown name text output opts comes held by fault is built.
    build_fault shown opts (IsFaultBy (modules_of shown) name) (first_phases (modules_of shown)) refl
    (fault_told
    (record {
      keys = c.names.ensures.exact;
      one = λ headers n t a b h k. c.one_output.ensures (files_with headers n t) (source_name n) a b h k;
      inserted = c.other_files.ensures.inserted;
      insertion = c.other_files.ensures.insertion;
      exact = c.modules_are_exact.ensures.exact;
      rising = c.modules_are_exact.ensures.rising;
    })
    files name text (record { held = held; output = output; comes = by; fault = fault }) (Lex (Bad 0)) (c.a_text_for_a_fault_is_refused.ensures name) shown is)
    comes built
